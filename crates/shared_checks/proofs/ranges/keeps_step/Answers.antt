use Rattle.std.proofs.Common.{length, refl, arith}
use Rattle.std.proofs.lemmas.Option.{slice_get_read}
use Rattle.shared_checks.specs.Calls.{calls_in}
use Rattle.shared_checks.specs.Placing.{contents_of}
use Rattle.shared_checks.proofs.ShowingLemmas.{bound_small, front_made, map_there, place_within, order_there, begun_there, keeps, kept}
use Rattle.shared_checks.proofs.ranges.keeps_step.Goals as goal

pub known_of-from-requires-clause-made : goal.known_of-from-requires-clause-made
known_of-from-requires-clause-made c =
    let at_b = slice_get_read c.args.items.now (length c.args.items.now) c.in-Next.begin c.index-items-begin.result refl c.if-begin-items.false c.index-items-begin.is in
    front_made (contents_of c.args.objects.now) c.args.history.now c.args.lists.now c.args.items.now c.args.caller c.requires.same c.requires.fronts c.in-Next.begin c.index-items-begin.result at_b

pub known_of-from-requires-clause-small : goal.known_of-from-requires-clause-small
known_of-from-requires-clause-small c = λ d j x at. let most = bound_small (contents_of c.args.objects.now) c.args.history.now (calls_in c.args.lists.now) c.requires.law d j x at in omega (arith, most)

pub may_show-requires-clause-there : goal.may_show-requires-clause-there
may_show-requires-clause-there c =
    let at_b = slice_get_read c.args.items.now (length c.args.items.now) c.in-Next.begin c.index-items-begin.result refl c.if-begin-items.false c.index-items-begin.is in
    map_there (contents_of c.args.objects.now) c.args.history.now c.args.lists.now c.args.items.now c.args.caller c.requires.same c.requires.on c.in-Next.begin c.in-Begin.map c.index-items-begin.result at_b c.in-Begin.is

pub may_show-requires-clause-reach : goal.may_show-requires-clause-reach
may_show-requires-clause-reach c =
    let at = slice_get_read c.args.items.now (length c.args.items.now) c.args.index c.index-items-index.result refl c.requires.inside c.index-items-index.is in
    place_within (contents_of c.args.objects.now) c.args.history.now c.args.lists.now c.args.items.now c.args.caller c.requires.same c.requires.law c.args.index c.index-items-index.result at

pub may_show-requires-clause-order : goal.may_show-requires-clause-order
may_show-requires-clause-order c =
    let at = slice_get_read c.args.items.now (length c.args.items.now) c.args.index c.index-items-index.result refl c.requires.inside c.index-items-index.is in
    let at_b = slice_get_read c.args.items.now (length c.args.items.now) c.in-Next.begin c.index-items-begin.result refl c.if-begin-items.false c.index-items-begin.is in
    let order = order_there (contents_of c.args.objects.now) c.args.history.now c.args.lists.now c.args.items.now c.args.caller c.requires.same c.requires.fronts c.requires.begins
    c.in-Next.begin c.args.index c.index-items-index.result c.index-items-begin.result at_b at c.in-Next.is in
    omega (arith, order, c.known_of-from.ensures)

pub may_show-requires-clause-begun : goal.may_show-requires-clause-begun
may_show-requires-clause-begun c = begun_there (contents_of c.args.objects.now) c.args.history.now c.args.lists.now c.args.items.now c.args.caller c.requires.same c.requires.begins c.in-Next.begin

pub returns : goal.returns
returns c =
    let at = slice_get_read c.args.items.now (length c.args.items.now) c.args.index c.index-items-index.result refl c.requires.inside c.index-items-index.is in
    let at_b = slice_get_read c.args.items.now (length c.args.items.now) c.in-Next.begin c.index-items-begin.result refl c.if-begin-items.false c.index-items-begin.is in (
      λ yes_. keeps (contents_of c.args.objects.now) c.args.history.now c.args.lists.now c.args.items.now c.in-Next.begin c.in-Begin.map c.args.index c.index-items-index.result c.index-items-begin.result c.in-Shown.shown
          at at_b c.in-Next.is c.in-Shown.is c.in-Begin.is c.known_of-from.result c.known_of-from.ensures (c.may_show.ensures.0 yes_),
      λ all. c.may_show.ensures.1 (kept (contents_of c.args.objects.now) c.args.history.now c.args.lists.now c.args.items.now c.in-Next.begin c.in-Begin.map c.args.index c.index-items-index.result c.index-items-begin.result c.in-Shown.shown
          at at_b c.in-Next.is c.in-Shown.is c.in-Begin.is c.known_of-from.result c.known_of-from.ensures all),
    )
