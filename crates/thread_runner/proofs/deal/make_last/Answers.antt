use Rattle.std.proofs.Common.{◌≡◌, ◌+◌, sym, ◌∙◌, subst, arith, rules}
use Rattle.run_record.specs.Objects.{starts_number, object_count}
use Rattle.thread_runner.specs.Dealing.{AreMade}
use Rattle.thread_runner.proofs.Made.{at_starts, next_made, made_as}
use Rattle.thread_runner.proofs.deal.make_last.Goals as goal

pub returns-then-not-has_dormant-clause-made : goal.returns-then-not-has_dormant-clause-made
returns-then-not-has_dormant-clause-made g c =
    let plan = c.args.workload.now in
    let none = c.parts_have_numbers_of_their_own.ensures.no_starts plan (sym c.has_dormant.ensures ∙ c.if-not-has_dormant.true) in
    subst (λ n. AreMade g.N.Note.at c.args.crew.now.home.now c.args.crew.now.workers plan n c.args.objects.now.items c.args.columns.now.items) (sym none) c.requires.made

pub returns-clause-made : goal.returns-clause-made
returns-clause-made g c =
    let at = g.N.Note.at in
    let home = c.args.crew.now.home.now in
    let workers = c.args.crew.now.workers in
    let plan = c.args.workload.now in
    let count = starts_number plan in
    let one = c.parts_have_numbers_of_their_own.ensures.starts plan (sym c.has_dormant.ensures ∙ c.if-not-has_dormant.false) in
    let numbered = at_starts at home workers plan (c.parts_have_numbers_of_their_own.ensures.within plan) c.in_ok-object.object c.in_ok-object.ensures.starts in
    let more = next_made at home workers plan count c.args.objects.now.items c.args.columns.now.items c.in_ok-object.object c.in_ok-object.passes (omega arith) c.requires.made numbered c.in_ok-object.ensures.column c.in_ok-object.ensures.untouched in
    made_as at home workers plan _ _ _ _ _ _ (sym one) c.in_ok-push.ensures.items c.in_ok-push-2.ensures.items more
