use Rattle.std.proofs.Common.{length, refl, arith}
use Rattle.std.proofs.lemmas.Bool.{false≢true}
use Rattle.std.proofs.lemmas.Option.{slice_get_read}
use Rattle.shared_checks.proofs.Begun.{has_one, none_before, no_begin}
use Rattle.shared_checks.proofs.begins.has_begun.Goals as goal

pub returns-then-begin-index : goal.returns-then-begin-index
returns-then-begin-index c = (λ no_. absurd (false≢true no_), λ has. absurd (none_before c.args.items.now c.args.index c.args.item.now c.in-Next.begin c.in-Next.is c.if-begin-index.true has))

pub returns-in-Begin : goal.returns-in-Begin
returns-in-Begin c =
    let at = slice_get_read c.args.items.now (length c.args.items.now) c.in-Next.begin c.index-items-begin.result refl (omega (arith, c.requires, c.if-begin-index.false)) c.index-items-begin.is in
    (λ yes_. has_one c.args.items.now c.args.index c.args.item.now c.in-Next.begin c.in-Next.is c.index-items-begin.result at c.if-begin-index.false c.in-Begin.map c.in-Begin.is, λ has. refl)

pub returns-in_default-matches : goal.returns-in_default-matches
returns-in_default-matches c =
    let at = slice_get_read c.args.items.now (length c.args.items.now) c.in-Next.begin c.index-items-begin.result refl (omega (arith, c.requires, c.if-begin-index.false)) c.index-items-begin.is in
    (λ no_. absurd (false≢true no_), λ has. absurd (no_begin c.args.items.now c.args.index c.args.item.now c.in-Next.begin c.in-Next.is c.index-items-begin.result at c.in_default-matches.not-Begin has))
