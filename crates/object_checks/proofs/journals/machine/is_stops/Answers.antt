use Rattle.std.proofs.Common.{◌≡◌, length, refl, slice_get, Some}
use Rattle.std.proofs.lemmas.Bool.{false≢true}
use Rattle.std.proofs.lemmas.Option.{slice_get_read}
use Rattle.object_checks.proofs.MachineLemmas.{halts_more, halts_all, no_halt}
use Rattle.object_checks.proofs.journals.machine.is_stops.Goals as goal

pub returns-in_default : goal.returns-in_default
returns-in_default c =
    let at : slice_get c.args.journal.now c.loop-row.row-index ≡ Some c.row-item.result = slice_get_read c.args.journal.now (length c.args.journal.now) c.loop-row.row-index c.row-item.result refl c.loop-row-test.true c.row-item.is in
    (λ yes_. absurd (false≢true yes_), λ stops. absurd (no_halt c.args.journal.now c.loop-row.row-index c.row-item.result at c.in_default.not-Halt stops))

pub loop-row-preserved : goal.loop-row-preserved
loop-row-preserved c =
    let at : slice_get c.args.journal.now c.loop-row.row-index ≡ Some c.row-item.result = slice_get_read c.args.journal.now (length c.args.journal.now) c.loop-row.row-index c.row-item.result refl c.loop-row-test.true c.row-item.is in
    halts_more c.args.journal.now c.loop-row.row-index c.row-item.result at c.in-Halt.field-0 c.in-Halt.is c.loop-row.invariant

pub returns : goal.returns
returns c = (λ yes_. halts_all c.args.journal.now c.loop-row.row-index c.loop-row-test.false c.loop-row.invariant, λ stops. refl)
