use Rattle.std.proofs.Common.{◌≡◌, ℤ, sym, to_z, of_z, rules}
use Rattle.std.specs.Int.{w64}
use Rattle.flight_core.specs.declared.calls.FlightStage.TheVariants.{Land}
use Rattle.run_record.specs.FlightKind.{flight_part}
use Rattle.run_record.specs.declared.entered.ObjectEvent.TheVariants as event
use Rattle.run_record.specs.declared.entered.ObjectReply.TheVariants as reply
use Rattle.thread_objects.proofs.Working.{part_as}
use Rattle.thread_objects.proofs.kinds.flight.land.Goals as goal

pub returns-clause-works : goal.returns-clause-works
returns-clause-works g c = λ number.
    let fits : to_z w64 (of_z w64 c.args.value) ≡ c.args.value = search rules in
    part_as (λ (v : ℤ). flight_part number (Land v)) c.args.value _ _ _ _ (sym fits) (c.part_from.ensures.works event.Flight reply.Flight number)
