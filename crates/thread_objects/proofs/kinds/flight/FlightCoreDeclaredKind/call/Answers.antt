use Rattle.std.proofs.Common.{◌≡◌, ℕ, ℤ, sym, ap, ◌∙◌, to_z, of_z, rules}
use Rattle.std.specs.Int.{w64}
use Rattle.std.proofs.lemmas.Option.{IfSome_then}
use Rattle.script_calls.specs.declared.call.Operation.{Operation}
use Rattle.workload.specs.Keys.{keys_in, operation_number}
use Rattle.run_record.specs.FlightKind.{fly_call}
use Rattle.run_record.specs.Objects.{atomic_number}
use Rattle.run_record.specs.Record.{object_number}
use Rattle.thread_objects.proofs.Working.{part_as}
use Rattle.thread_objects.proofs.kinds.flight.FlightCoreDeclaredKind.call.Goals as goal

pub returns-clause-works : goal.returns-clause-works
returns-clause-works g c =
    let plan = c.args.catalog.now.workload.now in
    let atomic = atomic_number plan.objects c.in-Flight-Fly.atomic in
    let fits : to_z w64 (of_z w64 c.in-Flight-Fly.delta) ≡ c.in-Flight-Fly.delta = search rules in
    let key = sym (c.requires.key ∙ ap (λ (o : Operation). operation_number (keys_in plan.scripts) o) c.in-Flight-Fly.is-1) in
    IfSome_then c.fly_on.result c.fly_on.ensures.works (λ answer works before place.
    let made = part_as (λ (d : ℤ). fly_call (object_number place) atomic d c.args.key) c.in-Flight-Fly.delta _ _ _ answer (sym fits) (works (object_number place)) in
    rw (c.in-Flight-Fly.is-0, c.in-Flight-Fly.is-1) (part_as (λ (k : ℕ). fly_call (object_number place) atomic c.in-Flight-Fly.delta k) _ c.args.key _ _ answer key made))
