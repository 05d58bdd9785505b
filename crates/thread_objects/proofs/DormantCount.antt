-- A workload says of each of its workers whether it waits to be started.
use Rattle.std.proofs.Common.{◌≡◌, ◌==◌, true, length, slice_get}
use Rattle.std.specs.List.{list_all}
use Rattle.std.proofs.lemmas.Bool.{and_parts, eqb-true}
use Rattle.workload.specs.Plan.{Plan, is_on, is_turn, is_valid, refers}
use Rattle.thread_objects.proofs.KindsFit.{second}

pub dormant_count : (plan : Plan) → is_valid plan ≡ true → length plan.dormant ≡ plan.workers
dormant_count plan valid =
    let scripts = second (length plan.scripts == plan.workers) _ valid in
    let calls = second (list_all (list_all (λ call. is_on plan.objects (slice_get plan.objects call.object) call)) plan.scripts) _ scripts in
    let turns = second (list_all (is_turn plan.workers) plan.schedule) _ calls in
    let referring = second (list_all (λ object. refers plan.objects object.kind) plan.objects) _ turns in
    eqb-true (length plan.dormant) plan.workers (and_parts (length plan.dormant == plan.workers) _ referring).0
