use Rattle.std.proofs.Common.{◌≡◌, ℕ, List, [], get_or, length, ap, ◌∙◌, subst}
use Rattle.workload.specs.Keys.{keys_in}
use Rattle.thread_runner.specs.Jobs.{HasRoom}
use Rattle.thread_runner.proofs.hire.job_of.Goals as goal

pub returns-clause-room : goal.returns-clause-room
returns-clause-room g c =
    let plan = c.args.site.now.catalog.workload.now in
    let room = c.in_ok-room.room in
    let keys : length c.names-keys.result.now ≡ length (keys_in plan.scripts) = ap (λ (l : List (List ℕ)). length l) (c.names-keys.ensures ∙ c.keys.ensures) in
    subst (λ script. HasRoom (length (keys_in plan.scripts)) script room.replies room.pairs.items) c.script.ensures.script (subst (λ n. HasRoom n c.script.result.now room.replies room.pairs.items) keys c.in_ok-room.ensures)
