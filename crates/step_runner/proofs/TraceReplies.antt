-- The replies of a trace are those of the outcome.
use Rattle.std.proofs.Common.{◌≡◌, ℕ, zero, suc, List, [], ◌∷◌, ◌++◌, map, get_or, refl, sym, ap, ◌∙◌}
use Rattle.script_calls.specs.declared.call.Reply.{Reply}
use Rattle.script_calls.specs.declared.outcome.Ending.{Ending}
use Rattle.script_calls.specs.declared.outcome.Ending.TheVariants as endings
use Rattle.workload.specs.Plan.{Plan}
use Rattle.step_runner.specs.Computed.{outcome_of, whole_run, turns}
use Rattle.step_runner.specs.Ends.{numbered}
use Rattle.step_runner.specs.Outcomes.{rounds}
use Rattle.step_runner.specs.Recorded.{recorded_reply}
use Rattle.step_runner.specs.State.{State, IsStateOf, start}
use Rattle.step_runner.specs.Traces.{trace_of, replies_told, replies_left}
use Rattle.step_runner.proofs.RunLemmas.{GoesOn}
use Rattle.step_runner.proofs.TraceLaws.{told_replies}
use Rattle.step_runner.proofs.TraceLemmas.{run_along}

replies_of : (plan : Plan) (x : State × Ending) → replies_left (outcome_of plan x) ≡ numbered plan x.0.replies
replies_of plan (s, endings.Done) = refl
replies_of plan (s, endings.Misused misuse) = refl
replies_of plan (s, endings.Deadlocked) = refl

numbered_at : (plan : Plan) (replies : List (List (Reply (List ℕ)))) (worker : ℕ) → get_or (numbered plan replies) worker [] ≡ map (recorded_reply plan) (get_or replies worker [])
numbered_at plan [] worker = refl
numbered_at plan (given ∷ replies) zero = refl
numbered_at plan (given ∷ replies) (suc worker) = numbered_at plan replies worker

pub replied_so : (plan : Plan) → GoesOn plan → IsStateOf plan (start plan) → (worker : ℕ) → map (recorded_reply plan) (replies_told worker (trace_of plan)) ≡ get_or (replies_left (turns plan)) worker []
replied_so plan goes_on of worker =
    let along = run_along plan in
    let list = plan.schedule ++ rounds along.0 plan.workers in
    ap (map (recorded_reply plan))
    (ap (replies_told worker) along.1.0 ∙ told_replies plan goes_on list worker of ∙ ap (λ (t : State). get_or t.replies worker []) (sym along.1.1))
    ∙ sym (numbered_at plan (whole_run plan).0.replies worker) ∙ ap (λ replies. get_or replies worker []) (sym (replies_of plan (whole_run plan)))
