-- What a run of a seed's workload comes to.
use Rattle.std.proofs.Common.{◌≡◌, ◌∙◌, ℕ, List, [], ◌∷◌, ◌++◌, Option, Result, Ok, Err, MatchResult, sym, ap, subst, append_assoc, append-nil, codes}
use Rattle.std.specs.List.{flat_map}
use Rattle.std.specs.Prelude.{count_by, sum_by, length}
use Rattle.made_workload.specs.Runs.{five_lines, is_key, number_in, value_in}
use Rattle.made_workload.specs.TotalsOf.{totals_of}
use Rattle.run_record.specs.Explains.{Explains}
use Rattle.run_record.specs.InOneOrder.{InOneOrder}
use Rattle.run_record.specs.Record.{Record}
use Rattle.script_calls.specs.declared.outcome.Outcome.{Outcome}
use Rattle.script_calls.specs.declared.outcome.Outcome.TheVariants as outcomes
use Rattle.script_calls.specs.declared.outcome.Report.{Report}
use Rattle.sync_outside.specs.Bytes.{Appends, AppendsFront}
use Rattle.sync_outside.specs.Faults.{RoseBy}
use Rattle.workload.specs.Plan.{Plan}
use Rattle.made_workload.specs.Generated.{generated_plan}
use Rattle.made_workload.specs.Summary.{numbered, summary, summary_text}
use Rattle.gosync_call.specs.Made.{IsMade, IsUnmade}
use Rattle.gosync_call.specs.MadeText.{totals_text}
use Rattle.gosync_call.specs.declared.status.Fault.{Fault}
use Rattle.gosync_call.specs.declared.status.Fault.TheVariants as faults

five : (workers calls total keys sum : List ℕ) → flat_map (λ (line : List ℕ). line) (workers ∷ calls ∷ total ∷ keys ∷ sum ∷ []) ≡ workers ++ calls ++ total ++ keys ++ sum
five workers calls total keys sum =
    ap (λ (last : List ℕ). workers ++ (calls ++ (total ++ (keys ++ last)))) (append-nil sum)
    ∙ sym (append_assoc (workers ++ calls ++ total) keys sum ∙ append_assoc (workers ++ calls) total (keys ++ sum) ∙ append_assoc workers calls (total ++ (keys ++ sum)))

-- the totals of what a run left are the five lines that tell of it
totals_are : (left : Report) → totals_text (totals_of left) ≡ five_lines left
totals_are left =
    five (numbered (codes "workers") (length left.replies)) (numbered (codes "calls") (sum_by length left.replies)) (numbered (codes "total") (sum_by number_in left.ends))
    (numbered (codes "keys") (count_by is_key left.ends)) (numbered (codes "sum") (sum_by value_in left.ends))

-- what is told of each run of a seed's workload
abbrev pub Law : Type 0
Law = (seed : ℕ) (outcome : Outcome) (r : Record) → Explains (generated_plan seed) outcome r → (left : Report) × (outcome ≡ outcomes.Done left) × (five_lines left ≡ summary_text (summary seed))

-- so is what it left behind
abbrev pub IsSummed : ℕ → Outcome → Type 0
IsSummed seed outcome = (left : Report) × (outcome ≡ outcomes.Done left) × (five_lines left ≡ summary_text (summary seed))

pub summed : (seed : ℕ) (plan : Plan) (outcome : Outcome) → Law → plan ≡ generated_plan seed → ((r : Record) × Explains plan outcome r × InOneOrder r) → IsSummed seed outcome
summed seed plan outcome law is explained = law seed outcome explained.0 (subst (λ (p : Plan). Explains p outcome explained.0) is explained.1)

same_left : (x y : Report) → outcomes.Done x ≡ outcomes.Done y → y ≡ x
same_left x y is = cc

pub left_summed : (seed : ℕ) (left : Report) → IsSummed seed (outcomes.Done left) → (five_lines left ≡ summary_text (summary seed))
left_summed seed left is = subst (λ (l : Report). five_lines l ≡ summary_text (summary seed)) (same_left left is.0 is.1) is.2

module _ (seed ran ran_now : ℕ) (old new : Option (List ℕ)) (plan : Plan) (left : Report) where
  rose : plan ≡ generated_plan seed → RoseBy plan.workers ran ran_now → RoseBy 8 ran ran_now
  unfolding generated_plan
  rose is by = subst (λ (p : Plan). RoseBy p.workers ran ran_now) is by

  -- what was written is the seed's, whole or a first part
  pub made_so : {T : Type 0} (result : Result T Fault) → plan ≡ generated_plan seed → (five_lines left ≡ summary_text (summary seed)) → RoseBy plan.workers ran ran_now
      → MatchResult result (λ _. Appends old new (totals_text (totals_of left))) (λ fault. (fault ≡ faults.CannotWrite) × AppendsFront old new (totals_text (totals_of left)))
      → MatchResult result (λ _. IsMade seed ran ran_now old new) (IsUnmade seed ran ran_now old new)
  made_so (Ok value) is comes by wrote = (subst (Appends old new) (totals_are left ∙ comes) wrote, rose is by)
  made_so (Err fault) is comes by wrote =
      subst (λ (f : Fault). IsUnmade seed ran ran_now old new f) (sym wrote.0) (subst (AppendsFront old new) (totals_are left ∙ comes) wrote.1, rose is by)
