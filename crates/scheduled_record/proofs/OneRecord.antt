-- A workload has one record by its schedule.
use Rattle.std.proofs.Common.{◌≡◌, ℕ, Option, Some, None, sym, ap, ◌∙◌, arith}
use Rattle.std.proofs.lemmas.Bool.{false≢true}
use Rattle.std.proofs.lemmas.Option.{same_Some}
use Rattle.sync_types.specs.declared.misuse.Misuse.{Misuse}
use Rattle.script_calls.specs.Outcome.{left_by}
use Rattle.script_calls.specs.declared.outcome.Outcome.{Outcome}
use Rattle.script_calls.specs.declared.outcome.Outcome.TheVariants as outcomes
use Rattle.script_calls.specs.declared.outcome.Report.{Report}
use Rattle.workload.specs.Plan.{Plan}
use Rattle.step_runner.specs.Outcomes.{StepsTo}
use Rattle.scheduled_record.specs.declared.recorded_run.Recorded.{Recorded}
use Rattle.scheduled_record.specs.declared.recorded_run.Recorded.TheVariants.{Text, TooLong, Misused, Deadlocked}
use Rattle.scheduled_record.specs.Recorded.{AreSame, IsRecorded, done_report, done_text, is_within}
use Rattle.scheduled_record.specs.ToldItems.{told_items}

-- which of the three ways a run ended, and by which misuse
abbrev way : Outcome → ℕ
way (outcomes.Done left) = 0
way (outcomes.Misused left misuse) = 1
way (outcomes.Deadlocked left) = 2

abbrev misuse_of : Outcome → Option Misuse
misuse_of (outcomes.Done left) = None
misuse_of (outcomes.Misused left misuse) = Some misuse
misuse_of (outcomes.Deadlocked left) = None

module _ (plan : Plan) (same : (outcome other : Outcome) → StepsTo plan outcome → StepsTo plan other → outcome ≡ other) where
  done_same : (left other : Report) → StepsTo plan (outcomes.Done left) → StepsTo plan (outcomes.Done other) → left ≡ other
  done_same left other one two = ap left_by (same (outcomes.Done left) (outcomes.Done other) one two)

  apart : {P : Type 0} (one other : Outcome) → StepsTo plan one → StepsTo plan other → (way one ≡ way other → ⊥) → P
  apart one other is also differ = absurd (differ (ap way (same one other is also)))

  within_both : (left other : Report) → left ≡ other → is_within plan (told_items plan) (done_report plan left) ≡ is_within plan (told_items plan) (done_report plan other)
  within_both left other is = ap (λ (r : Report). is_within plan (told_items plan) (done_report plan r)) is

  pub one_record : (one other : Recorded) → IsRecorded plan one → IsRecorded plan other → AreSame one other
  one_record (Text bytes) (Text more) (left, is, text) (other, also, also_text) = text ∙ ap (done_text plan) (done_same left other is.done also.done) ∙ sym also_text
  one_record (Text bytes) TooLong (left, is, text) (other, also) = absurd (false≢true (sym also.limits ∙ sym (within_both left other (done_same left other is.done also.done)) ∙ is.limits))
  one_record (Text bytes) (Misused misuse) (left, is, text) (other, also) = apart (outcomes.Done left) (outcomes.Misused other misuse) is.done also (λ e. omega (arith, e))
  one_record (Text bytes) Deadlocked (left, is, text) (other, also) = apart (outcomes.Done left) (outcomes.Deadlocked other) is.done also (λ e. omega (arith, e))
  one_record TooLong (Text bytes) (left, is) (other, also, text) = absurd (false≢true (sym is.limits ∙ within_both left other (done_same left other is.done also.done) ∙ also.limits))
  one_record TooLong TooLong one other = tt
  one_record TooLong (Misused misuse) (left, is) (other, also) = apart (outcomes.Done left) (outcomes.Misused other misuse) is.done also (λ e. omega (arith, e))
  one_record TooLong Deadlocked (left, is) (other, also) = apart (outcomes.Done left) (outcomes.Deadlocked other) is.done also (λ e. omega (arith, e))
  one_record (Misused misuse) (Text bytes) (left, is) (other, also, text) = apart (outcomes.Misused left misuse) (outcomes.Done other) is also.done (λ e. omega (arith, e))
  one_record (Misused misuse) TooLong (left, is) (other, also) = apart (outcomes.Misused left misuse) (outcomes.Done other) is also.done (λ e. omega (arith, e))
  one_record (Misused misuse) (Misused more) (left, is) (other, also) = same_Some misuse more (ap misuse_of (same (outcomes.Misused left misuse) (outcomes.Misused other more) is also))
  one_record (Misused misuse) Deadlocked (left, is) (other, also) = apart (outcomes.Misused left misuse) (outcomes.Deadlocked other) is also (λ e. omega (arith, e))
  one_record Deadlocked (Text bytes) (left, is) (other, also, text) = apart (outcomes.Deadlocked left) (outcomes.Done other) is also.done (λ e. omega (arith, e))
  one_record Deadlocked TooLong (left, is) (other, also) = apart (outcomes.Deadlocked left) (outcomes.Done other) is also.done (λ e. omega (arith, e))
  one_record Deadlocked (Misused misuse) (left, is) (other, also) = apart (outcomes.Deadlocked left) (outcomes.Misused other misuse) is also (λ e. omega (arith, e))
  one_record Deadlocked Deadlocked one other = tt
