-- The line on the error output, by which the endings are told apart.
use Rattle.std.proofs.Common.{◌≡◌, ◌∙◌, ℕ, Bool, true, false, eqb, List, [], ◌∷◌, ◌++◌, length, refl, sym, ap}
use Rattle.std.specs.Prelude.{codes}
use Rattle.std.proofs.lemmas.Bool.{eq-eqb}
use Rattle.std.proofs.lemmas.List.{append_cancel_right}
use Rattle.script_calls.specs.Outcome.{left_by}
use Rattle.script_calls.specs.declared.outcome.Outcome.{Outcome}
use Rattle.script_calls.specs.declared.outcome.Outcome.TheVariants as outcomes
use Rattle.script_calls.specs.declared.outcome.Report.{Report}
use Rattle.sync_types.specs.Misuse.{text_of}
use Rattle.sync_types.specs.declared.misuse.Misuse.{Misuse}
use Rattle.sync_types.specs.declared.misuse.Misuse.TheVariants.{UnlockOfUnlockedMutex, RUnlockOfUnlockedRwMutex, UnlockOfUnlockedRwMutex, NegativeWaitGroupCounter, WaitGroupReused, SemaphoreOverReleased}
use Rattle.workload.specs.Plan.{Plan}
use Rattle.run_report.specs.Told.{ReportTellsWhatIsLeft}
use Rattle.gosync_call.specs.Messages.{ending_line, ending_of}
use Rattle.gosync_call.specs.Told.{MessageTellsTheEnding}
use Rattle.gosync_call.specs.declared.status.Ending.TheVariants as endings

not_empty : (a : List ℕ) (x : ℕ) (t : List ℕ) → a ++ x ∷ t ≡ [] → ⊥
not_empty [] x t e = cc
not_empty (c ∷ a) x t e = cc

-- texts of two lengths differ
by_length : (a b : List ℕ) → eqb (length a) (length b) ≡ false → a ≡ b → ⊥
by_length a b differ e = at (eqb (length a) (length b)) (eq-eqb (length a) (length b) (ap length e)) differ
  where
    at : (t : Bool) → t ≡ true → t ≡ false → ⊥
    at true e f = absurd cc
    at false e f = absurd cc

-- each misuse has a text of its own
misuse_apart : (a b : Misuse) → text_of a ≡ text_of b → a ≡ b
misuse_apart UnlockOfUnlockedMutex UnlockOfUnlockedMutex e = refl
misuse_apart UnlockOfUnlockedMutex RUnlockOfUnlockedRwMutex e = absurd (by_length (text_of UnlockOfUnlockedMutex) (text_of RUnlockOfUnlockedRwMutex) refl e)
misuse_apart UnlockOfUnlockedMutex UnlockOfUnlockedRwMutex e = absurd (by_length (text_of UnlockOfUnlockedMutex) (text_of UnlockOfUnlockedRwMutex) refl e)
misuse_apart UnlockOfUnlockedMutex NegativeWaitGroupCounter e = absurd (by_length (text_of UnlockOfUnlockedMutex) (text_of NegativeWaitGroupCounter) refl e)
misuse_apart UnlockOfUnlockedMutex WaitGroupReused e = absurd (by_length (text_of UnlockOfUnlockedMutex) (text_of WaitGroupReused) refl e)
misuse_apart UnlockOfUnlockedMutex SemaphoreOverReleased e = absurd (by_length (text_of UnlockOfUnlockedMutex) (text_of SemaphoreOverReleased) refl e)
misuse_apart RUnlockOfUnlockedRwMutex UnlockOfUnlockedMutex e = absurd (by_length (text_of RUnlockOfUnlockedRwMutex) (text_of UnlockOfUnlockedMutex) refl e)
misuse_apart RUnlockOfUnlockedRwMutex RUnlockOfUnlockedRwMutex e = refl
misuse_apart RUnlockOfUnlockedRwMutex UnlockOfUnlockedRwMutex e = absurd (by_length (text_of RUnlockOfUnlockedRwMutex) (text_of UnlockOfUnlockedRwMutex) refl e)
misuse_apart RUnlockOfUnlockedRwMutex NegativeWaitGroupCounter e = absurd (by_length (text_of RUnlockOfUnlockedRwMutex) (text_of NegativeWaitGroupCounter) refl e)
misuse_apart RUnlockOfUnlockedRwMutex WaitGroupReused e = absurd (by_length (text_of RUnlockOfUnlockedRwMutex) (text_of WaitGroupReused) refl e)
misuse_apart RUnlockOfUnlockedRwMutex SemaphoreOverReleased e = absurd (by_length (text_of RUnlockOfUnlockedRwMutex) (text_of SemaphoreOverReleased) refl e)
misuse_apart UnlockOfUnlockedRwMutex UnlockOfUnlockedMutex e = absurd (by_length (text_of UnlockOfUnlockedRwMutex) (text_of UnlockOfUnlockedMutex) refl e)
misuse_apart UnlockOfUnlockedRwMutex RUnlockOfUnlockedRwMutex e = absurd (by_length (text_of UnlockOfUnlockedRwMutex) (text_of RUnlockOfUnlockedRwMutex) refl e)
misuse_apart UnlockOfUnlockedRwMutex UnlockOfUnlockedRwMutex e = refl
misuse_apart UnlockOfUnlockedRwMutex NegativeWaitGroupCounter e = absurd (by_length (text_of UnlockOfUnlockedRwMutex) (text_of NegativeWaitGroupCounter) refl e)
misuse_apart UnlockOfUnlockedRwMutex WaitGroupReused e = absurd (by_length (text_of UnlockOfUnlockedRwMutex) (text_of WaitGroupReused) refl e)
misuse_apart UnlockOfUnlockedRwMutex SemaphoreOverReleased e = absurd (by_length (text_of UnlockOfUnlockedRwMutex) (text_of SemaphoreOverReleased) refl e)
misuse_apart NegativeWaitGroupCounter UnlockOfUnlockedMutex e = absurd (by_length (text_of NegativeWaitGroupCounter) (text_of UnlockOfUnlockedMutex) refl e)
misuse_apart NegativeWaitGroupCounter RUnlockOfUnlockedRwMutex e = absurd (by_length (text_of NegativeWaitGroupCounter) (text_of RUnlockOfUnlockedRwMutex) refl e)
misuse_apart NegativeWaitGroupCounter UnlockOfUnlockedRwMutex e = absurd (by_length (text_of NegativeWaitGroupCounter) (text_of UnlockOfUnlockedRwMutex) refl e)
misuse_apart NegativeWaitGroupCounter NegativeWaitGroupCounter e = refl
misuse_apart NegativeWaitGroupCounter WaitGroupReused e = absurd (by_length (text_of NegativeWaitGroupCounter) (text_of WaitGroupReused) refl e)
misuse_apart NegativeWaitGroupCounter SemaphoreOverReleased e = absurd (by_length (text_of NegativeWaitGroupCounter) (text_of SemaphoreOverReleased) refl e)
misuse_apart WaitGroupReused UnlockOfUnlockedMutex e = absurd (by_length (text_of WaitGroupReused) (text_of UnlockOfUnlockedMutex) refl e)
misuse_apart WaitGroupReused RUnlockOfUnlockedRwMutex e = absurd (by_length (text_of WaitGroupReused) (text_of RUnlockOfUnlockedRwMutex) refl e)
misuse_apart WaitGroupReused UnlockOfUnlockedRwMutex e = absurd (by_length (text_of WaitGroupReused) (text_of UnlockOfUnlockedRwMutex) refl e)
misuse_apart WaitGroupReused NegativeWaitGroupCounter e = absurd (by_length (text_of WaitGroupReused) (text_of NegativeWaitGroupCounter) refl e)
misuse_apart WaitGroupReused WaitGroupReused e = refl
misuse_apart WaitGroupReused SemaphoreOverReleased e = absurd (by_length (text_of WaitGroupReused) (text_of SemaphoreOverReleased) refl e)
misuse_apart SemaphoreOverReleased UnlockOfUnlockedMutex e = absurd (by_length (text_of SemaphoreOverReleased) (text_of UnlockOfUnlockedMutex) refl e)
misuse_apart SemaphoreOverReleased RUnlockOfUnlockedRwMutex e = absurd (by_length (text_of SemaphoreOverReleased) (text_of RUnlockOfUnlockedRwMutex) refl e)
misuse_apart SemaphoreOverReleased UnlockOfUnlockedRwMutex e = absurd (by_length (text_of SemaphoreOverReleased) (text_of UnlockOfUnlockedRwMutex) refl e)
misuse_apart SemaphoreOverReleased NegativeWaitGroupCounter e = absurd (by_length (text_of SemaphoreOverReleased) (text_of NegativeWaitGroupCounter) refl e)
misuse_apart SemaphoreOverReleased WaitGroupReused e = absurd (by_length (text_of SemaphoreOverReleased) (text_of WaitGroupReused) refl e)
misuse_apart SemaphoreOverReleased SemaphoreOverReleased e = refl

no_deadlock : (misuse : Misuse) → ending_line (endings.Misused misuse) ≡ ending_line endings.Deadlocked → ⊥
no_deadlock UnlockOfUnlockedMutex e = by_length (ending_line (endings.Misused UnlockOfUnlockedMutex)) (ending_line endings.Deadlocked) refl e
no_deadlock RUnlockOfUnlockedRwMutex e = by_length (ending_line (endings.Misused RUnlockOfUnlockedRwMutex)) (ending_line endings.Deadlocked) refl e
no_deadlock UnlockOfUnlockedRwMutex e = by_length (ending_line (endings.Misused UnlockOfUnlockedRwMutex)) (ending_line endings.Deadlocked) refl e
no_deadlock NegativeWaitGroupCounter e = by_length (ending_line (endings.Misused NegativeWaitGroupCounter)) (ending_line endings.Deadlocked) refl e
no_deadlock WaitGroupReused e = by_length (ending_line (endings.Misused WaitGroupReused)) (ending_line endings.Deadlocked) refl e
no_deadlock SemaphoreOverReleased e = by_length (ending_line (endings.Misused SemaphoreOverReleased)) (ending_line endings.Deadlocked) refl e

-- and the three endings are told apart
outcome_apart : (one other : Outcome) → left_by one ≡ left_by other → ending_line (ending_of one) ≡ ending_line (ending_of other) → one ≡ other
outcome_apart (outcomes.Done a) (outcomes.Done b) e f = ap (λ (l : Report). outcomes.Done l) e
outcome_apart (outcomes.Done a) (outcomes.Misused b misuse) e f = absurd (not_empty (text_of misuse) 10 [] (sym f))
outcome_apart (outcomes.Done a) (outcomes.Deadlocked b) e f = absurd cc
outcome_apart (outcomes.Misused a misuse) (outcomes.Done b) e f = absurd (not_empty (text_of misuse) 10 [] f)
outcome_apart (outcomes.Misused a misuse) (outcomes.Misused b other) e f =
    let same : misuse ≡ other = misuse_apart misuse other (append_cancel_right (text_of misuse) (text_of other) (codes "\n") f) in
    ap (λ (l : Report). outcomes.Misused l misuse) e ∙ ap (λ (m : Misuse). outcomes.Misused b m) same
outcome_apart (outcomes.Misused a misuse) (outcomes.Deadlocked b) e f = absurd (no_deadlock misuse f)
outcome_apart (outcomes.Deadlocked a) (outcomes.Done b) e f = absurd cc
outcome_apart (outcomes.Deadlocked a) (outcomes.Misused b misuse) e f = absurd (no_deadlock misuse (sym f))
outcome_apart (outcomes.Deadlocked a) (outcomes.Deadlocked b) e f = ap (λ (l : Report). outcomes.Deadlocked l) e

pub message_tells : (plan : Plan) → ReportTellsWhatIsLeft plan → MessageTellsTheEnding plan
message_tells plan tells one other is also e f = outcome_apart one other (tells one other is also e) f
