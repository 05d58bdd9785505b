-- What a turn at an object of a kind comes to whose calls are each on one object, by the laws of its turns.
use Rattle.std.proofs.Common.{◌≡◌, ℕ, ◌<◌, false, Option, Some, None, List, [], ◌∷◌, ◌++◌, refl, sym, ap, subst, arith}
use Rattle.std.specs.Prelude.{Result, if◌then◌else◌, is_some}
use Rattle.script_calls.specs.declared.call.Reply.{Reply}
use Rattle.protocols.specs.Spelling.{CallAnswer}
use Rattle.protocols.specs.declared.step.Step.{Step}
use Rattle.protocols.specs.declared.step.Step.TheVariants.{Finished, Misused, Waits, Next, Never}
use Rattle.run_record.specs.Parts.{Part, read_as, stages}
use Rattle.run_record.specs.Record.{object_number}
use Rattle.run_record.specs.declared.entered.ObjectEvent.{ObjectEvent}
use Rattle.run_record.specs.declared.entered.ObjectReply.{ObjectReply}
use Rattle.run_record.specs.declared.made.Made.{Made}
use Rattle.workload.specs.Plan.{Plan}
use Rattle.step_runner.specs.declared.turns.answer.Answer.{Answer}
use Rattle.step_runner.specs.declared.turns.answer.Answer.TheVariants as answers
use Rattle.step_runner.specs.Items.{stage_items}
use Rattle.step_runner.specs.ObjectLeft.{UsesBy}
use Rattle.step_runner.specs.Recorded.{recorded_reply, recorded, recorded_event, made_on}
use Rattle.step_runner.specs.Stages.{outcome_of, make, answer_by}
use Rattle.step_runner.specs.Tells.{Tells}
use Rattle.step_runner.specs.TurnKinds.{Uses, Leaves, TurnsStand}
use Rattle.step_runner.specs.TurnsLeft.{TakesBy}
use Rattle.step_runner.proofs.Spelled.{event_made, Continues, stage_tells}

-- where the worker stands behind its turn: within the call, or nowhere
abbrev pub Behind : Type 0 → Type 0 → Answer → Type 0
Behind Within Nowhere answers.Still = Within
Behind Within Nowhere answers.Unfinished = Within
Behind Within Nowhere (answers.Completed reply) = Nowhere
Behind Within Nowhere (answers.Misused misuse) = Unit {0}

module _ {S E R G O C : Type 0} (next : S → ℕ → E → S × R) (event_of : G → ℕ → E) (meaning : G → R → Step G O) (callers_of : S → ℕ)
    (due : C → S → ℕ → Option G) (behind : S → ℕ → Option G) (Fits : C → Option G → Type 0) (left : C → Option G → G) (undone : S → ℕ)
    (law : TurnsStand next event_of meaning callers_of due behind Fits left undone) (f : O → Reply (List ℕ)) (call : C) (x moment : ℕ) (s : S) (below : x < callers_of s) where
  abbrev made : Option G → S × Result O Answer
  made stage = make next event_of meaning x moment stage s

  abbrev read : Result O Answer → Answer
  read result = answer_by (λ outcome. answers.Completed (f outcome)) result

  -- by whether a stage is due
  by_due : (Q : Option G → Type 0) → Q None → ((stage : G) → due call s x ≡ Some stage → Q (Some stage)) → Q (due call s x)
  by_due Q none some = of (due call s x) refl
    where
      of : (o : Option G) → due call s x ≡ o → Q o
      of None is = none
      of (Some stage) is = some stage is

  -- ---- what it leaves to do

  abbrev turns : Option G → ℕ
  turns waits = if is_some waits then 0 else 1

  step_leaves : (undone left_undone : ℕ) (same : Type 0) (old new : Option G) (step : Step G O) → Uses undone left_undone step → Leaves (Fits call) (left call) old new step
      → UsesBy undone left_undone same (read (outcome_of step)) × TakesBy false (turns old) (turns new) (read (outcome_of step))
  step_leaves undone left_undone same old new (Finished outcome) uses leaves = (uses, tt)
  step_leaves undone left_undone same old new (Misused misuse) uses leaves = (tt, tt)
  step_leaves undone left_undone same old new (Waits later) uses leaves = (uses, omega (arith, ap turns leaves.0, ap turns leaves.1.0))
  step_leaves undone left_undone same old new (Next later) uses leaves = (uses, omega (arith, ap turns leaves.0, ap turns leaves.1.0))
  step_leaves undone left_undone same old new Never uses leaves = absurd uses

  -- of all callers, and of the worker's own call
  pub kind_leaves : (Same : S → Type 0) → Same s → let n = made (due call s x) in UsesBy (undone s) (undone n.0) (Same n.0) (read n.1) × TakesBy false (turns (behind s x)) (turns (behind n.0 x)) (read n.1)
  kind_leaves Same same = by_due (λ stage. let n = made stage in UsesBy (undone s) (undone n.0) (Same n.0) (read n.1) × TakesBy false (turns (behind s x)) (turns (behind n.0 x)) (read n.1)) (same, tt)
      (λ stage is. let n = next s x (event_of stage moment) in
      step_leaves (undone s) (undone n.0) (Same n.0) (behind s x) (behind n.0 x) (meaning stage n.1) (law.uses s x moment call stage below is) (law.leaves s x moment call stage below is))

  -- ---- what it spells

  module _ (event : E → ObjectEvent) (answer : R → ObjectReply) (plan : Plan) (place : ℕ) (reply : O → Reply ℕ) (reads : (outcome : O) → recorded_reply plan (f outcome) ≡ reply outcome)
      (one : (e : E) (r : R) → recorded_event plan place x (event e) (answer r) ≡ made_on plan (object_number place) x (event e) (answer r) ∷ []) where
    abbrev left_from : Option G → Part (Reply ℕ)
    left_from waits = read_as reply (stages event answer event_of meaning (object_number place) (left call waits))

    goes_on : (new : Option G) (later : G) → (new ≡ Some later) × (Fits call (Some later) × (left call (Some later) ≡ later))
        → ((rest : List Made) (given : CallAnswer (Reply ℕ)) → left_from new rest given → read_as reply (stages event answer event_of meaning (object_number place) later) rest given) × Fits call new
    goes_on new later (waits, (fits, from)) = (
      λ rest given on. subst (λ (g : G). read_as reply (stages event answer event_of meaning (object_number place) g) rest given) from (subst (λ (waits : Option G). left_from waits rest given) waits on),
      subst (Fits call) (sym waits) fits,
    )

    -- what is left then, and where the worker stands
    goes : (old new : Option G) (step : Step G O) → Fits call old → Leaves (Fits call) (left call) old new step
        → Continues event answer event_of meaning (object_number place) x plan f reply reads (left_from new) step × Behind (Fits call new) (new ≡ None) (read (outcome_of step))
    goes old new (Finished outcome) fits leaves = (tt, leaves fits)
    goes old new (Misused misuse) fits leaves = (tt, tt)
    goes old new (Waits later) fits leaves = goes_on new later leaves.1
    goes old new (Next later) fits leaves = goes_on new later leaves.1
    goes old new Never fits leaves = absurd leaves

    pub kind_tells : (before : ℕ) → Fits call (behind s x) → let n = made (due call s x) in
        Tells plan (left_from (behind s x)) (left_from (behind n.0 x)) (recorded plan before (stage_items event answer next event_of x moment place (due call s x) s)) (read n.1)
        × Behind (Fits call (behind n.0 x)) (behind n.0 x ≡ None) (read n.1)
    kind_tells before fits =
        by_due (λ stage. let n = made stage in
        Tells plan (left_from (behind s x)) (left_from (behind n.0 x)) (recorded plan before (stage_items event answer next event_of x moment place stage s)) (read n.1)
        × Behind (Fits call (behind n.0 x)) (behind n.0 x ≡ None) (read n.1))
        (refl, fits)
        (λ stage is.
        let e = event_of stage moment in
        let n = next s x e in
        let new = left_from (behind n.0 x) in
        let said = read (outcome_of (meaning stage n.1)) in
        let on = goes (behind s x) (behind n.0 x) (meaning stage n.1) fits (law.leaves s x moment call stage below is) in
        let told = stage_tells event answer event_of meaning (object_number place) x plan f reply reads stage moment n.1 new on.0 in (
          subst (λ (l : List Made). Tells plan (left_from (behind s x)) new l said) (sym (ap (λ (l : List Made). l ++ []) (one e n.1)))
              (subst (λ (g : G). Tells plan (read_as reply (stages event answer event_of meaning (object_number place) g)) new (event_made event answer event_of meaning (object_number place) x e n.1 ∷ []) said)
              (sym (law.goes_on s x call stage is)) told),
          on.1,
        ))
