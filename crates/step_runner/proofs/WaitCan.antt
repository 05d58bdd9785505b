-- Whatever is left of a `waitfor` can be spelt.
use Rattle.std.proofs.Common.{ℕ, zero, suc, Bool, false, List, [], ◌∷◌, ◌++◌, map, refl, sym, append-nil}
use Rattle.std.specs.Prelude.{Ok, Err}
use Rattle.sync_model.specs.declared.answer.Answer.TheVariants.{Done, Halted}
use Rattle.sync_model.specs.declared.item.SharedCall.TheVariants as calls
use Rattle.sync_model.specs.declared.item.SharedReply.TheVariants as shared
use Rattle.sync_types.specs.declared.atomic_object.AtomicCall.TheVariants.{Load}
use Rattle.sync_types.specs.declared.atomic_object.AtomicReply.TheVariants as atomic_replies
use Rattle.sync_types.specs.declared.atomic_object.Number.{Number}
use Rattle.script_calls.specs.declared.call.Reply.{Reply}
use Rattle.script_calls.specs.declared.call.Reply.TheVariants as replies
use Rattle.sync_types.specs.declared.wait_call.CondCall.TheVariants as cond_calls
use Rattle.run_record.specs.CondKind.{wait_part}
use Rattle.run_record.specs.Parts.{Part, and_then, read_as, with_outcome}
use Rattle.run_record.specs.Tests.{tests, waits_for}
use Rattle.run_record.specs.declared.made.Made.{Made}
use Rattle.workload.specs.Plan.{Plan}
use Rattle.step_runner.specs.Recorded.{made_shared}
use Rattle.step_runner.proofs.GoesOn.{CanBe, then_halts, cond_can}
use Rattle.step_runner.proofs.PlacedSpelled.{places}

module _ (plan : Plan) (object other a : ℕ) (value : Number) where
  abbrev load : List Made
  load = map (made_shared plan) ((calls.Atomic a Load, shared.Atomic atomic_replies.Done) ∷ [])

  -- a load that doesn't find the number
  unmet : tests a value load (Done (Ok false))
  unmet = (Done (Ok (replies.Atomic atomic_replies.Done)), (atomic_replies.Done, places plan ((calls.Atomic a Load, shared.Atomic atomic_replies.Done) ∷ []), refl), refl)

  -- and then a wait that is refused
  pub waits_can : (tries : ℕ) → CanBe (waits_for object other a value tries)
  waits_can zero = (load, Done (Ok false), unmet)
  waits_can (suc tries) =
      let refusal = then_halts (wait_part object other) (λ waited. waits_for object other a value tries) (cond_can object other cond_calls.Wait false false) in
      (load ++ refusal.0, _, (load, refusal.0, Done (Ok false), refl, unmet, refusal.1))

-- what comes behind a wait, unless that was a misuse or met a halt
pub waited_can : (first : Part (Reply ℕ)) (next : Part Bool) → CanBe first → CanBe next → CanBe (and_then first (λ waited. next))
waited_can first next (items, Done (Ok reply), spelt) (later, answer, behind) = (items ++ later, answer, (items, later, Done (Ok reply), refl, spelt, behind))
waited_can first next (items, Done (Err misuse), spelt) rest = (items, Done (Err misuse), (items, [], Done (Err misuse), sym (append-nil items), spelt, (refl, refl)))
waited_can first next (items, Halted misuse, spelt) rest = (items, Halted misuse, (items, [], Halted misuse, sym (append-nil items), spelt, (refl, refl)))

pub read_can : {O P : Type 0} (f : O → P) (part : Part O) → CanBe part → CanBe (read_as f part)
read_can f part (items, answer, spelt) = (items, with_outcome f answer, (answer, spelt, refl))
