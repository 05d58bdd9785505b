-- What an entry's words leave out, by how the object of its journal speaks.
use Rattle.std.proofs.Common.{◌≡◌, ℕ, zero, suc, ◌+◌, ◌-◌, ℤ, Bool, true, false, cond, nat_lt, ◌==◌, Option, Some, None, slice_get, refl, sym, ap, ◌∙◌, subst, arith}
use Rattle.std.specs.Prelude.{◌%◌, length}
use Rattle.std.proofs.lemmas.Bool.{eq-eqb, false≢true}
use Rattle.sync_model.specs.declared.journal.Deed.{Deed}
use Rattle.sync_model.specs.declared.journal.Deed.TheVariants.{Event, Refused, Halt}
use Rattle.wait_cores.specs.declared.once.OnceEvent.TheVariants as once_events
use Rattle.workload.specs.declared.object.ObjectKind.{ObjectKind}
use Rattle.workload.specs.declared.object.ObjectKind.TheVariants as kinds
use Rattle.workload.specs.declared.object.ObjectLine.{ObjectLine}
use Rattle.workload.specs.Plan.{Plan}
use Rattle.run_record.specs.declared.entered.ObjectEvent.{ObjectEvent}
use Rattle.run_record.specs.declared.entered.ObjectEvent.TheVariants as object_events
use Rattle.run_record.specs.declared.entered.ObjectReply.{ObjectReply}
use Rattle.run_record.specs.Objects.{starts_number}
use Rattle.run_record.specs.Record.{object_number}
use Rattle.run_check.specs.declared.told.deeds.Speaker.{Speaker}
use Rattle.run_check.specs.declared.told.deeds.Speaker.TheVariants as speakers
use Rattle.run_check.specs.ToldItems.{Kept, declared_speaker, later_speaker, speaker_at, speaker_behind, speaker_of}
use Rattle.run_check.proofs.FrontOrder.{apart}
use Rattle.run_check.proofs.ToldEntries.{DeedIs, EventIs, ReplyIs}
use Rattle.run_check.proofs.ToldEvents.{DeedFits, EventFits}
use Rattle.run_check.proofs.ToldSums.{EndIs}

-- a once's function that ends here came to the sum
abbrev EndsIn : ℤ → Speaker → Type 0
EndsIn sum (speakers.Once comes_to kept) = sum ≡ comes_to
EndsIn sum speaker = Unit {0}

event_is : (sum : ℤ) (speaker : Speaker) (event : ObjectEvent) → EndsIn sum speaker → ((v : ℤ) → event ≡ object_events.Once (once_events.End v) → sum ≡ v) → EventFits speaker event → EventIs speaker event
event_is sum (speakers.Once comes_to kept) (object_events.Once (once_events.End v)) same ends fits = sym same ∙ ends v refl
event_is sum (speakers.Once comes_to kept) (object_events.Once event) same ends fits = tt
event_is sum speaker event same ends fits = fits

deed_is : (sum : ℤ) (speaker : Speaker) (deed : Deed ObjectEvent ObjectReply) → EndsIn sum speaker → EndIs sum deed → DeedFits speaker deed
    → ((event : ObjectEvent) (reply : ObjectReply) → deed ≡ Event event reply → EventFits speaker event → ReplyIs speaker reply) → DeedIs speaker deed
deed_is sum speaker (Event event reply) same ends fits replies =
    (event_is sum speaker event same (λ v is. subst (λ (e : ObjectEvent). EndIs sum (Event e reply)) is ends) fits.0, fits.1, replies event reply refl fits.0)
deed_is sum speaker (Refused event misuse) same ends fits replies = event_is sum speaker event same (λ v is. subst (λ (e : ObjectEvent). EndIs sum (Refused e misuse)) is ends) fits
deed_is sum speaker (Halt misuse) same ends fits replies = tt

behind_stop : (object : ℕ) → (object == 0) ≡ false → object ≡ object_number (object - 1)
behind_stop zero is = absurd (false≢true (sym is ∙ eq-eqb 0 0 refl))
behind_stop (suc object) is = omega arith

module _ (plan : Plan) (kept : Kept) (worker : ℕ) (sum : ℤ) where
  -- the object at a place speaks as it was declared
  pub declared : (place : ℕ) (line : ObjectLine) → slice_get plan.objects place ≡ Some line → speaker_of plan kept (object_number place) worker sum ≡ declared_speaker kept (object_number place) worker sum line.kind
  declared place line at =
      let number : place + 1 - 1 ≡ place = omega arith in
      ap (λ (b : Bool). cond b speakers.Silent (speaker_behind plan kept (object_number place) worker sum (object_number place - 1))) (apart (object_number place) 0 (λ same. absurd (omega (arith, same))))
      ∙ ap (speaker_behind plan kept (object_number place) worker sum) number ∙ ap (λ (o : Option ObjectLine). speaker_at plan kept (object_number place) worker sum o place) at

  module _ (P : Speaker → Type 0) (silent : P speakers.Silent) (part : (number : ℕ) → P (speakers.PoolPart number)) (starts : P speakers.Starts) (object : ℕ)
      (of_declared : (place : ℕ) (line : ObjectLine) → object ≡ object_number place → slice_get plan.objects place ≡ Some line → P (declared_speaker kept object worker sum line.kind)) where
    of_later : (place : ℕ) → P (later_speaker plan object place)
    of_later place = by (nat_lt object (starts_number plan)) where
      by : (b : Bool) → P (cond b (speakers.PoolPart ((place - length plan.objects) % plan.workers)) speakers.Starts)
      by true = part ((place - length plan.objects) % plan.workers)
      by false = starts

    -- what holds of the speaker of an object, where it holds of each speaker that it may have
    pub by_speaker : P (speaker_of plan kept object worker sum)
    by_speaker = of (object == 0) refl where
      at_place : (found : Option ObjectLine) → slice_get plan.objects (object - 1) ≡ found → object ≡ object_number (object - 1) → P (speaker_at plan kept object worker sum found (object - 1))
      at_place None at number = of_later (object - 1)
      at_place (Some line) at number = of_declared (object - 1) line number at

      of : (b : Bool) → (object == 0) ≡ b → P (cond b speakers.Silent (speaker_behind plan kept object worker sum (object - 1)))
      of true is = silent
      of false is = at_place (slice_get plan.objects (object - 1)) refl (behind_stop object is)

  ends_in : (object : ℕ) (kind : ObjectKind) → EndsIn sum (declared_speaker kept object worker sum kind)
  ends_in object (kinds.Once atomic delta) = refl
  ends_in object kind = tt

  -- a deed that fits is what its place in the list says, where its reply is
  pub deed_is_so : (object : ℕ) (deed : Deed ObjectEvent ObjectReply) → EndIs sum deed → DeedFits (speaker_of plan kept object worker sum) deed
      → ((event : ObjectEvent) (reply : ObjectReply) (place : ℕ) (line : ObjectLine) → object ≡ object_number place → slice_get plan.objects place ≡ Some line → deed ≡ Event event reply
      → EventFits (declared_speaker kept object worker sum line.kind) event → ReplyIs (declared_speaker kept object worker sum line.kind) reply)
      → DeedIs (speaker_of plan kept object worker sum) deed
  deed_is_so object deed ends fits replies =
      deed_is sum (speaker_of plan kept object worker sum) deed (by_speaker (EndsIn sum) tt (λ number. tt) tt object (λ place line number at. ends_in object line.kind)) ends fits
      (λ event reply is. by_speaker (λ (s : Speaker). EventFits s event → ReplyIs s reply) (λ fit. tt) (λ number fit. tt) (λ fit. tt) object (λ place line number at. replies event reply place line number at is))
