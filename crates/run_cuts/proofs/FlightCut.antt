-- That the calls of a group of flights are cut as they are spelt.
use Rattle.std.proofs.Common.{◌≡◌, ℕ, ℤ, true, [], Some, refl, ap}
use Rattle.std.proofs.lemmas.Bool.{eqb-true, eq-eqb}
use Rattle.std.proofs.lemmas.Bool.Decides.{Decides-int_eq}
use Rattle.protocols.specs.Spelling.{IsEventOf}
use Rattle.script_calls.specs.declared.call.Reply.{Reply}
use Rattle.script_calls.specs.declared.call.Reply.TheVariants as replies
use Rattle.flight_core.specs.FlightStages.{flight_event, flight_meaning}
use Rattle.flight_core.specs.declared.calls.FlightOutcome.{FlightOutcome}
use Rattle.flight_core.specs.declared.calls.FlightOutcome.TheVariants.{Lead, Got, Landed}
use Rattle.flight_core.specs.declared.calls.FlightStage.{FlightStage}
use Rattle.flight_core.specs.declared.calls.FlightStage.TheVariants as stage
use Rattle.flight_core.specs.declared.event.FlightEvent.{FlightEvent}
use Rattle.flight_core.specs.declared.event.FlightEvent.TheVariants.{Join, Land, Leave}
use Rattle.flight_core.specs.declared.event.FlightReply.{FlightReply}
use Rattle.run_record.specs.AtomicKind.{adds}
use Rattle.run_record.specs.FlightKind.{fly_call, flight_part, goes_on_flight, was_shared}
use Rattle.run_record.specs.Parts.{read_as}
use Rattle.run_record.specs.declared.entered.ObjectEvent.{ObjectEvent}
use Rattle.run_record.specs.declared.entered.ObjectEvent.TheVariants as event
use Rattle.run_record.specs.declared.entered.ObjectReply.{ObjectReply}
use Rattle.run_record.specs.declared.entered.ObjectReply.TheVariants as reply
use Rattle.run_cuts.specs.Cuts.{Cuts, move, read_cut}
use Rattle.run_cuts.specs.FlightCuts.{flight_cut, flight_event_in, flight_reply_in, fly_cut, goes_on_cut, is_flight_event}
use Rattle.run_cuts.specs.SharedCuts.{adds_cut}
use Rattle.run_cuts.proofs.CutLemmas.{halt_continues, halts_on, moves_are, never_cuts, read_cuts, returns_cuts, stages_cuts, then_cuts, then_cuts_by}
use Rattle.run_cuts.proofs.SharedCut.{adds_cuts}

only_event : (o : ObjectEvent) (e : FlightEvent) → flight_event_in o ≡ Some e → o ≡ event.Flight e
only_event (event.Flight x) e is = ap (λ (y : FlightEvent). event.Flight y) (same is)
  where
    same : {x y : FlightEvent} → Some x ≡ Some y → x ≡ y
    same is = cc
only_event o e is = absurd cc

only_reply : (o : ObjectReply) (r : FlightReply) → flight_reply_in o ≡ Some r → o ≡ reply.Flight r
only_reply (reply.Flight x) r is = ap (λ (y : FlightReply). reply.Flight y) (same is)
  where
    same : {x y : FlightReply} → Some x ≡ Some y → x ≡ y
    same is = cc
only_reply o r is = absurd cc

told : (from : FlightStage) (e : FlightEvent) → is_flight_event from e ≡ true → IsEventOf flight_event from e
told (stage.Join key) (Join other) is = (0, ap (λ (k : ℕ). Join k) (eqb-true other key is))
told (stage.Land value) (Land other) is = (0, ap (λ (v : ℤ). Land v) ((Decides-int_eq other value).0 is))
told stage.Leave Leave is = (0, refl)
told from e is = absurd cc

tells : (from : FlightStage) (now : ℕ) → is_flight_event from (flight_event from now) ≡ true
tells (stage.Join key) now = eq-eqb key key refl
tells (stage.Land value) now = (Decides-int_eq value value).1 refl
tells stage.Leave now = refl

-- what the leader of a flight replies, by its landing
abbrev flown : ℤ → FlightOutcome → Reply ℕ
flown value outcome = replies.Flown value (was_shared outcome)

part_cuts : (object : ℕ) (from : FlightStage) → Cuts (flight_part object from) (flight_cut object from)
part_cuts object from =
    stages_cuts event.Flight reply.Flight flight_event flight_meaning (move flight_event_in flight_reply_in is_flight_event flight_meaning)
    (moves_are event.Flight reply.Flight flight_event flight_meaning flight_event_in flight_reply_in is_flight_event (λ e. refl) (λ r. refl) only_event only_reply told tells) object from

module _ (object a : ℕ) (amount : ℤ) where
  land_cuts : (value : ℤ) → Cuts (read_as (flown value) (flight_part object (stage.Land value))) (read_cut (flown value) (flight_cut object (stage.Land value)))
  land_cuts value = read_cuts (flown value) (flight_part object (stage.Land value)) (flight_cut object (stage.Land value)) (part_cuts object (stage.Land value))

  outcome_cuts : (outcome : FlightOutcome) → Cuts (goes_on_flight (flight_part object) (adds a amount) outcome) (goes_on_cut (flight_cut object) (adds_cut a amount) outcome)
  outcome_cuts Lead =
      then_cuts (adds a amount) (λ value. read_as (flown value) (flight_part object (stage.Land value)))
      (adds_cut a amount) (λ value. read_cut (flown value) (flight_cut object (stage.Land value)))
      (adds_cuts a amount) land_cuts (λ value. (land_cuts value).goes_on [] refl)
  outcome_cuts (Got value) = returns_cuts (replies.Flown value true)
  outcome_cuts (Landed shared) = never_cuts

  pub fly_cuts : (key : ℕ) → Cuts (fly_call object a amount key) (fly_cut object a amount key)
  fly_cuts key =
      then_cuts_by (flight_part object (stage.Join key)) (goes_on_flight (flight_part object) (adds a amount)) (flight_cut object (stage.Join key)) (goes_on_cut (flight_cut object) (adds_cut a amount)) (part_cuts object (stage.Join key)) outcome_cuts
      (halt_continues (flight_part object (stage.Join key)) (goes_on_flight (flight_part object) (adds a amount)) (flight_cut object (stage.Join key)) (goes_on_cut (flight_cut object) (adds_cut a amount)) (part_cuts object (stage.Join key)) outcome_cuts
      (halts_on event.Flight reply.Flight flight_event flight_meaning (move flight_event_in flight_reply_in is_flight_event flight_meaning)
      (moves_are event.Flight reply.Flight flight_event flight_meaning flight_event_in flight_reply_in is_flight_event (λ e. refl) (λ r. refl) only_event only_reply told tells) object (stage.Join key)))
