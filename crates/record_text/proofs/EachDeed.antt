-- What holds of each deed of a call, and of each item of what calls are put together from.
use Rattle.std.proofs.Common.{◌≡◌, ℕ, ℤ, Bool, true, false, List, [], ◌∷◌, map, Ok, Err, refl, sym, subst}
use Rattle.std.specs.Prelude.{if◌then◌else◌}
use Rattle.std.specs.List.{AllByRecursion}
use Rattle.script_calls.specs.declared.call.Reply.{Reply}
use Rattle.script_calls.specs.declared.call.Reply.TheVariants as replies
use Rattle.flight_core.specs.declared.calls.FlightOutcome.{FlightOutcome}
use Rattle.flight_core.specs.declared.calls.FlightOutcome.TheVariants.{Lead, Got, Landed}
use Rattle.flight_core.specs.declared.calls.FlightStage.{FlightStage}
use Rattle.flight_core.specs.declared.calls.FlightStage.TheVariants as flight_stage
use Rattle.sync_types.specs.declared.misuse.Misuse.{Misuse}
use Rattle.sync_model.specs.declared.answer.Answer.TheVariants.{Done, Halted}
use Rattle.sync_model.specs.declared.item.Item.{Item}
use Rattle.sync_model.specs.declared.item.SharedCall.{SharedCall}
use Rattle.sync_model.specs.declared.item.SharedReply.{SharedReply}
use Rattle.sync_model.specs.declared.journal.Deed.{Deed}
use Rattle.sync_model.specs.declared.journal.Deed.TheVariants.{Event, Refused, Halt}
use Rattle.sync_model.specs.declared.journal.Entry.{Entry}
use Rattle.protocols.specs.declared.step.Step.{Step}
use Rattle.protocols.specs.declared.step.Step.TheVariants.{Finished, Misused, Waits, Next, Never}
use Rattle.protocols.specs.Spelling.{CallAnswer, Rest, Spells}
use Rattle.run_record.specs.declared.entered.ObjectEvent.{ObjectEvent}
use Rattle.run_record.specs.declared.entered.ObjectReply.{ObjectReply}
use Rattle.run_record.specs.declared.made.Made.{Made}
use Rattle.run_record.specs.declared.made.Made.TheVariants.{Entered, Shared}
use Rattle.run_record.specs.FlightKind.{goes_on_flight, was_shared}
use Rattle.run_record.specs.Parts.{GoesOn, Part, Places, and_then, lifted, never, read_as, returns}
use Rattle.run_record.specs.RwMutexKind.{RwDeed, is_still, up_to_the_last, without_stills}
use Rattle.record_text.proofs.OwnWords.{each_both}

-- ---- the deeds of a call

module _ {G O : Type 0} where
  -- the answer means something
  abbrev pub IsStep : Step G O → Type 0
  IsStep (Finished outcome) = Unit {0}
  IsStep (Misused misuse) = Unit {0}
  IsStep (Waits later) = Unit {0}
  IsStep (Next later) = Unit {0}
  IsStep Never = ⊥

  -- what comes later is such a stage
  abbrev pub LeadsOn : (G → Type 0) → Step G O → Type 0
  LeadsOn Such (Finished outcome) = Unit {0}
  LeadsOn Such (Misused misuse) = Unit {0}
  LeadsOn Such (Waits later) = Such later
  LeadsOn Such (Next later) = Such later
  LeadsOn Such Never = Unit {0}

  pub any_leads : (step : Step G O) → LeadsOn (λ stage. Unit {0}) step
  any_leads (Finished outcome) = tt
  any_leads (Misused misuse) = tt
  any_leads (Waits later) = tt
  any_leads (Next later) = tt
  any_leads Never = tt

  is_step : {E R : Type 0} (step : Step G O) (rest : List (Deed E R)) (on : G → Type 0) (answer : CallAnswer O) → Rest step rest on answer → IsStep step
  is_step (Finished outcome) rest on answer goes = tt
  is_step (Misused misuse) rest on answer goes = tt
  is_step (Waits later) rest on answer goes = tt
  is_step (Next later) rest on answer goes = tt
  is_step Never rest on answer goes = absurd goes

module _ {G O E R : Type 0} (event_of : G → ℕ → E) (meaning : G → R → Step G O) where
  -- the event is a stage's, and the reply means something there
  abbrev pub IsMeantBy : E → R → Type 0
  IsMeantBy event reply = (stage : G) × (now : ℕ) × (event ≡ event_of stage now) × IsStep (meaning stage reply)

  module _ (Such : G → Type 0) (P : Deed E R → Type 0)
      (leads : (stage : G) (reply : R) → Such stage → LeadsOn Such (meaning stage reply))
      (takes : (stage : G) (now : ℕ) (reply : R) → Such stage → IsStep (meaning stage reply) → P (Event (event_of stage now) reply))
      (refuses : (stage : G) (now : ℕ) (misuse : Misuse) → Such stage → P (Refused (event_of stage now) misuse)) where
    behind : (step : Step G O) (rest : List (Deed E R)) (answer : CallAnswer O) → ((later : G) → Such later → Spells event_of meaning later rest answer → AllByRecursion P rest) → LeadsOn Such step
        → Rest step rest (λ later. Spells event_of meaning later rest answer) answer → AllByRecursion P rest
    behind (Finished outcome) rest answer on such goes = subst (AllByRecursion P) (sym goes.0) tt
    behind (Misused misuse) rest answer on such goes = subst (AllByRecursion P) (sym goes.0) tt
    behind (Waits later) rest answer on such goes = on later such goes
    behind (Next later) rest answer on such goes = on later such goes
    behind Never rest answer on such goes = absurd goes

    pub each_deed : (stage : G) (deeds : List (Deed E R)) (answer : CallAnswer O) → Such stage → Spells event_of meaning stage deeds answer → AllByRecursion P deeds
    each_deed stage [] answer such spelt = absurd spelt
    each_deed stage (Event event reply ∷ rest) answer such (at, goes) = (
      subst (λ (e : E). P (Event e reply)) (sym at.1) (takes stage at.0 reply such (is_step (meaning stage reply) rest _ answer goes)),
      behind (meaning stage reply) rest answer (λ later. each_deed later rest answer) (leads stage reply such) goes,
    )
    each_deed stage (Refused event misuse ∷ rest) answer such (at, none, is) =
        (subst (λ (e : E). P (Refused e misuse)) (sym at.1) (refuses stage at.0 misuse such), subst (AllByRecursion P) (sym none) tt)
    each_deed stage (Halt misuse ∷ rest) answer such spelt = absurd spelt

-- ---- the deeds of a writer's lock

module _ (P : RwDeed → Type 0) where
  up_to : (deeds : List RwDeed) → AllByRecursion P deeds → AllByRecursion P (up_to_the_last deeds)
  up_to [] each = tt
  up_to (last ∷ []) each = each
  up_to (deed ∷ (next ∷ rest)) each = chosen (is_still deed) each.0 (up_to (next ∷ rest) each.1) where
    chosen : (b : Bool) → P deed → AllByRecursion P (up_to_the_last (next ∷ rest)) → AllByRecursion P (if b then up_to_the_last (next ∷ rest) else deed ∷ up_to_the_last (next ∷ rest))
    chosen true one later = later
    chosen false one later = (one, later)

  without : (deeds : List RwDeed) → AllByRecursion P deeds → AllByRecursion P (without_stills deeds)
  without [] each = tt
  without (first ∷ rest) each = (each.0, up_to rest each.1)

  module _ (stills : (deed : RwDeed) → is_still deed ≡ true → P deed) where
    up_from : (deeds : List RwDeed) → AllByRecursion P (up_to_the_last deeds) → AllByRecursion P deeds
    up_from [] each = tt
    up_from (last ∷ []) each = each
    up_from (deed ∷ (next ∷ rest)) each = chosen (is_still deed) refl each (up_from (next ∷ rest)) where
      chosen : (b : Bool) → is_still deed ≡ b → AllByRecursion P (if b then up_to_the_last (next ∷ rest) else deed ∷ up_to_the_last (next ∷ rest)) → (AllByRecursion P (up_to_the_last (next ∷ rest)) → AllByRecursion P (next ∷ rest))
          → AllByRecursion P (deed ∷ (next ∷ rest))
      chosen true is each on = (stills deed is, on each)
      chosen false is each on = (each.0, on each.1)

    within : (deeds : List RwDeed) → AllByRecursion P (without_stills deeds) → AllByRecursion P deeds
    within [] each = tt
    within (first ∷ rest) each = (each.0, up_from rest each.1)

    -- the same holds of what differs in such deeds alone
    pub with_stills : (deeds spelt : List RwDeed) → without_stills deeds ≡ without_stills spelt → AllByRecursion P spelt → AllByRecursion P deeds
    with_stills deeds spelt same each = within deeds (subst (AllByRecursion P) (sym same) (without spelt each))

-- ---- the items of parts

module _ (P : Made → Type 0) where
  abbrev pub EachOf : {O : Type 0} → Part O → Type 0
  EachOf {O} part = (items : List Made) (answer : CallAnswer O) → part items answer → AllByRecursion P items

  module _ {O : Type 0} where
    pub by_returns : (outcome : O) → EachOf (returns outcome)
    by_returns outcome items answer is = subst (AllByRecursion P) (sym is.0) tt

    pub by_never : EachOf (never {O = O})
    by_never items answer is = absurd is

  module _ {O Q : Type 0} where
    by_later : (next : O → Part Q) (given : CallAnswer O) (later : List Made) (answer : CallAnswer Q) → ((outcome : O) → EachOf (next outcome)) → GoesOn next given later answer → AllByRecursion P later
    by_later next (Done (Ok outcome)) later answer each goes = each outcome later answer goes
    by_later next (Done (Err misuse)) later answer each goes = subst (AllByRecursion P) (sym goes.0) tt
    by_later next (Halted misuse) later answer each goes = subst (AllByRecursion P) (sym goes.0) tt

    pub by_then : (first : Part O) (next : O → Part Q) → EachOf first → ((outcome : O) → EachOf (next outcome)) → EachOf (and_then first next)
    by_then first next one each items answer (xs, ys, given, is, made, goes) = subst (AllByRecursion P) (sym is) (each_both P xs ys (one xs given made) (by_later next given ys answer each goes))

    pub by_read : (f : O → Q) (part : Part O) → EachOf part → EachOf (read_as f part)
    by_read f part one items answer (given, made, is) = one items given made

  -- a call on flights
  module _ (part : FlightStage → Part FlightOutcome) (function : Part ℤ) (of_part : (stage : FlightStage) → EachOf (part stage)) (of_function : EachOf function) where
    by_outcome : (outcome : FlightOutcome) → EachOf (goes_on_flight part function outcome)
    by_outcome Lead = by_then function _ of_function (λ value. by_read (λ outcome. replies.Flown value (was_shared outcome)) _ (of_part (flight_stage.Land value)))
    by_outcome (Got value) = by_returns (replies.Flown value true)
    by_outcome (Landed shared) = by_never

    pub by_flight : (key : ℕ) → EachOf (and_then (part (flight_stage.Join key)) (goes_on_flight part function))
    by_flight key = by_then (part (flight_stage.Join key)) _ (of_part (flight_stage.Join key)) by_outcome

  module _ {E R : Type 0} (event : E → ObjectEvent) (reply : R → ObjectReply) (object : ℕ) where
    pub of_entries : (entries : List (Entry E R)) → AllByRecursion (λ (entry : Entry E R). P (Entered object (lifted event reply entry))) entries → AllByRecursion P (map (λ entry. Entered object (lifted event reply entry)) entries)
    of_entries [] each = tt
    of_entries (entry ∷ entries) each = (each.0, of_entries entries each.1)

  -- the calls on maps and atomics that a part is
  pub of_places : (Q : SharedCall → SharedReply → Type 0) → ((x : Item) → Q x.call x.reply → P (Shared x)) → (calls : List (SharedCall × SharedReply)) → AllByRecursion (λ (told : SharedCall × SharedReply). Q told.0 told.1) calls
      → (items : List Made) → Places calls items → AllByRecursion P items
  of_places Q leads calls each items (made, is, told) = subst (AllByRecursion P) (sym is) (of_made made (subst (AllByRecursion (λ (t : SharedCall × SharedReply). Q t.0 t.1)) (sym told) each)) where
    of_made : (made : List Item) → AllByRecursion (λ (t : SharedCall × SharedReply). Q t.0 t.1) (map (λ (x : Item). (x.call, x.reply)) made) → AllByRecursion P (map Shared made)
    of_made [] each = tt
    of_made (x ∷ made) each = (leads x each.0, of_made made each.1)

-- what holds of the deeds holds of the entries that have them
module _ {E R : Type 0} (P : Deed E R → Type 0) where
  pub of_deeds : (entries : List (Entry E R)) → AllByRecursion P (map (λ entry. entry.deed) entries) → AllByRecursion (λ (entry : Entry E R). P entry.deed) entries
  of_deeds [] each = tt
  of_deeds (entry ∷ entries) each = (each.0, of_deeds entries each.1)
