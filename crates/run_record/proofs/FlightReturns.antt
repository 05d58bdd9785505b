-- What the calls of a group of flights have done when they return.
use Rattle.std.proofs.Common.{◌≡◌, inl, inr, ℕ, ℤ, Bool, true, List, [], ◌∷◌, ◌++◌, map, Result, Ok, refl, sym, ap, ◌∙◌, subst, append-nil}
use Rattle.std.specs.List.{AllByRecursion}
use Rattle.sync_types.specs.declared.atomic_object.AtomicCall.TheVariants.{Add}
use Rattle.sync_types.specs.declared.atomic_object.AtomicReply.TheVariants.{Held}
use Rattle.sync_types.specs.declared.atomic_object.Number.TheVariants.{Int64}
use Rattle.script_calls.specs.declared.call.Reply.{Reply}
use Rattle.script_calls.specs.declared.call.Reply.TheVariants as replies
use Rattle.sync_types.specs.declared.misuse.Misuse.{Misuse}
use Rattle.sync_model.specs.declared.answer.Answer.TheVariants.{Done}
use Rattle.sync_model.specs.declared.item.SharedCall.TheVariants as shared
use Rattle.sync_model.specs.declared.item.SharedReply.TheVariants as shared_replies
use Rattle.sync_model.specs.declared.journal.Deed.{Deed}
use Rattle.sync_model.specs.declared.journal.Deed.TheVariants.{Event, Refused, Halt}
use Rattle.sync_model.specs.declared.journal.Entry.{Entry}
use Rattle.flight_core.specs.declared.calls.FlightOutcome.{FlightOutcome}
use Rattle.flight_core.specs.declared.calls.FlightOutcome.TheVariants as outcome
use Rattle.flight_core.specs.declared.calls.FlightStage.{FlightStage}
use Rattle.flight_core.specs.declared.calls.FlightStage.TheVariants as stage
use Rattle.flight_core.specs.declared.event.FlightEvent.{FlightEvent}
use Rattle.flight_core.specs.declared.event.FlightEvent.TheVariants as on_flight
use Rattle.flight_core.specs.declared.event.FlightReply.{FlightReply}
use Rattle.flight_core.specs.declared.event.FlightReply.TheVariants as flown
use Rattle.flight_core.specs.FlightStages.{flight_event, flight_meaning, flight_gives}
use Rattle.protocols.specs.Spelling.{Rest, IsFirstDeed, Spells}
use Rattle.run_record.specs.declared.entered.ObjectEvent.TheVariants as event
use Rattle.run_record.specs.declared.entered.ObjectReply.TheVariants as reply
use Rattle.run_record.specs.declared.made.Made.{Made}
use Rattle.run_record.specs.declared.made.Made.TheVariants.{Entered}
use Rattle.run_record.specs.AtomicKind.{adds}
use Rattle.run_record.specs.FlightKind.{was_shared, goes_on_flight, flight_part, fly_call}
use Rattle.run_record.specs.Parts.{read_as, lifted_deed, lifted}
use Rattle.run_record.specs.Record.{ObjectEntry}
use Rattle.run_record.specs.Returns.{IsOnce, HasJoined, FlightReturns}
use Rattle.run_record.proofs.Returning.{read_off, goes_on, opens, one_event, map_none}
use Rattle.run_record.proofs.TwoCalls.{one_place}

-- what a group's protocol keeps: a call gives what it may
abbrev pub FlightGives : Type 0
FlightGives = (stage : FlightStage) (deeds : List (Deed FlightEvent FlightReply)) (given : Result FlightOutcome Misuse) → Spells flight_event flight_meaning stage deeds (Done given) → flight_gives stage given ≡ true

abbrev FlightDeeds : Type 0
FlightDeeds = List (Deed FlightEvent FlightReply)

abbrev FlightEntries : Type 0
FlightEntries = List (Entry FlightEvent FlightReply)

abbrev deeds : FlightEntries → FlightDeeds
deeds entries = map (λ entry. entry.deed) entries

module _ (object key : ℕ) where
  abbrev on_object : FlightEntries → List Made
  on_object entries = map (λ entry. Entered object (lifted event.Flight reply.Flight entry)) entries

  abbrev entered : ObjectEntry → Made
  entered entry = Entered object entry

  -- a call that leads begins by one event
  leads_by : FlightGives → (r : FlightReply) (rest : FlightDeeds) → Rest (flight_meaning (stage.Join key) r) rest (λ later. Spells flight_event flight_meaning later rest (Done (Ok outcome.Lead))) (Done (Ok outcome.Lead)) → (rest ≡ []) × (r ≡ flown.Lead)
  leads_by gives flown.Lead rest goes = (goes.0, refl)
  leads_by gives flown.Queued rest goes = let wrong = gives stage.Leave rest (Ok outcome.Lead) goes in absurd cc
  leads_by gives (flown.Landed shared) rest goes = absurd goes
  leads_by gives (flown.Left value) rest goes = absurd goes
  leads_by gives flown.Still rest goes = absurd goes

  pub leads : FlightGives → (items : List Made) → flight_part object (stage.Join key) items (Done (Ok outcome.Lead)) → IsOnce object (event.Flight (on_flight.Join key)) (reply.Flight flown.Lead) items
  leads gives items made =
      let lead = one_event event.Flight reply.Flight flight_event flight_meaning object (stage.Join key) items (Ok outcome.Lead) (λ r. r ≡ flown.Lead) (λ r rest goes. leads_by gives r rest goes) made in
      subst (λ r. IsOnce object (event.Flight (on_flight.Join key)) (reply.Flight r) items) lead.3 lead.2

  lands_by : (value : ℤ) (given : FlightOutcome) (r : FlightReply) (rest : FlightDeeds) (on : FlightStage → Type 0) → Rest (flight_meaning (stage.Land value) r) rest on (Done (Ok given)) → (rest ≡ []) × ((shared : Bool) × (given ≡ outcome.Landed shared) × (r ≡ flown.Landed shared))
  lands_by value given (flown.Landed shared) rest on goes = let is = goes.1 in (goes.0, (shared, (cc), refl))
  lands_by value given flown.Lead rest on goes = absurd goes
  lands_by value given flown.Queued rest on goes = absurd goes
  lands_by value given (flown.Left other) rest on goes = absurd goes
  lands_by value given flown.Still rest on goes = absurd goes

  abbrev IsStill : ObjectEntry → Type 0
  IsStill entry = entry.deed ≡ Event (event.Flight on_flight.Leave) (reply.Flight flown.Still)

  -- entries of a call that leaves with the value by the last of them
  record LeavesWith (value : ℤ) (entries : FlightEntries) : Type 0 where
    between : List ObjectEntry
    last : ObjectEntry
    are : on_object entries ≡ map entered between ++ entered last ∷ []
    sleeps : AllByRecursion IsStill between
    leaves : last.deed ≡ Event (event.Flight on_flight.Leave) (reply.Flight (flown.Left value))

  module _ (value : ℤ) where
    abbrev Got : FlightStage → FlightEntries → Type 0
    Got from entries = Spells flight_event flight_meaning from (deeds entries) (Done (Ok (outcome.Got value)))

    abbrev GoesOn : FlightStage → FlightReply → FlightEntries → Type 0
    GoesOn from r rest = Rest (flight_meaning from r) (deeds rest) (λ later. Got later rest) (Done (Ok (outcome.Got value)))

    left_now : (first : Entry FlightEvent FlightReply) (rest : FlightEntries) → first.deed ≡ Event on_flight.Leave (flown.Left value) → rest ≡ [] → LeavesWith value (first ∷ rest)
    left_now first rest is none = record {
      between = [];
      last = lifted event.Flight reply.Flight first;
      are = ap (λ (es : FlightEntries). on_object (first ∷ es)) none;
      sleeps = tt;
      leaves = ap (lifted_deed event.Flight reply.Flight) is;
    }

    by_leave : (first : Entry FlightEvent FlightReply) (rest : FlightEntries) (r : FlightReply) → first.deed ≡ Event on_flight.Leave r → (Got stage.Leave rest → LeavesWith value rest) → GoesOn stage.Leave r rest → LeavesWith value (first ∷ rest)
    by_leave first rest (flown.Left other) is later goes =
        let given = goes.1 in
        let same : other ≡ value = cc in
        left_now first rest (is ∙ ap (λ (v : ℤ). Event on_flight.Leave (flown.Left v)) same) (map_none (λ (entry : Entry FlightEvent FlightReply). entry.deed) rest goes.0)
    by_leave first rest flown.Still is later goes = let behind = later goes in record {
      between = lifted event.Flight reply.Flight first ∷ behind.between;
      last = behind.last;
      are = ap (λ (l : List Made). entered (lifted event.Flight reply.Flight first) ∷ l) behind.are;
      sleeps = (ap (lifted_deed event.Flight reply.Flight) is, behind.sleeps);
      leaves = behind.leaves;
    }
    by_leave first rest flown.Lead is later goes = absurd goes
    by_leave first rest flown.Queued is later goes = absurd goes
    by_leave first rest (flown.Landed shared) is later goes = absurd goes

    by_leaving : (first : Entry FlightEvent FlightReply) (rest : FlightEntries) (d : Deed FlightEvent FlightReply) → first.deed ≡ d → (Got stage.Leave rest → LeavesWith value rest)
        → IsFirstDeed flight_event flight_meaning stage.Leave d (deeds rest) (λ later. Got later rest) (Done (Ok (outcome.Got value))) → LeavesWith value (first ∷ rest)
    by_leaving first rest (Event e r) is later spelt = by_leave first rest r (is ∙ ap (λ (x : FlightEvent). Event x r) spelt.0.1) later spelt.1
    by_leaving first rest (Refused e m) is later spelt = let halted = spelt.2 in absurd cc
    by_leaving first rest (Halt m) is later spelt = absurd spelt

    leaves_with : (entries : FlightEntries) → Got stage.Leave entries → LeavesWith value entries
    leaves_with [] spelt = absurd spelt
    leaves_with (first ∷ rest) spelt = by_leaving first rest first.deed refl (λ goes. leaves_with rest goes) spelt

    by_join : (first : Entry FlightEvent FlightReply) (rest : FlightEntries) (r : FlightReply) → first.deed ≡ Event (on_flight.Join key) r → GoesOn (stage.Join key) r rest → HasJoined object key value (on_object (first ∷ rest))
    by_join first rest flown.Queued is goes = let behind = leaves_with rest goes in record {
      first = lifted event.Flight reply.Flight first;
      between = behind.between;
      last = behind.last;
      are = ap (λ (l : List Made). entered (lifted event.Flight reply.Flight first) ∷ l) behind.are;
      joins = ap (lifted_deed event.Flight reply.Flight) is;
      sleeps = behind.sleeps;
      leaves = behind.leaves;
    }
    by_join first rest flown.Lead is goes = let given = goes.1 in absurd cc
    by_join first rest (flown.Landed shared) is goes = absurd goes
    by_join first rest (flown.Left other) is goes = absurd goes
    by_join first rest flown.Still is goes = absurd goes

    has_joined : (items : List Made) → flight_part object (stage.Join key) items (Done (Ok (outcome.Got value))) → HasJoined object key value items
    has_joined items (entries, is, spelt) =
        let o = opens flight_event flight_meaning (stage.Join key) entries (Ok (outcome.Got value)) spelt in
        subst (λ (made : List Made). HasJoined object key value made) (sym (is ∙ ap on_object o.are)) (by_join o.first o.rest o.answer o.deed o.goes)

  module _ (gives : FlightGives) (a : ℕ) (amount : ℤ) where
    by_outcome : (items earlier later : List Made) (answer : Reply ℕ) (given : FlightOutcome) → items ≡ earlier ++ later → flight_part object (stage.Join key) earlier (Done (Ok given))
        → goes_on_flight (flight_part object) (adds a amount) given later (Done (Ok answer)) → FlightReturns object a amount key items answer
    by_outcome items earlier later answer outcome.Lead are made goes =
        let run = goes_on (adds a amount) (λ value. read_as (λ outcome. replies.Flown value (was_shared outcome)) (flight_part object (stage.Land value))) later answer goes in
        let off = read_off (λ (given : FlightOutcome). replies.Flown run.outcome (was_shared given)) run.goes.0 answer run.goes.2 in
        let land = one_event event.Flight reply.Flight flight_event flight_meaning object (stage.Land run.outcome) run.later (Ok off.outcome) (λ r. (shared : Bool) × (off.outcome ≡ outcome.Landed shared) × (r ≡ flown.Landed shared))
        (λ r rest goes. lands_by run.outcome off.outcome r rest _ goes) (subst (flight_part object (stage.Land run.outcome) run.later) off.is run.goes.1) in
        let added = run.made in
        let x = one_place (shared.Atomic a (Add (Int64 amount))) (shared_replies.Atomic (Held (Int64 added.0))) run.earlier added.1 in
        let same : added.0 ≡ run.outcome = (let e = added.2 in cc) in
        inl (
          run.outcome,
          land.3.0,
          x.0,
          off.read ∙ ap (λ (given : FlightOutcome). replies.Flown run.outcome (was_shared given)) land.3.1,
          record {
            led = earlier;
            landed = run.later;
            are = are ∙ ap (λ (l : List Made). earlier ++ l) (run.are ∙ ap (λ (l : List Made). l ++ run.later) x.1);
            leads = leads gives earlier made;
            lands = subst (λ r. IsOnce object (event.Flight (on_flight.Land run.outcome)) (reply.Flight r) run.later) land.3.2 land.2;
          },
          x.2,
          x.3 ∙ ap (λ (sum : ℤ). shared_replies.Atomic (Held (Int64 sum))) same,
        )
    by_outcome items earlier later answer (outcome.Got value) are made goes =
        let told = goes.1 in
        inr (value, (cc), subst (λ (l : List Made). HasJoined object key value l) (sym (are ∙ ap (λ (l : List Made). earlier ++ l) goes.0 ∙ append-nil earlier)) (has_joined value earlier made))
    by_outcome items earlier later answer (outcome.Landed shared) are made goes = absurd goes

    pub flight_returns : (items : List Made) (answer : Reply ℕ) → fly_call object a amount key items (Done (Ok answer)) → FlightReturns object a amount key items answer
    flight_returns items answer made =
        let two = goes_on (flight_part object (stage.Join key)) (goes_on_flight (flight_part object) (adds a amount)) items answer made in
        by_outcome items two.earlier two.later answer two.outcome two.are two.made two.goes
