-- In a worker's list each landing of a flight stands behind its lead and one `add`.
use Rattle.std.proofs.Common.{◌≡◌, ◌≢◌, ◌⊎◌, inl, inr, ℕ, ◌+◌, ℤ, ◌==◌, Bool, true, false, List, [], ◌∷◌, ◌++◌, map, length, Some, slice_get, refl, sym, ap, ◌∙◌, subst, append_assoc, arith}
use Rattle.std.specs.Prelude.{Ok, Err}
use Rattle.std.specs.List.{flat_map}
use Rattle.std.proofs.lemmas.Bool.{eqb-true, eq-eqb, false≢true}
use Rattle.std.proofs.lemmas.Option.{same_Some}
use Rattle.sync_types.specs.declared.atomic_object.AtomicCall.TheVariants.{Add}
use Rattle.sync_types.specs.declared.atomic_object.AtomicReply.TheVariants.{Held}
use Rattle.sync_types.specs.declared.atomic_object.Number.TheVariants.{Int64}
use Rattle.sync_types.specs.declared.misuse.Misuse.{Misuse}
use Rattle.script_calls.specs.declared.call.Call.{Call}
use Rattle.script_calls.specs.declared.call.Reply.{Reply}
use Rattle.script_calls.specs.declared.call.Reply.TheVariants as replies
use Rattle.sync_model.specs.declared.answer.Answer.TheVariants.{Done, Halted}
use Rattle.sync_model.specs.declared.item.Item.{Item}
use Rattle.sync_model.specs.declared.item.SharedCall.{SharedCall}
use Rattle.sync_model.specs.declared.item.SharedCall.TheVariants as calls
use Rattle.sync_model.specs.declared.item.SharedReply.{SharedReply}
use Rattle.sync_model.specs.declared.item.SharedReply.TheVariants as answers
use Rattle.sync_model.specs.declared.journal.Deed.{Deed}
use Rattle.sync_model.specs.declared.journal.Deed.TheVariants.{Event, Refused, Halt}
use Rattle.sync_model.specs.declared.journal.Entry.{Entry}
use Rattle.flight_core.specs.declared.calls.FlightOutcome.{FlightOutcome}
use Rattle.flight_core.specs.declared.calls.FlightOutcome.TheVariants as outcome
use Rattle.flight_core.specs.declared.calls.FlightStage.{FlightStage}
use Rattle.flight_core.specs.declared.calls.FlightStage.TheVariants as stage
use Rattle.flight_core.specs.declared.event.FlightEvent.{FlightEvent}
use Rattle.flight_core.specs.declared.event.FlightEvent.TheVariants.{Join, Land, Leave}
use Rattle.flight_core.specs.declared.event.FlightReply.{FlightReply}
use Rattle.flight_core.specs.declared.event.FlightReply.TheVariants as flown
use Rattle.flight_core.specs.FlightStages.{flight_event, flight_meaning}
use Rattle.protocols.specs.GroupStages.{group_event, group_meaning}
use Rattle.protocols.specs.Spelling.{CallAnswer, Rest, IsFirstDeed, Spells}
use Rattle.protocols.specs.declared.step.Step.{Step}
use Rattle.protocols.specs.declared.wait_group.GroupStage.TheVariants as group_stage
use Rattle.starts_core.specs.StartsStages.{starts_event, starts_meaning}
use Rattle.starts_core.specs.declared.protocol.StartsStage.TheVariants as starts_stage
use Rattle.workload.specs.declared.object.ObjectKind.TheVariants as kinds
use Rattle.workload.specs.declared.object.ObjectLine.{ObjectLine}
use Rattle.workload.specs.Keys.{keys_in, key_number}
use Rattle.workload.specs.Plan.{Plan}
use Rattle.run_record.specs.declared.entered.ObjectEvent.{ObjectEvent}
use Rattle.run_record.specs.declared.entered.ObjectEvent.TheVariants as event
use Rattle.run_record.specs.declared.entered.ObjectReply.{ObjectReply}
use Rattle.run_record.specs.declared.entered.ObjectReply.TheVariants as reply
use Rattle.run_record.specs.declared.made.Made.{Made}
use Rattle.run_record.specs.declared.made.Made.TheVariants.{Shared, Entered}
use Rattle.run_record.specs.AtomicKind.{adds}
use Rattle.run_record.specs.Calls.{SpellsCall}
use Rattle.run_record.specs.FlightKind.{was_shared, goes_on_flight, flight_part, fly_call}
use Rattle.run_record.specs.Flights.{IsOnFlights}
use Rattle.run_record.specs.Lines.{SpeltCall, LineEnd, whole, misused, halted, unfinished, stayed, Line, items_of, IsHalt, AreHalts, AreSpelt, EndsBy, IsLineOf}
use Rattle.run_record.specs.Objects.{atomic_number}
use Rattle.run_record.specs.Parts.{Part, GoesOn, and_then, read_as, Places, lifted, lifted_deed, stages}
use Rattle.run_record.specs.Record.{ObjectEntry, object_number, shared_in}
use Rattle.run_record.specs.StartsKind.{opening, closing}
use Rattle.run_record.proofs.CallParts.{GoesThrough, HoldsOfParts, holds_of_call, of_fly, of_opening, of_closing}
use Rattle.run_record.proofs.EachItem.{EachOf, through, of_entries, of_stages}
use Rattle.run_record.proofs.FlightReturns.{FlightGives, leads}
use Rattle.run_record.proofs.Having.{Each, each_at}
use Rattle.run_record.proofs.JournalCuts.{split_both}
use Rattle.run_record.proofs.LineParts.{each_first}
use Rattle.run_record.proofs.ListLemmas.{at_length}
use Rattle.run_record.proofs.OneEvent.{IsShort, Alone, alone}
use Rattle.run_record.proofs.Limits.{item_of}
use Rattle.run_record.proofs.PairLemmas.{each_from}
use Rattle.run_record.proofs.TwoCalls.{one_place}

-- the deed is no landing
abbrev IsElse : Deed ObjectEvent ObjectReply → Type 0
IsElse (Event (event.Flight (Land value)) r) = ⊥
IsElse (Event e r) = Unit {0}
IsElse (Refused e misuse) = Unit {0}
IsElse (Halt misuse) = Unit {0}

module _ (object : ℕ) where
  -- the item is no landing at the object
  abbrev NoLanding : Made → Type 0
  NoLanding (Shared x) = Unit {0}
  NoLanding (Entered other entry) = other ≡ object → IsElse entry.deed

  module _ {E R : Type 0} (event : E → ObjectEvent) (reply : R → ObjectReply) (elsewhere : (e : E) (r : R) → IsElse (Event (event e) (reply r))) where
    else_deed : (d : Deed E R) → IsElse (lifted_deed event reply d)
    else_deed (Event e r) = elsewhere e r
    else_deed (Refused e misuse) = tt
    else_deed (Halt misuse) = tt

    else_entries : (other : ℕ) (entries : List (Entry E R)) → Each NoLanding (map (λ entry. Entered other (lifted event reply entry)) entries)
    else_entries other = of_entries NoLanding event reply other (λ entry same. else_deed entry.deed)

    else_stages : {G O : Type 0} (event_of : G → ℕ → E) (meaning : G → R → Step G O) (other : ℕ) (from : G) → EachOf NoLanding (stages event reply event_of meaning other from)
    else_stages event_of meaning other from = of_stages NoLanding event reply other event_of meaning from (λ entry same. else_deed entry.deed)

  shared_only : (made : List Item) → Each NoLanding (map Shared made)
  shared_only [] = tt
  shared_only (x ∷ made) = (tt, shared_only made)

  by_places : (made : List (SharedCall × SharedReply)) (items : List Made) → Places made items → Each NoLanding items
  by_places made items (xs, is, are) = subst (Each NoLanding) (sym is) (shared_only xs)

  opening_lands_none : (plan : Plan) (worker : ℕ) → EachOf NoLanding (opening plan worker)
  opening_lands_none plan worker = of_opening (λ O part. EachOf NoLanding part) (through NoLanding) plan worker (λ other. else_stages event.Starts reply.Starts (λ e r. tt) starts_event starts_meaning other starts_stage.WaitStart)

  closing_lands_none : (plan : Plan) (worker : ℕ) → EachOf NoLanding (closing plan worker)
  closing_lands_none plan worker = of_closing (λ O part. EachOf NoLanding part) (through NoLanding) plan worker
      (λ other. else_stages event.WaitGroup reply.WaitGroup (λ e r. tt) group_event group_meaning other group_stage.Done)
      (λ other. else_stages event.Starts reply.Starts (λ e r. tt) starts_event starts_meaning other starts_stage.End)

  halt_else : (misuse : Misuse) (x : Made) → IsHalt misuse x → NoLanding x
  halt_else misuse (Shared x) is = tt
  halt_else misuse (Entered other entry) is = λ same. subst IsElse (sym is) tt

  halts_land_none : (ending : LineEnd) (halts : List Made) → AreHalts ending halts → Each NoLanding halts
  halts_land_none (misused misuse) halts all = each_from NoLanding halts (λ i x at. halt_else misuse x (item_of (IsHalt misuse) halts i x all at))
  halts_land_none whole halts none = subst (Each NoLanding) (sym none) tt
  halts_land_none (halted misuse) halts none = subst (Each NoLanding) (sym none) tt
  halts_land_none unfinished halts none = subst (Each NoLanding) (sym none) tt
  halts_land_none (stayed stay) halts none = subst (Each NoLanding) (sym none) tt

  -- whoever comes for a key lands nothing by that
  abbrev IsNoLand : FlightStage → Type 0
  IsNoLand (stage.Join key) = Unit {0}
  IsNoLand (stage.Land value) = ⊥
  IsNoLand stage.Leave = Unit {0}

  abbrev deeds : List (Entry FlightEvent FlightReply) → List (Deed FlightEvent FlightReply)
  deeds entries = map (λ entry. entry.deed) entries

  else_event : (from : FlightStage) (now : ℕ) (r : FlightReply) → IsNoLand from → IsElse (Event (event.Flight (flight_event from now)) (reply.Flight r))
  else_event (stage.Join key) now r is = tt
  else_event (stage.Land value) now r is = absurd is
  else_event stage.Leave now r is = tt

  rests : (from : FlightStage) (r : FlightReply) (rest : List (Deed FlightEvent FlightReply)) (on : FlightStage → Type 0) (answer : CallAnswer FlightOutcome) → IsNoLand from → Rest (flight_meaning from r) rest on answer → (rest ≡ []) ⊎ on stage.Leave
  rests (stage.Join key) flown.Lead rest on answer is goes = inl goes.0
  rests (stage.Join key) flown.Queued rest on answer is goes = inr goes
  rests (stage.Join key) (flown.Landed shared) rest on answer is goes = absurd goes
  rests (stage.Join key) (flown.Left value) rest on answer is goes = absurd goes
  rests (stage.Join key) flown.Still rest on answer is goes = absurd goes
  rests (stage.Land value) r rest on answer is goes = absurd is
  rests stage.Leave (flown.Left value) rest on answer is goes = inl goes.0
  rests stage.Leave flown.Still rest on answer is goes = inr goes
  rests stage.Leave flown.Lead rest on answer is goes = absurd goes
  rests stage.Leave flown.Queued rest on answer is goes = absurd goes
  rests stage.Leave (flown.Landed shared) rest on answer is goes = absurd goes

  abbrev entered : List (Entry FlightEvent FlightReply) → List Made
  entered entries = map (λ entry. Entered object (lifted event.Flight reply.Flight entry)) entries

  no_deeds : (entries : List (Entry FlightEvent FlightReply)) → deeds entries ≡ [] → Each NoLanding (entered entries)
  no_deeds [] none = tt
  no_deeds (x ∷ entries) none = absurd cc

  comes_only : (from : FlightStage) → IsNoLand from → (entries : List (Entry FlightEvent FlightReply)) (answer : CallAnswer FlightOutcome) → Spells flight_event flight_meaning from (deeds entries) answer → Each NoLanding (entered entries)
  comes_only from is [] answer spelt = absurd spelt
  comes_only from is (x ∷ rest) answer spelt = by_deed (λ later. comes_only stage.Leave tt rest answer later) x.deed refl spelt where
    by_rest : (Spells flight_event flight_meaning stage.Leave (deeds rest) answer → Each NoLanding (entered rest)) → (deeds rest ≡ []) ⊎ Spells flight_event flight_meaning stage.Leave (deeds rest) answer → Each NoLanding (entered rest)
    by_rest later (inl none) = no_deeds rest none
    by_rest later (inr goes) = later goes

    by_deed : (Spells flight_event flight_meaning stage.Leave (deeds rest) answer → Each NoLanding (entered rest)) → (d : Deed FlightEvent FlightReply) → x.deed ≡ d
        → IsFirstDeed flight_event flight_meaning from d (deeds rest) (λ later. Spells flight_event flight_meaning later (deeds rest) answer) answer → Each NoLanding (entered (x ∷ rest))
    by_deed later (Event e r) deed (at, goes) = (
      (λ same. subst IsElse (sym (ap (lifted_deed event.Flight reply.Flight) (deed ∙ ap (λ (f : FlightEvent). Event f r) at.1))) (else_event from at.0 r is)),
      by_rest later (rests from r (deeds rest) (λ later. Spells flight_event flight_meaning later (deeds rest) answer) answer is goes),
    )
    by_deed later (Refused e misuse) deed (at, none, halts) = ((λ same. subst IsElse (sym (ap (lifted_deed event.Flight reply.Flight) deed)) tt), no_deeds rest none)
    by_deed later (Halt misuse) deed first = absurd first

  module _ (a : ℕ) (amount : ℤ) where
    -- what stands before a landing with a value ends in its lead, and one `add` that came to the value
    pub record LandsFrom (front : List Made) (value : ℤ) : Type 0 where
      pub before : List Made
      pub lead : ObjectEntry
      pub key : ℕ
      pub add : Item
      pub are : front ≡ before ++ Entered object lead ∷ (Shared add ∷ [])
      pub leads : IsOnFlights (Join key) flown.Lead lead
      pub adds : add.call ≡ calls.Atomic a (Add (Int64 amount))
      pub comes_to : add.reply ≡ answers.Atomic (Held (Int64 value))

    -- so it is of each landing of these items
    abbrev pub Lands : List Made → Type 0
    Lands items = (front rest : List Made) (landing : ObjectEntry) (value : ℤ) (shared : Bool) → items ≡ front ++ Entered object landing ∷ rest → IsOnFlights (Land value) (flown.Landed shared) landing → LandsFrom front value

    lands_both : (xs ys : List Made) → Lands xs → Lands ys → Lands (xs ++ ys)
    lands_both xs ys one other front rest landing value shared are is = by_part (split_both xs ys front rest (Entered object landing) are) where
      by_part : ((more : List Made) × (xs ≡ front ++ Entered object landing ∷ more)) ⊎ ((less : List Made) × (front ≡ xs ++ less) × (ys ≡ less ++ Entered object landing ∷ rest)) → LandsFrom front value
      by_part (inl (more, parts)) = one front more landing value shared parts is
      by_part (inr (less, parts, behind)) =
          let l = other less rest landing value shared behind is in
          record {
            before = xs ++ l.before;
            lead = l.lead;
            key = l.key;
            add = l.add;
            are = parts ∙ (ap (λ (zs : List Made). xs ++ zs) l.are ∙ sym (append_assoc xs l.before (Entered object l.lead ∷ (Shared l.add ∷ []))));
            leads = l.leads;
            adds = l.adds;
            comes_to = l.comes_to;
          }

    lands_first : (xs ys : List Made) → Lands (xs ++ ys) → Lands xs
    lands_first xs ys both front rest landing value shared are is = both front (rest ++ ys) landing value shared (ap (λ (l : List Made). l ++ ys) are ∙ append_assoc front (Entered object landing ∷ rest) ys) is

    pub lands_none : (items : List Made) → Each NoLanding items → Lands items
    lands_none items none front rest landing value shared are is =
        let at = subst (λ (l : List Made). slice_get l (length front) ≡ Some (Entered object landing)) (sym are) (at_length front rest (Entered object landing)) in
        let item : NoLanding (Entered object landing) = each_at NoLanding items (length front) (Entered object landing) at none in
        absurd (subst IsElse is (item refl))

    abbrev LandsOf : {O : Type 0} → Part O → Type 0
    LandsOf {O} part = (items : List Made) (answer : CallAnswer O) → part items answer → Lands items

    lands_later : {O P : Type 0} (next : O → Part P) (given : CallAnswer O) (later : List Made) (answer : CallAnswer P) → ((outcome : O) → LandsOf (next outcome)) → GoesOn next given later answer → Lands later
    lands_later next (Done (Ok outcome)) later answer each goes = each outcome later answer goes
    lands_later next (Done (Err misuse)) later answer each goes = subst Lands (sym goes.0) (lands_none [] tt)
    lands_later next (Halted misuse) later answer each goes = subst Lands (sym goes.0) (lands_none [] tt)

    lands_through : GoesThrough (λ O part. LandsOf part)
    lands_through = record {
      returned = λ O outcome items answer is. subst Lands (sym is.0) (lands_none [] tt);
      none = λ O items answer is. absurd is;
      behind = λ O P first next one later items answer made. subst Lands (sym made.3) (lands_both made.0 made.1 (one made.0 made.2 made.4) (lands_later next made.2 made.1 answer later made.5));
      read = λ O P f part one items answer made. one items made.0 made.1;
    }

    lands_each : {O : Type 0} (part : Part O) → EachOf NoLanding part → LandsOf part
    lands_each part each items answer made = lands_none items (each items answer made)

    abbrev lands_parts : HoldsOfParts (λ O part. LandsOf part)
    lands_parts = record {
      through = lands_through;
      mutex = λ other from. lands_each _ (else_stages event.Mutex reply.Mutex (λ e r. tt) _ _ other from);
      rw_mutex = λ other from. lands_each _ (else_stages event.RwMutex reply.RwMutex (λ e r. tt) _ _ other from);
      writes = λ other items answer locks. lands_none items (subst (Each NoLanding) (sym locks.1) (else_entries event.RwMutex reply.RwMutex (λ e r. tt) other locks.0));
      cond = λ other from. lands_each _ (else_stages event.Cond reply.Cond (λ e r. tt) _ _ other from);
      wait_group = λ other from. lands_each _ (else_stages event.WaitGroup reply.WaitGroup (λ e r. tt) _ _ other from);
      once = λ other from. lands_each _ (else_stages event.Once reply.Once (λ e r. tt) _ _ other from);
      func = λ other from. lands_each _ (else_stages event.OnceFunc reply.OnceFunc (λ e r. tt) _ _ other from);
      value = λ other from. lands_each _ (else_stages event.OnceValue reply.OnceValue (λ e r. tt) _ _ other from);
      pool = λ other from. lands_each _ (else_stages event.Pool reply.Pool (λ e r. tt) _ _ other from);
      sema = λ other from. lands_each _ (else_stages event.Sema reply.Sema (λ e r. tt) _ _ other from);
      added = λ b sum items answer spelt. lands_none items (by_places _ items spelt.1);
      atomic = λ b call items answer spelt. lands_none items (by_places _ items spelt.1);
      range = λ keys m begin items answer spelt. lands_none items (by_places _ items spelt.2);
    }

    -- a call on another group lands nothing at this one
    elsewhere_lands : (other b : ℕ) (by : ℤ) (key : ℕ) → other ≢ object → LandsOf (fly_call other b by key)
    elsewhere_lands other b by key apart = lands_each _ (of_fly (λ O part. EachOf NoLanding part) (through NoLanding) other b by key
        (λ from. of_stages NoLanding event.Flight reply.Flight other flight_event flight_meaning from (λ entry same. absurd (apart same)))
        (λ items answer spelt. by_places _ items spelt.1))

    module _ (gives : FlightGives) (key : ℕ) where
      -- the part that lands is one event
      short : (value : ℤ) (r : FlightReply) → IsShort (flight_meaning (stage.Land value) r)
      short value flown.Lead = tt
      short value flown.Queued = tt
      short value (flown.Landed shared) = tt
      short value (flown.Left other) = tt
      short value flown.Still = tt

      one_landing : (sum value : ℤ) (shared : Bool) (entry landing : ObjectEntry) (r : ObjectReply) (front rest : List Made) → entry.deed ≡ Event (event.Flight (Land sum)) r → Entered object entry ∷ [] ≡ front ++ Entered object landing ∷ rest
          → IsOnFlights (Land value) (flown.Landed shared) landing → (front ≡ []) × (sum ≡ value)
      one_landing sum value shared entry landing r [] rest made are is =
          let same : entry ≡ landing = cc in
          let lands : Event (event.Flight (Land sum)) r ≡ Event (event.Flight (Land value)) (reply.Flight (flown.Landed shared)) = sym made ∙ (ap (λ (e : ObjectEntry). e.deed) same ∙ is) in
          (refl, (cc))
      one_landing sum value shared entry landing r (x ∷ []) rest made are is = absurd cc
      one_landing sum value shared entry landing r (x ∷ (y ∷ front)) rest made are is = absurd cc

      none_refused : (value : ℤ) (shared : Bool) (misuse : Misuse) (e : ObjectEvent) (entry landing : ObjectEntry) (front rest : List Made) → entry.deed ≡ Refused e misuse → Entered object entry ∷ [] ≡ front ++ Entered object landing ∷ rest
          → IsOnFlights (Land value) (flown.Landed shared) landing → ⊥
      none_refused value shared misuse e entry landing [] rest made are is =
          let same : entry ≡ landing = cc in
          let lands : Refused e misuse ≡ Event (event.Flight (Land value)) (reply.Flight (flown.Landed shared)) = sym made ∙ (ap (λ (e : ObjectEntry). e.deed) same ∙ is) in
          cc
      none_refused value shared misuse e entry landing (x ∷ []) rest made are is = absurd cc
      none_refused value shared misuse e entry landing (x ∷ (y ∷ front)) rest made are is = absurd cc

      landing_alone : (sum : ℤ) (items : List Made) (answer : CallAnswer FlightOutcome) → flight_part object (stage.Land sum) items answer
          → (front rest : List Made) (landing : ObjectEntry) (value : ℤ) (shared : Bool) → items ≡ front ++ Entered object landing ∷ rest → IsOnFlights (Land value) (flown.Landed shared) landing → (front ≡ []) × (sum ≡ value)
      landing_alone sum items answer made front rest landing value shared are is = by_event (alone event.Flight reply.Flight flight_event flight_meaning object (stage.Land sum) (Land sum) (λ now. refl) (short sum) items answer made) where
        by_event : Alone event.Flight reply.Flight flight_event flight_meaning object (stage.Land sum) (Land sum) (λ now. refl) items answer → (front ≡ []) × (sum ≡ value)
        by_event (inl (r, one, given)) = one_landing sum value shared one.entry landing (reply.Flight r) front rest one.deed (sym one.are ∙ are) is
        by_event (inr (misuse, one, given)) = absurd (none_refused value shared misuse (event.Flight (Land sum)) one.entry landing front rest one.deed (sym one.are ∙ are) is)

      -- the items of a call that leads
      lead_lands : (lead : ObjectEntry) (x : Item) (sum : ℤ) (later : List Made) (answer : CallAnswer FlightOutcome) → IsOnFlights (Join key) flown.Lead lead → x.call ≡ calls.Atomic a (Add (Int64 amount)) → x.reply ≡ answers.Atomic (Held (Int64 sum))
          → flight_part object (stage.Land sum) later answer → Lands (Entered object lead ∷ (Shared x ∷ later))
      lead_lands lead x sum later answer leads asked replied made [] rest landing value shared are is =
          let same : lead ≡ landing = cc in
          let lands : Event (event.Flight (Join key)) (reply.Flight flown.Lead) ≡ Event (event.Flight (Land value)) (reply.Flight (flown.Landed shared)) = sym leads ∙ (ap (λ (e : ObjectEntry). e.deed) same ∙ is) in
          absurd cc
      lead_lands lead x sum later answer leads asked replied made (y ∷ []) rest landing value shared are is = absurd cc
      lead_lands lead x sum later answer leads asked replied made (y ∷ (z ∷ front)) rest landing value shared are is =
          let first : Entered object lead ≡ y = cc in
          let second : Shared x ≡ z = cc in
          let behind : later ≡ front ++ Entered object landing ∷ rest = cc in
          let last = landing_alone sum later answer made front rest landing value shared behind is in
          record {
            before = [];
            lead = lead;
            key = key;
            add = x;
            are = ap (λ (l : List Made). y ∷ (z ∷ l)) last.0 ∙ (ap (λ (w : Made). w ∷ (z ∷ [])) (sym first) ∙ ap (λ (w : Made). Entered object lead ∷ (w ∷ [])) (sym second));
            leads = leads;
            adds = asked;
            comes_to = replied ∙ ap (λ (v : ℤ). answers.Atomic (Held (Int64 v))) last.1;
          }

      abbrev landing_part : ℤ → Part (Reply ℕ)
      landing_part value = read_as (λ outcome. replies.Flown value (was_shared outcome)) (flight_part object (stage.Land value))

      by_lead : (xs ys : List Made) (answer : CallAnswer (Reply ℕ)) → flight_part object (stage.Join key) xs (Done (Ok outcome.Lead)) → and_then (adds a amount) landing_part ys answer → Lands (xs ++ ys)
      by_lead xs ys answer made (adding, later, given, are, added, goes) =
          let lead = leads object key gives xs made in
          let x = one_place (calls.Atomic a (Add (Int64 amount))) (answers.Atomic (Held (Int64 added.0))) adding added.1 in
          let lands = subst (λ (g : CallAnswer ℤ). GoesOn landing_part g later answer) added.2 goes in
          let items : xs ++ ys ≡ Entered object lead.entry ∷ (Shared x.0 ∷ later) = ap (λ (l : List Made). l ++ ys) lead.are ∙ (ap (λ (l : List Made). Entered object lead.entry ∷ l) are ∙ ap (λ (l : List Made). Entered object lead.entry ∷ (l ++ later)) x.1) in
          subst Lands (sym items) (lead_lands lead.entry x.0 added.0 later lands.0 lead.deed x.2 x.3 lands.1)

      own_lands : LandsOf (fly_call object a amount key)
      own_lands items answer (xs, ys, given, are, made, goes) = subst Lands (sym are) (by_given given made goes) where
        ends : Lands xs → ys ≡ [] → Lands (xs ++ ys)
        ends first none = lands_both xs ys first (subst Lands (sym none) (lands_none [] tt))

        by_given : (given : CallAnswer FlightOutcome) → flight_part object (stage.Join key) xs given → GoesOn (goes_on_flight (flight_part object) (adds a amount)) given ys answer → Lands (xs ++ ys)
        by_given (Done (Ok outcome.Lead)) made goes = by_lead xs ys answer made goes
        by_given (Done (Ok (outcome.Got value))) made goes = ends (lands_none xs (subst (Each NoLanding) (sym made.1) (comes_only (stage.Join key) tt made.0 (Done (Ok (outcome.Got value))) made.2))) goes.0
        by_given (Done (Ok (outcome.Landed shared))) made goes = absurd goes
        by_given (Done (Err misuse)) made goes = ends (lands_none xs (subst (Each NoLanding) (sym made.1) (comes_only (stage.Join key) tt made.0 (Done (Err misuse)) made.2))) goes.0
        by_given (Halted misuse) made goes = ends (lands_none xs (subst (Each NoLanding) (sym made.1) (comes_only (stage.Join key) tt made.0 (Halted misuse) made.2))) goes.0

-- so it is of the calls of a workload, and of its lines
module _ (gives : FlightGives) (plan : Plan) (place atomic : ℕ) (amount : ℤ) (group : ObjectLine) (there : slice_get plan.objects place ≡ Some group) (of_kind : group.kind ≡ kinds.Flight atomic amount) where
  abbrev object : ℕ
  object = object_number place

  abbrev a : ℕ
  a = atomic_number plan.objects atomic

  abbrev pub LandsHere : List Made → Type 0
  LandsHere items = Lands object a amount items

  fly_lands : (other : ℕ) (line : ObjectLine) (b : ℕ) (by : ℤ) (key : ℕ) → slice_get plan.objects other ≡ Some line → line.kind ≡ kinds.Flight b by → LandsOf object a amount (fly_call (object_number other) (atomic_number plan.objects b) by key)
  fly_lands other line b by key at kind = by_place (other == place) refl where
    by_place : (t : Bool) → (other == place) ≡ t → LandsOf object a amount (fly_call (object_number other) (atomic_number plan.objects b) by key)
    by_place true is =
        let same : other ≡ place = eqb-true other place is in
        let lines : line ≡ group = same_Some line group (sym at ∙ (ap (λ (p : ℕ). slice_get plan.objects p) same ∙ there)) in
        let both : kinds.Flight b by ≡ kinds.Flight atomic amount = sym kind ∙ (ap (λ (l : ObjectLine). l.kind) lines ∙ of_kind) in
        let atomics : b ≡ atomic = cc in
        let amounts : by ≡ amount = cc in
        subst (λ (p : ℕ). LandsOf object a amount (fly_call (object_number p) (atomic_number plan.objects b) by key)) (sym same)
        (subst (λ (n : ℕ). LandsOf object a amount (fly_call object (atomic_number plan.objects n) by key)) (sym atomics)
        (subst (λ (v : ℤ). LandsOf object a amount (fly_call object a v key)) (sym amounts) (own_lands object a amount gives key)))
    by_place false is = elsewhere_lands object a amount (object_number other) (atomic_number plan.objects b) by key (λ same. false≢true (sym is ∙ eq-eqb other place (omega (arith, same))))

  call_lands : (worker before : ℕ) (call : Call) → LandsOf object a amount (SpellsCall plan worker before call)
  call_lands worker before call = holds_of_call (λ O part. LandsOf object a amount part) (lands_parts object a amount) plan worker before call
      (λ m op is items answer spelt. lands_none object a amount items (by_places object _ items spelt.1))
      (λ other started is. lands_each object a amount _ (else_stages object event.Starts reply.Starts (λ e r. tt) starts_event starts_meaning other (starts_stage.Start started)))
      (λ line b by key at kind called. fly_lands call.object line b by (key_number (keys_in plan.scripts) key) at kind)

  module _ (worker : ℕ) where
    spelt_lands : (before : ℕ) (spelt : List SpeltCall) → AreSpelt plan worker before spelt → LandsHere (flat_map (λ s. s.items) spelt)
    spelt_lands before [] are = lands_none object a amount [] tt
    spelt_lands before (s ∷ spelt) are = lands_both object a amount s.items (flat_map (λ t. t.items) spelt)
        (call_lands worker before s.call s.items (Done (Ok s.reply)) are.0) (spelt_lands (before + length (shared_in s.items)) spelt are.1)

    closed : (items : List Made) (answer : CallAnswer (Unit {0})) → closing plan worker items answer → LandsHere items
    closed items answer closes = lands_none object a amount items (closing_lands_none object plan worker items answer closes)

    last_lands : (before : ℕ) (ending : LineEnd) (rest : List Call) (last : List Made) → EndsBy plan worker before ending rest last → LandsHere last
    last_lands before whole rest last ends = closed last (Done (Ok tt)) ends.1
    last_lands before (misused misuse) [] last ends = closed last (Done (Err misuse)) ends
    last_lands before (misused misuse) (call ∷ rest) last ends = call_lands worker before call last (Done (Err misuse)) ends
    last_lands before (halted misuse) [] last ends = closed last (Halted misuse) ends
    last_lands before (halted misuse) (call ∷ rest) last ends = call_lands worker before call last (Halted misuse) ends
    last_lands before unfinished [] last (later, answer, some, closes) = lands_first object a amount last later (closed (last ++ later) answer closes)
    last_lands before unfinished (call ∷ rest) last (later, answer, spelt) = lands_first object a amount last later (call_lands worker before call (last ++ later) answer spelt)
    last_lands before (stayed stay) rest last none = subst LandsHere (sym none) (lands_none object a amount [] tt)

    pub line_lands : (line : Line) → IsLineOf plan worker line → LandsHere (items_of line)
    line_lands line is =
        let made = flat_map (λ (s : SpeltCall). s.items) line.spelt in
        lands_both object a amount line.first (made ++ (line.last ++ line.halts))
        (lands_none object a amount line.first (each_first (NoLanding object) plan worker (opening_lands_none object plan worker) line.ending line.spelt line.first is.opens))
        (lands_both object a amount made (line.last ++ line.halts)
        (spelt_lands 0 line.spelt is.calls)
        (lands_both object a amount line.last line.halts
        (last_lands (length (shared_in made)) line.ending line.rest line.last is.ends)
        (lands_none object a amount line.halts (halts_land_none object line.ending line.halts is.halts))))
