-- What stands before the script of a worker that waits to be started.
use Rattle.std.proofs.Common.{◌≡◌, ℕ, Bool, true, false, cond, List, [], ◌∷◌, ◌++◌, map, length, refl, sym, ap, ◌∙◌, subst, ne_eqb}
use Rattle.std.specs.Prelude.{Ok}
use Rattle.std.specs.List.{flat_map}
use Rattle.std.proofs.lemmas.Bool.{false≢true}
use Rattle.std.proofs.lemmas.List.{append-nil}
use Rattle.sync_model.specs.declared.answer.Answer.TheVariants.{Done}
use Rattle.sync_model.specs.declared.journal.Deed.{Deed}
use Rattle.sync_model.specs.declared.journal.Deed.TheVariants.{Event, Refused, Halt}
use Rattle.sync_model.specs.declared.journal.Entry.{Entry}
use Rattle.protocols.specs.Spelling.{CallAnswer, IsFirstDeed, Spells}
use Rattle.starts_core.specs.declared.protocol.StartsOutcome.{StartsOutcome}
use Rattle.starts_core.specs.declared.protocol.StartsStage.{StartsStage}
use Rattle.starts_core.specs.declared.protocol.StartsStage.TheVariants as stage
use Rattle.starts_core.specs.declared.starts.StartEvent.{StartEvent}
use Rattle.starts_core.specs.declared.starts.StartEvent.TheVariants as starts
use Rattle.starts_core.specs.declared.starts.StartReply.{StartReply}
use Rattle.starts_core.specs.declared.starts.StartReply.TheVariants as answers
use Rattle.starts_core.specs.StartsStages.{starts_event, starts_meaning}
use Rattle.workload.specs.Plan.{Plan, is_dormant}
use Rattle.run_record.specs.declared.entered.ObjectEvent.TheVariants as event
use Rattle.run_record.specs.declared.entered.ObjectReply.TheVariants as reply
use Rattle.run_record.specs.declared.made.Made.{Made}
use Rattle.run_record.specs.declared.made.Made.TheVariants.{Shared, Entered}
use Rattle.run_record.specs.Lines.{SpeltCall, Stay, LineEnd, whole, misused, halted, unfinished, stayed, Line, items_of, AreHalts, EndsBy, OpensBy, IsLineOf}
use Rattle.run_record.specs.Objects.{starts_number}
use Rattle.run_record.specs.Parts.{returns, with_outcome, lifted}
use Rattle.run_record.specs.Record.{ObjectEntry, shared_in, entries_in}
use Rattle.run_record.specs.StartsKind.{was_started, wait_start_part, opening}
use Rattle.run_record.proofs.Having.{Each}
use Rattle.run_record.proofs.LineParts.{each_first}
use Rattle.run_record.proofs.ListOrder.{entries_first}
use Rattle.run_record.proofs.PlainLemmas.{comes}

-- the item is an entry of this object
abbrev IsOn : ℕ → Made → Type 0
IsOn object (Shared x) = ⊥
IsOn object (Entered other entry) = other ≡ object

none_elsewhere : (object other : ℕ) (items : List Made) → Each (IsOn object) items → (other ≡ object → ⊥) → entries_in other items ≡ []
none_elsewhere object other [] each apart = refl
none_elsewhere object other (Shared x ∷ items) each apart = absurd each.0
none_elsewhere object other (Entered one entry ∷ items) each apart =
    ap (λ (b : Bool). cond b (entry ∷ entries_in other items) (entries_in other items)) (ne_eqb one other (λ same. apart (sym same ∙ each.0))) ∙ none_elsewhere object other items each.1 apart

-- an entry of Starts, as an item of a list
abbrev pub started_on : ℕ → Entry StartEvent StartReply → Made
started_on object entry = Entered object (lifted event.Starts reply.Starts entry)

entries_on : (object : ℕ) (entries : List (Entry StartEvent StartReply)) → Each (IsOn object) (map (started_on object) entries)
entries_on object [] = tt
entries_on object (entry ∷ entries) = (refl, entries_on object entries)

module _ (plan : Plan) (worker : ℕ) where
  opening_on : (items : List Made) (answer : CallAnswer Bool) → opening plan worker items answer → Each (IsOn (starts_number plan)) items
  opening_on items answer opens = by_waiting (is_dormant plan worker) opens where
    by_waiting : (b : Bool) → cond b (wait_start_part (starts_number plan)) (returns true) items answer → Each (IsOn (starts_number plan)) items
    by_waiting true (given, (entries, is, spelt), read) = subst (Each (IsOn (starts_number plan))) (sym is) (entries_on (starts_number plan) entries)
    by_waiting false (none, is) = subst (Each (IsOn (starts_number plan))) (sym none) tt

  -- the list of a worker that stayed is what stands before its script
  module _ (line : Line) (stay : Stay) (is : IsLineOf plan worker line) (ending : line.ending ≡ stayed stay) where
    pub no_calls : line.spelt ≡ []
    no_calls = (subst (λ (e : LineEnd). OpensBy plan worker e line.spelt line.first) ending is.opens).0

    pub first_alone : items_of line ≡ line.first
    first_alone =
        let none : line.last ≡ [] = subst (λ (e : LineEnd). EndsBy plan worker (length (shared_in (flat_map (λ spelt. spelt.items) line.spelt))) e line.rest line.last) ending is.ends in
        let unhalted : line.halts ≡ [] = subst (λ (e : LineEnd). AreHalts e line.halts) ending is.halts in
        ap (λ (l : List SpeltCall). line.first ++ (flat_map (λ spelt. spelt.items) l ++ (line.last ++ line.halts))) no_calls
        ∙ (ap (λ (l : List Made). line.first ++ (l ++ line.halts)) none ∙ (ap (λ (l : List Made). line.first ++ l) unhalted ∙ append-nil line.first))

    pub none_but_starts : (object : ℕ) → (object ≡ starts_number plan → ⊥) → entries_in object line.first ≡ []
    none_but_starts object apart = none_elsewhere (starts_number plan) object line.first (each_first (IsOn (starts_number plan)) plan worker opening_on line.ending line.spelt line.first is.opens) apart

  -- and one that didn't stay came to its script
  pub came_by : (ending : LineEnd) (spelt : List SpeltCall) (first : List Made) → ((stay : Stay) → ending ≡ stayed stay → ⊥) → OpensBy plan worker ending spelt first → opening plan worker first (Done (Ok true))
  came_by whole spelt first came opens = opens
  came_by (misused misuse) spelt first came opens = opens
  came_by (halted misuse) spelt first came opens = opens
  came_by unfinished spelt first came opens = opens
  came_by (stayed stay) spelt first came opens = absurd (came stay refl)

-- it asked, and at last was told to go
pub record IsGoing (entries : List (Entry StartEvent StartReply)) : Type 0 where
  pub earlier : List (Entry StartEvent StartReply)
  pub leave : Entry StartEvent StartReply
  pub are : entries ≡ earlier ++ leave ∷ []
  pub asks : Each (λ entry. entry.deed ≡ Event starts.Leave answers.Still) earlier
  pub goes : leave.deed ≡ Event starts.Leave answers.Go

abbrev deeds_of : List (Entry StartEvent StartReply) → List (Deed StartEvent StartReply)
deeds_of entries = map (λ entry. entry.deed) entries

abbrev Waits : List (Deed StartEvent StartReply) → CallAnswer StartsOutcome → Type 0
Waits deeds given = Spells starts_event starts_meaning stage.WaitStart deeds given

no_deeds : (entries : List (Entry StartEvent StartReply)) → deeds_of entries ≡ [] → entries ≡ []
no_deeds [] none = refl
no_deeds (x ∷ entries) none = cc

going : (entries : List (Entry StartEvent StartReply)) (given : CallAnswer StartsOutcome) → comes (with_outcome was_started given) ≡ true → Waits (deeds_of entries) given → IsGoing entries
going [] given came spelt = absurd spelt
going (x ∷ entries) given came spelt = by_deed (λ rest. going entries given came rest) x.deed refl spelt where
  by_deed : (Waits (deeds_of entries) given → IsGoing entries) → (d : Deed StartEvent StartReply) → x.deed ≡ d
      → IsFirstDeed starts_event starts_meaning stage.WaitStart d (deeds_of entries) (λ (later : StartsStage). Spells starts_event starts_meaning later (deeds_of entries) given) given → IsGoing (x ∷ entries)
  by_deed later (Event e answers.Done) is (at, none) = absurd none
  by_deed later (Event e answers.Go) is (at, (none, given_is)) = record {
    earlier = [];
    leave = x;
    are = ap (λ (l : List (Entry StartEvent StartReply)). x ∷ l) (no_deeds entries none);
    asks = tt;
    goes = is ∙ ap (λ (f : StartEvent). Event f answers.Go) at.1;
  }
  by_deed later (Event e answers.Never) is (at, (none, given_is)) = absurd (false≢true (sym (ap (λ (a : CallAnswer StartsOutcome). comes (with_outcome was_started a)) given_is) ∙ came))
  by_deed later (Event e answers.Still) is (at, rest) = let g = later rest in record {
    earlier = x ∷ g.earlier;
    leave = g.leave;
    are = ap (λ (l : List (Entry StartEvent StartReply)). x ∷ l) g.are;
    asks = (is ∙ ap (λ (f : StartEvent). Event f answers.Still) at.1, g.asks);
    goes = g.goes;
  }
  by_deed later (Refused e misuse) is (at, none, given_is) = absurd (false≢true (sym (ap (λ (a : CallAnswer StartsOutcome). comes (with_outcome was_started a)) given_is) ∙ came))
  by_deed later (Halt misuse) is none = absurd none

-- a worker that waits and comes to its script asks until it is told to go
pub record GoesBy (object : ℕ) (first : List Made) : Type 0 where
  pub earlier : List (Entry StartEvent StartReply)
  pub leave : Entry StartEvent StartReply
  pub are : first ≡ map (started_on object) earlier ++ started_on object leave ∷ []
  pub asks : Each (λ entry. entry.deed ≡ Event starts.Leave answers.Still) earlier
  pub goes : leave.deed ≡ Event starts.Leave answers.Go

map_both : (object : ℕ) (earlier : List (Entry StartEvent StartReply)) (leave : Entry StartEvent StartReply) → map (started_on object) (earlier ++ leave ∷ []) ≡ map (started_on object) earlier ++ started_on object leave ∷ []
map_both object [] leave = refl
map_both object (x ∷ earlier) leave = ap (λ (l : List Made). started_on object x ∷ l) (map_both object earlier leave)

pub goes_by : (plan : Plan) (worker : ℕ) (first : List Made) → is_dormant plan worker ≡ true → opening plan worker first (Done (Ok true)) → GoesBy (starts_number plan) first
goes_by plan worker first waits opens = by_part (subst (λ (b : Bool). cond b (wait_start_part (starts_number plan)) (returns true) first (Done (Ok true))) waits opens) where
  by_part : wait_start_part (starts_number plan) first (Done (Ok true)) → GoesBy (starts_number plan) first
  by_part (given, (entries, is, spelt), read) =
      let g = going entries given (sym (ap comes read)) spelt in
      record {
        earlier = g.earlier;
        leave = g.leave;
        are = is ∙ (ap (λ (l : List (Entry StartEvent StartReply)). map (started_on (starts_number plan)) l) g.are ∙ map_both (starts_number plan) g.earlier g.leave);
        asks = g.asks;
        goes = g.goes;
      }

-- the entries of Starts that it has made before are these
pub own_entries : (object : ℕ) (earlier : List (Entry StartEvent StartReply)) → entries_in object (map (started_on object) earlier) ≡ map (lifted event.Starts reply.Starts) earlier
own_entries object [] = refl
own_entries object (x ∷ earlier) = entries_first object (lifted event.Starts reply.Starts x) (map (started_on object) earlier) ∙ ap (λ (l : List ObjectEntry). lifted event.Starts reply.Starts x ∷ l) (own_entries object earlier)
