-- A flight that one of two callers leads and the other one joins, one from which the one who joined leaves with another value, and two that are led at the same time.
use Rattle.std.proofs.Common.{◌≡◌, ℕ, zero, suc, pos, ◌<◌, ◌≤◌, ◌==◌, Bool, true, false, cond, List, [], ◌∷◌, length, take, Option, Some, slice_get, slice_index, refl, sym, ap, ◌∙◌, subst, arith}
use Rattle.std.specs.Prelude.{Ok, unwrap_or}
use Rattle.std.proofs.lemmas.Bool.{eqb-true, false≢true, true≢false}
use Rattle.std.proofs.lemmas.Option.{none-some}
use Rattle.flight_core.specs.FlightEdges.{flight_releases, flight_acquires}
use Rattle.flight_core.specs.FlightMachine.{next, start}
use Rattle.flight_core.specs.declared.calls.FlightOutcome.TheVariants as flight_outcome
use Rattle.flight_core.specs.declared.event.FlightEvent.{FlightEvent}
use Rattle.flight_core.specs.declared.event.FlightEvent.TheVariants.{Join, Land, Leave}
use Rattle.flight_core.specs.declared.event.FlightReply.{FlightReply}
use Rattle.flight_core.specs.declared.event.FlightReply.TheVariants as flight_reply
use Rattle.script_calls.specs.declared.call.Reply.TheVariants.{Flown}
use Rattle.script_calls.specs.declared.outcome.Outcome.{Outcome}
use Rattle.sync_model.specs.declared.answer.Answer.TheVariants.{Done}
use Rattle.sync_model.specs.declared.item.Item.{Item}
use Rattle.sync_model.specs.declared.item.SharedEntry.{SharedEntry}
use Rattle.sync_model.specs.declared.journal.Deed.TheVariants.{Event}
use Rattle.sync_model.specs.declared.journal.Entry.{Entry}
use Rattle.sync_model.specs.Front.{AtLeast}
use Rattle.sync_model.specs.Journal.{by, is_such, KeepsEdges}
use Rattle.sync_model.specs.SharedCalls.{Lawful}
use Rattle.sync_model.specs.SharedHistory.{entries_by, marked_in}
use Rattle.workload.specs.declared.object.ObjectKind.TheVariants as kinds
use Rattle.workload.specs.declared.object.ObjectLine.{ObjectLine}
use Rattle.run_record.specs.declared.entered.ObjectEvent.TheVariants as event
use Rattle.run_record.specs.declared.entered.ObjectReply.TheVariants as reply
use Rattle.run_record.specs.declared.made.Made.{Made}
use Rattle.run_record.specs.declared.made.Made.TheVariants.{Shared, Entered}
use Rattle.run_record.specs.Calls.{IsJournalOf}
use Rattle.run_record.specs.Explains.{IsRecordOf, Explains}
use Rattle.run_record.specs.FlightKind.{IsFlightJournal}
use Rattle.run_record.specs.Lines.{SpeltCall, AreSpelt}
use Rattle.run_record.specs.Objects.{contents_of, is_pool}
use Rattle.run_record.specs.Record.{Record, ObjectEntry, object_number, journal_of, list_of, calls_of, shared_in, entries_in, front_of}
use Rattle.run_laws.specs.Examples.{declared, none_known}
use Rattle.run_laws.specs.ExamplesFlight.{plan, flies, outcome, leads, lands, joins, leaves, left_with, led_by_two}
use Rattle.run_laws.specs.ExamplesOnce.{adds, added, first_known}
use Rattle.run_laws.proofs.Backs.{flight_back, is_flight_back}
use Rattle.run_laws.proofs.OneCallEach.{IsFirst, one_each}
use Rattle.run_laws.proofs.SmallRecords.{ByScript, pair_at, none_at, above_none, same_known, EachFrom, from_at, each_at, no_third, whole_line, are_whole, both_ended}
use Rattle.run_laws.proofs.Unlifted.{follows_back}

abbrev r : Record
r = left_with 3

abbrev addition : Item
addition = adds 0 (pos 3) none_known

abbrev led : ObjectEntry
led = leads 0 none_known

abbrev landed : ObjectEntry
landed = lands 0 (pos 3) true first_known

abbrev journal : List ObjectEntry
journal = led ∷ joins ∷ landed ∷ leaves 3 ∷ []

abbrev made_first : List Made
made_first = Entered 2 led ∷ Shared addition ∷ Entered 2 landed ∷ []

abbrev made_second : List Made
made_second = Entered 2 joins ∷ Entered 2 (leaves 3) ∷ []

abbrev own_entry : ℕ → FlightEvent → FlightReply → List ℕ → Entry FlightEvent FlightReply
own_entry worker e r front = record { caller = worker; deed = Event e r; front = front; knew = 0; time = 0 }

abbrev own_lead : Entry FlightEvent FlightReply
own_lead = own_entry 0 (Join 0) flight_reply.Lead none_known

abbrev own_join : Entry FlightEvent FlightReply
own_join = own_entry 1 (Join 0) flight_reply.Queued none_known

abbrev own_land : Entry FlightEvent FlightReply
own_land = own_entry 0 (Land (pos 3)) (flight_reply.Landed true) first_known

abbrev own_leave : Entry FlightEvent FlightReply
own_leave = own_entry 1 Leave (flight_reply.Left (pos 3)) first_known

abbrev own : List (Entry FlightEvent FlightReply)
own = own_lead ∷ own_join ∷ own_land ∷ own_leave ∷ []

-- the landing alone releases, and the leaving knows what it knew
abbrev IsEdge : Entry FlightEvent FlightReply → Entry FlightEvent FlightReply → Type 0
IsEdge x y = is_such flight_releases x.deed ≡ true → is_such flight_acquires y.deed ≡ true → AtLeast y.front x.front

edges : KeepsEdges flight_releases flight_acquires own
edges i j x y before at_x at_y = pair_at IsEdge own (
  ((λ gives gains. absurd (false≢true gives)), ((λ gives gains. absurd (false≢true gives)), ((λ gives gains. absurd (false≢true gives)), tt))),
  (((λ gives gains. absurd (false≢true gives)), ((λ gives gains. absurd (false≢true gives)), tt)), (((λ gives gains. same_known first_known), tt), (tt, tt))),
) i j x y before at_x at_y

is_journal : IsFlightJournal 2 journal
is_journal = (own, refl, ((refl, refl), ((refl, refl), ((refl, refl), ((refl, refl), tt)))), edges)

-- the one call on an atomic
one_call : (P : ℕ → ℕ → Item → Type 0) → P 0 0 addition → (c j : ℕ) (x : Item) → slice_get (calls_of r c) j ≡ Some x → P c j x
one_call P first zero zero x at = subst (P 0 0) (ap (λ (o : Option Item). unwrap_or o x) at) first
one_call P first zero (suc j) x at = absurd (none-some x at)
one_call P first (suc zero) j x at = absurd (none-some x at)
one_call P first (suc (suc c)) j x at = absurd (none-some x at)

marked : (c : ℕ) → marked_in c (calls_of r c) ≡ entries_by c (added 0 (pos 3) ∷ [])
marked zero = refl
marked (suc zero) = refl
marked (suc (suc c)) = by_test (0 == suc (suc c)) refl where
  by_test : (b : Bool) → (0 == suc (suc c)) ≡ b → let numbered : ℕ × SharedEntry = (0, added 0 (pos 3)) in [] ≡ cond b (numbered ∷ []) []
  by_test true same = absurd (omega (arith, eqb-true 0 (suc (suc c)) same))
  by_test false other = refl

lawful_calls : Lawful (contents_of plan) (added 0 (pos 3) ∷ []) (calls_of r)
lawful_calls = one_each (contents_of plan) (added 0 (pos 3) ∷ []) (calls_of r)
    (one_call (λ c j x. IsFirst (contents_of plan) (added 0 (pos 3) ∷ []) j x) (record { alone = refl; knows = refl; plain = refl; place = omega arith; reply = refl; entry = refl }))
    (refl, refl, tt) marked

-- what there is in the lists
all_items : (P : ℕ → ℕ → Made → Type 0) → P 0 0 (Entered 2 led) → P 0 1 (Shared addition) → P 0 2 (Entered 2 landed) → P 1 0 (Entered 2 joins) → P 1 1 (Entered 2 (leaves 3))
    → (worker i : ℕ) (x : Made) → slice_get (list_of r worker) i ≡ Some x → P worker i x
all_items P a b c d e zero zero x at = subst (P 0 0) (ap (λ (o : Option Made). unwrap_or o x) at) a
all_items P a b c d e zero (suc zero) x at = subst (P 0 1) (ap (λ (o : Option Made). unwrap_or o x) at) b
all_items P a b c d e zero (suc (suc zero)) x at = subst (P 0 2) (ap (λ (o : Option Made). unwrap_or o x) at) c
all_items P a b c d e zero (suc (suc (suc i))) x at = absurd (none-some x at)
all_items P a b c d e (suc zero) zero x at = subst (P 1 0) (ap (λ (o : Option Made). unwrap_or o x) at) d
all_items P a b c d e (suc zero) (suc zero) x at = subst (P 1 1) (ap (λ (o : Option Made). unwrap_or o x) at) e
all_items P a b c d e (suc zero) (suc (suc i)) x at = absurd (none-some x at)
all_items P a b c d e (suc (suc worker)) i x at = absurd (none-some x at)

-- what stands behind others knows the addition, or is the addition
behind : (worker i j : ℕ) (x y : Made) → i < j → slice_get (list_of r worker) i ≡ Some x → slice_get (list_of r worker) j ≡ Some y → AtLeast (front_of y) (front_of x)
behind worker i j x y before at_x at_y =
    all_items (λ w i x. (j : ℕ) (y : Made) → i < j → slice_get (list_of r w) j ≡ Some y → AtLeast (front_of y) (front_of x))
    (λ j y before at. above_none (front_of y)) (λ j y before at. above_none (front_of y)) late (λ j y before at. above_none (front_of y)) alone worker i x at_x j y before at_y where
      late : (j : ℕ) (y : Made) → 2 < j → slice_get (list_of r 0) j ≡ Some y → AtLeast (front_of y) first_known
      late zero y before at = absurd (omega (arith, before))
      late (suc zero) y before at = absurd (omega (arith, before))
      late (suc (suc zero)) y before at = absurd (omega (arith, before))
      late (suc (suc (suc j))) y before at = absurd (none-some y at)

      alone : (j : ℕ) (y : Made) → 1 < j → slice_get (list_of r 1) j ≡ Some y → AtLeast (front_of y) first_known
      alone zero y before at = absurd (omega (arith, before))
      alone (suc zero) y before at = absurd (omega (arith, before))
      alone (suc (suc j)) y before at = absurd (none-some y at)

first_made : (c : ℕ) → slice_index first_known c ≤ length (calls_of r c)
first_made zero = omega arith
first_made (suc zero) = omega arith
first_made (suc (suc c)) = omega arith

-- two entries of the group are none of an object behind it
elsewhere : (one other : ObjectEntry) (object : ℕ) (b : Bool) → (2 == suc (suc (suc object))) ≡ b
    → cond (2 == suc (suc (suc object))) (one ∷ cond (2 == suc (suc (suc object))) (other ∷ []) []) (cond (2 == suc (suc (suc object))) (other ∷ []) []) ≡ []
elsewhere one other object true same = absurd (omega (arith, eqb-true 2 (suc (suc (suc object))) same))
elsewhere one other object false apart = ap (λ (b : Bool). cond b (one ∷ cond b (other ∷ []) []) (cond b (other ∷ []) [])) apart

once : (worker object : ℕ) → entries_in object (list_of r worker) ≡ by worker (journal_of r object)
once zero zero = refl
once zero (suc zero) = refl
once zero (suc (suc zero)) = refl
once zero (suc (suc (suc object))) = elsewhere led landed object (2 == suc (suc (suc object))) refl
once (suc zero) zero = refl
once (suc zero) (suc zero) = refl
once (suc zero) (suc (suc zero)) = refl
once (suc zero) (suc (suc (suc object))) = elsewhere joins (leaves 3) object (2 == suc (suc (suc object))) refl
once (suc (suc worker)) zero = refl
once (suc (suc worker)) (suc zero) = refl
once (suc (suc worker)) (suc (suc zero)) = sym (no_third worker journal (refl, (refl, (refl, (refl, tt)))))
once (suc (suc worker)) (suc (suc (suc object))) = refl

follow : EachFrom 0 (λ place object. IsJournalOf plan place object.kind (journal_of r (object_number place))) plan.objects
follow = (refl, (is_journal, tt))

is_record : IsRecordOf plan r
is_record = record {
  shared = lawful_calls;
  objects = refl;
  stops = λ k d within. absurd (omega (arith, within));
  journals = λ place object at. subst (λ (k : ℕ). IsJournalOf plan k object.kind (journal_of r (object_number k))) (omega arith) (from_at (λ place object. IsJournalOf plan place object.kind (journal_of r (object_number place))) 0 plan.objects follow place object at);
  parts = λ place part object at pool within. absurd (false≢true (sym (each_at (λ (o : ObjectLine). is_pool o.kind ≡ false) plan.objects (refl, (refl, tt)) place object at) ∙ ap is_pool pool));
  starts = λ waits. absurd (false≢true waits);
  once = once;
  fronts = record {
    rises = behind;
    own = all_items (λ w i x. slice_index (front_of x) w ≡ length (shared_in (take i (list_of r w)))) refl refl refl refl refl;
    made = λ worker i other x at. all_items (λ w i x. slice_index (front_of x) other ≤ length (calls_of r other))
        (omega (arith, none_at other)) (omega (arith, none_at other)) (first_made other) (omega (arith, none_at other)) (first_made other) worker i x at;
  };
}

abbrev first : List SpeltCall
first = record { call = flies; items = made_first; reply = Flown (pos 3) true } ∷ []

abbrev second : List SpeltCall
second = record { call = flies; items = made_second; reply = Flown (pos 3) true } ∷ []

spelt_first : AreSpelt plan 0 0 first
spelt_first = (
  (
    Entered 2 led ∷ [],
    Shared addition ∷ Entered 2 landed ∷ [],
    Done (Ok flight_outcome.Lead),
    refl,
    (own_lead ∷ [], refl, ((0, refl), (refl, refl))),
    (
      Shared addition ∷ [],
      Entered 2 landed ∷ [],
      Done (Ok (pos 3)),
      refl,
      (pos 3, (addition ∷ [], refl, refl), refl),
      (Done (Ok (flight_outcome.Landed true)), (own_land ∷ [], refl, ((0, refl), (refl, refl))), refl),
    ),
  ),
  tt,
)

spelt_second : AreSpelt plan 1 0 second
spelt_second = ((made_second, [], Done (Ok (flight_outcome.Got (pos 3))), refl, (own_join ∷ own_leave ∷ [], refl, ((0, refl), ((0, refl), (refl, refl)))), (refl, refl)), tt)

pub explained : ByScript → Explains plan outcome (left_with 3)
explained by_script = record {
  lines = whole_line first ∷ whole_line second ∷ [];
  are = (by_script plan _ _ _ refl).1 (record { scripts = refl; lists = refl; replies = refl; each = are_whole plan refl first second spelt_first spelt_second });
  lawful = is_record;
  agrees = (both_ended first second, refl);
}

-- the value that a caller leaves with
abbrev value_in : FlightReply → ℕ
value_in (flight_reply.Left (pos value)) = value
value_in given = 0

pub with_another : (other : Outcome) → Explains plan other (left_with 5) → ⊥
with_another other explains =
    let is : IsFlightJournal 2 (journal_of (left_with 5) 2) = explains.lawful.journals 1 (declared 102 (kinds.Flight 0 (pos 3))) refl in
    let follows = follows_back event.Flight reply.Flight flight_back is_flight_back next flight_releases flight_acquires (start 2) (journal_of (left_with 5) 2) is in
    absurd (omega (arith, ap value_in follows.1.1.1.0.1))

pub by_two : (other : Outcome) → Explains plan other led_by_two → ⊥
by_two other explains =
    let is : IsFlightJournal 2 (journal_of led_by_two 2) = explains.lawful.journals 1 (declared 102 (kinds.Flight 0 (pos 3))) refl in
    let follows = follows_back event.Flight reply.Flight flight_back is_flight_back next flight_releases flight_acquires (start 2) (journal_of led_by_two 2) is in
    true≢false (ap (flight_acquires (Join 0)) follows.1.0.1)
