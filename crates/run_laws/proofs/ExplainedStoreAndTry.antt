-- A store before a failed try, and a load behind it: what finds the store, and what doesn't and is in no order.
use Rattle.std.proofs.Common.{◌≡◌, ◌⊎◌, inl, inr, ℕ, zero, suc, ◌+◌, ◌<◌, ◌≤◌, ◌==◌, Bool, true, false, cond, List, [], ◌∷◌, length, take, Option, Some, slice_get, slice_index, refl, sym, ap, ◌∙◌, subst, arith}
use Rattle.std.specs.Prelude.{Ok, unwrap_or}
use Rattle.std.proofs.lemmas.Bool.{eqb-true, false≢true}
use Rattle.std.proofs.lemmas.Option.{none-some, same_Some}
use Rattle.mutex_core.specs.Edges.{acquires, releases}
use Rattle.mutex_core.specs.declared.event.MutexEvent.{MutexEvent}
use Rattle.mutex_core.specs.declared.event.MutexEvent.TheVariants.{Arrive, Try, Unlock}
use Rattle.mutex_core.specs.declared.reply.MutexReply.{MutexReply}
use Rattle.mutex_core.specs.declared.reply.MutexReply.TheVariants.{Arrived, Tried, Unlocked}
use Rattle.mutex_core.specs.declared.reply.Arrival.TheVariants.{Acquired}
use Rattle.mutex_core.specs.declared.reply.Unlocking.TheVariants.{Free}
use Rattle.script_calls.specs.declared.call.Operation.TheVariants as operations
use Rattle.script_calls.specs.declared.call.Reply.TheVariants as replies
use Rattle.sync_model.specs.declared.answer.Answer.TheVariants.{Done}
use Rattle.sync_model.specs.declared.item.Item.{Item}
use Rattle.sync_model.specs.declared.item.SharedEntry.{SharedEntry}
use Rattle.sync_model.specs.declared.journal.Entry.{Entry}
use Rattle.sync_model.specs.Front.{AtLeast}
use Rattle.sync_model.specs.Journal.{by, is_such, KeepsEdges, TimesRise}
use Rattle.sync_model.specs.SharedCalls.{Lawful}
use Rattle.sync_model.specs.SharedHistory.{entries_by, marked_in}
use Rattle.sync_model.specs.SharedOrder.{IsAmong, InOrder}
use Rattle.sync_types.specs.declared.atomic_object.AtomicCall.TheVariants.{Load, Store}
use Rattle.sync_types.specs.declared.atomic_object.AtomicReply.TheVariants as answers
use Rattle.sync_types.specs.declared.lock_call.LockReply.TheVariants as lock_replies
use Rattle.sync_types.specs.declared.lock_call.MutexCall.TheVariants as calls
use Rattle.workload.specs.declared.object.ObjectLine.{ObjectLine}
use Rattle.workload.specs.Plan.{Plan}
use Rattle.run_record.specs.declared.made.Made.{Made}
use Rattle.run_record.specs.declared.made.Made.TheVariants.{Shared, Entered}
use Rattle.run_record.specs.Calls.{IsJournalOf}
use Rattle.run_record.specs.Explains.{IsRecordOf, Explains}
use Rattle.run_record.specs.InOneOrder.{InOneOrder, number_behind}
use Rattle.run_record.specs.Lines.{SpeltCall, AreSpelt}
use Rattle.run_record.specs.MutexKind.{IsMutexJournal}
use Rattle.run_record.specs.Objects.{contents_of, is_pool}
use Rattle.run_record.specs.Record.{Record, ObjectEntry, object_number, journal_of, list_of, calls_of, shared_in, entries_in, front_of}
use Rattle.run_laws.specs.Examples.{none_known, on, entry}
use Rattle.run_laws.specs.ExamplesStoreAndTry.{number, plan, outcome, stores, loads, stored, has_it, fails, gives_up, journal, found}
use Rattle.run_laws.specs.Order.{ItemOf, Leads}
use Rattle.run_laws.proofs.OneCallEach.{IsFirst, one_each}
use Rattle.run_laws.proofs.SmallRecords.{ByScript, EachFrom, each_at, from_at, no_third, none_at, above_none, whole_line, are_whole, both_ended}

abbrev first_known : List ℕ
first_known = 1 ∷ 0 ∷ []

abbrev MutexEntry : Type 0
MutexEntry = Entry MutexEvent MutexReply

module _ (value locks tries unlocks : ℕ) where
  abbrev r : Record
  r = found value locks tries unlocks

  abbrev own_lock : MutexEntry
  own_lock = record (entry 1 (Arrive 0) (Arrived Acquired)) { time = locks }

  abbrev own_try : MutexEntry
  own_try = record (entry 0 Try (Tried false)) { front = first_known; time = tries }

  abbrev own_unlock : MutexEntry
  own_unlock = record (entry 1 Unlock (Unlocked Free)) { time = unlocks }

  abbrev own : List MutexEntry
  own = own_lock ∷ own_try ∷ own_unlock ∷ []

  -- who acquires is the first
  edges : KeepsEdges (λ event reply. releases reply) (λ event reply. acquires reply) own
  edges i j x y before at_x at_y gives gains = by_place j y at_y before gains where
    by_place : (j : ℕ) (y : MutexEntry) → slice_get own j ≡ Some y → i < j → is_such (λ (event : MutexEvent) (reply : MutexReply). acquires reply) y.deed ≡ true → AtLeast y.front x.front
    by_place zero y at before gains = absurd (omega (arith, before))
    by_place (suc j) y at before gains =
        absurd (false≢true (sym (each_at (λ (z : MutexEntry). is_such (λ (event : MutexEvent) (reply : MutexReply). acquires reply) z.deed ≡ false) (own_try ∷ own_unlock ∷ []) (refl, (refl, tt)) j y at) ∙ gains))

  is_journal : IsMutexJournal 2 (journal locks tries unlocks)
  is_journal = (own, refl, ((refl, refl), ((refl, refl), ((refl, refl), tt))), edges)

  both_calls : (P : ℕ → ℕ → Item → Type 0) → P 0 0 stores → P 1 0 (loads value) → (c j : ℕ) (x : Item) → slice_get (calls_of r c) j ≡ Some x → P c j x
  both_calls P first second zero zero x at = subst (P 0 0) (ap (λ (o : Option Item). unwrap_or o x) at) first
  both_calls P first second zero (suc j) x at = absurd (none-some x at)
  both_calls P first second (suc zero) zero x at = subst (P 1 0) (ap (λ (o : Option Item). unwrap_or o x) at) second
  both_calls P first second (suc zero) (suc j) x at = absurd (none-some x at)
  both_calls P first second (suc (suc c)) j x at = absurd (none-some x at)

  all_items : (P : ℕ → ℕ → Made → Type 0) → P 0 0 (Shared stores) → P 0 1 (Entered 1 (fails tries)) → P 1 0 (Entered 1 (has_it locks)) → P 1 1 (Entered 1 (gives_up unlocks)) → P 1 2 (Shared (loads value))
      → (worker i : ℕ) (x : Made) → slice_get (list_of r worker) i ≡ Some x → P worker i x
  all_items P a b c d e zero zero x at = subst (P 0 0) (ap (λ (o : Option Made). unwrap_or o x) at) a
  all_items P a b c d e zero (suc zero) x at = subst (P 0 1) (ap (λ (o : Option Made). unwrap_or o x) at) b
  all_items P a b c d e zero (suc (suc i)) x at = absurd (none-some x at)
  all_items P a b c d e (suc zero) zero x at = subst (P 1 0) (ap (λ (o : Option Made). unwrap_or o x) at) c
  all_items P a b c d e (suc zero) (suc zero) x at = subst (P 1 1) (ap (λ (o : Option Made). unwrap_or o x) at) d
  all_items P a b c d e (suc zero) (suc (suc zero)) x at = subst (P 1 2) (ap (λ (o : Option Made). unwrap_or o x) at) e
  all_items P a b c d e (suc zero) (suc (suc (suc i))) x at = absurd (none-some x at)
  all_items P a b c d e (suc (suc worker)) i x at = absurd (none-some x at)

  marked : (c : ℕ) → marked_in c (calls_of r c) ≡ entries_by c (stored ∷ [])
  marked zero = refl
  marked (suc zero) = refl
  marked (suc (suc c)) = by_test (0 == suc (suc c)) refl where
    by_test : (b : Bool) → (0 == suc (suc c)) ≡ b → let numbered : ℕ × SharedEntry = (0, stored) in [] ≡ cond b (numbered ∷ []) []
    by_test true same = absurd (omega (arith, eqb-true 0 (suc (suc c)) same))
    by_test false other = refl

  -- what stands behind worker 0's store is the try, which knows it
  behind : (worker i j : ℕ) (x y : Made) → i < j → slice_get (list_of r worker) i ≡ Some x → slice_get (list_of r worker) j ≡ Some y → AtLeast (front_of y) (front_of x)
  behind worker i j x y before at_x at_y =
      all_items (λ w i x. (j : ℕ) (y : Made) → i < j → slice_get (list_of r w) j ≡ Some y → AtLeast (front_of y) (front_of x))
      (λ j y before at. above_none (front_of y)) last (λ j y before at. above_none (front_of y)) (λ j y before at. above_none (front_of y)) (λ j y before at. above_none (front_of y)) worker i x at_x j y before at_y where
        last : (j : ℕ) (y : Made) → 1 < j → slice_get (list_of r 0) j ≡ Some y → AtLeast (front_of y) first_known
        last zero y before at = absurd (omega (arith, before))
        last (suc zero) y before at = absurd (omega (arith, before))
        last (suc (suc j)) y before at = absurd (none-some y at)

  first_made : (c : ℕ) → slice_index first_known c ≤ length (calls_of r c)
  first_made zero = omega arith
  first_made (suc zero) = omega arith
  first_made (suc (suc c)) = omega arith

  once : (worker object : ℕ) → entries_in object (list_of r worker) ≡ by worker (journal_of r object)
  once zero zero = refl
  once zero (suc zero) = refl
  once zero (suc (suc zero)) = refl
  once zero (suc (suc (suc object))) = elsewhere (1 == suc (suc (suc object))) refl where
    elsewhere : (b : Bool) → (1 == suc (suc (suc object))) ≡ b → cond (1 == suc (suc (suc object))) (fails tries ∷ []) [] ≡ []
    elsewhere true same = absurd (omega (arith, eqb-true 1 (suc (suc (suc object))) same))
    elsewhere false other = ap (λ (b : Bool). cond b (fails tries ∷ []) []) other
  once (suc zero) zero = refl
  once (suc zero) (suc zero) = refl
  once (suc zero) (suc (suc zero)) = refl
  once (suc zero) (suc (suc (suc object))) = elsewhere (1 == suc (suc (suc object))) refl where
    elsewhere : (b : Bool) → (1 == suc (suc (suc object))) ≡ b → cond (1 == suc (suc (suc object))) (has_it locks ∷ cond (1 == suc (suc (suc object))) (gives_up unlocks ∷ []) []) (cond (1 == suc (suc (suc object))) (gives_up unlocks ∷ []) []) ≡ []
    elsewhere true same = absurd (omega (arith, eqb-true 1 (suc (suc (suc object))) same))
    elsewhere false other = ap (λ (b : Bool). cond b (has_it locks ∷ cond b (gives_up unlocks ∷ []) []) (cond b (gives_up unlocks ∷ []) [])) other
  once (suc (suc worker)) zero = refl
  once (suc (suc worker)) (suc zero) = sym (no_third worker (journal locks tries unlocks) (refl, (refl, (refl, tt))))
  once (suc (suc worker)) (suc (suc zero)) = refl
  once (suc (suc worker)) (suc (suc (suc object))) = refl

  follow : EachFrom 0 (λ place object. IsJournalOf plan place object.kind (journal_of r (object_number place))) plan.objects
  follow = (is_journal, (refl, tt))

  -- where the load is answered so at its place
  module _ (load : IsFirst (contents_of plan) (stored ∷ []) 0 (loads value)) where
    lawful_calls : Lawful (contents_of plan) (stored ∷ []) (calls_of r)
    lawful_calls = one_each (contents_of plan) (stored ∷ []) (calls_of r)
        (both_calls (λ c j x. IsFirst (contents_of plan) (stored ∷ []) j x) (record { alone = refl; knows = refl; plain = refl; place = omega arith; reply = refl; entry = refl }) load)
        (refl, refl, tt) marked

    is_record : IsRecordOf plan (found value locks tries unlocks)
    is_record = record {
      shared = lawful_calls;
      objects = refl;
      stops = λ k d within. absurd (omega (arith, within));
      journals = λ place object at. subst (λ (k : ℕ). IsJournalOf plan k object.kind (journal_of r (object_number k))) (omega arith) (from_at (λ place object. IsJournalOf plan place object.kind (journal_of r (object_number place))) 0 plan.objects follow place object at);
      parts = λ place part object at pool within. absurd (false≢true (sym (each_at (λ (o : ObjectLine). is_pool o.kind ≡ false) plan.objects (refl, (refl, tt)) place object at) ∙ ap is_pool pool));
      starts = λ waits. absurd (false≢true waits);
      once = once;
      fronts = record {
        rises = behind;
        own = all_items (λ w i x. slice_index (front_of x) w ≡ length (shared_in (take i (list_of r w)))) refl refl refl refl refl;
        made = λ worker i other x at. all_items (λ w i x. slice_index (front_of x) other ≤ length (calls_of r other)) (omega (arith, none_at other)) (first_made other) (omega (arith, none_at other)) (omega (arith, none_at other)) (omega (arith, none_at other)) worker i x at;
      };
    }

    abbrev first : List SpeltCall
    first = record { call = on 1 (operations.Atomic (Store (number 1))); items = Shared stores ∷ []; reply = replies.Atomic answers.Done }
        ∷ record { call = on 0 (operations.Mutex calls.TryLock); items = Entered 1 (fails tries) ∷ []; reply = replies.Lock (lock_replies.Tried false) } ∷ []

    abbrev second : List SpeltCall
    second = record { call = on 0 (operations.Mutex calls.Lock); items = Entered 1 (has_it locks) ∷ []; reply = replies.Lock lock_replies.Done }
        ∷ record { call = on 0 (operations.Mutex calls.Unlock); items = Entered 1 (gives_up unlocks) ∷ []; reply = replies.Lock lock_replies.Done }
        ∷ record { call = on 1 (operations.Atomic Load); items = Shared (loads value) ∷ []; reply = replies.Atomic (answers.Held (number value)) } ∷ []

    spelt_first : AreSpelt plan 0 0 first
    spelt_first = ((answers.Done, (stores ∷ [], refl, refl), refl), ((Done (Ok (lock_replies.Tried false)), (own_try ∷ [], refl, ((0, refl), (refl, refl))), refl), tt))

    spelt_second : AreSpelt plan 1 0 second
    spelt_second = (
      (Done (Ok lock_replies.Done), (own_lock ∷ [], refl, ((0, refl), (refl, refl))), refl),
      ((Done (Ok lock_replies.Done), (own_unlock ∷ [], refl, ((0, refl), (refl, refl))), refl), ((answers.Held (number value), (loads value ∷ [], refl, refl), refl), tt)),
    )

    explained_by : ByScript → Explains plan (outcome value) (found value locks tries unlocks)
    explained_by by_script = record {
      lines = whole_line first ∷ whole_line second ∷ [];
      are = (by_script plan _ _ _ refl).1 (record { scripts = refl; lists = refl; replies = refl; each = are_whole plan refl first second spelt_first spelt_second });
      lawful = is_record;
      agrees = (both_ended first second, refl);
    }

-- the load before the store finds what was there, and the one behind it what was stored
load_before : IsFirst (contents_of plan) (stored ∷ []) 0 (loads 0)
load_before = record { alone = refl; knows = refl; plain = refl; place = omega arith; reply = refl; entry = refl }

load_behind : IsFirst (contents_of plan) (stored ∷ []) 0 (loads 1)
load_behind = record { alone = refl; knows = refl; plain = refl; place = omega arith; reply = refl; entry = refl }

pub explained : (locks tries unlocks : ℕ) → ByScript → Explains plan (outcome 0) (found 0 locks tries unlocks)
explained locks tries unlocks by_script = explained_by 0 locks tries unlocks load_before by_script

pub seen : ByScript → Explains plan (outcome 1) (found 1 0 2 3)
seen by_script = explained_by 1 0 2 3 load_behind by_script

-- what happened before is seen
abbrev pub Seen : Type 0
Seen = (plan : Plan) (r : Record) (e f : ItemOf r) (between : List (ItemOf r)) (entry call : Item) → IsRecordOf plan r → InOneOrder r → Leads r e between f
    → e.made ≡ Shared entry → f.made ≡ Shared call → entry.entry ≡ true → entry.place < call.place

module _ (locks tries unlocks : ℕ) where
  abbrev missed : Record
  missed = found 0 locks tries unlocks

  abbrev the_store : ItemOf missed
  the_store = record { worker = 0; place = 0; made = Shared stores; at = refl }

  abbrev the_try : ItemOf missed
  the_try = record { worker = 0; place = 1; made = Entered 1 (fails tries); at = refl }

  abbrev the_unlock : ItemOf missed
  the_unlock = record { worker = 1; place = 1; made = Entered 1 (gives_up unlocks); at = refl }

  abbrev the_load : ItemOf missed
  the_load = record { worker = 1; place = 2; made = Shared (loads 0); at = refl }

  leads : Leads missed the_store (the_try ∷ the_unlock ∷ []) the_load
  leads = (
    inl (refl, omega arith),
    (
      inr (inl (record { object = 1; earlier = 1; later = 2; before = omega arith; one = fails tries; other = gives_up unlocks; first = refl; second = refl; first_at = refl; second_at = refl })),
      inl (refl, omega arith),
    ),
  )

  pub in_no_order : Seen → InOneOrder (found 0 locks tries unlocks) → ⊥
  in_no_order says order = let less = says plan missed the_store the_load (the_try ∷ the_unlock ∷ []) stores (loads 0) (is_record 0 locks tries unlocks load_before) order leads refl refl refl in omega (arith, less)

-- ---- and the record in which the load finds the store is in one order

abbrev ordered : Record
ordered = found 1 0 2 3

abbrev times : ℕ → List ℕ
times zero = 1 ∷ []
times (suc zero) = 4 ∷ []
times (suc (suc worker)) = []

-- the number of each item, by its worker and its place
abbrev number_of : ℕ → ℕ → ℕ
number_of zero zero = 1
number_of zero (suc i) = 2
number_of (suc zero) zero = 0
number_of (suc zero) (suc zero) = 3
number_of (suc zero) (suc (suc i)) = 4
number_of (suc (suc worker)) i = 0

numbered : (worker i : ℕ) (x : Made) → slice_get (list_of ordered worker) i ≡ Some x → number_behind (times worker) (take i (list_of ordered worker)) x ≡ number_of worker i
numbered = all_items 1 0 2 3 (λ w i x. number_behind (times w) (take i (list_of ordered w)) x ≡ number_of w i) refl refl refl refl refl

numbers_rise : (worker i j : ℕ) (x y : Made) → i < j → slice_get (list_of ordered worker) i ≡ Some x → slice_get (list_of ordered worker) j ≡ Some y → number_of worker i < number_of worker j
numbers_rise zero zero zero x y before at_x at_y = absurd (omega (arith, before))
numbers_rise zero zero (suc j) x y before at_x at_y = omega arith
numbers_rise zero (suc i) zero x y before at_x at_y = absurd (omega (arith, before))
numbers_rise zero (suc i) (suc zero) x y before at_x at_y = absurd (omega (arith, before))
numbers_rise zero (suc i) (suc (suc j)) x y before at_x at_y = absurd (none-some y at_y)
numbers_rise (suc zero) zero zero x y before at_x at_y = absurd (omega (arith, before))
numbers_rise (suc zero) zero (suc zero) x y before at_x at_y = omega arith
numbers_rise (suc zero) zero (suc (suc j)) x y before at_x at_y = omega arith
numbers_rise (suc zero) (suc i) zero x y before at_x at_y = absurd (omega (arith, before))
numbers_rise (suc zero) (suc i) (suc zero) x y before at_x at_y = absurd (omega (arith, before))
numbers_rise (suc zero) (suc zero) (suc (suc j)) x y before at_x at_y = omega arith
numbers_rise (suc zero) (suc (suc i)) (suc (suc zero)) x y before at_x at_y = absurd (omega (arith, before))
numbers_rise (suc zero) (suc (suc i)) (suc (suc (suc j))) x y before at_x at_y = absurd (none-some y at_y)
numbers_rise (suc (suc worker)) i j x y before at_x at_y = absurd (none-some x at_x)

-- the three events of the mutex have the numbers 0, 2 and 3
journal_rises : TimesRise (journal 0 2 3)
journal_rises zero zero x y before at_x at_y = absurd (omega (arith, before))
journal_rises zero (suc zero) x y before at_x at_y = omega (arith, ap (λ (e : ObjectEntry). e.time) (same_Some _ x at_x), ap (λ (e : ObjectEntry). e.time) (same_Some _ y at_y))
journal_rises zero (suc (suc zero)) x y before at_x at_y = omega (arith, ap (λ (e : ObjectEntry). e.time) (same_Some _ x at_x), ap (λ (e : ObjectEntry). e.time) (same_Some _ y at_y))
journal_rises zero (suc (suc (suc j))) x y before at_x at_y = absurd (none-some y at_y)
journal_rises (suc i) zero x y before at_x at_y = absurd (omega (arith, before))
journal_rises (suc i) (suc zero) x y before at_x at_y = absurd (omega (arith, before))
journal_rises (suc zero) (suc (suc zero)) x y before at_x at_y = omega (arith, ap (λ (e : ObjectEntry). e.time) (same_Some _ x at_x), ap (λ (e : ObjectEntry). e.time) (same_Some _ y at_y))
journal_rises (suc (suc i)) (suc (suc zero)) x y before at_x at_y = absurd (omega (arith, before))
journal_rises (suc i) (suc (suc (suc j))) x y before at_x at_y = absurd (none-some y at_y)

-- the store has the one entry's number, and the load a later one
among_entries : (c j time : ℕ) (x : Item) → slice_get (calls_of ordered c) j ≡ Some x → slice_get (times c) j ≡ Some time → IsAmong (1 ∷ []) x time
among_entries c j time x at numbered = both_calls 1 0 2 3 (λ c j x. (time : ℕ) → slice_get (times c) j ≡ Some time → IsAmong (1 ∷ []) x time)
    (λ time is. record { past = λ n earlier less there. absurd (omega (arith, less)); is = λ entered. is; before = λ none. absurd (false≢true (sym none)) })
    (λ time is. record { past = only time (same_Some 4 time is); is = λ entered. absurd (false≢true entered); before = λ none. beyond time }) c j x at time numbered where
      only : (time : ℕ) → 4 ≡ time → (n earlier : ℕ) → n < 1 → slice_get (1 ∷ []) n ≡ Some earlier → earlier < time
      only time is zero earlier less there = omega (arith, is, same_Some 1 earlier there)
      only time is (suc n) earlier less there = absurd (omega (arith, less))

      beyond : (time n later : ℕ) → 1 ≤ n → slice_get (1 ∷ []) n ≡ Some later → time < later
      beyond time zero later past there = absurd (omega (arith, past))
      beyond time (suc n) later past there = absurd (none-some later there)

pub in_order : InOneOrder (found 1 0 2 3)
in_order = record {
  journals = journals_rise;
  entry_times = 1 ∷ [];
  times = times;
  history = record { entries = refl; rise = one_entry; all = as_many; among = among_entries };
  lists = λ worker i j x y before at_x at_y. let less = numbers_rise worker i j x y before at_x at_y in omega (arith, less, numbered worker i x at_x, numbered worker j y at_y);
} where
  journals_rise : (object : ℕ) → TimesRise (journal_of ordered object)
  journals_rise zero i j x y before at_x at_y = absurd (none-some x at_x)
  journals_rise (suc zero) i j x y before at_x at_y = journal_rises i j x y before at_x at_y
  journals_rise (suc (suc zero)) i j x y before at_x at_y = absurd (none-some x at_x)
  journals_rise (suc (suc (suc object))) i j x y before at_x at_y = absurd (none-some x at_x)

  one_entry : (n i earlier later : ℕ) → n < i → slice_get (1 ∷ []) n ≡ Some earlier → slice_get (1 ∷ []) i ≡ Some later → earlier < later
  one_entry n zero earlier later before at_first at_later = absurd (omega (arith, before))
  one_entry n (suc i) earlier later before at_first at_later = absurd (none-some later at_later)

  as_many : (c : ℕ) → length (times c) ≡ length (calls_of ordered c)
  as_many zero = refl
  as_many (suc zero) = refl
  as_many (suc (suc c)) = refl
