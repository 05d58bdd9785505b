-- A once whose function runs once, and one whose function runs twice.
use Rattle.std.proofs.Common.{◌≡◌, ℕ, ℤ, zero, suc, pos, ◌<◌, ◌≤◌, ◌==◌, Bool, true, false, cond, List, [], ◌∷◌, length, take, Option, Some, slice_get, slice_index, refl, sym, ap, ◌∙◌, subst, arith}
use Rattle.std.specs.Prelude.{Ok, unwrap_or}
use Rattle.std.proofs.lemmas.Bool.{eqb-true, false≢true, true≢false}
use Rattle.std.proofs.lemmas.Option.{none-some}
use Rattle.protocols.specs.declared.once.OnceOutcome.TheVariants.{Run, Already, Ended}
use Rattle.script_calls.specs.declared.call.Operation.TheVariants as operations
use Rattle.script_calls.specs.declared.call.Reply.TheVariants as replies
use Rattle.script_calls.specs.declared.outcome.Outcome.{Outcome}
use Rattle.sync_model.specs.declared.answer.Answer.TheVariants.{Done}
use Rattle.sync_model.specs.declared.item.Item.{Item}
use Rattle.sync_model.specs.declared.item.SharedEntry.{SharedEntry}
use Rattle.sync_model.specs.declared.journal.Deed.TheVariants.{Event}
use Rattle.sync_model.specs.declared.journal.Entry.{Entry}
use Rattle.sync_model.specs.Front.{AtLeast}
use Rattle.sync_model.specs.Journal.{by, is_such, KeepsEdges}
use Rattle.sync_model.specs.SharedCalls.{Lawful}
use Rattle.sync_model.specs.SharedHistory.{entries_by, marked_in}
use Rattle.sync_types.specs.declared.once_call.DoReply.TheVariants as do_replies
use Rattle.wait_cores.specs.OnceEdges.{once_releases, once_acquires}
use Rattle.wait_cores.specs.OnceMachine.{next, start}
use Rattle.wait_cores.specs.declared.once.OnceEvent.{OnceEvent}
use Rattle.wait_cores.specs.declared.once.OnceEvent.TheVariants.{Begin, End}
use Rattle.wait_cores.specs.declared.once.OnceReply.{OnceReply}
use Rattle.wait_cores.specs.declared.once.OnceReply.TheVariants as once_reply
use Rattle.workload.specs.declared.object.ObjectKind.TheVariants as kinds
use Rattle.workload.specs.declared.object.ObjectLine.{ObjectLine}
use Rattle.run_record.specs.declared.entered.ObjectEvent.TheVariants as event
use Rattle.run_record.specs.declared.entered.ObjectReply.TheVariants as reply
use Rattle.run_record.specs.declared.made.Made.{Made}
use Rattle.run_record.specs.declared.made.Made.TheVariants.{Shared, Entered}
use Rattle.run_record.specs.Calls.{IsJournalOf}
use Rattle.run_record.specs.Explains.{IsRecordOf, Explains}
use Rattle.run_record.specs.Lines.{SpeltCall, AreSpelt}
use Rattle.run_record.specs.Objects.{contents_of, is_pool}
use Rattle.run_record.specs.OnceKind.{IsOnceJournal}
use Rattle.run_record.specs.Record.{ObjectEntry, object_number, journal_of, list_of, calls_of, shared_in, entries_in, front_of}
use Rattle.run_laws.specs.Examples.{declared, on, none_known}
use Rattle.run_laws.specs.ExamplesOnce.{plan, outcome, adds, added, first_known, runs, ends, is_told, ran_once, ran_twice}
use Rattle.run_laws.proofs.OneCallEach.{IsFirst, one_each}
use Rattle.run_laws.proofs.Backs.{once_back, is_once_back}
use Rattle.run_laws.proofs.SmallRecords.{ByScript, none_at, above_none, same_known, EachFrom, from_at, each_at, no_third, whole_line, are_whole, both_ended}
use Rattle.run_laws.proofs.Unlifted.{follows_back}

abbrev addition : Item
addition = adds 0 (pos 3) none_known

abbrev journal : List ObjectEntry
journal = runs 0 none_known ∷ ends 0 (pos 3) first_known ∷ is_told ∷ []

abbrev made_first : List Made
made_first = Entered 2 (runs 0 none_known) ∷ Shared addition ∷ Entered 2 (ends 0 (pos 3) first_known) ∷ []

abbrev own_entry : ℕ → OnceEvent ℤ → OnceReply ℤ → List ℕ → Entry (OnceEvent ℤ) (OnceReply ℤ)
own_entry worker e r front = record { caller = worker; deed = Event e r; front = front; knew = 0; time = 0 }

abbrev own_run : Entry (OnceEvent ℤ) (OnceReply ℤ)
own_run = own_entry 0 Begin once_reply.Run none_known

abbrev own_end : Entry (OnceEvent ℤ) (OnceReply ℤ)
own_end = own_entry 0 (End (pos 3)) once_reply.Ended first_known

abbrev own_told : Entry (OnceEvent ℤ) (OnceReply ℤ)
own_told = own_entry 1 Begin (once_reply.Done (pos 3)) first_known

abbrev own : List (Entry (OnceEvent ℤ) (OnceReply ℤ))
own = own_run ∷ own_end ∷ own_told ∷ []

known_first : (i : ℕ) (x : Entry (OnceEvent ℤ) (OnceReply ℤ)) → slice_get own i ≡ Some x → AtLeast first_known x.front
known_first = each_at (λ (x : Entry (OnceEvent ℤ) (OnceReply ℤ)). AtLeast first_known x.front) own (above_none first_known, (same_known first_known, (same_known first_known, tt)))

edges : KeepsEdges once_releases once_acquires own
edges i j x y before at_x at_y gives gains =
    each_at (λ (z : Entry (OnceEvent ℤ) (OnceReply ℤ)). is_such once_acquires z.deed ≡ true → AtLeast z.front x.front) own
    ((λ g. absurd (false≢true g)), ((λ g. absurd (false≢true g)), ((λ g. known_first i x at_x), tt))) j y at_y gains

is_journal : IsOnceJournal 2 journal
is_journal = (own, refl, ((refl, refl), ((refl, refl), ((refl, refl), tt))), edges)

-- the one call on an atomic
one_call : (P : ℕ → ℕ → Item → Type 0) → P 0 0 addition → (c j : ℕ) (x : Item) → slice_get (calls_of ran_once c) j ≡ Some x → P c j x
one_call P first zero zero x at = subst (P 0 0) (ap (λ (o : Option Item). unwrap_or o x) at) first
one_call P first zero (suc j) x at = absurd (none-some x at)
one_call P first (suc zero) j x at = absurd (none-some x at)
one_call P first (suc (suc c)) j x at = absurd (none-some x at)

marked : (c : ℕ) → marked_in c (calls_of ran_once c) ≡ entries_by c (added 0 (pos 3) ∷ [])
marked zero = refl
marked (suc zero) = refl
marked (suc (suc c)) = by_test (0 == suc (suc c)) refl where
  by_test : (b : Bool) → (0 == suc (suc c)) ≡ b → let numbered : ℕ × SharedEntry = (0, added 0 (pos 3)) in [] ≡ cond b (numbered ∷ []) []
  by_test true same = absurd (omega (arith, eqb-true 0 (suc (suc c)) same))
  by_test false other = refl

lawful_calls : Lawful (contents_of plan) (added 0 (pos 3) ∷ []) (calls_of ran_once)
lawful_calls = one_each (contents_of plan) (added 0 (pos 3) ∷ []) (calls_of ran_once)
    (one_call (λ c j x. IsFirst (contents_of plan) (added 0 (pos 3) ∷ []) j x) (record { alone = refl; knows = refl; plain = refl; place = omega arith; reply = refl; entry = refl }))
    (refl, refl, tt) marked

-- what there is in the lists
all_items : (P : ℕ → ℕ → Made → Type 0) → P 0 0 (Entered 2 (runs 0 none_known)) → P 0 1 (Shared addition) → P 0 2 (Entered 2 (ends 0 (pos 3) first_known)) → P 1 0 (Entered 2 is_told)
    → (worker i : ℕ) (x : Made) → slice_get (list_of ran_once worker) i ≡ Some x → P worker i x
all_items P a b c d zero zero x at = subst (P 0 0) (ap (λ (o : Option Made). unwrap_or o x) at) a
all_items P a b c d zero (suc zero) x at = subst (P 0 1) (ap (λ (o : Option Made). unwrap_or o x) at) b
all_items P a b c d zero (suc (suc zero)) x at = subst (P 0 2) (ap (λ (o : Option Made). unwrap_or o x) at) c
all_items P a b c d zero (suc (suc (suc i))) x at = absurd (none-some x at)
all_items P a b c d (suc zero) zero x at = subst (P 1 0) (ap (λ (o : Option Made). unwrap_or o x) at) d
all_items P a b c d (suc zero) (suc i) x at = absurd (none-some x at)
all_items P a b c d (suc (suc worker)) i x at = absurd (none-some x at)

-- what stands behind others knows the addition, or is the addition
behind : (worker i j : ℕ) (x y : Made) → i < j → slice_get (list_of ran_once worker) i ≡ Some x → slice_get (list_of ran_once worker) j ≡ Some y → AtLeast (front_of y) (front_of x)
behind worker i j x y before at_x at_y =
    all_items (λ w i x. (j : ℕ) (y : Made) → i < j → slice_get (list_of ran_once w) j ≡ Some y → AtLeast (front_of y) (front_of x))
    (λ j y before at. above_none (front_of y)) (λ j y before at. above_none (front_of y)) late alone worker i x at_x j y before at_y where
      late : (j : ℕ) (y : Made) → 2 < j → slice_get (list_of ran_once 0) j ≡ Some y → AtLeast (front_of y) first_known
      late zero y before at = absurd (omega (arith, before))
      late (suc zero) y before at = absurd (omega (arith, before))
      late (suc (suc zero)) y before at = absurd (omega (arith, before))
      late (suc (suc (suc j))) y before at = absurd (none-some y at)

      alone : (j : ℕ) (y : Made) → 0 < j → slice_get (list_of ran_once 1) j ≡ Some y → AtLeast (front_of y) first_known
      alone zero y before at = absurd (omega (arith, before))
      alone (suc j) y before at = absurd (none-some y at)

first_made : (c : ℕ) → slice_index first_known c ≤ length (calls_of ran_once c)
first_made zero = omega arith
first_made (suc zero) = omega arith
first_made (suc (suc c)) = omega arith

once : (worker object : ℕ) → entries_in object (list_of ran_once worker) ≡ by worker (journal_of ran_once object)
once zero zero = refl
once zero (suc zero) = refl
once zero (suc (suc zero)) = refl
once zero (suc (suc (suc object))) = elsewhere (2 == suc (suc (suc object))) refl where
  elsewhere : (b : Bool) → (2 == suc (suc (suc object))) ≡ b → cond (2 == suc (suc (suc object))) (runs 0 none_known ∷ cond (2 == suc (suc (suc object))) (ends 0 (pos 3) first_known ∷ []) []) (cond (2 == suc (suc (suc object))) (ends 0 (pos 3) first_known ∷ []) []) ≡ []
  elsewhere true same = absurd (omega (arith, eqb-true 2 (suc (suc (suc object))) same))
  elsewhere false other = ap (λ (b : Bool). cond b (runs 0 none_known ∷ cond b (ends 0 (pos 3) first_known ∷ []) []) (cond b (ends 0 (pos 3) first_known ∷ []) [])) other
once (suc zero) zero = refl
once (suc zero) (suc zero) = refl
once (suc zero) (suc (suc zero)) = refl
once (suc zero) (suc (suc (suc object))) = elsewhere (2 == suc (suc (suc object))) refl where
  elsewhere : (b : Bool) → (2 == suc (suc (suc object))) ≡ b → cond (2 == suc (suc (suc object))) (is_told ∷ []) [] ≡ []
  elsewhere true same = absurd (omega (arith, eqb-true 2 (suc (suc (suc object))) same))
  elsewhere false other = ap (λ (b : Bool). cond b (is_told ∷ []) []) other
once (suc (suc worker)) zero = refl
once (suc (suc worker)) (suc zero) = refl
once (suc (suc worker)) (suc (suc zero)) = sym (no_third worker journal (refl, (refl, (refl, tt))))
once (suc (suc worker)) (suc (suc (suc object))) = refl

follow : EachFrom 0 (λ place object. IsJournalOf plan place object.kind (journal_of ran_once (object_number place))) plan.objects
follow = (refl, (is_journal, tt))

is_record : IsRecordOf plan ran_once
is_record = record {
  shared = lawful_calls;
  objects = refl;
  stops = λ k d within. absurd (omega (arith, within));
  journals = λ place object at. subst (λ (k : ℕ). IsJournalOf plan k object.kind (journal_of ran_once (object_number k))) (omega arith) (from_at (λ place object. IsJournalOf plan place object.kind (journal_of ran_once (object_number place))) 0 plan.objects follow place object at);
  parts = λ place part object at pool within. absurd (false≢true (sym (each_at (λ (o : ObjectLine). is_pool o.kind ≡ false) plan.objects (refl, (refl, tt)) place object at) ∙ ap is_pool pool));
  starts = λ waits. absurd (false≢true waits);
  once = once;
  fronts = record {
    rises = behind;
    own = all_items (λ w i x. slice_index (front_of x) w ≡ length (shared_in (take i (list_of ran_once w)))) refl refl refl refl;
    made = λ worker i other x at. all_items (λ w i x. slice_index (front_of x) other ≤ length (calls_of ran_once other)) (omega (arith, none_at other)) (omega (arith, none_at other)) (first_made other) (first_made other) worker i x at;
  };
}

abbrev first : List SpeltCall
first = record { call = on 1 operations.Once; items = made_first; reply = replies.Once (do_replies.Ran (pos 3)) } ∷ []

abbrev second : List SpeltCall
second = record { call = on 1 operations.Once; items = Entered 2 is_told ∷ []; reply = replies.Once do_replies.Done } ∷ []

spelt_first : AreSpelt plan 0 0 first
spelt_first = (
  (
    Entered 2 (runs 0 none_known) ∷ [],
    Shared addition ∷ Entered 2 (ends 0 (pos 3) first_known) ∷ [],
    Done (Ok Run),
    refl,
    (own_run ∷ [], refl, ((0, refl), (refl, refl))),
    (
      Shared addition ∷ [],
      Entered 2 (ends 0 (pos 3) first_known) ∷ [],
      Done (Ok (pos 3)),
      refl,
      (pos 3, (addition ∷ [], refl, refl), refl),
      (Done (Ok Ended), (own_end ∷ [], refl, ((0, refl), (refl, refl))), refl),
    ),
  ),
  tt,
)

spelt_second : AreSpelt plan 1 0 second
spelt_second = ((Entered 2 is_told ∷ [], [], Done (Ok (Already (pos 3))), refl, (own_told ∷ [], refl, ((0, refl), (refl, refl))), (refl, refl)), tt)

pub explained : ByScript → Explains plan outcome ran_once
explained by_script = record {
  lines = whole_line first ∷ whole_line second ∷ [];
  are = (by_script plan _ _ _ refl).1 (record { scripts = refl; lists = refl; replies = refl; each = are_whole plan refl first second spelt_first spelt_second });
  lawful = is_record;
  agrees = (both_ended first second, refl);
}

-- whether a caller is to run the function
abbrev is_run : OnceReply ℤ → Bool
is_run once_reply.Run = true
is_run given = false

pub refused : (other : Outcome) → Explains plan other ran_twice → ⊥
refused other explains =
    let is : IsOnceJournal 2 (journal_of ran_twice 2) = explains.lawful.journals 1 (declared 111 (kinds.Once 0 (pos 3))) refl in
    let follows = follows_back event.Once reply.Once once_back is_once_back next once_releases once_acquires (start 2) (journal_of ran_twice 2) is in
    true≢false (ap is_run follows.1.1.0.1)
