-- The parts of what explains the example.
use Rattle.std.proofs.Common.{◌≡◌, ℕ, zero, suc, ◌+◌, ◌<◌, ◌≤◌, ◌==◌, Bool, true, false, cond, pos, [], ◌∷◌, length, take, Option, Some, slice_get, slice_index, refl, ap, ◌∙◌, subst, arith}
use Rattle.std.specs.Prelude.{unwrap_or, All}
use Rattle.std.proofs.lemmas.Bool.{false≢true, eqb-true}
use Rattle.std.proofs.lemmas.Option.{none-some}
use Rattle.sync_types.specs.declared.atomic_object.AtomicReply.TheVariants as answers
use Rattle.sync_types.specs.declared.atomic_object.Number.TheVariants.{Int64}
use Rattle.sync_model.specs.declared.item.Item.{Item}
use Rattle.sync_model.specs.declared.item.SharedCall.{SharedCall}
use Rattle.sync_model.specs.declared.item.SharedCall.TheVariants as shared
use Rattle.sync_model.specs.declared.item.SharedEntry.{SharedEntry}
use Rattle.sync_model.specs.Front.{AtLeast}
use Rattle.sync_model.specs.Journal.{by}
use Rattle.sync_model.specs.SharedCalls.{bound, IsSound, Lawful}
use Rattle.sync_model.specs.SharedHistory.{entries_by, marked_in}
use Rattle.workload.specs.declared.object.ObjectKind.{ObjectKind}
use Rattle.workload.specs.declared.object.ObjectKind.TheVariants as kinds
use Rattle.workload.specs.declared.object.ObjectLine.{ObjectLine}
use Rattle.workload.specs.Puts.{puts_at}
use Rattle.run_record.specs.declared.made.Made.{Made}
use Rattle.run_record.specs.declared.made.Made.TheVariants.{Shared}
use Rattle.run_record.specs.Calls.{IsJournalOf}
use Rattle.run_record.specs.Example.{plan, example, store_call, load_call, store_item, load_item, entry, replies_by, done, held}
use Rattle.run_record.specs.Explains.{IsRecordOf, AreLines, Explains, IsAtEnd}
use Rattle.run_record.specs.Lines.{Line, whole, IsLineOf}
use Rattle.run_record.specs.Objects.{contents_of, first_part}
use Rattle.run_record.specs.PoolKind.{IsPartJournal}
use Rattle.run_record.specs.Record.{object_number, journal_of, list_of, calls_of, shared_in, entries_in, front_of}
use Rattle.run_record.specs.Runs.{SpellScripts}

-- there are two calls on maps and atomics
two_calls : (P : ℕ → ℕ → Item → Type 0) → P 0 0 store_item → P 0 1 load_item → (c j : ℕ) (x : Item) → slice_get (calls_of example c) j ≡ Some x → P c j x
two_calls P first second zero zero x at = subst (P 0 0) (ap (λ (o : Option Item). unwrap_or o x) at) first
two_calls P first second zero (suc zero) x at = subst (P 0 1) (ap (λ (o : Option Item). unwrap_or o x) at) second
two_calls P first second zero (suc (suc j)) x at = absurd (none-some x at)
two_calls P first second (suc c) j x at = absurd (none-some x at)

-- and they are the items of the one list
two_items : (P : ℕ → ℕ → Made → Type 0) → P 0 0 (Shared store_item) → P 0 1 (Shared load_item) → (worker i : ℕ) (x : Made) → slice_get (list_of example worker) i ≡ Some x → P worker i x
two_items P first second zero zero x at = subst (P 0 0) (ap (λ (o : Option Made). unwrap_or o x) at) first
two_items P first second zero (suc zero) x at = subst (P 0 1) (ap (λ (o : Option Made). unwrap_or o x) at) second
two_items P first second zero (suc (suc i)) x at = absurd (none-some x at)
two_items P first second (suc worker) i x at = absurd (none-some x at)

-- a front of one worker counts no more than the calls that were made
made : (n : ℕ) → n ≤ 2 → (c : ℕ) → slice_index (n ∷ []) c ≤ length (calls_of example c)
made n few zero = few
made n few (suc c) = omega arith

abbrev is_cursors : SharedCall → Bool
is_cursors (shared.Map m call) = false
is_cursors (shared.Begin m) = true
is_cursors (shared.Next begin) = true
is_cursors (shared.Atomic a call) = false

at_least : (n m : ℕ) → n ≤ m → AtLeast (m ∷ []) (n ∷ [])
at_least n m le zero = le
at_least n m le (suc c) = omega arith

before_store : (c j : ℕ) (x : Item) → j < slice_index (0 ∷ []) c → slice_get (calls_of example c) j ≡ Some x → bound x ≤ 0
before_store zero j x before at = absurd (omega (arith, before))
before_store (suc c) j x before at = absurd (omega (arith, before))

before_load : (c j : ℕ) (x : Item) → j < slice_index (1 ∷ []) c → slice_get (calls_of example c) j ≡ Some x → bound x ≤ 1
before_load zero zero x before at = subst (λ (y : Item). bound y ≤ 1) (ap (λ (o : Option Item). unwrap_or o x) at) (omega arith)
before_load zero (suc j) x before at = absurd (omega (arith, before))
before_load (suc c) j x before at = absurd (omega (arith, before))

store_sound : IsSound (contents_of plan) (entry ∷ []) (calls_of example) 0 0 store_item
store_sound = record {
  place = omega arith;
  reply = refl;
  entry = refl;
  knows = record { made = made 0 (omega arith); within = before_store };
  own = refl;
  begun = λ b is. absurd (false≢true (ap is_cursors is));
}

load_sound : IsSound (contents_of plan) (entry ∷ []) (calls_of example) 0 1 load_item
load_sound = record {
  place = omega arith;
  reply = refl;
  entry = refl;
  knows = record { made = made 1 (omega arith); within = before_load };
  own = refl;
  begun = λ b is. absurd (false≢true (ap is_cursors is));
}

marked : (c : ℕ) → marked_in c (calls_of example c) ≡ entries_by c (entry ∷ [])
marked zero = refl
marked (suc c) = by_test (0 == suc c) refl where
  by_test : (b : Bool) → (0 == suc c) ≡ b → let numbered : ℕ × SharedEntry = (0, entry) in [] ≡ cond b (numbered ∷ []) []
  by_test true same = absurd (omega (arith, eqb-true 0 (suc c) same))
  by_test false same = refl

rises : (c i j : ℕ) (x y : Item) → i < j → slice_get (calls_of example c) i ≡ Some x → slice_get (calls_of example c) j ≡ Some y → AtLeast y.front x.front
rises c i j x y before at_x at_y = two_calls (λ c i x. (j : ℕ) (y : Item) → i < j → slice_get (calls_of example c) j ≡ Some y → AtLeast y.front x.front)
    (λ j y before at. two_calls (λ c j y. AtLeast y.front (0 ∷ [])) (at_least 0 0 (omega arith)) (at_least 0 1 (omega arith)) 0 j y at)
    (λ j y before at. late j y before at) c i x at_x j y before at_y where
      late : (j : ℕ) (y : Item) → 1 < j → slice_get (calls_of example 0) j ≡ Some y → AtLeast y.front (1 ∷ [])
      late zero y before at = absurd (omega (arith, before))
      late (suc zero) y before at = absurd (omega (arith, before))
      late (suc (suc j)) y before at = absurd (none-some y at)

shared_lawful : Lawful (contents_of plan) (entry ∷ []) (calls_of example)
shared_lawful = record {
  legal = (refl, refl, tt);
  marked = marked;
  sound = two_calls (IsSound (contents_of plan) (entry ∷ []) (calls_of example)) store_sound load_sound;
  rises = rises;
  ranges = λ c b m x at is. absurd (false≢true (two_calls (λ c b x. x.call ≡ shared.Begin m → false ≡ true) (ap is_cursors) (ap is_cursors) c b x at is));
}

journals : (place : ℕ) (object : ObjectLine) → slice_get plan.objects place ≡ Some object → IsJournalOf plan place object.kind (journal_of example (object_number place))
journals zero object at = subst (λ (o : ObjectLine). IsJournalOf plan 0 o.kind (journal_of example (object_number 0))) (ap (λ (o : Option ObjectLine). unwrap_or o object) at) refl
journals (suc place) object at = absurd (none-some object at)

abbrev is_pool_kind : ObjectKind → Bool
is_pool_kind kinds.Pool = true
is_pool_kind kind = false

-- there is no pool
parts : (place part : ℕ) (object : ObjectLine) → slice_get plan.objects place ≡ Some object → object.kind ≡ kinds.Pool → part < plan.workers → IsPartJournal (puts_at place plan.scripts) (journal_of example (first_part plan place + part))
parts zero part object at pool below = absurd (false≢true (ap is_pool_kind (ap (λ (o : Option ObjectLine). (unwrap_or o object).kind) at ∙ pool)))
parts (suc place) part object at pool below = absurd (none-some object at)

once : (worker object : ℕ) → entries_in object (list_of example worker) ≡ by worker (journal_of example object)
once zero zero = refl
once zero (suc zero) = refl
once zero (suc (suc object)) = refl
once (suc worker) zero = refl
once (suc worker) (suc zero) = refl
once (suc worker) (suc (suc object)) = refl

items_rise : (worker i j : ℕ) (x y : Made) → i < j → slice_get (list_of example worker) i ≡ Some x → slice_get (list_of example worker) j ≡ Some y → AtLeast (front_of y) (front_of x)
items_rise worker i j x y before at_x at_y = two_items (λ w i x. (j : ℕ) (y : Made) → i < j → slice_get (list_of example w) j ≡ Some y → AtLeast (front_of y) (front_of x))
    (λ j y before at. two_items (λ w j y. AtLeast (front_of y) (0 ∷ [])) (at_least 0 0 (omega arith)) (at_least 0 1 (omega arith)) 0 j y at)
    (λ j y before at. late j y before at) worker i x at_x j y before at_y where
      late : (j : ℕ) (y : Made) → 1 < j → slice_get (list_of example 0) j ≡ Some y → AtLeast (front_of y) (1 ∷ [])
      late zero y before at = absurd (omega (arith, before))
      late (suc zero) y before at = absurd (omega (arith, before))
      late (suc (suc j)) y before at = absurd (none-some y at)

lawful : IsRecordOf plan example
lawful = record {
  shared = shared_lawful;
  objects = refl;
  stops = λ k d within. absurd (omega (arith, within));
  journals = journals;
  parts = parts;
  starts = λ some. absurd (false≢true some);
  once = once;
  fronts = record {
    rises = items_rise;
    own = two_items (λ w i x. slice_index (front_of x) w ≡ length (shared_in (take i (list_of example w)))) refl refl;
    made = λ worker i other x at. two_items (λ w i x. slice_index (front_of x) other ≤ length (calls_of example other)) (made 0 (omega arith) other) (made 1 (omega arith) other) worker i x at;
  };
}

abbrev pub line : Line
line = record {
  first = [];
  spelt = record { call = store_call; items = Shared store_item ∷ []; reply = done } ∷ record { call = load_call; items = Shared load_item ∷ []; reply = held 5 } ∷ [];
  last = [];
  halts = [];
  rest = [];
  ending = whole;
}

is_line : IsLineOf plan 0 line
is_line = record {
  opens = (refl, refl);
  calls = ((answers.Done, (store_item ∷ [], refl, refl), refl), ((answers.Held (Int64 (pos 5)), (load_item ∷ [], refl, refl), refl), tt));
  ends = (refl, (refl, refl));
  halts = refl;
}

lines : SpellScripts plan example (replies_by done (held 5)) (line ∷ [])
lines = record { scripts = refl; lists = refl; replies = refl; each = each } where
  each : (worker : ℕ) (l : Line) → slice_get (line ∷ []) worker ≡ Some l → IsLineOf plan worker l
  each zero l at = subst (IsLineOf plan 0) (ap (λ (o : Option Line). unwrap_or o l) at) is_line
  each (suc worker) l at = absurd (none-some l at)

pub explained : (SpellScripts plan example (replies_by done (held 5)) (line ∷ []) → AreLines plan example (replies_by done (held 5)) (line ∷ [])) → Explains plan (replies_by done (held 5)) example
explained are_lines = record { lines = line ∷ []; are = are_lines lines; lawful = lawful; agrees = (ended, refl) } where
  ended : All (λ l. IsAtEnd l.ending) (line ∷ [])
  ended zero d within = tt
  ended (suc k) d within = absurd (omega (arith, within))
