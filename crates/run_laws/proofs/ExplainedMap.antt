-- A load from a map that finds what was stored, and one that finds what nobody stored.
use Rattle.std.proofs.Common.{◌≡◌, ℕ, zero, suc, ◌+◌, ◌<◌, ◌==◌, Bool, true, false, cond, List, [], ◌∷◌, ◌++◌, map, length, take, Option, Some, slice_get, slice_index, refl, sym, ap, ◌∙◌, subst, arith}
use Rattle.std.specs.Prelude.{unwrap_or}
use Rattle.std.specs.Cmp.{nat_cmp_total}
use Rattle.std.specs.Cmp.Lexicographic.{slice_cmp, nat_list_cmp_total}
use Rattle.std.specs.FinMap.{FinMap, empty, from_entries, get, insert, entries, put, get-insert, entries-insert, len-empty, len-entries}
use Rattle.std.specs.Ordering.{nat_cmp}
use Rattle.std.proofs.lemmas.Bool.{eqb-true, false≢true}
use Rattle.std.proofs.lemmas.Option.{none-some}
use Rattle.script_calls.specs.declared.call.Operation.TheVariants as operations
use Rattle.script_calls.specs.declared.call.Reply.TheVariants as replies
use Rattle.script_calls.specs.declared.outcome.Outcome.{Outcome}
use Rattle.sync_model.specs.declared.item.Item.{Item}
use Rattle.sync_model.specs.declared.item.SharedEntry.{SharedEntry}
use Rattle.sync_model.specs.declared.item.SharedReply.{SharedReply}
use Rattle.sync_model.specs.declared.item.SharedReply.TheVariants as shared_replies
use Rattle.sync_model.specs.Journal.{by}
use Rattle.sync_model.specs.SharedCalls.{Lawful}
use Rattle.sync_model.specs.SharedHistory.{contents_after, entries_by, marked_in}
use Rattle.sync_types.specs.declared.end.End.{End}
use Rattle.sync_types.specs.declared.end.End.TheVariants.{Pair}
use Rattle.sync_types.specs.declared.map_object.MapCall.TheVariants.{Load, Store}
use Rattle.sync_types.specs.declared.map_object.MapReply.TheVariants as map_replies
use Rattle.workload.specs.declared.object.ObjectKind.TheVariants as kinds
use Rattle.workload.specs.declared.object.ObjectLine.{ObjectLine}
use Rattle.workload.specs.Keys.{key_name, key_number}
use Rattle.workload.specs.Puts.{puts_at}
use Rattle.run_record.specs.declared.made.Made.{Made}
use Rattle.run_record.specs.declared.made.Made.TheVariants.{Shared}
use Rattle.run_record.specs.Calls.{IsJournalOf}
use Rattle.run_record.specs.Explains.{IsRecordOf, Explains}
use Rattle.run_record.specs.Lines.{SpeltCall, AreSpelt}
use Rattle.run_record.specs.Objects.{contents_of, ends_in, first_part, is_pool, named}
use Rattle.run_record.specs.PoolKind.{IsPartJournal}
use Rattle.run_record.specs.Record.{object_number, journal_of, list_of, calls_of, shared_in, entries_in, front_of}
use Rattle.run_laws.specs.Examples.{on}
use Rattle.run_laws.specs.ExamplesMap.{key, plan, outcome, stores, loads, stored, found}
use Rattle.run_laws.proofs.OneCallEach.{IsFirst, one_each}
use Rattle.run_laws.proofs.SmallRecords.{ByScript, none_at, whole_line, are_whole, both_ended}

-- the map with the one key
abbrev held : FinMap nat_cmp ℕ
held = insert empty 0 5

no_length : {A : Type 0} (xs : List A) → length xs ≡ 0 → xs ≡ []
no_length [] is = refl
no_length (x ∷ xs) is = absurd (omega (arith, is))

no_entries : entries (empty {K = ℕ} {X = ℕ} {R = nat_cmp}) ≡ []
no_entries = no_length (entries (empty {K = ℕ} {X = ℕ} {R = nat_cmp})) (sym (len-entries (empty {K = ℕ} {X = ℕ} {R = nat_cmp})) ∙ len-empty nat_cmp ℕ)

no_names : entries (empty {K = List ℕ} {X = ℕ} {R = slice_cmp nat_cmp}) ≡ []
no_names = no_length (entries (empty {K = List ℕ} {X = ℕ} {R = slice_cmp nat_cmp})) (sym (len-entries (empty {K = List ℕ} {X = ℕ} {R = slice_cmp nat_cmp})) ∙ len-empty (slice_cmp nat_cmp) ℕ)

one_entry : let pair : ℕ × ℕ = (0, 5) in entries held ≡ pair ∷ []
one_entry = entries-insert nat_cmp_total empty 0 5 ∙ ap (put nat_cmp 0 5) no_entries

abbrev named_entries : List (ℕ × ℕ) → FinMap (slice_cmp nat_cmp) ℕ
named_entries es = from_entries (map (λ entry. (key_name (key ∷ []) entry.0, entry.1)) es)

one_name : let pair : List ℕ × ℕ = (key, 5) in entries (named (key ∷ []) held) ≡ pair ∷ []
one_name = ap (λ (es : List (ℕ × ℕ)). entries (named_entries es)) one_entry ∙ (entries-insert nat_list_cmp_total empty key 5 ∙ ap (put (slice_cmp nat_cmp) key 5) no_names)

there : get held 0 ≡ Some 5
there = get-insert nat_cmp_total empty 0 5 0

both_calls : (P : ℕ → ℕ → Item → Type 0) → P 0 0 stores → P 1 0 (loads 5) → (c j : ℕ) (x : Item) → slice_get (calls_of (found 5) c) j ≡ Some x → P c j x
both_calls P first second zero zero x at = subst (P 0 0) (ap (λ (o : Option Item). unwrap_or o x) at) first
both_calls P first second zero (suc j) x at = absurd (none-some x at)
both_calls P first second (suc zero) zero x at = subst (P 1 0) (ap (λ (o : Option Item). unwrap_or o x) at) second
both_calls P first second (suc zero) (suc j) x at = absurd (none-some x at)
both_calls P first second (suc (suc c)) j x at = absurd (none-some x at)

both_items : (P : ℕ → ℕ → Made → Type 0) → P 0 0 (Shared stores) → P 1 0 (Shared (loads 5)) → (worker i : ℕ) (x : Made) → slice_get (list_of (found 5) worker) i ≡ Some x → P worker i x
both_items P first second zero zero x at = subst (P 0 0) (ap (λ (o : Option Made). unwrap_or o x) at) first
both_items P first second zero (suc i) x at = absurd (none-some x at)
both_items P first second (suc zero) zero x at = subst (P 1 0) (ap (λ (o : Option Made). unwrap_or o x) at) second
both_items P first second (suc zero) (suc i) x at = absurd (none-some x at)
both_items P first second (suc (suc worker)) i x at = absurd (none-some x at)

marked : (c : ℕ) → marked_in c (calls_of (found 5) c) ≡ entries_by c (stored ∷ [])
marked zero = refl
marked (suc zero) = refl
marked (suc (suc c)) = by_test (0 == suc (suc c)) refl where
  by_test : (b : Bool) → (0 == suc (suc c)) ≡ b → let numbered : ℕ × SharedEntry = (0, stored) in [] ≡ cond b (numbered ∷ []) []
  by_test true same = absurd (omega (arith, eqb-true 0 (suc (suc c)) same))
  by_test false other = refl

lawful_calls : Lawful (contents_of plan) (stored ∷ []) (calls_of (found 5))
lawful_calls = one_each (contents_of plan) (stored ∷ []) (calls_of (found 5))
    (both_calls (λ c j x. IsFirst (contents_of plan) (stored ∷ []) j x)
    (record { alone = refl; knows = refl; plain = refl; place = omega arith; reply = refl; entry = refl })
    (record { alone = refl; knows = refl; plain = refl; place = omega arith; reply = ap (λ (o : Option ℕ). shared_replies.Map (map_replies.Found o)) (sym there); entry = refl }))
    (refl, refl, tt) marked

once : (worker object : ℕ) → entries_in object (list_of (found 5) worker) ≡ by worker (journal_of (found 5) object)
once zero zero = refl
once zero (suc zero) = refl
once zero (suc (suc object)) = refl
once (suc zero) zero = refl
once (suc zero) (suc zero) = refl
once (suc zero) (suc (suc object)) = refl
once (suc (suc worker)) zero = refl
once (suc (suc worker)) (suc zero) = refl
once (suc (suc worker)) (suc (suc object)) = refl

journals : (place : ℕ) (object : ObjectLine) → slice_get plan.objects place ≡ Some object → IsJournalOf plan place object.kind (journal_of (found 5) (object_number place))
journals zero object at = subst (λ (o : ObjectLine). IsJournalOf plan 0 o.kind (journal_of (found 5) (object_number 0))) (ap (λ (o : Option ObjectLine). unwrap_or o object) at) refl
journals (suc place) object at = absurd (none-some object at)

parts : (place part : ℕ) (object : ObjectLine) → slice_get plan.objects place ≡ Some object → object.kind ≡ kinds.Pool → part < plan.workers → IsPartJournal (puts_at place plan.scripts) (journal_of (found 5) (first_part plan place + part))
parts zero part object at pool below = absurd (false≢true (ap is_pool (ap (λ (o : Option ObjectLine). (unwrap_or o object).kind) at ∙ pool)))
parts (suc place) part object at pool below = absurd (none-some object at)

is_record : IsRecordOf plan (found 5)
is_record = record {
  shared = lawful_calls;
  objects = refl;
  stops = λ k d within. absurd (omega (arith, within));
  journals = journals;
  parts = parts;
  starts = λ waits. absurd (false≢true waits);
  once = once;
  fronts = record {
    rises = λ worker i j x y before at_x at_y. absurd (omega (arith, before, first_there worker i x at_x, first_there worker j y at_y));
    own = both_items (λ w i x. slice_index (front_of x) w ≡ length (shared_in (take i (list_of (found 5) w)))) refl refl;
    made = λ worker i other x at. omega (arith, none_before worker i other x at);
  };
} where
  first_there : (worker i : ℕ) (x : Made) → slice_get (list_of (found 5) worker) i ≡ Some x → i ≡ 0
  first_there = both_items (λ w i x. i ≡ 0) refl refl

  none_before : (worker i other : ℕ) (x : Made) → slice_get (list_of (found 5) worker) i ≡ Some x → slice_index (front_of x) other ≡ 0
  none_before worker i other x at = both_items (λ w i x. slice_index (front_of x) other ≡ 0) (none_at other) (none_at other) worker i x at

abbrev first : List SpeltCall
first = record { call = on 0 (operations.Map (Store key 5)); items = Shared stores ∷ []; reply = replies.Map map_replies.Done } ∷ []

abbrev second : List SpeltCall
second = record { call = on 0 (operations.Map (Load key)); items = Shared (loads 5) ∷ []; reply = replies.Map (map_replies.Found (Some 5)) } ∷ []

spelt_first : AreSpelt plan 0 0 first
spelt_first = ((map_replies.Done, (stores ∷ [], refl, refl), refl), tt)

spelt_second : AreSpelt plan 1 0 second
spelt_second = ((map_replies.Found (Some 5), (loads 5 ∷ [], refl, refl), refl), tt)

abbrev ends_by : List (List ℕ × ℕ) → List End
ends_by es = map (λ entry. Pair 0 (key_number (key ∷ []) entry.0) entry.1) es ++ []

-- the map has the one key at the end
ends : Pair 0 0 5 ∷ [] ≡ ends_in plan (contents_after (contents_of plan) (stored ∷ []))
ends = sym (ap (λ (es : List (List ℕ × ℕ)). ends_by es) one_name)

pub explained : ByScript → Explains plan (outcome 5) (found 5)
explained by_script = record {
  lines = whole_line first ∷ whole_line second ∷ [];
  are = (by_script plan _ _ _ refl).1 (record { scripts = refl; lists = refl; replies = refl; each = are_whole plan refl first second spelt_first spelt_second });
  lawful = is_record;
  agrees = (both_ended first second, ends);
}

-- what a load's reply shows
abbrev shown : SharedReply → ℕ
shown (shared_replies.Map (map_replies.Found (Some value))) = value
shown reply = 0

pub refused : (other : Outcome) → Explains plan other (found 7) → ⊥
refused other explains =
    let given : shared_replies.Map (map_replies.Found (Some 7)) ≡ shared_replies.Map (map_replies.Found (get held 0)) = (explains.lawful.shared.sound 1 0 (loads 7) refl).reply in
    let same : 7 ≡ 5 = ap shown (given ∙ ap (λ (o : Option ℕ). shared_replies.Map (map_replies.Found o)) there) in
    absurd (omega (arith, same))
