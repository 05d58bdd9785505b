-- The union of the workers' maps: a key's value is the one that its worker's map has.
use Rattle.std.proofs.Common.{◌≡◌, ℕ, zero, suc, ◌+◌, ◌<◌, ◌≤◌, ◌%◌, ◌/◌, ◌==◌, nat_lt, Bool, true, false, cond, List, [], ◌∷◌, ◌++◌, map, take, Option, Some, None, refl, sym, ap, ◌∙◌, inl, inr, arith}
use Rattle.std.specs.List.{flat_map, range_with_len}
use Rattle.std.specs.Ordering.{nat_cmp, eq_by_cmp}
use Rattle.std.specs.Cmp.Lexicographic.{slice_cmp, nat_list_cmp_total}
use Rattle.std.specs.FinMap.{empty, entries, find, get, get-empty, get-entries, get-insert, get-remove, get-from_entries}
use Rattle.std.specs.Str.{bytes_eq}
use Rattle.std.proofs.lemmas.Bool.{cases_lt}
use Rattle.std.proofs.lemmas.Map.Text.{is_eq-slice_cmp}
use Rattle.std.proofs.lemmas.Slice.Eq.{bytes_eq-Decides}
use Rattle.sync_types.specs.declared.map_object.MapCall.TheVariants.{Load, Store, Delete}
use Rattle.sync_types.specs.SequentialMap.{map_after}
use Rattle.made_workload.specs.Generated.{key_of, round, script_by, drawn_for, in_twos, generated_plan}
use Rattle.workload.specs.OwnMaps.{NamedMap, after_script, map_of, union_of}
use Rattle.made_workload.proofs.Keys.{mark_of, key_marked, marks_apart}
use Rattle.made_workload.proofs.Scripts.{round_key}

-- a call on one key changes nothing at another
other_key : (is_store is_load : Bool) (key q : List ℕ) (value : ℕ) (m : NamedMap) → bytes_eq q key ≡ false → get (map_after (cond is_store (Store key value) (cond is_load (Load key) (Delete key))) m) q ≡ get m q
other_key true is_load key q value m apart = get-insert nat_list_cmp_total m key value q ∙ ap (λ (b : Bool). cond b (Some value) (get m q)) (is_eq-slice_cmp q key ∙ apart)
other_key false true key q value m apart = refl
other_key false false key q value m apart = get-remove nat_list_cmp_total m key q ∙ ap (λ (b : Bool). cond b None (get m q)) (is_eq-slice_cmp q key ∙ apart)

not_marked : (worker number : ℕ) (q : List ℕ) → worker < 8 → (take 3 q ≡ mark_of worker → ⊥) → bytes_eq q (key_of worker number) ≡ false
not_marked worker number q there apart =
    elim (bytes_eq q (key_of worker number)) as (λ b. bytes_eq q (key_of worker number) ≡ b → b ≡ false) [
      | true ↦ λ same. absurd (apart (ap (take 3) ((bytes_eq-Decides q (key_of worker number)).0 same) ∙ key_marked worker number there))
      | false ↦ λ same. refl
    ] refl

-- a worker's rounds change nothing at a key that is none of the worker's
pub rounds_keep : (worker : ℕ) (rounds : List (ℕ × ℕ)) (m : NamedMap) (q : List ℕ) → ((number : ℕ) → number < 64 → bytes_eq q (key_of worker number) ≡ false) → get (after_script 2 m (flat_map (round worker) rounds)) q ≡ get m q
rounds_keep worker [] m q apart = refl
rounds_keep worker (words ∷ rounds) m q apart =
    rounds_keep worker rounds _ q apart ∙ other_key (nat_lt (words.1 % 4) 2) (words.1 % 4 == 2) (round_key worker words) q (words.1 / 256) m (apart (words.1 / 4 % 64) (omega arith))

-- the map of a worker
abbrev own : ℕ → ℕ → NamedMap
own seed worker = map_of 2 (script_by worker (drawn_for seed worker))

not_own : (seed worker : ℕ) (q : List ℕ) → worker < 8 → (take 3 q ≡ mark_of worker → ⊥) → get (own seed worker) q ≡ None
not_own seed worker q there apart = rounds_keep worker (in_twos (drawn_for seed worker)) empty q (λ number small. not_marked worker number q there apart) ∙ get-empty (slice_cmp nat_cmp) q

-- the value at a key in two lists, where one of them hasn't the key
step_over : (here : Bool) (value : ℕ) (rest more found : Option ℕ) → cond here (Some value) rest ≡ None → (rest ≡ None → more ≡ found) → cond here (Some value) more ≡ found
step_over true value rest more found none then = absurd cc
step_over false value rest more found none then = then none

find_behind : (q : List ℕ) (xs ys : List (List ℕ × ℕ)) → find (slice_cmp nat_cmp) q xs ≡ None → find (slice_cmp nat_cmp) q (xs ++ ys) ≡ find (slice_cmp nat_cmp) q ys
find_behind q [] ys none = refl
find_behind q (x ∷ xs) ys none = step_over (eq_by_cmp (slice_cmp nat_cmp) q x.0) x.1 (find (slice_cmp nat_cmp) q xs) (find (slice_cmp nat_cmp) q (xs ++ ys)) _ none (λ later. find_behind q xs ys later)

find_before : (q : List ℕ) (xs ys : List (List ℕ × ℕ)) → find (slice_cmp nat_cmp) q ys ≡ None → find (slice_cmp nat_cmp) q (xs ++ ys) ≡ find (slice_cmp nat_cmp) q xs
find_before q [] ys none = none
find_before q (x ∷ xs) ys none = ap (λ (later : Option ℕ). cond (eq_by_cmp (slice_cmp nat_cmp) q x.0) (Some x.1) later) (find_before q xs ys none)

-- the entries of the maps of some workers, one worker behind the other
abbrev pub entries_of : ℕ → ℕ → ℕ → List (List ℕ × ℕ)
entries_of seed from count = flat_map (λ script. entries (map_of 2 script)) (map (λ worker. script_by worker (drawn_for seed worker)) (range_with_len from count))

nowhere : (seed from count : ℕ) (q : List ℕ) → ((i : ℕ) → from ≤ i → i < from + count → get (own seed i) q ≡ None) → find (slice_cmp nat_cmp) q (entries_of seed from count) ≡ None
nowhere seed from zero q none = refl
nowhere seed from (suc count) q none =
    find_behind q (entries (own seed from)) (entries_of seed (from + 1) count) (sym (get-entries (own seed from) q) ∙ none from (omega arith) (omega arith))
    ∙ nowhere seed (from + 1) count q (λ i low high. none i (omega arith) (omega arith))

in_one : (seed from count at : ℕ) (q : List ℕ) → from ≤ at → at < from + count → ((i : ℕ) → i < from + count → (i ≡ at → ⊥) → get (own seed i) q ≡ None)
    → find (slice_cmp nat_cmp) q (entries_of seed from count) ≡ get (own seed at) q
in_one seed from zero at q low high others = absurd (omega arith)
in_one seed from (suc count) at q low high others = elim (cases_lt from at) [
  | inl later ↦
      find_behind q (entries (own seed from)) (entries_of seed (from + 1) count) (sym (get-entries (own seed from) q) ∙ others from (omega arith) (λ same. omega arith))
      ∙ in_one seed (from + 1) count at q (omega arith) (omega arith) (λ i below apart. others i (omega arith) apart)
  | inr here ↦
      let same : from ≡ at = omega arith in
      find_before q (entries (own seed from)) (entries_of seed (from + 1) count) (nowhere seed (from + 1) count q (λ i low high. others i (omega arith) (λ is. omega arith)))
      ∙ sym (get-entries (own seed from) q) ∙ ap (λ (i : ℕ). get (own seed i) q) same
]

pub union_at : (seed worker : ℕ) (q : List ℕ) → worker < 8 → take 3 q ≡ mark_of worker → get (union_of 2 (generated_plan seed).scripts) q ≡ get (map_of 2 (script_by worker (drawn_for seed worker))) q
unfolding generated_plan
union_at seed worker q there marked =
    get-from_entries nat_list_cmp_total (entries_of seed 0 8) q
    ∙ in_one seed 0 8 worker q (omega arith) (omega arith) (λ i below apart. not_own seed i q (omega arith) (λ too. apart (marks_apart i worker (omega arith) there (sym too ∙ marked))))

pub union_without : (seed : ℕ) (q : List ℕ) → ((worker : ℕ) → worker < 8 → take 3 q ≡ mark_of worker → ⊥) → get (union_of 2 (generated_plan seed).scripts) q ≡ None
unfolding generated_plan
union_without seed q apart =
    get-from_entries nat_list_cmp_total (entries_of seed 0 8) q ∙ nowhere seed 0 8 q (λ i low high. not_own seed i q (omega arith) (λ marked. apart i (omega arith) marked))
