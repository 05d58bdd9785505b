-- How large the numbers of a summary may be.
use Rattle.std.proofs.Common.{◌≡◌, ℕ, zero, suc, ◌+◌, ◌-◌, ◌*◌, ◌%◌, ◌<◌, ◌≤◌, Bool, true, false, ◌||◌, cond, List, [], ◌∷◌, map, length, Option, None, inl, inr, refl, sym, ap, subst, ◌∙◌, arith}
use Rattle.std.specs.List.{list_any, range_with_len, sum_by}
use Rattle.std.specs.Ordering.{nat_cmp, eq_by_cmp}
use Rattle.std.specs.Cmp.Lexicographic.{slice_cmp, nat_list_cmp_total}
use Rattle.std.specs.FinMap.{empty, entries, get, len, remove, contains_key, from_entries, get-empty, get-remove, len-empty, len-entries, len-insert, len-remove, same_map, nat_cmp-IsAntisymmetric, slice_cmp-IsAntisymmetric}
use Rattle.std.specs.Str.{bytes_eq}
use Rattle.std.proofs.lemmas.Bool.{cases_lt}
use Rattle.std.proofs.lemmas.List.Concat.{length-flat_map}
use Rattle.std.proofs.lemmas.List.FromFn.{length-map-range_with_len}
use Rattle.std.proofs.lemmas.List.Sums.{sum_by-cons}
use Rattle.std.proofs.lemmas.Map.Text.{is_eq-slice_cmp}
use Rattle.made_workload.specs.Generated.{key_of, script_by, drawn, drawn_for, in_twos, generated_plan}
use Rattle.workload.specs.OwnMaps.{NamedMap, map_of}
use Rattle.made_workload.specs.Summary.{summary}
use Rattle.made_workload.proofs.Draws.{drawn_twos}
use Rattle.made_workload.proofs.RoundTotals.{round_amount, total_is}
use Rattle.made_workload.proofs.Union.{entries_of, rounds_keep}

-- a map with no key but some names has at most as many
gone : (here : Bool) (there : Option ℕ) → (here ≡ false → there ≡ None) → cond here None there ≡ None
gone true there none = refl
gone false there none = none refl

one_less : (there : Bool) (n less : ℕ) → less ≡ cond there (n - 1) n → n ≤ less + 1
one_less true n less is = omega arith
one_less false n less is = omega arith

few_keys : (names : List (List ℕ)) (m : NamedMap) → ((q : List ℕ) → list_any (bytes_eq q) names ≡ false → get m q ≡ None) → len m ≤ length names
few_keys [] m only =
    let none : m ≡ empty = same_map nat_list_cmp_total (slice_cmp-IsAntisymmetric nat_cmp-IsAntisymmetric) m empty (λ q. only q refl ∙ sym (get-empty (slice_cmp nat_cmp) q)) in
    omega (arith, ap len none, len-empty (slice_cmp nat_cmp) ℕ)
few_keys (name ∷ names) m only =
    let others = few_keys names (remove m name) (λ q none.
    get-remove nat_list_cmp_total m name q
    ∙ gone (eq_by_cmp (slice_cmp nat_cmp) q name) (get m q) (λ apart. only q (ap (λ (b : Bool). b || list_any (bytes_eq q) names) (sym (is_eq-slice_cmp q name) ∙ apart) ∙ none))) in
    omega (arith, others, one_less (contains_key m name) (len m) (len (remove m name)) (len-remove nat_list_cmp_total m name))

-- a test that none passes is passed by no one of them
none_at : (test : List ℕ → Bool) (f : ℕ → List ℕ) (from count at : ℕ) → list_any test (map f (range_with_len from count)) ≡ false → from ≤ at → at < from + count → test (f at) ≡ false
none_at test f from zero at none low high = absurd (omega arith)
none_at test f from (suc count) at none low high = elim (cases_lt from at) [
  | inl later ↦ none_at test f (from + 1) count at (neither (test (f from)) _ none).1 (omega arith) (omega arith)
  | inr here ↦ let same : from ≡ at = omega arith in subst (λ (i : ℕ). test (f i) ≡ false) same (neither (test (f from)) _ none).0
]
  where
    neither : (a b : Bool) → (a || b) ≡ false → (a ≡ false) × (b ≡ false)
    neither true b h = absurd cc
    neither false b h = (refl, h)

-- a worker's map has at most 64 keys
own_keys : (seed worker : ℕ) → len (map_of 2 (script_by worker (drawn_for seed worker))) ≤ 64
own_keys seed worker =
    let few = few_keys (map (key_of worker) (range_with_len 0 64)) (map_of 2 (script_by worker (drawn_for seed worker)))
    (λ q none. rounds_keep worker (in_twos (drawn_for seed worker)) empty q (λ number small. none_at (bytes_eq q) (key_of worker) 0 64 number none (omega arith) (omega arith)) ∙ get-empty (slice_cmp nat_cmp) q) in
    omega (arith, few, length-map-range_with_len (key_of worker) 0 64)

-- the map of some entries has at most as many keys
one_more : (there : Bool) (n more : ℕ) → more ≡ cond there n (n + 1) → more ≤ n + 1
one_more true n more is = omega arith
one_more false n more is = omega arith

len-from_entries : (es : List (List ℕ × ℕ)) → len (from_entries {R = slice_cmp nat_cmp} es) ≤ length es
len-from_entries [] = omega (arith, len-empty (slice_cmp nat_cmp) ℕ)
len-from_entries (e ∷ es) =
    let m : NamedMap = from_entries es in
    omega (arith, len-from_entries es, one_more (contains_key m e.0) (len m) _ (len-insert nat_list_cmp_total m e.0 e.1))

sum_at_most : {X : Type 0} (count : X → ℕ) (f : ℕ → X) (most from n : ℕ) → ((k : ℕ) → count (f k) ≤ most) → sum_by count (map f (range_with_len from n)) ≤ n * most
sum_at_most count f most from zero each = omega arith
sum_at_most count f most from (suc n) each =
    let first = each from in
    let others = sum_at_most count f most (from + 1) n each in
    let whole = sum_by-cons count (f from) (map f (range_with_len (from + 1) n)) in
    omega (arith, first, others, whole)

pub keys_few : (seed : ℕ) → (summary seed).keys ≤ 512
unfolding summary generated_plan
keys_few seed =
    let each : (worker : ℕ) → length (entries (map_of 2 (script_by worker (drawn_for seed worker)))) ≤ 64 = λ worker. omega (arith, own_keys seed worker, len-entries (map_of 2 (script_by worker (drawn_for seed worker)))) in
    let sum = sum_at_most (λ script. length (entries (map_of 2 script))) (λ worker. script_by worker (drawn_for seed worker)) 64 0 8 each in
    let all = length-flat_map (λ script. entries (map_of 2 script)) (map (λ worker. script_by worker (drawn_for seed worker)) (range_with_len 0 8)) in
    omega (arith, len-from_entries (entries_of seed 0 8), all, sum)

amounts_small : (rounds : List (ℕ × ℕ)) → sum_by round_amount rounds ≤ 999 * length rounds
amounts_small [] = omega arith
amounts_small (words ∷ rounds) =
    let amount : words.0 % 1000 ≤ 999 = omega arith in
    omega (arith, amounts_small rounds, sum_by-cons round_amount words rounds, amount)

pub total_small : (seed : ℕ) → (summary seed).total ≤ 3996000
total_small seed = omega (arith, total_is seed, amounts_small (in_twos (drawn seed)), drawn_twos seed)
