-- The workload of a seed has a text.
use Rattle.std.proofs.Common.{◌≡◌, ℕ, ◌+◌, ◌<◌, ◌≤◌, true, false, Bool, cond, ◌==◌, eq-eqb, List, [], ◌∷◌, map, length, replicate, Some, slice_get, zero, suc, add-zero, zero-add, refl, sym, ap, ◌∙◌, arith}
use Rattle.std.specs.Prelude.{sum_by}
use Rattle.std.specs.List.{list_all, list_any, flat_map, range_with_len, count_by}
use Rattle.std.specs.Str.{bytes_eq}
use Rattle.std.proofs.lemmas.List.{length-map}
use Rattle.std.proofs.lemmas.List.Concat.{length-flat_map}
use Rattle.std.proofs.lemmas.List.FromFn.{length-map-range_with_len}
use Rattle.script_calls.specs.declared.call.Call.{Call}
use Rattle.script_calls.specs.Starts.{starts, start_count}
use Rattle.workload.specs.Draft.{all_keys, keys_of, call_count, range_count, distinct_count, try_count, access_count, is_call, is_range, is_access, tries_of}
use Rattle.workload.specs.Canonical.{canonical}
use Rattle.workload.specs.Dialect.{has_variables, has_unrecorded}
use Rattle.workload.specs.Plan.{starts_dormant}
use Rattle.workload.specs.Readable.{IsReadable}
use Rattle.made_workload.specs.Generated.{in_twos, script_by, drawn_for, generated_scripts, generated_plan, generated_text}
use Rattle.made_workload.proofs.Ranges.{pair, all_pass, sum_of_same}
use Rattle.made_workload.proofs.Draws.{drawn_rounds}
use Rattle.made_workload.proofs.Scripts.{is_in_place, script_in_place, script_in_range, length_script, script_keys, script_ranges, script_tries, script_accesses, script_starts, script_waits, round_key}

abbrev script : ℕ → ℕ → List Call
script seed worker = script_by worker (drawn_for seed worker)

-- a script has 2,000 calls
pub script_calls : (seed worker : ℕ) → worker < 8 → length (script seed worker) ≡ 2000
script_calls seed worker there =
    let many = (drawn_rounds seed worker there).many in
    length_script worker (in_twos (drawn_for seed worker)) ∙ omega (arith, many)

-- and all of them 16,000
pub all_calls : (seed : ℕ) → call_count (generated_scripts seed) ≡ 16000
all_calls seed = sum_of_same length (script seed) 2000 0 8 (λ worker there. script_calls seed worker there)

no_ranges : (seed : ℕ) → range_count (generated_scripts seed) ≡ 0
no_ranges seed = sum_of_same (count_by is_range) (script seed) 0 0 8 (λ worker there. script_ranges worker (in_twos (drawn_for seed worker)))

no_tries : (seed : ℕ) → try_count (generated_scripts seed) ≡ 0
no_tries seed = sum_of_same (sum_by (λ (call : Call). tries_of call.operation)) (script seed) 0 0 8 (λ worker there. script_tries worker (in_twos (drawn_for seed worker)))

no_accesses : (seed : ℕ) → access_count (generated_scripts seed) ≡ 0
no_accesses seed = sum_of_same (count_by is_access) (script seed) 0 0 8 (λ worker there. script_accesses worker (in_twos (drawn_for seed worker)))

no_starts : (seed other : ℕ) → start_count other (generated_scripts seed) ≡ 0
no_starts seed other = sum_of_same (count_by (starts other)) (script seed) 0 0 8 (λ worker there. script_starts other worker (in_twos (drawn_for seed worker)))

-- a script has 500 keys, which may be the same ones
some_keys : (seed worker : ℕ) → worker < 8 → length (flat_map keys_of (script seed worker)) ≡ 500
some_keys seed worker there =
    let rounds = in_twos (drawn_for seed worker) in
    ap length (script_keys worker rounds) ∙ length-map rounds (round_key worker) ∙ (drawn_rounds seed worker there).many

few_keys : (seed : ℕ) → length (all_keys (generated_scripts seed)) ≡ 4000
few_keys seed = length-flat_map (flat_map keys_of) (generated_scripts seed) ∙ sum_of_same (λ calls. length (flat_map keys_of calls)) (script seed) 500 0 8 (λ worker there. some_keys seed worker there)

distinct-le : (b : Bool) (n m : ℕ) → n ≤ m → cond b n (n + 1) ≤ m + 1
distinct-le true n m h = omega arith
distinct-le false n m h = omega arith

distinct_count-le : (names : List (List ℕ)) → distinct_count names ≤ length names
distinct_count-le [] = omega arith
distinct_count-le (name ∷ names) = omega (arith, distinct-le (list_any (bytes_eq name) names) (distinct_count names) (length names) (distinct_count-le names))

pub readable : (seed : ℕ) → IsReadable (generated_plan seed)
unfolding generated_plan
readable seed =
    let scripts = generated_scripts seed in
    let in_place = all_pass (list_all is_in_place) (script seed) 0 8 (λ worker there. script_in_place worker (in_twos (drawn_for seed worker)) (drawn_rounds seed worker there).small) in
    let wait : Call → Bool = λ call. starts_dormant (replicate 8 false) call.operation in
    let waits = all_pass (list_all wait) (script seed) 0 8 (λ worker there. script_waits (replicate 8 false) worker (in_twos (drawn_for seed worker))) in
    record {
      valid = pair (length scripts == 8) _ (eq-eqb (length scripts) 8 (length-map-range_with_len (script seed) 0 8)) (pair (list_all (list_all is_in_place) scripts) (list_all (list_all wait) scripts) in_place waits);
      some_workers = omega arith;
      few_workers = omega arith;
      objects = refl;
      calls = all_pass (list_all is_call) (script seed) 0 8 (λ worker there. script_in_range worker (in_twos (drawn_for seed worker)) there (drawn_rounds seed worker there).small);
      call_room = omega (arith, all_calls seed);
      key_room = omega (arith, distinct_count-le (all_keys scripts), few_keys seed);
      range_room = omega (arith, no_ranges seed);
      try_room = omega (arith, no_tries seed);
      access_room = omega (arith, no_accesses seed);
      starts = λ other. omega (arith, no_starts seed other);
      items = refl;
      turn_room = omega arith;
    }

pub no_variables : (seed : ℕ) → has_variables (generated_plan seed) ≡ false
unfolding generated_plan
no_variables seed = refl

pub no_unrecorded : (seed : ℕ) → has_unrecorded (generated_plan seed) ≡ false
unfolding generated_plan
no_unrecorded seed = refl

pub text_is_canonical : (seed : ℕ) → generated_text seed ≡ canonical (generated_plan seed)
unfolding generated_text
text_is_canonical seed = refl

get_at : {X : Type 0} (f : ℕ → X) (a n k : ℕ) → k < n → slice_get (map f (range_with_len a n)) k ≡ Some (f (a + k))
get_at f a zero k there = absurd (omega arith)
get_at f a (suc n) zero there = ap (λ (m : ℕ). Some (f m)) (sym (add-zero a))
get_at f a (suc n) (suc k) there = get_at f (a + 1) n k (omega arith) ∙ ap (λ (m : ℕ). Some (f m)) (omega arith)

pub script_at : (seed worker : ℕ) → worker < 8 → slice_get (generated_scripts seed) worker ≡ Some (script_by worker (drawn_for seed worker))
script_at seed worker there = get_at (script seed) 0 8 worker there ∙ ap (λ (w : ℕ). Some (script seed w)) (zero-add worker)
