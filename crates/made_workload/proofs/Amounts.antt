-- What the adds of a seed's scripts come to.
use Rattle.std.proofs.Common.{◌≡◌, ℕ, ◌+◌, ◌*◌, ◌^◌, ◌<◌, ◌≤◌, ◌==◌, ◌%◌, ℤ, pos, true, cond, List, [], ◌∷◌, ◌++◌, map, length, refl, sym, ap, ◌∙◌, arith}
use Rattle.std.specs.Prelude.{sum_by, ◌+ℤ◌}
use Rattle.std.specs.List.{flat_map, range_with_len}
use Rattle.std.proofs.lemmas.Bool.{lt-ltb}
use Rattle.std.proofs.lemmas.List.Sums.{sum_by-append, sum_by-cons}
use Rattle.sync_types.specs.declared.atomic_object.AtomicKind.TheVariants as types
use Rattle.sync_types.specs.declared.atomic_object.Number.{Number}
use Rattle.sync_types.specs.declared.atomic_object.Number.TheVariants.{Int64}
use Rattle.script_calls.specs.declared.call.Call.{Call}
use Rattle.sync_types.specs.SequentialAtomic.{is_of, sum}
use Rattle.workload.specs.Draft.{call_count}
use Rattle.run_laws.specs.Adds.{amount_of, amounts_at, after_adds}
use Rattle.made_workload.specs.Generated.{in_twos, drawn_for, round, generated_plan}
use Rattle.made_workload.specs.Summary as alone
use Rattle.made_workload.proofs.RunRounds.{script_of_worker, scripts_are}

-- the amount that a call adds, and those of a script
abbrev pub added : Call → ℕ
added call = alone.amount_of call.operation

after_append : (held : Number) (xs ys : List ℤ) → after_adds held (xs ++ ys) ≡ after_adds (after_adds held xs) ys
after_append held [] ys = refl
after_append held (x ∷ xs) ys = after_append (sum held (Int64 x)) xs ys

-- a round adds one amount below 1,000
round_adds : (worker : ℕ) (pair : ℕ × ℕ) → sum_by added (round worker pair) ≡ pair.0 % 1000
round_adds worker pair = omega arith

rounds_add : (worker : ℕ) (pair : ℕ × ℕ) (words : List (ℕ × ℕ)) → sum_by added (flat_map (round worker) (pair ∷ words)) ≡ pair.0 % 1000 + sum_by added (flat_map (round worker) words)
rounds_add worker pair words = sum_by-append added (round worker pair) (flat_map (round worker) words) ∙ ap (λ n. n + sum_by added (flat_map (round worker) words)) (round_adds worker pair)

few : (worker : ℕ) (words : List (ℕ × ℕ)) → sum_by added (flat_map (round worker) words) ≤ 1000 * length (flat_map (round worker) words)
few worker [] = omega arith
few worker (pair ∷ words) = let rest = few worker words in let first = rounds_add worker pair words in omega (arith, rest, first)

module _ (exact : (a b : ℤ) → is_of types.Int64 (Int64 a) ≡ true → is_of types.Int64 (Int64 b) ≡ true → is_of types.Int64 (Int64 (a +ℤ b)) ≡ true → sum (Int64 a) (Int64 b) ≡ Int64 (a +ℤ b)) where
  one_add : (n d : ℕ) → n + d < 2 ^ 63 → sum (Int64 (pos n)) (Int64 (pos d)) ≡ Int64 (pos (n + d))
  one_add n d fits = exact (pos n) (pos d) (lt-ltb n (2 ^ 63) (omega (arith, fits))) (lt-ltb d (2 ^ 63) (omega (arith, fits))) (lt-ltb (n + d) (2 ^ 63) fits)

  rounds_after : (worker n : ℕ) (words : List (ℕ × ℕ)) → n + sum_by added (flat_map (round worker) words) < 2 ^ 63
      → after_adds (Int64 (pos n)) (flat_map (λ call. cond (call.object == 1) (amount_of call.operation) []) (flat_map (round worker) words)) ≡ Int64 (pos (n + sum_by added (flat_map (round worker) words)))
  rounds_after worker n [] fits = let e : n ≡ n + 0 = omega arith in ap (λ m. Int64 (pos m)) e
  rounds_after worker n (pair ∷ words) fits =
      let first = rounds_add worker pair words in
      let e : n + pair.0 % 1000 + sum_by added (flat_map (round worker) words) ≡ n + sum_by added (flat_map (round worker) (pair ∷ words)) = omega (arith, first) in
      ap (λ (held : Number). after_adds held (flat_map (λ call. cond (call.object == 1) (amount_of call.operation) []) (flat_map (round worker) words))) (one_add n (pair.0 % 1000) (omega (arith, fits, first)))
      ∙ (rounds_after worker (n + pair.0 % 1000) words (omega (arith, fits, first)) ∙ ap (λ m. Int64 (pos m)) e)

  scripts_after : (seed n : ℕ) (workers : List ℕ) → n + sum_by (λ script. sum_by added script) (map (script_of_worker seed) workers) < 2 ^ 63
      → after_adds (Int64 (pos n)) (amounts_at 1 (map (script_of_worker seed) workers)) ≡ Int64 (pos (n + sum_by (λ script. sum_by added script) (map (script_of_worker seed) workers)))
  scripts_after seed n [] fits = let e : n ≡ n + 0 = omega arith in ap (λ m. Int64 (pos m)) e
  scripts_after seed n (worker ∷ workers) fits =
      let script = script_of_worker seed worker in
      let rest = map (script_of_worker seed) workers in
      let first = sum_by-cons (λ (s : List Call). sum_by added s) script rest in
      let e : n + sum_by added script + sum_by (λ s. sum_by added s) rest ≡ n + sum_by (λ s. sum_by added s) (script ∷ rest) = omega (arith, first) in
      after_append (Int64 (pos n)) (flat_map (λ call. cond (call.object == 1) (amount_of call.operation) []) script) (amounts_at 1 rest)
      ∙ (ap (λ (held : Number). after_adds held (amounts_at 1 rest)) (rounds_after worker n (in_twos (drawn_for seed worker)) (omega (arith, fits, first)))
      ∙ (scripts_after seed (n + sum_by added script) workers (omega (arith, fits, first)) ∙ ap (λ m. Int64 (pos m)) e))

  few_all : (seed : ℕ) (workers : List ℕ) → sum_by (λ script. sum_by added script) (map (script_of_worker seed) workers) ≤ 1000 * sum_by length (map (script_of_worker seed) workers)
  few_all seed [] = omega arith
  few_all seed (worker ∷ workers) =
      let rest = few_all seed workers in
      let first = few worker (in_twos (drawn_for seed worker)) in
      omega (arith, rest, first, sum_by-cons (λ (s : List Call). sum_by added s) (script_of_worker seed worker) (map (script_of_worker seed) workers), sum_by-cons (λ (s : List Call). length s) (script_of_worker seed worker) (map (script_of_worker seed) workers))

  workers_after : (seed : ℕ) (workers : List ℕ) → sum_by length (map (script_of_worker seed) workers) ≡ 16000
      → after_adds (Int64 (pos 0)) (amounts_at 1 (map (script_of_worker seed) workers)) ≡ Int64 (pos (sum_by (λ script. sum_by added script) (map (script_of_worker seed) workers)))
  workers_after seed workers count =
      let most = few_all seed workers in
      let e : 0 + sum_by (λ script. sum_by added script) (map (script_of_worker seed) workers) ≡ sum_by (λ script. sum_by added script) (map (script_of_worker seed) workers) = omega arith in
      scripts_after seed 0 workers (omega (arith, most, count)) ∙ ap (λ m. Int64 (pos m)) e

  -- all adds come to the summary's total
  pub total_after : (seed : ℕ) → call_count (generated_plan seed).scripts ≡ 16000 → after_adds (Int64 (pos 0)) (amounts_at 1 (generated_plan seed).scripts) ≡ Int64 (pos (alone.summary_of (generated_plan seed).scripts).total)
  total_after seed count = ap (λ (scripts : List (List Call)). after_adds (Int64 (pos 0)) (amounts_at 1 scripts)) (scripts_are seed)
      ∙ (workers_after seed (range_with_len 0 8) (ap (sum_by length) (sym (scripts_are seed)) ∙ count)
      ∙ ap (λ (scripts : List (List Call)). Int64 (pos (sum_by (λ script. sum_by added script) scripts))) (sym (scripts_are seed)))
