-- What is added to `total`.
use Rattle.std.proofs.Common.{◌≡◌, ℕ, zero, suc, ◌+◌, ◌%◌, ◌≤◌, List, [], ◌∷◌, ◌++◌, map, refl, sym, ap, ◌∙◌, arith}
use Rattle.std.specs.List.{flat_map, range_with_len, sum_by}
use Rattle.std.proofs.lemmas.List.Sums.{sum_by-cons, sum_by-append}
use Rattle.script_calls.specs.declared.call.Call.{Call}
use Rattle.made_workload.specs.Generated.{in_twos, round, script_by, drawn, drawn_for, generated_plan}
use Rattle.made_workload.specs.Summary.{amount_of, summary}
use Rattle.made_workload.proofs.Draws.{drawn_by_all, twos_are}

abbrev amount : Call → ℕ
amount call = amount_of call.operation

-- what a round adds
abbrev pub round_amount : ℕ × ℕ → ℕ
round_amount words = words.0 % 1000

round_adds : (worker : ℕ) (words : ℕ × ℕ) (calls : List Call) → sum_by amount (round worker words ++ calls) ≡ round_amount words + sum_by amount calls
round_adds worker words calls = sum_by-append amount (round worker words) calls ∙ omega arith

script_adds : (worker : ℕ) (rounds : List (ℕ × ℕ)) → sum_by amount (flat_map (round worker) rounds) ≡ sum_by round_amount rounds
script_adds worker [] = refl
script_adds worker (words ∷ rounds) =
    round_adds worker words (flat_map (round worker) rounds) ∙ ap (λ (n : ℕ). round_amount words + n) (script_adds worker rounds) ∙ sym (sum_by-cons round_amount words rounds)

-- words that make whole rounds, before others
twos_before : (rounds : List (ℕ × ℕ)) (others : List ℕ) → in_twos (flat_map (λ (p : ℕ × ℕ). p.0 ∷ p.1 ∷ []) rounds ++ others) ≡ rounds ++ in_twos others
twos_before [] others = refl
twos_before (words ∷ rounds) others = ap (λ (rs : List (ℕ × ℕ)). words ∷ rs) (twos_before rounds others)

workers_add : (seed from count : ℕ) → from + count ≤ 8
    → sum_by (λ script. sum_by amount script) (map (λ worker. script_by worker (drawn_for seed worker)) (range_with_len from count)) ≡ sum_by round_amount (in_twos (flat_map (drawn_for seed) (range_with_len from count)))
workers_add seed from zero fits = refl
workers_add seed from (suc count) fits =
    let rounds = in_twos (drawn_for seed from) in
    let later = flat_map (drawn_for seed) (range_with_len (from + 1) count) in
    let scripts = map (λ worker. script_by worker (drawn_for seed worker)) (range_with_len (from + 1) count) in
    let twos : in_twos (drawn_for seed from ++ later) ≡ rounds ++ in_twos later = ap (λ (ws : List ℕ). in_twos (ws ++ later)) (sym (twos_are seed from (omega arith))) ∙ twos_before rounds later in
    sum_by-cons (λ script. sum_by amount script) (script_by from (drawn_for seed from)) scripts
    ∙ ap (λ (n : ℕ). n + sum_by (λ script. sum_by amount script) scripts) (script_adds from rounds) ∙ ap (λ (n : ℕ). sum_by round_amount rounds + n) (workers_add seed (from + 1) count (omega arith))
    ∙ sym (ap (sum_by round_amount) twos ∙ sum_by-append round_amount rounds (in_twos later))

pub total_is : (seed : ℕ) → (summary seed).total ≡ sum_by round_amount (in_twos (drawn seed))
unfolding summary generated_plan
total_is seed = workers_add seed 0 8 (omega arith) ∙ ap (λ (ws : List ℕ). sum_by round_amount (in_twos ws)) (drawn_by_all seed)
