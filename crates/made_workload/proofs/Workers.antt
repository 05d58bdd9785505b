-- One worker after the other.
use Rattle.std.proofs.Common.{◌≡◌, ℕ, suc, ◌+◌, ◌*◌, ◌-◌, ◌<◌, ◌≤◌, List, ◌++◌, sym, ap, ◌∙◌, append_assoc, arith, add-one}
use Rattle.std.proofs.lemmas.List.{append-nil}
use Rattle.rand_pcg.specs.Lcg.{Lcg}
use Rattle.made_workload.specs.Generated.{generator_of, drawn_for}
use Rattle.made_workload.specs.Written.{worker_text, workers_text}
use Rattle.made_workload.proofs.Draws.{words, behind, behind_more, drawn_is}

-- the text with one more worker is that before it with the worker's lines
pub worker_more : (seed worker : ℕ) (before after all : List ℕ) (g : Lcg) → worker < 8 → g ≡ behind (1000 * worker) (generator_of seed) → after ≡ before ++ worker_text worker (words 1000 g)
    → before ++ workers_text seed worker (8 - worker) ≡ all → after ++ workers_text seed (worker + 1) (8 - (worker + 1)) ≡ all
unfolding workers_text
worker_more seed worker before after all g more draws now so_far =
    let n : ℕ = 8 - (worker + 1) in
    let left : 8 - worker ≡ suc n = omega (arith, add-one n) in
    let own : words 1000 g ≡ drawn_for seed worker = ap (words 1000) draws ∙ sym (drawn_is seed worker more) in
    ap (λ (t : List ℕ). t ++ workers_text seed (worker + 1) n) now
    ∙ ap (λ (ws : List ℕ). (before ++ worker_text worker ws) ++ workers_text seed (worker + 1) n) own
    ∙ append_assoc before (worker_text worker (drawn_for seed worker)) (workers_text seed (worker + 1) n)
    ∙ ap (λ (m : ℕ). before ++ workers_text seed worker m) (sym left) ∙ so_far

-- and the generator stands behind the worker's words
pub behind_worker : (seed worker : ℕ) (g h : Lcg) → g ≡ behind (1000 * worker) (generator_of seed) → h ≡ behind 1000 g → h ≡ behind (1000 * (worker + 1)) (generator_of seed)
behind_worker seed worker g h draws now =
    let next : 1000 * worker + 1000 ≡ 1000 * (worker + 1) = omega arith in
    now ∙ ap (behind 1000) draws ∙ behind_more (1000 * worker) 1000 (generator_of seed) ∙ ap (λ (n : ℕ). behind n (generator_of seed)) next

-- where no worker is left, the text is whole
pub workers_done : (seed worker : ℕ) (text all : List ℕ) → 8 ≤ worker → text ++ workers_text seed worker (8 - worker) ≡ all → text ≡ all
unfolding workers_text
workers_done seed worker text all over so_far =
    let none : 8 - worker ≡ 0 = omega arith in
    sym (append-nil text) ∙ ap (λ (n : ℕ). text ++ workers_text seed worker n) (sym none) ∙ so_far
