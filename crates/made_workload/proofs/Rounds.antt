-- One round after the other.
use Rattle.std.proofs.Common.{◌≡◌, ℕ, zero, suc, ◌+◌, ◌*◌, ◌-◌, ◌<◌, ◌≤◌, List, ◌++◌, sym, ap, ◌∙◌, append_assoc, arith, add-one}
use Rattle.std.specs.List.{flat_map}
use Rattle.std.proofs.lemmas.List.{append-nil}
use Rattle.rand_core.specs.Steps.{first_words}
use Rattle.rand_pcg.specs.Lcg.{Lcg}
use Rattle.rand_pcg.specs.Pcg.{pcg32}
use Rattle.made_workload.specs.Written.{round_text, rounds_text}
use Rattle.made_workload.proofs.Draws.{words, behind, behind_none, behind_next, twos_next}

-- the words of the rounds that are left, two of them taken
two_less : (i : ℕ) → i < 500 → 2 * (500 - i) ≡ suc (suc (2 * (500 - (i + 1))))
two_less i more = omega (arith, add-one (2 * (500 - (i + 1))), add-one (suc (2 * (500 - (i + 1)))))

-- the text with one more round is that before it with the round's lines
pub round_more : (worker i a b : ℕ) (before after all : List ℕ) (g h k : Lcg) → i < 500 → (a, h) ≡ pcg32 g → (b, k) ≡ pcg32 h → after ≡ before ++ round_text worker (a, b)
    → before ++ rounds_text worker (words (2 * (500 - i)) g) ≡ all → after ++ rounds_text worker (words (2 * (500 - (i + 1))) k) ≡ all
round_more worker i a b before after all g h k more first second now so_far =
    let n : ℕ = 2 * (500 - (i + 1)) in
    let next : rounds_text worker (words (suc (suc n)) g) ≡ round_text worker (a, b) ++ rounds_text worker (words n k) =
    ap (flat_map (round_text worker)) (twos_next n g)
    ∙ ap (λ (p : ℕ × Lcg). round_text worker (p.0, (pcg32 p.1).0) ++ rounds_text worker (words n (pcg32 p.1).1)) (sym first)
    ∙ ap (λ (q : ℕ × Lcg). round_text worker (a, q.0) ++ rounds_text worker (words n q.1)) (sym second) in
    ap (λ (t : List ℕ). t ++ rounds_text worker (words n k)) now ∙ append_assoc before (round_text worker (a, b)) (rounds_text worker (words n k))
    ∙ ap (λ (t : List ℕ). before ++ t) (sym next) ∙ ap (λ (m : ℕ). before ++ rounds_text worker (words m g)) (sym (two_less i more)) ∙ so_far

-- and the generator has drawn two words more
pub behind_round : (i a b : ℕ) (g h k : Lcg) → i < 500 → (a, h) ≡ pcg32 g → (b, k) ≡ pcg32 h → behind (2 * (500 - (i + 1))) k ≡ behind (2 * (500 - i)) g
behind_round i a b g h k more first second =
    let n : ℕ = 2 * (500 - (i + 1)) in
    ap (λ (p : ℕ × Lcg). behind n p.1) second ∙ sym (behind_next n h) ∙ ap (λ (p : ℕ × Lcg). behind (suc n) p.1) first ∙ sym (behind_next (suc n) g) ∙ ap (λ (m : ℕ). behind m g) (sym (two_less i more))

-- where no round is left, the text is whole
none_left : (i : ℕ) → 500 ≤ i → 2 * (500 - i) ≡ zero
none_left i over = omega arith

pub rounds_done : (worker i : ℕ) (text all : List ℕ) (g : Lcg) → 500 ≤ i → text ++ rounds_text worker (words (2 * (500 - i)) g) ≡ all → text ≡ all
unfolding first_words
rounds_done worker i text all g over so_far =
    sym (append-nil text) ∙ ap (λ (n : ℕ). text ++ rounds_text worker (words n g)) (sym (none_left i over)) ∙ so_far

pub behind_done : (i : ℕ) (g h : Lcg) → 500 ≤ i → behind (2 * (500 - i)) g ≡ h → g ≡ h
behind_done i g h over so_far = sym (behind_none g) ∙ ap (λ (n : ℕ). behind n g) (sym (none_left i over)) ∙ so_far
