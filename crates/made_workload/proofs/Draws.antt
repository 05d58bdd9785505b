-- The words that a generator draws, one behind the other.
use Rattle.std.proofs.Common.{◌≡◌, ℕ, zero, suc, ◌+◌, ◌*◌, ◌-◌, ◌<◌, ◌≤◌, List, [], ◌∷◌, ◌++◌, take, drop, length, refl, sym, ap, subst, ◌∙◌, zero-add, suc-add, add-suc, ◌/◌, ◌%◌, ◌^◌, bit_xor, nat_lt, Bool, true, lit<, Some, slice_get, arith}
use Rattle.std.specs.List.{list_all, flat_map, range_with_len}
use Rattle.std.proofs.lemmas.List.{drop_all, drop-drop, take-append-drop}
use Rattle.std.proofs.lemmas.Bool.{lt-ltb}
use Rattle.std.proofs.lemmas.Nat.{or_lt}
use Rattle.std.proofs.Math.Nat.{lt_of_le_of_lt, div-le_self, mod-lt}
use Rattle.rand_core.specs.Steps.{first_words}
use Rattle.rand_pcg.specs.Lcg.{Lcg, advance, state_after}
use Rattle.rand_pcg.specs.Pcg.{multiplier_64, pcg32}
use Rattle.made_workload.specs.Generated.{generator_of, drawn, drawn_for, in_twos}
use Rattle.made_workload.proofs.Ranges.{pair}

-- the next words of a generator, and the generator behind them
abbrev pub words : ℕ → Lcg → List ℕ
words n g = first_words pcg32 n g

abbrev pub behind : ℕ → Lcg → Lcg
behind n g = advance 64 multiplier_64 n g

pub words_next : (n : ℕ) (g : Lcg) → words (suc n) g ≡ (pcg32 g).0 ∷ words n (pcg32 g).1
unfolding first_words
words_next n g = refl

pub behind_none : (g : Lcg) → behind zero g ≡ g
unfolding state_after
behind_none g = refl

pub behind_next : (n : ℕ) (g : Lcg) → behind (suc n) g ≡ behind n (pcg32 g).1
unfolding state_after
behind_next n g = refl

pub behind_more : (n m : ℕ) (g : Lcg) → behind m (behind n g) ≡ behind (n + m) g
behind_more zero m g = ap (behind m) (behind_none g) ∙ ap (λ (k : ℕ). behind k g) (sym (zero-add m))
behind_more (suc n) m g = ap (behind m) (behind_next n g) ∙ behind_more n m (pcg32 g).1 ∙ sym (behind_next (n + m) g) ∙ ap (λ (k : ℕ). behind k g) (sym (suc-add n m))

length_words : (n : ℕ) (g : Lcg) → length (words n g) ≡ n
unfolding first_words
length_words zero g = refl
length_words (suc n) g = ap suc (length_words n (pcg32 g).1)

two_words : (g : Lcg) → words 2 g ≡ (pcg32 g).0 ∷ (pcg32 (pcg32 g).1).0 ∷ []
unfolding first_words
two_words g = refl

drop_words : (n m : ℕ) (g : Lcg) → drop n (words (n + m) g) ≡ words m (behind n g)
drop_words zero m g = ap (λ (k : ℕ). words k g) (zero-add m) ∙ ap (words m) (sym (behind_none g))
drop_words (suc n) m g =
    ap (λ (k : ℕ). drop (suc n) (words k g)) (suc-add n m) ∙ ap (drop (suc n)) (words_next (n + m) g)
    ∙ drop_words n m (pcg32 g).1 ∙ ap (words m) (sym (behind_next n g))

take_words : (n m : ℕ) (g : Lcg) → take n (words (n + m) g) ≡ words n g
unfolding first_words
take_words zero m g = refl
take_words (suc n) m g =
    ap (λ (k : ℕ). take (suc n) (words k g)) (suc-add n m) ∙ ap (take (suc n)) (words_next (n + m) g)
    ∙ ap (λ (ws : List ℕ). (pcg32 g).0 ∷ ws) (take_words n m (pcg32 g).1) ∙ sym (words_next n g)

-- so many words, behind so many others
part_of_words : (all before n : ℕ) (g : Lcg) → before + n ≤ all → take n (drop before (words all g)) ≡ words n (behind before g)
part_of_words all before n g fits =
    let parts : all ≡ before + (n + (all - (before + n))) = omega arith in
    ap (λ (k : ℕ). take n (drop before (words k g))) parts ∙ ap (take n) (drop_words before (n + (all - (before + n))) g) ∙ take_words n _ (behind before g)

-- a worker's words are what the generator draws behind those of the workers before it
pub drawn_is : (seed worker : ℕ) → worker < 8 → drawn_for seed worker ≡ words 1000 (behind (1000 * worker) (generator_of seed))
unfolding drawn
drawn_is seed worker there = part_of_words 8000 (1000 * worker) 1000 (generator_of seed) (omega arith)

pub length_drawn : (seed : ℕ) → length (drawn seed) ≡ 8000
unfolding drawn
length_drawn seed = length_words 8000 (generator_of seed)

-- the pairs of an even number of words
pub twos_next : (n : ℕ) (g : Lcg) → in_twos (words (suc (suc n)) g) ≡ ((pcg32 g).0, (pcg32 (pcg32 g).1).0) ∷ in_twos (words n (pcg32 (pcg32 g).1).1)
unfolding first_words
twos_next n g = refl

-- a word is one of 32 bits
pub word_small : (g : Lcg) → (pcg32 g).0 < 2 ^ 32
word_small g =
    let word = bit_xor (g.state / 2 ^ 18) g.state / 2 ^ 27 % 2 ^ 32 in
    or_lt 32 _ _ (lt_of_le_of_lt (div-le_self word _) (mod-lt _ (lit< tt))) (mod-lt _ (lit< tt))

-- whether the second word of a round is one
abbrev pub is_small : ℕ × ℕ → Bool
is_small words = nat_lt words.1 (2 ^ 32)

-- so many rounds, each by words of 32 bits
pub record AreRounds (count : ℕ) (rounds : List (ℕ × ℕ)) : Type 0 where
  pub many : length rounds ≡ count
  pub small : list_all is_small rounds ≡ true

rounds_are : (n : ℕ) (g : Lcg) → AreRounds n (in_twos (words (n + n) g))
unfolding first_words
rounds_are zero g = record { many = refl; small = refl }
rounds_are (suc n) g =
    let two_more : suc n + suc n ≡ suc (suc (n + n)) = rw (suc-add n (suc n), add-suc n n) refl in
    let next = pcg32 (pcg32 g).1 in
    let others = rounds_are n next.1 in
    let whole : in_twos (words (suc n + suc n) g) ≡ ((pcg32 g).0, next.0) ∷ in_twos (words (n + n) next.1) = ap (λ (k : ℕ). in_twos (words k g)) two_more ∙ twos_next (n + n) g in
    record {
      many = ap length whole ∙ ap suc others.many;
      small = ap (list_all is_small) whole ∙ pair (nat_lt next.0 (2 ^ 32)) _ (lt-ltb next.0 (2 ^ 32) (word_small (pcg32 g).1)) others.small;
    }

-- a worker draws 500 rounds
pub drawn_rounds : (seed worker : ℕ) → worker < 8 → AreRounds 500 (in_twos (drawn_for seed worker))
drawn_rounds seed worker there = subst (λ (ws : List ℕ). AreRounds 500 (in_twos ws)) (sym (drawn_is seed worker there)) (rounds_are 500 (behind (1000 * worker) (generator_of seed)))

word_at : (all i : ℕ) (g : Lcg) → i < all → slice_get (words all g) i ≡ Some (pcg32 (behind i g)).0
unfolding first_words
word_at zero i g there = absurd (omega arith)
word_at (suc all) zero g there = ap (λ (h : Lcg). Some (pcg32 h).0) (sym (behind_none g))
word_at (suc all) (suc i) g there = word_at all i (pcg32 g).1 (omega arith) ∙ ap (λ (h : Lcg). Some (pcg32 h).0) (sym (behind_next i g))

-- each word by the steps before it
pub drawn_at : (seed i : ℕ) → i < 8000 → slice_get (drawn seed) i ≡ Some (pcg32 (behind i (generator_of seed))).0
unfolding drawn
drawn_at seed i there = word_at 8000 i (generator_of seed) there

-- words two by two are the words
pairs_are : (n : ℕ) (g : Lcg) → flat_map (λ (p : ℕ × ℕ). p.0 ∷ p.1 ∷ []) (in_twos (words (n + n) g)) ≡ words (n + n) g
unfolding first_words
pairs_are zero g = refl
pairs_are (suc n) g =
    let two_more : suc n + suc n ≡ suc (suc (n + n)) = rw (suc-add n (suc n), add-suc n n) refl in
    let next = pcg32 (pcg32 g).1 in
    ap (λ (k : ℕ). flat_map (λ (p : ℕ × ℕ). p.0 ∷ p.1 ∷ []) (in_twos (words k g))) two_more
    ∙ ap (λ (ws : List ℕ). (pcg32 g).0 ∷ next.0 ∷ ws) (pairs_are n next.1)
    ∙ ap (λ (k : ℕ). words k g) (sym two_more)

pub twos_are : (seed worker : ℕ) → worker < 8 → flat_map (λ (p : ℕ × ℕ). p.0 ∷ p.1 ∷ []) (in_twos (drawn_for seed worker)) ≡ drawn_for seed worker
twos_are seed worker there =
    let whole = sym (drawn_is seed worker there) in
    let P : List ℕ → Type 0 = λ ws. flat_map (λ (p : ℕ × ℕ). p.0 ∷ p.1 ∷ []) (in_twos ws) ≡ ws in
    subst P whole (pairs_are 500 (behind (1000 * worker) (generator_of seed)))

-- one thousand of a list behind the other
parts_are : (from count : ℕ) (xs : List ℕ) → length xs ≤ 1000 * (from + count)
    → flat_map (λ (i : ℕ). take 1000 (drop (1000 * i) xs)) (range_with_len from count) ≡ drop (1000 * from) xs
parts_are from zero xs fits = sym (drop_all (1000 * from) xs (omega arith))
parts_are from (suc count) xs fits =
    let next : 1000 * (from + 1) ≡ 1000 * from + 1000 = omega arith in
    ap (λ (ys : List ℕ). take 1000 (drop (1000 * from) xs) ++ ys) (parts_are (from + 1) count xs (omega arith) ∙ ap (λ (n : ℕ). drop n xs) next ∙ sym (drop-drop 1000 (1000 * from) xs))
    ∙ take-append-drop 1000 (drop (1000 * from) xs)

-- the workers' words are all of them
pub drawn_by_all : (seed : ℕ) → flat_map (drawn_for seed) (range_with_len 0 8) ≡ drawn seed
drawn_by_all seed = parts_are 0 8 (drawn seed) (omega (arith, length_drawn seed))

-- there are 4,000 rounds
pub drawn_twos : (seed : ℕ) → length (in_twos (drawn seed)) ≡ 4000
unfolding drawn
drawn_twos seed = (rounds_are 4000 (generator_of seed)).many

pub first_two : (seed : ℕ) → take 2 (drawn seed) ≡ (pcg32 (generator_of seed)).0 ∷ (pcg32 (pcg32 (generator_of seed)).1).0 ∷ []
unfolding drawn
first_two seed =
    take_words 2 7998 (generator_of seed) ∙ two_words (generator_of seed)
