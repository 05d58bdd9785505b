-- What the reading of the parts of an item's line answers.
use Rattle.std.specs.Prelude.{◌≡◌, ℕ, true, List, [], ◌∷◌, Option, MatchOption}
use Rattle.std.specs.Borrow.{Bor}
use Rattle.std.specs.Fmt.{decimal}
use Rattle.workload.specs.Plan.{Plan}
use Rattle.record_text.specs.declared.item_line.Said.{Said}
use Rattle.record_text.specs.declared.item_reading.Parts.{Parts}
use Rattle.record_text.specs.Cuts.{parts_in}
use Rattle.record_text.specs.ItemLines.{index_word, is_place, is_said, line_words, said_word, said_words, spaced}

-- one word is left
abbrev pub IsLast : Option (Bor (List ℕ)) → Option (Bor (List ℕ)) → Type 0
IsLast rest result = MatchOption result ((word : List ℕ) → parts_in 32 rest ≡ word ∷ [] → ⊥) (λ word. parts_in 32 rest ≡ word.now ∷ [])

-- five words are left
abbrev pub AreFive : Option (Bor (List ℕ)) → Option (Bor (List ℕ) × Bor (List ℕ) × Bor (List ℕ) × Bor (List ℕ) × Bor (List ℕ)) → Type 0
AreFive rest result =
    MatchOption result
    ((a b c d e : List ℕ) → a ∷ b ∷ c ∷ d ∷ e ∷ [] ≡ parts_in 32 rest → ⊥)
    (λ ws. ws.0.now ∷ ws.1.now ∷ ws.2.now ∷ ws.3.now ∷ ws.4.now ∷ [] ≡ parts_in 32 rest)

-- The worker and the index, and what is left of the line; or nothing, where the first words are none
abbrev pub IsPlaced : Plan → Option (Bor (List ℕ)) → Option (ℕ × Option ℕ × Option (Bor (List ℕ))) → Type 0
IsPlaced plan rest result =
    MatchOption result
    ((worker : ℕ) (index : Option ℕ) (words : List (List ℕ)) → is_place plan worker index ≡ true → decimal worker ∷ index_word index ∷ words ≡ parts_in 32 rest → ⊥)
    (λ found. (is_place plan found.0 found.1 ≡ true) × (decimal found.0 ∷ index_word found.1 ∷ parts_in 32 found.2 ≡ parts_in 32 rest))

-- What the words behind the index say in a line that begins with this word: the word of the front, and what is said
abbrev pub IsSaid : Plan → List ℕ → Option (Bor (List ℕ)) → Option (Bor (List ℕ) × Said) → Type 0
IsSaid plan first rest result =
    MatchOption result
    ((front : List ℕ) (said : Said) → is_said plan said ≡ true → said_word said ≡ first → said_words plan front said ≡ parts_in 32 rest → ⊥)
    (λ found. (is_said plan found.1 ≡ true) × (said_word found.1 ≡ first) × (said_words plan found.0.now found.1 ≡ parts_in 32 rest))

-- all of a line but the numbers of the front
abbrev pub AreParts : Plan → List ℕ → Option Parts → Type 0
AreParts plan line result =
    MatchOption result
    ((worker : ℕ) (index : Option ℕ) (front : List ℕ) (said : Said) → is_place plan worker index ≡ true → is_said plan said ≡ true → line_words plan worker index front said ≡ spaced line → ⊥)
    (λ parts. (is_place plan parts.worker parts.index ≡ true) × (is_said plan parts.said ≡ true) × (line_words plan parts.worker parts.index parts.front.now parts.said ≡ spaced line))
