-- What the reading of a word, or of some words, answers.
use Rattle.std.specs.Prelude.{◌≡◌, Bool, true, Option, MatchOption}

-- nothing that fits has these words
abbrev pub IsNone : {X W : Type 0} → (X → Bool) → (X → W) → W → Type 0
IsNone {X} fits words_of words = (x : X) → fits x ≡ true → words_of x ≡ words → ⊥

-- what fits and has these words; or nothing, where nothing does
abbrev pub IsRead : {X W : Type 0} → (X → Bool) → (X → W) → W → Option X → Type 0
IsRead fits words_of words result = MatchOption result (IsNone fits words_of words) (λ x. (fits x ≡ true) × (words_of x ≡ words))
