-- The lines of a text and the words of a line.
use Rattle.std.specs.Prelude.{ℕ, Bool, false, ◌&&◌, not, cond, nat_le, ◌==◌, List, [], ◌∷◌, length}
use Rattle.std.specs.List.{filter, list_all, slice_split, onto_first}
use Rattle.workload.specs.declared.limits.TheConstants.{MAX_LINE}

-- the parts between line feeds; behind a line feed at the end there is no line
abbrev pub lines_of : List ℕ → List (List ℕ)
lines_of [] = []
lines_of (byte ∷ bytes) = cond (byte == 10) ([] ∷ lines_of bytes) (onto_first byte (lines_of bytes))

-- a space to a tilde
abbrev pub is_printable : ℕ → Bool
is_printable byte = nat_le 32 byte && nat_le byte 126

-- at most 200 bytes
abbrev pub is_short : List ℕ → Bool
is_short line = nat_le (length line) MAX_LINE

-- without the bytes that no line may have
abbrev pub is_clean : List ℕ → Bool
is_clean line = list_all is_printable line

abbrev pub is_filled : List ℕ → Bool
is_filled part = not (length part == 0)

-- the runs of bytes other than space
abbrev pub words_of : List ℕ → List (List ℕ)
words_of line = filter is_filled (slice_split (λ byte. byte == 32) line)

-- whether a word begins with `#`
abbrev pub is_comment : List ℕ → Bool
is_comment [] = false
is_comment (byte ∷ bytes) = byte == 35

-- a line that says something: it has words, and the first doesn't begin with `#`
abbrev pub is_significant : List (List ℕ) → Bool
is_significant [] = false
is_significant (word ∷ words) = not (is_comment word)
