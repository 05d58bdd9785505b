-- Lines of a word and a number each.
use Rattle.std.specs.Prelude.{ℕ, Bool, nat_le, List, [], ◌∷◌, length}
use Rattle.std.specs.Borrow.{Bor}
use Rattle.std.specs.Fmt.{decimal}
use Rattle.std.specs.List.{flat_map, list_all}
use Rattle.workload.specs.Canonical.{text_line}

-- a line of two words each, of which the second is the number in decimal
abbrev pub number_lines : List (Bor (List ℕ) × ℕ) → List ℕ
number_lines entries = flat_map (λ entry. text_line (entry.0.now ∷ decimal entry.1 ∷ [])) entries

-- whether each word has at most 8 bytes
abbrev pub are_short : List (Bor (List ℕ) × ℕ) → Bool
are_short entries = list_all (λ entry. nat_le (length entry.0.now) 8) entries
