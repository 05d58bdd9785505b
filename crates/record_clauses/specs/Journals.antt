-- The entries of a journal with their numbers, and without their fronts.
use Rattle.std.specs.Prelude.{ℕ, ◌+◌, ◌==◌, cond, List, [], ◌∷◌, map}
use Rattle.run_record.specs.Record.{ObjectEntry}

-- one caller's entries in a journal whose first entry has this number, each with its own
abbrev pub numbered_from : ℕ → ℕ → List ObjectEntry → List (ℕ × ObjectEntry)
numbered_from n c [] = []
numbered_from n c (x ∷ xs) = cond (x.caller == c) ((n, x) ∷ numbered_from (n + 1) c xs) (numbered_from (n + 1) c xs)

-- one caller's entries in a journal, each with its number, counted from 0
abbrev pub numbered_by : ℕ → List ObjectEntry → List (ℕ × ObjectEntry)
numbered_by c journal = numbered_from 0 c journal

-- a journal whose fronts are set aside: it keeps every edge
abbrev pub without_fronts : List ObjectEntry → List ObjectEntry
without_fronts journal = map (λ (entry : ObjectEntry). record entry { front = [] }) journal
