-- What calls do to bytes that may be told (`Some`) or not (`None`).
use Rattle.std.specs.Prelude.{◌≡◌, ℕ, ◌≤◌, List, Option, length, take}
use Rattle.std.specs.Io.KnownBytes.{append_known, prepend_known}

-- where they are told, text now stands behind the old bytes
abbrev pub Appends : Option (List ℕ) → Option (List ℕ) → List ℕ → Type 0
Appends old new text = new ≡ append_known old text

-- where they are told, a first part of text, perhaps none of it, now stands behind the old bytes
abbrev pub AppendsFront : Option (List ℕ) → Option (List ℕ) → List ℕ → Type 0
AppendsFront old new text = (n : ℕ) × (n ≤ length text) × Appends old new (take n text)

-- where they are told, the bytes left before are the given ones and then those left after
abbrev pub Gives : Option (List ℕ) → Option (List ℕ) → List ℕ → Type 0
Gives before after given = before ≡ prepend_known given after
