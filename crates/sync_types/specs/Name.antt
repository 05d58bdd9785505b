-- The form of a name.
use Rattle.std.specs.Prelude.{ℕ, Bool, false, ◌&&◌, ◌||◌, ◌==◌, nat_le, List, [], ◌∷◌, length}
use Rattle.std.specs.List.{list_all}
use Rattle.sync_types.specs.declared.name.TheConstants.{MAX_NAME}

-- `a` to `z`
abbrev pub is_letter : ℕ → Bool
is_letter byte = nat_le 97 byte && nat_le byte 122

-- a letter, `0` to `9` or `_`
abbrev pub is_name_byte : ℕ → Bool
is_name_byte byte = (is_letter byte || (nat_le 48 byte && nat_le byte 57)) || byte == 95

-- 1 to 32 letters, digits and `_`, a letter first
abbrev pub is_name : List ℕ → Bool
is_name [] = false
is_name (first ∷ rest) = (nat_le (length (first ∷ rest)) MAX_NAME && is_letter first) && list_all is_name_byte rest
