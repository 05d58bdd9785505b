-- Bytes that go on with a name.
use Rattle.std.proofs.Common.{◌≡◌, ℕ, Bool, true, false, ◌&&◌, List, [], ◌∷◌, All, refl}
use Rattle.std.specs.List.{list_all}
use Rattle.std.proofs.lemmas.List.Elements.{All-head, All-tail}
use Rattle.sync_types.specs.Name.{is_name_byte, is_name}

both_true : (a b : Bool) → (a && true) ≡ true → b ≡ true → (a && b) ≡ true
both_true true b e f = f
both_true false b e f = e

pub all_bytes : (bytes : List ℕ) → All (λ byte. is_name (97 ∷ byte ∷ []) ≡ true) bytes → list_all is_name_byte bytes ≡ true
all_bytes [] all = refl
all_bytes (byte ∷ bytes) all =
    let Goes : ℕ → Type 0 = λ byte. is_name (97 ∷ byte ∷ []) ≡ true in
    both_true (is_name_byte byte) (list_all is_name_byte bytes) (All-head Goes byte bytes all) (all_bytes bytes (All-tail Goes byte bytes all))
