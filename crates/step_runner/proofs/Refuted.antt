-- What follows from tests that fail and pass at once: anything. Where a clause stands for many cases, as all other operations at all other kinds of object,
-- each is checked by itself, and these are far cheaper there than a search is.
use Rattle.std.proofs.Common.{◌≡◌, Bool, true, false, ◌&&◌, Some, None}

pub no : {A : Type 0} → false ≡ true → A
no e = absurd cc

-- of two tests that don't pass together
pub not_both : {A : Type 0} (a b : Bool) → (a && b) ≡ false → a ≡ true → b ≡ true → A
not_both true b apart first second = absurd cc
not_both false b apart first second = no first

-- nothing is there, and this is
pub nothing : {A X : Type 0} {x : X} → None ≡ Some x → A
nothing e = absurd cc
