-- What follows from tests that fail and pass at once: anything. Where a clause stands for many cases, as all other calls of all other kinds of object, each
-- is checked by itself, and these are far cheaper there than a search is.
use Rattle.std.proofs.Common.{◌≡◌, ℕ, Bool, true, false, ◌&&◌, eqb, Some, None, sym, ap, ◌∙◌}
use Rattle.std.proofs.lemmas.Bool.{eq-eqb}
use Rattle.workload.specs.declared.object.ObjectWord.{ObjectWord}
use Rattle.workload.specs.declared.object.ObjectWord.TheVariants as words

pub no : {A : Type 0} → false ≡ true → A
no e = absurd cc

-- of two tests that don't pass together
pub not_both : {A : Type 0} (a b : Bool) → (a && b) ≡ false → a ≡ true → b ≡ true → A
not_both true b apart first second = no (sym apart ∙ second)
not_both false b apart first second = no first

-- this is there, and nothing is
pub something : {A X : Type 0} {x : X} → Some x ≡ None → A
something e = absurd cc

-- a number for each kind of object
abbrev rank : ObjectWord → ℕ
rank words.Map = 0
rank (words.Atomic kind) = 1
rank words.Mutex = 2
rank words.RwMutex = 3
rank words.Cond = 4
rank words.WaitGroup = 5
rank words.Once = 6
rank words.OnceFunc = 7
rank words.OnceValue = 8
rank words.Pool = 9
rank words.Sema = 10
rank words.Flight = 11
rank words.Var = 12

-- of two kinds whose words have other numbers
pub other_kinds : {A : Type 0} (x y : ObjectWord) → eqb (rank x) (rank y) ≡ false → x ≡ y → A
other_kinds x y apart same = no (sym apart ∙ eq-eqb (rank x) (rank y) (ap rank same))
