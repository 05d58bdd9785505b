-- A list that a chain of iterators extends.
use Rattle.std.proofs.Common.{◌≡◌, List, map, Option, Result}
use Rattle.std.specs.Prelude.{OnOk, MatchResult}
use Rattle.std.specs.Iterator.{Drains, Yields}
use Rattle.std.proofs.lemmas.Iterator.{YieldsList}
use Rattle.std.proofs.lemmas.Iterator.Consumers.{YieldsList-at}
use Rattle.std.proofs.lemmas.Iterator.Adapters.{fact_from_extend}

-- reads what `extend` says at `Ok` of a chain whose items v takes to a list
pub from_extended : {T A C E Q : Type 0} {steps : T → Option A → T → Type 0} {all : List C} {P : List A → Type 0} {s : T} (v : A → C) (r : Result (Unit {0}) E)
    → ((it : T) × (xs : List A) × (it ≡ s) × P xs × MatchResult r (λ _. Drains steps it xs) (λ _. (t : T) × Yields steps it xs t))
    → YieldsList steps v s all → ((xs : List A) → map v xs ≡ all → P xs → Q) → OnOk r Q
from_extended v r ran road says = fact_from_extend v r ran (λ it is. YieldsList-at is road) says
