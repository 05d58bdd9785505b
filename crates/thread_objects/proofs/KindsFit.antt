-- The kinds that a workload declares are in range.
use Rattle.std.proofs.Common.{◌≡◌, ℕ, zero, suc, Bool, true, false, List, [], ◌∷◌, ◌++◌, Option, Some, slice_get, ap, subst}
use Rattle.std.specs.Prelude.{◌&&◌, not, is_some, unwrap_or}
use Rattle.std.proofs.lemmas.Option.{none-some}
use Rattle.sync_types.specs.Name.{is_name}
use Rattle.workload.specs.declared.object.ObjectLine.{ObjectLine}
use Rattle.workload.specs.Draft.{declared_from, is_kind}
use Rattle.workload.specs.Plan.{refers}
use Rattle.workload.specs.Readable.{may_join, may_declare}

first : (a b : Bool) → (a && b) ≡ true → a ≡ true
first true b is = cc
first false b is = is

pub second : (a b : Bool) → (a && b) ≡ true → b ≡ true
second true b is = is
second false b is = absurd cc

joins : (others : List ObjectLine) (o : ObjectLine) → may_join others o ≡ true → is_kind o.kind ≡ true
joins others o is = first (is_kind o.kind) _ (second (refers others o.kind) _ (second (not (is_some (declared_from 0 o.name others))) _ (second (is_name o.name) _ is)))

pub kind_fits : (others objects : List ObjectLine) (place : ℕ) (o : ObjectLine) → may_declare others objects ≡ true → slice_get objects place ≡ Some o → is_kind o.kind ≡ true
kind_fits others [] place o may here = absurd (none-some o here)
kind_fits others (x ∷ objects) zero o may here = subst (λ (y : ObjectLine). is_kind y.kind ≡ true) (ap (λ (y : Option ObjectLine). unwrap_or y o) here) (joins others x (first (may_join others x) _ may))
kind_fits others (x ∷ objects) (suc place) o may here = kind_fits (others ++ x ∷ []) objects place o (second (may_join others x) _ may) here
