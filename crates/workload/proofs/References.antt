-- What an object refers to, by the name that its line has.
use Rattle.std.proofs.Common.{◌≡◌, ℕ, true, false, not, eqb, List, Option, Some, None, refl, ◌∙◌}
use Rattle.std.specs.Prelude.{is_some}
use Rattle.std.specs.Option.{option_map_or}
use Rattle.std.proofs.lemmas.Bool.{eqb-true}
use Rattle.sync_types.specs.Name.{is_name}
use Rattle.workload.specs.declared.object.Declared.{Declared}
use Rattle.workload.specs.declared.object.ObjectKind.{ObjectKind}
use Rattle.workload.specs.Plan.{reference_of, is_target}
use Rattle.workload.specs.Draft.{Draft, declared, is_reference, names_reference}
use Rattle.workload.proofs.Passing.{both}

-- a name that is that of the object to which a kind refers
pub record Refers (d : Draft) (kind : ObjectKind) (place : ℕ) (reference : Option (List ℕ)) : Type 0 where
  pub name : List ℕ
  pub is : reference ≡ Some name
  pub named : is_name name ≡ true
  pub found : Declared
  pub found_is : declared d name ≡ Some found
  pub place_is : found.place ≡ place
  pub target : is_target kind found.kind ≡ true

place_found : (found place : ℕ) (reference : Option ℕ) → reference ≡ Some place → option_map_or (λ p. eqb found p) reference false ≡ true → found ≡ place
place_found found place None is h = absurd cc
place_found found place (Some p) is h = eqb-true found p h ∙ same is
  where
    same : {x y : ℕ} → Some x ≡ Some y → x ≡ y
    same e = cc

pub some_reference : (d : Draft) (kind : ObjectKind) (place : ℕ) (reference : Option (List ℕ)) → reference_of kind ≡ Some place → names_reference d kind reference ≡ true → Refers d kind place reference
some_reference d kind place None is h = absurd (none (reference_of kind) is h)
  where
    none : (r : Option ℕ) → r ≡ Some place → not (is_some r) ≡ true → ⊥
    none None is h = cc
    none (Some p) is h = cc
some_reference d kind place (Some name) is h =
    let parts = both (is_name name) (is_reference kind (declared d name)) h in
    at (declared d name) refl parts.0 parts.1
  where
    at : (o : Option Declared) → declared d name ≡ o → is_name name ≡ true → is_reference kind o ≡ true → Refers d kind place (Some name)
    at None at_is named h = absurd cc
    at (Some found) at_is named h =
        let parts = both (option_map_or (λ p. eqb found.place p) (reference_of kind) false) (is_target kind found.kind) h in
        record { name = name; is = refl; named = named; found = found; found_is = at_is; place_is = place_found found.place place (reference_of kind) is parts.0; target = parts.1 }

pub no_reference : (d : Draft) (kind : ObjectKind) (reference : Option (List ℕ)) → reference_of kind ≡ None → names_reference d kind reference ≡ true → reference ≡ None
no_reference d kind None is h = refl
no_reference d kind (Some name) is h =
    let parts = both (is_name name) (is_reference kind (declared d name)) h in
    absurd (at (declared d name) parts.1)
  where
    none : (found : ℕ) (r : Option ℕ) → r ≡ None → option_map_or (λ p. eqb found p) r false ≡ true → ⊥
    none found None is h = cc
    none found (Some p) is h = cc

    at : (o : Option Declared) → is_reference kind o ≡ true → ⊥
    at None h = cc
    at (Some found) h = none found.place (reference_of kind) is (both (option_map_or (λ p. eqb found.place p) (reference_of kind) false) (is_target kind found.kind) h).0
