-- The entries of an object in lists.
use Rattle.std.proofs.Common.{◌≡◌, ℕ, ◌==◌, Bool, true, false, cond, List, [], ◌∷◌, ◌++◌, map, refl, ap, ◌∙◌}
use Rattle.std.proofs.lemmas.Bool.{eq-eqb}
use Rattle.sync_model.specs.declared.item.Item.{Item}
use Rattle.sync_model.specs.declared.journal.Deed.{Deed}
use Rattle.sync_model.specs.declared.journal.Entry.{Entry}
use Rattle.run_record.specs.declared.entered.ObjectEvent.{ObjectEvent}
use Rattle.run_record.specs.declared.entered.ObjectReply.{ObjectReply}
use Rattle.run_record.specs.declared.made.Made.{Made}
use Rattle.run_record.specs.declared.made.Made.TheVariants.{Shared, Entered}
use Rattle.run_record.specs.Parts.{lifted, lifted_deed}
use Rattle.run_record.specs.Record.{ObjectEntry, entries_in}
use Rattle.run_laws.proofs.EachOf.{Each}

pub entries_append : (object : ℕ) (xs ys : List Made) → entries_in object (xs ++ ys) ≡ entries_in object xs ++ entries_in object ys
entries_append object [] ys = refl
entries_append object (Shared x ∷ xs) ys = entries_append object xs ys
entries_append object (Entered other entry ∷ xs) ys = ap (λ (es : List ObjectEntry). cond (other == object) (entry ∷ es) es) (entries_append object xs ys) ∙ chosen (other == object) where
  chosen : (b : Bool) → cond b (entry ∷ (entries_in object xs ++ entries_in object ys)) (entries_in object xs ++ entries_in object ys) ≡ cond b (entry ∷ entries_in object xs) (entries_in object xs) ++ entries_in object ys
  chosen true = refl
  chosen false = refl

pub entries_shared : (object : ℕ) (made : List Item) → entries_in object (map Shared made) ≡ []
entries_shared object [] = refl
entries_shared object (x ∷ made) = entries_shared object made

module _ {E R : Type 0} (of_event : E → ObjectEvent) (of_reply : R → ObjectReply) where
  -- there are none of an object in a call on another one
  pub entries_elsewhere : (object other : ℕ) (entries : List (Entry E R)) → (other == object) ≡ false → entries_in object (map (λ entry. Entered other (lifted of_event of_reply entry)) entries) ≡ []
  entries_elsewhere object other [] apart = refl
  entries_elsewhere object other (x ∷ entries) apart =
      let rest = entries_in object (map (λ entry. Entered other (lifted of_event of_reply entry)) entries) in
      ap (λ (b : Bool). cond b (lifted of_event of_reply x ∷ rest) rest) apart ∙ entries_elsewhere object other entries apart

  -- and all are, of a call on this one
  pub entries_here : (object : ℕ) (entries : List (Entry E R)) → entries_in object (map (λ entry. Entered object (lifted of_event of_reply entry)) entries) ≡ map (lifted of_event of_reply) entries
  entries_here object [] = refl
  entries_here object (x ∷ entries) =
      let rest = entries_in object (map (λ entry. Entered object (lifted of_event of_reply entry)) entries) in
      ap (λ (b : Bool). cond b (lifted of_event of_reply x ∷ rest) rest) (eq-eqb object object refl) ∙ ap (λ (es : List ObjectEntry). lifted of_event of_reply x ∷ es) (entries_here object entries)

  module _ (P : Deed ObjectEvent ObjectReply → Type 0) (each : (deed : Deed E R) → P (lifted_deed of_event of_reply deed)) where
    -- the deeds of a kind are such
    pub deeds_such : (entries : List (Entry E R)) → Each (λ (x : ObjectEntry). P x.deed) (map (lifted of_event of_reply) entries)
    deeds_such [] = tt
    deeds_such (x ∷ entries) = (each x.deed, deeds_such entries)

    -- those on whatever object in a call of the kind
    pub entries_such : (object other : ℕ) (entries : List (Entry E R)) → Each (λ (x : ObjectEntry). P x.deed) (entries_in object (map (λ entry. Entered other (lifted of_event of_reply entry)) entries))
    entries_such object other [] = tt
    entries_such object other (x ∷ entries) = chosen (other == object) (entries_such object other entries) where
      rest : List ObjectEntry
      rest = entries_in object (map (λ entry. Entered other (lifted of_event of_reply entry)) entries)

      chosen : (b : Bool) → Each (λ (y : ObjectEntry). P y.deed) rest → Each (λ (y : ObjectEntry). P y.deed) (cond b (lifted of_event of_reply x ∷ rest) rest)
      chosen true later = (each x.deed, later)
      chosen false later = later
