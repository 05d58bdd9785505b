-- What is noted, one part behind the other.
use Rattle.std.proofs.Common.{◌≡◌, List, [], ◌∷◌, ◌++◌, refl, sym, ap, ◌∙◌, append_assoc, append-nil}
use Rattle.step_runner.specs.declared.notes.Notes.{Notes}
use Rattle.step_runner.specs.declared.notes.Notes.TheVariants.{Nothing, All}
use Rattle.step_runner.specs.Noted.{one_noted, noted, begun_as, noted_of}

module _ {A : Type 0} where
  pub noted_append : (first rest : List A) (notes : Notes A) → noted rest (noted first notes) ≡ noted (first ++ rest) notes
  noted_append [] rest notes = refl
  noted_append (one ∷ first) rest notes = noted_append first rest (one_noted one notes)

  abbrev none : Notes A
  none = Nothing

  pub none_noted : (more : List A) → noted more none ≡ none
  none_noted [] = refl
  none_noted (one ∷ more) = none_noted more

  pub all_noted : (more so_far : List A) → noted more (All so_far) ≡ All (so_far ++ more)
  all_noted [] so_far = ap All (sym (append-nil so_far))
  all_noted (one ∷ more) so_far = all_noted more (so_far ++ one ∷ []) ∙ ap All (append_assoc so_far (one ∷ []) more)

  -- from the beginning
  pub all_from_none : (more : List A) → noted more (All []) ≡ All more
  all_from_none more = all_noted more []

-- what is told of what was noted apart
pub told_apart : {A B : Type 0} (told : List B → List A) (made : List B) (notes : Notes A) → noted_of told (noted made (begun_as notes)) notes ≡ noted (told made) notes
told_apart told made Nothing = ap (λ n. noted_of told n Nothing) (none_noted made) ∙ sym (none_noted (told made))
told_apart told made (All so_far) = ap (λ n. noted_of told n (All so_far)) (all_from_none made)

pub told_so : {A B : Type 0} (told : List B → List A) (made : List B) (apart : Notes B) (notes next : Notes A) → apart ≡ noted made (begun_as notes) → next ≡ noted_of told apart notes → next ≡ noted (told made) notes
told_so told made apart notes next is so = so ∙ ap (λ n. noted_of told n notes) is ∙ told_apart told made notes
