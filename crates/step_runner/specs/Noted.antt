-- What is noted of a run as it goes: nothing, or each thing in order.
use Rattle.std.specs.Prelude.{List, [], ◌∷◌, ◌++◌}
use Rattle.step_runner.specs.declared.notes.Notes.{Notes}
use Rattle.step_runner.specs.declared.notes.Notes.TheVariants.{Nothing, All}

module _ {A : Type 0} where
  -- one thing more
  abbrev pub one_noted : A → Notes A → Notes A
  one_noted one Nothing = Nothing
  one_noted one (All so_far) = All (so_far ++ one ∷ [])

  -- some more, in order
  abbrev pub noted : List A → Notes A → Notes A
  noted [] notes = notes
  noted (one ∷ more) notes = noted more (one_noted one notes)

  -- as much as is noted here, of which there is nothing yet
  abbrev pub begun_as : {B : Type 0} → Notes B → Notes A
  begun_as Nothing = Nothing
  begun_as (All so_far) = All []

  -- as much of this as is noted of what it is told of
  abbrev pub noted_of : {B : Type 0} → (List B → List A) → Notes B → Notes A → Notes A
  noted_of told Nothing notes = notes
  noted_of told (All made) notes = noted (told made) notes

  -- what is noted so far
  abbrev pub so_far_of : Notes A → List A
  so_far_of Nothing = []
  so_far_of (All so_far) = so_far
