-- Items that ask and are answered alike, whatever their places, marks, fronts and numbers.
use Rattle.std.specs.Prelude.{◌≡◌, List, [], ◌∷◌}
use Rattle.run_record.specs.declared.made.Made.{Made}
use Rattle.run_record.specs.declared.made.Made.TheVariants.{Shared, Entered}
use Rattle.run_record.specs.Lines.{Line, calls_made}

abbrev pub IsAlike : Made → Made → Type 0
IsAlike (Shared x) (Shared y) = (x.call ≡ y.call) × (x.reply ≡ y.reply)
IsAlike (Entered object entry) (Entered other later) = (object ≡ other) × (entry.deed ≡ later.deed)
IsAlike made other = ⊥

abbrev pub AreAlike : List Made → List Made → Type 0
AreAlike [] [] = Unit {0}
AreAlike (made ∷ items) (other ∷ others) = IsAlike made other × AreAlike items others
AreAlike items others = ⊥

-- both lines have the same calls, answered alike, leave the same of the script, and end alike
pub record IsLineLike (line other : Line) : Type 0 where
  pub calls : calls_made other ≡ calls_made line
  pub rest : other.rest ≡ line.rest
  pub ending : other.ending ≡ line.ending
