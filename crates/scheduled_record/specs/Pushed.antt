-- A text that is made piece by piece, and never gets longer than that of a record may be.
use Rattle.std.specs.Prelude.{◌≡◌, ℕ, ◌+◌, Bool, true, false, ◌&&◌, nat_le, List, ◌++◌, length, None, Option, MatchOption}
use Rattle.std.specs.List.{list_all}
use Rattle.std.specs.declared.vec.Vec.{Vec}
use Rattle.workload.specs.Plan.{Plan}
use Rattle.workload.specs.declared.limits.TheConstants.{MAX_WORKERS}
use Rattle.record_text.specs.declared.item_line.ItemLine.{ItemLine}
use Rattle.record_text.specs.declared.limits.TheConstants.{MAX_RECORD}
use Rattle.record_text.specs.WrittenLines.{record_text}
use Rattle.scheduled_record.specs.Recorded.{is_within}

-- a piece fits behind a text: both together have at most 16,777,216 bytes, and the piece's lines are short
abbrev pub has_place : List ℕ → List ℕ → (short : Bool) → Bool
has_place text piece short = nat_le (length text + length piece) MAX_RECORD && short

-- Whether a piece fits behind a text was told, and where it fits, the text gained it and nothing else. Where it doesn't, the text is left unsaid
pub record Gains (old new piece : List ℕ) (short fits : Bool) : Type 0 where
  pub is : fits ≡ has_place old piece short
  pub gained : fits ≡ true → new ≡ old ++ piece

-- no front has a number more than there may be workers
abbrev pub have_few_numbers : List ItemLine → Bool
have_few_numbers items = list_all (λ item. nat_le (length item.front) MAX_WORKERS) items

-- the text of a record of a run that is done, where it is within the limits
abbrev pub IsWritten : {A : Type 0} → Plan → List ItemLine → (report : List ℕ) → Option (Vec ℕ A) → Type 0
IsWritten plan items report written = MatchOption written (is_within plan items report ≡ false) (λ text. (is_within plan items report ≡ true) × (text.items ≡ record_text plan items None report))
