-- What contracts see of a table's words, and of a seat at them.
use Rattle.std.specs.Prelude.{◌≡◌}
use Rattle.atomic_table.specs.declared.shared.Seat.{Seat}
use Rattle.sync_model.specs.SharedHistory.{Contents, contents_after}
use Rattle.table_rule.specs.declared.begin.Begin.{Begin}
use Rattle.table_rule.specs.declared.view.View.{View}
use Rattle.table_words.specs.declared.words.TableWords.{TableWords}
use Rattle.table_rule.specs.Shape.{start_of}
use Rattle.table_rule.specs.Views.{Looks}

-- what the table was made of
abbrev pub begin_of : TableWords → Begin
begin_of words = words.table.shared.key

-- a seat at this table
abbrev pub IsSeatOf : TableWords → Seat (Unit {0}) View → Type 0
IsSeatOf words seat = seat.table_id ≡ words.table.shared.table_id

-- the table ended with what the whole history leaves, as a seat with this view would see it by a look
abbrev pub EndsAt : View → Contents → Type 0
EndsAt v ends = (w : View) × Looks v w × (ends ≡ contents_after (start_of v.begin) w.seen)
