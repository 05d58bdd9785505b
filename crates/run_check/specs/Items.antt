-- The items of a worker's list, as the lines of a text say them.
use Rattle.std.specs.Prelude.{ℕ, List, map, Option}
use Rattle.std.specs.Option.{option_map}
use Rattle.shared_checks.specs.Marks.{unmarked}
use Rattle.run_record.specs.declared.made.Made.{Made}
use Rattle.run_record.specs.declared.made.Made.TheVariants.{Shared, Entered}
use Rattle.record_text.specs.declared.item_line.ItemLine.{ItemLine}
use Rattle.record_text.specs.Told.{Told}
use Rattle.record_text.specs.Written.{item_line}
use Rattle.run_check.specs.ToldItems.{Sketched, made_of, number_of, worker_told}
use Rattle.record_clauses.specs.Account.{ToldItem}

-- an item as a line of a worker's list says it
abbrev pub told_item : ℕ → Sketched → ToldItem
told_item worker s = record { made = made_of worker s.front s.sketch; call = s.index; number = number_of s.sketch }

-- the items of a worker's list; nothing, where one of its lines says none
abbrev pub told_list : Told → ℕ → Option (List ToldItem)
told_list told worker = option_map (λ items. map (told_item worker) items) (worker_told told.plan told.items worker)

-- The same item, not marked as an entry of the history: a line doesn't say whether a call is one
abbrev pub unmarked_made : Made → Made
unmarked_made (Shared x) = Shared (unmarked x)
unmarked_made (Entered object entry) = Entered object entry

abbrev pub unmarked_item : ToldItem → ToldItem
unmarked_item x = record { made = unmarked_made x.made; call = x.call; number = x.number }

-- the line that an item of a worker's list is written as
abbrev pub line_of : ℕ → ToldItem → Option ItemLine
line_of worker x = item_line worker x.call x.number x.made
