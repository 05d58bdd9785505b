-- The text of a record as it is written.
use Rattle.std.specs.Prelude.{ℕ, Bool, ◌&&◌, nat_lt, List, [], ◌∷◌, ◌++◌, map, Option}
use Rattle.std.specs.Fmt.{decimal}
use Rattle.std.specs.List.{flat_map, list_all}
use Rattle.sync_types.specs.declared.misuse.Misuse.{Misuse}
use Rattle.workload.specs.Canonical.{canonical}
use Rattle.workload.specs.Plan.{Plan}
use Rattle.record_text.specs.declared.item_line.ItemLine.{ItemLine}
use Rattle.record_text.specs.declared.item_line.Said.{Said}
use Rattle.record_text.specs.declared.item_line.Said.TheVariants.{Call, Begin, Next, Entered}
use Rattle.record_text.specs.ItemLines.{item_text}
use Rattle.record_text.specs.Told.{joined, outcome_line, record_line}

-- numbers, each behind a comma
abbrev pub behind_commas : List ℕ → List ℕ
behind_commas numbers = flat_map (λ number. 44 ∷ decimal number) numbers

-- a count of at most 7 digits
abbrev pub is_small : ℕ → Bool
is_small count = nat_lt count 10000000

-- the place in the history or in a journal that is said
abbrev pub count_in : Said → ℕ
count_in (Call place reply) = place
count_in (Begin reach) = reach
count_in (Next reach shown) = reach
count_in (Entered object number event answer) = number

-- all that an item counts has at most 7 digits
abbrev pub has_small_counts : ItemLine → Bool
has_small_counts item = is_small (count_in item.said) && list_all is_small item.front

-- the lines between the workload and the report: the line `record`, those of the items, and the outcome's
abbrev pub record_lines : Plan → List ItemLine → Option Misuse → List (List ℕ)
record_lines plan items misused = record_line ∷ (map (item_text plan) items ++ outcome_line misused ∷ [])

-- the text of a record: the canonical text of the workload, these lines, and the report
abbrev pub record_text : Plan → List ItemLine → Option Misuse → (report : List ℕ) → List ℕ
record_text plan items misused report = canonical plan ++ (joined (record_lines plan items misused) ++ report)
