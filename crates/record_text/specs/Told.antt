-- What the text of a record says.
use Rattle.std.specs.Prelude.{◌≡◌, ℕ, ◌≤◌, Bool, true, not, nat_le, ◌==◌, List, [], ◌∷◌, ◌++◌, length, codes, Option, Some, None}
use Rattle.std.specs.List.{filter, flat_map, list_all}
use Rattle.std.specs.Str.{bytes_eq}
use Rattle.sync_types.specs.declared.misuse.Misuse.{Misuse}
use Rattle.workload.specs.Lines.{lines_of}
use Rattle.workload.specs.Plan.{Plan}
use Rattle.workload.specs.Reads.{Reads}
use Rattle.record_text.specs.declared.item_line.ItemLine.{ItemLine}
use Rattle.record_text.specs.declared.limits.TheConstants.{MAX_ITEMS, MAX_RECORD, MAX_RECORD_LINE}
use Rattle.record_text.specs.EventWords.{misuse_word}
use Rattle.record_text.specs.ItemLines.{IsItemLine}

-- what a text says: the workload, the items in the order of their lines, the misuse that the run came to unless it is done, and the lines of the report
pub record Told : Type 0 where
  pub plan : Plan
  pub items : List ItemLine
  pub misused : Option Misuse
  pub report : List (List ℕ)

-- the lines of a worker, in order
abbrev pub items_of : List ItemLine → ℕ → List ItemLine
items_of items worker = filter (λ item. item.worker == worker) items

-- the line between the workload and the items
abbrev pub record_line : List ℕ
record_line = codes "record"

abbrev pub is_record_line : List ℕ → Bool
is_record_line line = bytes_eq line record_line

-- lines without such a one
abbrev pub are_before : List (List ℕ) → Bool
are_before lines = list_all (λ line. not (is_record_line line)) lines

-- the line of the outcome
abbrev pub outcome_line : Option Misuse → List ℕ
outcome_line None = codes "outcome done"
outcome_line (Some misuse) = codes "outcome misused " ++ misuse_word misuse

-- at most 400 bytes
abbrev pub is_short_line : List ℕ → Bool
is_short_line line = nat_le (length line) MAX_RECORD_LINE

-- lines, each with its line feed
abbrev pub joined : List (List ℕ) → List ℕ
joined lines = flat_map (λ line. line ++ 10 ∷ []) lines

-- the lines are those of the items, one by one
abbrev pub AreItemLines : Plan → List (List ℕ) → List ItemLine → Type 0
AreItemLines plan [] [] = Unit {0}
AreItemLines plan [] (item ∷ items) = ⊥
AreItemLines plan (line ∷ lines) [] = ⊥
AreItemLines plan (line ∷ lines) (item ∷ items) = IsItemLine plan line item × AreItemLines plan lines items

-- the lines behind the line `record`: at most 40,000 item lines, the outcome's, and those of the report
pub record IsBehind (told : Told) (lines : List (List ℕ)) : Type 0 where
  pub items : List (List ℕ)
  pub are : lines ≡ items ++ outcome_line told.misused ∷ told.report
  pub each : AreItemLines told.plan items told.items
  pub few : length items ≤ MAX_ITEMS
  pub short : list_all is_short_line told.report ≡ true

-- the text says this: what stands before its first line `record` is read as the workload, and what stands behind it says the rest
pub record IsTold (bytes : List ℕ) (told : Told) : Type 0 where
  pub fits : length bytes ≤ MAX_RECORD
  pub before : List (List ℕ)
  pub behind : List (List ℕ)
  pub lines : lines_of bytes ≡ before ++ record_line ∷ behind
  pub first : are_before before ≡ true
  pub workload : Reads (joined before) told.plan
  pub says : IsBehind told behind
