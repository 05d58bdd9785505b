-- What is found of the workers' lists: what their lines say, and what the items spell.
use Rattle.std.specs.Prelude.{◌≡◌, ℕ, ◌<◌, List, length, Some, slice_get}
use Rattle.std.specs.List.{flat_map}
use Rattle.workload.specs.Plan.{Plan}
use Rattle.run_record.specs.Lines.{Line}
use Rattle.run_cuts.specs.CallsAlong.{calls_along}
use Rattle.record_text.specs.declared.item_line.ItemLine.{ItemLine}
use Rattle.list_checks.specs.SpellLines.{IsLineHere, IsSpelling}
use Rattle.run_check.specs.ToldItems.{Sketched, worker_told}
use Rattle.run_check.specs.ToldLists.{AreParts, call_in, spelt_in}
use Rattle.run_check.specs.declared.spelling.SpeltList.{SpeltList}
use Rattle.run_check.specs.declared.spelling.Spelling.{Spelling}

module _ (plan : Plan) (items : List ItemLine) (worker : ℕ) where
  -- the worker's items, their halts set aside, spell no line in which each item is of the call that is told; or one of its lines says no item
  abbrev pub SpellsNothing : Type 0
  SpellsNothing = (list : List Sketched) (line : Line) → worker_told plan items worker ≡ Some list → IsLineHere plan worker (flat_map spelt_in list) line → calls_along line ≡ flat_map call_in list → ⊥

  -- they spell this, and each is of the call that is told
  pub record IsSpeltList (found : SpeltList) : Type 0 where
    pub list : List Sketched
    pub told : worker_told plan items worker ≡ Some list
    pub parts : AreParts list found.told
    pub spelling : IsSpelling plan worker (flat_map spelt_in list) found.line
    pub calls : found.line.calls ≡ flat_map call_in list

-- some worker's spell nothing
abbrev pub SomeSpellsNothing : Plan → List ItemLine → Type 0
SomeSpellsNothing plan items = (worker : ℕ) × (worker < plan.workers) × SpellsNothing plan items worker

-- what was found of one worker's list, part by part
abbrev pub list_at : Spelling → ℕ → SpeltList → Type 0
list_at found worker one =
    (slice_get found.lines worker ≡ Some one.line) × (slice_get found.all worker ≡ Some one.told.all) × (slice_get found.shared.items worker ≡ Some one.told.shared) × (slice_get found.entries worker ≡ Some one.told.entries)

-- those of the first n workers spell these
pub record AreSpeltTo (plan : Plan) (items : List ItemLine) (n : ℕ) (found : Spelling) : Type 0 where
  pub lines : length found.lines ≡ n
  pub all : length found.all ≡ n
  pub shared : length found.shared.items ≡ n
  pub entries : length found.entries ≡ n
  pub each : (worker : ℕ) → worker < n → (one : SpeltList) × list_at found worker one × IsSpeltList plan items worker one
