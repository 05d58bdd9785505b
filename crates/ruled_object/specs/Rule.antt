-- The rule of an object's table: whatever its seats do, there is one history, which follows the machine.
-- The table has two words, and one slot, which has the cell. The first word tells of the machine's state; its bit of value 2^63 is set while one seat has it.
-- The second is the turn: it is raised by one where the turn is taken, and by one where it is given back, modulo 2^64. So it is odd while a seat has the turn, and even while nobody has it.
-- It is twice the number of turns that the callers count together, or one less while one of them is out: a step that raises it to take the turn, and counts nothing, breaks the rule.
use Rattle.std.specs.Prelude.{◌≡◌, ℕ, suc, ◌+◌, ◌*◌, ◌%◌, ◌^◌, ◌<◌, ◌≤◌, Bool, List, [], Option, Some, None, length, slice_index, sum_by}
use Rattle.std.specs.List.{range_with_len}
use mathlib.Core.Option.{some}
use mathlib.Core.Option as option
use lib.ListN.{get_elem?}
use Rattle.atomic_table.specs.Table.{State}
use Rattle.sync_model.specs.declared.journal.Entry.{Entry}
use Rattle.sync_model.specs.Front.{Front}
use Rattle.sync_model.specs.Note.{SameHome}
use Rattle.sync_model.specs.Journal.{Begins, halt_of, by, AllBefore, Covers, KeepsEdges, TimesRise, state_after, Follows}
use Rattle.ruled_object.specs.declared.cell.Cell.{Cell}
use Rattle.ruled_object.specs.declared.rule.Begin.{Begin}
use Rattle.ruled_object.specs.declared.view.Stage.{Stage}
use Rattle.ruled_object.specs.declared.view.Stage.TheVariants.{Idle, Making, Taken, Deep}
use Rattle.ruled_object.specs.declared.view.Own.{Own}
use Rattle.ruled_object.specs.declared.view.View.{View}

-- a seat at this stage has the word
abbrev pub HasWord : Stage → Type 0
HasWord Idle = ⊥
HasWord Making = Unit {0}
HasWord Taken = Unit {0}
HasWord Deep = Unit {0}

-- nobody has the word, or somebody has it
abbrev pub IsFree : ℕ → Type 0
IsFree word = word < 2 ^ 63

abbrev pub IsHeld : ℕ → Type 0
IsHeld word = 2 ^ 63 ≤ word

module _ {E R : Type 0} where
  -- the seat stands for the caller, and these are all its entries and turns
  abbrev pub Owned : ℕ → List (Entry E R) → (ℕ → ℕ) → (ℕ → ℕ) → ℕ → ℕ → Own E R → Type 0
  Owned callers journal claim turns seat caller own = (caller < callers) × (claim caller ≡ seat) × (own.entries ≡ by caller journal) × (own.turns ≡ turns caller)

  -- the seat that has the word stands for a caller
  abbrev pub IsBusy : List (View E R) → ℕ → Type 0
  IsBusy views holder = (v : View E R) × (get_elem? views holder ≡ some v) × HasWord v.stage × (0 < length v.owns)

-- how many turns the callers took together, by what each took
abbrev pub all_turns : ℕ → (ℕ → ℕ) → ℕ
all_turns callers turns = sum_by turns (range_with_len 0 callers)

-- the home of a slot: there with its value, or out with a seat
abbrev pub Homes : Type 0 → Type 0 → Type 0
Homes S N = List (option.Option (Option (Cell S N)))

module _ {S N E R : Type 0} where
  -- a seat with the word is the one that has it, and has seen all of the history; while the object is being made nothing lies in the slot
  abbrev pub AtStage : List (Entry E R) → ℕ → ℕ → Homes S N → ℕ → ℕ → List (Entry E R) → Stage → Type 0
  AtStage journal word turn homes holder seat seen Idle = Unit {0}
  AtStage journal word turn homes holder seat seen Making = IsHeld word × (turn ≡ 0) × (seat ≡ holder) × (journal ≡ seen) × (get_elem? homes 0 ≡ some (some None))
  AtStage journal word turn homes holder seat seen Taken = IsHeld word × (turn ≡ 0) × (seat ≡ holder) × (journal ≡ seen)
  AtStage journal word turn homes holder seat seen Deep = IsHeld word × (turn ≡ 1) × (seat ≡ holder) × (journal ≡ seen)

  -- what a seat knows is so: all that it has seen and heard are beginnings of the history
  pub record Fits (callers : ℕ) (journal : List (Entry E R)) (word turn : ℕ) (homes : Homes S N) (holder : ℕ) (claim turns : ℕ → ℕ) (seat : ℕ) (v : View E R) : Type 0 where
    pub seen : Begins journal v.seen
    pub heard : (i : ℕ) (xs : List (Entry E R)) → get_elem? v.heard i ≡ some xs → Begins journal xs
    pub owns : (i : ℕ) (own : Own E R) → get_elem? v.owns i ≡ some own → Owned callers journal claim turns seat (v.number + i) own
    pub stage : AtStage journal word turn homes holder seat v.seen v.stage

module _ {S N E R H : Type 0} (next : S → ℕ → E → S × R) (halts : Bool) (frees takes : E → R → Bool) (front : N → Front) (at : H → N → Type 0) (tells : S → ℕ) (means : S → ℕ → S) (begin : Begin S N) where
  -- a history of the object: it follows the machine, keeps the edge law, its numbers rise, and it is of the object's callers
  pub record Lawful (journal : List (Entry E R)) : Type 0 where
    pub follows : Follows next halts begin.state None journal
    pub edges : KeepsEdges frees takes journal
    pub times : TimesRise journal
    pub callers : (c : ℕ) → begin.callers ≤ c → by c journal ≡ []

  -- the cell, with the word, is what the history left: the state in it may be older, and the word tells what has changed since
  pub record Lies (journal : List (Entry E R)) (word : ℕ) (cell : Cell S N) : Type 0 where
    pub state : means cell.state word ≡ state_after next begin.state journal
    pub told : word ≡ tells (state_after next begin.state journal)
    pub halted : cell.halted ≡ halt_of journal
    pub home : SameHome at begin.note cell.note
    pub knows : Covers frees (front cell.note).counts journal
    pub past : AllBefore journal (suc (front cell.note).time)

  -- the cell lies in the slot
  abbrev pub Rests : List (Entry E R) → ℕ → Homes S N → Type 0
  Rests journal word homes = (cell : Cell S N) × (get_elem? homes 0 ≡ some (some (Some cell))) × Lies journal word cell

  -- There is one history. While nobody has the word, nobody has the turn, and the slot and the word have what the history left.
  -- `turn` is 1 while a seat has the turn, else 0, and `turns` says how often each caller took it
  pub record Kept (s : State (Option (Cell S N)) (View E R)) : Type 0 where
    pub journal : List (Entry E R)
    pub holder : ℕ
    pub claim : ℕ → ℕ
    pub turn : ℕ
    pub turns : ℕ → ℕ
    pub wide : length s.words ≡ 2
    pub lawful : Lawful journal
    pub each : (seat : ℕ) (v : View E R) → get_elem? s.views seat ≡ some v → Fits begin.callers journal (slice_index s.words 0) turn s.homes holder claim turns seat v
    pub counted : (slice_index s.words 1 + turn) % 2 ^ 64 ≡ (2 * all_turns begin.callers turns) % 2 ^ 64
    pub free : IsFree (slice_index s.words 0) → (turn ≡ 0) × Rests journal (slice_index s.words 0) s.homes
    pub busy : IsHeld (slice_index s.words 0) → IsBusy s.views holder
