-- The front law along the lines of each worker's list.
use Rattle.std.specs.Prelude.{◌≡◌, ℕ, ◌+◌, ◌<◌, List, [], ◌∷◌, length, map, Some, slice_get, slice_index}
use Rattle.sync_model.specs.Front.{AtLeast}
use Rattle.record_text.specs.declared.item_line.ItemLine.{ItemLine}
use Rattle.record_text.specs.declared.item_line.Said.{Said}
use Rattle.record_text.specs.declared.item_line.Said.TheVariants.{Call, Begin, Next, Entered}
use Rattle.record_text.specs.Told.{items_of}
use Rattle.run_check.specs.declared.fronts.Known.{Known}

-- what some of a worker's lines come to: how many calls on maps and atomics they are of, and the last front
pub record Standing : Type 0 where
  pub calls : ℕ
  pub front : List ℕ

abbrev pub standing : Known → Standing
standing known = record { calls = known.calls; front = known.front.now }

abbrev pub at_start : Standing
at_start = record { calls = 0; front = [] }

-- a step of a cursor is a call too
abbrev pub one_call : Said → ℕ
one_call (Call place reply) = 1
one_call (Begin reach) = 1
one_call (Next reach shown) = 1
one_call (Entered object number event answer) = 0

abbrev pub behind_line : Standing → ItemLine → Standing
behind_line before line = record { calls = before.calls + one_call line.said; front = line.front }

abbrev pub behind_lines : Standing → List ItemLine → Standing
behind_lines before [] = before
behind_lines before (line ∷ lines) = behind_lines (behind_line before line) lines

-- the line may stand next: its front counts just the worker's calls before it, and is no less than the last one
abbrev pub MayStand : ℕ → Standing → ItemLine → Type 0
MayStand worker before line = (slice_index line.front worker ≡ before.calls) × AtLeast line.front before.front

abbrev pub AllStand : ℕ → Standing → List ItemLine → Type 0
AllStand worker before [] = Unit {0}
AllStand worker before (line ∷ lines) = MayStand worker before line × AllStand worker (behind_line before line) lines

-- what all lines of a worker come to
abbrev pub last_of : List ItemLine → ℕ → Standing
last_of items worker = behind_lines at_start (items_of items worker)

-- a line of one of the first n workers may not stand where it does
abbrev pub SomeFails : ℕ → List ItemLine → Type 0
SomeFails n items = (worker : ℕ) × (worker < n) × (AllStand worker at_start (items_of items worker) → ⊥)

-- all of them may, and come to this
pub record AreKnown (n : ℕ) (items : List ItemLine) (known : List Known) : Type 0 where
  pub count : length known ≡ n
  pub each : (worker : ℕ) (one : Known) → slice_get known worker ≡ Some one → AllStand worker at_start (items_of items worker) × (standing one ≡ last_of items worker)

-- nobody knows of a call that there isn't
abbrev pub AllMade : List Known → Type 0
AllMade known = (worker : ℕ) (one : Known) → slice_get known worker ≡ Some one → AtLeast (map (λ (k : Known). k.calls) known) one.front.now
