-- What a copy and a look tell a seat at an object's table.
use Rattle.std.specs.Prelude.{◌≡◌, ℕ, ◌+◌, ◌<◌, Bool, List, [], length}
use mathlib.Core.Option.{some}
use lib.ListN.{get_elem?}
use Rattle.sync_model.specs.declared.journal.Entry.{Entry}
use Rattle.sync_model.specs.Front.{Front}
use Rattle.sync_model.specs.Journal.{Begins, by, state_after}
use Rattle.ruled_object.specs.declared.pass.Pass.{Pass}
use Rattle.ruled_object.specs.declared.rule.Begin.{Begin}
use Rattle.ruled_object.specs.declared.view.Own.{Own}
use Rattle.ruled_object.specs.declared.view.Stage.TheVariants.{Idle}
use Rattle.ruled_object.specs.declared.view.View.{View}
use Rattle.ruled_object.specs.Rule.{HasWord, IsFree, IsHeld, Lawful}
use Rattle.ruled_object.specs.Steps.{Sat}

module _ {E R : Type 0} where
  -- the view of a new seat that has seen what another has, and stands for nobody
  abbrev pub copied : View E R → View E R
  copied v = record { stage = Idle; seen = v.seen; knew = 0; heard = []; number = v.number; owns = [] }

  -- the view after a look: it has seen all of the history, so all that it had heard
  abbrev pub looked : View E R → List (Entry E R) → View E R
  looked v journal = record v { seen = journal; heard = [] }

  -- What a word says at its moment, when these were the views of the object's seats and this the history. Where nobody has the word, it tells of the state that the history left. Its highest bit is set exactly where one view has it, which is a caller's.
  pub record Says {S : Type 0} (next : S → ℕ → E → S × R) (tells : S → ℕ) (start : S) (word : ℕ) (journal : List (Entry E R)) (views : List (View E R)) : Type 0 where
    pub told : IsFree word → word ≡ tells (state_after next start journal)
    pub free : IsFree word → (i : ℕ) (v : View E R) → get_elem? views i ≡ some v → HasWord v.stage → ⊥
    pub held : IsHeld word → (i : ℕ) × ((v : View E R) × (get_elem? views i ≡ some v) × HasWord v.stage × (0 < length v.owns) × ((j : ℕ) (u : View E R) → get_elem? views j ≡ some u → HasWord u.stage → j ≡ i))

  -- at its moment, when the views of the object's seats were some of which this is one
  abbrev pub SaysSo : {S : Type 0} → (S → ℕ → E → S × R) → (S → ℕ) → S → ℕ → List (Entry E R) → View E R → Type 0
  SaysSo next tells start word journal mine = (views : List (View E R)) × ((i : ℕ) × (get_elem? views i ≡ some mine)) × Says next tells start word journal views

-- the word that the pass's caller has looked at says this, with all of the history that it has then seen
abbrev pub WordSays : {S N E R : Type 0} → (S → ℕ → E → S × R) → (S → ℕ) → S → ℕ → Pass S N E R → Type 0
WordSays next tells start word pass = SaysSo next tells start word pass.seat.me.0.seen pass.seat.me.0

module _ {S N E R H : Type 0} (next : S → ℕ → E → S × R) (halts : Bool) (frees takes : E → R → Bool) (front : N → Front) (at : H → N → Type 0) (tells : S → ℕ) (means : S → ℕ → S) (begin : Begin S N) where
  -- what a look tells a seat: the history, of which all that it knew is a part
  pub record Finds (v : View E R) (journal : List (Entry E R)) : Type 0 where
    pub seen : Begins journal v.seen
    pub heard : (i : ℕ) (xs : List (Entry E R)) → get_elem? v.heard i ≡ some xs → Begins journal xs
    pub owns : (i : ℕ) (own : Own E R) → get_elem? v.owns i ≡ some own → (v.number + i < begin.callers) × (own.entries ≡ by (v.number + i) journal)
    pub lawful : Lawful next halts frees takes front at tells means begin journal

  -- the seat found this word, and holds what it held
  abbrev pub LooksAt : Sat S N E R → ℕ → Sat S N E R → Type 0
  LooksAt m word n = (journal : List (Entry E R)) × (n ≡ (looked m.0 journal, m.1)) × Finds m.0 journal × SaysSo next tells begin.state word journal n.0
