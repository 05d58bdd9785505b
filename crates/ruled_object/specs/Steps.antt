-- What each step on an object's table tells its seat.
use Rattle.std.specs.Prelude.{◌≡◌, ◌≢◌, ℕ, zero, suc, ◌+◌, ◌<◌, Bool, true, List, [], ◌∷◌, ◌++◌, Option, Some, None, length, replicate}
use mathlib.Core.Option.{some}
use lib.ListN.{get_elem?}
use Rattle.atomic_table.specs.Table.{Me}
use Rattle.atomic_table.specs.declared.shared.Seat.{Seat}
use Rattle.sync_model.specs.declared.journal.Entry.{Entry}
use Rattle.sync_model.specs.Front.{Front}
use Rattle.sync_model.specs.Journal.{Begins, halt_of, by, is_such, AllBefore, Covers, state_after, Right}
use Rattle.ruled_object.specs.declared.cell.Cell.{Cell}
use Rattle.ruled_object.specs.declared.rule.Begin.{Begin}
use Rattle.ruled_object.specs.declared.view.Stage.TheVariants.{Idle, Making, Taken, Deep}
use Rattle.ruled_object.specs.declared.view.Own.{Own}
use Rattle.ruled_object.specs.declared.view.View.{View}
use Rattle.ruled_object.specs.Rule.{IsFree, Lawful, Lies}

-- a seat: its view, and the slots that it has taken
abbrev pub Sat : Type 0 → Type 0 → Type 0 → Type 0 → Type 0
Sat S N E R = Me (Option (Cell S N)) (View E R)

-- a cell of which this is so lies in the slot that the seat has taken
abbrev pub HasCell : {S N E R : Type 0} → Sat S N E R → (Cell S N → Type 0) → Type 0
HasCell {S} {N} m P = (cell : Cell S N) × (m.1 ≡ (0, Some cell) ∷ []) × P cell

-- the first of a list, as a list
abbrev pub first_of : {A : Type 0} → List A → List A
first_of [] = []
first_of (x ∷ xs) = x ∷ []

-- the first of a list changed, and the others as they are
abbrev pub on_first : {A : Type 0} → (A → A) → List A → List A
on_first change [] = []
on_first change (x ∷ xs) = change x ∷ xs

-- all but the first
abbrev pub others_of : {A : Type 0} → List A → List A
others_of [] = []
others_of (x ∷ xs) = xs

module _ {E R : Type 0} where
  -- a seat that knows nothing and stands for nobody
  abbrev pub blank : View E R
  blank = record { stage = Idle; seen = []; knew = 0; heard = []; number = 0; owns = [] }

  -- a caller that has no entry, and took no turn
  abbrev pub new_own : Own E R
  new_own = record { entries = []; turns = 0 }

  -- the seat that makes the object stands for all callers
  abbrev pub first_view : ℕ → View E R
  first_view callers = record { stage = Making; seen = []; knew = 0; heard = []; number = 0; owns = replicate callers new_own }

  -- the view with the word, after it has seen this history
  abbrev pub taken : View E R → List (Entry E R) → View E R
  taken v journal = record v { stage = Taken; seen = journal; knew = length v.seen }

  -- one turn more of a caller
  abbrev pub one_turn : Own E R → Own E R
  one_turn own = record own { turns = suc own.turns }

  -- the view after it took the turn too: one turn more of the first caller
  abbrev pub deepened : View E R → View E R
  deepened v = record v { stage = Deep; owns = on_first one_turn v.owns }

  -- the view after it gave the turn back, and has the word still
  abbrev pub raised : View E R → View E R
  raised v = record v { stage = Taken }

  -- so many turns more of the first caller
  abbrev pub more_turns : ℕ → List (Own E R) → List (Own E R)
  more_turns zero owns = owns
  more_turns (suc n) owns = on_first one_turn (more_turns n owns)

  -- the view after so many turns more
  abbrev pub counted : ℕ → View E R → View E R
  counted n v = record v { owns = more_turns n v.owns }

  -- one entry more of a caller
  abbrev pub added : Entry E R → Own E R → Own E R
  added e own = record own { entries = own.entries ++ e ∷ [] }

  -- the view after it gave the word back, with an entry or with none
  abbrev pub gave : View E R → Option (Entry E R) → View E R
  gave v None = record v { stage = Idle }
  gave v (Some e) = record v { stage = Idle; seen = v.seen ++ e ∷ []; owns = on_first (added e) v.owns }

  -- the view of a new seat, for the first caller that a seat stood for
  abbrev pub dealt : View E R → View E R
  dealt v = record { stage = Idle; seen = v.seen; knew = 0; heard = []; number = v.number; owns = first_of v.owns }

  -- what the seat keeps, which stands for the other callers
  abbrev pub kept : View E R → View E R
  kept v = record v { number = v.number + 1; owns = others_of v.owns }

  -- the view after a seat took in another's
  abbrev pub joined : View E R → View E R → View E R
  joined v w = record v { heard = v.heard ++ w.seen ∷ w.heard; owns = v.owns ++ w.owns }

module _ {S N E R : Type 0} where
  -- the making seat took the slot, which was empty
  abbrev pub made : Sat S N E R → Sat S N E R → Type 0
  made m n = n ≡ (record m.0 { stage = Taken }, (0, None) ∷ [])

module _ {S N E R H : Type 0} (next : S → ℕ → E → S × R) (halts : Bool) (frees takes : E → R → Bool) (front : N → Front) (at : H → N → Type 0) (tells : S → ℕ) (means : S → ℕ → S) (begin : Begin S N) where
  -- what a seat learns with the word: the history, of which all that it knew is a part, and the cell that it left
  pub record Learns (v : View E R) (journal : List (Entry E R)) (word : ℕ) (cell : Cell S N) : Type 0 where
    pub seen : Begins journal v.seen
    pub heard : (i : ℕ) (xs : List (Entry E R)) → get_elem? v.heard i ≡ some xs → Begins journal xs
    pub owns : (i : ℕ) (own : Own E R) → get_elem? v.owns i ≡ some own → (v.number + i < begin.callers) × (own.entries ≡ by (v.number + i) journal)
    pub lawful : Lawful next halts frees takes front at tells means begin journal
    pub lies : Lies next halts frees takes front at tells means begin journal word cell

  -- the seat took the word, which nobody had
  abbrev pub TakesRest : ℕ → Sat S N E R → Sat S N E R → Type 0
  TakesRest word m n = (journal : List (Entry E R)) × (cell : Cell S N) × (n ≡ (taken m.0 journal, (0, Some cell) ∷ [])) × Learns m.0 journal word cell × IsFree word

  -- the seat took the word where it found what it expected, and else nothing changed
  abbrev pub TakesWord : ℕ → Sat S N E R → ℕ → Sat S N E R → Type 0
  TakesWord expected m found n = (found ≡ expected → TakesRest found m n) × (found ≢ expected → n ≡ m)

  -- the entry stands right behind the history, and the cell and the word are what both leave
  pub record MayAdd (v : View E R) (e : Entry E R) (word : ℕ) (cell : Cell S N) : Type 0 where
    pub caller : e.caller ≡ v.number
    pub right : Right next halts (state_after next begin.state v.seen) (halt_of v.seen) e.caller e.deed
    pub edge : is_such takes e.deed ≡ true → Covers frees e.front v.seen
    pub later : AllBefore v.seen e.time
    pub lies : Lies next halts frees takes front at tells means begin (v.seen ++ e ∷ []) word cell

  -- what is to be shown where the word is given back
  abbrev pub MayGive : View E R → Option (Entry E R) → ℕ → Cell S N → Type 0
  MayGive v None word cell = Lies next halts frees takes front at tells means begin v.seen word cell
  MayGive v (Some e) word cell = MayAdd v e word cell

-- it is the same seat, whatever it knows and holds
abbrev pub IsSameSeat : {S V : Type 0} → Seat S V → Seat S V → Type 0
IsSameSeat old new = (new.table_id ≡ old.table_id) × (new.id ≡ old.id)

-- this holds of how the object began, where a step is told of it
abbrev pub IfBegun : {S N : Type 0} → Option (Begin S N) → (Begin S N → Type 0) → Type 0
IfBegun None P = Unit {0}
IfBegun (Some begin) P = P begin
