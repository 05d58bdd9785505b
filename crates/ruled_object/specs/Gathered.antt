-- All passes of an object together.
use Rattle.std.specs.Prelude.{◌≡◌, ℕ, ◌+◌, ◌<◌, ◌≤◌, Bool, List, [], Some, None, length, slice_get}
use mathlib.Core.Option.{some}
use lib.ListN.{get_elem?}
use Rattle.sync_model.specs.declared.journal.Entry.{Entry}
use Rattle.sync_model.specs.Journal.{Begins, by, KeepsEdges, TimesRise, Follows}
use Rattle.ruled_object.specs.declared.object.Object.{Object}
use Rattle.ruled_object.specs.declared.pass.Pass.{Pass}
use Rattle.ruled_object.specs.declared.view.Own.{Own}
use Rattle.ruled_object.specs.declared.view.Stage.TheVariants.{Idle}
use Rattle.ruled_object.specs.declared.view.View.{View}
use Rattle.ruled_object.specs.Passes.{capped, number_of, left_of, turns_of, seen_by, own_in, own_by, callers_of, IsPassOf, SamePass}

-- all passes of the object, in order of number
pub record AreAllPasses {M N S E R H : Type 0} (object : Object M N S E R H) (passes : List (Pass S N E R)) : Type 0 where
  pub count : length passes ≡ callers_of object
  pub each : (i : ℕ) (pass : Pass S N E R) → slice_get passes i ≡ Some pass → IsPassOf object pass × (number_of pass ≡ i)

module _ {S N E R : Type 0} where
  -- the same callers' passes, good for as many calls
  pub record SamePasses (old new : List (Pass S N E R)) : Type 0 where
    pub count : length new ≡ length old
    pub each : (i : ℕ) (before after : Pass S N E R) → slice_get old i ≡ Some before → slice_get new i ≡ Some after → SamePass before after

  -- each of these passes has taken as many turns as the same caller's had
  abbrev pub SameTurns : List (Pass S N E R) → List (Pass S N E R) → Type 0
  SameTurns old new = (i : ℕ) (before after : Pass S N E R) → slice_get old i ≡ Some before → slice_get new i ≡ Some after → turns_of after ≡ turns_of before

  -- each of these passes counts the turns that a seat has of its caller
  abbrev pub HaveCounted : List (Own E R) → List (Pass S N E R) → Type 0
  HaveCounted all passes = (i : ℕ) (pass : Pass S N E R) (own : Own E R) → slice_get passes i ≡ Some pass → get_elem? all i ≡ some own → turns_of pass ≡ capped own.turns

  -- each of these passes has the entries that the same caller's had
  abbrev pub SameOwn : List (Pass S N E R) → List (Pass S N E R) → Type 0
  SameOwn old new = (i : ℕ) (pass : Pass S N E R) → slice_get new i ≡ Some pass → (before : Pass S N E R) × (slice_get old i ≡ Some before) × (own_by pass ≡ own_by before)

  -- one seat knows all that the first n of these passes knew, and stands for their callers
  pub record Gathered (n : ℕ) (passes : List (Pass S N E R)) (v : View E R) : Type 0 where
    pub stage : v.stage ≡ Idle
    pub number : v.number ≡ 0
    pub count : length v.owns ≡ n
    pub owns : (i : ℕ) (pass : Pass S N E R) → i < n → slice_get passes i ≡ Some pass → get_elem? v.owns i ≡ some (own_in pass)
    pub heard : (i : ℕ) (pass : Pass S N E R) → i < n → slice_get passes i ≡ Some pass → (j : ℕ) × (get_elem? v.heard j ≡ some (seen_by pass))

module _ {E R : Type 0} where
  -- one seat has seen this history, and stands for all callers but the first n. This is what it had of each
  pub record Dealing (n : ℕ) (journal : List (Entry E R)) (all : List (Own E R)) (v : View E R) : Type 0 where
    pub stage : v.stage ≡ Idle
    pub seen : v.seen ≡ journal
    pub number : v.number ≡ n
    pub count : length v.owns + n ≡ length all
    pub owns : (i : ℕ) → get_elem? v.owns i ≡ get_elem? all (n + i)

-- the pass of caller n, which has seen this history
pub record IsDealt {M N S E R H : Type 0} (object : Object M N S E R H) (n : ℕ) (journal : List (Entry E R)) (all : List (Own E R)) (pass : Pass S N E R) : Type 0 where
  pub is : IsPassOf object pass
  pub number : number_of pass ≡ n
  pub seen : seen_by pass ≡ journal
  pub own : get_elem? all n ≡ some (own_in pass)

-- the history is all that the passes' callers did: each entry stands in exactly one pass's own list, and what each has seen is a beginning of it
pub record IsWhole {S N E R : Type 0} (next : S → ℕ → E → S × R) (halts : Bool) (frees takes : E → R → Bool) (start : S) (journal : List (Entry E R)) (passes : List (Pass S N E R)) : Type 0 where
  pub follows : Follows next halts start None journal
  pub edges : KeepsEdges frees takes journal
  pub times : TimesRise journal
  pub owns : (i : ℕ) (pass : Pass S N E R) → slice_get passes i ≡ Some pass → own_by pass ≡ by i journal
  pub seen : (i : ℕ) (pass : Pass S N E R) → slice_get passes i ≡ Some pass → Begins journal (seen_by pass)
  pub callers : (c : ℕ) → length passes ≤ c → by c journal ≡ []

-- the same, and each pass has seen all of the history
pub record IsSeen {S N E R : Type 0} (next : S → ℕ → E → S × R) (halts : Bool) (frees takes : E → R → Bool) (start : S) (journal : List (Entry E R)) (passes : List (Pass S N E R)) : Type 0 where
  pub whole : IsWhole next halts frees takes start journal passes
  pub all : (i : ℕ) (pass : Pass S N E R) → slice_get passes i ≡ Some pass → seen_by pass ≡ journal

-- all passes of a new object, in order of number, each good for so many calls. Nothing was done yet
pub record AreNew {M N S E R H : Type 0} (object : Object M N S E R H) (calls : ℕ) (passes : List (Pass S N E R)) : Type 0 where
  pub all : AreAllPasses object passes
  pub left : (i : ℕ) (pass : Pass S N E R) → slice_get passes i ≡ Some pass → left_of pass ≡ calls
  pub seen : (i : ℕ) (pass : Pass S N E R) → slice_get passes i ≡ Some pass → seen_by pass ≡ []
  pub own : (i : ℕ) (pass : Pass S N E R) → slice_get passes i ≡ Some pass → own_by pass ≡ []
