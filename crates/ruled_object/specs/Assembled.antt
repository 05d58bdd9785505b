-- Passes that callers bring to one assembly, one after the other, and get back in the same order.
use Rattle.std.specs.Prelude.{◌≡◌, ℕ, List, [], Some, length, slice_get, slice_index}
use mathlib.Core.Option.{some}
use lib.ListN.{get_elem?}
use Rattle.sync_model.specs.declared.journal.Entry.{Entry}
use Rattle.ruled_object.specs.declared.assembly.Assembly.{Assembly}
use Rattle.ruled_object.specs.declared.object.Object.{Object}
use Rattle.ruled_object.specs.declared.pass.Pass.{Pass}
use Rattle.ruled_object.specs.declared.view.Own.{Own}
use Rattle.ruled_object.specs.Gathered.{AreAllPasses, Gathered, Dealing}
use Rattle.ruled_object.specs.Passes.{own_in, turns_of}

-- the assembly has how often each of these passes took the turn
abbrev pub HasTurns : {S N E R : Type 0} → List (Pass S N E R) → Assembly S N E R → Type 0
HasTurns {S} {N} {E} {R} passes all = (i : ℕ) (pass : Pass S N E R) → slice_get passes i ≡ Some pass → slice_index all.turns i ≡ turns_of pass

-- these passes were brought, in order of number from 0
pub record Brought {M N S E R H : Type 0} (object : Object M N S E R H) (passes : List (Pass S N E R)) (all : Assembly S N E R) : Type 0 where
  pub table : all.seat.table_id ≡ object.table.shared.table_id
  pub empty : all.seat.me.1 ≡ []
  pub gathered : Gathered (length passes) passes all.seat.me.0
  pub room : length all.turns ≡ 64
  pub turns : HasTurns passes all

-- All passes of the object were brought, as these, and all of this history was seen. The first n callers have their passes again
pub record HandsBack {M N S E R H : Type 0} (object : Object M N S E R H) (n : ℕ) (journal : List (Entry E R)) (passes : List (Pass S N E R)) (all : Assembly S N E R) : Type 0 where
  pub table : all.seat.table_id ≡ object.table.shared.table_id
  pub empty : all.seat.me.1 ≡ []
  pub passes_are : AreAllPasses object passes
  pub owns : List (Own E R)
  pub sized : length owns ≡ length passes
  pub own : (i : ℕ) (pass : Pass S N E R) → slice_get passes i ≡ Some pass → get_elem? owns i ≡ some (own_in pass)
  pub dealing : Dealing n journal owns all.seat.me.0
  pub turns : HasTurns passes all
