-- All callers' notes together, while nobody makes a call.
use Rattle.std.specs.Prelude.{◌≡◌, ℕ, List, map, Option, Some, length, slice_get}
use Rattle.sync_model.specs.declared.no_note.NoNote.{NoNote}
use Rattle.sync_model.specs.declared.caller.Caller.{Caller}
use Rattle.ruled_object.specs.declared.pass.Pass.{Pass}
use Rattle.ruled_object.specs.Passes.{number_of, seen_by, own_by, IsPassOf}
use Rattle.std.specs.Prelude.{vec_capacity}
use Rattle.shared_plain.specs.declared.room.EndsRoom.{EndsRoom}
use Rattle.shared_plain.specs.declared.event.Event.{Event}
use Rattle.shared_plain.specs.declared.event.Answered.{Answered}
use Rattle.shared_plain.specs.declared.mark.Mark.{Mark}
use Rattle.shared_plain.specs.declared.plain.Plain.{Plain}
use Rattle.shared_plain.specs.PlainHistory.{Step}
use Rattle.shared_plain.specs.PlainMachine.{Holdings}

abbrev pub PlainPass : Type 0
PlainPass = Pass Holdings NoNote Event (Option Answered)

-- the passes in the notes of callers
abbrev pub passes_in : List (Caller Mark) → List PlainPass
passes_in callers = map (λ caller. caller.note.pass) callers

-- the same caller's note, with the same number, whatever its pass has seen
pub record IsSameMark (old new : Mark) : Type 0 where
  pub number : number_of new.pass ≡ number_of old.pass
  pub callers : new.callers ≡ old.callers
  pub spare : new.spare ≡ old.spare
  pub time : new.stamp.time ≡ old.stamp.time
  pub done : new.done ≡ old.done

pub record AreSameMarks (old new : List (Caller Mark)) : Type 0 where
  pub count : length new ≡ length old
  pub each : (i : ℕ) (before after : Caller Mark) → slice_get old i ≡ Some before → slice_get new i ≡ Some after → IsSameMark before.note after.note

-- the note of caller i has its pass again, which has seen this history and holds what it held
pub record IsBack (plain : Plain) (journal : List Step) (passes : List PlainPass) (i : ℕ) (mark : Mark) : Type 0 where
  pub is : IsPassOf plain.object mark.pass
  pub seen : seen_by mark.pass ≡ journal
  pub own : (before : PlainPass) → slice_get passes i ≡ Some before → own_by mark.pass ≡ own_by before

-- for how many callers there is room
abbrev pub room_of : EndsRoom → ℕ
room_of room = vec_capacity room.passes
