-- What is a kind's own.
use Rattle.std.specs.Global.{Vec}
use Rattle.std.specs.Prelude.{ℕ, Bool, List, Option}
use Rattle.workload.specs.declared.object.ObjectKind.{ObjectKind}
use Rattle.workload.specs.declared.object.ObjectWord.{ObjectWord}
use Rattle.ruled_object.specs.declared.pass.Pass.{Pass}
use Rattle.run_record.specs.declared.entered.ObjectEvent.{ObjectEvent}
use Rattle.run_record.specs.declared.entered.ObjectReply.{ObjectReply}
use Rattle.run_record.specs.Record.{ObjectEntry}
use Rattle.thread_objects.specs.Own.{own_as}
use Rattle.thread_objects.specs.declared.column.AnyColumn.{AnyColumn}
use Rattle.thread_objects.specs.declared.pass.AnyPass.{AnyPass}

-- A kind, whose objects have states S, events E and answers R, and whose callers stand at a W.
pub record Kind (S E R W : Type 0) : Type 1 where
  pub word : Option ObjectWord  -- of the lines that declare its objects
  pub starts : ℕ → ObjectKind → Option S  -- the state in which an object begins that a workload of so many workers declares so, if it is of this kind
  pub begins : ℕ → S → Type 0  -- the states in which an object of so many callers may begin
  pub out : W  -- where a caller stands between two calls
  pub stands : W → E → R → W  -- and where after an event of its own
  pub next : S → ℕ → E → S × R  -- the machine
  pub frees : E → R → Bool  -- which events release
  pub takes : E → R → Bool  -- which acquire
  pub event : E → ObjectEvent  -- its events among those of all kinds
  pub reply : R → ObjectReply  -- and its answers
  pub pass : {N : Type 0} → AnyPass N → Option (Pass S N E R)  -- a pass, if it is to such an object
  pub column : {N : Type 0} → AnyColumn N → Option (Vec (Pass S N E R))  -- a column's passes, if they are to one

-- the entries of a pass to an object of this kind, as those of whatever kind's
abbrev pub own_in : {S N E R W : Type 0} → Kind S E R W → Pass S N E R → List ObjectEntry
own_in kind pass = own_as kind.event kind.reply pass
