-- The entries of a pass among those of all kinds.
use Rattle.std.specs.Prelude.{List, map}
use Rattle.ruled_object.specs.declared.pass.Pass.{Pass}
use Rattle.ruled_object.specs.Passes.{own_by}
use Rattle.run_record.specs.declared.entered.ObjectEvent.{ObjectEvent}
use Rattle.run_record.specs.declared.entered.ObjectReply.{ObjectReply}
use Rattle.run_record.specs.Parts.{lifted}
use Rattle.run_record.specs.Record.{ObjectEntry}

-- a pass's entries, as those of whatever kind's
abbrev pub own_as : {S N E R : Type 0} → (E → ObjectEvent) → (R → ObjectReply) → Pass S N E R → List ObjectEntry
own_as event reply pass = map (lifted event reply) (own_by pass)
