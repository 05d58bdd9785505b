-- What a journal shows of its object's machine.
use Rattle.std.specs.Prelude.{◌≡◌, List, map}
use Rattle.sync_model.specs.declared.journal.Entry.{Entry}
use Rattle.sync_model.specs.Journal.{log_of}
use Rattle.sync_model.specs.Log as log
use Rattle.run_record.specs.declared.entered.ObjectEvent.{ObjectEvent}
use Rattle.run_record.specs.declared.entered.ObjectReply.{ObjectReply}
use Rattle.run_record.specs.Parts.{lifted}
use Rattle.run_record.specs.Record.{ObjectEntry}

-- the entries are all of one kind, and the events among them that the machine took are this log
abbrev pub Shows : {E R : Type 0} → (E → ObjectEvent) → (R → ObjectReply) → List ObjectEntry → List (log.Entry E R) → Type 0
Shows {E} {R} event reply journal taken = (own : List (Entry E R)) × (journal ≡ map (lifted event reply) own) × (taken ≡ log_of own)
