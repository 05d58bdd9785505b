use Rattle.std.proofs.Common.{◌≡◌, drop}
use Rattle.workload.specs.KeywordWords.{first_named}
use Rattle.record_text.specs.EventWords.{event_name}
use Rattle.record_text.proofs.event_reading.find_event.Given as goal

abbrev pub invariant-loop-event : goal.invariant-loop-event
invariant-loop-event l = first_named event_name (drop l.event-index l.events) l.name ≡ first_named event_name l.events l.name
