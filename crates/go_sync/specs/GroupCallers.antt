-- What one call of a wait group's caller did.
use Rattle.std.specs.Prelude.{◌≡◌, true, List}
use Rattle.sync_model.specs.declared.answer.Answer.{Answer}
use Rattle.sync_model.specs.declared.journal.Deed.{Deed}
use Rattle.wait_cores.specs.declared.group.GroupEvent.{GroupEvent}
use Rattle.wait_cores.specs.declared.group.GroupReply.{GroupReply}
use Rattle.wait_cores.specs.GroupMachine.{next}
use Rattle.sync_outside.specs.declared.clock.Clock.{Ghosts}
use Rattle.go_waits.specs.Groups.{start_of, IsGroupLawful}
use Rattle.go_sync.specs.declared.group.GroupCaller.{GroupCaller}
use Rattle.go_sync.specs.Made.{Made}

-- The caller made the events of a call that is spelt so, and no others, each the machine's at its place; it is still at its group, and what it has now seen follows the machine.
pub record Makes {C A : Type 0} {clock : Ghosts C} (spells : List (Deed GroupEvent GroupReply) → Answer A → Type 0) (old : GroupCaller C clock) (answer : Answer A) (new : GroupCaller C clock) : Type 0 where
  pub group : new.group ≡ old.group
  pub at : new.clock ≡ old.clock
  pub did : Made next true (start_of old.group.now) spells old.pass answer new.pass
  pub lawful : IsGroupLawful old.group.now new.pass
