-- What one call did of a caller of a wait group whose workers wait to be started.
use Rattle.std.specs.Prelude.{◌≡◌, ◌⊎◌, ℕ, Bool, true, false, List, Result, negsuc}
use Rattle.sync_types.specs.declared.misuse.Misuse.{Misuse}
use Rattle.sync_model.specs.declared.answer.Answer.{Answer}
use Rattle.sync_model.specs.declared.answer.Answer.TheVariants.{Done, Halted}
use Rattle.sync_model.specs.declared.journal.Deed.{Deed}
use Rattle.sync_model.specs.declared.no_note.NoNote.{NoNote}
use Rattle.starts_core.specs.declared.starts.StartEvent.TheVariants.{End}
use Rattle.wait_cores.specs.declared.group.GroupEvent.{GroupEvent}
use Rattle.wait_cores.specs.declared.group.GroupReply.{GroupReply}
use Rattle.ruled_object.specs.Passes.{IsSpent}
use Rattle.sync_outside.specs.declared.clock.Clock.{Ghosts}
use Rattle.go_waits.specs.GoCalls.{Goes}
use Rattle.go_waits.specs.GroupCalls.{Adds}
use Rattle.go_waits.specs.Groups.{GroupPass, IsGroupLawful}
use Rattle.go_waits.specs.StartCalls.{StartDeeds, StartsDid, MakesStart, WaitsStart}
use Rattle.go_waits.specs.Startings.{StartsPass, IsStartsLawful}
use Rattle.go_sync.specs.declared.go_group.GoCaller.{GoCaller}
use Rattle.go_sync.specs.GroupCallers as groups
use Rattle.go_sync.specs.Made.{no_front}
use Rattle.go_sync.specs.Renewing.{IsSame}

module _ {C : Type 0} {clock : Ghosts C} where
  -- The caller made the events of a call on the starts that is spelt so, and no others, each the machine's at its place, and none on the group; it is still at its starts, and what it has now seen follows the machine.
  pub record Makes {A : Type 0} (spells : StartDeeds → Answer A → Type 0) (old : GoCaller C clock) (answer : Answer A) (new : GoCaller C clock) : Type 0 where
    pub member : new.member ≡ old.member
    pub starts : new.starts ≡ old.starts
    pub did : (time : ℕ) × StartsDid old.starts.now spells old.pass (no_front 0) answer new.pass (no_front time)
    pub lawful : IsStartsLawful old.starts.now new.pass

  -- it made a call on the group that is spelt so, and none on the starts
  pub record OnGroup {A : Type 0} (spells : List (Deed GroupEvent GroupReply) → Answer A → Type 0) (old : GoCaller C clock) (answer : Answer A) (new : GoCaller C clock) : Type 0 where
    pub starts : new.starts ≡ old.starts
    pub pass : new.pass ≡ old.pass
    pub made : groups.Makes spells old.member answer new.member

  -- The caller added 1 on the group, and behind that started this worker, each by one event, which is the machine's at its place. Where the addition is a misuse or halted, nobody is started. It is still at its group and its starts.
  pub record GoesTo (worker : ℕ) (old : GoCaller C clock) (answer : Answer (Result (Unit {0}) Misuse)) (new : GoCaller C clock) : Type 0 where
    pub group : new.member.group ≡ old.member.group
    pub at : new.member.clock ≡ old.member.clock
    pub starts : new.starts ≡ old.starts
    pub ready : GroupPass NoNote
    pub ready_is : IsSame old.member.pass ready
    pub held : StartsPass NoNote
    pub held_is : IsSame old.pass held
    pub did : (spent : StartsPass NoNote) × (time : ℕ) × IsSpent held spent × Goes worker old.member.group.now old.starts.now ready spent (no_front 0) answer new.member.pass new.pass (no_front time)
    pub lawful : IsGroupLawful old.member.group.now new.member.pass

  -- nobody started the worker, since nobody is live, or somebody halted the starts
  abbrev pub IsNotStarted : GoCaller C clock → GoCaller C clock → Type 0
  IsNotStarted old new = Makes WaitsStart old (Done false) new ⊎ ((misuse : Misuse) × Makes {A = Bool} WaitsStart old (Halted misuse) new)

  -- the worker was started, and then took 1 from the group's counter, and said that it had ended
  pub record Ran (old new : GoCaller C clock) : Type 0 where
    pub live : GoCaller C clock
    pub told : Makes WaitsStart old (Done true) live
    pub done : GoCaller C clock
    pub taken : Answer (Result (Unit {0}) Misuse)
    pub takes : OnGroup (Adds (negsuc 0)) live taken done
    pub ended : Answer (Unit {0})
    pub ends : Makes (MakesStart End) done ended new
