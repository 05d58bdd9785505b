-- A `go` that was made with a new note.
use Rattle.std.proofs.Common.{◌≡◌, ℕ, Result, subst}
use Rattle.sync_types.specs.declared.misuse.Misuse.{Misuse}
use Rattle.sync_model.specs.declared.answer.Answer.{Answer}
use Rattle.ruled_object.specs.Passes.{IsSpent}
use Rattle.go_waits.specs.declared.group.WaitGroup.{WaitGroup}
use Rattle.go_waits.specs.declared.starts.Starts.{Starts}
use Rattle.go_waits.specs.GoCalls.{Goes}
use Rattle.go_waits.specs.Groups.{GroupPass}
use Rattle.go_waits.specs.Startings.{StartsPass}
use Rattle.go_sync.specs.Made.{no_front}

pub went_so : {N H : Type 0} (worker : ℕ) (group : WaitGroup N H) (starts : Starts N H) (ready new : GroupPass N) (held told : StartsPass N) (first last : ℕ) (answer : Answer (Result (Unit {0}) Misuse))
    → first ≡ 0 → ((spent : StartsPass N) × IsSpent held spent × Goes worker group starts ready spent (no_front first) answer new told (no_front last))
    → (spent : StartsPass N) × (time : ℕ) × IsSpent held spent × Goes worker group starts ready spent (no_front 0) answer new told (no_front time)
went_so worker group starts ready new held told first last answer fresh did =
    (did.0, last, did.1, subst (λ t. Goes worker group starts ready did.0 (no_front t) answer new told (no_front last)) fresh did.2)
