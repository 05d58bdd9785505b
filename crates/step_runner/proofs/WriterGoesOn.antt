-- A writer by schedule makes no event that is answered `Still`. Beside the protocol, which asks a queued one to try the inner mutex first, it leaves some out.
use Rattle.std.proofs.Common.{◌≡◌, ℕ, Bool, true, false, if◌then◌else◌, List, [], ◌∷◌, refl, ap}
use Rattle.std.proofs.lemmas.Bool.{false≢true}
use Rattle.sync_model.specs.declared.journal.Deed.TheVariants.{Event, Refused, Halt}
use Rattle.sync_types.specs.declared.lock_call.LockReply.{LockReply}
use Rattle.rw_core.specs.declared.event.RwEvent.TheVariants.{WriteArrive, WriteWoken, Leave}
use Rattle.rw_core.specs.declared.reply.RwReply.TheVariants.{Arrived, Tried, Unlocked, Resumed, Left, Still}
use Rattle.rw_core.specs.declared.reply.Arrival.TheVariants.{Queued}
use Rattle.protocols.specs.declared.rw_mutex.RwMutexStage.{RwMutexStage}
use Rattle.protocols.specs.declared.rw_mutex.RwMutexStage.TheVariants as stage
use Rattle.protocols.specs.RwMutexStages.{rw_event, rw_meaning}
use Rattle.protocols.specs.Spelling.{CallAnswer, Spells}
use Rattle.run_record.specs.RwMutexKind.{RwDeed, is_still, up_to_the_last, WriteLocks}

-- the stages of a writer that knows where it waits
abbrev pub knows_where : RwMutexStage → Bool
knows_where stage.Inner = true
knows_where stage.Behind = true
knows_where stage.Lock = false
knows_where stage.TryLock = false
knows_where stage.Unlock = false
knows_where stage.Resume = false
knows_where stage.LeaveWriting = false
knows_where stage.RLock = false
knows_where stage.TryRLock = false
knows_where stage.RUnlock = false
knows_where stage.LeaveReading = false

abbrev SpellsFrom : RwMutexStage → List RwDeed → CallAnswer LockReply → Type 0
SpellsFrom from deeds answer = Spells rw_event rw_meaning from deeds answer

-- one that was queued spells the same, with some more answers `Still`
abbrev Resumes : List RwDeed → CallAnswer LockReply → Type 0
Resumes deeds answer = (spelt : List RwDeed) × (up_to_the_last deeds ≡ up_to_the_last spelt) × SpellsFrom stage.Resume spelt answer

abbrev is_told : RwDeed
is_told = Event (WriteWoken 0) Still

abbrev leaves : RwDeed
leaves = Event Leave Still

-- a deed before two such lists
both : (from other : RwMutexStage) (d : RwDeed) (xs ys : List RwDeed) (answer : CallAnswer LockReply) → SpellsFrom from xs answer → SpellsFrom other ys answer → up_to_the_last xs ≡ up_to_the_last ys → up_to_the_last (d ∷ xs) ≡ up_to_the_last (d ∷ ys)
both from other d [] ys answer one two same = absurd one
both from other d (x ∷ xs) [] answer one two same = absurd two
both from other d (x ∷ xs) (y ∷ ys) answer one two same = ap (λ (l : List RwDeed). if is_still d then l else d ∷ l) same

-- one more `Still`
more : (from : RwMutexStage) (xs ys : List RwDeed) (answer : CallAnswer LockReply) → SpellsFrom from ys answer → up_to_the_last xs ≡ up_to_the_last ys → up_to_the_last xs ≡ up_to_the_last (leaves ∷ ys)
more from xs [] answer spells same = absurd spells
more from xs (y ∷ ys) answer spells same = same

behind : (deeds : List RwDeed) (answer : CallAnswer LockReply) → SpellsFrom stage.Behind deeds answer → Resumes deeds answer
behind [] answer spells = absurd spells
behind (Event e Left ∷ rest) answer spells = (is_told ∷ (Event e Left ∷ rest), refl, ((0, refl), spells))
behind (Event e Still ∷ rest) answer spells =
    let later = behind rest answer spells.1 in
    (is_told ∷ (Event e Still ∷ later.0), both stage.Behind stage.Resume (Event e Still) rest later.0 answer spells.1 later.2 later.1, ((0, refl), (spells.0, later.2)))
behind (Event e (Arrived a) ∷ rest) answer spells = absurd spells.1
behind (Event e (Tried b) ∷ rest) answer spells = absurd spells.1
behind (Event e (Unlocked u) ∷ rest) answer spells = absurd spells.1
behind (Event e (Resumed r) ∷ rest) answer spells = absurd spells.1
behind (Refused e m ∷ rest) answer spells = (is_told ∷ (Refused e m ∷ rest), refl, ((0, refl), spells))
behind (Halt m ∷ rest) answer spells = absurd spells

inner : (deeds : List RwDeed) (answer : CallAnswer LockReply) → SpellsFrom stage.Inner deeds answer → Resumes deeds answer
inner [] answer spells = absurd spells
inner (Event e (Resumed r) ∷ rest) answer spells = (Event e (Resumed r) ∷ rest, refl, spells)
inner (Event e Still ∷ rest) answer spells =
    let later = inner rest answer spells.1 in
    let beside : SpellsFrom stage.LeaveWriting (leaves ∷ later.0) answer = ((0, refl), later.2) in (
      Event e Still ∷ (leaves ∷ later.0),
      both stage.Inner stage.LeaveWriting (Event e Still) rest (leaves ∷ later.0) answer spells.1 beside (more stage.Resume rest later.0 answer later.2 later.1),
      (spells.0, beside),
    )
inner (Event e (Arrived a) ∷ rest) answer spells = absurd spells.1
inner (Event e (Tried b) ∷ rest) answer spells = absurd spells.1
inner (Event e (Unlocked u) ∷ rest) answer spells = absurd spells.1
inner (Event e Left ∷ rest) answer spells = absurd spells.1
inner (Refused e m ∷ rest) answer spells = (Refused e m ∷ rest, refl, spells)
inner (Halt m ∷ rest) answer spells = absurd spells

after_queued : (now : ℕ) (deeds : List RwDeed) (answer : CallAnswer LockReply) → Resumes deeds answer → WriteLocks (Event (WriteArrive now) (Arrived Queued) ∷ deeds) answer
after_queued now deeds answer (spelt, same, spells) =
    (Event (WriteArrive now) (Arrived Queued) ∷ spelt, ap (λ (l : List RwDeed). Event (WriteArrive now) (Arrived Queued) ∷ l) same, ((now, refl), spells))

-- behind an arrival that was queued, it spells a writer's lock
pub queued_first : (now : ℕ) (from : RwMutexStage) (deeds : List RwDeed) (answer : CallAnswer LockReply) → knows_where from ≡ true → SpellsFrom from deeds answer → WriteLocks (Event (WriteArrive now) (Arrived Queued) ∷ deeds) answer
queued_first now stage.Inner deeds answer knows spells = after_queued now deeds answer (inner deeds answer spells)
queued_first now stage.Behind deeds answer knows spells = after_queued now deeds answer (behind deeds answer spells)
queued_first now stage.Lock deeds answer knows spells = absurd (false≢true knows)
queued_first now stage.TryLock deeds answer knows spells = absurd (false≢true knows)
queued_first now stage.Unlock deeds answer knows spells = absurd (false≢true knows)
queued_first now stage.Resume deeds answer knows spells = absurd (false≢true knows)
queued_first now stage.LeaveWriting deeds answer knows spells = absurd (false≢true knows)
queued_first now stage.RLock deeds answer knows spells = absurd (false≢true knows)
queued_first now stage.TryRLock deeds answer knows spells = absurd (false≢true knows)
queued_first now stage.RUnlock deeds answer knows spells = absurd (false≢true knows)
queued_first now stage.LeaveReading deeds answer knows spells = absurd (false≢true knows)
