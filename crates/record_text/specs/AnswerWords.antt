-- The words of what an object answers, and which answers an event may have.
use Rattle.std.specs.Prelude.{ℕ, Bool, true, false, nat_lt, List, ◌++◌, codes, Option, Some, None}
use Rattle.std.specs.Fmt.{decimal, signed_decimal}
use Rattle.std.specs.Option.{option_map_or}
use Rattle.sync_types.specs.declared.misuse.Misuse.{Misuse}
use Rattle.sync_types.specs.declared.misuse.Misuse.TheVariants.{UnlockOfUnlockedMutex, RUnlockOfUnlockedRwMutex, UnlockOfUnlockedRwMutex, NegativeWaitGroupCounter, WaitGroupReused, SemaphoreOverReleased}
use Rattle.record_text.specs.declared.event.EventWord.{EventWord}
use Rattle.record_text.specs.declared.event.EventWord.TheVariants as events
use Rattle.record_text.specs.declared.event.JournalKind.{JournalKind}
use Rattle.record_text.specs.declared.event.JournalKind.TheVariants as kinds
use Rattle.record_text.specs.declared.answer.AnswerWord.{AnswerWord}
use Rattle.record_text.specs.declared.answer.AnswerWord.TheVariants.{Acquired, Queued, Requeued, Still, Tried, Free, Woke, Handed, Misused, Done, Run, Ran, Item, Nothing, Refused, Lead, Left, Go, Never, Halted}
use Rattle.record_text.specs.declared.answer.AnswerRow.{AnswerRow}
use Rattle.record_text.specs.declared.answer.AnswerRow.TheVariants as rows
use Rattle.record_text.specs.EventWords.{misuse_word}
use Rattle.record_text.specs.Numbers.{has_64_bits, is_int64}

-- the word of a misuse that the event itself is
abbrev pub small_misuse_word : Misuse → List ℕ
small_misuse_word UnlockOfUnlockedMutex = codes "m1"
small_misuse_word RUnlockOfUnlockedRwMutex = codes "m2"
small_misuse_word UnlockOfUnlockedRwMutex = codes "m3"
small_misuse_word NegativeWaitGroupCounter = codes "m4"
small_misuse_word WaitGroupReused = codes "m5"
small_misuse_word SemaphoreOverReleased = codes "m6"

abbrev pub truth_word : Bool → List ℕ
truth_word true = codes "true"
truth_word false = codes "false"

-- what the word of an answer begins with: all of it, or up to a `=`
abbrev pub answer_name : AnswerWord → List ℕ
answer_name Acquired = codes "acquired"
answer_name Queued = codes "queued"
answer_name Requeued = codes "requeued"
answer_name Still = codes "still"
answer_name (Tried taken) = truth_word taken
answer_name Free = codes "free"
answer_name (Woke worker) = codes "woke="
answer_name (Handed worker) = codes "handed="
answer_name (Misused misuse) = small_misuse_word misuse
answer_name Done = codes "ok"
answer_name Run = codes "run"
answer_name Ran = codes "done"
answer_name (Item item) = codes "item="
answer_name Nothing = codes "none"
answer_name Refused = codes "refused"
answer_name Lead = codes "lead"
answer_name (Left value) = codes "left="
answer_name Go = codes "go"
answer_name Never = codes "never"
answer_name (Halted misuse) = codes "halted="

-- what stands behind that
abbrev pub answer_operand : AnswerWord → List ℕ
answer_operand (Woke worker) = decimal worker
answer_operand (Handed worker) = decimal worker
answer_operand (Item item) = decimal item
answer_operand (Left value) = signed_decimal value
answer_operand (Halted misuse) = misuse_word misuse
answer_operand answer = codes ""

abbrev pub answer_word : AnswerWord → List ℕ
answer_word answer = answer_name answer ++ answer_operand answer

-- the answer's numbers are in range, in a run of so many workers
abbrev pub is_answer : ℕ → AnswerWord → Bool
is_answer workers (Woke worker) = nat_lt worker workers
is_answer workers (Handed worker) = nat_lt worker workers
is_answer workers (Item item) = has_64_bits item
is_answer workers (Left value) = is_int64 value
is_answer workers answer = true

-- whether the answer is one of the row. Where an object was halted it answers any event so, but for a halt
abbrev pub is_in : AnswerRow → AnswerWord → Bool
is_in rows.Halt Done = true
is_in rows.Halt answer = false
is_in row (Halted misuse) = true
is_in rows.Arrival Acquired = true
is_in rows.Arrival Queued = true
is_in rows.Trial (Tried taken) = true
is_in rows.MutexUnlock Free = true
is_in rows.MutexUnlock (Woke worker) = true
is_in rows.MutexUnlock (Handed worker) = true
is_in rows.MutexUnlock (Misused UnlockOfUnlockedMutex) = true
is_in rows.MutexWoken Acquired = true
is_in rows.MutexWoken Requeued = true
is_in rows.MutexWoken Still = true
is_in rows.ReadUnlock Done = true
is_in rows.ReadUnlock (Misused RUnlockOfUnlockedRwMutex) = true
is_in rows.WriteUnlock Done = true
is_in rows.WriteUnlock (Misused UnlockOfUnlockedRwMutex) = true
is_in rows.WriteWoken Acquired = true
is_in rows.WriteWoken Queued = true
is_in rows.WriteWoken Requeued = true
is_in rows.WriteWoken Still = true
is_in rows.Leaving Done = true
is_in rows.Leaving Still = true
is_in rows.Made Done = true
is_in rows.Addition Done = true
is_in rows.Addition (Misused NegativeWaitGroupCounter) = true
is_in rows.Waiting Done = true
is_in rows.Waiting Queued = true
is_in rows.GroupLeaving Done = true
is_in rows.GroupLeaving (Misused WaitGroupReused) = true
is_in rows.GroupLeaving Still = true
is_in rows.Beginning Run = true
is_in rows.Beginning Queued = true
is_in rows.Beginning Ran = true
is_in rows.Look (Item item) = true
is_in rows.Look Nothing = true
is_in rows.WeightTrial Done = true
is_in rows.WeightTrial Refused = true
is_in rows.WeightRelease Done = true
is_in rows.WeightRelease (Misused SemaphoreOverReleased) = true
is_in rows.Joining Lead = true
is_in rows.Joining Queued = true
is_in rows.FlightLeaving (Left value) = true
is_in rows.FlightLeaving Still = true
is_in rows.StartLeaving Go = true
is_in rows.StartLeaving Never = true
is_in rows.StartLeaving Still = true
is_in row answer = false

-- ---- the answers that each event of a kind may have; nothing for an event that the kind hasn't

abbrev pub mutex_row : EventWord → Option AnswerRow
mutex_row (events.Arrive now) = Some rows.Arrival
mutex_row events.Try = Some rows.Trial
mutex_row events.Unlock = Some rows.MutexUnlock
mutex_row (events.Woken now) = Some rows.MutexWoken
mutex_row event = None

abbrev pub rw_mutex_row : EventWord → Option AnswerRow
rw_mutex_row events.ReadArrive = Some rows.Arrival
rw_mutex_row events.ReadTry = Some rows.Trial
rw_mutex_row events.WriteTry = Some rows.Trial
rw_mutex_row events.ReadUnlock = Some rows.ReadUnlock
rw_mutex_row events.WriteUnlock = Some rows.WriteUnlock
rw_mutex_row (events.WriteArrive now) = Some rows.Arrival
rw_mutex_row (events.WriteWoken now) = Some rows.WriteWoken
rw_mutex_row events.Leave = Some rows.Leaving
rw_mutex_row event = None

abbrev pub cond_row : EventWord → Option AnswerRow
cond_row events.Ticket = Some rows.Made
cond_row events.Signal = Some rows.Made
cond_row events.Broadcast = Some rows.Made
cond_row events.Leave = Some rows.Leaving
cond_row event = None

abbrev pub wait_group_row : EventWord → Option AnswerRow
wait_group_row (events.Add amount) = Some rows.Addition
wait_group_row events.Wait = Some rows.Waiting
wait_group_row events.Leave = Some rows.GroupLeaving
wait_group_row event = None

abbrev pub once_row : EventWord → Option AnswerRow
once_row events.Begin = Some rows.Beginning
once_row events.End = Some rows.Made
once_row events.Leave = Some rows.Leaving
once_row event = None

abbrev pub pool_part_row : EventWord → Option AnswerRow
pool_part_row (events.Put item) = Some rows.Made
pool_part_row events.LookOwn = Some rows.Look
pool_part_row events.LookOther = Some rows.Look
pool_part_row events.LookVictim = Some rows.Look
pool_part_row events.Sweep = Some rows.Made
pool_part_row event = None

abbrev pub sema_row : EventWord → Option AnswerRow
sema_row (events.Acquire weight) = Some rows.Waiting
sema_row (events.TryAcquire weight) = Some rows.WeightTrial
sema_row (events.Release weight) = Some rows.WeightRelease
sema_row events.Leave = Some rows.Leaving
sema_row event = None

abbrev pub flight_row : EventWord → Option AnswerRow
flight_row (events.Join key) = Some rows.Joining
flight_row (events.Land value) = Some rows.Trial
flight_row events.Leave = Some rows.FlightLeaving
flight_row event = None

abbrev pub starts_row : EventWord → Option AnswerRow
starts_row (events.Start worker) = Some rows.Made
starts_row events.End = Some rows.Made
starts_row events.Leave = Some rows.StartLeaving
starts_row event = None

-- by the kind. Every object that has a journal may be halted
abbrev pub row_of : JournalKind → EventWord → Option AnswerRow
row_of kinds.Empty event = None
row_of kind (events.Halt misuse) = Some rows.Halt
row_of kinds.Stop event = None
row_of kinds.Mutex event = mutex_row event
row_of kinds.RwMutex event = rw_mutex_row event
row_of kinds.Cond event = cond_row event
row_of kinds.WaitGroup event = wait_group_row event
row_of kinds.Once event = once_row event
row_of kinds.PoolPart event = pool_part_row event
row_of kinds.Sema event = sema_row event
row_of kinds.Flight event = flight_row event
row_of kinds.Starts event = starts_row event

-- whether a journal of this kind may have the event with the answer
abbrev pub has_answer : JournalKind → EventWord → AnswerWord → Bool
has_answer kind event answer = option_map_or (λ row. is_in row answer) (row_of kind event) false
