-- The name of an event or an answer, in front of its operand, and the table by which it is found.
use Rattle.std.specs.Prelude.{ℕ, pos, Bool, true, false, ◌||◌, cond, ◌==◌, List, [], ◌∷◌}
use Rattle.sync_types.specs.declared.misuse.Misuse.TheVariants.{UnlockOfUnlockedMutex, RUnlockOfUnlockedRwMutex, UnlockOfUnlockedRwMutex, NegativeWaitGroupCounter, WaitGroupReused, SemaphoreOverReleased}
use Rattle.record_text.specs.declared.event.EventWord.{EventWord}
use Rattle.record_text.specs.declared.event.EventWord.TheVariants as events
use Rattle.record_text.specs.declared.answer.AnswerWord.{AnswerWord}
use Rattle.record_text.specs.declared.answer.AnswerWord.TheVariants as answers
use Rattle.record_text.specs.declared.item_line.Whole.TheVariants.{Natural}

-- an `@` or a `=`
abbrev pub is_mark : ℕ → Bool
is_mark byte = (byte == 64) || (byte == 61)

-- the word up to its first mark, with it, and what stands behind that
abbrev pub up_to_mark : List ℕ → List ℕ
up_to_mark [] = []
up_to_mark (byte ∷ bytes) = cond (is_mark byte) (byte ∷ []) (byte ∷ up_to_mark bytes)

abbrev pub behind_mark : List ℕ → List ℕ
behind_mark [] = []
behind_mark (byte ∷ bytes) = cond (is_mark byte) bytes (behind_mark bytes)

-- the event of this name whose operand, if it has one, is 0 or the first misuse
abbrev pub plain_event : EventWord → EventWord
plain_event (events.Arrive now) = events.Arrive 0
plain_event (events.Woken now) = events.Woken 0
plain_event (events.WriteArrive now) = events.WriteArrive 0
plain_event (events.WriteWoken now) = events.WriteWoken 0
plain_event (events.Add amount) = events.Add (Natural 0)
plain_event (events.Put item) = events.Put 0
plain_event (events.Acquire weight) = events.Acquire 0
plain_event (events.TryAcquire weight) = events.TryAcquire 0
plain_event (events.Release weight) = events.Release 0
plain_event (events.Join key) = events.Join 0
plain_event (events.Land value) = events.Land (pos 0)
plain_event (events.Start worker) = events.Start 0
plain_event (events.Halt misuse) = events.Halt UnlockOfUnlockedMutex
plain_event event = event

-- one event of each name
abbrev pub plain_events : List EventWord
plain_events =
    events.Arrive 0 ∷ events.Unlock ∷ events.Woken 0 ∷ events.ReadArrive ∷ events.ReadUnlock ∷ events.WriteArrive 0 ∷ events.WriteUnlock ∷ events.WriteWoken 0
    ∷ events.Leave ∷ events.Try ∷ events.ReadTry ∷ events.WriteTry ∷ events.Ticket ∷ events.Signal ∷ events.Broadcast ∷ events.Add (Natural 0) ∷ events.Wait
    ∷ events.Begin ∷ events.End ∷ events.Put 0 ∷ events.LookOwn ∷ events.LookOther ∷ events.LookVictim ∷ events.Sweep
    ∷ events.Acquire 0 ∷ events.TryAcquire 0 ∷ events.Release 0 ∷ events.Join 0 ∷ events.Land (pos 0) ∷ events.Start 0 ∷ events.Halt UnlockOfUnlockedMutex ∷ []

-- the answer of this name, likewise
abbrev pub plain_answer : AnswerWord → AnswerWord
plain_answer (answers.Woke worker) = answers.Woke 0
plain_answer (answers.Handed worker) = answers.Handed 0
plain_answer (answers.Item item) = answers.Item 0
plain_answer (answers.Left value) = answers.Left (pos 0)
plain_answer (answers.Halted misuse) = answers.Halted UnlockOfUnlockedMutex
plain_answer answer = answer

-- one answer of each name
abbrev pub plain_answers : List AnswerWord
plain_answers =
    answers.Acquired ∷ answers.Queued ∷ answers.Free ∷ answers.Woke 0 ∷ answers.Done ∷ answers.Requeued ∷ answers.Still ∷ answers.Handed 0 ∷ answers.Tried true ∷ answers.Tried false
    ∷ answers.Misused UnlockOfUnlockedMutex ∷ answers.Misused RUnlockOfUnlockedRwMutex ∷ answers.Misused UnlockOfUnlockedRwMutex ∷ answers.Misused NegativeWaitGroupCounter ∷ answers.Misused WaitGroupReused ∷ answers.Misused SemaphoreOverReleased
    ∷ answers.Run ∷ answers.Ran ∷ answers.Item 0 ∷ answers.Nothing ∷ answers.Refused ∷ answers.Lead ∷ answers.Left (pos 0) ∷ answers.Go ∷ answers.Never ∷ answers.Halted UnlockOfUnlockedMutex ∷ []
