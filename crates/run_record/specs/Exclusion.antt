-- Exclusion at a reader/writer mutex.
use Rattle.std.specs.Prelude.{◌≡◌, ℕ, ◌≤◌, IsTrue, ◌∷◌, ◌++◌, length, filter}
use Rattle.std.specs.List.{list_any}
use Rattle.sync_model.specs.Log.{Entry, after}
use Rattle.rw_core.specs.declared.event.RwEvent.{RwEvent}
use Rattle.rw_core.specs.declared.reply.RwReply.{RwReply}
use Rattle.rw_core.specs.Edges.{Log, is_acquired, read_acquires, read_releases, write_acquires, write_releases}
use Rattle.rw_core.specs.RwMachine.{next, start, is_announced, is_holding}

-- What the log of a reader/writer mutex of so many callers shows of exclusion. A caller has it from the answer that says so; one that waited has it from the unlock that grants it to a writer, or admits a reader, of which the state tells.
pub record KeepsApart (callers : ℕ) (log : Log) : Type 0 where
  -- after a writer is answered that it has the mutex, nobody is answered so before a writer's unlock
  pub after_writer : (earlier between later : Log) (first second : Entry RwEvent RwReply) → log ≡ earlier ++ first ∷ (between ++ second ∷ later)
      → IsTrue (write_acquires first) → IsTrue (is_acquired second.reply) → IsTrue (list_any write_releases between)
  -- after a reader is answered so, no writer is before a reader's unlock
  pub after_reader : (earlier between later : Log) (first second : Entry RwEvent RwReply) → log ≡ earlier ++ first ∷ (between ++ second ∷ later)
      → IsTrue (read_acquires first) → IsTrue (write_acquires second) → IsTrue (list_any read_releases between)
  -- while a writer has it, one that waited among them, or waits for readers, nobody is answered so before a writer's unlock
  pub beside_writer : (earlier between later : Log) (second : Entry RwEvent RwReply) → log ≡ earlier ++ (between ++ second ∷ later)
      → IsTrue (is_announced (after next (start callers) earlier).writer) → IsTrue (is_acquired second.reply) → IsTrue (list_any write_releases between)
  -- while readers have it, those that waited among them, no writer is answered so before as many readers' unlocks
  pub beside_readers : (earlier between later : Log) (second : Entry RwEvent RwReply) → log ≡ earlier ++ (between ++ second ∷ later)
      → IsTrue (write_acquires second) → (after next (start callers) earlier).readers ≤ length (filter read_releases between)
  -- at no moment does a writer have it beside a reader
  pub apart : (earlier later : Log) → log ≡ earlier ++ later
      → IsTrue (is_holding (after next (start callers) earlier).writer) → (after next (start callers) earlier).readers ≡ 0
