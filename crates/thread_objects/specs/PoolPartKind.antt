-- What is the own of a part of a pool, which is an object for itself.
use Rattle.std.specs.Global.{Vec}
use Rattle.std.specs.Prelude.{ℕ, Option, Some, None}
use Rattle.pool_core.specs.declared.pool_event.PoolEvent.{PoolEvent}
use Rattle.pool_core.specs.declared.pool_event.PoolReply.{PoolReply}
use Rattle.pool_core.specs.Edges.{pool_releases, pool_acquires}
use Rattle.pool_core.specs.PartMachine.{PartState, part_next}
use Rattle.protocols.specs.PoolStages.{pool_stands, PartBegins}
use Rattle.workload.specs.declared.object.ObjectWord.TheVariants as words
use Rattle.ruled_object.specs.declared.pass.Pass.{Pass}
use Rattle.run_record.specs.declared.entered.ObjectEvent.TheVariants as events
use Rattle.run_record.specs.declared.entered.ObjectReply.TheVariants as replies
use Rattle.thread_objects.specs.declared.column.AnyColumn.{AnyColumn}
use Rattle.thread_objects.specs.declared.column.AnyColumn.TheVariants as columns
use Rattle.thread_objects.specs.declared.pass.AnyPass.{AnyPass}
use Rattle.thread_objects.specs.declared.pass.AnyPass.TheVariants as passes
use Rattle.thread_objects.specs.EachKind.{Kind}

-- the pass, if it is one to a part of a pool
abbrev pub pool_part_pass : {N : Type 0} → AnyPass N → Option (Pass (PartState ℕ) N (PoolEvent ℕ) (PoolReply ℕ))
pool_part_pass (passes.PoolPart pass) = Some pass
pool_part_pass pass = None

-- the passes of a column, if they are to a part of a pool
abbrev pub pool_part_column : {N : Type 0} → AnyColumn N → Option (Vec (Pass (PartState ℕ) N (PoolEvent ℕ) (PoolReply ℕ)))
pool_part_column (columns.PoolPart ps) = Some ps
pool_part_column column = None

-- no place declares a part: it has the word of its pool
abbrev pub pool_part : Kind (PartState ℕ) (PoolEvent ℕ) (PoolReply ℕ) (Unit {0})
pool_part = record {
  word = Some words.Pool;
  starts = λ workers kind. None;
  begins = PartBegins;
  out = tt;
  stands = pool_stands;
  next = part_next;
  frees = pool_releases;
  takes = pool_acquires;
  event = events.Pool;
  reply = replies.Pool;
  pass = pool_part_pass;
  column = pool_part_column;
}
