-- What calls reply that are on several objects, or are made of other calls.
use Rattle.std.specs.Prelude.{ℕ, Bool, true, false, not, Option, Some, None, Ok, Err}
use Rattle.sync_types.specs.declared.misuse.Misuse.{Misuse}
use Rattle.sync_model.specs.declared.answer.Answer.TheVariants.{Done, Halted}
use Rattle.script_calls.specs.declared.call.Reply.{Reply}
use Rattle.script_calls.specs.declared.call.Reply.TheVariants as replies
use Rattle.sync_types.specs.declared.lock_call.LockReply.{LockReply}
use Rattle.sync_types.specs.declared.pool_call.PoolCallReply.TheVariants as pool_replies
use Rattle.protocols.specs.declared.pool.PoolOutcome.{PoolOutcome}
use Rattle.protocols.specs.Spelling.{CallAnswer}

-- of a cond's `wait`, whose mutex is locked again
abbrev pub relocked : LockReply → Reply ℕ
relocked reply = replies.Returned

-- of a put into a pool, and of a sweep
abbrev pub pool_done : PoolOutcome → Reply ℕ
pool_done outcome = replies.Pool pool_replies.Done

-- whether a worker comes to its script, by what it was told before it
abbrev pub has_come : CallAnswer Bool → Bool
has_come (Done (Ok started)) = started
has_come (Done (Err misuse)) = false
has_come (Halted misuse) = false

-- whether a worker made all that it was to make, where it gave no call up
abbrev pub is_through : Option (CallAnswer (Unit {0})) → Bool
is_through None = false
is_through (Some (Done (Ok made))) = true
is_through (Some (Done (Err misuse))) = false
is_through (Some (Halted misuse)) = false

-- the misuse that it met, where it met one
abbrev pub misuse_in : Option (CallAnswer (Unit {0})) → Option Misuse
misuse_in None = None
misuse_in (Some (Done (Ok made))) = None
misuse_in (Some (Done (Err misuse))) = Some misuse
misuse_in (Some (Halted misuse)) = None

-- whether a test found another number
abbrev pub is_unmet : CallAnswer Bool → Bool
is_unmet (Done (Ok met)) = not met
is_unmet (Done (Err misuse)) = false
is_unmet (Halted misuse) = false
