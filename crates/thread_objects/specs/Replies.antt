-- What calls of a workload reply, of the kinds that reply alike.
use Rattle.std.specs.Prelude.{ℕ, Result, Ok, Err}
use Rattle.sync_model.specs.declared.answer.Answer.TheVariants.{Done, Halted}
use Rattle.script_calls.specs.declared.call.Reply.{Reply}
use Rattle.script_calls.specs.declared.call.Reply.TheVariants as replies
use Rattle.sync_types.specs.declared.lock_call.LockReply.{LockReply}
use Rattle.protocols.specs.Spelling.{CallAnswer}

-- of a lock, and of a call that only returns
abbrev pub of_lock : LockReply → Reply ℕ
of_lock reply = replies.Lock reply

abbrev pub returned : Unit {0} → Reply ℕ
returned outcome = replies.Returned

-- of a part behind which another comes: its outcome, or the answer that ends the call, where it was a misuse or met a halt
abbrev pub gone_on : {O P : Type 0} → CallAnswer O → Result O (CallAnswer P)
gone_on (Done (Ok outcome)) = Ok outcome
gone_on (Done (Err misuse)) = Err (Done (Err misuse))
gone_on (Halted misuse) = Err (Halted misuse)
