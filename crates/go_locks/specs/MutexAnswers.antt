-- What the calls of a running Mutex answer, by what their protocol gives.
use Rattle.std.specs.Prelude.{Bool, false, Result, Ok, Err}
use Rattle.sync_types.specs.declared.misuse.Misuse.{Misuse}
use Rattle.sync_model.specs.declared.answer.Answer.{Answer}
use Rattle.sync_types.specs.declared.lock_call.LockReply.{LockReply}
use Rattle.sync_types.specs.declared.lock_call.LockReply.TheVariants as outcome
use Rattle.protocols.specs.Spelling.{CallAnswer}
use Rattle.call_loop.specs.Calls.{told}

-- a lock answers nothing more
abbrev pub lock_of : Result LockReply Misuse → (Unit {0})
lock_of given = tt

-- a try answers whether it took the lock
abbrev pub try_of : Result LockReply Misuse → Bool
try_of (Ok (outcome.Tried acquired)) = acquired
try_of (Ok outcome.Done) = false
try_of (Err misuse) = false

-- an unlock answers whether it was a misuse
abbrev pub unlock_of : Result LockReply Misuse → Result (Unit {0}) Misuse
unlock_of (Ok outcome) = Ok tt
unlock_of (Err misuse) = Err misuse

-- the answers of a call, which are Halted where its protocol's is
abbrev pub lock_answer : CallAnswer LockReply → Answer (Unit {0})
lock_answer answer = told lock_of answer

abbrev pub try_answer : CallAnswer LockReply → Answer Bool
try_answer answer = told try_of answer

abbrev pub unlock_answer : CallAnswer LockReply → Answer (Result (Unit {0}) Misuse)
unlock_answer answer = told unlock_of answer
