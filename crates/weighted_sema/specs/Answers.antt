-- What the calls of a semaphore answer, by what their protocol gives.
use Rattle.std.specs.Prelude.{Bool, false, Result, Ok, Err}
use Rattle.sync_types.specs.declared.misuse.Misuse.{Misuse}
use Rattle.sync_model.specs.declared.answer.Answer.{Answer}
use Rattle.sync_types.specs.declared.lock_call.LockReply.{LockReply}
use Rattle.sync_types.specs.declared.lock_call.LockReply.TheVariants as outcome
use Rattle.protocols.specs.Spelling.{CallAnswer}
use Rattle.call_loop.specs.Calls.{told}

-- an acquire answers nothing more
abbrev pub acquire_of : Result LockReply Misuse → (Unit {0})
acquire_of given = tt

-- a try answers whether the caller has its weight
abbrev pub try_of : Result LockReply Misuse → Bool
try_of (Ok (outcome.Tried had)) = had
try_of (Ok outcome.Done) = false
try_of (Err misuse) = false

-- a release answers whether it was a misuse
abbrev pub release_of : Result LockReply Misuse → Result (Unit {0}) Misuse
release_of (Ok outcome) = Ok tt
release_of (Err misuse) = Err misuse

-- the answers of a call, which are Halted where its protocol's is
abbrev pub acquire_answer : CallAnswer LockReply → Answer (Unit {0})
acquire_answer answer = told acquire_of answer

abbrev pub try_answer : CallAnswer LockReply → Answer Bool
try_answer answer = told try_of answer

abbrev pub release_answer : CallAnswer LockReply → Answer (Result (Unit {0}) Misuse)
release_answer answer = told release_of answer
