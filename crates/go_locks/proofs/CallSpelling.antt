-- What a lock's call answers and gains.
use Rattle.std.proofs.Common.{◌≡◌, ◌≢◌, ℕ, Bool, true, false, List, Ok, Err, refl}
use Rattle.sync_types.specs.declared.misuse.Misuse.{Misuse}
use Rattle.sync_model.specs.declared.answer.Answer.TheVariants.{Done, Halted}
use Rattle.sync_types.specs.declared.lock_call.LockReply.{LockReply}
use Rattle.sync_types.specs.declared.lock_call.LockReply.TheVariants as outcome
use Rattle.sync_model.specs.declared.answer.Answer.{Answer}
use Rattle.sync_model.specs.declared.journal.Deed.{Deed}
use Rattle.sync_model.specs.Front.{Front}
use Rattle.ruled_object.specs.declared.pass.Pass.{Pass}
use Rattle.ruled_object.specs.Growth.{deeds_of}
use Rattle.protocols.specs.Spelling.{CallAnswer}
use Rattle.call_loop.specs.Calls.{Did, has_gained}
use Rattle.go_locks.specs.MutexAnswers.{lock_answer, try_answer}

-- a lock that is halted gains nothing
pub lock_halted : (gains : LockReply → Bool) (answer : CallAnswer LockReply) (m : Misuse) → lock_answer answer ≡ Halted m → has_gained gains answer ≡ false
lock_halted gains (Done given) m is = cc
lock_halted gains (Halted n) m is = refl

-- nor does a try that doesn't succeed, where only those gain that do, or an unlock, where none does
pub try_fails : (gains : LockReply → Bool) → gains (outcome.Tried false) ≡ false → gains outcome.Done ≡ false → (answer : CallAnswer LockReply) → try_answer answer ≢ Done true → has_gained gains answer ≡ false
try_fails gains none done (Done (Ok (outcome.Tried true))) fails = absurd (fails refl)
try_fails gains none done (Done (Ok (outcome.Tried false))) fails = none
try_fails gains none done (Done (Ok outcome.Done)) fails = done
try_fails gains none done (Done (Err m)) fails = refl
try_fails gains none done (Halted m) fails = refl

pub unlock_gains : (answer : CallAnswer LockReply) → has_gained (λ outcome. false) answer ≡ false
unlock_gains (Done (Ok o)) = refl
unlock_gains (Done (Err m)) = refl
unlock_gains (Halted m) = refl

-- what a call did, whose moments are told by its spelling
pub with_moments : {S N E R A : Type 0} (next : S → ℕ → E → S × R) (start : S) (spells : List (Deed E R) → Answer A → Type 0) (timely clocked : List (Deed E R) → Type 0) (old new : Pass S N E R) (from to : Front) (answer : Answer A)
    → ((deeds : List (Deed E R)) → spells deeds answer → timely deeds → clocked deeds) → Did next true start spells timely old from answer new to → Did next true start spells clocked old from answer new to
with_moments next start spells timely clocked old new from to answer moments did = record {
  entries = did.entries;
  grows = did.grows;
  spelt = did.spelt;
  halted = did.halted;
  moments = moments (deeds_of did.entries) did.spelt did.moments;
}
