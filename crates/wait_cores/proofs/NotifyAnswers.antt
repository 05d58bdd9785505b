-- What the events of a cond's callers are answered.
use Rattle.std.proofs.Common.{◌≡◌, ℕ, ◌+◌, ◌<◌, Bool, true, false, cond, Some, None, refl, length-set}
use Rattle.std.specs.Prelude.{nat_lt}
use Rattle.std.proofs.lemmas.Bool.{lt-ltb}
use Rattle.wait_cores.specs.declared.notify.NotifyEvent.{NotifyEvent}
use Rattle.wait_cores.specs.declared.notify.NotifyEvent.TheVariants.{Ticket, Signal, Broadcast, Leave}
use Rattle.wait_cores.specs.declared.notify.NotifyReply.TheVariants.{Still}
use Rattle.wait_cores.specs.declared.notify.NotifyPlace.{NotifyPlace}
use Rattle.wait_cores.specs.declared.notify.NotifyPlace.TheVariants.{Out, Waiting, Notified}
use Rattle.wait_cores.specs.NotifyMachine.{NotifyState, next, made, leave_from, callers_of, place_of}
use Rattle.wait_cores.specs.NotifyLaws.{answers}

answer_made : (s : NotifyState) (c : ℕ) (event : NotifyEvent) → answers event (made s c event).1 ≡ true
answer_made s c Ticket = refl
answer_made s c Signal = refl
answer_made s c Broadcast = refl
answer_made s c Leave = refl

answer_if : (b : Bool) (s : NotifyState) (c : ℕ) (event : NotifyEvent) → b ≡ true → answers event (cond b (made s c event) (s, Still)).1 ≡ true
answer_if true s c event below = answer_made s c event
answer_if false s c event below = cc

pub knows-answers : (s : NotifyState) (c : ℕ) (event : NotifyEvent) → c < callers_of s → answers event (next s c event).1 ≡ true
knows-answers s c event below = answer_if (nat_lt c (callers_of s)) s c event (lt-ltb c (callers_of s) below)

callers_signal : (b : Bool) (s : NotifyState) → callers_of (cond b (record s { notified = s.notified + 1 }) s) ≡ callers_of s
callers_signal true s = refl
callers_signal false s = refl

callers_leave : (p : NotifyPlace) (s : NotifyState) (c : ℕ) → callers_of (leave_from p s c).0 ≡ callers_of s
callers_leave Notified s c = length-set s.tickets c None
callers_leave Waiting s c = refl
callers_leave Out s c = refl

callers_made : (s : NotifyState) (c : ℕ) (event : NotifyEvent) → callers_of (made s c event).0 ≡ callers_of s
callers_made s c Ticket = length-set s.tickets c (Some s.next_ticket)
callers_made s c Signal = callers_signal (nat_lt s.notified s.next_ticket) s
callers_made s c Broadcast = refl
callers_made s c Leave = callers_leave (place_of s c) s c

callers_if : (b : Bool) (s : NotifyState) (c : ℕ) (event : NotifyEvent) → callers_of (cond b (made s c event) (s, Still)).0 ≡ callers_of s
callers_if true s c event = callers_made s c event
callers_if false s c event = refl

pub same-callers : (s : NotifyState) (c : ℕ) (event : NotifyEvent) → callers_of (next s c event).0 ≡ callers_of s
same-callers s c event = callers_if (nat_lt c (callers_of s)) s c event
