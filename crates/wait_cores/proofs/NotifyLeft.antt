-- What the events of a cond use up.
use Rattle.std.proofs.Common.{◌≡◌, ℕ, zero, suc, ◌+◌, ◌<◌, ◌≤◌, Bool, true, false, cond, List, [], ◌∷◌, length, get_or, set, Option, Some, None, refl, ap, arith}
use Rattle.std.specs.Prelude.{nat_lt, sum_by}
use Rattle.std.specs.List.{slice_get}
use Rattle.std.proofs.lemmas.Bool.{lt-ltb}
use Rattle.std.proofs.lemmas.List.Sums.{sum_by-set}
use Rattle.std.proofs.lemmas.Option.{get_or_from_slice_get}
use Rattle.wait_cores.specs.declared.notify.NotifyEvent.{NotifyEvent}
use Rattle.wait_cores.specs.declared.notify.NotifyEvent.TheVariants.{Ticket, Signal, Broadcast, Leave}
use Rattle.wait_cores.specs.declared.notify.NotifyReply.{NotifyReply}
use Rattle.wait_cores.specs.declared.notify.NotifyReply.TheVariants.{Still}
use Rattle.wait_cores.specs.declared.notify.NotifyPlace.{NotifyPlace}
use Rattle.wait_cores.specs.declared.notify.NotifyPlace.TheVariants.{Out, Waiting, Notified}
use Rattle.wait_cores.specs.NotifyMachine.{NotifyState, next, made, leave_from, callers_of, place_of, place_with}
use Rattle.wait_cores.specs.NotifyEventsLeft.{left_with, notify_left, notify_used, notify_given}

abbrev UsesUp : NotifyState → ℕ → NotifyEvent → NotifyState × NotifyReply → Type 0
UsesUp s c event n = notify_left n.0 + notify_used (place_of s c) event ≤ notify_left s + notify_given event

-- no place but `Out` uses anything up
nothing_used : (b : Bool) → notify_used (cond b Notified Waiting) Ticket ≡ 0
nothing_used true = refl
nothing_used false = refl

none_within : {X : Type 0} (xs : List X) (c : ℕ) → slice_get xs c ≡ None → c < length xs → ⊥
none_within [] c at below = absurd (omega (arith, below))
none_within (x ∷ xs) zero at below = cc
none_within (x ∷ xs) (suc c) at below = none_within xs c at (omega (arith, below))

ticket_uses : (o : Option (Option ℕ)) (xs : List (Option ℕ)) (notified c ticket : ℕ) → slice_get xs c ≡ o → c < length xs
    → sum_by left_with (set xs c (Some ticket)) + notify_used (place_with notified o) Ticket ≤ sum_by left_with xs
ticket_uses (Some None) xs notified c ticket at below =
    let same : left_with (get_or xs c None) ≡ 1 = ap left_with (get_or_from_slice_get xs c None None at) in
    omega (arith, sum_by-set left_with xs c (Some ticket) None below, same)
ticket_uses (Some (Some old)) xs notified c ticket at below =
    omega (arith, sum_by-set left_with xs c (Some ticket) None below, nothing_used (nat_lt old notified))
ticket_uses None xs notified c ticket at below = absurd (none_within xs c at below)

signal_uses : (b : Bool) (s : NotifyState) → notify_left (cond b (record s { notified = s.notified + 1 }) s) ≡ notify_left s
signal_uses true s = refl
signal_uses false s = refl

leave_uses : (p : NotifyPlace) (s : NotifyState) (c : ℕ) → c < length s.tickets → notify_left (leave_from p s c).0 ≤ notify_left s + 1
leave_uses Notified s c below = omega (arith, sum_by-set left_with s.tickets c None None below)
leave_uses Waiting s c below = omega arith
leave_uses Out s c below = omega arith

-- only a ticket uses anything up
only_ticket : (p : NotifyPlace) → (notify_used p Signal ≡ 0) × ((notify_used p Broadcast ≡ 0) × (notify_used p Leave ≡ 0))
only_ticket Out = (refl, (refl, refl))
only_ticket Waiting = (refl, (refl, refl))
only_ticket Notified = (refl, (refl, refl))

made_uses : (s : NotifyState) (c : ℕ) (event : NotifyEvent) → c < length s.tickets → UsesUp s c event (made s c event)
made_uses s c Ticket below = omega (arith, ticket_uses (slice_get s.tickets c) s.tickets s.notified c s.next_ticket refl below)
made_uses s c Signal below = omega (arith, signal_uses (nat_lt s.notified s.next_ticket) s, (only_ticket (place_of s c)).0)
made_uses s c Broadcast below = omega (arith, (only_ticket (place_of s c)).1.0)
made_uses s c Leave below = omega (arith, leave_uses (place_of s c) s c below, (only_ticket (place_of s c)).1.1)

if_uses : (b : Bool) (s : NotifyState) (c : ℕ) (event : NotifyEvent) → c < length s.tickets → b ≡ true → UsesUp s c event (cond b (made s c event) (s, Still))
if_uses true s c event below is = made_uses s c event below
if_uses false s c event below is = absurd cc

pub next-uses : (s : NotifyState) (c : ℕ) (event : NotifyEvent) → c < callers_of s → UsesUp s c event (next s c event)
next-uses s c event below = if_uses (nat_lt c (callers_of s)) s c event below (lt-ltb c (callers_of s) below)
