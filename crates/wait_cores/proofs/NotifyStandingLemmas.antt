-- Each event of a cond gives its own caller a ticket or takes it, and nobody else's.
use Rattle.std.proofs.Common.{◌≡◌, ◌≢◌, ℕ, zero, suc, ◌+◌, ◌<◌, Bool, true, false, cond, List, [], ◌∷◌, length, replicate, set, Option, Some, None, refl, ap}
use Rattle.std.specs.Prelude.{nat_lt, is_some, unwrap_or}
use Rattle.std.specs.List.{slice_get}
use Rattle.std.proofs.lemmas.Bool.{ltb-true}
use Rattle.wait_cores.specs.declared.notify.NotifyEvent.{NotifyEvent}
use Rattle.wait_cores.specs.declared.notify.NotifyEvent.TheVariants.{Ticket, Signal, Broadcast, Leave}
use Rattle.wait_cores.specs.declared.notify.NotifyReply.{NotifyReply}
use Rattle.wait_cores.specs.declared.notify.NotifyReply.TheVariants.{Done, Still}
use Rattle.wait_cores.specs.declared.notify.NotifyPlace.{NotifyPlace}
use Rattle.wait_cores.specs.declared.notify.NotifyPlace.TheVariants.{Out, Waiting, Notified}
use Rattle.wait_cores.specs.NotifyMachine.{NotifyState, start, next, made, leave_from, callers_of, place_of, place_with}
use Rattle.wait_cores.specs.NotifyStanding.{has_ticket, has_after}
use Rattle.wait_cores.proofs.Places.{get-set_other, get-set_within}

abbrev has_at : List (Option ℕ) → ℕ → Bool
has_at tickets caller = is_some (unwrap_or (slice_get tickets caller) None)

has_none : (tickets : List (Option ℕ)) (c : ℕ) → has_at (set tickets c None) c ≡ false
has_none [] c = refl
has_none (ticket ∷ tickets) zero = refl
has_none (ticket ∷ tickets) (suc c) = has_none tickets c

has_other : (tickets : List (Option ℕ)) (c d : ℕ) (ticket : Option ℕ) → c ≢ d → has_at (set tickets d ticket) c ≡ has_at tickets c
has_other tickets c d ticket ne = ap (λ (o : Option (Option ℕ)). is_some (unwrap_or o None)) (get-set_other tickets d c ticket ne)

has_first : (callers c : ℕ) → has_at (replicate callers None) c ≡ false
has_first zero c = refl
has_first (suc callers) zero = refl
has_first (suc callers) (suc c) = has_first callers c

-- what one event does to its own caller's ticket and to the others'
record Stands (s : NotifyState) (d : ℕ) (event : NotifyEvent) (n : NotifyState × NotifyReply) : Type 0 where
  own : has_ticket n.0 d ≡ has_after (has_ticket s d) event n.1
  others : (c : ℕ) → c ≢ d → has_ticket n.0 c ≡ has_ticket s c

unmoved : (s : NotifyState) (d : ℕ) (event : NotifyEvent) → has_ticket s d ≡ has_after (has_ticket s d) event Still
unmoved s d Ticket = refl
unmoved s d Signal = refl
unmoved s d Broadcast = refl
unmoved s d Leave = refl

stands_still : (s : NotifyState) (d : ℕ) (event : NotifyEvent) → Stands s d event (s, Still)
stands_still s d event = record { own = unmoved s d event; others = λ c ne. refl }

stands_signal : (b : Bool) (s : NotifyState) (d : ℕ) → Stands s d Signal (cond b (record s { notified = s.notified + 1 }) s, Done)
stands_signal true s d = record { own = refl; others = λ c ne. refl }
stands_signal false s d = record { own = refl; others = λ c ne. refl }

stands_leave : (p : NotifyPlace) (s : NotifyState) (d : ℕ) → Stands s d Leave (leave_from p s d)
stands_leave Notified s d = record { own = has_none s.tickets d; others = λ c ne. has_other s.tickets c d None ne }
stands_leave Waiting s d = stands_still s d Leave
stands_leave Out s d = stands_still s d Leave

stands_made : (s : NotifyState) (d : ℕ) (event : NotifyEvent) → d < length s.tickets → Stands s d event (made s d event)
stands_made s d Ticket within = record {
  own = ap (λ (o : Option (Option ℕ)). is_some (unwrap_or o None)) (get-set_within s.tickets d (Some s.next_ticket) within);
  others = λ c ne. has_other s.tickets c d (Some s.next_ticket) ne;
}
stands_made s d Signal within = stands_signal (nat_lt s.notified s.next_ticket) s d
stands_made s d Broadcast within = record { own = refl; others = λ c ne. refl }
stands_made s d Leave within = stands_leave (place_of s d) s d

stands_if : (b : Bool) (s : NotifyState) (d : ℕ) (event : NotifyEvent) → nat_lt d (callers_of s) ≡ b → Stands s d event (cond b (made s d event) (s, Still))
stands_if true s d event below = stands_made s d event (ltb-true d (length s.tickets) below)
stands_if false s d event below = stands_still s d event

stands : (s : NotifyState) (d : ℕ) (event : NotifyEvent) → Stands s d event (next s d event)
stands s d event = stands_if (nat_lt d (callers_of s)) s d event refl

pub knows-own : (s : NotifyState) (c : ℕ) (event : NotifyEvent) → has_ticket (next s c event).0 c ≡ has_after (has_ticket s c) event (next s c event).1
knows-own s c event = (stands s c event).own

pub knows-others : (s : NotifyState) (c d : ℕ) (event : NotifyEvent) → c ≢ d → has_ticket (next s d event).0 c ≡ has_ticket s c
knows-others s c d event ne = (stands s d event).others c ne

out_without : (notified : ℕ) (mine : Option (Option ℕ)) → is_some (unwrap_or mine None) ≡ false → place_with notified mine ≡ Out
out_without notified (Some (Some ticket)) h = cc
out_without notified (Some None) h = refl
out_without notified None h = refl

still_without : (b : Bool) (p : NotifyPlace) (s : NotifyState) (c : ℕ) → p ≡ Out → (cond b (leave_from p s c) (s, Still)).1 ≡ Still
still_without true Out s c is = refl
still_without true Waiting s c is = cc
still_without true Notified s c is = cc
still_without false p s c is = refl

pub stays-without : (s : NotifyState) (c : ℕ) → has_ticket s c ≡ false → (next s c Leave).1 ≡ Still
stays-without s c h = still_without (nat_lt c (callers_of s)) (place_of s c) s c (out_without s.notified (slice_get s.tickets c) h)

pub has-first : (callers c : ℕ) → has_ticket (start callers) c ≡ false
has-first callers c = has_first callers c
