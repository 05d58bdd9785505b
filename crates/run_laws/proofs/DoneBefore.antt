-- A wait on a wait group that begins above 0 returns behind an addition below 0.
use Rattle.std.proofs.Common.{◌≡◌, ◌⊎◌, inl, inr, ℕ, zero, suc, ◌+◌, ◌<◌, ◌==◌, ℤ, pos, negsuc, ◌+ℤ◌, Bool, true, false, List, [], ◌∷◌, map, replicate, Option, Some, None, slice_get, refl, sym, ap, ◌∙◌, subst, arith}
use Rattle.std.specs.Prelude.{nat_lt, nat_le, ◌^◌, ◌-◌, if◌then◌else◌, slice_set, unwrap_or}
use Rattle.std.proofs.lemmas.Bool.{cases_Bool, false≢true, true≢false, ne_eqb}
use Rattle.std.proofs.lemmas.Option.{none-some, same_Some}
use Rattle.sync_model.specs.declared.journal.Deed.{Deed}
use Rattle.sync_model.specs.declared.journal.Deed.TheVariants.{Event, Refused, Halt}
use Rattle.sync_model.specs.declared.journal.Entry.{Entry}
use Rattle.sync_types.specs.declared.misuse.Misuse.{Misuse}
use Rattle.sync_model.specs.Journal.{is_such, halt_next, state_next, Right, Follows}
use Rattle.wait_cores.specs.declared.group.GroupEvent.{GroupEvent}
use Rattle.wait_cores.specs.declared.group.GroupEvent.TheVariants.{Add, Wait, Leave}
use Rattle.wait_cores.specs.declared.group.GroupPlace.{GroupPlace}
use Rattle.wait_cores.specs.declared.group.GroupPlace.TheVariants.{Out, Waiting, Released}
use Rattle.wait_cores.specs.declared.group.GroupReply.{GroupReply}
use Rattle.wait_cores.specs.declared.group.GroupReply.TheVariants.{Done, Queued, Misused, Still}
use Rattle.wait_cores.specs.GroupEdges.{group_releases, group_acquires}
use Rattle.wait_cores.specs.GroupMachine.{GroupState, next, made, added, within, released, wait_from, leave_from, callers_of, place_of}
use Rattle.run_record.specs.declared.entered.ObjectEvent.TheVariants as event
use Rattle.run_record.specs.declared.entered.ObjectReply.TheVariants as reply
use Rattle.run_record.specs.Edges.{takes}
use Rattle.run_record.specs.Parts.{lifted, lifted_deed}
use Rattle.run_record.specs.Record.{ObjectEntry}
use Rattle.run_record.specs.WaitGroupKind.{IsWaitGroupJournal, group_start}
use Rattle.run_record.specs.Waits.{IsOnGroup}
use Rattle.run_laws.proofs.EachOf.{Each}

-- a caller that isn't let go
abbrev IsHere : GroupPlace → Type 0
IsHere Out = Unit {0}
IsHere Waiting = Unit {0}
IsHere Released = ⊥

-- the counter is above 0, and nobody is let go
record Held (s : GroupState) : Type 0 where
  above : 0 < s.counter
  here : Each IsHere s.places

all_out : (callers : ℕ) → Each IsHere (replicate callers Out)
all_out zero = tt
all_out (suc callers) = (tt, all_out callers)

here_set : (places : List GroupPlace) (c : ℕ) → Each IsHere places → Each IsHere (slice_set places c Waiting)
here_set [] c here = tt
here_set (p ∷ places) zero here = (tt, here.1)
here_set (p ∷ places) (suc c) here = (here.0, here_set places c here.1)

here_at : (places : List GroupPlace) (c : ℕ) → Each IsHere places → IsHere (unwrap_or (slice_get places c) Out)
here_at [] c here = tt
here_at (p ∷ places) zero here = here.0
here_at (p ∷ places) (suc c) here = here_at places c here.1

-- after an event that isn't such an addition it is still so, and no wait returned by it
abbrev Stays : GroupEvent → GroupState × GroupReply → Type 0
Stays e (s, r) = group_releases e r ≡ false → Held s × (group_acquires e r ≡ false)

module _ (s : GroupState) (held : Held s) where
  not_zero : (n : ℕ) → 0 < n → (n == 0) ≡ false
  not_zero n above = ne_eqb n 0 (λ e. omega (arith, above, e))

  still : (e : GroupEvent) → Stays e (s, Still)
  still (Add delta) frees = (held, refl)
  still Wait frees = (held, refl)
  still Leave frees = (held, refl)

  by_sum : (delta : ℤ) (o : Option ℕ) → ((n : ℕ) → o ≡ Some n → group_releases (Add delta) Done ≡ false → 0 < n) → Stays (Add delta) (added o s)
  by_sum delta None above frees = (held, refl)
  by_sum delta (Some n) above frees =
      let more = above n refl frees in
      (record { above = more; here = subst (λ (b : Bool). Each IsHere (if b then map released s.places else s.places)) (sym (not_zero n more)) held.here }, refl)

  in_range : (sum n : ℕ) → within (pos sum) ≡ Some n → sum ≡ n
  in_range sum n is = chosen (nat_le sum (2 ^ 31 - 1)) is where
    chosen : (b : Bool) → (if b then Some sum else None) ≡ Some n → sum ≡ n
    chosen true e = same_Some sum n e
    chosen false e = absurd (none-some n e)

  add : (delta : ℤ) → Stays (Add delta) (added (within (pos s.counter +ℤ delta)) s)
  add (pos d) = by_sum (pos d) (within (pos s.counter +ℤ pos d)) (λ n is frees. let above = held.above in let e = in_range (s.counter + d) n is in omega (arith, above, e))
  add (negsuc d) = by_sum (negsuc d) (within (pos s.counter +ℤ negsuc d)) (λ n is frees. absurd (true≢false frees))

  wait : (c : ℕ) (p : GroupPlace) → Stays Wait (wait_from p s c)
  wait c Out = subst (λ (b : Bool). Stays Wait (if b then (s, Done) else (record s { places = slice_set s.places c Waiting }, Queued))) (sym (not_zero s.counter held.above))
      (λ frees. (record { above = held.above; here = here_set s.places c held.here }, refl))
  wait c Waiting = still Wait
  wait c Released = still Wait

  leave : (c : ℕ) (p : GroupPlace) → IsHere p → Stays Leave (leave_from p s c)
  leave c Out here = still Leave
  leave c Waiting here = still Leave
  leave c Released here = absurd here

  by_event : (c : ℕ) (e : GroupEvent) → Stays e (made s c e)
  by_event c (Add delta) = add delta
  by_event c Wait = wait c (place_of s c)
  by_event c Leave = leave c (place_of s c) (here_at s.places c held.here)

  stays : (c : ℕ) (e : GroupEvent) → Stays e (next s c e)
  stays c e = by_caller (nat_lt c (callers_of s)) where
    by_caller : (b : Bool) → Stays e (if b then made s c e else (s, Still))
    by_caller true = by_event c e
    by_caller false = still e

abbrev GroupEntry : Type 0
GroupEntry = Entry GroupEvent GroupReply

-- an event that ends a wait adds nothing
no_addition : (e : GroupEvent) (r : GroupReply) → group_acquires e r ≡ true → group_releases e r ≡ false
no_addition (Add delta) r is = absurd (false≢true is)
no_addition Wait r is = refl
no_addition Leave r is = refl

module _ (s : GroupState) (held : Held s) (h : Option Misuse) (c : ℕ) where
  not_yet : (d : Deed GroupEvent GroupReply) → Right next true s h c d → is_such group_acquires d ≡ true → ⊥
  not_yet (Event e r) (none, right) is =
      let given : group_acquires e (next s c e).1 ≡ true = subst (λ (x : GroupReply). group_acquires e x ≡ true) right is in
      true≢false (sym given ∙ (stays s held c e (no_addition e (next s c e).1 given)).1)
  not_yet (Refused e m) right is = false≢true is
  not_yet (Halt m) right is = false≢true is

  held_next : (d : Deed GroupEvent GroupReply) → Right next true s h c d → is_such group_releases d ≡ false → Held (state_next next s c d)
  held_next (Event e r) (none, right) is = (stays s held c e (subst (λ (x : GroupReply). group_releases e x ≡ false) right is)).0
  held_next (Refused e m) right is = held
  held_next (Halt m) right is = held

-- where it stands
abbrev AddedAt : List GroupEntry → ℕ → Type 0
AddedAt own n = (m : ℕ) × (x : GroupEntry) × (m < n) × (slice_get own m ≡ Some x) × (is_such group_releases x.deed ≡ true)

added_before : (s : GroupState) (h : Option Misuse) (own : List GroupEntry) (n : ℕ) (x : GroupEntry) → Held s → Follows next true s h own → slice_get own n ≡ Some x → is_such group_acquires x.deed ≡ true → AddedAt own n
added_before s h [] n x held follows at is = absurd (none-some x at)
added_before s h (y ∷ own) zero x held follows at is = absurd (not_yet s held h y.caller y.deed follows.0 (subst (λ (z : GroupEntry). is_such group_acquires z.deed ≡ true) (sym (same_Some y x at)) is))
added_before s h (y ∷ own) (suc n) x held follows at is = by_first (cases_Bool (is_such group_releases y.deed)) (λ on. added_before (state_next next s y.caller y.deed) (halt_next h y.deed) own n x on follows.1 at is) where
  by_first : (is_such group_releases y.deed ≡ true) ⊎ (is_such group_releases y.deed ≡ false) → (Held (state_next next s y.caller y.deed) → AddedAt own n) → AddedAt (y ∷ own) (suc n)
  by_first (inl here) on = (0, y, omega arith, refl, here)
  by_first (inr later) on = let there = on (held_next s held h y.caller y.deed follows.0 later) in let less = there.2 in (suc there.0, there.1, omega (arith, less), there.3, there.4)

below_zero : (d : Deed GroupEvent GroupReply) → is_such group_releases d ≡ true → (below : ℕ) × (d ≡ Event (Add (negsuc below)) Done)
below_zero (Event (Add (negsuc below)) Done) is = (below, refl)
below_zero (Event (Add (negsuc below)) Queued) is = absurd (false≢true is)
below_zero (Event (Add (negsuc below)) (Misused m)) is = absurd (false≢true is)
below_zero (Event (Add (negsuc below)) Still) is = absurd (false≢true is)
below_zero (Event (Add (pos delta)) r) is = absurd (false≢true is)
below_zero (Event Wait r) is = absurd (false≢true is)
below_zero (Event Leave r) is = absurd (false≢true is)
below_zero (Refused e m) is = absurd (false≢true is)
below_zero (Halt m) is = absurd (false≢true is)

-- the entry of whatever kind, and the one of the group that it is
abbrev on_group : GroupEntry → ObjectEntry
on_group entry = lifted event.WaitGroup reply.WaitGroup entry

from_group : (own : List GroupEntry) (n : ℕ) (x : ObjectEntry) → slice_get (map on_group own) n ≡ Some x → (y : GroupEntry) × (slice_get own n ≡ Some y) × (on_group y ≡ x)
from_group [] n x at = absurd (none-some x at)
from_group (y ∷ own) zero x at = (y, refl, same_Some (on_group y) x at)
from_group (y ∷ own) (suc n) x at = from_group own n x at

group_at : (own : List GroupEntry) (n : ℕ) (y : GroupEntry) → slice_get own n ≡ Some y → slice_get (map on_group own) n ≡ Some (on_group y)
group_at [] n y at = absurd (none-some y at)
group_at (x ∷ own) zero y at = ap (λ (z : GroupEntry). Some (on_group z)) (same_Some x y at)
group_at (x ∷ own) (suc n) y at = group_at own n y at

takes_in : (d : Deed GroupEvent GroupReply) → is_such takes (lifted_deed event.WaitGroup reply.WaitGroup d) ≡ is_such group_acquires d
takes_in (Event e r) = refl
takes_in (Refused e m) = refl
takes_in (Halt m) = refl

-- where such an addition stands, before this place of a group's journal
pub record DoneBefore (journal : List ObjectEntry) (n : ℕ) : Type 0 where
  pub place : ℕ
  pub entry : ObjectEntry
  pub below : ℕ
  pub before : place < n
  pub at : slice_get journal place ≡ Some entry
  pub adds : IsOnGroup (Add (negsuc below)) Done entry

in_journal : (journal : List ObjectEntry) (own : List GroupEntry) (n : ℕ) → journal ≡ map on_group own → AddedAt own n → DoneBefore journal n
in_journal journal own n are (m, x, before, at, releases) = by_deed (below_zero x.deed releases) where
  by_deed : (below : ℕ) × (x.deed ≡ Event (Add (negsuc below)) Done) → DoneBefore journal n
  by_deed (below, is) = record {
    place = m;
    entry = on_group x;
    below = below;
    before = before;
    at = subst (λ (l : List ObjectEntry). slice_get l m ≡ Some (on_group x)) (sym are) (group_at own m x at);
    adds = ap (lifted_deed event.WaitGroup reply.WaitGroup) is;
  }

pub done_before : (workers start : ℕ) (journal : List ObjectEntry) (n : ℕ) (returned : ObjectEntry) → 0 < start → IsWaitGroupJournal workers start journal → slice_get journal n ≡ Some returned → is_such takes returned.deed ≡ true → DoneBefore journal n
done_before workers start journal n returned above (own, are, follows, edges) at is =
    let x = from_group own n returned (subst (λ (l : List ObjectEntry). slice_get l n ≡ Some returned) are at) in
    let acquires : is_such group_acquires x.0.deed ≡ true = sym (takes_in x.0.deed) ∙ subst (λ (e : ObjectEntry). is_such takes e.deed ≡ true) (sym x.2) is in
    in_journal journal own n are (added_before (group_start workers start) None own n x.0 (record { above = above; here = all_out workers }) follows x.1 acquires)
