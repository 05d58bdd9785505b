-- Which events are answered `Still`.
use Rattle.std.proofs.Common.{◌≡◌, ℕ, pos, ◌+ℤ◌, Bool, true, false, cond, ◌&&◌, ◌==◌, Option, Some, None, refl, sym}
use Rattle.std.specs.Prelude.{nat_lt, if◌then◌else◌, slice_get}
use Rattle.std.proofs.lemmas.Bool.{false≢true}
use Rattle.sync_types.specs.declared.misuse.Misuse.TheVariants.{WaitGroupReused}
use Rattle.wait_cores.specs.declared.group.GroupEvent.{GroupEvent}
use Rattle.wait_cores.specs.declared.group.GroupEvent.TheVariants as group_event
use Rattle.wait_cores.specs.declared.group.GroupReply.{GroupReply}
use Rattle.wait_cores.specs.declared.group.GroupReply.TheVariants as group_reply
use Rattle.wait_cores.specs.declared.group.GroupPlace.{GroupPlace}
use Rattle.wait_cores.specs.declared.group.GroupPlace.TheVariants as group_place
use Rattle.wait_cores.specs.GroupMachine as group
use Rattle.wait_cores.specs.GroupStanding as group_standing
use Rattle.wait_cores.specs.declared.notify.NotifyEvent.{NotifyEvent}
use Rattle.wait_cores.specs.declared.notify.NotifyEvent.TheVariants as notify_event
use Rattle.wait_cores.specs.declared.notify.NotifyReply.TheVariants as notify_reply
use Rattle.wait_cores.specs.declared.notify.NotifyPlace.{NotifyPlace}
use Rattle.wait_cores.specs.declared.notify.NotifyPlace.TheVariants as notify_place
use Rattle.wait_cores.specs.NotifyMachine as notify
use Rattle.wait_cores.specs.NotifyStanding as notify_standing
use Rattle.wait_cores.specs.declared.once.OnceEvent.{OnceEvent}
use Rattle.wait_cores.specs.declared.once.OnceEvent.TheVariants as once_event
use Rattle.wait_cores.specs.declared.once.OnceReply.{OnceReply}
use Rattle.wait_cores.specs.declared.once.OnceReply.TheVariants as once_reply
use Rattle.wait_cores.specs.declared.once.OncePlace.{OncePlace}
use Rattle.wait_cores.specs.declared.once.OncePlace.TheVariants as once_place
use Rattle.wait_cores.specs.declared.once.OnceProgress.{OnceProgress}
use Rattle.wait_cores.specs.declared.once.OnceProgress.TheVariants.{NotRun, Running, Ended}
use Rattle.wait_cores.specs.OnceMachine as once
use Rattle.wait_cores.specs.OnceStanding as once_standing

no : {A : Type 0} → false ≡ true → A
no e = absurd (false≢true e)

-- the wait group

added-made : (sum : Option ℕ) (s : group.GroupState) → (group.added sum s).1 ≡ group_reply.Still → ⊥
added-made (Some counter) s is = cc
added-made None s is = cc

queued-made : (b : Bool) (s t : group.GroupState) → (cond {A = group.GroupState × GroupReply} b (s, group_reply.Done) (t, group_reply.Queued)).1 ≡ group_reply.Still → ⊥
queued-made true s t is = cc
queued-made false s t is = cc

left-made : (b : Bool) → ◌≡◌ {A = GroupReply} (if b then group_reply.Misused WaitGroupReused else group_reply.Done) group_reply.Still → ⊥
left-made true is = cc
left-made false is = cc

wait-made : (p : GroupPlace) (s : group.GroupState) (c : ℕ) → group_standing.is_needed group_event.Wait p ≡ true → (group.wait_from p s c).1 ≡ group_reply.Still → ⊥
wait-made group_place.Out s c needed is = queued-made (s.counter == 0) s _ is
wait-made group_place.Waiting s c needed is = no needed
wait-made group_place.Released s c needed is = no needed

leave-made : (p : GroupPlace) (s : group.GroupState) (c : ℕ) → group_standing.is_needed group_event.Leave p ≡ true → (group.leave_from p s c).1 ≡ group_reply.Still → ⊥
leave-made group_place.Released s c needed is = left-made (group.is_reused s) is
leave-made group_place.Out s c needed is = no needed
leave-made group_place.Waiting s c needed is = no needed

pub group-made : (s : group.GroupState) (c : ℕ) (e : GroupEvent) → group_standing.may_make s c e ≡ true → (group.next s c e).1 ≡ group_reply.Still → ⊥
group-made s c e may = by_test (nat_lt c (group.callers_of s)) e may
  where
    by_test : (b : Bool) (e : GroupEvent) → (b && group_standing.is_needed e (group.place_of s c)) ≡ true → (if b then group.made s c e else (s, group_reply.Still)).1 ≡ group_reply.Still → ⊥
    by_test true (group_event.Add delta) may is = added-made (group.within (pos s.counter +ℤ delta)) s is
    by_test true group_event.Wait may is = wait-made (group.place_of s c) s c may is
    by_test true group_event.Leave may is = leave-made (group.place_of s c) s c may is
    by_test false e may is = no may

wait-unmade : (p : GroupPlace) (s : group.GroupState) (c : ℕ) → group_standing.is_needed group_event.Wait p ≡ false → group.wait_from p s c ≡ (s, group_reply.Still)
wait-unmade group_place.Out s c needed = no (sym needed)
wait-unmade group_place.Waiting s c needed = refl
wait-unmade group_place.Released s c needed = refl

leave-unmade : (p : GroupPlace) (s : group.GroupState) (c : ℕ) → group_standing.is_needed group_event.Leave p ≡ false → group.leave_from p s c ≡ (s, group_reply.Still)
leave-unmade group_place.Released s c needed = no (sym needed)
leave-unmade group_place.Out s c needed = refl
leave-unmade group_place.Waiting s c needed = refl

pub group-unmade : (s : group.GroupState) (c : ℕ) (e : GroupEvent) → group_standing.may_make s c e ≡ false → group.next s c e ≡ (s, group_reply.Still)
group-unmade s c e may = by_test (nat_lt c (group.callers_of s)) e may
  where
    by_test : (b : Bool) (e : GroupEvent) → (b && group_standing.is_needed e (group.place_of s c)) ≡ false → (if b then group.made s c e else (s, group_reply.Still)) ≡ (s, group_reply.Still)
    by_test true (group_event.Add delta) may = no (sym may)
    by_test true group_event.Wait may = wait-unmade (group.place_of s c) s c may
    by_test true group_event.Leave may = leave-unmade (group.place_of s c) s c may
    by_test false e may = refl

-- the cond

notified-made : (p : NotifyPlace) (s : notify.NotifyState) (c : ℕ) → notify_standing.is_needed notify_event.Leave p ≡ true → (notify.leave_from p s c).1 ≡ notify_reply.Still → ⊥
notified-made notify_place.Notified s c needed is = cc
notified-made notify_place.Out s c needed is = no needed
notified-made notify_place.Waiting s c needed is = no needed

pub notify-made : (s : notify.NotifyState) (c : ℕ) (e : NotifyEvent) → notify_standing.may_make s c e ≡ true → (notify.next s c e).1 ≡ notify_reply.Still → ⊥
notify-made s c e may = by_test (nat_lt c (notify.callers_of s)) e may
  where
    by_test : (b : Bool) (e : NotifyEvent) → (b && notify_standing.is_needed e (notify.place_of s c)) ≡ true → (if b then notify.made s c e else (s, notify_reply.Still)).1 ≡ notify_reply.Still → ⊥
    by_test true notify_event.Ticket may is = cc
    by_test true notify_event.Signal may is = cc
    by_test true notify_event.Broadcast may is = cc
    by_test true notify_event.Leave may is = notified-made (notify.place_of s c) s c may is
    by_test false e may is = no may

notified-unmade : (p : NotifyPlace) (s : notify.NotifyState) (c : ℕ) → notify_standing.is_needed notify_event.Leave p ≡ false → notify.leave_from p s c ≡ (s, notify_reply.Still)
notified-unmade notify_place.Notified s c needed = no (sym needed)
notified-unmade notify_place.Out s c needed = refl
notified-unmade notify_place.Waiting s c needed = refl

pub notify-unmade : (s : notify.NotifyState) (c : ℕ) (e : NotifyEvent) → notify_standing.may_make s c e ≡ false → notify.next s c e ≡ (s, notify_reply.Still)
notify-unmade s c e may = by_test (nat_lt c (notify.callers_of s)) e may
  where
    by_test : (b : Bool) (e : NotifyEvent) → (b && notify_standing.is_needed e (notify.place_of s c)) ≡ false → (if b then notify.made s c e else (s, notify_reply.Still)) ≡ (s, notify_reply.Still)
    by_test true notify_event.Ticket may = no (sym may)
    by_test true notify_event.Signal may = no (sym may)
    by_test true notify_event.Broadcast may = no (sym may)
    by_test true notify_event.Leave may = notified-unmade (notify.place_of s c) s c may
    by_test false e may = refl

-- the once

module _ {T : Type 0} where
  come-made : (progress : OnceProgress T) (s : once.OnceState T) (c : ℕ) → (once.come_to progress s c).1 ≡ once_reply.Still → ⊥
  come-made NotRun s c is = cc
  come-made (Running other) s c is = cc
  come-made (Ended kept) s c is = cc

  begin-made : (p : OncePlace) (s : once.OnceState T) (c : ℕ) (runs : Bool) → once_standing.is_needed {T = T} once_event.Begin p runs ≡ true → (once.begin_from p s c).1 ≡ once_reply.Still → ⊥
  begin-made once_place.Out s c runs needed is = come-made s.progress s c is
  begin-made once_place.Waiting s c runs needed is = no needed
  begin-made once_place.Released s c runs needed is = no needed

  end-made : (progress : OnceProgress T) (s : once.OnceState T) (c : ℕ) (kept : T) → once_standing.runs_in progress c ≡ true → (once.end_by (once.runner_in progress) s c kept).1 ≡ once_reply.Still → ⊥
  end-made NotRun s c kept runs is = no runs
  end-made (Running runner) s c kept runs is = by_test (runner == c) runs is
    where
      by_test : (b : Bool) → b ≡ true → (cond {A = once.OnceState T × OnceReply T} b (record s { progress = Ended kept }, once_reply.Ended) (s, once_reply.Still)).1 ≡ once_reply.Still → ⊥
      by_test true runs is = cc
      by_test false runs is = no runs
  end-made (Ended value) s c kept runs is = no runs

  leaving-made : (progress : OnceProgress T) (waits : Option Bool) (s : once.OnceState T) (c : ℕ) (runs : Bool) → once_standing.is_needed {T = T} once_event.Leave (once.place_in progress waits) runs ≡ true → (once.leave_with progress waits s c).1 ≡ once_reply.Still → ⊥
  leaving-made (Ended kept) (Some true) s c runs needed is = cc
  leaving-made (Ended kept) (Some false) s c runs needed is = no needed
  leaving-made (Ended kept) None s c runs needed is = no needed
  leaving-made NotRun (Some true) s c runs needed is = no needed
  leaving-made NotRun (Some false) s c runs needed is = no needed
  leaving-made NotRun None s c runs needed is = no needed
  leaving-made (Running other) (Some true) s c runs needed is = no needed
  leaving-made (Running other) (Some false) s c runs needed is = no needed
  leaving-made (Running other) None s c runs needed is = no needed

  pub once-made : (s : once.OnceState T) (c : ℕ) (e : OnceEvent T) → once_standing.may_make s c e ≡ true → (once.next s c e).1 ≡ once_reply.Still → ⊥
  once-made s c e may = by_test (nat_lt c (once.callers_of s)) e may
    where
      by_test : (b : Bool) (e : OnceEvent T) → (b && once_standing.is_needed e (once.place_of s c) (once_standing.runs_at s c)) ≡ true → (if b then once.made s c e else (s, once_reply.Still)).1 ≡ once_reply.Still → ⊥
      by_test true once_event.Begin may is = begin-made (once.place_of s c) s c (once_standing.runs_at s c) may is
      by_test true (once_event.End kept) may is = end-made s.progress s c kept may is
      by_test true once_event.Leave may is = leaving-made s.progress (slice_get s.waits c) s c (once_standing.runs_at s c) may is
      by_test false e may is = no may

  begin-unmade : (p : OncePlace) (s : once.OnceState T) (c : ℕ) (runs : Bool) → once_standing.is_needed {T = T} once_event.Begin p runs ≡ false → once.begin_from p s c ≡ (s, once_reply.Still)
  begin-unmade once_place.Out s c runs needed = no (sym needed)
  begin-unmade once_place.Waiting s c runs needed = refl
  begin-unmade once_place.Released s c runs needed = refl

  end-unmade : (progress : OnceProgress T) (s : once.OnceState T) (c : ℕ) (kept : T) → once_standing.runs_in progress c ≡ false → once.end_by (once.runner_in progress) s c kept ≡ (s, once_reply.Still)
  end-unmade NotRun s c kept runs = refl
  end-unmade (Running runner) s c kept runs = rw runs refl
  end-unmade (Ended value) s c kept runs = refl

  leaving-unmade : (progress : OnceProgress T) (waits : Option Bool) (s : once.OnceState T) (c : ℕ) (runs : Bool) → once_standing.is_needed {T = T} once_event.Leave (once.place_in progress waits) runs ≡ false → once.leave_with progress waits s c ≡ (s, once_reply.Still)
  leaving-unmade (Ended kept) (Some true) s c runs needed = no (sym needed)
  leaving-unmade (Ended kept) (Some false) s c runs needed = refl
  leaving-unmade (Ended kept) None s c runs needed = refl
  leaving-unmade NotRun waits s c runs needed = refl
  leaving-unmade (Running other) waits s c runs needed = refl

  pub once-unmade : (s : once.OnceState T) (c : ℕ) (e : OnceEvent T) → once_standing.may_make s c e ≡ false → once.next s c e ≡ (s, once_reply.Still)
  once-unmade s c e may = by_test (nat_lt c (once.callers_of s)) e may
    where
      by_test : (b : Bool) (e : OnceEvent T) → (b && once_standing.is_needed e (once.place_of s c) (once_standing.runs_at s c)) ≡ false → (if b then once.made s c e else (s, once_reply.Still)) ≡ (s, once_reply.Still)
      by_test true once_event.Begin may = begin-unmade (once.place_of s c) s c (once_standing.runs_at s c) may
      by_test true (once_event.End kept) may = end-unmade s.progress s c kept may
      by_test true once_event.Leave may = leaving-unmade s.progress (slice_get s.waits c) s c (once_standing.runs_at s c) may
      by_test false e may = refl
