-- Each return stands behind what unblocked it, which releases.
use Rattle.std.proofs.Common.{◌≡◌, ◌≢◌, inl, inr, ℕ, ◌==◌, ◌+◌, ◌<◌, ◌≤◌, pos, negsuc, ◌+ℤ◌, Bool, true, false, cond, List, [], ◌∷◌, ◌++◌, set, Option, Some, None, refl, sym, ap, ◌∙◌, subst, arith}
use Rattle.std.specs.Prelude.{nat_lt, ◌||◌}
use Rattle.std.specs.List.{list_any, count_by}
use Rattle.std.specs.Option.{option_or}
use Rattle.std.proofs.lemmas.Bool.Decides.{nat_tests}
use Rattle.std.proofs.lemmas.List.Folds.{list_any-append}
use Rattle.std.proofs.lemmas.List.Sums.{sum_by-cons}
use Rattle.wait_cores.specs.declared.notify.NotifyEvent.{NotifyEvent}
use Rattle.wait_cores.specs.declared.notify.NotifyEvent.TheVariants as notify
use Rattle.wait_cores.specs.declared.notify.NotifyReply.{NotifyReply}
use Rattle.wait_cores.specs.declared.notify.NotifyReply.TheVariants as notified
use Rattle.wait_cores.specs.declared.group.GroupEvent.{GroupEvent}
use Rattle.wait_cores.specs.declared.group.GroupEvent.TheVariants as group
use Rattle.wait_cores.specs.declared.group.GroupReply.{GroupReply}
use Rattle.wait_cores.specs.declared.group.GroupReply.TheVariants as grouped
use Rattle.wait_cores.specs.declared.group.GroupPlace.{GroupPlace}
use Rattle.wait_cores.specs.declared.group.GroupPlace.TheVariants.{Out, Waiting, Released}
use Rattle.wait_cores.specs.declared.once.OnceEvent.{OnceEvent}
use Rattle.wait_cores.specs.declared.once.OnceEvent.TheVariants as once
use Rattle.wait_cores.specs.declared.once.OnceReply.{OnceReply}
use Rattle.wait_cores.specs.declared.once.OnceReply.TheVariants as onced
use Rattle.sync_types.specs.declared.misuse.Misuse.{Misuse}
use Rattle.sync_model.specs.Log.{Entry, entry, after, Follows}
use Rattle.wait_cores.specs.NotifyMachine as cond_machine
use Rattle.wait_cores.specs.GroupMachine.{GroupState, next, callers_of, place_of, wait_from}
use Rattle.wait_cores.specs.OnceMachine as once_machine
use Rattle.wait_cores.specs.NotifyEdges.{notify_releases, notify_acquires}
use Rattle.wait_cores.specs.GroupEdges.{group_releases, group_acquires}
use Rattle.wait_cores.specs.OnceEdges.{once_releases, once_acquires}
use Rattle.wait_cores.specs.NotifyLaws.{NotifiesAfter, is_signal_of, is_broadcast_of, is_signal, is_broadcast, pending_of}
use Rattle.wait_cores.specs.NotifyLaws as cond_laws
use Rattle.wait_cores.specs.GroupLaws.{Log, WasZero, added_in}
use Rattle.wait_cores.specs.OnceLaws.{returned_in, kept_in, kept_by}
use Rattle.wait_cores.specs.OnceLaws as once_laws
use Rattle.wait_cores.proofs.GroupCounts.{counts}
use Rattle.wait_cores.proofs.GroupLemmas.{waits_for_zero}
use Rattle.wait_cores.proofs.LogParts.{ComesApart}
use Rattle.wait_cores.proofs.NotifyLemmas.{leaves_when_notified}
use Rattle.wait_cores.proofs.OnceLemmas.{returns_what_is_kept}

or_right : (a b : Bool) → b ≡ true → (a || b) ≡ true
or_right true b h = refl
or_right false b h = h

or_left : (a b : Bool) → a ≡ true → (a || b) ≡ true
or_left true b h = refl
or_left false b h = cc

or_both : (a b : Bool) → (a || b) ≡ false → (a ≡ false) × (b ≡ false)
or_both true b h = cc
or_both false b h = (refl, h)

abbrev one_if : Bool → ℕ
one_if b = cond b 1 0

module _ {A : Type 0} where
  any_more : (p q : A → Bool) → ((x : A) → p x ≡ true → q x ≡ true) → (xs : List A) → list_any p xs ≡ true → list_any q xs ≡ true
  any_more p q more [] h = h
  any_more p q more (x ∷ xs) h = by_first (p x) refl h (any_more p q more xs) where
    by_first : (b : Bool) → p x ≡ b → (b || list_any p xs) ≡ true → (list_any p xs ≡ true → list_any q xs ≡ true) → (q x || list_any q xs) ≡ true
    by_first true is any later = or_left (q x) (list_any q xs) (more x is)
    by_first false is any later = or_right (q x) (list_any q xs) (later any)

  any_counted : (p : A → Bool) (xs : List A) → 0 < count_by p xs → list_any p xs ≡ true
  any_counted p [] h = absurd (omega (arith, h))
  any_counted p (x ∷ xs) h = by_first (p x) refl (any_counted p xs) where
    split : count_by p (x ∷ xs) ≡ one_if (p x) + count_by p xs
    split = sum_by-cons (λ y. one_if (p y)) x xs

    by_first : (b : Bool) → p x ≡ b → (0 < count_by p xs → list_any p xs ≡ true) → (b || list_any p xs) ≡ true
    by_first true is later = refl
    by_first false is later = let none : one_if (p x) ≡ 0 = ap one_if is in later (omega (arith, h, split, none))

-- ---- the cond

abbrev frees : cond_laws.NotifyEntry → Bool
frees e = notify_releases e.event e.reply

broadcast_frees : (event : NotifyEvent) (reply : NotifyReply) → is_broadcast_of event reply ≡ true → notify_releases event reply ≡ true
broadcast_frees notify.Broadcast notified.Done h = refl
broadcast_frees notify.Broadcast notified.Still h = h
broadcast_frees notify.Ticket reply h = cc
broadcast_frees notify.Signal reply h = cc
broadcast_frees notify.Leave reply h = cc

signal_frees : (event : NotifyEvent) (reply : NotifyReply) → is_signal_of event reply ≡ true → notify_releases event reply ≡ true
signal_frees notify.Signal notified.Done h = refl
signal_frees notify.Signal notified.Still h = h
signal_frees notify.Ticket reply h = cc
signal_frees notify.Broadcast reply h = cc
signal_frees notify.Leave reply h = cc

notified_by_release : (pending : ℕ) (log : cond_laws.Log) → NotifiesAfter pending log → list_any frees log ≡ true
notified_by_release pending log (inl any) = any_more is_broadcast frees (λ e. broadcast_frees e.event e.reply) log any
notified_by_release pending log (inr enough) = any_more is_signal frees (λ e. signal_frees e.event e.reply) log (any_counted is_signal log (omega (arith, enough)))

pub cond-synchronizes : ComesApart cond_machine.next → (callers : ℕ) (before between rest : cond_laws.Log) (c : ℕ)
    → Follows cond_machine.next (cond_machine.start callers) (before ++ entry c notify.Ticket notified.Done ∷ (between ++ entry c notify.Leave notified.Done ∷ rest))
    → list_any (λ e. notify_releases e.event e.reply) between ≡ true
cond-synchronizes apart callers before between rest c h =
    notified_by_release (pending_of (after cond_machine.next (cond_machine.start callers) before)) between (leaves_when_notified apart callers before between rest c h)

pub cond-unmoved : (event : NotifyEvent) → (notify_releases event notified.Still ≡ false) × (notify_acquires event notified.Still ≡ false)
cond-unmoved notify.Ticket = (refl, refl)
cond-unmoved notify.Signal = (refl, refl)
cond-unmoved notify.Broadcast = (refl, refl)
cond-unmoved notify.Leave = (refl, refl)

-- ---- the wait group

-- an event that doesn't release takes nothing from the counter
adds_only : (event : GroupEvent) (reply : GroupReply) → group_releases event reply ≡ false → (k : ℕ) × (added_in event reply ≡ pos k)
adds_only (group.Add (pos k)) grouped.Done h = (k, refl)
adds_only (group.Add (negsuc k)) grouped.Done h = cc
adds_only (group.Add delta) grouped.Queued h = (0, refl)
adds_only (group.Add delta) (grouped.Misused misuse) h = (0, refl)
adds_only (group.Add delta) grouped.Still h = (0, refl)
adds_only group.Wait reply h = (0, refl)
adds_only group.Leave reply h = (0, refl)

risen : (m n k : ℕ) → pos m ≡ pos n +ℤ pos k → n ≤ m
risen m n k h = let same : m ≡ n + k = cc in omega (arith, same)

-- without a release the counter doesn't fall
no_fall : (s : GroupState) (log : Log) → Follows next s log → list_any (λ e. group_releases e.event e.reply) log ≡ false → s.counter ≤ (after next s log).counter
no_fall s [] h none = omega arith
no_fall s (e ∷ log) h none =
    let s' : GroupState = (next s e.caller e.event).0 in
    let none_of = or_both (group_releases e.event e.reply) (list_any (λ x. group_releases x.event x.reply) log) none in
    let up = adds_only e.event e.reply none_of.0 in
    let sum : pos s'.counter ≡ pos s.counter +ℤ added_in e.event e.reply =
    (counts s e.caller e.event).sum ∙ ap (λ (r : GroupReply). pos s.counter +ℤ added_in e.event r) h.0 in
    let here : s.counter ≤ s'.counter = risen s'.counter s.counter up.0 (sum ∙ ap (λ k. pos s.counter +ℤ k) up.1) in
    let rest : s'.counter ≤ (after next s' log).counter = no_fall s' log h.1 none_of.1 in
    omega (arith, here, rest)

queue_counts : (b : Bool) (s a : GroupState) → (s.counter == 0) ≡ b → a.counter ≡ s.counter → (cond {A = GroupState × GroupReply} b (s, grouped.Done) (a, grouped.Queued)).1 ≡ grouped.Queued
    → (cond {A = GroupState × GroupReply} b (s, grouped.Done) (a, grouped.Queued)).0.counter ≢ 0
queue_counts true s a is same h = cc
queue_counts false s a is same h = λ zero_is. (let e : s.counter ≡ 0 = sym same ∙ zero_is in let yes : (s.counter == 0) ≡ true = grind (arith, nat_tests) in cc)

wait_counts : (p : GroupPlace) (s : GroupState) (c : ℕ) → (wait_from p s c).1 ≡ grouped.Queued → (wait_from p s c).0.counter ≢ 0
wait_counts Out s c h = queue_counts (s.counter == 0) s (record s { places = set s.places c Waiting }) refl refl h
wait_counts Waiting s c h = cc
wait_counts Released s c h = cc

-- whoever was queued found a counter that isn't 0
queued_counts : (b : Bool) (s : GroupState) (c : ℕ) → (cond b (wait_from (place_of s c) s c) (s, grouped.Still)).1 ≡ grouped.Queued
    → (cond b (wait_from (place_of s c) s c) (s, grouped.Still)).0.counter ≢ 0
queued_counts true s c h = wait_counts (place_of s c) s c h
queued_counts false s c h = cc

pub group-synchronizes : ComesApart next → (s : GroupState) (c : ℕ) (between rest : Log) (reply : GroupReply) → reply ≢ grouped.Still
    → Follows next s (entry c group.Wait grouped.Queued ∷ (between ++ entry c group.Leave reply ∷ rest))
    → list_any (λ e. group_releases e.event e.reply) between ≡ true
group-synchronizes apart s c between rest reply ne h = by_test (list_any releases zero.done) refl where
  releases : Entry GroupEvent GroupReply → Bool
  releases e = group_releases e.event e.reply

  first : GroupState
  first = (next s c group.Wait).0

  zero : WasZero first between
  zero = waits_for_zero apart s c between rest reply ne h

  follows : Follows next first zero.done
  follows = (apart first zero.done zero.left (subst (Follows next first) zero.parts (apart first between (entry c group.Leave reply ∷ rest) h.1).0)).0

  by_test : (b : Bool) → list_any releases zero.done ≡ b → list_any releases between ≡ true
  by_test true any =
      ap (list_any releases) zero.parts ∙ list_any-append releases zero.done zero.left ∙ or_left (list_any releases zero.done) (list_any releases zero.left) any
  by_test false none =
      let low : first.counter ≤ (after next first zero.done).counter = no_fall first zero.done follows none in
      absurd (queued_counts (nat_lt c (callers_of s)) s c h.0 (omega (arith, low, zero.zero_then)))

-- an event that is answered so neither releases nor acquires
abbrev DoesNeither : GroupEvent → GroupReply → Type 0
DoesNeither event reply = (group_releases event reply ≡ false) × (group_acquires event reply ≡ false)

pub group-unmoved : (event : GroupEvent) → DoesNeither event grouped.Still
group-unmoved (group.Add (pos k)) = (refl, refl)
group-unmoved (group.Add (negsuc k)) = (refl, refl)
group-unmoved group.Wait = (refl, refl)
group-unmoved group.Leave = (refl, refl)

pub group-misused : (event : GroupEvent) (misuse : Misuse) → DoesNeither event (grouped.Misused misuse)
group-misused (group.Add (pos k)) misuse = (refl, refl)
group-misused (group.Add (negsuc k)) misuse = (refl, refl)
group-misused group.Wait misuse = (refl, refl)
group-misused group.Leave misuse = (refl, refl)

-- ---- the once

module _ {T : Type 0} where
  ended_releases : (event : OnceEvent T) (reply : OnceReply T) (x : T) → kept_in event reply ≡ Some x → once_releases event reply ≡ true
  ended_releases (once.End value) onced.Ended x h = refl
  ended_releases (once.End value) onced.Run x h = cc
  ended_releases (once.End value) onced.Queued x h = cc
  ended_releases (once.End value) (onced.Done kept) x h = cc
  ended_releases (once.End value) (onced.Left kept) x h = cc
  ended_releases (once.End value) onced.Still x h = cc
  ended_releases once.Begin reply x h = cc
  ended_releases once.Leave reply x h = cc

  kept_released : (log : once_laws.Log T) (value : T) → kept_by log ≡ Some value → list_any (λ e. once_releases e.event e.reply) log ≡ true
  kept_released [] value h = cc
  kept_released (e ∷ log) value h = by_first (kept_in e.event e.reply) refl h (kept_released log value) where
    by_first : (o : Option T) → kept_in e.event e.reply ≡ o → option_or o (kept_by log) ≡ Some value
        → (kept_by log ≡ Some value → list_any (λ x. once_releases x.event x.reply) log ≡ true) → (once_releases e.event e.reply || list_any (λ x. once_releases x.event x.reply) log) ≡ true
    by_first (Some x) is same later = or_left (once_releases e.event e.reply) _ (ended_releases e.event e.reply x is)
    by_first None is same later = or_right (once_releases e.event e.reply) _ (later same)

  returned_acquires : (event : OnceEvent T) (reply : OnceReply T) (value : T) → returned_in reply ≡ Some value → once_acquires event reply ≡ true
  returned_acquires event (onced.Done kept) value h = refl
  returned_acquires event (onced.Left kept) value h = refl
  returned_acquires event onced.Run value h = cc
  returned_acquires event onced.Queued value h = cc
  returned_acquires event onced.Ended value h = cc
  returned_acquires event onced.Still value h = cc

  pub once-synchronizes : ComesApart (once_machine.next {T = T}) → (callers : ℕ) (before rest : once_laws.Log T) (e : once_laws.OnceEntry T) (value : T) → Follows once_machine.next (once_machine.start callers) (before ++ e ∷ rest)
      → returned_in e.reply ≡ Some value → list_any (λ x. once_releases x.event x.reply) before ≡ true
  once-synchronizes apart callers before rest e value h returned = kept_released before value (returns_what_is_kept apart callers before rest e value h returned)

  pub once-acquires : (e : once_laws.OnceEntry T) (value : T) → returned_in e.reply ≡ Some value → once_acquires e.event e.reply ≡ true
  once-acquires e value = returned_acquires e.event e.reply value

  pub once-unmoved : (event : OnceEvent T) → (once_releases event onced.Still ≡ false) × (once_acquires event onced.Still ≡ false)
  once-unmoved event = (refl, refl)
