-- The counter of a wait group is the sum of the additions.
use Rattle.std.proofs.Common.{◌≡◌, ℕ, ◌==◌, ◌≤◌, ◌^◌, ◌-◌, ℤ, pos, negsuc, ◌+ℤ◌, Bool, true, false, cond, [], ◌∷◌, set, Option, Some, None, refl, sym, ap, ◌∙◌, arith}
use Rattle.std.specs.Prelude.{nat_lt, nat_le}
use Rattle.std.proofs.Math.IntN.{+ℤ_assoc, +ℤ_idl, +ℤ_idr}
use Rattle.std.proofs.lemmas.Bool.Decides.{nat_tests}
use Rattle.wait_cores.specs.declared.group.GroupEvent.{GroupEvent}
use Rattle.wait_cores.specs.declared.group.GroupEvent.TheVariants.{Add, Wait, Leave}
use Rattle.wait_cores.specs.declared.group.GroupReply.{GroupReply}
use Rattle.wait_cores.specs.declared.group.GroupReply.TheVariants.{Done, Queued, Still}
use Rattle.wait_cores.specs.declared.group.GroupPlace.{GroupPlace}
use Rattle.wait_cores.specs.declared.group.GroupPlace.TheVariants.{Out, Waiting, Released}
use Rattle.sync_model.specs.Log.{after, Follows}
use Rattle.wait_cores.specs.GroupMachine.{GroupState, start, next, made, added, within, wait_from, leave_from, callers_of, place_of}
use Rattle.wait_cores.specs.GroupLaws.{Log, added_in, additions}

-- what an event adds to the counter, which stays in its range
pub record Counts (s : GroupState) (event : GroupEvent) (n : GroupState × GroupReply) : Type 0 where
  pub sum : pos n.0.counter ≡ pos s.counter +ℤ added_in event n.1
  pub range : s.counter ≤ 2 ^ 31 - 1 → n.0.counter ≤ 2 ^ 31 - 1

nothing_added : (event : GroupEvent) → added_in event Still ≡ pos 0
nothing_added (Add delta) = refl
nothing_added Wait = refl
nothing_added Leave = refl

counts_still : (s : GroupState) (event : GroupEvent) → Counts s event (s, Still)
counts_still s event = record { sum = sym (ap (λ (k : ℤ). pos s.counter +ℤ k) (nothing_added event) ∙ +ℤ_idr (pos s.counter)); range = λ h. h }

is_sum : (z : ℤ) (n : ℕ) → within z ≡ Some n → (z ≡ pos n) × (n ≤ 2 ^ 31 - 1)
is_sum (negsuc below) n h = cc
is_sum (pos sum) n h = by_test (nat_le sum (2 ^ 31 - 1)) (at_most sum) h where
  at_most : (m : ℕ) → nat_le m (2 ^ 31 - 1) ≡ true → m ≤ 2 ^ 31 - 1
  at_most m is = grind (arith, nat_tests)

  by_test : (b : Bool) → (b ≡ true → sum ≤ 2 ^ 31 - 1) → cond b (Some sum) None ≡ Some n → (pos sum ≡ pos n) × (n ≤ 2 ^ 31 - 1)
  by_test true few same = let f = few refl in let e : sum ≡ n = cc in (cc, omega arith)
  by_test false few same = cc

counts_add : (o : Option ℕ) (s : GroupState) (delta : ℤ) → within (pos s.counter +ℤ delta) ≡ o → Counts s (Add delta) (added o s)
counts_add (Some sum) s delta is = let found = is_sum (pos s.counter +ℤ delta) sum is in record { sum = sym found.0; range = λ h. found.1 }
counts_add None s delta is = record { sum = sym (+ℤ_idr (pos s.counter)); range = λ h. h }

counts_queue : (b : Bool) (s a : GroupState) → a.counter ≡ s.counter → Counts s Wait (cond {A = GroupState × GroupReply} b (s, Done) (a, Queued))
counts_queue true s a same = record { sum = sym (+ℤ_idr (pos s.counter)); range = λ h. h }
counts_queue false s a same = record { sum = ap pos same ∙ sym (+ℤ_idr (pos s.counter)); range = λ h. omega arith }

counts_wait : (p : GroupPlace) (s : GroupState) (d : ℕ) → Counts s Wait (wait_from p s d)
counts_wait Out s d = counts_queue (s.counter == 0) s (record s { places = set s.places d Waiting }) refl
counts_wait Waiting s d = counts_still s Wait
counts_wait Released s d = counts_still s Wait

counts_leave : (p : GroupPlace) (s : GroupState) (d : ℕ) → Counts s Leave (leave_from p s d)
counts_leave Released s d = record { sum = sym (+ℤ_idr (pos s.counter)); range = λ h. h }
counts_leave Out s d = counts_still s Leave
counts_leave Waiting s d = counts_still s Leave

counts_made : (s : GroupState) (d : ℕ) (event : GroupEvent) → Counts s event (made s d event)
counts_made s d (Add delta) = counts_add (within (pos s.counter +ℤ delta)) s delta refl
counts_made s d Wait = counts_wait (place_of s d) s d
counts_made s d Leave = counts_leave (place_of s d) s d

counts_if : (b : Bool) (s : GroupState) (d : ℕ) (event : GroupEvent) → Counts s event (cond b (made s d event) (s, Still))
counts_if true s d event = counts_made s d event
counts_if false s d event = counts_still s event

pub counts : (s : GroupState) (d : ℕ) (event : GroupEvent) → Counts s event (next s d event)
counts s d event = counts_if (nat_lt d (callers_of s)) s d event

counts_from : (s : GroupState) (log : Log) → Follows next s log → pos (after next s log).counter ≡ pos s.counter +ℤ additions log
counts_from s [] h = sym (+ℤ_idr (pos s.counter))
counts_from s (e ∷ log) h =
    let s' : GroupState = (next s e.caller e.event).0 in
    let here : pos s'.counter ≡ pos s.counter +ℤ added_in e.event e.reply =
    (counts s e.caller e.event).sum ∙ ap (λ (r : GroupReply). pos s.counter +ℤ added_in e.event r) h.0 in
    counts_from s' log h.1 ∙ ap (λ (k : ℤ). k +ℤ additions log) here ∙ +ℤ_assoc (pos s.counter) (added_in e.event e.reply) (additions log)

in_range : (s : GroupState) (log : Log) → s.counter ≤ 2 ^ 31 - 1 → (after next s log).counter ≤ 2 ^ 31 - 1
in_range s [] h = h
in_range s (e ∷ log) h = in_range (next s e.caller e.event).0 log ((counts s e.caller e.event).range h)

pub counts-additions : (callers : ℕ) (log : Log) → Follows next (start callers) log → pos (after next (start callers) log).counter ≡ additions log
counts-additions callers log h = counts_from (start callers) log h ∙ +ℤ_idl (additions log)

pub stays-in_range : (callers : ℕ) (log : Log) → (after next (start callers) log).counter ≤ 2 ^ 31 - 1
stays-in_range callers log = in_range (start callers) log (omega arith)
