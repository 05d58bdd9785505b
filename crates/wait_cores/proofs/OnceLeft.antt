-- What the events of a once use up.
use Rattle.std.proofs.Common.{◌≡◌, ℕ, zero, suc, ◌==◌, ◌+◌, ◌<◌, ◌≤◌, Bool, true, false, cond, List, [], ◌∷◌, length, get_or, Option, Some, None, refl, ap, arith}
use Rattle.std.specs.Prelude.{nat_lt}
use Rattle.std.specs.List.{slice_get}
use Rattle.std.proofs.lemmas.Bool.{ltb-true}
use Rattle.std.proofs.lemmas.List.Sums.{sum_by-set}
use Rattle.std.proofs.lemmas.Option.{get_or_from_slice_get}
use Rattle.wait_cores.specs.declared.once.OnceEvent.{OnceEvent}
use Rattle.wait_cores.specs.declared.once.OnceEvent.TheVariants.{Begin, End, Leave}
use Rattle.wait_cores.specs.declared.once.OnceReply.{OnceReply}
use Rattle.wait_cores.specs.declared.once.OnceReply.TheVariants as reply
use Rattle.wait_cores.specs.declared.once.OnceProgress.{OnceProgress}
use Rattle.wait_cores.specs.declared.once.OnceProgress.TheVariants.{NotRun, Running, Ended}
use Rattle.wait_cores.specs.declared.once.OncePlace.{OncePlace}
use Rattle.wait_cores.specs.declared.once.OncePlace.TheVariants.{Out, Waiting, Released}
use Rattle.wait_cores.specs.OnceMachine.{OnceState, next, made, begin_from, come_to, end_by, leave_with, callers_of, place_of, place_in, waiting_in, runner_in}
use Rattle.wait_cores.specs.OnceEventsLeft.{left_by, left_in, once_left, once_used, once_given}

module _ {T : Type 0} where
  abbrev UsesUp : OnceState T → OnceState T × OnceReply T → Type 0
  UsesUp s n = once_left n.0 + once_used n.1 ≤ once_left s + once_given n.1

  no_place_out : (p : OnceProgress T) → waiting_in p ≡ Out → ⊥
  no_place_out NotRun is = cc
  no_place_out (Running other) is = cc
  no_place_out (Ended kept) is = cc

  -- one that is out doesn't wait
  waits_not : (o : Option Bool) (p : OnceProgress T) (waits : List Bool) (c : ℕ) → slice_get waits c ≡ o → c < length waits → place_in p o ≡ Out → left_by (get_or waits c false) ≡ 1
  waits_not (Some true) p waits c at below out = absurd (no_place_out p out)
  waits_not (Some false) p waits c at below out = ap left_by (get_or_from_slice_get waits c false false at)
  waits_not None p [] c at below out = refl
  waits_not None p (w ∷ waits) zero at below out = absurd cc
  waits_not None p (w ∷ waits) (suc c) at below out = waits_not None p waits c at (omega (arith, below)) out

  come_uses : (p : OnceProgress T) (s : OnceState T) (c : ℕ) → s.progress ≡ p → c < length s.waits → left_by (get_or s.waits c false) ≡ 1 → UsesUp s (come_to p s c)
  come_uses NotRun s c is below one = omega (arith, ap left_in is)
  come_uses (Running other) s c is below one = omega (arith, sum_by-set left_by s.waits c true false below, one)
  come_uses (Ended kept) s c is below one = omega arith

  begin_uses : (p : OncePlace) (s : OnceState T) (c : ℕ) → place_of s c ≡ p → c < length s.waits → UsesUp s (begin_from p s c)
  begin_uses Out s c at below = come_uses s.progress s c refl below (waits_not (slice_get s.waits c) s.progress s.waits c refl below at)
  begin_uses Waiting s c at below = omega arith
  begin_uses Released s c at below = omega arith

  ended_uses : (b : Bool) (s : OnceState T) (kept : T) → UsesUp s (cond {A = OnceState T × OnceReply T} b (record s { progress = Ended kept }, reply.Ended) (s, reply.Still))
  ended_uses true s kept = omega arith
  ended_uses false s kept = omega arith

  end_uses : (o : Option ℕ) (s : OnceState T) (c : ℕ) (kept : T) → UsesUp s (end_by o s c kept)
  end_uses (Some runner) s c kept = ended_uses (runner == c) s kept
  end_uses None s c kept = omega arith

  leave_uses : (p : OnceProgress T) (o : Option Bool) (s : OnceState T) (c : ℕ) → c < length s.waits → UsesUp s (leave_with p o s c)
  leave_uses (Ended kept) (Some true) s c below = omega (arith, sum_by-set left_by s.waits c false false below)
  leave_uses (Ended kept) (Some false) s c below = omega arith
  leave_uses (Ended kept) None s c below = omega arith
  leave_uses NotRun o s c below = omega arith
  leave_uses (Running other) o s c below = omega arith

  made_uses : (s : OnceState T) (c : ℕ) (event : OnceEvent T) → c < length s.waits → UsesUp s (made s c event)
  made_uses s c Begin below = begin_uses (place_of s c) s c refl below
  made_uses s c (End kept) below = end_uses (runner_in s.progress) s c kept
  made_uses s c Leave below = leave_uses s.progress (slice_get s.waits c) s c below

  if_uses : (b : Bool) (s : OnceState T) (c : ℕ) (event : OnceEvent T) → nat_lt c (callers_of s) ≡ b → UsesUp s (cond b (made s c event) (s, reply.Still))
  if_uses true s c event below = made_uses s c event (ltb-true c (length s.waits) below)
  if_uses false s c event below = omega arith

  pub next-uses : (s : OnceState T) (c : ℕ) (event : OnceEvent T) → UsesUp s (next s c event)
  next-uses s c event = if_uses (nat_lt c (callers_of s)) s c event refl
