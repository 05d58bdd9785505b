-- What the events of a wait group use up.
use Rattle.std.proofs.Common.{◌≡◌, ℕ, zero, suc, ◌==◌, ◌+◌, ◌<◌, ◌≤◌, pos, ◌+ℤ◌, Bool, true, false, cond, List, [], ◌∷◌, length, map, get_or, set, Option, Some, None, refl, ap, ◌∙◌, arith}
use Rattle.std.specs.Prelude.{nat_lt, sum_by, unwrap_or}
use Rattle.std.specs.List.{slice_get}
use Rattle.std.proofs.lemmas.Bool.{ltb-true}
use Rattle.std.proofs.lemmas.List.Sums.{sum_by-cons, sum_by-set}
use Rattle.sync_types.specs.declared.misuse.Misuse.TheVariants.{WaitGroupReused}
use Rattle.wait_cores.specs.declared.group.GroupEvent.{GroupEvent}
use Rattle.wait_cores.specs.declared.group.GroupEvent.TheVariants.{Add, Wait, Leave}
use Rattle.wait_cores.specs.declared.group.GroupReply.{GroupReply}
use Rattle.wait_cores.specs.declared.group.GroupReply.TheVariants.{Done, Queued, Misused, Still}
use Rattle.wait_cores.specs.declared.group.GroupPlace.{GroupPlace}
use Rattle.wait_cores.specs.declared.group.GroupPlace.TheVariants.{Out, Waiting, Released}
use Rattle.wait_cores.specs.GroupMachine.{GroupState, next, is_reused, released, made, added, within, wait_from, leave_from, callers_of, place_of}
use Rattle.wait_cores.specs.GroupEventsLeft.{left_at, group_left, group_used, given_leaving, group_given}

abbrev UsesUp : GroupState → GroupEvent → GroupState × GroupReply → Type 0
UsesUp s event n = group_left n.0 + group_used n.1 ≤ group_left s + group_given event n.1

same_at : (place : GroupPlace) → left_at (released place) ≡ left_at place
same_at Out = refl
same_at Waiting = refl
same_at Released = refl

same_released : (places : List GroupPlace) → sum_by left_at (map released places) ≡ sum_by left_at places
same_released [] = refl
same_released (place ∷ places) =
    omega (arith, sum_by-cons left_at (released place) (map released places), sum_by-cons left_at place places, same_at place, same_released places)

same_if : (b : Bool) (places : List GroupPlace) → sum_by left_at (cond b (map released places) places) ≡ sum_by left_at places
same_if true places = same_released places
same_if false places = refl

stands_at : (places : List GroupPlace) (c : ℕ) → get_or places c Out ≡ unwrap_or (slice_get places c) Out
stands_at [] c = refl
stands_at (place ∷ places) zero = refl
stands_at (place ∷ places) (suc c) = stands_at places c

add_uses : (sum : Option ℕ) (s : GroupState) → group_left (added sum s).0 + group_used (added sum s).1 ≡ group_left s
add_uses (Some sum) s = omega (arith, same_if (sum == 0) s.places)
add_uses None s = omega arith

queue_uses : (b : Bool) (s : GroupState) (c : ℕ) → c < length s.places → place_of s c ≡ Out
    → let n : GroupState × GroupReply = cond {A = GroupState × GroupReply} b (s, Done) (record s { places = set s.places c Waiting }, Queued) in group_left n.0 + group_used n.1 ≤ group_left s
queue_uses true s c below out = omega arith
queue_uses false s c below out =
    let one : left_at (get_or s.places c Out) ≡ 1 = ap left_at (stands_at s.places c ∙ out) in
    omega (arith, sum_by-set left_at s.places c Waiting Out below, one)

wait_uses : (p : GroupPlace) (s : GroupState) (c : ℕ) → c < length s.places → place_of s c ≡ p → group_left (wait_from p s c).0 + group_used (wait_from p s c).1 ≤ group_left s
wait_uses Out s c below at = queue_uses (s.counter == 0) s c below at
wait_uses Waiting s c below at = omega arith
wait_uses Released s c below at = omega arith

nothing_used : (b : Bool) → (group_used (cond b (Misused WaitGroupReused) Done) ≡ 0) × (given_leaving (cond b (Misused WaitGroupReused) Done) ≡ 1)
nothing_used true = (refl, refl)
nothing_used false = (refl, refl)

leave_uses : (p : GroupPlace) (s : GroupState) (c : ℕ) → c < length s.places → UsesUp s Leave (leave_from p s c)
leave_uses Released s c below =
    let gives = nothing_used (is_reused s) in
    omega (arith, sum_by-set left_at s.places c Out Out below, gives.0, gives.1)
leave_uses Out s c below = omega arith
leave_uses Waiting s c below = omega arith

made_uses : (s : GroupState) (c : ℕ) (event : GroupEvent) → c < length s.places → UsesUp s event (made s c event)
made_uses s c (Add delta) below = omega (arith, add_uses (within (pos s.counter +ℤ delta)) s)
made_uses s c Wait below = omega (arith, wait_uses (place_of s c) s c below refl)
made_uses s c Leave below = leave_uses (place_of s c) s c below

if_uses : (b : Bool) (s : GroupState) (c : ℕ) (event : GroupEvent) → nat_lt c (callers_of s) ≡ b → UsesUp s event (cond b (made s c event) (s, Still))
if_uses true s c event below = made_uses s c event (ltb-true c (length s.places) below)
if_uses false s c event below = omega arith

pub next-uses : (s : GroupState) (c : ℕ) (event : GroupEvent) → UsesUp s event (next s c event)
next-uses s c event = if_uses (nat_lt c (callers_of s)) s c event refl
