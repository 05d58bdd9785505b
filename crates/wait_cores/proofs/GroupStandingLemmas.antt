-- Each event lets its own caller in or out, and nobody else.
use Rattle.std.proofs.Common.{◌≡◌, ◌≢◌, ℕ, zero, suc, ◌==◌, ◌<◌, pos, ◌+ℤ◌, Bool, true, false, cond, List, [], ◌∷◌, length, map, replicate, set, Option, Some, None, refl, sym, ap, ◌∙◌, length-set}
use Rattle.std.specs.Prelude.{nat_lt, unwrap_or}
use Rattle.std.specs.List.{slice_get}
use Rattle.std.proofs.lemmas.Bool.{ltb-true, lt-ltb}
use Rattle.std.proofs.lemmas.List.{length-map}
use Rattle.wait_cores.specs.declared.group.GroupEvent.{GroupEvent}
use Rattle.wait_cores.specs.declared.group.GroupEvent.TheVariants.{Add, Wait, Leave}
use Rattle.wait_cores.specs.declared.group.GroupReply.{GroupReply}
use Rattle.wait_cores.specs.declared.group.GroupReply.TheVariants.{Done, Queued, Misused, Still}
use Rattle.sync_types.specs.declared.misuse.Misuse.TheVariants.{WaitGroupReused}
use Rattle.wait_cores.specs.declared.group.GroupPlace.{GroupPlace}
use Rattle.wait_cores.specs.declared.group.GroupPlace.TheVariants.{Out, Waiting, Released}
use Rattle.wait_cores.specs.GroupMachine.{GroupState, start, next, is_reused, released, made, added, within, wait_from, leave_from, callers_of, place_of}
use Rattle.wait_cores.specs.GroupStanding.{is_in, waits_at, waits_after, answers, answers_add, answers_wait, answers_leaving}
use Rattle.wait_cores.proofs.Places.{get-set_other, get-set_within}

-- whether the one that stands at a place waits
abbrev in_at : List GroupPlace → ℕ → Bool
in_at places caller = is_in (unwrap_or (slice_get places caller) Out)

in_released : (places : List GroupPlace) (c : ℕ) → in_at (map released places) c ≡ in_at places c
in_released [] c = refl
in_released (Out ∷ places) zero = refl
in_released (Waiting ∷ places) zero = refl
in_released (Released ∷ places) zero = refl
in_released (place ∷ places) (suc c) = in_released places c

in_if_released : (b : Bool) (places : List GroupPlace) (c : ℕ) → in_at (cond b (map released places) places) c ≡ in_at places c
in_if_released true places c = in_released places c
in_if_released false places c = refl

in_out : (places : List GroupPlace) (c : ℕ) → in_at (set places c Out) c ≡ false
in_out [] c = refl
in_out (place ∷ places) zero = refl
in_out (place ∷ places) (suc c) = in_out places c

in_other : (places : List GroupPlace) (c d : ℕ) (place : GroupPlace) → c ≢ d → in_at (set places d place) c ≡ in_at places c
in_other places c d place ne = ap (λ (o : Option GroupPlace). is_in (unwrap_or o Out)) (get-set_other places d c place ne)

in_first : (callers c : ℕ) → in_at (replicate callers Out) c ≡ false
in_first zero c = refl
in_first (suc callers) zero = refl
in_first (suc callers) (suc c) = in_first callers c

own_add : (sum : Option ℕ) (s : GroupState) (c : ℕ) → waits_at (added sum s).0 c ≡ waits_at s c
own_add (Some sum) s c = in_if_released (sum == 0) s.places c
own_add None s c = refl

own_queue : (b : Bool) (s : GroupState) (c : ℕ) → c < length s.places
    → let n : GroupState × GroupReply = cond {A = GroupState × GroupReply} b (s, Done) (record s { places = set s.places c Waiting }, Queued) in waits_at n.0 c ≡ waits_after (waits_at s c) Wait n.1
own_queue true s c within = refl
own_queue false s c within = ap (λ (o : Option GroupPlace). is_in (unwrap_or o Out)) (get-set_within s.places c Waiting within)

own_wait : (p : GroupPlace) (s : GroupState) (c : ℕ) → c < length s.places → waits_at (wait_from p s c).0 c ≡ waits_after (waits_at s c) Wait (wait_from p s c).1
own_wait Out s c within = own_queue (s.counter == 0) s c within
own_wait Waiting s c within = refl
own_wait Released s c within = refl

left_out : (b : Bool) (waits : Bool) → waits_after waits Leave (cond b (Misused WaitGroupReused) Done) ≡ false
left_out true waits = refl
left_out false waits = refl

own_leave : (p : GroupPlace) (s : GroupState) (c : ℕ) → waits_at (leave_from p s c).0 c ≡ waits_after (waits_at s c) Leave (leave_from p s c).1
own_leave Released s c = in_out s.places c ∙ sym (left_out (is_reused s) (waits_at s c))
own_leave Out s c = refl
own_leave Waiting s c = refl

own_made : (s : GroupState) (c : ℕ) (event : GroupEvent) → c < length s.places → waits_at (made s c event).0 c ≡ waits_after (waits_at s c) event (made s c event).1
own_made s c (Add delta) within_group = own_add (within (pos s.counter +ℤ delta)) s c
own_made s c Wait within_group = own_wait (place_of s c) s c within_group
own_made s c Leave within_group = own_leave (place_of s c) s c

nothing_own : (s : GroupState) (c : ℕ) (event : GroupEvent) → waits_at s c ≡ waits_after (waits_at s c) event Still
nothing_own s c (Add delta) = refl
nothing_own s c Wait = refl
nothing_own s c Leave = refl

own_if : (b : Bool) (s : GroupState) (c : ℕ) (event : GroupEvent) → nat_lt c (callers_of s) ≡ b
    → waits_at (cond b (made s c event) (s, Still)).0 c ≡ waits_after (waits_at s c) event (cond b (made s c event) (s, Still)).1
own_if true s c event below = own_made s c event (ltb-true c (length s.places) below)
own_if false s c event below = nothing_own s c event

pub knows-own : (s : GroupState) (c : ℕ) (event : GroupEvent) → waits_at (next s c event).0 c ≡ waits_after (waits_at s c) event (next s c event).1
knows-own s c event = own_if (nat_lt c (callers_of s)) s c event refl

other_queue : (b : Bool) (s : GroupState) (c d : ℕ) → c ≢ d
    → waits_at (cond {A = GroupState × GroupReply} b (s, Done) (record s { places = set s.places d Waiting }, Queued)).0 c ≡ waits_at s c
other_queue true s c d ne = refl
other_queue false s c d ne = in_other s.places c d Waiting ne

other_wait : (p : GroupPlace) (s : GroupState) (c d : ℕ) → c ≢ d → waits_at (wait_from p s d).0 c ≡ waits_at s c
other_wait Out s c d ne = other_queue (s.counter == 0) s c d ne
other_wait Waiting s c d ne = refl
other_wait Released s c d ne = refl

other_leave : (p : GroupPlace) (s : GroupState) (c d : ℕ) → c ≢ d → waits_at (leave_from p s d).0 c ≡ waits_at s c
other_leave Released s c d ne = in_other s.places c d Out ne
other_leave Out s c d ne = refl
other_leave Waiting s c d ne = refl

other_made : (s : GroupState) (c d : ℕ) (event : GroupEvent) → c ≢ d → waits_at (made s d event).0 c ≡ waits_at s c
other_made s c d (Add delta) ne = own_add (within (pos s.counter +ℤ delta)) s c
other_made s c d Wait ne = other_wait (place_of s d) s c d ne
other_made s c d Leave ne = other_leave (place_of s d) s c d ne

other_if : (b : Bool) (s : GroupState) (c d : ℕ) (event : GroupEvent) → c ≢ d → waits_at (cond b (made s d event) (s, Still)).0 c ≡ waits_at s c
other_if true s c d event ne = other_made s c d event ne
other_if false s c d event ne = refl

pub knows-others : (s : GroupState) (c d : ℕ) (event : GroupEvent) → c ≢ d → waits_at (next s d event).0 c ≡ waits_at s c
knows-others s c d event ne = other_if (nat_lt d (callers_of s)) s c d event ne

answer_add : (sum : Option ℕ) (s : GroupState) → answers_add (added sum s).1 ≡ true
answer_add (Some sum) s = refl
answer_add None s = refl

answer_queue : (b : Bool) (s : GroupState) (a : GroupState) → answers_wait false (cond {A = GroupState × GroupReply} b (s, Done) (a, Queued)).1 ≡ true
answer_queue true s a = refl
answer_queue false s a = refl

answer_wait : (p : GroupPlace) (s : GroupState) (c : ℕ) → answers_wait (is_in p) (wait_from p s c).1 ≡ true
answer_wait Out s c = answer_queue (s.counter == 0) s (record s { places = set s.places c Waiting })
answer_wait Waiting s c = refl
answer_wait Released s c = refl

answer_reused : (b : Bool) → answers_leaving (cond b (Misused WaitGroupReused) Done) ≡ true
answer_reused true = refl
answer_reused false = refl

answer_leave : (p : GroupPlace) (s : GroupState) (c : ℕ) → answers_leaving (leave_from p s c).1 ≡ true
answer_leave Released s c = answer_reused (is_reused s)
answer_leave Out s c = refl
answer_leave Waiting s c = refl

answer_made : (s : GroupState) (c : ℕ) (event : GroupEvent) → answers (waits_at s c) event (made s c event).1 ≡ true
answer_made s c (Add delta) = answer_add (within (pos s.counter +ℤ delta)) s
answer_made s c Wait = answer_wait (place_of s c) s c
answer_made s c Leave = answer_leave (place_of s c) s c

answer_if : (b : Bool) (s : GroupState) (c : ℕ) (event : GroupEvent) → b ≡ true → answers (waits_at s c) event (cond b (made s c event) (s, Still)).1 ≡ true
answer_if true s c event below = answer_made s c event
answer_if false s c event below = cc

pub knows-answers : (s : GroupState) (c : ℕ) (event : GroupEvent) → c < callers_of s → answers (waits_at s c) event (next s c event).1 ≡ true
knows-answers s c event below = answer_if (nat_lt c (callers_of s)) s c event (lt-ltb c (callers_of s) below)

length_if : (b : Bool) (places : List GroupPlace) → length (cond b (map released places) places) ≡ length places
length_if true places = length-map places released
length_if false places = refl

callers_add : (sum : Option ℕ) (s : GroupState) → callers_of (added sum s).0 ≡ callers_of s
callers_add (Some sum) s = length_if (sum == 0) s.places
callers_add None s = refl

callers_queue : (b : Bool) (s : GroupState) (c : ℕ) → callers_of (cond {A = GroupState × GroupReply} b (s, Done) (record s { places = set s.places c Waiting }, Queued)).0 ≡ callers_of s
callers_queue true s c = refl
callers_queue false s c = length-set s.places c Waiting

callers_wait : (p : GroupPlace) (s : GroupState) (c : ℕ) → callers_of (wait_from p s c).0 ≡ callers_of s
callers_wait Out s c = callers_queue (s.counter == 0) s c
callers_wait Waiting s c = refl
callers_wait Released s c = refl

callers_leave : (p : GroupPlace) (s : GroupState) (c : ℕ) → callers_of (leave_from p s c).0 ≡ callers_of s
callers_leave Released s c = length-set s.places c Out
callers_leave Out s c = refl
callers_leave Waiting s c = refl

callers_made : (s : GroupState) (c : ℕ) (event : GroupEvent) → callers_of (made s c event).0 ≡ callers_of s
callers_made s c (Add delta) = callers_add (within (pos s.counter +ℤ delta)) s
callers_made s c Wait = callers_wait (place_of s c) s c
callers_made s c Leave = callers_leave (place_of s c) s c

callers_if : (b : Bool) (s : GroupState) (c : ℕ) (event : GroupEvent) → callers_of (cond b (made s c event) (s, Still)).0 ≡ callers_of s
callers_if true s c event = callers_made s c event
callers_if false s c event = refl

pub same-callers : (s : GroupState) (c : ℕ) (event : GroupEvent) → callers_of (next s c event).0 ≡ callers_of s
same-callers s c event = callers_if (nat_lt c (callers_of s)) s c event

pub waits-first : (callers c : ℕ) → waits_at (start callers) c ≡ false
waits-first callers c = in_first callers c
