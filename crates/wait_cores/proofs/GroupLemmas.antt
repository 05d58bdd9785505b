-- A queued caller waits until the counter is 0.
use Rattle.std.proofs.Common.{◌≡◌, ◌≢◌, ◌⊎◌, inl, inr, ℕ, zero, suc, ◌==◌, ◌<◌, pos, ◌+ℤ◌, Bool, true, false, cond, List, [], ◌∷◌, ◌++◌, length, map, replicate, set, Option, Some, None, refl, sym, ap, ◌∙◌, lt-ltb, arith}
use Rattle.std.specs.Prelude.{nat_lt, unwrap_or, if◌then◌else◌}
use Rattle.std.specs.List.{slice_get, list_any}
use Rattle.std.proofs.lemmas.Bool.{ltb-true}
use Rattle.sync_types.specs.declared.misuse.Misuse.TheVariants.{WaitGroupReused}
use Rattle.std.proofs.lemmas.Bool.Decides.{nat_tests}
use Rattle.wait_cores.specs.declared.group.GroupEvent.{GroupEvent}
use Rattle.wait_cores.specs.declared.group.GroupEvent.TheVariants.{Add, Wait, Leave}
use Rattle.wait_cores.specs.declared.group.GroupReply.{GroupReply}
use Rattle.wait_cores.specs.declared.group.GroupReply.TheVariants.{Done, Queued, Misused, Still}
use Rattle.wait_cores.specs.declared.group.GroupPlace.{GroupPlace}
use Rattle.wait_cores.specs.declared.group.GroupPlace.TheVariants.{Out, Waiting, Released}
use Rattle.sync_model.specs.Log.{Entry, entry, after, Follows}
use Rattle.wait_cores.specs.GroupMachine.{GroupState, start, next, is_waiting, released, made, added, within, wait_from, leave_from, callers_of, place_of, is_reused}
use Rattle.wait_cores.specs.GroupLaws.{Log, WasZero}
use Rattle.wait_cores.proofs.Places.{get-set_kept, get-set_other, get-set_within}
use Rattle.wait_cores.proofs.LogParts.{ComesApart}

-- a caller that waits in the first state waits in the second, or the counter there is 0
abbrev WaitsOn : GroupState → ℕ → GroupState → Type 0
WaitsOn s c s' = (slice_get s.places c ≡ Some Waiting) → (slice_get s'.places c ≡ Some Waiting) ⊎ (s'.counter ≡ 0)

waits_on_if : (b : Bool) (s a : GroupState) (r q : GroupReply) (c : ℕ) → WaitsOn s c a → WaitsOn s c (cond {A = GroupState × GroupReply} b (a, r) (s, q)).0
waits_on_if true s a r q c h = h
waits_on_if false s a r q c h = inl

waits_on_sum : (sum : ℕ) (b : Bool) (s : GroupState) (c : ℕ) → (b ≡ true → sum ≡ 0) → (ps : List GroupPlace)
    → WaitsOn s c (record { counter = sum; places = cond b ps s.places })
waits_on_sum sum true s c zero_if ps h = inr (zero_if refl)
waits_on_sum sum false s c zero_if ps h = inl h

is_zero : (n : ℕ) → (n == 0) ≡ true → n ≡ 0
is_zero n h = grind (arith, nat_tests)

waits_on_add : (sum : Option ℕ) (s : GroupState) (c : ℕ) → WaitsOn s c (added sum s).0
waits_on_add (Some sum) s c = waits_on_sum sum (sum == 0) s c (is_zero sum) (map _ s.places)
waits_on_add None s c = inl

waits_on_queue : (b : Bool) (s : GroupState) (d c : ℕ)
    → WaitsOn s c (cond {A = GroupState × GroupReply} b (s, Done) (record s { places = set s.places d Waiting }, Queued)).0
waits_on_queue true s d c h = inl h
waits_on_queue false s d c h = inl (get-set_kept s.places d c Waiting h)

waits_on_wait : (p : GroupPlace) (s : GroupState) (d c : ℕ) → WaitsOn s c (wait_from p s d).0
waits_on_wait Out s d c h = waits_on_queue (s.counter == 0) s d c h
waits_on_wait Waiting s d c h = inl h
waits_on_wait Released s d c h = inl h

waits_on_leave : (p : GroupPlace) (s : GroupState) (d c : ℕ) → place_of s d ≡ p → WaitsOn s c (leave_from p s d).0
waits_on_leave Released s d c is h =
    let apart : c ≢ d = (λ e. let clash : Waiting ≡ Released = sym (ap (λ (o : Option GroupPlace). unwrap_or o Out) h) ∙ ap (place_of s) e ∙ is in cc) in
    inl (get-set_other s.places d c Out apart ∙ h)
waits_on_leave Out s d c is h = inl h
waits_on_leave Waiting s d c is h = inl h

waits_on_made : (s : GroupState) (d c : ℕ) (event : GroupEvent) → WaitsOn s c (made s d event).0
waits_on_made s d c (Add delta) = waits_on_add (within (pos s.counter +ℤ delta)) s c
waits_on_made s d c Wait = waits_on_wait (place_of s d) s d c
waits_on_made s d c Leave = waits_on_leave (place_of s d) s d c refl

-- each event keeps it
waits_on : (s : GroupState) (d c : ℕ) (event : GroupEvent) → WaitsOn s c (next s d event).0
waits_on s d c event =
    let m : GroupState × GroupReply = made s d event in waits_on_if (nat_lt d (callers_of s)) s m.0 m.1 Still c (waits_on_made s d c event)

-- the counter was 0 after the first event, or the caller waits on
zero_after : (s : GroupState) (c : ℕ) (e : Entry GroupEvent GroupReply) (log : Log) → slice_get (after next s (e ∷ log)).places c ≢ Some Waiting
    → (slice_get (next s e.caller e.event).0.places c ≡ Some Waiting) ⊎ ((next s e.caller e.event).0.counter ≡ 0)
    → (slice_get (next s e.caller e.event).0.places c ≡ Some Waiting → WasZero (next s e.caller e.event).0 log) → WasZero s (e ∷ log)
zero_after s c e log gone (inl waits) later =
    let found : WasZero (next s e.caller e.event).0 log = later waits in
    record { done = e ∷ found.done; left = found.left; parts = ap (λ (x : Log). e ∷ x) found.parts; zero_then = found.zero_then }
zero_after s c e log gone (inr came) later = record { done = e ∷ []; left = log; parts = refl; zero_then = came }

-- a caller that waits, and doesn't after a log, has seen the counter at 0
zero_between : (s : GroupState) (c : ℕ) (log : Log) → slice_get s.places c ≡ Some Waiting → slice_get (after next s log).places c ≢ Some Waiting → WasZero s log
zero_between s c [] waits gone = absurd (gone waits)
zero_between s c (e ∷ log) waits gone =
    zero_after s c e log gone (waits_on s e.caller c e.event waits) (λ still. zero_between (next s e.caller e.event).0 c log still gone)

queue_waits : (b : Bool) (s : GroupState) (c : ℕ) → c < length s.places
    → (cond {A = GroupState × GroupReply} b (s, Done) (record s { places = set s.places c Waiting }, Queued)).1 ≡ Queued
    → slice_get (cond {A = GroupState × GroupReply} b (s, Done) (record s { places = set s.places c Waiting }, Queued)).0.places c ≡ Some Waiting
queue_waits true s c within h = cc
queue_waits false s c within h = get-set_within s.places c Waiting within

wait_waits : (b : Bool) (p : GroupPlace) (s : GroupState) (c : ℕ) → nat_lt c (callers_of s) ≡ b
    → (cond b (wait_from p s c) (s, Still)).1 ≡ Queued → slice_get (cond b (wait_from p s c) (s, Still)).0.places c ≡ Some Waiting
wait_waits true Out s c within h = queue_waits (s.counter == 0) s c (ltb-true c (length s.places) within) h
wait_waits true Waiting s c within h = cc
wait_waits true Released s c within h = cc
wait_waits false p s c within h = cc

-- whoever was queued waits
queued_waits : (s : GroupState) (c : ℕ) → (next s c Wait).1 ≡ Queued → slice_get (next s c Wait).0.places c ≡ Some Waiting
queued_waits s c h = wait_waits (nat_lt c (callers_of s)) (place_of s c) s c refl h

waiter_stays : (b : Bool) (p : GroupPlace) (s : GroupState) (c : ℕ) → p ≡ Waiting → (cond b (leave_from p s c) (s, Still)).1 ≡ Still
waiter_stays true Waiting s c waits = refl
waiter_stays true Out s c waits = cc
waiter_stays true Released s c waits = cc
waiter_stays false p s c waits = refl

-- whoever leaves doesn't wait
leaver_is_released : (s : GroupState) (c : ℕ) (reply : GroupReply) → (next s c Leave).1 ≡ reply → reply ≢ Still → slice_get s.places c ≢ Some Waiting
leaver_is_released s c reply h ne waits =
    ne (sym h ∙ waiter_stays (nat_lt c (callers_of s)) (place_of s c) s c (ap (λ (o : Option GroupPlace). unwrap_or o Out) waits))

-- a wait that queued and returned has seen the counter at 0
pub waits_for_zero : ComesApart next → (s : GroupState) (c : ℕ) (between rest : Log) (reply : GroupReply) → reply ≢ Still
    → Follows next s (entry c Wait Queued ∷ (between ++ entry c Leave reply ∷ rest)) → WasZero (next s c Wait).0 between
waits_for_zero apart s c between rest reply ne h =
    let t : GroupState = (next s c Wait).0 in
    zero_between t c between (queued_waits s c h.0) (leaver_is_released (after next t between) c reply (apart t between (entry c Leave reply ∷ rest) h.1).1.0 ne)

-- nobody waits in a state with the counter 0
abbrev IsServed : GroupState → Type 0
IsServed s = s.counter ≡ 0 → list_any is_waiting s.places ≡ false

pub none_in_released : (places : List GroupPlace) → list_any is_waiting (map released places) ≡ false
none_in_released [] = refl
none_in_released (Waiting ∷ places) = none_in_released places
none_in_released (Out ∷ places) = none_in_released places
none_in_released (Released ∷ places) = none_in_released places

none_after_out : (places : List GroupPlace) (i : ℕ) → list_any is_waiting places ≡ false → list_any is_waiting (set places i Out) ≡ false
none_after_out [] i h = refl
none_after_out (Waiting ∷ places) i h = cc
none_after_out (Out ∷ places) zero h = h
none_after_out (Out ∷ places) (suc i) h = none_after_out places i h
none_after_out (Released ∷ places) zero h = h
none_after_out (Released ∷ places) (suc i) h = none_after_out places i h

pub none_at_start : (callers : ℕ) → list_any is_waiting (replicate callers Out) ≡ false
none_at_start zero = refl
none_at_start (suc callers) = none_at_start callers

pub nobody_released : (places : List GroupPlace) → list_any is_waiting places ≡ false → map released places ≡ places
nobody_released [] none = refl
nobody_released (Waiting ∷ places) none = cc
nobody_released (Out ∷ places) none = ap (λ (ps : List GroupPlace). Out ∷ ps) (nobody_released places none)
nobody_released (Released ∷ places) none = ap (λ (ps : List GroupPlace). Released ∷ ps) (nobody_released places none)

-- one who comes to wait
pub some_after_waiting : (places : List GroupPlace) (i : ℕ) → i < length places → list_any is_waiting (set places i Waiting) ≡ true
some_after_waiting [] i below = let no : ⊥ = omega arith in absurd no
some_after_waiting (place ∷ places) zero below = refl
some_after_waiting (Waiting ∷ places) (suc i) below = refl
some_after_waiting (Out ∷ places) (suc i) below = some_after_waiting places i (omega arith)
some_after_waiting (Released ∷ places) (suc i) below = some_after_waiting places i (omega arith)

released_within : (places : List GroupPlace) (i : ℕ) → unwrap_or (slice_get places i) Out ≡ Released → i < length places
released_within [] i is = cc
released_within (place ∷ places) zero is = omega arith
released_within (place ∷ places) (suc i) is = let within : i < length places = released_within places i is in omega arith

-- what a leaving does
pub left_to : (s : GroupState) (c : ℕ) → place_of s c ≡ Released
    → next s c Leave ≡ (record s { places = set s.places c Out }, if is_reused s then Misused WaitGroupReused else Done)
left_to s c is =
    let here : nat_lt c (callers_of s) ≡ true = lt-ltb c (callers_of s) (released_within s.places c is) in
    ap (λ (b : Bool). if b then made s c Leave else (s, Still)) here ∙ ap (λ (p : GroupPlace). leave_from p s c) is

-- one who leaves didn't wait
pub same_after_leaving : (places : List GroupPlace) (i : ℕ) → unwrap_or (slice_get places i) Out ≡ Released → list_any is_waiting (set places i Out) ≡ list_any is_waiting places
same_after_leaving [] i is = refl
same_after_leaving (Waiting ∷ places) zero is = cc
same_after_leaving (Out ∷ places) zero is = refl
same_after_leaving (Released ∷ places) zero is = refl
same_after_leaving (Waiting ∷ places) (suc i) is = refl
same_after_leaving (Out ∷ places) (suc i) is = same_after_leaving places i is
same_after_leaving (Released ∷ places) (suc i) is = same_after_leaving places i is

served_sum : (b : Bool) (sum : ℕ) (places : List GroupPlace) → (sum == 0) ≡ b → IsServed (record { counter = sum; places = cond b (map released places) places })
served_sum true sum places is h = none_in_released places
served_sum false sum places is h = let zero_is : (sum == 0) ≡ true = grind (arith, nat_tests) in cc

served_add : (sum : Option ℕ) (s : GroupState) → IsServed s → IsServed (added sum s).0
served_add (Some sum) s is = served_sum (sum == 0) sum s.places refl
served_add None s is = is

served_wait : (p : GroupPlace) (s : GroupState) (d : ℕ) → IsServed s → IsServed (wait_from p s d).0
served_wait Out s d is = by_test (s.counter == 0) refl where
  by_test : (b : Bool) → (s.counter == 0) ≡ b → IsServed (cond {A = GroupState × GroupReply} b (s, Done) (record s { places = set s.places d Waiting }, Queued)).0
  by_test true same h = is h
  by_test false same h = let zero_is : (s.counter == 0) ≡ true = grind (arith, nat_tests) in cc
served_wait Waiting s d is = is
served_wait Released s d is = is

served_leave : (p : GroupPlace) (s : GroupState) (d : ℕ) → IsServed s → IsServed (leave_from p s d).0
served_leave Released s d is h = none_after_out s.places d (is h)
served_leave Out s d is h = is h
served_leave Waiting s d is h = is h

served_made : (s : GroupState) (d : ℕ) (event : GroupEvent) → IsServed s → IsServed (made s d event).0
served_made s d (Add delta) is = served_add (within (pos s.counter +ℤ delta)) s is
served_made s d Wait is = served_wait (place_of s d) s d is
served_made s d Leave is = served_leave (place_of s d) s d is

served_if : (b : Bool) (s : GroupState) (d : ℕ) (event : GroupEvent) → IsServed s → IsServed (cond b (made s d event) (s, Still)).0
served_if true s d event is = served_made s d event is
served_if false s d event is = is

served_after : (s : GroupState) (log : Log) → IsServed s → IsServed (after next s log)
served_after s [] is = is
served_after s (e ∷ log) is =
    let s' : GroupState = (next s e.caller e.event).0 in served_after s' log (served_if (nat_lt e.caller (callers_of s)) s e.caller e.event is)

pub nobody_waits_at_zero : (callers : ℕ) (log : Log) → (after next (start callers) log).counter ≡ 0 → list_any is_waiting (after next (start callers) log).places ≡ false
nobody_waits_at_zero callers log h = served_after (start callers) log (λ z. none_at_start callers) h
