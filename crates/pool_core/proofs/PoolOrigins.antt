-- Where the item that a look takes was put. The log is run once more with each item that is put beside its place in the log; since
-- the pool doesn't look at its items, the look takes the same item, and has that place with it.
use Rattle.std.proofs.Common.{◌≡◌, ◌≢◌, ◌⊎◌, inl, inr, ℕ, zero, suc, ◌==◌, ◌+◌, ◌≤◌, ◌<◌, Bool, true, false, cond, [], ◌∷◌, ◌++◌, length, take, Option, Some, None, refl, sym, ap, ◌∙◌, subst, arith, append_assoc}
use Rattle.std.specs.Prelude.{◌&&◌, nat_le}
use Rattle.std.specs.List.{count_by}
use Rattle.std.specs.Option.{option_map}
use Rattle.std.proofs.lemmas.Bool.Decides.{nat_tests, eqb_tells}
use Rattle.std.proofs.lemmas.List.{append-nil}
use Rattle.std.proofs.lemmas.List.Sums.{sum_by_push}
use Rattle.pool_core.specs.declared.pool_event.PoolEvent.{PoolEvent}
use Rattle.pool_core.specs.declared.pool_event.PoolEvent.TheVariants.{Put, LookOwn, LookOther, LookVictim, Sweep}
use Rattle.pool_core.specs.declared.pool_event.PoolReply.{PoolReply}
use Rattle.pool_core.specs.declared.pool_event.PoolReply.TheVariants.{Kept, Dropped, Item, Nothing, Swept, Still}
use Rattle.sync_model.specs.Log.{entry, Follows}
use Rattle.pool_core.specs.PoolMachine.{PoolState, start, next}
use Rattle.pool_core.specs.PoolLaws.{PoolEntry, Log, kept_in, kept_by, got_in, got_by, is_swept, is_sweep, one_of, held_by, held, put_at, got_at, ComeFrom}
use Rattle.pool_core.proofs.PoolCounts.{Counts, next_counts, none_at_start}
use Rattle.pool_core.proofs.PoolMaps.{map_state, map_event, map_reply, map_result, next_maps, start_maps}

abbrev one_if : Bool → ℕ
one_if b = cond b 1 0

-- a place and the item that was put there
abbrev Tagged : Type 0
Tagged = ℕ × ℕ

abbrev item_of : Tagged → ℕ
item_of t = t.1

abbrev tag : ℕ → ℕ → Tagged
tag place item = (place, item)

-- the entry's event at a place of the log, in a pool of tagged items
abbrev tagged_next : PoolState Tagged → ℕ → PoolEntry ℕ → PoolState Tagged × PoolReply Tagged
tagged_next t place e = next t e.caller (map_event (tag place) e.event)

untagged_event : (place : ℕ) (event : PoolEvent ℕ) → map_event item_of (map_event (tag place) event) ≡ event
untagged_event place (Put item) = refl
untagged_event place LookOwn = refl
untagged_event place (LookOther part) = refl
untagged_event place (LookVictim part) = refl
untagged_event place Sweep = refl

-- without the tags it is the entry's own step
untagged : (t : PoolState Tagged) (place : ℕ) (e : PoolEntry ℕ) → map_result item_of (tagged_next t place e) ≡ next (map_state item_of t) e.caller e.event
untagged t place e =
    next_maps item_of t e.caller (map_event (tag place) e.event)
    ∙ ap (λ (event : PoolEvent ℕ). next (map_state item_of t) e.caller event) (untagged_event place e.event)

untagged_reply : (t : PoolState Tagged) (place : ℕ) (e : PoolEntry ℕ) → (next (map_state item_of t) e.caller e.event).1 ≡ e.reply → map_reply item_of (tagged_next t place e).1 ≡ e.reply
untagged_reply t place e h = ap (λ (r : PoolState ℕ × PoolReply ℕ). r.1) (untagged t place e) ∙ h

kept_tagged : (place : ℕ) (event : PoolEvent ℕ) (reply : PoolReply Tagged)
    → kept_in (map_event (tag place) event) reply ≡ option_map (tag place) (kept_in event (map_reply item_of reply))
kept_tagged place (Put item) Kept = refl
kept_tagged place (Put item) (Dropped x) = refl
kept_tagged place (Put item) (Item x) = refl
kept_tagged place (Put item) Nothing = refl
kept_tagged place (Put item) Swept = refl
kept_tagged place (Put item) Still = refl
kept_tagged place LookOwn reply = refl
kept_tagged place (LookOther part) reply = refl
kept_tagged place (LookVictim part) reply = refl
kept_tagged place Sweep reply = refl

got_tagged : (reply : PoolReply Tagged) → option_map item_of (got_in reply) ≡ got_in (map_reply item_of reply)
got_tagged Kept = refl
got_tagged (Dropped x) = refl
got_tagged (Item x) = refl
got_tagged Nothing = refl
got_tagged Swept = refl
got_tagged Still = refl

swept_tagged : (reply : PoolReply Tagged) → is_swept reply ≡ is_swept (map_reply item_of reply)
swept_tagged Kept = refl
swept_tagged (Dropped x) = refl
swept_tagged (Item x) = refl
swept_tagged Nothing = refl
swept_tagged Swept = refl
swept_tagged Still = refl

-- an entry that takes an item keeps none
gets_or_keeps : {X : Type 0} (event : PoolEvent X) (reply : PoolReply X) (x : X) → got_in reply ≡ Some x → kept_in event reply ≡ None
gets_or_keeps (Put item) (Item y) x h = refl
gets_or_keeps (Put item) Kept x h = cc
gets_or_keeps (Put item) (Dropped y) x h = cc
gets_or_keeps (Put item) Nothing x h = cc
gets_or_keeps (Put item) Swept x h = cc
gets_or_keeps (Put item) Still x h = cc
gets_or_keeps LookOwn reply x h = refl
gets_or_keeps (LookOther part) reply x h = refl
gets_or_keeps (LookVictim part) reply x h = refl
gets_or_keeps Sweep reply x h = refl

-- a sweep keeps nothing
sweeps_or_keeps : {X : Type 0} (event : PoolEvent X) (reply : PoolReply X) → is_swept reply ≡ true → kept_in event reply ≡ None
sweeps_or_keeps (Put item) Swept h = refl
sweeps_or_keeps (Put item) Kept h = cc
sweeps_or_keeps (Put item) (Dropped y) h = cc
sweeps_or_keeps (Put item) Nothing h = cc
sweeps_or_keeps (Put item) (Item y) h = cc
sweeps_or_keeps (Put item) Still h = cc
sweeps_or_keeps LookOwn reply h = refl
sweeps_or_keeps (LookOther part) reply h = refl
sweeps_or_keeps (LookVictim part) reply h = refl
sweeps_or_keeps Sweep reply h = refl

-- what was put at a place, in a log with one entry more
abbrev older : Bool → ℕ × ℕ → ℕ × ℕ
older swept put = (put.0, put.1 + one_if swept)

older_put : (e : PoolEntry ℕ) (log : Log ℕ) (o : Option ℕ)
    → option_map (λ item. (item, count_by is_sweep (log ++ e ∷ []))) o ≡ option_map (older (is_sweep e)) (option_map (λ item. (item, count_by is_sweep log)) o)
older_put e log None = refl
older_put e log (Some item) = ap (λ (n : ℕ). Some (item, n)) (sum_by_push (λ (x : PoolEntry ℕ). one_if (is_sweep x)) log e)

put_before : (log : Log ℕ) (e : PoolEntry ℕ) (i : ℕ) → i < length log → put_at (log ++ e ∷ []) i ≡ option_map (older (is_sweep e)) (put_at log i)
put_before [] e i h = absurd (omega arith)
put_before (x ∷ log) e zero h = older_put e log (kept_by x)
put_before (x ∷ log) e (suc i) h = put_before log e i (omega arith)

put_here : (log : Log ℕ) (e : PoolEntry ℕ) (i : ℕ) → i ≡ length log → put_at (log ++ e ∷ []) i ≡ option_map (λ item. (item, 0)) (kept_by e)
put_here [] e zero h = refl
put_here [] e (suc i) h = absurd (omega arith)
put_here (x ∷ log) e zero h = absurd (omega arith)
put_here (x ∷ log) e (suc i) h = put_here log e i (omega arith)

put_beyond : (log : Log ℕ) (i : ℕ) → length log ≤ i → put_at log i ≡ None
put_beyond [] i h = refl
put_beyond (x ∷ log) zero h = absurd (omega arith)
put_beyond (x ∷ log) (suc i) h = put_beyond log i (omega arith)

put_within : (log : Log ℕ) (i : ℕ) (put : ℕ × ℕ) → put_at log i ≡ Some put → i < length log
put_within [] i put h = cc
put_within (x ∷ log) zero put h = omega arith
put_within (x ∷ log) (suc i) put h = let w : i < length log = put_within log i put h in omega arith

-- 1 where there is a put of an item that passes a test, with no more sweeps than these since
abbrev fresh : (ℕ → Bool) → ℕ → Option (ℕ × ℕ) → ℕ
fresh test sweeps (Some put) = one_if (test put.0 && nat_le put.1 sweeps)
fresh test sweeps None = 0

-- an item with this tag that passes a test
abbrev from : ℕ → (ℕ → Bool) → Tagged → Bool
from place test t = (t.0 == place) && test t.1

-- the pool holds the item of a put at most once, among the victims after at most one sweep, and nowhere else after none
record Aged (past : Log ℕ) (t : PoolState Tagged) (i : ℕ) (test : ℕ → Bool) : Type 0 where
  primary : held_by (from i test) t.primary ≤ fresh test 0 (put_at past i)
  all : held (from i test) t ≤ fresh test 1 (put_at past i)

eq_same : (n : ℕ) → (n == n) ≡ true
eq_same n = elim (eqb_tells n n) [ inl same ↦ same.0 | inr apart ↦ absurd (apart.1 refl) ]

eq_apart : (m n : ℕ) → m ≢ n → (m == n) ≡ false
eq_apart m n ne = elim (eqb_tells m n) [ inl same ↦ absurd (ne same.1) | inr apart ↦ apart.0 ]

compare : (m n : ℕ) → (m < n) ⊎ ((m ≡ n) ⊎ (n < m))
compare m n = grind (arith, nat_tests)

module _ (test : ℕ → Bool) where
  kept_elsewhere : (i place : ℕ) (o : Option ℕ) → place ≢ i → one_of (from i test) (option_map (tag place) o) ≡ 0
  kept_elsewhere i place (Some item) ne = ap (λ (b : Bool). one_if (b && test item)) (eq_apart place i ne)
  kept_elsewhere i place None ne = refl

  one_if_and : (b c : Bool) → one_if (b && c) ≤ one_if (c && true)
  one_if_and true true = omega arith
  one_if_and true false = omega arith
  one_if_and false c = omega arith

  kept_fresh : (i place n : ℕ) (o : Option ℕ) → one_of (from i test) (option_map (tag place) o) ≤ fresh test n (option_map (λ item. (item, 0)) o)
  kept_fresh i place n (Some item) = let first : nat_le 0 n ≡ true = grind (arith, nat_tests) in rw first (one_if_and (place == i) (test item))
  kept_fresh i place n None = omega arith

  fresh_same : (n : ℕ) (o : Option (ℕ × ℕ)) → fresh test n (option_map (older false) o) ≡ fresh test n o
  fresh_same n (Some put) = let same : put.1 + 0 ≡ put.1 = omega arith in ap (λ (m : ℕ). one_if (test put.0 && nat_le m n)) same
  fresh_same n None = refl

  one_sweep_more : (b : Bool) (m : ℕ) → one_if (b && nat_le m 0) ≤ one_if (b && nat_le (m + 1) 1)
  one_sweep_more true m = by_tests (nat_le m 0) (nat_le (m + 1) 1) (λ h. grind (arith, nat_tests)) where
    by_tests : (c d : Bool) → (c ≡ true → d ≡ true) → one_if c ≤ one_if d
    by_tests true d h = rw (h refl) (omega arith)
    by_tests false d h = omega arith
  one_sweep_more false m = omega arith

  fresh_swept : (o : Option (ℕ × ℕ)) → fresh test 0 o ≤ fresh test 1 (option_map (older true) o)
  fresh_swept (Some put) = one_sweep_more (test put.0) put.1
  fresh_swept None = omega arith

  -- from the numbers of the primary generation and the victims, before and after an entry, what was got and what was kept
  aged_numbers : (swept : Bool) (before now : Option (ℕ × ℕ)) (kept : Option ℕ) (i place : ℕ) (p v p' v' got : ℕ)
      → (i < place → now ≡ option_map (older swept) before) → (i ≡ place → now ≡ option_map (λ item. (item, 0)) kept) → (place ≤ i → before ≡ None)
      → p ≤ fresh test 0 before → p + v ≤ fresh test 1 before
      → ((p' + v') + got) + cond swept v 0 ≡ (p + v) + one_of (from i test) (option_map (tag place) kept)
      → (swept ≡ false → p' ≤ p + one_of (from i test) (option_map (tag place) kept)) → (swept ≡ true → (p' ≡ 0) × (v' ≡ p)) → (swept ≡ true → kept ≡ None)
      → (p' ≤ fresh test 0 now) × (p' + v' ≤ fresh test 1 now)
  aged_numbers false before now kept i place p v p' v' got earlier here later first both balance primary sweep none =
      let less : p' ≤ p + one_of (from i test) (option_map (tag place) kept) = primary refl in
      elim (compare i place) [
        | inl low ↦
            (let k : one_of (from i test) (option_map (tag place) kept) ≡ 0 = kept_elsewhere i place kept (let ne : place ≢ i = omega arith in ne) in
            let a : fresh test 0 (option_map (older false) before) ≡ fresh test 0 before = fresh_same 0 before in
            let b : fresh test 1 (option_map (older false) before) ≡ fresh test 1 before = fresh_same 1 before in
            rw (earlier low) (omega arith, omega arith))
        | inr rest ↦ elim rest [
          | inl same ↦
              (let z : fresh test 0 before ≡ 0 = ap (fresh test 0) (later (omega arith)) in
              let z' : fresh test 1 before ≡ 0 = ap (fresh test 1) (later (omega arith)) in
              let a : one_of (from i test) (option_map (tag place) kept) ≤ fresh test 0 (option_map (λ item. (item, 0)) kept) = kept_fresh i place 0 kept in
              let b : one_of (from i test) (option_map (tag place) kept) ≤ fresh test 1 (option_map (λ item. (item, 0)) kept) = kept_fresh i place 1 kept in
              rw (here same) (omega arith, omega arith))
          | inr high ↦
              (let z : fresh test 0 before ≡ 0 = ap (fresh test 0) (later (omega arith)) in
              let z' : fresh test 1 before ≡ 0 = ap (fresh test 1) (later (omega arith)) in
              let k : one_of (from i test) (option_map (tag place) kept) ≡ 0 = kept_elsewhere i place kept (let ne : place ≢ i = omega arith in ne) in
              (omega arith, omega arith))
        ]
      ]
  aged_numbers true before now kept i place p v p' v' got earlier here later first both balance primary sweep none =
      let moved : (p' ≡ 0) × (v' ≡ p) = sweep refl in
      elim (compare i place) [
        | inl low ↦ (let a : fresh test 0 before ≤ fresh test 1 (option_map (older true) before) = fresh_swept before in rw (earlier low) (omega arith, omega arith))
        | inr rest ↦
            (let high : place ≤ i = (elim rest [ inl same ↦ omega arith | inr more ↦ omega arith ]) in
            let z : fresh test 0 before ≡ 0 = ap (fresh test 0) (later high) in
            (omega arith, omega arith))
      ]

  aged_step : (past : Log ℕ) (t : PoolState Tagged) (place i : ℕ) (e : PoolEntry ℕ) → place ≡ length past → (next (map_state item_of t) e.caller e.event).1 ≡ e.reply
      → Aged past t i test → Aged (past ++ e ∷ []) (tagged_next t place e).0 i test
  aged_step past t place i e at h aged =
      let r : PoolReply Tagged = (tagged_next t place e).1 in
      let t' : PoolState Tagged = (tagged_next t place e).0 in
      let counts : Counts (from i test) t (entry e.caller (map_event (tag place) e.event) r) t' = next_counts (from i test) t e.caller (map_event (tag place) e.event) in
      let reply : map_reply item_of r ≡ e.reply = untagged_reply t place e h in
      let kept : kept_in (map_event (tag place) e.event) r ≡ option_map (tag place) (kept_by e) =
      kept_tagged place e.event r ∙ ap (λ (q : PoolReply ℕ). option_map (tag place) (kept_in e.event q)) reply in
      let swept : is_swept r ≡ is_sweep e = swept_tagged r ∙ ap is_swept reply in
      let now : (held_by (from i test) t'.primary ≤ fresh test 0 (put_at (past ++ e ∷ []) i)) × (held (from i test) t' ≤ fresh test 1 (put_at (past ++ e ∷ []) i)) =
      aged_numbers (is_sweep e) (put_at past i) (put_at (past ++ e ∷ []) i) (kept_by e) i place
      (held_by (from i test) t.primary) (held_by (from i test) t.victims) (held_by (from i test) t'.primary) (held_by (from i test) t'.victims) (one_of (from i test) (got_in r))
      (λ low. put_before past e i (omega arith)) (λ same. put_here past e i (same ∙ at)) (λ high. put_beyond past i (omega arith))
      aged.primary aged.all
      (rw (kept, swept) at counts.balance) (rw (kept, swept) at counts.primary) (rw swept at counts.swept) (λ s. sweeps_or_keeps e.event e.reply s) in
      record { primary = now.0; all = now.1 }

-- the place that a look's item has with it
abbrev place_in : Option Tagged → ℕ
place_in (Some t) = t.0
place_in None = 0

-- for each look of a log, the place of the put that its item came from
abbrev origin_from : PoolState Tagged → ℕ → Log ℕ → ℕ → ℕ
origin_from t place [] look = 0
origin_from t place (e ∷ log) zero = place_in (got_in (tagged_next t place e).1)
origin_from t place (e ∷ log) (suc look) = origin_from (tagged_next t place e).0 (suc place) log look

-- a log goes on from here in the tagged pool
record Goes (past : Log ℕ) (t : PoolState Tagged) (place : ℕ) (log : Log ℕ) : Type 0 where
  at : place ≡ length past
  follows : Follows next (map_state item_of t) log
  aged : (i : ℕ) (test : ℕ → Bool) → Aged past t i test

length_push : (log : Log ℕ) (e : PoolEntry ℕ) → length (log ++ e ∷ []) ≡ suc (length log)
length_push [] e = refl
length_push (x ∷ log) e = ap suc (length_push log e)

goes_on : (past : Log ℕ) (t : PoolState Tagged) (place : ℕ) (e : PoolEntry ℕ) (log : Log ℕ) → Goes past t place (e ∷ log)
    → Goes (past ++ e ∷ []) (tagged_next t place e).0 (suc place) log
goes_on past t place e log goes = record {
  at = ap suc goes.at ∙ sym (length_push past e);
  follows = (let P : PoolState ℕ → Type 0 = λ s. Follows next s log in
      subst P (sym (ap (λ (r : PoolState ℕ × PoolReply ℕ). r.0) (untagged t place e))) goes.follows.1);
  aged = λ i test. aged_step test past t place i e goes.at goes.follows.0 (goes.aged i test);
}

tagged_got : (o : Option Tagged) (item : ℕ) → option_map item_of o ≡ Some item → o ≡ Some (place_in o, item)
tagged_got (Some t) item h = let same : t.1 ≡ item = cc in ap (λ (n : ℕ). Some (t.0, n)) same
tagged_got None item h = cc

-- a look that takes an item takes it from the pool
takes : (test : ℕ → Bool) (t : PoolState Tagged) (place i item : ℕ) (e : PoolEntry ℕ) → got_in (tagged_next t place e).1 ≡ Some (i, item) → test item ≡ true
    → held (from i test) (tagged_next t place e).0 + 1 ≤ held (from i test) t
takes test t place i item e got passes =
    let r : PoolReply Tagged = (tagged_next t place e).1 in
    let t' : PoolState Tagged = (tagged_next t place e).0 in
    let counts : Counts (from i test) t (entry e.caller (map_event (tag place) e.event) r) t' = next_counts (from i test) t e.caller (map_event (tag place) e.event) in
    let none : kept_in (map_event (tag place) e.event) r ≡ None = gets_or_keeps (map_event (tag place) e.event) r (i, item) got in
    let balance : (held (from i test) t' + one_of (from i test) (Some (i, item))) + cond (is_swept r) (held_by (from i test) t.victims) 0
    ≡ held (from i test) t + one_of (from i test) None = (rw (got, none) at counts.balance) in
    let counted : one_of (from i test) (Some (i, item)) ≡ 1 = ap (λ (b : Bool). one_if (b && test item)) (eq_same i) ∙ ap one_if passes in
    let nothing : one_of (from i test) None ≡ 0 = refl in
    omega arith

fresh_put : (item : ℕ) (o : Option (ℕ × ℕ)) → 1 ≤ fresh (λ x. x == item) 1 o → (sweeps : ℕ) × (o ≡ Some (item, sweeps)) × (sweeps ≤ 1)
fresh_put item (Some put) h =
    let same : put.0 ≡ item = grind (arith, nat_tests) in
    let few : put.1 ≤ 1 = grind (arith, nat_tests) in
    (put.1, ap (λ (n : ℕ). Some (n, put.1)) same, few)
fresh_put item None h = absurd (omega arith)

-- the item that a look takes
tag_got : (past : Log ℕ) (t : PoolState Tagged) (place : ℕ) (e : PoolEntry ℕ) (log : Log ℕ) (item : ℕ) → Goes past t place (e ∷ log) → got_by e ≡ Some item
    → got_in (tagged_next t place e).1 ≡ Some (place_in (got_in (tagged_next t place e).1), item)
tag_got past t place e log item goes got =
    tagged_got (got_in (tagged_next t place e).1) item
    (got_tagged (tagged_next t place e).1 ∙ ap got_in (untagged_reply t place e goes.follows.0) ∙ got)

earlier_here : (past : Log ℕ) (t : PoolState Tagged) (place : ℕ) (e : PoolEntry ℕ) (log : Log ℕ) (item : ℕ) → Goes past t place (e ∷ log) → got_by e ≡ Some item
    → (sweeps : ℕ) × (put_at past (place_in (got_in (tagged_next t place e).1)) ≡ Some (item, sweeps)) × (sweeps ≤ 1)
earlier_here past t place e log item goes got =
    let i : ℕ = place_in (got_in (tagged_next t place e).1) in
    let test : ℕ → Bool = λ x. x == item in
    let taken : held (from i test) (tagged_next t place e).0 + 1 ≤ held (from i test) t = takes test t place i item e (tag_got past t place e log item goes got) (eq_same item) in
    let aged : held (from i test) t ≤ fresh test 1 (put_at past i) = (goes.aged i test).all in
    fresh_put item (put_at past i) (omega arith)

earlier_from : (past : Log ℕ) (t : PoolState Tagged) (place : ℕ) (log : Log ℕ) (look item : ℕ) → Goes past t place log → got_at log look ≡ Some item
    → (sweeps : ℕ) × (put_at (past ++ take look log) (origin_from t place log look) ≡ Some (item, sweeps)) × (sweeps ≤ 1)
earlier_from past t place [] look item goes got = cc
earlier_from past t place (e ∷ log) zero item goes got =
    let P : Log ℕ → Type 0 = λ before. (sweeps : ℕ) × (put_at before (place_in (got_in (tagged_next t place e).1)) ≡ Some (item, sweeps)) × (sweeps ≤ 1) in
    subst P (sym (append-nil past)) (earlier_here past t place e log item goes got)
earlier_from past t place (e ∷ log) (suc look) item goes got =
    let t' : PoolState Tagged = (tagged_next t place e).0 in
    let P : Log ℕ → Type 0 = λ before. (sweeps : ℕ) × (put_at before (origin_from t' (suc place) log look) ≡ Some (item, sweeps)) × (sweeps ≤ 1) in
    subst P (append_assoc past (e ∷ []) (take look log)) (earlier_from (past ++ e ∷ []) t' (suc place) log look item (goes_on past t place e log goes) got)

abbrev any : ℕ → Bool
any item = true

-- what the pool doesn't hold, and isn't put any more, no look takes
gone : (past : Log ℕ) (t : PoolState Tagged) (place i : ℕ) (log : Log ℕ) (look item : ℕ) → Goes past t place log → held (from i any) t ≡ 0 → i < place
    → got_at log look ≡ Some item → origin_from t place log look ≢ i
gone past t place i [] look item goes none low got same = cc
gone past t place i (e ∷ log) zero item goes none low got same =
    let tagged : got_in (tagged_next t place e).1 ≡ Some (i, item) = rw same at (tag_got past t place e log item goes got) in
    let taken : held (from i any) (tagged_next t place e).0 + 1 ≤ held (from i any) t = takes any t place i item e tagged refl in
    omega arith
gone past t place i (e ∷ log) (suc look) item goes none low got same =
    let t' : PoolState Tagged = (tagged_next t place e).0 in
    let r : PoolReply Tagged = (tagged_next t place e).1 in
    let counts : Counts (from i any) t (entry e.caller (map_event (tag place) e.event) r) t' = next_counts (from i any) t e.caller (map_event (tag place) e.event) in
    let kept : kept_in (map_event (tag place) e.event) r ≡ option_map (tag place) (kept_in e.event (map_reply item_of r)) = kept_tagged place e.event r in
    let nothing : one_of (from i any) (option_map (tag place) (kept_in e.event (map_reply item_of r))) ≡ 0 =
    kept_elsewhere any i place (kept_in e.event (map_reply item_of r)) (let ne : place ≢ i = omega arith in ne) in
    let balance : (held (from i any) t' + one_of (from i any) (got_in r)) + cond (is_swept r) (held_by (from i any) t.victims) 0
    ≡ held (from i any) t + one_of (from i any) (option_map (tag place) (kept_in e.event (map_reply item_of r))) = (rw kept at counts.balance) in
    gone (past ++ e ∷ []) t' (suc place) i log look item (goes_on past t place e log goes) (omega arith) (omega arith) got same

fresh_once : (o : Option (ℕ × ℕ)) → fresh any 1 o ≤ 1
fresh_once (Some put) = by_test (nat_le put.1 1) where
  by_test : (b : Bool) → one_if b ≤ 1
  by_test true = omega arith
  by_test false = omega arith
fresh_once None = omega arith

once_from : (past : Log ℕ) (t : PoolState Tagged) (place : ℕ) (log : Log ℕ) (look other item another : ℕ) → Goes past t place log → look < other
    → got_at log look ≡ Some item → got_at log other ≡ Some another → origin_from t place log look ≢ origin_from t place log other
once_from past t place [] look other item another goes less got also same = cc
once_from past t place (e ∷ log) look zero item another goes less got also same = absurd (omega arith)
once_from past t place (e ∷ log) zero (suc other) item another goes less got also same =
    let i : ℕ = place_in (got_in (tagged_next t place e).1) in
    let t' : PoolState Tagged = (tagged_next t place e).0 in
    let taken : held (from i any) t' + 1 ≤ held (from i any) t = takes any t place i item e (tag_got past t place e log item goes got) refl in
    let aged : held (from i any) t ≤ fresh any 1 (put_at past i) = (goes.aged i any).all in
    let once : fresh any 1 (put_at past i) ≤ 1 = fresh_once (put_at past i) in
    let found : (sweeps : ℕ) × (put_at past i ≡ Some (item, sweeps)) × (sweeps ≤ 1) = earlier_here past t place e log item goes got in
    let low : i < length past = put_within past i (item, found.0) found.1 in
    let at : place ≡ length past = goes.at in
    gone (past ++ e ∷ []) t' (suc place) i log other another (goes_on past t place e log goes) (omega arith) (omega arith) also (sym same)
once_from past t place (e ∷ log) (suc look) (suc other) item another goes less got also same =
    once_from (past ++ e ∷ []) (tagged_next t place e).0 (suc place) log look other item another (goes_on past t place e log goes) (omega arith) got also same

starts : (callers room : ℕ) (log : Log ℕ) → Follows next (start callers room) log → Goes [] (start callers room) 0 log
starts callers room log h = record {
  at = refl;
  follows = (let P : PoolState ℕ → Type 0 = λ s. Follows next s log in subst P (sym (start_maps item_of callers room)) h);
  aged = λ i test. (let none : held (from i test) (start callers room) ≡ 0 = none_at_start (from i test) callers room in record { primary = omega arith; all = omega arith });
}

pub gives_each_once : (callers room : ℕ) (log : Log ℕ) → Follows next (start callers room) log → (origin : ℕ → ℕ) × ComeFrom log origin
gives_each_once callers room log h =
    let goes : Goes [] (start callers room) 0 log = starts callers room log h in
    let origin : ℕ → ℕ = origin_from (start callers room) 0 log in (
      origin,
      record {
        earlier = λ look item got. earlier_from [] (start callers room) 0 log look item goes got;
        once = λ look other item another got also same. elim (compare look other) [
          | inl less ↦ absurd (once_from [] (start callers room) 0 log look other item another goes less got also same)
          | inr rest ↦ elim rest [
            | inl equal ↦ equal
            | inr more ↦ absurd (once_from [] (start callers room) 0 log other look another item goes more also got (sym same))
          ]
        ];
      },
    )
