-- How many items of a pool pass a test, and what each event does to that number.
use Rattle.std.proofs.Common.{◌≡◌, ℕ, zero, suc, ◌==◌, ◌+◌, ◌-◌, ◌≤◌, ◌<◌, Bool, true, false, cond, List, [], ◌∷◌, length, set, take, map, replicate, get_or, Option, Some, None, refl, sym, ap, ◌∙◌, subst, arith}
use Rattle.std.specs.Prelude.{nat_lt}
use Rattle.std.specs.List.{slice_get, count_by}
use Rattle.std.specs.Option.{option_map}
use Rattle.std.proofs.lemmas.List.{take_all}
use Rattle.std.proofs.lemmas.List.Sums.{sum_by-cons, sum_by-set, sum_by_more}
use Rattle.std.proofs.lemmas.Option.{slice_get_within, get_or_from_slice_get}
use Rattle.pool_core.specs.declared.pool_event.PoolEvent.{PoolEvent}
use Rattle.pool_core.specs.declared.pool_event.PoolEvent.TheVariants.{Put, LookOwn, LookOther, LookVictim, Sweep}
use Rattle.pool_core.specs.declared.pool_event.PoolReply.{PoolReply}
use Rattle.pool_core.specs.declared.pool_event.PoolReply.TheVariants.{Kept, Dropped, Item, Nothing, Swept, Still}
use Rattle.sync_model.specs.Log.{entry, after, Follows}
use Rattle.pool_core.specs.PoolParts.{PoolPart, empty, emptied, put_in, put_beside, take_own, take_tail, take_victim, head_of, tail_of, private_or}
use Rattle.pool_core.specs.PoolMachine.{PoolState, start, next, made, with_primary, with_victims, callers_of}
use Rattle.pool_core.specs.PoolLaws.{PoolEntry, Log, kept_in, kept_by, got_in, got_by, is_swept, is_sweep, held_in, held_by, held, one_of, kept_count, got_count, swept_count}

module _ {X : Type 0} (test : X → Bool) where
  count_cons : (x : X) (xs : List X) → count_by test (x ∷ xs) ≡ one_of test (Some x) + count_by test xs
  count_cons x xs = sum_by-cons (λ y. cond (test y) 1 0) x xs

  -- the last of a list counts beside the others
  count_last : (xs : List X) (x : X) → slice_get xs (length xs - 1) ≡ Some x → count_by test xs ≡ count_by test (take (length xs - 1) xs) + one_of test (Some x)
  count_last xs x h =
      let within : length xs - 1 < length xs = slice_get_within xs (length xs - 1) x h in
      let more : count_by test (take ((length xs - 1) + 1) xs) ≡ count_by test (take (length xs - 1) xs) + cond (test (get_or xs (length xs - 1) x)) 1 0 =
      sum_by_more (λ y. cond (test y) 1 0) xs (length xs - 1) x within in
      let last : get_or xs (length xs - 1) x ≡ x = get_or_from_slice_get xs (length xs - 1) x x h in
      let all : (length xs - 1) + 1 ≡ length xs = omega arith in
      sym (ap (λ (n : ℕ). count_by test (take n xs)) all ∙ ap (count_by test) (take_all (length xs) xs (omega arith))) ∙ more ∙ ap (λ (y : X). count_by test (take (length xs - 1) xs) + cond (test y) 1 0) last

  -- an event on one part: what it holds then and what was got make what it held before and what was kept; it is no sweep
  record PartCounts (event : PoolEvent X) (part : PoolPart X) (changed : PoolPart X × PoolReply X) : Type 0 where
    balance : held_in test changed.0 + one_of test (got_in changed.1) ≡ held_in test part + one_of test (kept_in event changed.1)
    no_sweep : is_swept changed.1 ≡ false

  put_counts : (private : Option X) (part : PoolPart X) (item : X) → part.private ≡ private → PartCounts (Put item) part (put_beside private part item)
  put_counts None part item is = record { balance = rw is (omega arith); no_sweep = refl }
  put_counts (Some held) part item is = by_room (nat_lt (length part.shared) part.room) where
    by_room : (b : Bool) → PartCounts (Put item) part (cond {A = PoolPart X × PoolReply X} b (record part { shared = item ∷ part.shared }, Kept) (part, Dropped item))
    by_room true = record { balance = rw (count_cons item part.shared) (omega arith); no_sweep = refl }
    by_room false = record { balance = omega arith; no_sweep = refl }

  head_counts : (shared : List X) (part : PoolPart X) → part.shared ≡ shared → PartCounts LookOwn part (head_of shared part)
  head_counts (item ∷ rest) part is = record { balance = rw (is, count_cons item rest) (omega arith); no_sweep = refl }
  head_counts [] part is = record { balance = omega arith; no_sweep = refl }

  tail_counts : (tail : Option X) (part : PoolPart X) (event : PoolEvent X) → (o : Option X) → slice_get part.shared (length part.shared - 1) ≡ tail
      → ((reply : PoolReply X) → kept_in event reply ≡ None) → PartCounts event part (tail_of tail part)
  tail_counts (Some item) part event o is none = record {
    balance = rw (none (Item item), count_last part.shared item is) (omega arith);
    no_sweep = refl;
  }
  tail_counts None part event o is none = record { balance = rw (none Nothing) (omega arith); no_sweep = refl }

  private_counts : (private : Option X) (other : PoolPart X → PoolPart X × PoolReply X) (part : PoolPart X) (event : PoolEvent X) → part.private ≡ private
      → ((reply : PoolReply X) → kept_in event reply ≡ None) → PartCounts event part (other part) → PartCounts event part (private_or private other part)
  private_counts (Some item) other part event is none rest = record { balance = rw (none (Item item), is) (omega arith); no_sweep = refl }
  private_counts None other part event is none rest = rest

  put_in_counts : (item : X) (part : PoolPart X) → PartCounts (Put item) part (put_in part item)
  put_in_counts item part = put_counts part.private part item refl

  take_own_counts : (part : PoolPart X) → PartCounts LookOwn part (take_own part)
  take_own_counts part = private_counts part.private (λ p. head_of p.shared p) part LookOwn refl (λ reply. refl) (head_counts part.shared part refl)

  take_tail_counts : (event : PoolEvent X) → ((reply : PoolReply X) → kept_in event reply ≡ None) → (part : PoolPart X) → PartCounts event part (take_tail part)
  take_tail_counts event none part = tail_counts (slice_get part.shared (length part.shared - 1)) part event None refl none

  take_victim_counts : (event : PoolEvent X) → ((reply : PoolReply X) → kept_in event reply ≡ None) → (part : PoolPart X) → PartCounts event part (take_victim part)
  take_victim_counts event none part = private_counts part.private take_tail part event refl none (take_tail_counts event none part)

  -- what an event does to the numbers of the whole pool
  pub record Counts (s : PoolState X) (e : PoolEntry X) (s' : PoolState X) : Type 0 where
    pub balance : (held test s' + one_of test (got_by e)) + cond (is_sweep e) (held_by test s.victims) 0 ≡ held test s + one_of test (kept_by e)
    pub primary : is_sweep e ≡ false → held_by test s'.primary ≤ held_by test s.primary + one_of test (kept_by e)
    pub swept : is_sweep e ≡ true → (held_by test s'.primary ≡ 0) × (held_by test s'.victims ≡ held_by test s.primary)

  held_set : (parts : List (PoolPart X)) (at : ℕ) (part part' : PoolPart X) → slice_get parts at ≡ Some part
      → held_by test (set parts at part') + held_in test part ≡ held_by test parts + held_in test part'
  held_set parts at part part' is =
      let within : at < length parts = slice_get_within parts at part is in
      let total : held_by test (set parts at part') + held_in test (get_or parts at part) ≡ held_by test parts + held_in test part' = sum_by-set (held_in test) parts at part' part within in
      ap (λ (p : PoolPart X). held_by test (set parts at part') + held_in test p) (sym (get_or_from_slice_get parts at part part is)) ∙ total

  keeps_nothing : (event : PoolEvent X) → kept_in event Still ≡ None
  keeps_nothing (Put item) = refl
  keeps_nothing LookOwn = refl
  keeps_nothing (LookOther part) = refl
  keeps_nothing (LookVictim part) = refl
  keeps_nothing Sweep = refl

  still_counts : (s : PoolState X) (d : ℕ) (event : PoolEvent X) → Counts s (entry d event Still) s
  still_counts s d event = record { balance = rw (keeps_nothing event) (omega arith); primary = λ h. rw (keeps_nothing event) (omega arith); swept = λ h. cc }

  primary_counts : (s : PoolState X) (d at : ℕ) (event : PoolEvent X) (change : PoolPart X → PoolPart X × PoolReply X) → ((part : PoolPart X) → PartCounts event part (change part))
      → (o : Option (PoolPart X)) → slice_get s.primary at ≡ o
      → Counts s (entry d event (with_primary (option_map change o) s at).1) (with_primary (option_map change o) s at).0
  primary_counts s d at event change counts (Some part) is =
      let here : PartCounts event part (change part) = counts part in
      let b : held_in test (change part).0 + one_of test (got_in (change part).1) ≡ held_in test part + one_of test (kept_in event (change part).1) = here.balance in
      let total : held_by test (set s.primary at (change part).0) + held_in test part ≡ held_by test s.primary + held_in test (change part).0 = held_set s.primary at part (change part).0 is in
      record {
        balance = rw here.no_sweep (omega arith);
        primary = λ h. omega arith;
        swept = λ h. cc;
      }
  primary_counts s d at event change counts None is = still_counts s d event

  victim_counts : (s : PoolState X) (d at : ℕ) (event : PoolEvent X) (change : PoolPart X → PoolPart X × PoolReply X) → ((part : PoolPart X) → PartCounts event part (change part))
      → (o : Option (PoolPart X)) → slice_get s.victims at ≡ o
      → Counts s (entry d event (with_victims (option_map change o) s at).1) (with_victims (option_map change o) s at).0
  victim_counts s d at event change counts (Some part) is =
      let here : PartCounts event part (change part) = counts part in
      let b : held_in test (change part).0 + one_of test (got_in (change part).1) ≡ held_in test part + one_of test (kept_in event (change part).1) = here.balance in
      let total : held_by test (set s.victims at (change part).0) + held_in test part ≡ held_by test s.victims + held_in test (change part).0 = held_set s.victims at part (change part).0 is in
      record {
        balance = rw here.no_sweep (omega arith);
        primary = λ h. omega arith;
        swept = λ h. cc;
      }
  victim_counts s d at event change counts None is = still_counts s d event

  none_in_emptied : (parts : List (PoolPart X)) → held_by test (map emptied parts) ≡ 0
  none_in_emptied [] = refl
  none_in_emptied (part ∷ parts) = sum_by-cons (held_in test) (emptied part) (map emptied parts) ∙ ap (λ (n : ℕ). held_in test (emptied part) + n) (none_in_emptied parts)

  sweep_counts : (s : PoolState X) (d : ℕ) → Counts s (entry d Sweep Swept) (record { primary = map emptied s.victims; victims = s.primary })
  sweep_counts s d = record {
    balance = rw (none_in_emptied s.victims) (omega arith);
    primary = λ h. cc;
    swept = λ h. (none_in_emptied s.victims, refl);
  }

  look_victim_counts : (b : Bool) (s : PoolState X) (d at : ℕ) →
      Counts s (entry d (LookVictim at) (with_victims (option_map (cond {A = PoolPart X → PoolPart X × PoolReply X} b take_victim take_tail) (slice_get s.victims at)) s at).1)
      (with_victims (option_map (cond {A = PoolPart X → PoolPart X × PoolReply X} b take_victim take_tail) (slice_get s.victims at)) s at).0
  look_victim_counts true s d at = victim_counts s d at (LookVictim at) take_victim (take_victim_counts (LookVictim at) (λ reply. refl)) (slice_get s.victims at) refl
  look_victim_counts false s d at = victim_counts s d at (LookVictim at) take_tail (take_tail_counts (LookVictim at) (λ reply. refl)) (slice_get s.victims at) refl

  made_counts : (s : PoolState X) (d : ℕ) (event : PoolEvent X) → Counts s (entry d event (made s d event).1) (made s d event).0
  made_counts s d (Put item) = primary_counts s d d (Put item) (λ own. put_in own item) (put_in_counts item) (slice_get s.primary d) refl
  made_counts s d LookOwn = primary_counts s d d LookOwn take_own take_own_counts (slice_get s.primary d) refl
  made_counts s d (LookOther part) = primary_counts s d part (LookOther part) take_tail (take_tail_counts (LookOther part) (λ reply. refl)) (slice_get s.primary part) refl
  made_counts s d (LookVictim part) = look_victim_counts (part == d) s d part
  made_counts s d Sweep = sweep_counts s d

  counts_if : (b : Bool) (s : PoolState X) (d : ℕ) (event : PoolEvent X)
      → Counts s (entry d event (cond b (made s d event) (s, Still)).1) (cond b (made s d event) (s, Still)).0
  counts_if true s d event = made_counts s d event
  counts_if false s d event = still_counts s d event

  -- each event
  pub next_counts : (s : PoolState X) (d : ℕ) (event : PoolEvent X) → Counts s (entry d event (next s d event).1) (next s d event).0
  next_counts s d event = counts_if (nat_lt d (callers_of s)) s d event

  -- each entry of a log that follows the machine
  pub steps : (s : PoolState X) (e : PoolEntry X) → (next s e.caller e.event).1 ≡ e.reply → Counts s e (next s e.caller e.event).0
  steps s e h =
      let P : PoolReply X → Type 0 = λ r. Counts s (entry e.caller e.event r) (next s e.caller e.event).0 in
      subst P h (next_counts s e.caller e.event)

  conserved : (s : PoolState X) (log : Log X) → Follows next s log
      → held test s + kept_count test log ≡ got_count test log + held test (after next s log) + swept_count test s log
  conserved s [] h = omega arith
  conserved s (e ∷ log) h =
      let s' : PoolState X = (next s e.caller e.event).0 in
      let rest : held test s' + kept_count test log ≡ got_count test log + held test (after next s' log) + swept_count test s' log = conserved s' log h.1 in
      let here : (held test s' + one_of test (got_by e)) + cond (is_sweep e) (held_by test s.victims) 0 ≡ held test s + one_of test (kept_by e) = (steps s e h.0).balance in
      rw (sum_by-cons (λ (x : PoolEntry X). one_of test (kept_by x)) e log, sum_by-cons (λ (x : PoolEntry X). one_of test (got_by x)) e log) (omega arith)

  none_in_empty : (n room : ℕ) → held_by test (replicate n (empty room)) ≡ 0
  none_in_empty zero room = refl
  none_in_empty (suc n) room = sum_by-cons (held_in test) (empty room) (replicate n (empty room)) ∙ ap (λ (n : ℕ). held_in test (empty room) + n) (none_in_empty n room)

  pub none_at_start : (callers room : ℕ) → held test (start callers room) ≡ 0
  none_at_start callers room = rw (none_in_empty callers room) refl

  pub conserves_items : (callers room : ℕ) (log : Log X) → Follows next (start callers room) log
      → kept_count test log ≡ got_count test log + held test (after next (start callers room) log) + swept_count test (start callers room) log
  conserves_items callers room log h =
      let none : held test (start callers room) ≡ 0 = none_at_start callers room in
      let all : held test (start callers room) + kept_count test log ≡ got_count test log + held test (after next (start callers room) log) + swept_count test (start callers room) log =
      conserved (start callers room) log h in
      omega arith
