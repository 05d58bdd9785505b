-- What is known of each worker, line by line.
use Rattle.std.proofs.Common.{◌≡◌, ◌↔◌, ◌⊎◌, inl, inr, ℕ, suc, ◌+◌, ◌<◌, ◌≤◌, Bool, true, false, cond, ◌==◌, nat_lt, List, [], ◌∷◌, map, length, replicate, set, get_or, drop, Option, Some, None, slice_get, slice_index, refl, sym, ap, ◌∙◌, subst, arith, add-one}
use Rattle.std.proofs.Math.Seq.{drop-cons}
use Rattle.std.proofs.lemmas.Bool.{eq-eqb, eqb-true, false≢true, lt-ltb, ltb-true}
use Rattle.std.proofs.lemmas.List.{drop_all, get_or_past, get_or-replicate, length-map, length-replicate, length-set}
use Rattle.std.proofs.lemmas.Option.{get_or_from_slice_get, same_Some, slice_get_cases, slice_get-map, slice_get_within}
use Rattle.std.specs.Option.{option_map}
use Rattle.starts_core.proofs.Places.{get-set_other, get-set_within}
use Rattle.record_text.specs.declared.item_line.ItemLine.{ItemLine}
use Rattle.record_text.specs.declared.item_line.Said.{Said}
use Rattle.record_text.specs.declared.item_line.Said.TheVariants.{Call, Begin, Next, Entered}
use Rattle.record_text.specs.Told.{items_of}
use Rattle.run_check.specs.declared.fronts.Known.{Known}
use Rattle.run_check.specs.Fronts.{AllMade, AllStand, AreKnown, MayStand, SomeFails, Standing, at_start, behind_line, behind_lines, last_of, one_call, standing}

-- how many calls a worker's lines are of; none, where there is no such worker
abbrev pub calls_by : ℕ → List ItemLine → ℕ → ℕ
calls_by n items worker = cond (nat_lt worker n) (last_of items worker).calls 0

-- the front law along the lines of the first n workers: each may stand where it does, and the last front of each worker counts calls that were made
pub record KeepFronts (n : ℕ) (items : List ItemLine) : Type 0 where
  pub each : (worker : ℕ) → worker < n → AllStand worker at_start (items_of items worker)
  pub made : (worker other : ℕ) → worker < n → slice_index (last_of items worker).front other ≤ calls_by n items other

-- ---- one worker

-- what stands so far of a worker, and what its other lines come to behind it, is what all its lines come to
pub record StandsTo (items : List ItemLine) (i worker : ℕ) (s : Standing) : Type 0 where
  pub all : AllStand worker at_start (items_of items worker) ↔ AllStand worker s (items_of (drop i items) worker)
  pub last : last_of items worker ≡ behind_lines s (items_of (drop i items) worker)
  pub few : s.calls ≤ i

-- the line at a place, before those behind it
pub line_next : (items : List ItemLine) (i : ℕ) (line : ItemLine) → i < length items → line ≡ get_or items i line → drop i items ≡ line ∷ drop (i + 1) items
line_next items i line below is = drop-cons items i line below ∙ ap (λ (l : ItemLine). l ∷ drop (suc i) items) (sym is) ∙ ap (λ n. line ∷ drop n items) (sym (add-one i))

one_more : (line : ItemLine) (i : ℕ) (s : Standing) → s.calls ≤ i → (behind_line s line).calls ≤ i + 1
one_more line i s few = by line.said where
  by : (said : Said) → s.calls + one_call said ≤ i + 1
  by (Call place reply) = omega (arith, few)
  by (Begin reach) = omega (arith, few)
  by (Next reach shown) = omega (arith, few)
  by (Entered object number event answer) = omega (arith, few)

module _ (items : List ItemLine) (i : ℕ) (line : ItemLine) (next : drop i items ≡ line ∷ drop (i + 1) items) where
  abbrev left : ℕ → List ItemLine
  left worker = items_of (drop (i + 1) items) worker

  here : (worker : ℕ) (b : Bool) → (line.worker == worker) ≡ b → items_of (drop i items) worker ≡ cond b (line ∷ left worker) (left worker)
  here worker b is = ap (λ (ls : List ItemLine). items_of ls worker) next ∙ ap (λ (c : Bool). cond c (line ∷ left worker) (left worker)) is

  pub other_stands : (worker : ℕ) (s : Standing) → (line.worker == worker) ≡ false → StandsTo items i worker s → StandsTo items (i + 1) worker s
  other_stands worker s apart to =
      let same = here worker false apart in
      let few = to.few in
      record {
        all = (λ all. subst (AllStand worker s) same (to.all.0 all), λ all. to.all.1 (subst (AllStand worker s) (sym same) all));
        last = to.last ∙ ap (behind_lines s) same;
        few = omega (arith, few);
      }

  module _ (s : Standing) (to : StandsTo items i line.worker s) where
    own : items_of (drop i items) line.worker ≡ line ∷ left line.worker
    own = here line.worker true (eq-eqb line.worker line.worker refl)

    pub own_stands : MayStand line.worker s line → StandsTo items (i + 1) line.worker (behind_line s line)
    own_stands may = record {
      all = (λ all. (subst (AllStand line.worker s) own (to.all.0 all)).1, λ all. to.all.1 (subst (AllStand line.worker s) (sym own) (may, all)));
      last = to.last ∙ ap (behind_lines s) own;
      few = one_more line i s to.few;
    }

    pub none_stands : (MayStand line.worker s line → ⊥) → AllStand line.worker at_start (items_of items line.worker) → ⊥
    none_stands may_not all = may_not (subst (AllStand line.worker s) own (to.all.0 all)).0

-- ---- all workers

pub apart : (a b : ℕ) → (a ≡ b → ⊥) → (a == b) ≡ false
apart a b differ = by (a == b) refl where
  by : (t : Bool) → (a == b) ≡ t → t ≡ false
  by true is = absurd (differ (eqb-true a b is))
  by false is = refl

-- a test that fails
pub not_below : (a b : ℕ) → b ≤ a → nat_lt a b ≡ false
not_below a b past = by (nat_lt a b) refl where
  by : (t : Bool) → nat_lt a b ≡ t → t ≡ false
  by true is = let less = ltb-true a b is in absurd (omega (arith, less, past))
  by false is = refl

module _ (n : ℕ) (items : List ItemLine) where
  -- so it is of each of the first n workers
  pub record KnownTo (i : ℕ) (known : List Known) : Type 0 where
    pub count : length known ≡ n
    pub each : (worker : ℕ) (one : Known) → slice_get known worker ≡ Some one → StandsTo items i worker (standing one)

  pub none_known : (known : List Known) → map standing known ≡ replicate n at_start → KnownTo 0 known
  none_known known are = record { count = count; each = each } where
    count : length known ≡ n
    count = sym (length-map known standing) ∙ ap length are ∙ length-replicate n at_start

    each : (worker : ℕ) (one : Known) → slice_get known worker ≡ Some one → StandsTo items 0 worker (standing one)
    each worker one at =
        let within = slice_get_within known worker one at in
        let read : get_or (map standing known) worker at_start ≡ standing one = get_or_from_slice_get (map standing known) worker (standing one) at_start (slice_get-map standing known worker ∙ ap (λ (o : Option Known). option_map standing o) at) in
        let start : standing one ≡ at_start = sym read ∙ ap (λ (ss : List Standing). get_or ss worker at_start) are ∙ get_or-replicate n worker at_start at_start (omega (arith, within, count)) in
        subst (StandsTo items 0 worker) (sym start) (record { all = (λ all. all, λ all. all); last = refl; few = omega arith })

  module _ (i : ℕ) (known : List Known) (to : KnownTo i known) (line : ItemLine) (next : drop i items ≡ line ∷ drop (i + 1) items) where
    pub passed_over : n ≤ line.worker → KnownTo (i + 1) known
    passed_over past = record {
      count = to.count;
      each = λ worker one at.
          let within = slice_get_within known worker one at in
          let count = to.count in
          other_stands items i line next worker (standing one) (apart line.worker worker (λ same. omega (arith, past, within, count, same))) (to.each worker one at);
    }

    module _ (one : Known) (at : slice_get known line.worker ≡ Some one) where
      pub few : one.calls ≤ i
      few = (to.each line.worker one at).few

      pub fails : (MayStand line.worker (standing one) line → ⊥) → SomeFails n items
      fails may_not =
          let within = slice_get_within known line.worker one at in
          let count = to.count in
          (line.worker, omega (arith, within, count), none_stands items i line next (standing one) (to.each line.worker one at) may_not)

      pub one_known_more : MayStand line.worker (standing one) line → (behind : Known) → standing behind ≡ behind_line (standing one) line → KnownTo (i + 1) (set known line.worker behind)
      one_known_more may behind is = record { count = length-set known line.worker behind ∙ to.count; each = λ worker other there. by worker other there (line.worker == worker) refl } where
        by : (worker : ℕ) (other : Known) → slice_get (set known line.worker behind) worker ≡ Some other → (b : Bool) → (line.worker == worker) ≡ b → StandsTo items (i + 1) worker (standing other)
        by worker other there true mine =
            let same : line.worker ≡ worker = eqb-true line.worker worker mine in
            let that : other ≡ behind = same_Some other behind (sym there ∙ ap (slice_get (set known line.worker behind)) (sym same) ∙ get-set_within known line.worker behind (slice_get_within known line.worker one at)) in
            let own : StandsTo items (i + 1) line.worker (standing behind) = subst (StandsTo items (i + 1) line.worker) (sym is) (own_stands items i line next (standing one) (to.each line.worker one at) may) in
            subst (λ (k : Known). StandsTo items (i + 1) worker (standing k)) (sym that) (subst (λ (w : ℕ). StandsTo items (i + 1) w (standing behind)) same own)
        by worker other there false not_mine =
            let differ : worker ≡ line.worker → ⊥ = λ same. false≢true (sym not_mine ∙ eq-eqb line.worker worker (sym same)) in
            other_stands items i line next worker (standing other) not_mine (to.each worker other (sym (get-set_other known line.worker worker behind differ) ∙ there))

  pub all_known : (i : ℕ) (known : List Known) → length items ≤ i → KnownTo i known → AreKnown n items known
  all_known i known all to = record {
    count = to.count;
    each = λ worker one at.
        let none : items_of (drop i items) worker ≡ [] = ap (λ (ls : List ItemLine). items_of ls worker) (drop_all i items all) in
        let stands = to.each worker one at in
        (stands.all.1 (subst (AllStand worker (standing one)) (sym none) tt), sym (stands.last ∙ ap (behind_lines (standing one)) none));
  }

  -- ---- no call is counted that there isn't

  module _ (known : List Known) (are : AreKnown n items known) where
    abbrev calls_of : Known → ℕ
    calls_of one = one.calls

    calls_are : (worker : ℕ) → slice_index (map calls_of known) worker ≡ calls_by n items worker
    calls_are worker = by (slice_get_cases known worker).1 where
      by : ((one : Known) × (worker < length known) × (slice_get known worker ≡ Some one) × (get_or known worker one ≡ one)) ⊎ ((length known ≤ worker) × (slice_get known worker ≡ None)) → slice_index (map calls_of known) worker ≡ calls_by n items worker
      by (inl (one, within, there, read)) =
          let count = are.count in
          get_or_from_slice_get (map calls_of known) worker one.calls 0 (slice_get-map calls_of known worker ∙ ap (λ (o : Option Known). option_map calls_of o) there)
          ∙ ap (λ (s : Standing). s.calls) (are.each worker one there).1
          ∙ sym (ap (λ (b : Bool). cond b (last_of items worker).calls 0) (lt-ltb worker n (omega (arith, within, count))))
      by (inr (past, none)) =
          let count = are.count in
          let long = length-map known calls_of in
          get_or_past (map calls_of known) worker 0 (omega (arith, past, long)) ∙ sym (ap (λ (b : Bool). cond b (last_of items worker).calls 0) (not_below worker n (omega (arith, past, count))))

    pub kept : AllMade known → KeepFronts n items
    kept made = record { each = λ worker below. (at worker below).2.0; made = λ worker other below. let (one, there, stands) = at worker below in by one worker other stands.1 (made worker one there other) } where
      at : (worker : ℕ) → worker < n → (one : Known) × (slice_get known worker ≡ Some one) × (AllStand worker at_start (items_of items worker) × (standing one ≡ last_of items worker))
      at worker below = from (slice_get_cases known worker).1 where
        from : ((one : Known) × (worker < length known) × (slice_get known worker ≡ Some one) × (get_or known worker one ≡ one)) ⊎ ((length known ≤ worker) × (slice_get known worker ≡ None)) → (one : Known) × (slice_get known worker ≡ Some one) × (AllStand worker at_start (items_of items worker) × (standing one ≡ last_of items worker))
        from (inl (one, within, there, read)) = (one, there, are.each worker one there)
        from (inr (past, none)) = let count = are.count in absurd (omega (arith, past, count, below))

      by : (one : Known) (worker other : ℕ) → standing one ≡ last_of items worker → slice_index one.front.now other ≤ slice_index (map calls_of known) other → slice_index (last_of items worker).front other ≤ calls_by n items other
      by one worker other is least = let calls = calls_are other in let front = ap (λ (s : Standing). slice_index s.front other) is in omega (arith, least, calls, front)

    pub are_made : KeepFronts n items → AllMade known
    are_made keep worker one there other =
        let within = slice_get_within known worker one there in
        let count = are.count in
        let least = keep.made worker other (omega (arith, within, count)) in
        let calls = calls_are other in
        let front = ap (λ (s : Standing). slice_index s.front other) (are.each worker one there).1 in
        omega (arith, least, calls, front)
