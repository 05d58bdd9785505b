-- Who holds a lock, and who closed a gate.
use Rattle.std.proofs.Common.{◌≡◌, ◌≢◌, ℕ, zero, suc, ◌+◌, ◌^◌, ◌<◌, ◌≤◌, Bool, true, false, cond, List, [], ◌∷◌, length, None, slice_get, slice_index, ◌⊎◌, inl, inr, refl, sym, ap, ◌∙◌, subst, arith}
use Rattle.std.proofs.lemmas.Bool.{cases_eq, lt-ltb}
use Rattle.std.proofs.lemmas.Option.{none-some}
use Rattle.trie_nodes.specs.Layout.{dead_word}
use Rattle.table_rule.specs.declared.begin.Begin.{Begin}
use Rattle.table_rule.specs.declared.view.Gate.{Gate}
use Rattle.table_rule.specs.declared.view.Gate.TheVariants.{Outside, Inside, Closed}
use Rattle.table_rule.specs.declared.view.Lock.{Lock}
use Rattle.table_rule.specs.declared.view.Own.{Own}
use Rattle.table_rule.specs.declared.view.View.{View}
use Rattle.table_rule.specs.Gates.{count_below, closed_bit}
use Rattle.table_rule.specs.Layout.{gate_word, callers_of}
use Rattle.table_rule.specs.LawWords.{IsSeat, StandsFor, AllAtRest}
use Rattle.table_rule.specs.Owed.{Locks, HoldsLock, AtGate, Suits}
use Rattle.table_rule.specs.Rule.{TableState, Kept}
use Rattle.table_rule.specs.Views.{IsIdle}

-- one that passes the test is counted
counted : (f : ℕ → Bool) (c n : ℕ) → c < n → f c ≡ true → 0 < count_below f n
counted f c zero below is = absurd (omega arith)
counted f c (suc n) below is = by_test (f n) refl (λ less. counted f c n less is)
  where
    by_test : (b : Bool) → f n ≡ b → (c < n → 0 < count_below f n) → 0 < cond b (suc (count_below f n)) (count_below f n)
    by_test true e earlier = omega arith
    by_test false e earlier = elim (cases_eq c n) [
      | inl last ↦ absurd (let z : false ≡ true = sym e ∙ ap f (sym last) ∙ is in (cc))
      | inr ne ↦ earlier (omega arith)
    ]

-- and where none does, the count is 0
uncounted : (f : ℕ → Bool) (n : ℕ) → ((c : ℕ) → c < n → f c ≡ false) → count_below f n ≡ 0
uncounted f zero none_in = refl
uncounted f (suc n) none_in = ap (λ b. cond b (suc (count_below f n)) (count_below f n)) (none_in n (omega arith)) ∙ uncounted f n (λ c below. none_in c (omega arith))

closed_large : (closer : ℕ) → 0 < closer → closed_bit closer ≡ 2 ^ 32
closed_large closer stands = ap (λ b. cond b (2 ^ 32) 0) (lt-ltb 0 closer stands)

module _ (k : Begin) (s : TableState) (r : Kept k s) where
  suits : (j : ℕ) (v : View) → IsSeat s j v → Suits k r.shape r.log r.calls s.words v
  suits j v is = r.suits j v is.0 is.1

  -- a seat that isn't outside of all gates stands for a caller, whose seat it is
  claimed : (j : ℕ) (v : View) → IsSeat s j v → v.gate ≢ Outside → r.claim v.number ≡ j
  claimed j v is busy = by_owns v.owns refl
    where
      by_owns : (owns : List Own) → v.owns ≡ owns → r.claim v.number ≡ j
      by_owns [] e = absurd (busy ((suits j v is).nobody (ap length e)))
      by_owns (own ∷ owns) e = let number : v.number ≡ v.number + 0 = omega arith in ap r.claim number ∙ ((r.fits j v is.0 is.1).owns 0 own (ap (λ l. slice_get l 0) e)).claimed

  few : (j : ℕ) (v : View) (caller : ℕ) → IsSeat s j v → StandsFor v caller → caller < callers_of k
  few j v caller is (i, own, at, number) = let below = ((r.fits j v is.0 is.1).owns i own at).below in omega arith

  -- what a lock that a seat holds is
  held : (j p : ℕ) (v : View) → IsSeat s j v → HoldsLock v p → (m : ℕ) × (l : Lock) × (v.gate ≡ Inside m) × (l.node ≡ p) × Locks k r.shape s.words v.number m l
  held j p v is h = elim h.1 [
    | inl lock ↦ let t = (suits j v is).lock h.0 lock in (t.0, h.0, t.1, h.2, t.2)
    | inr upper ↦ let t = (suits j v is).upper h.0 upper in (t.0, h.0, t.1, h.2, t.2)
  ]

  pub holds_inside : (j p : ℕ) (v : View) → IsSeat s j v → HoldsLock v p → (m : ℕ) × (v.gate ≡ Inside m) × (r.shape.kind_of p ≡ 1) × (r.shape.map_of p ≡ m) × (r.shape.cut_of p ≡ None)
  holds_inside j p v is h = let t = held j p v is h in (t.0, t.2, ap r.shape.kind_of (sym t.3) ∙ t.4.node, ap r.shape.map_of (sym t.3) ∙ t.4.map, ap r.shape.cut_of (sym t.3) ∙ t.4.reachable)

  pub holds_word : (j p : ℕ) (v : View) → IsSeat s j v → HoldsLock v p → (slice_index s.words p ≡ suc v.number) ⊎ (slice_index s.words p ≡ dead_word)
  holds_word j p v is h = let t = held j p v is h in by_dead t.1.dead (ap (slice_index s.words) (sym t.3) ∙ t.4.word)
    where
      by_dead : (b : Bool) → slice_index s.words p ≡ cond b dead_word (suc v.number) → (slice_index s.words p ≡ suc v.number) ⊎ (slice_index s.words p ≡ dead_word)
      by_dead true e = inr e
      by_dead false e = inl e

  pub inside_counted : (j m : ℕ) (v : View) → IsSeat s j v → v.gate ≡ Inside m → (m < k.maps) × (r.shape.inside m v.number ≡ true) × (0 < slice_index s.words (gate_word k m))
  inside_counted j m v is gate =
      let at = subst (AtGate k r.shape v.number) gate (suits j v is).gate in
      let g = r.gates m at.0 in
      let more = counted (r.shape.inside m) v.number (callers_of k) (g.callers v.number at.1) at.1 in
      let word = g.word in (at.0, at.1, omega arith)

  not_outside : (m : ℕ) (gate : Gate) → gate ≡ Inside m → gate ≢ Outside
  not_outside m gate e out = let f : Inside m ≡ Outside = sym e ∙ out in (cc)

  pub one_holder : (i j p : ℕ) (u v : View) → IsSeat s i u → IsSeat s j v → HoldsLock u p → HoldsLock v p → i ≡ j
  one_holder i j p u v is_u is_v h_u h_v =
      let a = held i p u is_u h_u in
      let b = held j p v is_v h_v in
      let same : suc u.number ≡ suc v.number = sym a.4.mine ∙ ap r.shape.held_by (a.3 ∙ sym b.3) ∙ b.4.mine in
      let number : u.number ≡ v.number = omega arith in
      sym (claimed i u is_u (not_outside a.0 u.gate a.2)) ∙ ap r.claim number ∙ claimed j v is_v (not_outside b.0 v.gate b.2)

  pub named_holds : (j p caller : ℕ) (v : View) → IsSeat s j v → StandsFor v caller → r.shape.kind_of p ≡ 1 → r.shape.cut_of p ≡ None → slice_index s.words p ≡ suc caller → HoldsLock v p
  named_holds j p caller v is stands kind reach word =
      let below = few j v caller is stands in
      let most = r.begin.callers in
      let alive : slice_index s.words p ≢ dead_word = (λ dead. absurd (let e : suc caller ≡ dead_word = sym word ∙ dead in omega arith)) in
      let mine : r.shape.held_by p ≡ suc caller = r.fine.held p kind alive ∙ word in
      (suits j v is).holder p stands.0 stands.1 stands.2 reach (mine ∙ ap suc (sym stands.3))

  pub one_closer : (i j m : ℕ) (u v : View) (a b : Bool) → IsSeat s i u → IsSeat s j v → u.gate ≡ Closed m a → v.gate ≡ Closed m b → i ≡ j
  one_closer i j m u v a b is_u is_v gate_u gate_v =
      let at_u = subst (AtGate k r.shape u.number) gate_u (suits i u is_u).gate in
      let at_v = subst (AtGate k r.shape v.number) gate_v (suits j v is_v).gate in
      let same : suc u.number ≡ suc v.number = sym at_u.1 ∙ at_v.1 in
      let number : u.number ≡ v.number = omega arith in
      sym (claimed i u is_u (λ out. let f : Closed m a ≡ Outside = sym gate_u ∙ out in (cc))) ∙ ap r.claim number ∙ claimed j v is_v (λ out. let f : Closed m b ≡ Outside = sym gate_v ∙ out in (cc))

  pub closed_word : (j m : ℕ) (v : View) (alone : Bool) → IsSeat s j v → v.gate ≡ Closed m alone → 2 ^ 32 ≤ slice_index s.words (gate_word k m)
  closed_word j m v alone is gate =
      let at = subst (AtGate k r.shape v.number) gate (suits j v is).gate in
      let closer = at.1 in
      let bit = closed_large (r.shape.closed_by m) (omega arith) in
      let word = (r.gates m at.0).word in omega arith

  pub closed_alone : (j m : ℕ) (v : View) → IsSeat s j v → v.gate ≡ Closed m true → slice_index s.words (gate_word k m) ≡ 2 ^ 32
  closed_alone j m v is gate =
      let at = subst (AtGate k r.shape v.number) gate (suits j v is).gate in
      let closer = at.1 in
      let bit = closed_large (r.shape.closed_by m) (omega arith) in
      let none_in = uncounted (r.shape.inside m) (callers_of k) (λ c below. at.2 refl c) in
      let word = (r.gates m at.0).word in omega arith

  -- a caller between two calls
  pub idle_node : (j p caller : ℕ) (v : View) → IsSeat s j v → IsIdle v → StandsFor v caller → r.shape.kind_of p ≡ 1 → r.shape.cut_of p ≡ None → slice_index s.words p ≢ suc caller
  idle_node j p caller v is idle stands kind reach word = let h = named_holds j p caller v is stands kind reach word in elim h.1 [
    | inl lock ↦ none-some h.0 (sym idle.lock ∙ lock)
    | inr upper ↦ none-some h.0 (sym idle.upper ∙ upper)
  ]

  pub idle_gate : (j m caller : ℕ) (v : View) → IsSeat s j v → IsIdle v → StandsFor v caller → (r.shape.inside m caller ≡ false) × (r.shape.closed_by m ≢ suc caller)
  idle_gate j m caller v is idle stands = (
    by_test (r.shape.inside m caller) refl,
    λ closed.
        let c = (suits j v is).closer m stands.0 stands.1 stands.2 (closed ∙ ap suc (sym stands.3)) in
        absurd (let e : Outside ≡ Closed m c.0 = sym idle.gate ∙ c.1 in (cc)),
  )
    where
      by_test : (b : Bool) → r.shape.inside m caller ≡ b → b ≡ false
      by_test true e = absurd (let g = (suits j v is).only m stands.0 stands.1 stands.2 (ap (r.shape.inside m) stands.3 ∙ e) in let f : Outside ≡ Inside m = sym idle.gate ∙ g in (cc))
      by_test false e = refl

  pub gates_at_rest : (m : ℕ) → AllAtRest k s → m < k.maps → slice_index s.words (gate_word k m) ≡ 0
  gates_at_rest m rest below =
      let g = r.gates m below in
      let none_in = uncounted (r.shape.inside m) (callers_of k) (λ c few. let t = rest c few in (idle_gate t.0 m c t.1 t.2 t.3 t.4).0) in
      let bit = ap closed_bit (open_at (r.shape.closed_by m) refl) in
      let word = g.word in omega arith
    where
      open_at : (closer : ℕ) → r.shape.closed_by m ≡ closer → closer ≡ 0
      open_at zero e = refl
      open_at (suc c) e = absurd (let t = rest c ((r.gates m below).closers c e) in (idle_gate t.0 m c t.1 t.2 t.3 t.4).1 e)
