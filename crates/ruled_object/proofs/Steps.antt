-- Each step on an object's table keeps its rule.
use Rattle.std.proofs.Common.{◌≡◌, ◌≢◌, ℕ, zero, suc, ◌+◌, ◌*◌, ◌%◌, ◌^◌, ◌<◌, ◌≤◌, Bool, cond, eqb, eq-eqb, ne_eqb, ◌⊎◌, inl, inr, ⊎_elim, List, [], ◌∷◌, ◌++◌, length, replicate, get_or, set, Option, Some, None, refl, sym, ap, ◌∙◌, subst, arith, length-set, length-append, get_or-set_same}
use Rattle.std.specs.Prelude.{sum_by}
use Rattle.std.specs.List.{range_with_len}
use Rattle.std.proofs.lemmas.List.{length-replicate}
use Rattle.std.proofs.lemmas.List.Sums.{sum_by-cons}
use mathlib.Core.Logic.{dite}
use mathlib.Core.Option.{some, none, some-ne-none, some-injective}
use native.Mathlib.Decide.{ℕ_discrete}
use prog.Atomic.{either}
use lib.ListN.{get_elem?}
use lib.Seq.{set-get_or}
use Rattle.std.proofs.Math.Nat.{lt_of_not-le}
use Rattle.atomic_table.specs.Table.{State, keeps, stepped, Allows, Enters, Splits, Joins, opening, Final, Seen}
use Rattle.atomic_table.specs.Table as table
use Rattle.atomic_table.proofs.Lists.{at_set, at_snoc, set_here, set_else, set_again, at_longer}
use Rattle.sync_model.specs.Front.{Front}
use Rattle.sync_model.specs.declared.journal.Entry.{Entry}
use Rattle.sync_model.specs.Journal.{Begins, by}
use Rattle.ruled_object.specs.declared.cell.Cell.{Cell}
use Rattle.ruled_object.specs.declared.rule.Begin.{Begin}
use Rattle.ruled_object.specs.declared.view.Stage.{Stage}
use Rattle.ruled_object.specs.declared.view.Stage.TheVariants.{Idle, Making, Taken, Deep}
use Rattle.ruled_object.specs.declared.view.Own.{Own}
use Rattle.ruled_object.specs.declared.view.View.{View}
use Rattle.ruled_object.specs.Rule.{HasWord, IsFree, IsHeld, Homes, AtStage, Owned, Fits, Lawful, Lies, Rests, Kept, all_turns}
use Rattle.ruled_object.specs.Steps.{Sat, first_of, on_first, others_of, blank, new_own, first_view, taken, one_turn, deepened, raised, added, gave, dealt, kept, joined, made, Learns, TakesWord, TakesRest, MayAdd, MayGive}
use Rattle.ruled_object.proofs.Journals.{begins_all, begins_more, by_here, by_other, follows_snoc, times_snoc, edges_snoc}

module _ {V : Type 0} where
  -- what is true of the seat that stepped, and of each other, is true of all
  pub each_after : (P : ℕ → V → Type 0) (vs : List V) (me : ℕ) (w : V) → P me w → ((j : ℕ) (u : V) → j ≢ me → get_elem? vs j ≡ some u → P j u) → (j : ℕ) (u : V) → get_elem? (set vs me w) j ≡ some u → P j u
  each_after P vs me w mine others j u e = ⊎_elim (λ (t : (j ≡ me) × (w ≡ u)). subst (λ (x : ℕ × V). P x.0 x.1) (λ i. (sym t.0 i, t.1 i)) mine)
      (λ (t : (j ≢ me) × (get_elem? vs j ≡ some u)). others j u t.0 t.1) (at_set vs me j w u e)

  there : (vs : List V) (i : ℕ) (v : V) → get_elem? vs i ≡ some v → i < length vs
  there [] i v e = absurd (some-ne-none v (sym e))
  there (x ∷ xs) zero v e = omega arith
  there (x ∷ xs) (suc i) v e = let h = there xs i v e in omega arith

  pub in_blank : (n i : ℕ) (x y : V) → get_elem? (replicate n x) i ≡ some y → (i < n) × (x ≡ y)
  in_blank zero i x y e = absurd (some-ne-none y (sym e))
  in_blank (suc n) zero x y e = (omega arith, some-injective x y e)
  in_blank (suc n) (suc i) x y e = let t = in_blank n i x y e in let h = t.0 in (omega arith, t.1)

  in_first : (xs : List V) (i : ℕ) (y : V) → get_elem? (first_of xs) i ≡ some y → (i ≡ 0) × (get_elem? xs 0 ≡ some y)
  in_first [] i y e = absurd (some-ne-none y (sym e))
  in_first (x ∷ xs) zero y e = (refl, e)
  in_first (x ∷ xs) (suc i) y e = absurd (some-ne-none y (sym e))

  in_on_first : (change : V → V) (xs : List V) (i : ℕ) (y : V) → get_elem? (on_first change xs) i ≡ some y → ((i ≡ 0) × ((x : V) × (get_elem? xs 0 ≡ some x) × (change x ≡ y))) ⊎ ((i ≢ 0) × (get_elem? xs i ≡ some y))
  in_on_first change [] i y e = absurd (some-ne-none y (sym e))
  in_on_first change (x ∷ xs) zero y e = inl (refl, (x, refl, some-injective (change x) y e))
  in_on_first change (x ∷ xs) (suc i) y e = inr ((λ h. omega arith), e)

  pub length-on_first : (change : V → V) (xs : List V) → length (on_first change xs) ≡ length xs
  length-on_first change [] = refl
  length-on_first change (x ∷ xs) = refl

  in_others : (xs : List V) (i : ℕ) (y : V) → get_elem? (others_of xs) i ≡ some y → get_elem? xs (suc i) ≡ some y
  in_others [] i y e = absurd (some-ne-none y (sym e))
  in_others (x ∷ xs) i y e = e

  in_both : (xs ys : List V) (i : ℕ) (z : V) → get_elem? (xs ++ ys) i ≡ some z → (get_elem? xs i ≡ some z) ⊎ ((j : ℕ) × (length xs + j ≡ i) × (get_elem? ys j ≡ some z))
  in_both [] ys i z e = inr (i, omega arith, e)
  in_both (x ∷ xs) ys zero z e = inl e
  in_both (x ∷ xs) ys (suc i) z e = ⊎_elim (λ t. inl t) (λ t. let s = t.1 in inr (t.0, omega arith, t.2)) (in_both xs ys i z e)

  -- what stands in a list with one more item stands in the list, or is that item
  at_end : (l : List V) (a b : V) (j : ℕ) → get_elem? (l ++ a ∷ []) j ≡ some b → (get_elem? l j ≡ some b) ⊎ ((j ≡ length l) × (a ≡ b))
  at_end [] a b zero e = inr (refl, some-injective a b e)
  at_end [] a b (suc j) e = absurd (some-ne-none b (sym e))
  at_end (x ∷ xs) a b zero e = inl e
  at_end (x ∷ xs) a b (suc j) e = ⊎_elim (λ t. inl t) (λ t. inr (ap suc t.0, t.1)) (at_end xs a b j e)

  pub first_there : (xs : List V) (i : ℕ) → i < length xs → (x : V) × (get_elem? xs i ≡ some x)
  first_there [] i h = absurd (omega arith)
  first_there (x ∷ xs) zero h = (x, refl)
  first_there (x ∷ xs) (suc i) h = first_there xs i (omega arith)

-- a step on one word leaves the other
second_of_set : (ws : List ℕ) (n : ℕ) → get_or (set ws 0 n) 1 0 ≡ get_or ws 1 0
second_of_set [] n = refl
second_of_set (w ∷ ws) n = refl

pub first_is : (ws : List ℕ) (n : ℕ) → get_elem? ws 0 ≡ some n → get_or ws 0 0 ≡ n
first_is [] n e = absurd (some-ne-none n (sym e))
first_is (w ∷ ws) n e = some-injective w n e

first_of_set : (ws : List ℕ) (n : ℕ) → get_or (set ws 1 n) 0 0 ≡ get_or ws 0 0
first_of_set [] n = refl
first_of_set (w ∷ ws) n = refl

-- one turn more of one caller
abbrev one_more : ℕ → (ℕ → ℕ) → ℕ → ℕ
one_more caller turns c = cond (eqb c caller) (suc (turns c)) (turns c)

one_more_of : (caller : ℕ) (turns : ℕ → ℕ) → one_more caller turns caller ≡ suc (turns caller)
one_more_of caller turns = ap (λ (b : Bool). cond b (suc (turns caller)) (turns caller)) (eq-eqb caller caller refl)

none_more_of : (caller : ℕ) (turns : ℕ → ℕ) (c : ℕ) → c ≢ caller → one_more caller turns c ≡ turns c
none_more_of caller turns c other = ap (λ (b : Bool). cond b (suc (turns c)) (turns c)) (ne_eqb c caller other)

-- callers behind it count together what they did
same_sum : (caller : ℕ) (turns : ℕ → ℕ) (a n : ℕ) → caller < a → sum_by (one_more caller turns) (range_with_len a n) ≡ sum_by turns (range_with_len a n)
same_sum caller turns a zero behind = refl
same_sum caller turns a (suc n) behind =
    let here = none_more_of caller turns a (λ k. omega arith) in let more = same_sum caller turns (a + 1) n (omega arith) in
    let new = sum_by-cons (one_more caller turns) a (range_with_len (a + 1) n) in let old = sum_by-cons turns a (range_with_len (a + 1) n) in omega arith

one_more_in : (caller : ℕ) (turns : ℕ → ℕ) (a n : ℕ) → a ≤ caller → caller < a + n → sum_by (one_more caller turns) (range_with_len a n) ≡ suc (sum_by turns (range_with_len a n))
one_more_in caller turns a zero from below = absurd (omega arith)
one_more_in caller turns a (suc n) from below =
    let new = sum_by-cons (one_more caller turns) a (range_with_len (a + 1) n) in let old = sum_by-cons turns a (range_with_len (a + 1) n) in dite (ℕ_discrete a caller)
    (λ is. let here = subst (λ (c : ℕ). one_more caller turns c ≡ suc (turns c)) (sym is) (one_more_of caller turns) in let more = same_sum caller turns (a + 1) n (omega arith) in omega arith)
    (λ other. let here = none_more_of caller turns a other in let more = one_more_in caller turns (a + 1) n (omega arith) (omega arith) in omega arith)

-- where one caller took one turn more, all took one more
all_one_more : (callers caller : ℕ) (turns : ℕ → ℕ) → caller < callers → all_turns callers (one_more caller turns) ≡ suc (all_turns callers turns)
all_one_more callers caller turns below = one_more_in caller turns 0 callers (omega arith) (omega arith)

none_in : (a n : ℕ) → sum_by (λ c. 0) (range_with_len a n) ≡ 0
none_in a zero = refl
none_in a (suc n) = let here = sum_by-cons (λ c. 0) a (range_with_len (a + 1) n) in let more = none_in (a + 1) n in omega arith

-- a step on the turn word where all callers took so many turns
count_up : (word all : ℕ) → (word + 0) % 2 ^ 64 ≡ (2 * all) % 2 ^ 64 → ((word + 1) % 2 ^ 64 + 1) % 2 ^ 64 ≡ (2 * suc all) % 2 ^ 64
count_up word all e = omega arith

count_on : (word all : ℕ) → (word + 1) % 2 ^ 64 ≡ (2 * all) % 2 ^ 64 → ((word + 1) % 2 ^ 64 + 0) % 2 ^ 64 ≡ (2 * all) % 2 ^ 64
count_on word all e = omega arith

module _ {E R : Type 0} where
  heard_more : (journal seen : List (Entry E R)) (heard : List (List (Entry E R))) → Begins journal seen → ((i : ℕ) (xs : List (Entry E R)) → get_elem? heard i ≡ some xs → Begins journal xs)
      → (i : ℕ) (xs : List (Entry E R)) → get_elem? (seen ∷ heard) i ≡ some xs → Begins journal xs
  heard_more journal seen heard one all zero xs e = subst (Begins journal) (some-injective seen xs e) one
  heard_more journal seen heard one all (suc i) xs e = all i xs e

module _ {S N E R : Type 0} (callers : ℕ) where
  -- what another seat knows stays so
  fits_on : (journal journal' : List (Entry E R)) (word word' turn turn' holder holder' : ℕ) (homes homes' : Homes S N) (claim claim' turns turns' : ℕ → ℕ) (j : ℕ) (v : View E R)
      → ((xs : List (Entry E R)) → Begins journal xs → Begins journal' xs) → ((c : ℕ) → claim c ≡ j → (claim' c ≡ j) × (by c journal' ≡ by c journal) × (turns' c ≡ turns c))
      → (AtStage journal word turn homes holder j v.seen v.stage → AtStage journal' word' turn' homes' holder' j v.seen v.stage)
      → Fits callers journal word turn homes holder claim turns j v → Fits callers journal' word' turn' homes' holder' claim' turns' j v
  fits_on journal journal' word word' turn turn' holder holder' homes homes' claim claim' turns turns' j v more same still f = record {
    seen = more v.seen f.seen;
    heard = λ i xs e. more xs (f.heard i xs e);
    owns = λ i own e. let o = f.owns i own e in let s = same (v.number + i) o.1 in (o.0, s.0, o.2 ∙ sym s.1, o.3 ∙ sym s.2);
    stage = still f.stage;
  }

  -- a seat without the word doesn't mind who has it
  idle_on : (journal journal' : List (Entry E R)) (word word' turn turn' holder holder' : ℕ) (homes homes' : Homes S N) (j : ℕ) (seen : List (Entry E R)) (st : Stage)
      → (HasWord st → ⊥) → AtStage journal word turn homes holder j seen st → AtStage journal' word' turn' homes' holder' j seen st
  idle_on journal journal' word word' turn turn' holder holder' homes homes' j seen Idle without f = tt
  idle_on journal journal' word word' turn turn' holder holder' homes homes' j seen Making without f = absurd (without tt)
  idle_on journal journal' word word' turn turn' holder holder' homes homes' j seen Taken without f = absurd (without tt)
  idle_on journal journal' word word' turn turn' holder holder' homes homes' j seen Deep without f = absurd (without tt)

  -- a seat with the word is the one that has it
  pub word_is : (journal : List (Entry E R)) (word turn holder : ℕ) (homes : Homes S N) (j : ℕ) (seen : List (Entry E R)) (st : Stage) → AtStage journal word turn homes holder j seen st → HasWord st → (j ≡ holder) × IsHeld word
  word_is journal word turn holder homes j seen Idle f h = absurd h
  word_is journal word turn holder homes j seen Making f h = (f.2, f.0)
  word_is journal word turn holder homes j seen Taken f h = (f.2, f.0)
  word_is journal word turn holder homes j seen Deep f h = (f.2, f.0)

-- a word that is held isn't free
pub not_both : (word : ℕ) → IsFree word → IsHeld word → ⊥
not_both word free held = absurd (omega arith)

module _ {S N E R H : Type 0} (next : S → ℕ → E → S × R) (halts : Bool) (frees takes : E → R → Bool) (front : N → Front) (at : H → N → Type 0) (tells : S → ℕ) (means : S → ℕ → S) (begin : Begin S N) where
  abbrev St : Type 0
  St = State (Option (Cell S N)) (View E R)

  abbrev Rule : St → Type 0
  Rule = Kept next halts frees takes front at tells means begin

  abbrev word_of : St → ℕ
  word_of s = get_or s.words 0 0

  abbrev turn_of : St → ℕ
  turn_of s = get_or s.words 1 0

  abbrev V : Type 0
  V = View E R

  abbrev Journal : Type 0
  Journal = List (Entry E R)

  abbrev M : Type 0
  M = Sat S N E R

  abbrev Cl : Type 0
  Cl = Cell S N

  abbrev Legal : Journal → Type 0
  Legal = Lawful next halts frees takes front at tells means begin

  abbrev Left : Journal → ℕ → Cl → Type 0
  Left = Lies next halts frees takes front at tells means begin

  -- the making seat stands for all callers
  pub opens : 0 < begin.callers → Rule (opening (9223372036854775808 ∷ 0 ∷ []) (None ∷ []) (first_view begin.callers))
  opens some_caller = record {
    journal = [];
    holder = 0;
    claim = λ c. 0;
    turn = 0;
    turns = λ c. 0;
    wide = refl;
    lawful = record { follows = tt; edges = λ i j x y before e. (cc); times = λ i j x y before e. (cc); callers = λ c _. refl };
    each = λ j v e. let t = in_first (first_view begin.callers ∷ []) j v e in let hs : Homes S N = some None ∷ [] in
        subst (λ (z : ℕ × V). Fits begin.callers [] 9223372036854775808 0 hs 0 (λ c. 0) (λ c. 0) z.0 z.1) (λ i. (sym t.0 i, some-injective (first_view begin.callers) v t.1 i)) record {
          seen = begins_all [];
          heard = λ i xs is. absurd (some-ne-none xs (sym is));
          owns = λ i own is. let u = in_blank begin.callers i new_own own is in let h = u.0 in (omega arith, refl, ap (λ (o : Own E R). o.entries) (sym u.1), ap (λ (o : Own E R). o.turns) (sym u.1));
          stage = (omega arith, refl, refl, refl, refl);
        };
    counted = ap (λ (k : ℕ). (2 * k) % 2 ^ 64) (sym (none_in 0 begin.callers));
    free = λ e. absurd (omega arith);
    busy = λ _. (first_view begin.callers, refl, tt, subst (λ (z : ℕ). 0 < z) (sym (length-replicate {A = Own E R} begin.callers new_own)) some_caller);
  }

  -- a step on the word, of the seat that has it then or before: it sets the word, what lies in the slot, and the history
  turned : (s : St) (r : Rule s) (id : ℕ) (v w : V) (n : ℕ) (hs : Homes S N) (journal : Journal) (holder : ℕ) → get_elem? s.views id ≡ some v → Legal journal
      → Fits begin.callers journal n r.turn hs holder r.claim r.turns id w → ((xs : Journal) → Begins r.journal xs → Begins journal xs) → ((c : ℕ) → r.claim c ≢ id → by c journal ≡ by c r.journal)
      → ((j : ℕ) (u : V) → j ≢ id → get_elem? s.views j ≡ some u → HasWord u.stage → ⊥) → (IsFree n → (r.turn ≡ 0) × Rests next halts frees takes front at tells means begin journal n hs)
      → (IsHeld n → (holder ≡ id) × HasWord w.stage × (0 < length w.owns)) → Rule record { words = set s.words 0 n; homes = hs; views = set s.views id w }
  turned s r id v w n hs journal holder at_me lawful mine more same alone free busy =
      let wide = r.wide in let now : get_or (set s.words 0 n) 0 0 ≡ n = get_or-set_same s.words 0 n 0 (omega arith) in let other : get_or (set s.words 0 n) 1 0 ≡ turn_of s = second_of_set s.words n in record {
        journal = journal;
        holder = holder;
        claim = r.claim;
        turn = r.turn;
        turns = r.turns;
        wide = length-set s.words 0 n ∙ wide;
        lawful = lawful;
        each = subst (λ (z : ℕ). (j : ℕ) (u : V) → get_elem? (set s.views id w) j ≡ some u → Fits begin.callers journal z r.turn hs holder r.claim r.turns j u) (sym now)
            (each_after (Fits begin.callers journal n r.turn hs holder r.claim r.turns) s.views id w mine
            (λ j u ne e. fits_on begin.callers r.journal journal (word_of s) n r.turn r.turn r.holder holder s.homes hs r.claim r.claim r.turns r.turns j u more (λ c is. (is, same c (λ k. ne (sym is ∙ k)), refl))
            (idle_on begin.callers r.journal journal (word_of s) n r.turn r.turn r.holder holder s.homes hs j u.seen u.stage (alone j u ne e)) (r.each j u e)));
        counted = ap (λ (k : ℕ). (k + r.turn) % 2 ^ 64) other ∙ r.counted;
        free = subst (λ (z : ℕ). IsFree z → (r.turn ≡ 0) × Rests next halts frees takes front at tells means begin journal z hs) (sym now) free;
        busy = λ held. let b = busy (subst IsHeld now held) in (w, subst (λ (z : ℕ). get_elem? (set s.views id w) z ≡ some w) (sym b.0) (set_here s.views id w (there s.views id v at_me)), b.1, b.2);
      }

  -- a step on the turn, of the seat that has the word
  moved : (s : St) (r : Rule s) (id : ℕ) (v w : V) (n turn : ℕ) (turns : ℕ → ℕ) → get_elem? s.views id ≡ some v → IsHeld (word_of s) → id ≡ r.holder
      → Fits begin.callers r.journal (word_of s) turn s.homes r.holder r.claim turns id w → ((c : ℕ) → r.claim c ≢ id → turns c ≡ r.turns c) → (n + turn) % 2 ^ 64 ≡ (2 * all_turns begin.callers turns) % 2 ^ 64
      → ((j : ℕ) (u : V) → j ≢ id → get_elem? s.views j ≡ some u → HasWord u.stage → ⊥) → HasWord w.stage → 0 < length w.owns → Rule record { words = set s.words 1 n; homes = s.homes; views = set s.views id w }
  moved s r id v w n turn turns at_me held holder mine same counted alone has some_own =
      let wide = r.wide in let now : get_or (set s.words 1 n) 1 0 ≡ n = get_or-set_same s.words 1 n 0 (omega arith) in let other : get_or (set s.words 1 n) 0 0 ≡ word_of s = first_of_set s.words n in record {
        journal = r.journal;
        holder = r.holder;
        claim = r.claim;
        turn = turn;
        turns = turns;
        wide = length-set s.words 1 n ∙ wide;
        lawful = r.lawful;
        each = subst (λ (z : ℕ). (j : ℕ) (u : V) → get_elem? (set s.views id w) j ≡ some u → Fits begin.callers r.journal z turn s.homes r.holder r.claim turns j u) (sym other)
            (each_after (Fits begin.callers r.journal (word_of s) turn s.homes r.holder r.claim turns) s.views id w mine
            (λ j u ne e. fits_on begin.callers r.journal r.journal (word_of s) (word_of s) r.turn turn r.holder r.holder s.homes s.homes r.claim r.claim r.turns turns j u (λ xs b. b) (λ c is. (is, refl, same c (λ k. ne (sym is ∙ k))))
            (idle_on begin.callers r.journal r.journal (word_of s) (word_of s) r.turn turn r.holder r.holder s.homes s.homes j u.seen u.stage (alone j u ne e)) (r.each j u e)));
        counted = ap (λ (k : ℕ). (k + turn) % 2 ^ 64) now ∙ counted;
        free = λ free. absurd (not_both (word_of s) (subst IsFree other free) held);
        busy = λ _. (w, subst (λ (z : ℕ). get_elem? (set s.views id w) z ≡ some w) holder (set_here s.views id w (there s.views id v at_me)), has, some_own);
      }

  -- a step that changes nothing
  unmoved : (s : St) → Rule s → (id : ℕ) (v : V) → get_elem? s.views id ≡ some v → Rule record { words = set s.words 0 (word_of s); homes = s.homes; views = set s.views id v }
  unmoved s r id v at_me = subst (λ (x : List ℕ × List V). Rule record { words = x.0; homes = s.homes; views = x.1 }) (λ i. (sym (set-get_or s.words 0 0) i, sym (set_again s.views id v at_me) i)) r

  -- no other seat has the word
  one_holder : (s : St) (r : Rule s) (id : ℕ) → id ≡ r.holder → (j : ℕ) (u : V) → j ≢ id → get_elem? s.views j ≡ some u → HasWord u.stage → ⊥
  one_holder s r id mine j u other e h = let t = word_is begin.callers r.journal (word_of s) r.turn r.holder s.homes j u.seen u.stage (r.each j u e).stage h in other (t.0 ∙ sym mine)

  -- where the word is free no seat has it
  nobody_has : (s : St) (r : Rule s) → IsFree (word_of s) → (j : ℕ) (u : V) → get_elem? s.views j ≡ some u → HasWord u.stage → ⊥
  nobody_has s r free j u e h = let t = word_is begin.callers r.journal (word_of s) r.turn r.holder s.homes j u.seen u.stage (r.each j u e).stage h in not_both (word_of s) free t.1

  -- the making seat takes the empty slot
  pub makes : (id : ℕ) (me : M) → me.0.stage ≡ Making → me.1 ≡ [] → 0 < length me.0.owns → Allows Rule 1 id me 0 (λ _. 9223372036854775808) (λ _. made me)
  makes id me making empty some_own s r one at_me _ =
      let v : V = me.0 in let w : V = record v { stage = Taken } in let f = r.each id v at_me in
      let st : AtStage r.journal (word_of s) r.turn s.homes r.holder id v.seen Making = subst (λ (z : Stage). AtStage r.journal (word_of s) r.turn s.homes r.holder id v.seen z) making f.stage in (
        w,
        table.takes 0 None,
        st.4,
        turned s r id v w 9223372036854775808 (set s.homes 0 none) r.journal id at_me r.lawful record { seen = f.seen; heard = f.heard; owns = f.owns; stage = (omega arith, st.1, refl, st.3) }
            (λ xs b. b) (λ c _. refl) (one_holder s r id st.2) (λ e. absurd (omega arith)) (λ _. (refl, tt, some_own)),
        (λ i. (w, (0, None) ∷ empty i)),
      )

  -- a seat takes the word where nobody has it
  pub takes_word : (id : ℕ) (me : M) (expected : ℕ) → me.1 ≡ [] → 0 < length me.0.owns → IsFree expected → Allows Rule 1 id me 0 (λ x. either (eqb x expected) (expected + 9223372036854775808) x) (TakesWord next halts frees takes front at tells means begin expected me)
  takes_word id me expected empty some_own free s r one at_me _ = let v : V = me.0 in let f = r.each id v at_me in dite (ℕ_discrete (word_of s) expected)
      (λ is. let is_free : IsFree (word_of s) = subst IsFree (sym is) free in let known = r.free is_free in let rest = known.1 in let w : V = taken v r.journal in (
        w,
        table.takes 0 (Some rest.0),
        rest.1,
        subst (λ b. Rule (stepped s 0 (either b (expected + 9223372036854775808) (word_of s)) id me.1 w (table.takes 0 (Some rest.0)))) (sym (eq-eqb (word_of s) expected is))
            (turned s r id v w (expected + 9223372036854775808) (set s.homes 0 none) r.journal id at_me r.lawful record { seen = begins_all r.journal; heard = f.heard; owns = f.owns; stage = (omega arith, known.0, refl, refl) }
            (λ xs b. b) (λ c _. refl) (λ j u _ e h. nobody_has s r is_free j u e h) (λ e. absurd (omega arith)) (λ _. (refl, tt, some_own))),
        (
          (λ _. (
            r.journal,
            rest.0,
            (λ i. (w, (0, Some rest.0) ∷ empty i)),
            record { seen = f.seen; heard = f.heard; owns = λ i xs e. let o = f.owns i xs e in (o.0, o.2); lawful = r.lawful; lies = rest.2 },
            is_free,
          )),
          λ ne. absurd (ne is),
        ),
      ))
      (λ other. (
        v,
        keeps,
        tt,
        subst (λ b. Rule (stepped s 0 (either b (expected + 9223372036854775808) (word_of s)) id me.1 v keeps)) (sym (ne_eqb (word_of s) expected other)) (unmoved s r id v at_me),
        ((λ e. absurd (other e)), λ _. refl),
      ))

  -- the seat with the word takes the turn
  pub takes_turn : (id : ℕ) (me : M) → me.0.stage ≡ Taken → 0 < length me.0.owns → Allows Rule 1 id me 1 (λ n. (n + 1) % 2 ^ 64) (λ _ n. n ≡ (deepened me.0, me.1))
  takes_turn id me holder some_own s r one at_me _ =
      let v : V = me.0 in let w : V = deepened v in let f = r.each id v at_me in
      let st : AtStage r.journal (word_of s) r.turn s.homes r.holder id v.seen Taken = subst (λ (z : Stage). AtStage r.journal (word_of s) r.turn s.homes r.holder id v.seen z) holder f.stage in
      let first = first_there v.owns 0 some_own in let own = f.owns 0 first.0 first.1 in
      let caller : ℕ = v.number + 0 in let turns : ℕ → ℕ = one_more caller r.turns in
      let counted = count_up (turn_of s) (all_turns begin.callers r.turns) (subst (λ (k : ℕ). (turn_of s + k) % 2 ^ 64 ≡ (2 * all_turns begin.callers r.turns) % 2 ^ 64) st.1 r.counted) in (
        w,
        keeps,
        tt,
        moved s r id v w ((turn_of s + 1) % 2 ^ 64) 1 turns at_me st.0 st.2
            record {
              seen = f.seen;
              heard = f.heard;
              owns = λ i mine is. ⊎_elim
                  (λ t. let u = t.1 in let o = f.owns 0 u.0 u.1 in let z : caller ≡ v.number + i = (let k = t.0 in omega arith) in
                  subst (λ (x : ℕ × Own E R). Owned begin.callers r.journal r.claim turns id x.0 x.1) (λ k. (z k, u.2 k)) (o.0, o.1, o.2, ap suc o.3 ∙ sym (one_more_of caller r.turns)))
                  (λ t. let o = f.owns i mine t.1 in let ne = t.0 in (o.0, o.1, o.2, o.3 ∙ sym (none_more_of caller r.turns (v.number + i) (λ k. ne (omega arith)))))
                  (in_on_first one_turn v.owns i mine is);
              stage = (st.0, refl, st.2, st.3);
            }
            (λ c ne. none_more_of caller r.turns c (λ k. ne (ap r.claim k ∙ own.1)))
            (counted ∙ ap (λ (k : ℕ). (2 * k) % 2 ^ 64) (sym (all_one_more begin.callers caller r.turns own.0)))
            (one_holder s r id st.2) tt (subst (λ (k : ℕ). 0 < k) (sym (length-on_first one_turn v.owns)) some_own),
        refl,
      )

  -- and gives it back
  pub gives_turn : (id : ℕ) (me : M) → me.0.stage ≡ Deep → 0 < length me.0.owns → Allows Rule 1 id me 1 (λ n. (n + 1) % 2 ^ 64) (λ _ n. n ≡ (raised me.0, me.1))
  gives_turn id me holder some_own s r one at_me _ =
      let v : V = me.0 in let w : V = raised v in let f = r.each id v at_me in
      let st : AtStage r.journal (word_of s) r.turn s.homes r.holder id v.seen Deep = subst (λ (z : Stage). AtStage r.journal (word_of s) r.turn s.homes r.holder id v.seen z) holder f.stage in
      let counted = count_on (turn_of s) (all_turns begin.callers r.turns) (subst (λ (k : ℕ). (turn_of s + k) % 2 ^ 64 ≡ (2 * all_turns begin.callers r.turns) % 2 ^ 64) st.1 r.counted) in (
        w,
        keeps,
        tt,
        moved s r id v w ((turn_of s + 1) % 2 ^ 64) 0 r.turns at_me st.0 st.2 record { seen = f.seen; heard = f.heard; owns = f.owns; stage = (st.0, refl, st.2, st.3) } (λ c ne. refl) counted (one_holder s r id st.2) tt some_own,
        refl,
      )

  -- the seat with the word gives it back, with one entry more or with none
  gives_plain : (id : ℕ) (v : V) (word : ℕ) (cell : Cl) → v.stage ≡ Taken → IsFree word → Left v.seen word cell → Allows Rule 1 id (v, (0, Some cell) ∷ []) 0 (λ _. word) (λ _ n. n ≡ (gave v None, []))
  gives_plain id v word cell holder free left s r one at_me _ =
      let w : V = gave v None in let hs : Homes S N = set s.homes 0 (some (Some cell)) in let f = r.each id v at_me in
      let st : AtStage r.journal (word_of s) r.turn s.homes r.holder id v.seen Taken = subst (λ (z : Stage). AtStage r.journal (word_of s) r.turn s.homes r.holder id v.seen z) holder f.stage in (
        w,
        table.gives,
        tt,
        turned s r id v w word hs r.journal id at_me r.lawful record { seen = f.seen; heard = f.heard; owns = f.owns; stage = tt } (λ xs b. b) (λ c _. refl) (one_holder s r id st.2)
            (λ _. (st.1, (cell, set_here s.homes 0 (some (Some cell)) (omega arith), subst (λ (z : Journal). Left z word cell) (sym st.3) left))) (λ held. absurd (not_both word free held)),
        refl,
      )

  gives_entry : (id : ℕ) (v : V) (e : Entry E R) (word : ℕ) (cell : Cl) → v.stage ≡ Taken → 0 < length v.owns → IsFree word → MayAdd next halts frees takes front at tells means begin v e word cell
      → Allows Rule 1 id (v, (0, Some cell) ∷ []) 0 (λ _. word) (λ _ n. n ≡ (gave v (Some e), []))
  gives_entry id v e word cell holder some_own free adds s r one at_me _ =
      let w : V = gave v (Some e) in let hs : Homes S N = set s.homes 0 (some (Some cell)) in let f = r.each id v at_me in
      let st : AtStage r.journal (word_of s) r.turn s.homes r.holder id v.seen Taken = subst (λ (z : Stage). AtStage r.journal (word_of s) r.turn s.homes r.holder id v.seen z) holder f.stage in
      let lawful : Legal v.seen = subst Legal st.3 r.lawful in
      let journal : Journal = v.seen ++ e ∷ [] in
      let first = first_there v.owns 0 some_own in
      let own = f.owns 0 first.0 first.1 in
      let below = own.0 in
      let mine : e.caller ≡ v.number = adds.caller in
      let claimed : r.claim e.caller ≡ id = ap r.claim (let k : e.caller ≡ v.number + 0 = omega arith in k) ∙ own.1 in (
        w,
        table.gives,
        tt,
        turned s r id v w word hs journal id at_me
            record {
              follows = follows_snoc next halts begin.state None v.seen e lawful.follows adds.right;
              edges = edges_snoc frees takes v.seen e lawful.edges adds.edge;
              times = times_snoc v.seen e lawful.times adds.later;
              callers = λ c past. by_other c v.seen e (λ k. let j = k in absurd (omega arith)) ∙ lawful.callers c past;
            }
            record {
              seen = begins_all journal;
              heard = λ i xs is. begins_more v.seen (e ∷ []) xs (subst (λ (z : Journal). Begins z xs) st.3 (f.heard i xs is));
              owns = λ i mine is. ⊎_elim
                  (λ t. let u = t.1 in let o = f.owns 0 u.0 u.1 in let c : ℕ = v.number + i in let z : v.number + 0 ≡ c = (let k = t.0 in omega arith) in let here : e.caller ≡ c = omega arith in
                  subst (λ (x : ℕ × Own E R). Owned begin.callers journal r.claim r.turns id x.0 x.1) (λ k. (z k, u.2 k))
                  (o.0, o.1, ap (λ (y : Journal). y ++ e ∷ []) (o.2 ∙ ap (by (v.number + 0)) st.3) ∙ sym (by_here (v.number + 0) v.seen e (here ∙ sym z)), o.3))
                  (λ t. let o = f.owns i mine t.1 in let ne = t.0 in (o.0, o.1, o.2 ∙ (ap (by (v.number + i)) st.3 ∙ sym (by_other (v.number + i) v.seen e (λ k. ne (omega arith)))), o.3))
                  (in_on_first (added e) v.owns i mine is);
              stage = tt;
            }
            (λ xs b. begins_more v.seen (e ∷ []) xs (subst (λ (z : Journal). Begins z xs) st.3 b))
            (λ c ne. by_other c v.seen e (λ k. ne (ap r.claim (sym k) ∙ claimed)) ∙ ap (by c) (sym st.3)) (one_holder s r id st.2)
            (λ _. (st.1, (cell, set_here s.homes 0 (some (Some cell)) (omega arith), adds.lies))) (λ held. absurd (not_both word free held)),
        refl,
      )

  pub gives_word : (id : ℕ) (me : M) (entry : Option (Entry E R)) (word : ℕ) (cell : Cl) → me.0.stage ≡ Taken → me.1 ≡ (0, Some cell) ∷ [] → 0 < length me.0.owns → IsFree word
      → MayGive next halts frees takes front at tells means begin me.0 entry word cell → Allows Rule 1 id me 0 (λ _. word) (λ _ n. n ≡ (gave me.0 entry, []))
  gives_word id me None word cell holder held some_own free may = subst (λ (c : List (ℕ × Option Cl)). Allows Rule 1 id (me.0, c) 0 (λ _. word) (λ _ n. n ≡ (gave me.0 None, []))) (sym held)
      (gives_plain id me.0 word cell holder free may)
  gives_word id me (Some e) word cell holder held some_own free may = subst (λ (c : List (ℕ × Option Cl)). Allows Rule 1 id (me.0, c) 0 (λ _. word) (λ _ n. n ≡ (gave me.0 (Some e), []))) (sym held)
      (gives_entry id me.0 e word cell holder some_own free may)

  -- a new seat knows nothing
  pub comes : Enters Rule 1 0 (λ _ w. w ≡ blank)
  comes s r one _ = (
    blank,
    record {
      journal = r.journal;
      holder = r.holder;
      claim = r.claim;
      turn = r.turn;
      turns = r.turns;
      wide = r.wide;
      lawful = r.lawful;
      each = λ j v e. ⊎_elim (r.each j v)
          (λ (t : blank ≡ v). subst (Fits begin.callers r.journal (word_of s) r.turn s.homes r.holder r.claim r.turns j) t
          record { seen = (r.journal, refl); heard = λ i xs is. absurd (some-ne-none xs (sym is)); owns = λ i xs is. absurd (some-ne-none xs (sym is)); stage = tt })
          (at_snoc s.views blank v j e);
      counted = r.counted;
      free = r.free;
      busy = λ ne. let b = r.busy ne in (b.0, at_longer s.views (blank ∷ []) r.holder b.0 b.1, b.2, b.3);
    },
    refl,
  )

  -- a seat takes in another, which stands for the next callers and hasn't the turn
  pub joins : (id : ℕ) (v : V) (other : ℕ) (w : V) → w.stage ≡ Idle → (0 < length w.owns → v.number + length v.owns ≡ w.number) → Joins Rule id v other w (joined v w) blank
  joins id v other w idle next_callers s r at_me apart at_it =
      let both : V = joined v w in let vs : List V = set s.views id both in
      let at_w : get_elem? s.views other ≡ some w = sym (set_else s.views id other both apart) ∙ at_it in
      let f = r.each id v at_me in let g = r.each other w at_w in
      let claim : ℕ → ℕ = λ c. cond (eqb (r.claim c) other) id (r.claim c) in
      let stays : (c j : ℕ) → r.claim c ≡ j → j ≢ other → claim c ≡ j = λ c j is ne. ap (λ (b : Bool). cond b id (r.claim c)) (ne_eqb (r.claim c) other (λ k. ne (sym is ∙ k))) ∙ is in
      let Q : ℕ → V → Type 0 = λ j u. Fits begin.callers r.journal (word_of s) r.turn s.homes r.holder claim r.turns j u in record {
        journal = r.journal;
        holder = r.holder;
        claim = claim;
        turn = r.turn;
        turns = r.turns;
        wide = r.wide;
        lawful = r.lawful;
        each = each_after Q vs other blank record { seen = (r.journal, refl); heard = λ i xs is. absurd (some-ne-none xs (sym is)); owns = λ i xs is. absurd (some-ne-none xs (sym is)); stage = tt }
            (λ j u ne e. each_after (λ i x. i ≢ other → Q i x) s.views id both
            (λ _. record {
              seen = f.seen;
              heard = λ i xs is. ⊎_elim (f.heard i xs) (λ t. heard_more r.journal w.seen w.heard g.seen g.heard t.0 xs t.2) (in_both v.heard (w.seen ∷ w.heard) i xs is);
              owns = λ i xs is. ⊎_elim (λ t. let o = f.owns i xs t in (o.0, stays (v.number + i) id o.1 (λ k. apart (sym k)), o.2, o.3))
                  (λ t. let o = g.owns t.0 xs t.2 in let inside = there w.owns t.0 xs t.2 in let sum = t.1 in let run = next_callers (omega arith) in
                  let same : w.number + t.0 ≡ v.number + i = omega arith in
                  subst (λ (c : ℕ). Owned begin.callers r.journal claim r.turns id c xs) same (o.0, ap (λ (b : Bool). cond b id (r.claim (w.number + t.0))) (eq-eqb (r.claim (w.number + t.0)) other o.1), o.2, o.3))
                  (in_both v.owns w.owns i xs is);
              stage = f.stage;
            })
            (λ i x away at_x alive. fits_on begin.callers r.journal r.journal (word_of s) (word_of s) r.turn r.turn r.holder r.holder s.homes s.homes r.claim claim r.turns r.turns i x (λ xs b. b) (λ c is. (stays c i is alive, refl, refl)) (λ k. k) (r.each i x at_x))
            j u e ne);
        counted = r.counted;
        free = r.free;
        busy = λ ne. let b = r.busy ne in dite (ℕ_discrete r.holder other)
            (λ is. let same = some-injective b.0 w (sym b.1 ∙ (ap (get_elem? s.views) is ∙ at_w)) in absurd (subst HasWord (ap (λ (x : V). x.stage) same ∙ idle) b.2))
            (λ not_it. dite (ℕ_discrete r.holder id)
            (λ is. let same = some-injective b.0 v (sym b.1 ∙ (ap (get_elem? s.views) is ∙ at_me)) in let some_own : 0 < length v.owns = subst (λ (x : V). 0 < length x.owns) same b.3 in (
              both,
              set_else vs other r.holder blank not_it ∙ (ap (get_elem? vs) is ∙ set_here s.views id both (there s.views id v at_me)),
              subst (λ (x : V). HasWord x.stage) same b.2,
              omega (arith, length-append v.owns w.owns),
            ))
            (λ not_me. (b.0, set_else vs other r.holder blank not_it ∙ (set_else s.views id r.holder both not_me ∙ b.1), b.2, b.3)));
      }

  -- a new seat stands for the first caller of another's
  pub deals : (id : ℕ) (v : V) → v.stage ≡ Idle → 0 < length v.owns → Splits Rule id v (kept v) (dealt v)
  deals id v idle some_own s r at_me =
      let left : V = kept v in let right : V = dealt v in let vs : List V = set s.views id left in let n : ℕ = length vs in
      let f = r.each id v at_me in let first = first_there v.owns 0 some_own in let own = f.owns 0 first.0 first.1 in
      let mine : r.claim v.number ≡ id = ap r.claim (let k : v.number ≡ v.number + 0 = omega arith in k) ∙ own.1 in
      let claim : ℕ → ℕ = λ c. cond (eqb c v.number) n (r.claim c) in
      let stays : (c j : ℕ) → r.claim c ≡ j → c ≢ v.number → claim c ≡ j = λ c j is ne. ap (λ (b : Bool). cond b n (r.claim c)) (ne_eqb c v.number ne) ∙ is in
      let Q : ℕ → V → Type 0 = λ j u. Fits begin.callers r.journal (word_of s) r.turn s.homes r.holder claim r.turns j u in record {
        journal = r.journal;
        holder = r.holder;
        claim = claim;
        turn = r.turn;
        turns = r.turns;
        wide = r.wide;
        lawful = r.lawful;
        each = λ j u e. ⊎_elim
            (λ t. each_after Q s.views id left
            record {
              seen = f.seen;
              heard = f.heard;
              owns = λ i xs is. let o = f.owns (suc i) xs (in_others v.owns i xs is) in let same : v.number + suc i ≡ (v.number + 1) + i = omega arith in
                  subst (λ (c : ℕ). Owned begin.callers r.journal claim r.turns id c xs) same (o.0, stays (v.number + suc i) id o.1 (λ k. omega arith), o.2, o.3);
              stage = f.stage;
            }
            (λ i x away at_x. fits_on begin.callers r.journal r.journal (word_of s) (word_of s) r.turn r.turn r.holder r.holder s.homes s.homes r.claim claim r.turns r.turns i x (λ xs b. b)
            (λ c is. (stays c i is (λ k. away (sym is ∙ (ap r.claim k ∙ mine))), refl, refl)) (λ k. k) (r.each i x at_x))
            j u t)
            (λ t. subst (λ (z : ℕ × V). Q z.0 z.1) (λ i. (sym t.0 i, t.1 i)) record {
              seen = f.seen;
              heard = λ i xs is. absurd (some-ne-none xs (sym is));
              owns = λ i xs is. let k = in_first v.owns i xs is in let o = f.owns 0 xs k.1 in let z = k.0 in let same : v.number + 0 ≡ v.number + i = omega arith in
                  subst (λ (c : ℕ). Owned begin.callers r.journal claim r.turns n c xs) same
                  (o.0, ap (λ (b : Bool). cond b n (r.claim (v.number + 0))) (eq-eqb (v.number + 0) v.number (let h : v.number + 0 ≡ v.number = omega arith in h)), o.2, o.3);
              stage = tt;
            })
            (at_end vs right u j e);
        counted = r.counted;
        free = r.free;
        busy = λ ne. let b = r.busy ne in (
          b.0,
          at_longer vs (right ∷ []) r.holder b.0 (set_else s.views id r.holder left (λ is. let same = some-injective b.0 v (sym b.1 ∙ (ap (get_elem? s.views) is ∙ at_me)) in
              absurd (subst HasWord (ap (λ (x : V). x.stage) same ∙ idle) b.2)) ∙ b.1),
          b.2,
          b.3,
        );
      }

  -- what a seat that stands for all callers knows when the table is closed
  abbrev pub Ended : V → List ℕ → List (Option Cl) → Type 0
  Ended v words slots = (journal : Journal) × (cell : Cl) × (get_elem? slots 0 ≡ some (Some cell)) × Learns next halts frees takes front at tells means begin v journal (get_or words 0 0) cell

  -- where a seat without the word stands for all callers, nobody has the word
  at_rest : (s : St) (r : Rule s) (id : ℕ) (v : V) → get_elem? s.views id ≡ some v → v.stage ≡ Idle → v.number ≡ 0 → length v.owns ≡ begin.callers → IsFree (word_of s)
  at_rest s r id v at_me idle from_first all = lt_of_not-le
      (λ is_held. let b = r.busy is_held in let u : V = b.0 in
      let its = first_there u.owns 0 b.3 in let theirs = (r.each r.holder u b.1).owns 0 its.0 its.1 in let below = theirs.0 in
      let mine = first_there v.owns (u.number + 0) (omega arith) in let ours = (r.each id v at_me).owns (u.number + 0) mine.0 mine.1 in
      let same_claim : r.claim (v.number + (u.number + 0)) ≡ r.claim (u.number + 0) = ap r.claim (let k : v.number + (u.number + 0) ≡ u.number + 0 = omega arith in k) in
      let is : r.holder ≡ id = sym theirs.1 ∙ (sym same_claim ∙ ours.1) in
      let same = some-injective u v (sym b.1 ∙ (ap (get_elem? s.views) is ∙ at_me)) in subst HasWord (ap (λ (x : V). x.stage) same ∙ idle) b.2)

  pub ends : (id : ℕ) (v : V) (words : List ℕ) (slots : List (Option Cl)) → v.stage ≡ Idle → v.number ≡ 0 → length v.owns ≡ begin.callers → Final (Seen Rule id v) words slots → Ended v words slots
  ends id v words slots idle from_first all (s, seen, same_words, same_slots, values) =
      let r = seen.0 in let f = r.each id v seen.1 in let rest = (r.free (at_rest s r id v seen.1 idle from_first all)).1 in (
        r.journal,
        rest.0,
        values 0 (Some rest.0) rest.1,
        record {
          seen = f.seen;
          heard = f.heard;
          owns = λ i xs e. let o = f.owns i xs e in (o.0, o.2);
          lawful = r.lawful;
          lies = subst (λ (ws : List ℕ). Left r.journal (get_or ws 0 0) rest.0) same_words rest.2;
        },
      )

  -- a seat that stands for all callers, and hasn't the word, takes it
  pub takes_rest : (id : ℕ) (me : M) → me.1 ≡ [] → me.0.stage ≡ Idle → me.0.number ≡ 0 → length me.0.owns ≡ begin.callers → 0 < begin.callers
      → Allows Rule 1 id me 0 (λ _. 9223372036854775808) (λ word. TakesRest next halts frees takes front at tells means begin word me)
  takes_rest id me empty idle from_first all some_caller s r one at_me _ =
      let v : V = me.0 in let f = r.each id v at_me in let is_free = at_rest s r id v at_me idle from_first all in let known = r.free is_free in let rest = known.1 in let w : V = taken v r.journal in (
        w,
        table.takes 0 (Some rest.0),
        rest.1,
        turned s r id v w 9223372036854775808 (set s.homes 0 none) r.journal id at_me r.lawful record { seen = begins_all r.journal; heard = f.heard; owns = f.owns; stage = (omega arith, known.0, refl, refl) }
            (λ xs b. b) (λ c _. refl) (λ j u _ e h. nobody_has s r is_free j u e h) (λ e. absurd (omega arith)) (λ _. (refl, tt, omega arith)),
        (
          r.journal,
          rest.0,
          (λ i. (w, (0, Some rest.0) ∷ empty i)),
          record { seen = f.seen; heard = f.heard; owns = λ i xs e. let o = f.owns i xs e in (o.0, o.2); lawful = r.lawful; lies = rest.2 },
          is_free,
        ),
      )
