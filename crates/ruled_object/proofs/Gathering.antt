-- Passes that are brought together in one seat, and dealt out again.
use Rattle.std.proofs.Common.{Bool, ◌≡◌, ◌≢◌, ℕ, zero, suc, ◌+◌, ◌<◌, List, [], ◌∷◌, ◌++◌, length, length-append, replicate, get_or, set, slice_get, Option, Some, refl, sym, ap, ◌∙◌, subst, arith}
use Rattle.std.proofs.lemmas.List.{length-replicate}
use Rattle.std.proofs.lemmas.Option.{slice_get-get_or, slice_get_within}
use mathlib.Core.Logic.{dite}
use mathlib.Core.Option.{some, some-injective}
use native.Mathlib.Decide.{ℕ_discrete}
use lib.ListN.{get_elem?}
use Rattle.atomic_table.specs.declared.shared.Seat.{Seat}
use Rattle.atomic_table.proofs.Lists.{at_longer}
use Rattle.sync_model.specs.Front.{Front}
use Rattle.sync_model.specs.declared.journal.Entry.{Entry}
use Rattle.sync_model.specs.Journal.{Begins, by}
use Rattle.ruled_object.specs.declared.cell.Cell.{Cell}
use Rattle.ruled_object.specs.declared.object.Object.{Object}
use Rattle.ruled_object.specs.declared.pass.Pass.{Pass}
use Rattle.ruled_object.specs.declared.rule.Begin.{Begin}
use Rattle.ruled_object.specs.declared.view.Stage.TheVariants.{Idle}
use Rattle.ruled_object.specs.declared.view.Own.{Own}
use Rattle.ruled_object.specs.declared.view.View.{View}
use Rattle.ruled_object.specs.Gathered.{AreAllPasses, SamePasses, SameOwn, Gathered, Dealing, IsDealt, IsWhole, IsSeen, SameTurns, HaveCounted}
use Rattle.ruled_object.specs.Passes.{capped, own_of, own_in, turns_of, seen_by, SamePass, callers_of}
use Rattle.ruled_object.specs.Steps.{Sat, first_of, others_of, new_own, joined, kept, dealt, Learns}
use Rattle.ruled_object.proofs.Calls.{own_is}
use Rattle.ruled_object.proofs.Journals.{begins_all}
use Rattle.ruled_object.proofs.Steps.{in_blank}

module _ {A : Type 0} where
  pub at_second : (xs ys : List A) (i : ℕ) (y : A) → get_elem? ys i ≡ some y → get_elem? (xs ++ ys) (length xs + i) ≡ some y
  at_second [] ys i y e = let same : i ≡ 0 + i = omega arith in subst (λ (k : ℕ). get_elem? ys k ≡ some y) same e
  at_second (x ∷ xs) ys i y e = let same : suc (length xs + i) ≡ suc (length xs) + i = omega arith in subst (λ (k : ℕ). get_elem? (x ∷ (xs ++ ys)) k ≡ some y) same (at_second xs ys i y e)

  pub get_set_same : (xs : List A) (i : ℕ) (a b : A) → slice_get (set xs i a) i ≡ Some b → a ≡ b
  get_set_same [] i a b e = (cc)
  get_set_same (x ∷ xs) zero a b e = (cc)
  get_set_same (x ∷ xs) (suc i) a b e = get_set_same xs i a b e

  pub get_set_other : (xs : List A) (i j : ℕ) (a : A) → j ≢ i → slice_get (set xs i a) j ≡ slice_get xs j
  get_set_other [] i j a ne = refl
  get_set_other (x ∷ xs) zero zero a ne = absurd (ne refl)
  get_set_other (x ∷ xs) zero (suc j) a ne = refl
  get_set_other (x ∷ xs) (suc i) zero a ne = refl
  get_set_other (x ∷ xs) (suc i) (suc j) a ne = get_set_other xs i j a (λ e. ne (ap suc e))

  others_at : (xs : List A) (i : ℕ) → get_elem? (others_of xs) i ≡ get_elem? xs (suc i)
  others_at [] i = refl
  others_at (x ∷ xs) i = refl

  one_less : (xs : List A) → 0 < length xs → length (others_of xs) + 1 ≡ length xs
  one_less [] h = absurd (omega arith)
  one_less (x ∷ xs) h = omega arith

  just_one : (xs : List A) → 0 < length xs → length (first_of xs) ≡ 1
  just_one [] h = absurd (omega arith)
  just_one (x ∷ xs) h = refl

module _ {E R : Type 0} where
  own_of_first : (owns : List (Own E R)) → own_of (first_of owns) ≡ own_of owns
  own_of_first [] = refl
  own_of_first (own ∷ owns) = refl

  pub is_new : (n i : ℕ) (own : Own E R) → get_elem? (replicate n new_own) i ≡ some own → own ≡ new_own
  is_new n i own e = sym (in_blank n i new_own own e).1

  pub some_left : (n callers : ℕ) (journal : List (Entry E R)) (v : View E R) → Dealing n journal (replicate callers new_own) v → n < callers → 0 < length v.owns
  some_left n callers journal v d below = let count = d.count in let sized = length-replicate {A = Own E R} callers new_own in omega arith

  -- the seat lets the next caller go
  pub dealing_on : (n : ℕ) (journal : List (Entry E R)) (owns : List (Own E R)) (v : View E R) → 0 < length v.owns → Dealing n journal owns v → Dealing (n + 1) journal owns (kept v)
  dealing_on n journal owns v some_own d = let count = d.count in let less = one_less v.owns some_own in let number = d.number in record {
    stage = d.stage;
    seen = d.seen;
    number = omega arith;
    count = omega arith;
    owns = λ i. let same : n + suc i ≡ (n + 1) + i = omega arith in others_at v.owns i ∙ (d.owns (suc i) ∙ ap (get_elem? owns) same);
  }

module _ {S N E R : Type 0} where
  abbrev pub pass_of : ℕ → ℕ → ℕ → Seat (Option (Cell S N)) (View E R) → Pass S N E R
  pass_of number left turns seat = record { number = number; left = left; turns = turns; seat = seat }

  -- one pass more is taken in
  pub gathered_on : (n : ℕ) (passes : List (Pass S N E R)) (pass : Pass S N E R) (v : View E R) → slice_get passes n ≡ Some pass → length pass.seat.me.0.owns ≡ 1 → Gathered n passes v
      → Gathered (n + 1) passes (joined v pass.seat.me.0)
  gathered_on n passes pass v at_n one d = let w : View E R = pass.seat.me.0 in let count = d.count in record {
    stage = d.stage;
    number = d.number;
    count = omega (arith, length-append v.owns w.owns);
    owns = λ i p below at_i. dite (ℕ_discrete i n)
        (λ is. let same : pass ≡ p = (let e : Some pass ≡ Some p = sym at_n ∙ (ap (slice_get passes) (sym is) ∙ at_i) in (cc)) in
        let place : length v.owns + 0 ≡ i = omega arith in let some_own : 0 < length w.owns = omega arith in
        subst (λ (k : ℕ). get_elem? (v.owns ++ w.owns) k ≡ some (own_in p)) place (at_second v.owns w.owns 0 (own_in p) (own_is w.owns some_own ∙ ap (λ (x : Pass S N E R). some (own_in x)) same)))
        (λ other. at_longer v.owns w.owns i (own_in p) (d.owns i p (omega arith) at_i));
    heard = λ i p below at_i. dite (ℕ_discrete i n)
        (λ is. let same : pass ≡ p = (let e : Some pass ≡ Some p = sym at_n ∙ (ap (slice_get passes) (sym is) ∙ at_i) in (cc)) in
        (length v.heard + 0, at_second v.heard (w.seen ∷ w.heard) 0 (seen_by p) (ap (λ (x : Pass S N E R). some (seen_by x)) same)))
        (λ other. let h = d.heard i p (omega arith) at_i in (h.0, at_longer v.heard (w.seen ∷ w.heard) h.0 (seen_by p) h.1));
  }

  pub at_same : (old new : List (Pass S N E R)) (i : ℕ) (pass : Pass S N E R) → length new ≡ length old → slice_get new i ≡ Some pass → slice_get old i ≡ Some (get_or old i pass)
  at_same old new i pass sized at_i = let below = slice_get_within new i pass at_i in slice_get-get_or old i pass (omega arith)

  -- the passes count what a seat has of their callers, where that is what the passes had
  pub have_counted : {M H : Type 0} (object : Object M N S E R H) (old new : List (Pass S N E R)) (all : List (Own E R)) → AreAllPasses object old → length new ≡ length old → SameTurns old new
      → ((i : ℕ) (pass : Pass S N E R) → slice_get old i ≡ Some pass → get_elem? all i ≡ some (own_in pass)) → HaveCounted all new
  have_counted object old new all are sized same has = λ i pass own at_i is.
      let before = at_same old new i pass sized at_i in let was : Pass S N E R = get_or old i pass in
      let mine = some-injective (own_in was) own (sym (has i was before) ∙ is) in
      same i was pass before at_i ∙ ((are.each i was before).0.turns ∙ ap (λ (o : Own E R). capped o.turns) mine)

  pub same_through : (a b c : List (Pass S N E R)) → SamePasses a b → SamePasses b c → SamePasses a c
  same_through a b c d e = record {
    count = e.count ∙ d.count;
    each = λ i p q at_a at_c. let middle = at_same b c i q e.count at_c in let first = d.each i p (get_or b i q) at_a middle in let second = e.each i (get_or b i q) q middle at_c in (second.0 ∙ first.0, second.1 ∙ first.1);
  }

  pub still_numbered : {M H : Type 0} (object : Object M N S E R H) (old new : List (Pass S N E R)) → AreAllPasses object old → SamePasses old new → (i : ℕ) (pass : Pass S N E R) → slice_get new i ≡ Some pass → pass.number ≡ i
  still_numbered object old new all same i pass at_i = let before = at_same old new i pass same.count at_i in (same.each i (get_or old i pass) pass before at_i).0 ∙ (all.each i (get_or old i pass) before).1

  -- one pass is changed, and stays its caller's
  pub same_on : (old passes : List (Pass S N E R)) (n : ℕ) (before after : Pass S N E R) → slice_get old n ≡ Some before → SamePass before after → length (set passes n after) ≡ length passes
      → SamePasses old passes → SamePasses old (set passes n after)
  same_on old passes n before after at_n same sized d = record {
    count = sized ∙ d.count;
    each = λ i p q at_old at_new. dite (ℕ_discrete i n)
        (λ is. let e : before ≡ p = (let f : Some before ≡ Some p = sym at_n ∙ (ap (slice_get old) (sym is) ∙ at_old) in (cc)) in
        let f : after ≡ q = get_set_same passes n after q (ap (slice_get (set passes n after)) (sym is) ∙ at_new) in
        subst (λ (x : Pass S N E R × Pass S N E R). SamePass x.0 x.1) (λ k. (e k, f k)) same)
        (λ other. d.each i p q at_old (sym (get_set_other passes n i after other) ∙ at_new));
  }

  same_item : (xs : List (Pass S N E R)) (i : ℕ) (p q : Pass S N E R) → slice_get xs i ≡ Some p → slice_get xs i ≡ Some q → p ≡ q
  same_item xs i p q a c = let e : Some p ≡ Some q = sym a ∙ c in (cc)

  -- nobody has taken a turn since
  pub turns_stay : (passes : List (Pass S N E R)) → SameTurns passes passes
  turns_stay passes = λ i before after at_old at_new. ap turns_of (sym (same_item passes i before after at_old at_new))

  pub turns_on : (old passes : List (Pass S N E R)) (n : ℕ) (before after : Pass S N E R) → slice_get old n ≡ Some before → turns_of after ≡ turns_of before → SameTurns old passes → SameTurns old (set passes n after)
  turns_on old passes n before after at_n same d = λ i p q at_old at_new. dite (ℕ_discrete i n)
      (λ is. let e : before ≡ p = same_item old n before p at_n (ap (slice_get old) (sym is) ∙ at_old) in
      let f : after ≡ q = get_set_same passes n after q (ap (slice_get (set passes n after)) (sym is) ∙ at_new) in
      subst (λ (x : Pass S N E R × Pass S N E R). turns_of x.1 ≡ turns_of x.0) (λ k. (e k, f k)) same)
      (λ other. d i p q at_old (sym (get_set_other passes n i after other) ∙ at_new))

  pub turns_through : (a b c : List (Pass S N E R)) → length c ≡ length b → SameTurns a b → SameTurns b c → SameTurns a c
  turns_through a b c count d e = λ i p q at_a at_c. let middle = at_same b c i q count at_c in e i (get_or b i q) q middle at_c ∙ d i p (get_or b i q) at_a middle

  pub same_own : (next : S → ℕ → E → S × R) (halts : Bool) (frees takes : E → R → Bool) (start : S) (journal : List (Entry E R)) (old new : List (Pass S N E R)) → SamePasses old new
      → IsWhole next halts frees takes start journal old → IsWhole next halts frees takes start journal new → SameOwn old new
  same_own next halts frees takes start journal old new same whole_old whole_new = λ i pass at_i.
      let before = at_same old new i pass same.count at_i in
      (get_or old i pass, before, whole_new.owns i pass at_i ∙ sym (whole_old.owns i (get_or old i pass) before))

-- the pass that is dealt out
pub is_dealt : {M N S E R H : Type 0} (object : Object M N S E R H) (n : ℕ) (journal : List (Entry E R)) (all : List (Own E R)) (v : View E R) (pass : Pass S N E R) → Dealing n journal all v → 0 < length v.owns
    → n < callers_of object → pass.seat.table_id ≡ object.table.shared.table_id → pass.seat.me ≡ (dealt v, []) → pass.number ≡ n → ((own : Own E R) → get_elem? all n ≡ some own → turns_of pass ≡ capped own.turns) → IsDealt object n journal all pass
is_dealt {M} {N} {S} {E} {R} {H} object n journal all v pass d some_own below table me number counts =
    let owns : pass.seat.me.0.owns ≡ first_of v.owns = ap (λ (m : Sat S N E R). m.0.owns) me in
    let same : n + 0 ≡ n = omega arith in
    let mine : get_elem? all n ≡ some (own_in pass) = ap (get_elem? all) (sym same) ∙ (sym (d.owns 0) ∙ (own_is v.owns some_own ∙ ap (λ (x : Own E R). some x) (sym (ap own_of owns ∙ own_of_first v.owns)))) in record {
      is = record {
        table = table;
        caller = subst (λ (k : ℕ). k < callers_of object) (sym number) below;
        number = ap (λ (m : Sat S N E R). m.0.number) me ∙ (d.number ∙ sym number);
        one = ap (λ (xs : List (Own E R)). length xs) owns ∙ just_one v.owns some_own;
        turn = ap (λ (m : Sat S N E R). m.0.stage) me;
        empty = ap (λ (m : Sat S N E R). m.1) me;
        turns = counts (own_in pass) mine;
      };
      number = number;
      seen = ap (λ (m : Sat S N E R). m.0.seen) me ∙ d.seen;
      own = mine;
    }

module _ {S N E R H : Type 0} (next : S → ℕ → E → S × R) (halts : Bool) (frees takes : E → R → Bool) (front : N → Front) (at : H → N → Type 0) (tells : S → ℕ) (means : S → ℕ → S) (begin : Begin S N) where
  -- what the seat that gathered all passes learns with the turn
  pub whole : (passes : List (Pass S N E R)) (v : View E R) (journal : List (Entry E R)) (word : ℕ) (cell : Cell S N) → length passes ≡ begin.callers → Gathered (length passes) passes v
      → Learns next halts frees takes front at tells means begin v journal word cell → IsWhole next halts frees takes begin.state journal passes
  whole passes v journal word cell count d learns = record {
    follows = learns.lawful.follows;
    edges = learns.lawful.edges;
    times = learns.lawful.times;
    owns = λ i pass at_i. let number = d.number in let same : v.number + i ≡ i = omega arith in (learns.owns i (own_in pass) (d.owns i pass (slice_get_within passes i pass at_i) at_i)).1 ∙ ap (λ (c : ℕ). by c journal) same;
    seen = λ i pass at_i. let h = d.heard i pass (slice_get_within passes i pass at_i) at_i in learns.heard h.0 (seen_by pass) h.1;
    callers = λ c past. learns.lawful.callers c (omega arith);
  }

  -- and what the passes say that it deals out again
  pub whole_again : {M : Type 0} (object : Object M N S E R H) (passes : List (Pass S N E R)) (v : View E R) (journal : List (Entry E R)) (word : ℕ) (cell : Cell S N) → length passes ≡ begin.callers → v.number ≡ 0
      → ((i : ℕ) (pass : Pass S N E R) → slice_get passes i ≡ Some pass → IsDealt object i journal v.owns pass)
      → Learns next halts frees takes front at tells means begin v journal word cell → IsWhole next halts frees takes begin.state journal passes
  whole_again object passes v journal word cell count from_first dealt learns = record {
    follows = learns.lawful.follows;
    edges = learns.lawful.edges;
    times = learns.lawful.times;
    owns = λ i pass at_i. let same : v.number + i ≡ i = omega arith in (learns.owns i (own_in pass) (dealt i pass at_i).own).1 ∙ ap (λ (c : ℕ). by c journal) same;
    seen = λ i pass at_i. subst (Begins journal) (sym (dealt i pass at_i).seen) (begins_all journal);
    callers = λ c past. learns.lawful.callers c (omega arith);
  }

  pub seen_again : {M : Type 0} (object : Object M N S E R H) (passes : List (Pass S N E R)) (v : View E R) (journal : List (Entry E R)) (word : ℕ) (cell : Cell S N) → length passes ≡ begin.callers → v.number ≡ 0
      → ((i : ℕ) (pass : Pass S N E R) → slice_get passes i ≡ Some pass → IsDealt object i journal v.owns pass)
      → Learns next halts frees takes front at tells means begin v journal word cell → IsSeen next halts frees takes begin.state journal passes
  seen_again object passes v journal word cell count from_first dealt learns = record {
    whole = whole_again object passes v journal word cell count from_first dealt learns;
    all = λ i pass at_i. (dealt i pass at_i).seen;
  }

-- all callers are still to be dealt out
pub dealing_all : {E R : Type 0} (v : View E R) → v.stage ≡ Idle → v.number ≡ 0 → Dealing 0 v.seen v.owns v
dealing_all v idle from_first = record {
  stage = idle;
  seen = refl;
  number = from_first;
  count = omega arith;
  owns = λ i. let same : i ≡ 0 + i = omega arith in ap (get_elem? v.owns) same;
}
