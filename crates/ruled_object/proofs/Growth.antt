-- Entries of one caller that stand one after the other.
use Rattle.std.proofs.Common.{◌≡◌, ℕ, suc, ◌<◌, Bool, length, length-append, Option, None, Some, List, [], ◌∷◌, ◌++◌, refl, sym, ap, ◌∙◌, subst, append_assoc, arith}
use Rattle.std.specs.List.{AllByRecursion}
use Rattle.std.proofs.lemmas.List.{append_cancel_right, map-append}
use Rattle.ruled_object.proofs.Journals.{by_here}
use Rattle.sync_types.specs.declared.misuse.Misuse.{Misuse}
use Rattle.sync_model.specs.declared.answer.Answer.{Answer}
use Rattle.sync_model.specs.declared.answer.Answer.TheVariants.{Done, Halted}
use Rattle.sync_model.specs.declared.journal.Entry.{Entry}
use Rattle.sync_model.specs.Front.{Front, NoLess, Later}
use Rattle.sync_model.specs.Journal.{halt_next, halt_of, by, front_at, Rising, state_next, state_after, Right, Follows}
use Rattle.ruled_object.specs.declared.pass.Pass.{Pass}
use Rattle.ruled_object.specs.Cells.{deed_of}
use Rattle.ruled_object.specs.Growth.{Placed, entries_of, Leads, halt_before, MeetsHalt, IsRight, Grows, Makes, IsAlone, NeedsNoTurn, MayBeMade, MakesWith}
use Rattle.ruled_object.specs.Passes.{number_of, left_of, turns_of, seen_by, own_by, IsSpent, Adds}
use Rattle.ruled_object.specs.Standing.{stand_next, stand_from}

module _ {E R : Type 0} where
  leads-append : (seen mid now : List (Entry E R)) (es fs : List (Placed E R)) → Leads seen es mid → Leads mid fs now → Leads seen (es ++ fs) now
  leads-append seen mid now [] fs at_first then_on = subst (λ (z : List (Entry E R)). Leads z fs now) at_first then_on
  leads-append seen mid now (e ∷ es) fs at_first then_on = (at_first.0, at_first.1, leads-append (e.before ++ e.entry ∷ []) mid now es fs at_first.2 then_on)

  rising_from : (low from to : Front) (es : List (Placed E R)) → NoLess from low → Rising from (entries_of es) to → Rising low (entries_of es) to
  rising_from low from to [] more rising = ((λ c. let a = more.0 c in let b = rising.0 c in omega arith), (let a = more.1 in let b = rising.1 in omega arith))
  rising_from low from to (e ∷ es) more rising = (((λ c. let a = more.0 c in let b = rising.0.0 c in omega arith), (let a = more.1 in let b = rising.0.1 in omega arith)), rising.1)

  rising-append : (from between to : Front) (es fs : List (Placed E R)) → Rising from (entries_of es) between → Rising between (entries_of fs) to → Rising from (entries_of (es ++ fs)) to
  rising-append from between to [] fs at_first then_on = rising_from from between to fs at_first then_on
  rising-append from between to (e ∷ es) fs at_first then_on = (at_first.0, rising-append (front_at e.entry) between to es fs at_first.1 then_on)

module _ {E R : Type 0} where
  halt_before-snoc : (es : List (Placed E R)) (p : Placed E R) → halt_before (es ++ p ∷ []) ≡ halt_of p.before
  halt_before-snoc [] p = refl
  halt_before-snoc (e ∷ []) p = refl
  halt_before-snoc (e ∷ (f ∷ es)) p = halt_before-snoc (f ∷ es) p

  -- the last entry says whether a halt was met
  pub meets-snoc : {A : Type 0} (es : List (Placed E R)) (p : Placed E R) (answer : Answer A) → MeetsHalt (p ∷ []) answer → MeetsHalt (es ++ p ∷ []) answer
  meets-snoc es p (Done a) meets = halt_before-snoc es p ∙ meets
  meets-snoc es p (Halted m) meets = halt_before-snoc es p ∙ meets

module _ {E R W : Type 0} (out : W) (after : W → E → R → W) where
  -- one entry more
  pub stand-snoc : (w : W) (own : List (Entry E R)) (x : Entry E R) → stand_from out after w (own ++ x ∷ []) ≡ stand_next out after (stand_from out after w own) x.deed
  stand-snoc w [] x = refl
  stand-snoc w (y ∷ ys) x = stand-snoc (stand_next out after w y.deed) ys x

  -- one entry more behind others
  pub stands_then : (w : W) (old new : List (Entry E R)) (es : List (Placed E R)) (last : Placed E R) → new ≡ old ++ entries_of (es ++ last ∷ []) → stand_from out after w new ≡ stand_next out after (stand_from out after w (old ++ entries_of es)) last.entry.deed
  stands_then w old new es last mine =
      let whole : new ≡ (old ++ entries_of es) ++ last.entry ∷ [] = mine ∙ (ap (λ (z : List (Entry E R)). old ++ z) (map-append (λ (p : Placed E R). p.entry) es (last ∷ [])) ∙ sym (append_assoc old (entries_of es) (last.entry ∷ []))) in
      ap (stand_from out after w) whole ∙ stand-snoc w (old ++ entries_of es) last.entry

module _ {S E R : Type 0} (next : S → ℕ → E → S × R) where
  follows_front : (halts : Bool) (s : S) (h : Option Misuse) (l m : List (Entry E R)) → Follows next halts s h (l ++ m) → Follows next halts s h l
  follows_front halts s h [] m f = tt
  follows_front halts s h (x ∷ xs) m f = (f.0, follows_front halts (state_next next s x.caller x.deed) (halt_next h x.deed) xs m f.1)

module _ {S E R : Type 0} (next : S → ℕ → E → S × R) (halts : Bool) (start : S) where
  right-append : (caller : ℕ) (es fs : List (Placed E R)) → AllByRecursion (IsRight next halts start caller) es → AllByRecursion (IsRight next halts start caller) fs → AllByRecursion (IsRight next halts start caller) (es ++ fs)
  right-append caller [] fs at_first then_on = then_on
  right-append caller (e ∷ es) fs at_first then_on = (at_first.0, right-append caller es fs at_first.1 then_on)

  -- an answer is Halted exactly where a halt stands before
  meets : (caller : ℕ) (p : Placed E R) (event : E) (answer : Answer R) → Right next halts (state_after next start p.before) (halt_of p.before) caller (deed_of event answer) → MeetsHalt (p ∷ []) answer
  meets caller p event (Done reply) right = right.0
  meets caller p event (Halted misuse) right = right

module _ {S N E R : Type 0} (next : S → ℕ → E → S × R) (halts : Bool) (start : S) where
  -- one entry
  pub grows_one : (frees takes : E → R → Bool) (old new : Pass S N E R) (e : Entry E R) (event : E) (answer : Answer R) (from to : Front) → Adds next halts frees takes start old e new
      → number_of new ≡ number_of old → e.deed ≡ deed_of event answer → front_at e ≡ to → Later to from
      → (p : Placed E R) × (p.entry ≡ e) × Grows next halts start old from (p ∷ []) new to × MeetsHalt (p ∷ []) answer
  grows_one frees takes old new e event answer from to adds number deed front more =
      let p : Placed E R = record { before = seen_by old ++ adds.between; entry = e } in (
        p,
        refl,
        record {
          history = ((adds.between, refl), adds.knew, adds.history);
          mine = adds.mine;
          right = ((adds.caller, adds.right), tt);
          fronts = (subst (λ (f : Front). Later f from) (sym front) more, subst (λ (f : Front). NoLess f (front_at e)) front ((λ c. omega arith), omega arith));
          number = number;
        },
        meets next halts start (number_of old) p event answer (subst (Right next halts (state_after next start p.before) (halt_of p.before) (number_of old)) deed adds.right),
      )

  -- the entries of two calls
  pub grows_both : (old mid new : Pass S N E R) (es fs : List (Placed E R)) (from between to : Front) → Grows next halts start old from es mid between → Grows next halts start mid between fs new to
      → Grows next halts start old from (es ++ fs) new to
  grows_both old mid new es fs from between to at_first then_on = record {
    history = leads-append (seen_by old) (seen_by mid) (seen_by new) es fs at_first.history then_on.history;
    mine =
        then_on.mine
        ∙ (ap (λ (z : List (Entry E R)). z ++ entries_of fs) at_first.mine ∙ (append_assoc (own_by old) (entries_of es) (entries_of fs) ∙ sym (ap (λ (z : List (Entry E R)). own_by old ++ z) (map-append (λ (p : Placed E R). p.entry) es fs))));
    right = right-append next halts start (number_of old) es fs at_first.right (subst (λ (c : ℕ). AllByRecursion (IsRight next halts start c) fs) at_first.number then_on.right);
    fronts = rising-append from between to es fs at_first.fronts then_on.fronts;
    number = then_on.number ∙ at_first.number;
  }

  -- what stands before an entry
  pub before_one : (frees takes : E → R → Bool) (old new : Pass S N E R) (e : Entry E R) (front : List (Entry E R)) → Adds next halts frees takes start old e new → seen_by new ≡ front ++ e ∷ []
      → Follows next halts start None front × (by (number_of old) front ≡ own_by old)
  before_one frees takes old new e front adds ends =
      let whole : by (number_of old) front ++ e ∷ [] ≡ own_by old ++ e ∷ [] =
      sym (by_here (number_of old) front e adds.caller) ∙ (ap (λ (z : List (Entry E R)). by (number_of old) z) (sym ends) ∙ (sym adds.all ∙ adds.mine)) in
      (follows_front next halts start None front (e ∷ []) (subst (Follows next halts start None) ends adds.follows), append_cancel_right (by (number_of old) front) (own_by old) (e ∷ []) whole)

  -- what a call shows of the one entry that it adds
  pub makes_one : (frees takes : E → R → Bool) (old new : Pass S N E R) (e : Entry E R) (event : E) (answer : Answer R) (from to : Front) → Adds next halts frees takes start old e new
      → number_of new ≡ number_of old → e.deed ≡ deed_of event answer → front_at e ≡ to → Later to from → Makes next halts start old from event answer new to
  makes_one frees takes old new e event answer from to adds number deed front more =
      let one = grows_one frees takes old new e event answer from to adds number deed front more in
      let p : Placed E R = one.0 in
      let known = before_one frees takes old new e p.before adds (one.2.history.2 ∙ ap (λ (x : Entry E R). p.before ++ x ∷ []) one.1) in
      record { one = p; grows = one.2; deed = ap (λ (x : Entry E R). x.deed) one.1 ∙ deed; halted = one.3; own = sym known.1; follows = known.0 }

module _ {A : Type 0} where
  abbrev but_last : List A → List A
  but_last [] = []
  but_last (x ∷ []) = []
  but_last (x ∷ (y ∷ ys)) = x ∷ but_last (y ∷ ys)

  but_last-snoc : (xs : List A) (x : A) → but_last (xs ++ x ∷ []) ≡ xs
  but_last-snoc [] x = refl
  but_last-snoc (y ∷ []) x = refl
  but_last-snoc (y ∷ (z ∷ zs)) x = ap (λ (l : List A). y ∷ l) (but_last-snoc (z ∷ zs) x)

  abbrev last_or : A → List A → A
  last_or d [] = d
  last_or d (x ∷ xs) = last_or x xs

  last_or-snoc : (d : A) (xs : List A) (x : A) → last_or d (xs ++ x ∷ []) ≡ x
  last_or-snoc d [] x = refl
  last_or-snoc d (y ∷ ys) x = last_or-snoc y ys x

  -- the last item, and those before it
  pub same_snoc : (xs ys : List A) (x y : A) → xs ++ x ∷ [] ≡ ys ++ y ∷ [] → (xs ≡ ys) × (x ≡ y)
  same_snoc xs ys x y e =
      (sym (but_last-snoc xs x) ∙ (ap but_last e ∙ but_last-snoc ys y), sym (last_or-snoc x xs x) ∙ (ap (last_or x) e ∙ last_or-snoc x ys y))

sized : {E R : Type 0} (es : List (Placed E R)) → length (entries_of es) ≡ length es
sized [] = refl
sized (e ∷ es) = ap suc (sized es)

module _ {S N E R : Type 0} (next : S → ℕ → E → S × R) (halts : Bool) (alone : S → ℕ → E → Bool) (start : S) where
  -- the one entry that a pass's caller made is the last that it has seen
  pub needs_none : (old new : Pass S N E R) (journal : List (Entry E R)) (e : Entry E R) (from to : Front) → seen_by new ≡ journal ++ e ∷ [] → (IsAlone alone (state_after next start journal) e.caller e.deed → turns_of new ≡ turns_of old)
      → NeedsNoTurn next halts alone start old from new to
  needs_none old new journal e from to seen none one grows is =
      let same = same_snoc one.before journal one.entry e (sym grows.history.2 ∙ seen) in
      none (subst (λ (z : List (Entry E R) × Entry E R). IsAlone alone (state_after next start z.0) z.1.caller z.1.deed) (λ i. (same.0 i, same.1 i)) is)

  pub needs_none_spent : (old mid new : Pass S N E R) (from to : Front) → IsSpent old mid → NeedsNoTurn next halts alone start mid from new to → NeedsNoTurn next halts alone start old from new to
  needs_none_spent old mid new from to spent needs one grows is =
      let after : Grows next halts start (record old { left = left_of mid }) from (one ∷ []) new to = record { history = grows.history; mine = grows.mine; right = grows.right; fronts = grows.fronts; number = grows.number } in
      needs one (subst (λ p. Grows next halts start p from (one ∷ []) new to) (sym spent.1) after) is ∙ ap turns_of spent.1

  -- who made several entries didn't make one
  pub needs_none_several : (old new : Pass S N E R) (es : List (Placed E R)) (low high from to : Front) → Grows next halts start old low es new high → 1 < length es → NeedsNoTurn next halts alone start old from new to
  needs_none_several old new es low high from to many more one grows is =
      let whole : length (own_by old ++ entries_of es) ≡ length (own_by old ++ one.entry ∷ []) = ap length (sym many.mine ∙ grows.mine) in
      absurd (omega (arith, length-append (own_by old) (entries_of es), length-append (own_by old) (one.entry ∷ []), sized es))

module _ {S N E R : Type 0} (next : S → ℕ → E → S × R) (halts : Bool) (start : S) (may : S → E → Type 0) (refused : E → Type 0) where
  -- what was chosen by the cell was chosen by the history that stands before the entry
  pub makes_with : (old new : Pass S N E R) (journal : List (Entry E R)) (e : Entry E R) (event : E) (answer : Answer R) (from to : Front) (halted : Option Misuse) (state : S) → Makes next halts start old from event answer new to → seen_by new ≡ journal ++ e ∷ []
      → halted ≡ halt_of journal → state ≡ state_after next start journal → MayBeMade may refused halted state event → MakesWith next halts start may refused old from event answer new to
  makes_with old new journal e event answer from to halted state made seen stops is chosen =
      let same = same_snoc made.one.before journal made.one.entry e (sym made.grows.history.2 ∙ seen) in
      let here : MayBeMade may refused (halt_of journal) (state_after next start journal) event = subst (λ (z : Option Misuse × S). MayBeMade may refused z.0 z.1 event) (λ i. (stops i, is i)) chosen in
      record { makes = made; chosen = subst (λ (z : List (Entry E R)). MayBeMade may refused (halt_of z) (state_after next start z) event) (sym same.0) here }

-- an event that was at hand is the one that is made
pub at_hand : {S N E R : Type 0} (next : S → ℕ → E → S × R) (halts : Bool) (start : S) (ready : E) (old new : Pass S N E R) (from to : Front) (event : E) (answer : Answer R) → MakesWith next halts start (λ state given. given ≡ ready) (λ given. given ≡ ready) old from event answer new to → event ≡ ready
at_hand {S} {N} {E} {R} next halts start ready old new from to event answer made = by_halt (halt_of made.makes.one.before) (state_after next start made.makes.one.before) made.chosen
  where
    by_halt : (halted : Option Misuse) (state : S) → MayBeMade (λ here given. given ≡ ready) (λ given. given ≡ ready) halted state event → event ≡ ready
    by_halt None state is = is
    by_halt (Some misuse) state is = is
