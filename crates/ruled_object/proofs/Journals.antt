-- A journal that grows by one entry.
use Rattle.std.proofs.Common.{◌≡◌, ◌≢◌, ℕ, zero, suc, ◌<◌, ◌≤◌, Bool, true, false, cond, eqb, eq-eqb, ne_eqb, ◌⊎◌, inl, inr, ⊎_elim, List, [], ◌∷◌, ◌++◌, length, slice_get, Option, Some, None, refl, sym, ap, ◌∙◌, subst, append_assoc, arith}
use Rattle.std.proofs.lemmas.List.{append-nil}
use Rattle.std.proofs.lemmas.Option.{slice_get_within}
use Rattle.sync_types.specs.declared.misuse.Misuse.{Misuse}
use Rattle.sync_model.specs.declared.journal.Deed.{Deed}
use Rattle.sync_model.specs.declared.journal.Deed.TheVariants.{Event, Refused, Halt}
use Rattle.sync_model.specs.declared.journal.Entry.{Entry}
use Rattle.sync_model.specs.Front.{AtLeast}
use Rattle.sync_model.specs.Journal.{Begins, halt_next, halt_after, by, is_such, AllBefore, Covers, KeepsEdges, TimesRise, state_next, state_after, Right, Follows}

module _ {A : Type 0} where
  pub begins_all : (l : List A) → Begins l l
  begins_all l = ([], sym (append-nil l))

  pub begins_more : (l m xs : List A) → Begins l xs → Begins (l ++ m) xs
  begins_more l m xs b = (b.0 ++ m, ap (λ (z : List A). z ++ m) b.1 ∙ append_assoc xs b.0 m)

  pub begins_on : (l m xs : List A) → Begins l m → Begins m xs → Begins l xs
  begins_on l m xs a b = (b.0 ++ a.0, a.1 ∙ (ap (λ (z : List A). z ++ a.0) b.1 ∙ append_assoc xs b.0 a.0))

  -- what stands in a list with one more item stands in the list, or is that item
  pub at_end : (l : List A) (a b : A) (j : ℕ) → slice_get (l ++ a ∷ []) j ≡ Some b → (slice_get l j ≡ Some b) ⊎ ((j ≡ length l) × (a ≡ b))
  at_end [] a b zero e = inr (refl, (cc))
  at_end [] a b (suc j) e = (cc)
  at_end (x ∷ xs) a b zero e = inl e
  at_end (x ∷ xs) a b (suc j) e = ⊎_elim (λ t. inl t) (λ t. inr (ap suc t.0, t.1)) (at_end xs a b j e)

module _ {E R : Type 0} where
  pub by-append : (c : ℕ) (l m : List (Entry E R)) → by c (l ++ m) ≡ by c l ++ by c m
  by-append c [] m = refl
  by-append c (x ∷ xs) m = by_choice (eqb x.caller c) x (by c (xs ++ m)) (by c xs) (by c m) (by-append c xs m)
    where
      by_choice : (b : Bool) (x : Entry E R) (whole front rest : List (Entry E R)) → whole ≡ front ++ rest → cond b (x ∷ whole) whole ≡ cond b (x ∷ front) front ++ rest
      by_choice true x whole front rest e = ap (λ (z : List (Entry E R)). x ∷ z) e
      by_choice false x whole front rest e = e

  pub by_here : (c : ℕ) (l : List (Entry E R)) (x : Entry E R) → x.caller ≡ c → by c (l ++ x ∷ []) ≡ by c l ++ x ∷ []
  by_here c l x e = by-append c l (x ∷ []) ∙ ap (λ (b : Bool). by c l ++ cond b (x ∷ []) []) (eq-eqb x.caller c e)

  pub by_other : (c : ℕ) (l : List (Entry E R)) (x : Entry E R) → x.caller ≢ c → by c (l ++ x ∷ []) ≡ by c l
  by_other c l x n = by-append c l (x ∷ []) ∙ (ap (λ (b : Bool). by c l ++ cond b (x ∷ []) []) (ne_eqb x.caller c n) ∙ append-nil (by c l))

  pub halt_snoc : (h : Option Misuse) (l : List (Entry E R)) (x : Entry E R) → halt_after h (l ++ x ∷ []) ≡ halt_next (halt_after h l) x.deed
  halt_snoc h [] x = refl
  halt_snoc h (y ∷ ys) x = halt_snoc (halt_next h y.deed) ys x

  pub covers_more : (frees : E → R → Bool) (f g : List ℕ) (l : List (Entry E R)) → AtLeast f g → Covers frees g l → Covers frees f l
  covers_more frees f g l more covers i x e free = λ c. let a = more c in let b = covers i x e free c in omega arith

  pub covers_snoc : (frees : E → R → Bool) (f : List ℕ) (l : List (Entry E R)) (x : Entry E R) → Covers frees f l → (is_such frees x.deed ≡ true → AtLeast f x.front) → Covers frees f (l ++ x ∷ [])
  covers_snoc frees f l x covers here i y e free = ⊎_elim (λ t. covers i y t free)
      (λ t. subst (λ (z : Entry E R). AtLeast f z.front) t.1 (here (subst (λ (z : Entry E R). is_such frees z.deed ≡ true) (sym t.1) free))) (at_end l x y i e)

  -- one entry more, whose number is past all
  pub times_snoc : (l : List (Entry E R)) (y : Entry E R) → TimesRise l → AllBefore l y.time → TimesRise (l ++ y ∷ [])
  times_snoc l y rise later i j x z before at_i at_j = ⊎_elim
      (λ at_x. ⊎_elim (λ at_z. rise i j x z before at_x at_z) (λ t. let s = ap (λ (e : Entry E R). e.time) t.1 in let a = later i x at_x in omega arith) (at_end l y z j at_j))
      (λ t. ⊎_elim (λ at_z. let k = slice_get_within l j z at_z in let s = t.0 in absurd (omega arith)) (λ u. let s = t.0 in let k = u.0 in absurd (omega arith)) (at_end l y z j at_j))
      (at_end l y x i at_i)

  pub before_snoc : (low high : ℕ) (l : List (Entry E R)) (y : Entry E R) → AllBefore l low → low ≤ high → y.time < high → AllBefore (l ++ y ∷ []) high
  before_snoc low high l y past more here i x at = ⊎_elim (λ t. let p = past i x t in omega arith) (λ t. let s = ap (λ (e : Entry E R). e.time) t.1 in omega arith) (at_end l y x i at)

  pub edges_snoc : (frees takes : E → R → Bool) (l : List (Entry E R)) (y : Entry E R) → KeepsEdges frees takes l → (is_such takes y.deed ≡ true → Covers frees y.front l) → KeepsEdges frees takes (l ++ y ∷ [])
  edges_snoc frees takes l y edges covers i j x z before at_i at_j free take = ⊎_elim
      (λ at_x. ⊎_elim (λ at_z. edges i j x z before at_x at_z free take)
      (λ t. subst (λ (u : Entry E R). AtLeast u.front x.front) t.1 (covers (subst (λ (u : Entry E R). is_such takes u.deed ≡ true) (sym t.1) take) i x at_x free))
      (at_end l y z j at_j))
      (λ t. ⊎_elim (λ at_z. let k = slice_get_within l j z at_z in let s = t.0 in absurd (omega arith)) (λ u. let s = t.0 in let k = u.0 in absurd (omega arith)) (at_end l y z j at_j))
      (at_end l y x i at_i)

module _ {S E R : Type 0} (next : S → ℕ → E → S × R) where
  pub state_snoc : (s : S) (l : List (Entry E R)) (x : Entry E R) → state_after next s (l ++ x ∷ []) ≡ state_next next (state_after next s l) x.caller x.deed
  state_snoc s [] x = refl
  state_snoc s (y ∷ ys) x = state_snoc (state_next next s y.caller y.deed) ys x

  pub follows_snoc : (halts : Bool) (s : S) (h : Option Misuse) (l : List (Entry E R)) (x : Entry E R) → Follows next halts s h l → Right next halts (state_after next s l) (halt_after h l) x.caller x.deed → Follows next halts s h (l ++ x ∷ [])
  follows_snoc halts s h [] x f r = (r, tt)
  follows_snoc halts s h (y ∷ ys) x f r = (f.0, follows_snoc halts (state_next next s y.caller y.deed) (halt_next h y.deed) ys x f.1 r)

  no_halt : (halts : Bool) (s : S) (c : ℕ) (d : Deed E R) → halts ≡ false → Right next halts s None c d → halt_next None d ≡ None
  no_halt halts s c (Event e r) never right = refl
  no_halt halts s c (Refused e m) never right = refl
  no_halt halts s c (Halt m) never right = (cc)

  -- where a machine never halts, no misuse ever stands
  pub never_halted : (halts : Bool) (s : S) (l : List (Entry E R)) → halts ≡ false → Follows next halts s None l → halt_after None l ≡ None
  never_halted halts s [] never f = refl
  never_halted halts s (y ∷ ys) never f = let e = no_halt halts s y.caller y.deed never f.0 in let rest : List (Entry E R) = ys in
      ap (λ (h : Option Misuse). halt_after h rest) e
      ∙ never_halted halts (state_next next s y.caller y.deed) ys never (subst (λ (h : Option Misuse). Follows next halts (state_next next s y.caller y.deed) h rest) e f.1)
