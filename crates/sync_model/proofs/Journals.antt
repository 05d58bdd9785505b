-- Journals in two parts, and as logs.
use Rattle.std.proofs.Common.{◌≡◌, ◌≢◌, ℕ, suc, ◌+◌, ◌<◌, Bool, true, List, [], ◌∷◌, ◌++◌, length, Option, Some, None, slice_get, refl, sym, ap, ◌∙◌, subst, arith}
use Rattle.sync_types.specs.declared.misuse.Misuse.{Misuse}
use Rattle.sync_model.specs.declared.journal.Deed.{Deed}
use Rattle.sync_model.specs.declared.journal.Deed.TheVariants.{Event, Refused, Halt}
use Rattle.sync_model.specs.declared.journal.Entry.{Entry}
use Rattle.sync_model.specs.Front.{Front, AtLeast, NoLess, Later}
use Rattle.sync_model.specs.Log as log
use Rattle.sync_model.specs.Journal.{logged, log_of, halt_next, halt_after, is_such, front_at, KeepsEdges, TimesRise, Rising, state_next, state_after, Right, Follows}

module _ {A : Type 0} where
  -- what stands behind a list is at its length
  at_length : (xs ys : List A) (y : A) → slice_get (xs ++ y ∷ ys) (length xs) ≡ Some y
  at_length [] ys y = refl
  at_length (x ∷ xs) ys y = at_length xs ys y

  at_later : (xs ys : List A) (i : ℕ) → slice_get (xs ++ ys) (length xs + i) ≡ slice_get ys i
  at_later [] ys i = ap (slice_get ys) (omega arith)
  at_later (x ∷ xs) ys i = let e : length (x ∷ xs) + i ≡ suc (length xs + i) = omega arith in ap (slice_get (x ∷ (xs ++ ys))) e ∙ at_later xs ys i

-- what is no less than what is no less, is so
no_less : (a b c : Front) → NoLess b a → NoLess c b → NoLess c a
no_less a b c first second = ((λ caller. let f = first.0 caller in let s = second.0 caller in omega arith), (let f = first.1 in let s = second.1 in omega arith))

weaker : (a b : Front) → Later b a → NoLess b a
weaker a b later = (later.0, let l = later.1 in omega arith)

later_on : (a b c : Front) → NoLess b a → Later c b → Later c a
later_on a b c first second = ((λ caller. let f = first.0 caller in let s = second.0 caller in omega arith), (let f = first.1 in let s = second.1 in omega arith))

module _ {E R : Type 0} where
  halt_both : (h : Option Misuse) (xs ys : List (Entry E R)) → halt_after h (xs ++ ys) ≡ halt_after (halt_after h xs) ys
  halt_both h [] ys = refl
  halt_both h (x ∷ xs) ys = halt_both (halt_next h x.deed) xs ys

  stays : (m : Misuse) (xs : List (Entry E R)) → halt_after (Some m) xs ≡ Some m
  stays m [] = refl
  stays m (x ∷ xs) = stays m xs

  unhalted : (d : Deed E R) → ((m : Misuse) → d ≢ Halt m) → halt_next None d ≡ None
  unhalted (Event e r) none = refl
  unhalted (Refused e m) none = refl
  unhalted (Halt m) none = absurd (none m refl)

  pub none_on : (xs : List (Entry E R)) (x : Entry E R) → halt_after None xs ≡ None → ((m : Misuse) → x.deed ≢ Halt m) → halt_after None (xs ++ x ∷ []) ≡ None
  none_on xs x e none = halt_both None xs (x ∷ []) ∙ (ap (λ h. halt_next h x.deed) e ∙ unhalted x.deed none)

  pub first_on : (xs : List (Entry E R)) (x : Entry E R) (m : Misuse) → halt_after None xs ≡ None → x.deed ≡ Halt m → halt_after None (xs ++ x ∷ []) ≡ Some m
  first_on xs x m e is = halt_both None xs (x ∷ []) ∙ (ap (λ h. halt_next h x.deed) e ∙ ap (halt_next None) is)

  pub stands : (xs ys : List (Entry E R)) (m : Misuse) → halt_after None xs ≡ Some m → halt_after None (xs ++ ys) ≡ Some m
  stands xs ys m e = halt_both None xs ys ∙ (ap (λ h. halt_after h ys) e ∙ stays m ys)

  pub edge_on : (frees takes : E → R → Bool) (xs ys zs : List (Entry E R)) (x z : Entry E R) → KeepsEdges frees takes (xs ++ x ∷ (ys ++ z ∷ zs))
      → is_such frees x.deed ≡ true → is_such takes z.deed ≡ true → AtLeast z.front x.front
  edge_on frees takes xs ys zs x z edges =
      edges (length xs) (length xs + suc (length ys)) x z (omega arith) (at_length xs (ys ++ z ∷ zs) x) (at_later xs (x ∷ (ys ++ z ∷ zs)) (suc (length ys)) ∙ at_length ys zs z)

  pub rise_on : (xs ys zs : List (Entry E R)) (x z : Entry E R) → TimesRise (xs ++ x ∷ (ys ++ z ∷ zs)) → x.time < z.time
  rise_on xs ys zs x z rise =
      rise (length xs) (length xs + suc (length ys)) x z (omega arith) (at_length xs (ys ++ z ∷ zs) x) (at_later xs (x ∷ (ys ++ z ∷ zs)) (suc (length ys)) ∙ at_length ys zs z)

  pub rising_all : (from to : Front) (xs : List (Entry E R)) → Rising from xs to → NoLess to from
  rising_all from to [] rising = rising
  rising_all from to (x ∷ xs) rising = no_less from (front_at x) to (weaker from (front_at x) rising.0) (rising_all (front_at x) to xs rising.1)

  pub rising_at : (from to : Front) (xs ys : List (Entry E R)) (x : Entry E R) → Rising from (xs ++ x ∷ ys) to → Later (front_at x) from × Rising (front_at x) ys to
  rising_at from to [] ys x rising = rising
  rising_at from to (z ∷ xs) ys x rising =
      let rest = rising_at (front_at z) to xs ys x rising.1 in
      (later_on from (front_at z) (front_at x) (weaker from (front_at z) rising.0) rest.0, rest.1)

module _ {S E R : Type 0} (next : S → ℕ → E → S × R) where
  logged_on : (halts : Bool) (s : S) (h : Option Misuse) (c : ℕ) (d : Deed E R) (later : List (log.Entry E R)) (last : S) → Right next halts s h c d
      → log.Follows next (state_next next s c d) later × (log.after next (state_next next s c d) later ≡ last) → log.Follows next s (logged c d later) × (log.after next s (logged c d later) ≡ last)
  logged_on halts s h c (Event e r) later last right rest = ((sym right.1, rest.0), rest.1)
  logged_on halts s h c (Refused e m) later last right rest = rest
  logged_on halts s h c (Halt m) later last right rest = rest

  -- the events that the machine took are a log of it
  pub is_log : (halts : Bool) (s : S) (h : Option Misuse) (xs : List (Entry E R)) → Follows next halts s h xs → log.Follows next s (log_of xs) × (log.after next s (log_of xs) ≡ state_after next s xs)
  is_log halts s h [] follows = (tt, refl)
  is_log halts s h (x ∷ xs) follows = logged_on halts s h x.caller x.deed (log_of xs) (state_after next (state_next next s x.caller x.deed) xs) follows.0 (is_log halts (state_next next s x.caller x.deed) (halt_next h x.deed) xs follows.1)

  -- an entry is right after those before it
  pub right_at : (halts : Bool) (s : S) (h : Option Misuse) (xs ys : List (Entry E R)) (y : Entry E R) → Follows next halts s h (xs ++ y ∷ ys) → Right next halts (state_after next s xs) (halt_after h xs) y.caller y.deed
  right_at halts s h [] ys y follows = follows.0
  right_at halts s h (x ∷ xs) ys y follows = right_at halts (state_next next s x.caller x.deed) (halt_next h x.deed) xs ys y follows.1

  pub answered : (halts : Bool) (s : S) (xs ys : List (Entry E R)) (y : Entry E R) (e : E) (r : R) → Follows next halts s None (xs ++ y ∷ ys) → y.deed ≡ Event e r
      → (halt_after None xs ≡ None) × (r ≡ (next (state_after next s xs) y.caller e).1)
  answered halts s xs ys y e r follows is = subst (λ d. Right next halts (state_after next s xs) (halt_after None xs) y.caller d) is (right_at halts s None xs ys y follows)

  pub refused : (halts : Bool) (s : S) (xs ys : List (Entry E R)) (y : Entry E R) (e : E) (m : Misuse) → Follows next halts s None (xs ++ y ∷ ys) → y.deed ≡ Refused e m → halt_after None xs ≡ Some m
  refused halts s xs ys y e m follows is = subst (λ d. Right next halts (state_after next s xs) (halt_after None xs) y.caller d) is (right_at halts s None xs ys y follows)
