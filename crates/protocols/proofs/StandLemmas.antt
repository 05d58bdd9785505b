-- A caller's own answers say where it stands, as the machine does.
use Rattle.std.proofs.Common.{◌≡◌, ◌≢◌, ℕ, Bool, true, false, List, [], ◌∷◌, refl, sym, ap, ◌∙◌, subst, arith}
use Rattle.std.specs.Prelude.{◌==◌, if◌then◌else◌}
use Rattle.std.proofs.lemmas.Bool.Decides.{nat_tests}
use Rattle.sync_model.specs.Log.{Entry, after, Follows}
use Rattle.protocols.specs.Stands.{stand_from}

unequal : (a b : ℕ) → (a == b) ≡ false → b ≢ a
unequal a b is same = let is' : (a == a) ≡ false = subst (λ (n : ℕ). (a == n) ≡ false) same is in absurd (grind (arith, nat_tests))

equal : (a b : ℕ) → (a == b) ≡ true → a ≡ b
equal a b is = grind (arith, nat_tests)

module _ {S E R W : Type 0} (next : S → ℕ → E → S × R) (at : S → ℕ → W) (move : W → E → R → W) (own : (s : S) (c : ℕ) (e : E) → at (next s c e).0 c ≡ move (at s c) e (next s c e).1)
    (others : (s : S) (c o : ℕ) (e : E) → c ≢ o → at (next s o e).0 c ≡ at s c) where
  one_on : (s : S) (c o : ℕ) (e : E) (r : R) → (next s o e).1 ≡ r → (mine : Bool) → (o == c) ≡ mine → at (next s o e).0 c ≡ (if mine then move (at s c) e r else at s c)
  one_on s c o e r right true is = let same = equal o c is in subst (λ (n : ℕ). at (next s n e).0 c ≡ move (at s c) e r) (sym same) (own s c e ∙ ap (move (at s c) e) (sym (ap (λ (n : ℕ). (next s n e).1) same) ∙ right))
  one_on s c o e r right false is = others s c o e (unequal o c is)

  pub stands_in : (s : S) (c : ℕ) (log : List (Entry E R)) → Follows next s log → at (after next s log) c ≡ stand_from move (at s c) c log
  stands_in s c [] follows = refl
  stands_in s c (x ∷ log) follows =
      stands_in (next s x.caller x.event).0 c log follows.1 ∙ ap (λ (w : W). stand_from move w c log) (one_on s c x.caller x.event x.reply follows.0 (x.caller == c) refl)

module _ {S E R : Type 0} (next : S → ℕ → E → S × R) (size : S → ℕ) (same : (s : S) (c : ℕ) (e : E) → size (next s c e).0 ≡ size s) where
  -- what no event changes
  pub size_stays : (s : S) (log : List (Entry E R)) → size (after next s log) ≡ size s
  size_stays s [] = refl
  size_stays s (x ∷ log) = size_stays (next s x.caller x.event).0 log ∙ same s x.caller x.event
