-- Logs in two parts.
use Rattle.std.proofs.Common.{◌≡◌, ℕ, List, [], ◌∷◌, ◌++◌, refl, sym}
use Rattle.sync_model.specs.Log.{Entry, entry, after, Follows}

module _ {S E R : Type 0} (next : S → ℕ → E → S × R) where
  pub after_both : (s : S) (earlier later : List (Entry E R)) → after next s (earlier ++ later) ≡ after next (after next s earlier) later
  after_both s [] later = refl
  after_both s (x ∷ earlier) later = after_both (next s x.caller x.event).0 earlier later

  pub follows_apart : (s : S) (earlier later : List (Entry E R)) → Follows next s (earlier ++ later) → Follows next s earlier × Follows next (after next s earlier) later
  follows_apart s [] later follows = (tt, follows)
  follows_apart s (x ∷ earlier) later follows = let rest = follows_apart (next s x.caller x.event).0 earlier later follows.1 in ((follows.0, rest.0), rest.1)

  pub follows_joined : (s : S) (earlier later : List (Entry E R)) → Follows next s earlier → Follows next (after next s earlier) later → Follows next s (earlier ++ later)
  follows_joined s [] later front back = back
  follows_joined s (x ∷ earlier) later front back = (front.0, follows_joined (next s x.caller x.event).0 earlier later front.1 back)

  pub reply_is : (s : S) (earlier later : List (Entry E R)) (c : ℕ) (e : E) (r : R) → Follows next s (earlier ++ entry c e r ∷ later) → r ≡ (next (after next s earlier) c e).1
  reply_is s earlier later c e r follows = sym (follows_apart s earlier (entry c e r ∷ later) follows).1.0
