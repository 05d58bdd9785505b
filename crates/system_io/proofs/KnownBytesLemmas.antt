-- What several writes in a row append.
use Rattle.std.proofs.Common.{ℕ, List, ◌++◌, Option, None, Some, ap, ◌∙◌, append_assoc}
use Rattle.std.specs.Io.KnownBytes.{Appends}

pub Appends-trans : (a b c : Option (List ℕ)) (xs ys : List ℕ) → Appends a b xs → Appends b c ys → Appends a c (xs ++ ys)
Appends-trans None b c xs ys first second = tt
Appends-trans (Some old) None c xs ys first second = absurd first
Appends-trans (Some old) (Some mid) None xs ys first second = absurd second
Appends-trans (Some old) (Some mid) (Some new) xs ys first second = second ∙ ap (λ l. l ++ ys) first ∙ append_assoc old xs ys
