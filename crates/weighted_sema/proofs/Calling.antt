-- What a call of `call_loop` shows, in the words of this crate.
use Rattle.std.proofs.Common.{◌≡◌, ℕ, zero, suc, List, [], ◌∷◌, ◌++◌, replicate, refl, sym, ap, subst}
use Rattle.sync_model.specs.declared.answer.Answer.{Answer}
use Rattle.sync_model.specs.declared.answer.Answer.TheVariants.{Done, Halted}
use Rattle.sync_model.specs.declared.journal.Deed.{Deed}
use Rattle.ruled_object.specs.Growth.{Placed, MeetsHalt}
use Rattle.protocols.specs.Spelling.{CallAnswer}
use Rattle.call_loop.specs.Calls.{told}

-- a call that is answered in other words meets the same halt
pub told_meets : {E R A B : Type 0} (words : A → B) (es : List (Placed E R)) (answer : Answer A) (result : Answer B) → result ≡ told words answer → MeetsHalt es answer → MeetsHalt es result
told_meets {E} {R} {A} {B} words es (Done given) result is meets = subst (λ (a : Answer B). MeetsHalt es a) (sym is) meets
told_meets {E} {R} {A} {B} words es (Halted misuse) result is meets = subst (λ (a : Answer B). MeetsHalt es a) (sym is) meets

module _ {E R O B : Type 0} (P : List (Deed E R) → Answer B → Type 0) (words : CallAnswer O → Answer B) (earlier : List (Deed E R)) (made : E → Deed E R) where
  -- the last deed of a call, and its answer
  pub ends : (event own : E) (rest : List (Deed E R)) (answer given : CallAnswer O) → event ≡ own → rest ≡ [] → answer ≡ given → P (earlier ++ made own ∷ []) (words given) → P (earlier ++ made event ∷ rest) (words answer)
  ends event own rest answer given of none is holds =
      subst (λ (e : E). P (earlier ++ made e ∷ rest) (words answer)) (sym of) (subst (λ (ds : List (Deed E R)). P (earlier ++ made own ∷ ds) (words answer)) (sym none) (subst (λ (a : CallAnswer O). P (earlier ++ made own ∷ []) (words a)) (sym is) holds))

-- one more of the same
pub once_more : {A : Type 0} (count : ℕ) (x : A) (rest : List A) → replicate (suc count) x ++ rest ≡ replicate count x ++ x ∷ rest
once_more zero x rest = refl
once_more (suc count) x rest = ap (λ xs. x ∷ xs) (once_more count x rest)
