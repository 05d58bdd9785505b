-- What a call of `call_loop` shows, in the words of this crate.
use Rattle.std.proofs.Common.{◌≡◌, ℕ, zero, suc, Bool, true, false, List, [], ◌∷◌, ◌++◌, replicate, Ok, Err, refl, sym, ap, subst}
use Rattle.sync_model.specs.declared.answer.Answer.TheVariants.{Done, Halted}
use Rattle.sync_model.specs.declared.journal.Deed.{Deed}
use Rattle.ruled_object.specs.Growth.{Placed, MeetsHalt}
use Rattle.protocols.specs.Spelling.{CallAnswer}
use Rattle.call_loop.specs.Calls.{has_gained}
use Rattle.go_waits.specs.Answers.{done_answer}

-- what a caller may make that is between two calls
pub allowed : {W G : Type 0} (allows : W → G → Bool) (stand out : W) (stage : G) → allows out stage ≡ true → stand ≡ out → allows stand stage ≡ true
allowed {W} allows stand out stage may is = subst (λ (w : W). allows w stage ≡ true) (sym is) may

-- a call gains nothing whose outcomes don't
pub gains_nothing : {O : Type 0} (gains : O → Bool) (answer : CallAnswer O) → ((outcome : O) → gains outcome ≡ false) → has_gained gains answer ≡ false
gains_nothing gains (Done (Ok outcome)) none = none outcome
gains_nothing gains (Done (Err misuse)) none = refl
gains_nothing gains (Halted misuse) none = refl

-- a call that gives nothing but that it is done meets the same halt
pub done_meets : {E R O : Type 0} (es : List (Placed E R)) (answer : CallAnswer O) → MeetsHalt es answer → MeetsHalt es (done_answer answer)
done_meets es (Done given) meets = meets
done_meets es (Halted misuse) meets = meets

module _ {E R O : Type 0} (P : List (Deed E R) → CallAnswer O → Type 0) (earlier : List (Deed E R)) (made : E → Deed E R) where
  -- the last deed of a call, and its answer
  pub ends : (event own : E) (rest : List (Deed E R)) (answer given : CallAnswer O) → event ≡ own → rest ≡ [] → answer ≡ given → P (earlier ++ made own ∷ []) given → P (earlier ++ made event ∷ rest) answer
  ends event own rest answer given of none is holds =
      subst (λ (e : E). P (earlier ++ made e ∷ rest) answer) (sym of) (subst (λ (ds : List (Deed E R)). P (earlier ++ made own ∷ ds) answer) (sym none) (subst (λ (a : CallAnswer O). P (earlier ++ made own ∷ []) a) (sym is) holds))

-- one more of the same
pub once_more : {A : Type 0} (count : ℕ) (x : A) (rest : List A) → replicate (suc count) x ++ rest ≡ replicate count x ++ x ∷ rest
once_more zero x rest = refl
once_more (suc count) x rest = ap (λ xs. x ∷ xs) (once_more count x rest)
