-- How the deeds of a call end.
use Rattle.std.proofs.Common.{ℕ, List, [], ◌∷◌, refl, sym, subst}
use Rattle.sync_model.specs.declared.journal.Deed.{Deed}
use Rattle.sync_model.specs.declared.journal.Deed.TheVariants.{Event, Refused, Halt}
use Rattle.protocols.specs.declared.step.Step.{Step}
use Rattle.protocols.specs.declared.step.Step.TheVariants.{Finished, Misused, Waits, Next, Never}
use Rattle.protocols.specs.Spelling.{CallAnswer, Rest, Spells, IsEvent, Ends}

module _ {O E R : Type 0} where
  -- an event before deeds that end so
  before : (d : Deed E R) (rest : List (Deed E R)) (answer : CallAnswer O) → IsEvent d → Ends rest answer → Ends (d ∷ rest) answer
  before d [] answer is ends = absurd ends
  before d (x ∷ rest) answer is ends = (is, ends)

module _ {G O E R : Type 0} where
  -- an event, by what its answer means
  goes_on : (d : Deed E R) (step : Step G O) (rest : List (Deed E R)) (answer : CallAnswer O) (on : G → Type 0) → IsEvent d → ((later : G) → on later → Ends rest answer) → Rest step rest on answer → Ends (d ∷ rest) answer
  goes_on d (Finished outcome) rest answer on is later goes = subst (λ (r : List (Deed E R)). Ends (d ∷ r) answer) (sym goes.0) (subst (λ (a : CallAnswer O). Ends (d ∷ []) a) (sym goes.1) is)
  goes_on d (Misused misuse) rest answer on is later goes = subst (λ (r : List (Deed E R)). Ends (d ∷ r) answer) (sym goes.0) (subst (λ (a : CallAnswer O). Ends (d ∷ []) a) (sym goes.1) is)
  goes_on d (Waits stage) rest answer on is later goes = before d rest answer is (later stage goes)
  goes_on d (Next stage) rest answer on is later goes = before d rest answer is (later stage goes)
  goes_on d Never rest answer on is later goes = absurd goes

module _ {G O E R : Type 0} (event_of : G → ℕ → E) (meaning : G → R → Step G O) where
  pub ends : (stage : G) (deeds : List (Deed E R)) (answer : CallAnswer O) → Spells event_of meaning stage deeds answer → Ends deeds answer
  ends stage [] answer spelt = spelt
  ends stage (Event e r ∷ rest) answer spelt = goes_on (Event e r) (meaning stage r) rest answer (λ later. Spells event_of meaning later rest answer) tt (λ later goes. ends later rest answer goes) spelt.1
  ends stage (Refused e m ∷ rest) answer spelt = subst (λ (r : List (Deed E R)). Ends (Refused e m ∷ r) answer) (sym spelt.1) (subst (λ (a : CallAnswer O). let d : Deed E R = Refused e m in Ends (d ∷ []) a) (sym spelt.2) (e, refl))
  ends stage (Halt m ∷ rest) answer spelt = absurd spelt
