-- By which deed a call takes in what earlier ones left, and what it gives.
use Rattle.std.proofs.Common.{◌≡◌, ℕ, Bool, true, false, List, [], ◌∷◌, Result, Ok, Err, refl, sym, ap, ◌∙◌, subst}
use Rattle.sync_types.specs.declared.misuse.Misuse.{Misuse}
use Rattle.sync_model.specs.declared.answer.Answer.TheVariants.{Done, Halted}
use Rattle.sync_model.specs.declared.journal.Deed.{Deed}
use Rattle.sync_model.specs.declared.journal.Deed.TheVariants.{Event, Refused, Halt}
use Rattle.sync_model.specs.Journal.{is_such}
use Rattle.protocols.specs.declared.step.Step.{Step}
use Rattle.protocols.specs.declared.step.Step.TheVariants.{Finished, Misused, Waits, Next, Never}
use Rattle.protocols.specs.Spelling.{CallAnswer, Rest, Spells, TakesInLast}
use Rattle.protocols.specs.Steps.{GainsAtItsEnd, KeepsResults}

module _ {O : Type 0} where
  -- whether a call with this answer takes in something: by such an outcome alone
  abbrev pub gained : (O → Bool) → CallAnswer O → Bool
  gained gains (Done (Ok outcome)) = gains outcome
  gained gains (Done (Err misuse)) = false
  gained gains (Halted misuse) = false

  gained_alike : (gains other : O → Bool) (answer : CallAnswer O) → ((outcome : O) → gains outcome ≡ other outcome) → gained gains answer ≡ gained other answer
  gained_alike gains other (Done (Ok outcome)) alike = alike outcome
  gained_alike gains other (Done (Err misuse)) alike = refl
  gained_alike gains other (Halted misuse) alike = refl

module _ {E R : Type 0} (takes : E → R → Bool) where
  -- a deed that takes in nothing, before others
  before : (deed : Deed E R) (rest : List (Deed E R)) (gained : Bool) → is_such takes deed ≡ false → TakesInLast takes gained rest → TakesInLast takes gained (deed ∷ rest)
  before deed [] gained none last = absurd last
  before deed (next ∷ rest) gained none last = (none, last)

module _ {G O E R : Type 0} (event_of : G → ℕ → E) (meaning : G → R → Step G O) (takes : E → R → Bool) (gains : G → O → Bool) where
  -- an event, by what its answer means
  goes_on : (stage : G) (e : E) (r : R) (step : Step G O) (rest : List (Deed E R)) (answer : CallAnswer O) (on : G → Type 0) → GainsAtItsEnd gains stage (takes e r) step
      → ((later : G) → on later → TakesInLast takes (gained (gains later) answer) rest) → Rest step rest on answer → TakesInLast takes (gained (gains stage) answer) (Event e r ∷ rest)
  goes_on stage e r (Finished outcome) rest answer on law later goes =
      subst (λ (ds : List (Deed E R)). TakesInLast takes (gained (gains stage) answer) (Event e r ∷ ds)) (sym goes.0) (law ∙ ap (gained (gains stage)) (sym goes.1))
  goes_on stage e r (Misused misuse) rest answer on law later goes =
      subst (λ (ds : List (Deed E R)). TakesInLast takes (gained (gains stage) answer) (Event e r ∷ ds)) (sym goes.0) (law ∙ ap (gained (gains stage)) (sym goes.1))
  goes_on stage e r (Waits next) rest answer on law later goes =
      before takes (Event e r) rest (gained (gains stage) answer) law.0 (subst (λ b. TakesInLast takes b rest) (gained_alike (gains next) (gains stage) answer law.1) (later next goes))
  goes_on stage e r (Next next) rest answer on law later goes =
      before takes (Event e r) rest (gained (gains stage) answer) law.0 (subst (λ b. TakesInLast takes b rest) (gained_alike (gains next) (gains stage) answer law.1) (later next goes))
  goes_on stage e r Never rest answer on law later goes = absurd goes

  module _ (law : (stage : G) (now : ℕ) (reply : R) → GainsAtItsEnd gains stage (takes (event_of stage now) reply) (meaning stage reply)) where
    pub takes_last : (stage : G) (deeds : List (Deed E R)) (answer : CallAnswer O) → Spells event_of meaning stage deeds answer → TakesInLast takes (gained (gains stage) answer) deeds
    takes_last stage [] answer spelt = absurd spelt
    takes_last stage (Event e r ∷ rest) answer spelt =
        goes_on stage e r (meaning stage r) rest answer (λ later. Spells event_of meaning later rest answer)
        (subst (λ x. GainsAtItsEnd gains stage (takes x r) (meaning stage r)) (sym spelt.0.1) (law stage spelt.0.0 r))
        (λ later goes. takes_last later rest answer goes) spelt.1
    takes_last stage (Refused e m ∷ rest) answer spelt =
        subst (λ (ds : List (Deed E R)). TakesInLast takes (gained (gains stage) answer) (Refused e m ∷ ds)) (sym spelt.1) (ap (gained (gains stage)) (sym spelt.2))
    takes_last stage (Halt m ∷ rest) answer spelt = absurd spelt

module _ {G O E R : Type 0} (event_of : G → ℕ → E) (meaning : G → R → Step G O) (gives : G → Result O Misuse → Bool) where
  gave : (stage : G) (step : Step G O) (rest : List (Deed E R)) (given : Result O Misuse) (on : G → Type 0) → KeepsResults gives stage step → ((later : G) → on later → gives later given ≡ true) → Rest step rest on (Done given) → gives stage given ≡ true
  gave stage (Finished outcome) rest given on keeps later goes = let is = goes.1 in let same : given ≡ Ok outcome = cc in ap (gives stage) same ∙ keeps
  gave stage (Misused misuse) rest given on keeps later goes = let is = goes.1 in let same : given ≡ Err misuse = cc in ap (gives stage) same ∙ keeps
  gave stage (Waits next) rest given on keeps later goes = keeps given (later next goes)
  gave stage (Next next) rest given on keeps later goes = keeps given (later next goes)
  gave stage Never rest given on keeps later goes = absurd goes

  module _ (law : (stage : G) (reply : R) → KeepsResults gives stage (meaning stage reply)) where
    pub gives_last : (stage : G) (deeds : List (Deed E R)) (given : Result O Misuse) → Spells event_of meaning stage deeds (Done given) → gives stage given ≡ true
    gives_last stage [] given spelt = absurd spelt
    gives_last stage (Event e r ∷ rest) given spelt = gave stage (meaning stage r) rest given (λ later. Spells event_of meaning later rest (Done given)) (law stage r) (λ later goes. gives_last later rest given goes) spelt.1
    gives_last stage (Refused e m ∷ rest) given spelt = let is = spelt.2 in absurd cc
    gives_last stage (Halt m ∷ rest) given spelt = absurd spelt
