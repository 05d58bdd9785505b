-- Parts of calls that are one event.
use Rattle.std.proofs.Common.{◌≡◌, ◌⊎◌, inl, inr, ℕ, List, [], ◌∷◌, map, Ok, Err, refl, sym, ap, ◌∙◌}
use Rattle.sync_model.specs.declared.answer.Answer.TheVariants.{Done, Halted}
use Rattle.sync_model.specs.declared.journal.Deed.{Deed}
use Rattle.sync_model.specs.declared.journal.Deed.TheVariants.{Event, Refused, Halt}
use Rattle.sync_model.specs.declared.journal.Entry.{Entry}
use Rattle.sync_types.specs.declared.misuse.Misuse.{Misuse}
use Rattle.protocols.specs.declared.step.Step.{Step}
use Rattle.protocols.specs.declared.step.Step.TheVariants.{Finished, Misused, Waits, Next, Never}
use Rattle.protocols.specs.Spelling.{CallAnswer, Rest, IsFirstDeed, Spells}
use Rattle.run_record.specs.declared.entered.ObjectEvent.{ObjectEvent}
use Rattle.run_record.specs.declared.entered.ObjectReply.{ObjectReply}
use Rattle.run_record.specs.declared.made.Made.{Made}
use Rattle.run_record.specs.declared.made.Made.TheVariants.{Entered}
use Rattle.run_record.specs.Parts.{lifted_deed, lifted, stages}
use Rattle.run_record.specs.Record.{ObjectEntry}
use Rattle.run_record.specs.Returns.{IsOnce}
use Rattle.run_record.specs.Starting.{IsRefused}
use Rattle.run_record.proofs.Returning.{map_none}

module _ {G O : Type 0} where
  -- a call goes no further behind such a step
  abbrev pub IsShort : Step G O → Type 0
  IsShort (Finished outcome) = Unit {0}
  IsShort (Misused misuse) = Unit {0}
  IsShort (Waits later) = ⊥
  IsShort (Next later) = ⊥
  IsShort Never = Unit {0}

  -- the call answers this by such a step
  abbrev pub Gives : Step G O → CallAnswer O → Type 0
  Gives (Finished outcome) answer = answer ≡ Done (Ok outcome)
  Gives (Misused misuse) answer = answer ≡ Done (Err misuse)
  Gives (Waits later) answer = ⊥
  Gives (Next later) answer = ⊥
  Gives Never answer = ⊥

  module _ {E R : Type 0} (answer : CallAnswer O) (on : G → Type 0) where
    none_left : (step : Step G O) (rest : List (Deed E R)) → IsShort step → Rest step rest on answer → (rest ≡ []) × Gives step answer
    none_left (Finished outcome) rest short goes = goes
    none_left (Misused misuse) rest short goes = goes
    none_left (Waits later) rest short goes = absurd short
    none_left (Next later) rest short goes = absurd short
    none_left Never rest short goes = absurd goes

    rests : (step : Step G O) (rest : List (Deed E R)) → rest ≡ [] → Gives step answer → Rest step rest on answer
    rests (Finished outcome) rest none gives = (none, gives)
    rests (Misused misuse) rest none gives = (none, gives)
    rests (Waits later) rest none gives = absurd gives
    rests (Next later) rest none gives = absurd gives
    rests Never rest none gives = absurd gives

module _ {E R G O : Type 0} (event : E → ObjectEvent) (reply : R → ObjectReply) (event_of : G → ℕ → E) (meaning : G → R → Step G O) (object : ℕ) (from : G) (made : E) (is_made : (now : ℕ) → event_of from now ≡ made) where
  abbrev on_object : List (Entry E R) → List Made
  on_object entries = map (λ entry. Entered object (lifted event reply entry)) entries

  -- the event was made, or was refused
  abbrev pub Alone : List Made → CallAnswer O → Type 0
  Alone items answer = ((r : R) × IsOnce object (event made) (reply r) items × Gives (meaning from r) answer) ⊎ ((misuse : Misuse) × IsRefused object (event made) misuse items × (answer ≡ Halted misuse))

  pub alone : ((r : R) → IsShort (meaning from r)) → (items : List Made) (answer : CallAnswer O) → stages event reply event_of meaning object from items answer → Alone items answer
  alone short items answer ([], is, spelt) = absurd spelt
  alone short items answer (x ∷ rest, is, spelt) = by_deed x.deed refl spelt where
    left : List (Deed E R)
    left = map (λ entry. entry.deed) rest

    one : left ≡ [] → items ≡ Entered object (lifted event reply x) ∷ []
    one none = is ∙ ap (λ (es : List (Entry E R)). on_object (x ∷ es)) (map_none (λ (entry : Entry E R). entry.deed) rest none)

    by_deed : (d : Deed E R) → x.deed ≡ d → IsFirstDeed event_of meaning from d left (λ later. Spells event_of meaning later left answer) answer → Alone items answer
    by_deed (Event e r) deed (at, goes) =
        let last = none_left answer (λ later. Spells event_of meaning later left answer) (meaning from r) left (short r) goes in
        inl (r, record { entry = lifted event reply x; are = one last.0; deed = ap (lifted_deed event reply) (deed ∙ ap (λ (f : E). Event f r) (at.1 ∙ is_made at.0)) }, last.1)
    by_deed (Refused e m) deed (at, none, halted) =
        inr (m, record { entry = lifted event reply x; are = one none; deed = ap (lifted_deed event reply) (deed ∙ ap (λ (f : E). Refused f m) (at.1 ∙ is_made at.0)) }, halted)
    by_deed (Halt m) deed first = absurd first

  -- and such items are the part
  abbrev own : ObjectEntry → Deed E R → Entry E R
  own entry deed = record { caller = entry.caller; deed = deed; front = entry.front; knew = entry.knew; time = entry.time }

  lifts : (entry : ObjectEntry) (d : Deed E R) → entry.deed ≡ lifted_deed event reply d → entry ≡ lifted event reply (own entry d)
  lifts entry d is = ap (λ (f : Deed ObjectEvent ObjectReply). record { caller = entry.caller; deed = f; front = entry.front; knew = entry.knew; time = entry.time }) is

  pub by_event : (r : R) (items : List Made) (answer : CallAnswer O) → IsOnce object (event made) (reply r) items → Gives (meaning from r) answer → stages event reply event_of meaning object from items answer
  by_event r items answer one gives = (
    own one.entry (Event made r) ∷ [],
    one.are ∙ ap (λ (e : ObjectEntry). Entered object e ∷ []) (lifts one.entry (Event made r) one.deed),
    ((0, sym (is_made 0)), rests answer (λ later. Spells event_of meaning later [] answer) (meaning from r) [] refl gives),
  )

  pub by_refusal : (misuse : Misuse) (items : List Made) → IsRefused object (event made) misuse items → stages event reply event_of meaning object from items (Halted misuse)
  by_refusal misuse items one = (
    own one.entry (Refused made misuse) ∷ [],
    one.are ∙ ap (λ (e : ObjectEntry). Entered object e ∷ []) (lifts one.entry (Refused made misuse) one.deed),
    ((0, sym (is_made 0)), refl, refl),
  )
