-- What the items of a call are when it returns, for calls on one object of whatever kind.
use Rattle.std.proofs.Common.{◌≡◌, ℕ, Bool, true, List, [], ◌∷◌, ◌++◌, map, Some, slice_get, Result, Ok, Err, refl, sym, ap, ◌∙◌, subst}
use Rattle.script_calls.specs.declared.call.Call.{Call}
use Rattle.script_calls.specs.declared.call.Operation.{Operation}
use Rattle.script_calls.specs.declared.call.Reply.{Reply}
use Rattle.sync_types.specs.declared.misuse.Misuse.{Misuse}
use Rattle.sync_model.specs.declared.answer.Answer.TheVariants.{Done, Halted}
use Rattle.sync_model.specs.declared.journal.Deed.{Deed}
use Rattle.sync_model.specs.declared.journal.Deed.TheVariants.{Event, Refused, Halt}
use Rattle.sync_model.specs.declared.journal.Entry.{Entry}
use Rattle.sync_model.specs.Journal.{is_such}
use Rattle.protocols.specs.declared.step.Step.{Step}
use Rattle.protocols.specs.Spelling.{CallAnswer, Rest, IsFirstDeed, Spells, TakesInLast}
use Rattle.workload.specs.declared.object.ObjectKind.{ObjectKind}
use Rattle.workload.specs.declared.object.ObjectLine.{ObjectLine}
use Rattle.workload.specs.Plan.{Plan}
use Rattle.run_record.specs.declared.entered.ObjectEvent.{ObjectEvent}
use Rattle.run_record.specs.declared.entered.ObjectReply.{ObjectReply}
use Rattle.run_record.specs.declared.made.Made.{Made}
use Rattle.run_record.specs.declared.made.Made.TheVariants.{Entered}
use Rattle.run_record.specs.Calls.{call_at, call_on, SpellsCall}
use Rattle.run_record.specs.Edges.{takes}
use Rattle.run_record.specs.Parts.{Part, GoesOn, and_then, with_outcome, lifted_deed, lifted, stages}
use Rattle.run_record.specs.Returns.{IsOnce, BeginsBy, EndsTaking}

-- a call by its object's kind and its operation
pub spelt_on : (plan : Plan) (worker before : ℕ) (object : ObjectLine) (call : Call) (kind : ObjectKind) (operation : Operation) (items : List Made) (answer : CallAnswer (Reply ℕ))
    → slice_get plan.objects call.object ≡ Some object → object.kind ≡ kind → call.operation ≡ operation → SpellsCall plan worker before call items answer → call_on plan worker before call.object kind operation items answer
spelt_on plan worker before object call kind operation items answer there is called spelt =
    subst (λ o. call_on plan worker before call.object kind o items answer) called
    (subst (λ k. call_on plan worker before call.object k call.operation items answer) is
    (subst (λ o. call_at plan worker before call.object o call.operation items answer) there spelt))

-- the outcome of which a reply is read off
pub record IsReadOff {O P : Type 0} (f : O → P) (given : CallAnswer O) (answer : P) : Type 0 where
  pub outcome : O
  pub is : given ≡ Done (Ok outcome)
  pub read : answer ≡ f outcome

pub read_off : {O P : Type 0} (f : O → P) (given : CallAnswer O) (answer : P) → Done (Ok answer) ≡ with_outcome f given → IsReadOff f given answer
read_off f (Done (Ok outcome)) answer e = record { outcome = outcome; is = refl; read = cc }
read_off f (Done (Err misuse)) answer e = absurd cc
read_off f (Halted misuse) answer e = absurd cc

-- two parts, where the call returns: the first one does too
pub record Goes {O P : Type 0} (first : Part O) (next : O → Part P) (items : List Made) (answer : P) : Type 0 where
  pub earlier : List Made
  pub later : List Made
  pub outcome : O
  pub are : items ≡ earlier ++ later
  pub made : first earlier (Done (Ok outcome))
  pub goes : next outcome later (Done (Ok answer))

module _ {O P : Type 0} (first : Part O) (next : O → Part P) (items : List Made) (answer : P) where
  by_given : (earlier later : List Made) (given : CallAnswer O) → items ≡ earlier ++ later → first earlier given → GoesOn next given later (Done (Ok answer)) → Goes first next items answer
  by_given earlier later (Done (Ok outcome)) are made goes = record { earlier = earlier; later = later; outcome = outcome; are = are; made = made; goes = goes }
  by_given earlier later (Done (Err misuse)) are made goes = let is = goes.1 in absurd cc
  by_given earlier later (Halted misuse) are made goes = let is = goes.1 in absurd cc

  pub goes_on : and_then first next items (Done (Ok answer)) → Goes first next items answer
  goes_on (earlier, later, given, are, made, goes) = by_given earlier later given are made goes

pub map_none : {A B : Type 0} (f : A → B) (xs : List A) → map f xs ≡ [] → xs ≡ []
map_none f [] e = refl
map_none f (x ∷ xs) e = absurd cc

-- how a call begins, from a stage on
pub record Opens {E R G O : Type 0} (event_of : G → ℕ → E) (meaning : G → R → Step G O) (stage : G) (entries : List (Entry E R)) (given : Result O Misuse) : Type 0 where
  pub first : Entry E R
  pub rest : List (Entry E R)
  pub now : ℕ
  pub answer : R
  pub are : entries ≡ first ∷ rest
  pub deed : first.deed ≡ Event (event_of stage now) answer
  pub goes : Rest (meaning stage answer) (map (λ entry. entry.deed) rest) (λ later. Spells event_of meaning later (map (λ entry. entry.deed) rest) (Done given)) (Done given)

module _ {E R G O : Type 0} (event_of : G → ℕ → E) (meaning : G → R → Step G O) where
  by_deed : (stage : G) (first : Entry E R) (rest : List (Entry E R)) (given : Result O Misuse) (d : Deed E R) → first.deed ≡ d
      → IsFirstDeed event_of meaning stage d (map (λ entry. entry.deed) rest) (λ later. Spells event_of meaning later (map (λ entry. entry.deed) rest) (Done given)) (Done given) → Opens event_of meaning stage (first ∷ rest) given
  by_deed stage first rest given (Event e r) is spelt = record { first = first; rest = rest; now = spelt.0.0; answer = r; are = refl; deed = is ∙ ap (λ x. Event x r) spelt.0.1; goes = spelt.1 }
  by_deed stage first rest given (Refused e m) is spelt = let halted = spelt.2 in absurd cc
  by_deed stage first rest given (Halt m) is spelt = absurd spelt

  pub opens : (stage : G) (entries : List (Entry E R)) (given : Result O Misuse) → Spells event_of meaning stage (map (λ entry. entry.deed) entries) (Done given) → Opens event_of meaning stage entries given
  opens stage [] given spelt = absurd spelt
  opens stage (first ∷ rest) given spelt = by_deed stage first rest given first.deed refl spelt

module _ {E R G O : Type 0} (event : E → ObjectEvent) (reply : R → ObjectReply) (event_of : G → ℕ → E) (meaning : G → R → Step G O) (object : ℕ) where
  abbrev on_object : List (Entry E R) → List Made
  on_object entries = map (λ entry. Entered object (lifted event reply entry)) entries

  -- a call of one event
  pub one_event : (stage : G) (items : List Made) (given : Result O Misuse) (P : R → Type 0) → ((r : R) (rest : List (Deed E R)) → Rest (meaning stage r) rest (λ later. Spells event_of meaning later rest (Done given)) (Done given) → (rest ≡ []) × P r)
      → stages event reply event_of meaning object stage items (Done given) → (now : ℕ) × (r : R) × IsOnce object (event (event_of stage now)) (reply r) items × P r
  one_event stage items given P ends (entries, is, spelt) =
      let o = opens event_of meaning stage entries given spelt in
      let last = ends o.answer (map (λ entry. entry.deed) o.rest) o.goes in
      let none = map_none (λ (entry : Entry E R). entry.deed) o.rest last.0 in (
        o.now,
        o.answer,
        record {
          entry = lifted event reply o.first;
          are = is ∙ ap on_object (o.are ∙ ap (λ rest. o.first ∷ rest) none);
          deed = ap (lifted_deed event reply) o.deed;
        },
        last.1,
      )

  -- a call's first event
  pub first_event : (stage : G) (items : List Made) (given : Result O Misuse) → stages event reply event_of meaning object stage items (Done given) → (now : ℕ) × BeginsBy object (event (event_of stage now)) items
  first_event stage items given (entries, is, spelt) =
      let o = opens event_of meaning stage entries given spelt in
      (o.now, record { entry = lifted event reply o.first; rest = on_object o.rest; answer = reply o.answer; are = is ∙ ap on_object o.are; deed = ap (lifted_deed event reply) o.deed })

  module _ (own : E → R → Bool) (same : (e : E) (r : R) → takes (event e) (reply r) ≡ own e r) where
    such : (d : Deed E R) → is_such own d ≡ true → is_such takes (lifted_deed event reply d) ≡ true
    such (Event e r) is = same e r ∙ is
    such (Refused e m) is = absurd cc
    such (Halt m) is = absurd cc

    on_first : (first : Entry E R) (items : List Made) → EndsTaking object items → EndsTaking object (Entered object (lifted event reply first) ∷ items)
    on_first first items ends = record { earlier = Entered object (lifted event reply first) ∷ ends.earlier; last = ends.last; are = ap (λ rest. Entered object (lifted event reply first) ∷ rest) ends.are; takes_in = ends.takes_in }

    pub taking : (entries : List (Entry E R)) → TakesInLast own true (map (λ entry. entry.deed) entries) → EndsTaking object (map (λ entry. Entered object (lifted event reply entry)) entries)
    taking [] last = absurd last
    taking (entry ∷ []) last = record { earlier = []; last = lifted event reply entry; are = refl; takes_in = such entry.deed last }
    taking (entry ∷ (next ∷ rest)) last = on_first entry (map (λ entry. Entered object (lifted event reply entry)) (next ∷ rest)) (taking (next ∷ rest) last.1)

    -- a call whose last event takes in what was left
    pub last_event : (stage : G) (items : List Made) (given : Result O Misuse) → ((deeds : List (Deed E R)) → Spells event_of meaning stage deeds (Done given) → TakesInLast own true deeds)
        → stages event reply event_of meaning object stage items (Done given) → EndsTaking object items
    last_event stage items given gains (entries, is, spelt) = subst (λ made. EndsTaking object made) (sym is) (taking entries (gains (map (λ entry. entry.deed) entries) spelt))
