-- What the items of a call are: none is a halt, and one was refused where the call was halted.
use Rattle.std.proofs.Common.{◌≡◌, inl, inr, ℕ, List, [], ◌∷◌, ◌++◌, map, sym, ap, subst}
use Rattle.std.specs.Prelude.{Ok, Err}
use Rattle.sync_model.specs.declared.answer.Answer.TheVariants.{Done, Halted}
use Rattle.sync_model.specs.declared.item.Item.{Item}
use Rattle.sync_model.specs.declared.item.SharedCall.{SharedCall}
use Rattle.sync_model.specs.declared.item.SharedReply.{SharedReply}
use Rattle.sync_model.specs.declared.journal.Deed.{Deed}
use Rattle.sync_model.specs.declared.journal.Deed.TheVariants.{Event, Refused, Halt}
use Rattle.sync_model.specs.declared.journal.Entry.{Entry}
use Rattle.sync_types.specs.declared.misuse.Misuse.{Misuse}
use Rattle.protocols.specs.declared.step.Step.{Step}
use Rattle.protocols.specs.Spelling.{CallAnswer, Spells, IsEvent, IsLast, Ends}
use Rattle.run_record.specs.declared.entered.ObjectEvent.{ObjectEvent}
use Rattle.run_record.specs.declared.entered.ObjectReply.{ObjectReply}
use Rattle.run_record.specs.declared.made.Made.{Made}
use Rattle.run_record.specs.declared.made.Made.TheVariants.{Shared, Entered}
use Rattle.run_record.specs.Parts.{Part, GoesOn, returns, never, and_then, with_outcome, read_as, Places, lifted, lifted_deed, stages}
use Rattle.run_record.specs.Record.{ObjectEntry}
use Rattle.run_record.proofs.Having.{Has, Each, OfEntry, has_left, has_right, each_both}

-- it halts nothing
abbrev pub IsCalmDeed : {E R : Type 0} → Deed E R → Type 0
IsCalmDeed (Event e r) = Unit {0}
IsCalmDeed (Refused e m) = Unit {0}
IsCalmDeed (Halt m) = ⊥

abbrev pub IsCalm : Made → Type 0
IsCalm (Shared x) = Unit {0}
IsCalm (Entered object entry) = IsCalmDeed entry.deed

-- it was refused by this misuse
abbrev pub IsRefusal : Misuse → ObjectEntry → Type 0
IsRefusal misuse entry = (event : ObjectEvent) × (entry.deed ≡ Refused event misuse)

-- a call that was halted has an entry that was refused
abbrev pub Refuses : {O : Type 0} → CallAnswer O → List Made → Type 0
Refuses (Done given) items = Unit {0}
Refuses (Halted misuse) items = Has (OfEntry (IsRefusal misuse)) items

abbrev pub IsSoundBy : {O : Type 0} → List Made → CallAnswer O → Type 0
IsSoundBy items answer = Each IsCalm items × Refuses answer items

-- each call of the part is so
abbrev pub IsSound : {O : Type 0} → Part O → Type 0
IsSound {O} part = (items : List Made) (answer : CallAnswer O) → part items answer → IsSoundBy items answer

module _ {O : Type 0} where
  pub of_returns : (outcome : O) → IsSound (returns outcome)
  of_returns outcome items answer is = subst (λ (xs : List Made). IsSoundBy xs answer) (sym is.0) (tt, subst (λ (a : CallAnswer O). Refuses a []) (sym is.1) tt)

  pub of_never : IsSound (never {O = O})
  of_never items answer is = absurd is

module _ {O P : Type 0} where
  later_part : (next : O → Part P) (earlier later : List Made) (given : CallAnswer O) (answer : CallAnswer P) → IsSoundBy earlier given → ((outcome : O) → IsSound (next outcome)) → GoesOn next given later answer → IsSoundBy (earlier ++ later) answer
  later_part next earlier later (Done (Ok outcome)) answer first sound goes =
      let second = sound outcome later answer goes in
      (each_both IsCalm earlier later first.0 second.0, refuses answer second.1) where
        refuses : (answer : CallAnswer P) → Refuses answer later → Refuses answer (earlier ++ later)
        refuses (Done given) is = tt
        refuses (Halted misuse) is = has_right (OfEntry (IsRefusal misuse)) earlier later is
  later_part next earlier later (Done (Err misuse)) answer first sound goes =
      (each_both IsCalm earlier later first.0 (subst (λ (xs : List Made). Each IsCalm xs) (sym goes.0) tt), subst (λ (a : CallAnswer P). Refuses a (earlier ++ later)) (sym goes.1) tt)
  later_part next earlier later (Halted misuse) answer first sound goes =
      (each_both IsCalm earlier later first.0 (subst (λ (xs : List Made). Each IsCalm xs) (sym goes.0) tt), subst (λ (a : CallAnswer P). Refuses a (earlier ++ later)) (sym goes.1) (has_left (OfEntry (IsRefusal misuse)) earlier later first.1))

  pub of_and_then : (first : Part O) (next : O → Part P) → IsSound first → ((outcome : O) → IsSound (next outcome)) → IsSound (and_then first next)
  of_and_then first next sound later items answer (xs, ys, given, is, made, goes) =
      subst (λ (zs : List Made). IsSoundBy zs answer) (sym is) (later_part next xs ys given answer (sound xs given made) later goes)

  read_refuses : (f : O → P) (given : CallAnswer O) (items : List Made) → Refuses given items → Refuses (with_outcome f given) items
  read_refuses f (Done (Ok outcome)) items is = tt
  read_refuses f (Done (Err misuse)) items is = tt
  read_refuses f (Halted misuse) items is = is

  pub of_read_as : (f : O → P) (part : Part O) → IsSound part → IsSound (read_as f part)
  of_read_as f part sound items answer (given, made, is) =
      let s = sound items given made in
      (s.0, subst (λ (a : CallAnswer P). Refuses a items) (sym is) (read_refuses f given items s.1))

-- calls on maps and atomics
shared_are_calm : (made : List Item) → Each IsCalm (map Shared made)
shared_are_calm [] = tt
shared_are_calm (x ∷ made) = (tt, shared_are_calm made)

pub places_calm : (calls : List (SharedCall × SharedReply)) (items : List Made) → Places calls items → Each IsCalm items
places_calm calls items (made, is, are) = subst (λ (xs : List Made). Each IsCalm xs) (sym is) (shared_are_calm made)

pub of_places : {O : Type 0} (calls : List (SharedCall × SharedReply)) (items : List Made) (answer : CallAnswer O) (outcome : O) → Places calls items → answer ≡ Done (Ok outcome) → IsSoundBy items answer
of_places {O} calls items answer outcome places is = (places_calm calls items places, subst (λ (a : CallAnswer O). Refuses a items) (sym is) tt)

-- the events of a protocol
module _ {E R : Type 0} (event : E → ObjectEvent) (reply : R → ObjectReply) (object : ℕ) where
  abbrev entered : Entry E R → Made
  entered entry = Entered object (lifted event reply entry)

  calm_deed : (deed : Deed E R) → IsEvent deed → IsCalmDeed (lifted_deed event reply deed)
  calm_deed (Event e r) is = tt
  calm_deed (Refused e m) is = absurd is
  calm_deed (Halt m) is = absurd is

  module _ {O : Type 0} where
    refuses_on : (x : Made) (items : List Made) (answer : CallAnswer O) → Refuses answer items → Refuses answer (x ∷ items)
    refuses_on x items (Done given) is = tt
    refuses_on x items (Halted misuse) is = inr is

    last_sound : (x : Entry E R) (answer : CallAnswer O) → IsLast x.deed answer → IsSoundBy (entered x ∷ []) answer
    last_sound x (Done given) last = ((calm_deed x.deed last, tt), tt)
    last_sound x (Halted misuse) (e, is) =
        ((subst (λ (d : Deed E R). IsCalmDeed (lifted_deed event reply d)) (sym is) tt, tt), inl (event e, ap (lifted_deed event reply) is))

    entries_sound : (entries : List (Entry E R)) (answer : CallAnswer O) → Ends (map (λ entry. entry.deed) entries) answer → IsSoundBy (map entered entries) answer
    entries_sound [] answer ends = absurd ends
    entries_sound (x ∷ []) answer ends = last_sound x answer ends
    entries_sound (x ∷ (y ∷ entries)) answer ends =
        let rest = entries_sound (y ∷ entries) answer ends.1 in
        ((calm_deed x.deed ends.0, rest.0), refuses_on (entered x) (map entered (y ∷ entries)) answer rest.1)

  pub of_entries : {O : Type 0} (entries : List (Entry E R)) (items : List Made) (answer : CallAnswer O) → items ≡ map entered entries → Ends (map (λ entry. entry.deed) entries) answer → IsSoundBy items answer
  of_entries entries items answer is ends = subst (λ (xs : List Made). IsSoundBy xs answer) (sym is) (entries_sound entries answer ends)

  pub of_stages : {G O : Type 0} (event_of : G → ℕ → E) (meaning : G → R → Step G O) (stage : G)
      → ((deeds : List (Deed E R)) (answer : CallAnswer O) → Spells event_of meaning stage deeds answer → Ends deeds answer)
      → IsSound (stages event reply event_of meaning object stage)
  of_stages event_of meaning stage endings items answer (entries, is, spelt) = of_entries entries items answer is (endings (map (λ entry. entry.deed) entries) answer spelt)
