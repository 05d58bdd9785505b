-- What calls are made of: parts, each with its items in the worker's list and its answer.
use Rattle.std.specs.Prelude.{◌≡◌, ℕ, List, [], ◌++◌, map, Ok, Err}
use Rattle.sync_model.specs.declared.answer.Answer.TheVariants.{Done, Halted}
use Rattle.sync_model.specs.declared.item.Item.{Item}
use Rattle.sync_model.specs.declared.item.SharedCall.{SharedCall}
use Rattle.sync_model.specs.declared.item.SharedReply.{SharedReply}
use Rattle.sync_model.specs.declared.journal.Deed.{Deed}
use Rattle.sync_model.specs.declared.journal.Deed.TheVariants.{Event, Refused, Halt}
use Rattle.sync_model.specs.declared.journal.Entry.{Entry}
use Rattle.protocols.specs.declared.step.Step.{Step}
use Rattle.protocols.specs.Spelling.{CallAnswer, Spells}
use Rattle.run_record.specs.declared.entered.ObjectEvent.{ObjectEvent}
use Rattle.run_record.specs.declared.entered.ObjectReply.{ObjectReply}
use Rattle.run_record.specs.declared.made.Made.{Made}
use Rattle.run_record.specs.declared.made.Made.TheVariants.{Shared, Entered}
use Rattle.run_record.specs.Record.{ObjectEntry}

-- what may be a part of a call that comes to an `O`: the items that spell it, and what it answers by them
abbrev pub Part : Type 0 → Type 1
Part O = List Made → CallAnswer O → Type 0

module _ {O : Type 0} where
  -- it makes nothing, and comes to this
  abbrev pub returns : O → Part O
  returns outcome items answer = (items ≡ []) × (answer ≡ Done (Ok outcome))

  -- there is no such call
  abbrev pub never : Part O
  never items answer = ⊥

module _ {O P : Type 0} where
  -- what comes behind a part: the next one, by its outcome; nothing, where it was a misuse or met a halt
  abbrev pub GoesOn : (O → Part P) → CallAnswer O → List Made → CallAnswer P → Type 0
  GoesOn next (Done (Ok outcome)) items answer = next outcome items answer
  GoesOn next (Done (Err misuse)) items answer = (items ≡ []) × (answer ≡ Done (Err misuse))
  GoesOn next (Halted misuse) items answer = (items ≡ []) × (answer ≡ Halted misuse)

  -- one part and then the next, by what the first one comes to
  abbrev pub and_then : Part O → (O → Part P) → Part P
  and_then first next items answer = (earlier : List Made) × (later : List Made) × (given : CallAnswer O) × (items ≡ earlier ++ later) × first earlier given × GoesOn next given later answer

  -- the same answer, for another outcome
  abbrev pub with_outcome : (O → P) → CallAnswer O → CallAnswer P
  with_outcome f (Done (Ok outcome)) = Done (Ok (f outcome))
  with_outcome f (Done (Err misuse)) = Done (Err misuse)
  with_outcome f (Halted misuse) = Halted misuse

  -- the part, whose outcome is read as this
  abbrev pub read_as : (O → P) → Part O → Part P
  read_as f part items answer = (given : CallAnswer O) × part items given × (answer ≡ with_outcome f given)

-- the items are these calls on maps and atomics, which were answered this
abbrev pub Places : List (SharedCall × SharedReply) → List Made → Type 0
Places calls items = (made : List Item) × (items ≡ map Shared made) × (map (λ x. (x.call, x.reply)) made ≡ calls)

module _ {E R : Type 0} (event : E → ObjectEvent) (reply : R → ObjectReply) where
  -- an entry of a kind's journal, as an entry of whatever kind's
  abbrev pub lifted_deed : Deed E R → Deed ObjectEvent ObjectReply
  lifted_deed (Event e r) = Event (event e) (reply r)
  lifted_deed (Refused e misuse) = Refused (event e) misuse
  lifted_deed (Halt misuse) = Halt misuse

  abbrev pub lifted : Entry E R → ObjectEntry
  lifted entry = record { caller = entry.caller; deed = lifted_deed entry.deed; front = entry.front; knew = entry.knew; time = entry.time }

  -- the items are entries of the object's journal, and their deeds are those of a call from this stage on
  abbrev pub stages : {G O : Type 0} → (G → ℕ → E) → (G → R → Step G O) → ℕ → G → Part O
  stages event_of meaning object stage items answer =
      (entries : List (Entry E R)) × (items ≡ map (λ entry. Entered object (lifted entry)) entries) × Spells event_of meaning stage (map (λ entry. entry.deed) entries) answer
