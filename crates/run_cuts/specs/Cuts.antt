-- What a worker's list begins with, told by a function: the items that spell a part of a call, what it answers by them, and what is left of the list.
use Rattle.std.specs.Prelude.{◌≡◌, ℕ, Bool, ◌==◌, cond, List, [], ◌∷◌, ◌++◌, Option, Some, None, Ok, Err}
use Rattle.sync_types.specs.declared.misuse.Misuse.{Misuse}
use Rattle.sync_model.specs.declared.answer.Answer.TheVariants.{Done, Halted}
use Rattle.sync_model.specs.declared.item.SharedCall.{SharedCall}
use Rattle.sync_model.specs.declared.item.SharedReply.{SharedReply}
use Rattle.sync_model.specs.declared.journal.Deed.{Deed}
use Rattle.sync_model.specs.declared.journal.Deed.TheVariants.{Event, Refused, Halt}
use Rattle.protocols.specs.declared.step.Step.{Step}
use Rattle.protocols.specs.declared.step.Step.TheVariants.{Finished, Misused, Waits, Next, Never}
use Rattle.protocols.specs.Spelling.{CallAnswer}
use Rattle.run_record.specs.declared.entered.ObjectEvent.{ObjectEvent}
use Rattle.run_record.specs.declared.entered.ObjectReply.{ObjectReply}
use Rattle.run_record.specs.declared.made.Made.{Made}
use Rattle.run_record.specs.declared.made.Made.TheVariants.{Shared, Entered}
use Rattle.run_record.specs.Parts.{Part, with_outcome}

-- what a list begins with
pub data Beginning (O : Type 0) : Type 0 where
  whole : List Made → CallAnswer O → List Made → Beginning O  -- these items spell the part, which answers this; the rest is left
  within : Beginning O  -- the list ends within the part
  wrong : Beginning O  -- neither the list nor any that goes on from it begins with the part

abbrev pub Cutter : Type 0 → Type 0
Cutter O = List Made → Beginning O

module _ {O : Type 0} where
  -- with these items before
  abbrev pub behind : List Made → Beginning O → Beginning O
  behind before (whole items answer rest) = whole (before ++ items) answer rest
  behind before within = within
  behind before wrong = wrong

  -- it makes nothing, and comes to this
  abbrev pub returns_cut : O → Cutter O
  returns_cut outcome list = whole [] (Done (Ok outcome)) list

  -- there is no such call
  abbrev pub never_cut : Cutter O
  never_cut list = wrong

module _ {O P : Type 0} where
  -- one part and then the next, by what the first one comes to; nothing comes behind a misuse or a halt
  abbrev pub by_answer : (O → Cutter P) → List Made → CallAnswer O → List Made → Beginning P
  by_answer next items (Done (Ok outcome)) rest = behind items (next outcome rest)
  by_answer next items (Done (Err misuse)) rest = whole items (Done (Err misuse)) rest
  by_answer next items (Halted misuse) rest = whole items (Halted misuse) rest

  abbrev pub by_beginning : (O → Cutter P) → Beginning O → Beginning P
  by_beginning next (whole items answer rest) = by_answer next items answer rest
  by_beginning next within = within
  by_beginning next wrong = wrong

  abbrev pub then_cut : Cutter O → (O → Cutter P) → Cutter P
  then_cut first next list = by_beginning next (first list)

  -- the same, whose outcome is read as this
  abbrev pub read_beginning : (O → P) → Beginning O → Beginning P
  read_beginning f (whole items answer rest) = whole items (with_outcome f answer) rest
  read_beginning f within = within
  read_beginning f wrong = wrong

  abbrev pub read_cut : (O → P) → Cutter O → Cutter P
  read_cut f cut list = read_beginning f (cut list)

-- one call on a map or an atomic, which is this call, and whose reply is read as that
module _ {O : Type 0} (is_call : SharedCall → Bool) (read : SharedReply → Option O) where
  abbrev pub by_reply : Made → Option O → List Made → Beginning O
  by_reply item (Some outcome) rest = whole (item ∷ []) (Done (Ok outcome)) rest
  by_reply item None rest = wrong

  abbrev pub place_cut : Cutter O
  place_cut [] = within
  place_cut (Shared x ∷ rest) = cond (is_call x.call) (by_reply (Shared x) (read x.reply) rest) wrong
  place_cut (Entered object entry ∷ rest) = wrong

-- how a call goes on by a deed
pub data Move (G O : Type 0) : Type 0 where
  answers_by : CallAnswer O → Move G O  -- it answers this
  goes_to : G → Move G O  -- from this stage
  no_call : Move G O  -- no call goes on so

-- `event_in` and `reply_in` find a kind's events and replies again, and `is_event` tells whether an event is the stage's, at some moment
module _ {G O E R : Type 0} (event_in : ObjectEvent → Option E) (reply_in : ObjectReply → Option R) (is_event : G → E → Bool) (meaning : G → R → Step G O) where
  abbrev pub move_by : Step G O → Move G O
  move_by (Finished outcome) = answers_by (Done (Ok outcome))
  move_by (Misused misuse) = answers_by (Done (Err misuse))
  move_by (Waits later) = goes_to later
  move_by (Next later) = goes_to later
  move_by Never = no_call

  abbrev pub event_move : G → Option E → Option R → Move G O
  event_move stage (Some event) (Some reply) = cond (is_event stage event) (move_by (meaning stage reply)) no_call
  event_move stage (Some event) None = no_call
  event_move stage None reply = no_call

  abbrev pub refusal_move : G → Option E → Misuse → Move G O
  refusal_move stage (Some event) misuse = cond (is_event stage event) (answers_by (Halted misuse)) no_call
  refusal_move stage None misuse = no_call

  -- how a call at a stage goes on by a deed
  abbrev pub move : G → Deed ObjectEvent ObjectReply → Move G O
  move stage (Event event reply) = event_move stage (event_in event) (reply_in reply)
  move stage (Refused event misuse) = refusal_move stage (event_in event) misuse
  move stage (Halt misuse) = no_call

module _ {G O : Type 0} (moves : G → Deed ObjectEvent ObjectReply → Move G O) (object : ℕ) where
  abbrev pub by_move : Made → Move G O → List Made → (G → Beginning O) → Beginning O
  by_move item (answers_by answer) rest from = whole (item ∷ []) answer rest
  by_move item (goes_to later) rest from = behind (item ∷ []) (from later)
  by_move item no_call rest from = wrong

  -- a call of a protocol on the object of this number, from a stage on
  abbrev pub stages_cut : G → Cutter O
  stages_cut stage [] = within
  stages_cut stage (Shared x ∷ rest) = wrong
  stages_cut stage (Entered other entry ∷ rest) = cond (other == object) (by_move (Entered other entry) (moves stage entry.deed) rest (λ later. stages_cut later rest)) wrong

-- The function tells what lists begin with. What it finds spells the part, and what spells the part it finds, whatever stands behind. Where the list ends within the part, it goes on to one that spells it. Where it is wrong, it stays so.
pub record Cuts {O : Type 0} (part : Part O) (cut : Cutter O) : Type 0 where
  pub sound : (list items rest : List Made) (answer : CallAnswer O) → cut list ≡ whole items answer rest → (list ≡ items ++ rest) × part items answer
  pub complete : (items rest : List Made) (answer : CallAnswer O) → part items answer → cut (items ++ rest) ≡ whole items answer rest
  pub goes_on : (list : List Made) → cut list ≡ within → (later : List Made) × (answer : CallAnswer O) × part (list ++ later) answer
  pub stays : (list later : List Made) → cut list ≡ wrong → cut (list ++ later) ≡ wrong
