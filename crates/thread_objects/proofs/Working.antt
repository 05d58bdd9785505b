-- Parts of calls, and what they add to what their worker has done.
use Rattle.std.proofs.Common.{◌≡◌, ◌≢◌, ℕ, Bool, false, List, [], ◌++◌, Option, Result, Ok, Err, refl, sym, ◌∙◌, subst}
use Rattle.std.proofs.lemmas.Bool.{false≢true}
use Rattle.sync_types.specs.declared.misuse.Misuse.{Misuse}
use Rattle.sync_model.specs.declared.answer.Answer.TheVariants.{Done, Halted}
use Rattle.sync_model.specs.Front.{Front}
use Rattle.sync_model.specs.Note.{Holding}
use Rattle.protocols.specs.Spelling.{CallAnswer}
use Rattle.call_loop.specs.Calls.{IsGiven}
use Rattle.run_record.specs.Parts.{Part, read_as, with_outcome, and_then, GoesOn}
use Rattle.run_record.specs.Record.{ObjectEntry}
use Rattle.thread_objects.specs.Laws.{Stays, Joins}
use Rattle.thread_objects.specs.Working.{Desk, Works, desk_at}

-- a part whose outcome is read as something
pub reads : {O P : Type 0} (f : O → P) (part : Part O) (old new : Desk) (given : CallAnswer O) (answer : CallAnswer P) → answer ≡ with_outcome f given → Works part old given new → Works (read_as f part) old answer new
reads f part old new given answer is works = record { items = works.items; moves = works.moves; spelt = (given, works.spelt, is) }

module _ {O P G : Type 0} (f : O → P) (part_of : G → Part O) (stage due : G) (old new : Desk) (given : CallAnswer O) (answer : CallAnswer P) where
  -- the same, from the stage that a call begins with
  pub reads_from : stage ≡ due → answer ≡ with_outcome f given → Works (part_of stage) old given new → Works (read_as f (part_of due)) old answer new
  reads_from same is works = record { items = works.items; moves = works.moves; spelt = (given, subst (λ (g : G). part_of g works.items given) same works.spelt, is) }

module _ {N O : Type 0} (part : Part O) (owner : N → Option Holding) (front : N → Front) (number : ℕ) (was own new : List ObjectEntry) (old note : N) (answer : CallAnswer O) where
  -- where the entries are the same list
  pub same_own : was ≡ own → Works part (desk_at owner front number own old) answer (desk_at owner front number new note) → Works part (desk_at owner front number was old) answer (desk_at owner front number new note)
  same_own is works = subst (λ (l : List ObjectEntry). Works part (desk_at owner front number l old) answer (desk_at owner front number new note)) (sym is) works

-- where the answer is the same
pub answers_as : {O : Type 0} (part : Part O) (old new : Desk) (told answer : CallAnswer O) → answer ≡ told → Works part old told new → Works part old answer new
answers_as {O} part old new told answer is works = subst (λ (a : CallAnswer O). Works part old a new) (sym is) works

-- where the call is the same
pub part_as : {O G : Type 0} (part_of : G → Part O) (call due : G) (old new : Desk) (answer : CallAnswer O) → call ≡ due → Works (part_of due) old answer new → Works (part_of call) old answer new
part_as {O} {G} part_of call due old new answer is works = subst (λ (g : G). Works (part_of g) old answer new) (sym is) works

module _ {O P : Type 0} (first : Part O) (next : O → Part P) where
  -- one part, and then what comes behind it
  pub works_on : Joins → (old between new : Desk) (given : CallAnswer O) (answer : CallAnswer P) → Works first old given between → Works (GoesOn next given) between answer new → Works (and_then first next) old answer new
  works_on joined old between new given answer a b = record {
    items = a.items ++ b.items;
    moves = joined old between new a.items b.items a.moves b.moves;
    spelt = (a.items, b.items, given, refl, a.spelt, b.spelt);
  }

-- nothing is made, and that is the part
pub rests : Stays → {O : Type 0} (part : Part O) (desk : Desk) (answer : CallAnswer O) → part [] answer → Works part desk answer desk
rests stays part desk answer spelt = record { items = []; moves = stays desk; spelt = spelt }

-- where a part never gives a misuse, neither does it as it is read
pub unmisused : {O P : Type 0} (f : O → P) (gives : Result O Misuse → Bool) (given : CallAnswer O) (answer : CallAnswer P) (misuse : Misuse) → ((other : Misuse) → gives (Err other) ≡ false) → IsGiven gives given → answer ≡ with_outcome f given → answer ≢ Done (Err misuse)
unmisused f gives (Done (Ok outcome)) answer misuse refuses gave is = λ misused. absurd cc
unmisused f gives (Done (Err other)) answer misuse refuses gave is = λ misused. absurd (false≢true (sym (refuses other) ∙ gave))
unmisused f gives (Halted other) answer misuse refuses gave is = λ misused. absurd cc
