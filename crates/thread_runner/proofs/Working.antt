-- Parts of calls, and what they add to what their worker has done.
use Rattle.std.proofs.Common.{◌≡◌, ℕ, Bool, true, false, ◌==◌, cond, List, [], ◌++◌, refl, sym, ap, ◌∙◌, subst, arith, Option, Ok, Err}
use Rattle.std.proofs.lemmas.Bool.{eqb-true}
use Rattle.std.proofs.lemmas.List.{append-nil}
use Rattle.sync_model.specs.declared.answer.Answer.TheVariants.{Done, Halted}
use Rattle.sync_types.specs.declared.misuse.Misuse.{Misuse}
use Rattle.sync_model.specs.Front.{Front}
use Rattle.sync_model.specs.Note.{Holding}
use Rattle.ruled_object.specs.Growth.{KeepsNote}
use Rattle.protocols.specs.Spelling.{CallAnswer}
use Rattle.run_record.specs.Parts.{Part, read_as, with_outcome, and_then, GoesOn}
use Rattle.run_record.specs.Record.{ObjectEntry, entries_in}
use Rattle.thread_objects.specs.Laws.{Stays, Joins}
use Rattle.thread_objects.specs.Working.{Desk, Works, desk_with, desk_at}
use Rattle.thread_objects.specs.Replies.{gone_on}

-- a part whose outcome is read as something
pub reads : {O P : Type 0} (f : O → P) (part : Part O) (old new : Desk) (given : CallAnswer O) (answer : CallAnswer P) → answer ≡ with_outcome f given → Works part old given new → Works (read_as f part) old answer new
reads f part old new given answer is works = record { items = works.items; moves = works.moves; spelt = (given, works.spelt, is) }

module _ {N O : Type 0} (part : Part O) (owner : N → Option Holding) (front : N → Front) (number : ℕ) (was own new : List ObjectEntry) (old note : N) (answer : CallAnswer O) where
  -- where the entries are the same list
  pub same_own : was ≡ own → Works part (desk_at owner front number own old) answer (desk_at owner front number new note) → Works part (desk_at owner front number was old) answer (desk_at owner front number new note)
  same_own is works = subst (λ (l : List ObjectEntry). Works part (desk_at owner front number l old) answer (desk_at owner front number new note)) (sym is) works

-- where the answer is the same
pub answers_as : {O : Type 0} (part : Part O) (old new : Desk) (told answer : CallAnswer O) → answer ≡ told → Works part old told new → Works part old answer new
answers_as {O} part old new told answer is works = subst (λ (a : CallAnswer O). Works part old a new) (sym is) works

-- where the call is the same
pub part_as : {O G : Type 0} (part_of : G → Part O) (call due : G) (old new : Desk) (answer : CallAnswer O) → call ≡ due → Works (part_of due) old answer new → Works (part_of call) old answer new
part_as {O} {G} part_of call due old new answer is works = subst (λ (g : G). Works (part_of g) old answer new) (sym is) works

module _ {O P : Type 0} (first : Part O) (next : O → Part P) where
  -- one part, and then what comes behind it
  pub works_on : Joins → (old between new : Desk) (given : CallAnswer O) (answer : CallAnswer P) → Works first old given between → Works (GoesOn next given) between answer new → Works (and_then first next) old answer new
  works_on joined old between new given answer a b = record {
    items = a.items ++ b.items;
    moves = joined old between new a.items b.items a.moves b.moves;
    spelt = (a.items, b.items, given, refl, a.spelt, b.spelt);
  }

module _ {N H : Type 0} (at : H → N → Type 0) (owner : N → Option Holding) (front : N → Front) where
  -- a note that is as it was is kept, and one that is kept twice
  pub keeps : (note : N) → KeepsNote at owner front note note
  keeps note = record { home = λ home here. here; kept = refl; rises = (λ i. omega arith, omega arith) }

  pub keeps_on : (old between new : N) → KeepsNote at owner front old between → KeepsNote at owner front between new → KeepsNote at owner front old new
  keeps_on old between new first later = record {
    home = λ home here. later.home home (first.home home here);
    kept = later.kept ∙ first.kept;
    rises = (λ i. omega (arith, first.rises.0 i, later.rises.0 i), omega (arith, first.rises.1, later.rises.1));
  }

-- nothing is made, and that is the part
pub rests : Stays → {O : Type 0} (part : Part O) (desk : Desk) (answer : CallAnswer O) → part [] answer → Works part desk answer desk
rests stays part desk answer spelt = record { items = []; moves = stays desk; spelt = spelt }

module _ {N O : Type 0} (part : Part O) (owner : N → Option Holding) (front : N → Front) (number : ℕ) (was is : List ObjectEntry) (owns others : ℕ → List ObjectEntry) (old new : N) (answer : CallAnswer O) where
  -- what is done on one object is done there among all objects, where nothing changes on the others
  pub among : owns number ≡ was → others number ≡ is → ((object : ℕ) → (number == object) ≡ false → others object ≡ owns object)
      → Works part (desk_at owner front number was old) answer (desk_at owner front number is new) → Works part (desk_with owner front owns old) answer (desk_with owner front others new)
  among before after same works = record {
    items = works.items;
    moves = record { worker = works.moves.worker; owns = λ object. grows object (number == object) refl; calls = works.moves.calls; numbers = works.moves.numbers; times = works.moves.times; fronts = works.moves.fronts; counts = works.moves.counts };
    spelt = works.spelt;
  } where
    grows : (object : ℕ) (here : Bool) → (number == object) ≡ here → others object ≡ owns object ++ entries_in object works.items
    grows object true e =
        let at : number ≡ object = eqb-true number object e in
        let grown : is ≡ was ++ entries_in object works.items = subst (λ (b : Bool). cond b is [] ≡ cond b was [] ++ entries_in object works.items) e (works.moves.owns object) in
        ap others (sym at) ∙ after ∙ grown ∙ ap (λ (l : List ObjectEntry). l ++ entries_in object works.items) (sym before ∙ ap owns at)
    grows object false e =
        let none : [] ≡ entries_in object works.items = subst (λ (b : Bool). cond b is [] ≡ cond b was [] ++ entries_in object works.items) e (works.moves.owns object) in
        subst (λ (l : List ObjectEntry). others object ≡ owns object ++ l) none (same object e ∙ sym (append-nil (owns object)))

module _ (stays : Stays) (joined : Joins) {O P : Type 0} (first : Part O) (next : O → Part P) (old between : Desk) where
  -- a first part that met a halt, or was a misuse, is the last
  pub halted_first : (misuse : Misuse) → Works first old (Halted misuse) between → Works (and_then first next) old (Halted misuse) between
  halted_first misuse works = works_on first next joined old between between (Halted misuse) (Halted misuse) works (rests stays _ between _ (refl, refl))

  pub erred_first : (misuse : Misuse) → Works first old (Done (Err misuse)) between → Works (and_then first next) old (Done (Err misuse)) between
  erred_first misuse works = works_on first next joined old between between (Done (Err misuse)) (Done (Err misuse)) works (rests stays _ between _ (refl, refl))

  -- and any other goes on
  pub went_first : (outcome : O) (new : Desk) (answer : CallAnswer P) → Works first old (Done (Ok outcome)) between → Works (next outcome) between answer new → Works (and_then first next) old answer new
  went_first outcome new answer works later = works_on first next joined old between new (Done (Ok outcome)) answer works later

  -- the same, by whether the call goes on
  pub ended_first : (given : CallAnswer O) (answer : CallAnswer P) → gone_on given ≡ Err answer → Works first old given between → Works (and_then first next) old answer between
  ended_first (Done (Ok outcome)) answer is works = absurd cc
  ended_first (Done (Err misuse)) answer is works = let same : answer ≡ Done (Err misuse) = cc in answers_as _ old between (Done (Err misuse)) answer same (erred_first misuse works)
  ended_first (Halted misuse) answer is works = let same : answer ≡ Halted misuse = cc in answers_as _ old between (Halted misuse) answer same (halted_first misuse works)

  pub gone_first : (given : CallAnswer O) (outcome : O) (new : Desk) (answer : CallAnswer P) → gone_on {P = P} given ≡ Ok outcome → Works first old given between → Works (next outcome) between answer new → Works (and_then first next) old answer new
  gone_first (Done (Ok o)) outcome new answer is works later =
      let same : outcome ≡ o = cc in
      went_first o new answer works (subst (λ (x : O). Works (next x) between answer new) same later)
  gone_first (Done (Err misuse)) outcome new answer is works later = absurd cc
  gone_first (Halted misuse) outcome new answer is works later = absurd cc
