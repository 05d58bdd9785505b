-- The items that a worker's lines are read as are written as those lines.
use Rattle.std.proofs.Common.{◌≡◌, ℕ, Bool, true, false, ◌&&◌, ◌==◌, cond, List, [], ◌∷◌, map, Option, Some, None, slice_get, refl, sym, ap, ◌∙◌}
use Rattle.std.specs.Option.{option_map, option_map_or}
use Rattle.std.proofs.lemmas.Bool.{eqb-true, false≢true}
use Rattle.std.proofs.lemmas.Option.{same_Some}
use Rattle.sync_model.specs.declared.item.SharedCall.TheVariants as calls
use Rattle.sync_model.specs.declared.item.SharedReply.{SharedReply}
use Rattle.sync_model.specs.declared.item.SharedReply.TheVariants as answers
use Rattle.workload.specs.Plan.{Plan}
use Rattle.record_text.specs.declared.answer.AnswerWord.{AnswerWord}
use Rattle.record_text.specs.declared.answer.AnswerWord.TheVariants as words
use Rattle.record_text.specs.declared.event.EventWord.{EventWord}
use Rattle.record_text.specs.declared.event.EventWord.TheVariants as events
use Rattle.record_text.specs.declared.event.JournalKind.{JournalKind}
use Rattle.record_text.specs.declared.event.JournalKind.TheVariants as kinds
use Rattle.record_text.specs.declared.answer.AnswerRow.TheVariants as rows
use Rattle.record_text.specs.declared.directory.Named.{Named}
use Rattle.record_text.specs.declared.item_line.ItemLine.{ItemLine}
use Rattle.record_text.specs.declared.item_line.PlacedReply.{PlacedReply}
use Rattle.record_text.specs.declared.item_line.Said.{Said}
use Rattle.record_text.specs.declared.item_line.Said.TheVariants as said
use Rattle.record_text.specs.AnswerWords.{has_answer, is_answer, is_in}
use Rattle.record_text.specs.EventWords.{is_event}
use Rattle.record_text.specs.ItemLines.{is_item, is_named, is_place, is_said}
use Rattle.record_text.specs.Journals.{named_in}
use Rattle.record_text.specs.Numbers.{has_64_bits, is_front}
use Rattle.record_text.specs.Told.{AreItemLines, items_of}
use Rattle.record_text.specs.Written.{front_in, item_line, made_said}
use Rattle.run_check.specs.declared.told.along.Along.{Along}
use Rattle.run_check.specs.declared.told.placing.Asked.{Asked}
use Rattle.run_check.specs.declared.told.sketch.Sketch.{Sketch}
use Rattle.run_check.specs.declared.told.sketch.Sketch.TheVariants as sketches
use Rattle.run_check.specs.Deeds.{deed_told}
use Rattle.run_check.specs.ToldItems.{Kept, Sketched, along_behind, asked_by, entered, list_told, made_of, may_be_of, number_of, ranged_by, replied, script_call, sketch_told, sketched_before, speaker_of}
use Rattle.run_check.specs.Replies.{reply_told}
use Rattle.run_check.proofs.ReplyRoundTrip.{reply_again}
use Rattle.run_check.proofs.ToldLists.{mapped}
use Rattle.run_check.proofs.EntryRoundTrip.{IsAnswered, deed_again}

second_of : (a b : Bool) → (a && b) ≡ true → b ≡ true
second_of true b is = is
second_of false b is = absurd (false≢true is)

-- ---- a line of a text answers a halt by `ok`

only_done : (word : AnswerWord) → is_in rows.Halt word ≡ true → word ≡ words.Done
only_done words.Done is = refl
only_done word is = absurd (false≢true is)

row_has : (kind : JournalKind) (event : EventWord) (word : AnswerWord) → has_answer kind event word ≡ true → IsAnswered event word
row_has kinds.Empty (events.Halt misuse) word is = absurd (false≢true is)
row_has kind (events.Halt misuse) word is = only_done word is
row_has kind event word is = tt

named_has : (named : Option Named) (event : EventWord) (word : AnswerWord) → option_map_or (λ (n : Named). has_answer n.kind event word) named false ≡ true → IsAnswered event word
named_has None event word is = absurd (false≢true is)
named_has (Some named) event word is = row_has named.kind event word is

abbrev AnswersHalts : Said → Type 0
AnswersHalts (said.Entered object number event answer) = IsAnswered event answer
AnswersHalts (said.Call place reply) = Unit {0}
AnswersHalts (said.Begin reach) = Unit {0}
AnswersHalts (said.Next reach shown) = Unit {0}

answers_halts : (plan : Plan) (what : Said) → is_said plan what ≡ true → AnswersHalts what
answers_halts plan (said.Entered object number event answer) is =
    named_has (slice_get (named_in plan) object) event answer
    (second_of (is_answer plan.workers answer) _ (second_of (is_event plan.workers event) _ (second_of (has_64_bits number) _ (second_of (is_named plan object) _ is))))
answers_halts plan (said.Call place reply) is = tt
answers_halts plan (said.Begin reach) is = tt
answers_halts plan (said.Next reach shown) is = tt

-- ---- one line

front_again : (worker : ℕ) (front : List ℕ) (sketch : Sketch) → front_in (made_of worker front sketch) ≡ front
front_again worker front (sketches.Shared call reply place) = refl
front_again worker front (sketches.Entered object number deed) = refl

if_so : {X : Type 0} (b : Bool) (x : Option X) (y : X) → cond b x None ≡ Some y → x ≡ Some y
if_so true x y is = is
if_so false x y is = absurd cc

module _ (worker : ℕ) (front : List ℕ) where
  abbrev said_of : Sketch → Option Said
  said_of sketch = made_said (number_of sketch) (made_of worker front sketch)

  call_again : (place : ℕ) (word : PlacedReply) (asked : Option Asked) (sketch : Sketch) → replied place word asked ≡ Some sketch → said_of sketch ≡ Some (said.Call place word)
  call_again place word None sketch is = absurd cc
  call_again place word (Some asked) sketch is =
      let (answer, found, same) = mapped (λ (a : SharedReply). sketches.Shared asked.call a place) (reply_told asked.kind asked.call word) sketch is in
      sym (ap said_of same) ∙ reply_again asked.kind asked.call word answer place found

  said_again : (plan : Plan) (kept : Kept) (along : Along) (index : Option ℕ) (what : Said) (sketch : Sketch) → AnswersHalts what → sketch_told plan kept worker along index what ≡ Some sketch → said_of sketch ≡ Some what
  said_again plan kept along index (said.Call place word) sketch halts is = call_again place word (asked_by plan (script_call plan worker index)) sketch is
  said_again plan kept along index (said.Begin reach) sketch halts is =
      let (m, found, same) = mapped (λ (m : ℕ). sketches.Shared (calls.Begin m) answers.Begun reach) (ranged_by plan (script_call plan worker index)) sketch is in sym (ap said_of same)
  said_again plan kept along index (said.Next reach shown) sketch halts is = sym (ap said_of (same_Some (sketches.Shared (calls.Next along.begin) (answers.Shown shown) reach) sketch is))
  said_again plan kept along index (said.Entered object number event answer) sketch halts is =
      let speaker = speaker_of plan kept object worker along.sum in
      let one = if_so (may_be_of index event) (entered speaker object number event answer) sketch is in
      let (deed, found, same) = mapped (sketches.Entered object number) (deed_told speaker event answer) sketch one in
      sym (ap said_of same) ∙ deed_again object number speaker event answer deed halts found

-- ---- a worker's lines

-- the line that an item is written as
abbrev pub written : ℕ → Sketched → Option ItemLine
written worker s = item_line worker s.index (number_of s.sketch) (made_of worker s.front s.sketch)

-- lines of one worker, each as a text has it
abbrev Own : Plan → ℕ → List ItemLine → Type 0
Own plan worker [] = Unit {0}
Own plan worker (line ∷ lines) = (line.worker ≡ worker) × (is_item plan line ≡ true) × Own plan worker lines

abbrev Fit : Plan → List ItemLine → Type 0
Fit plan [] = Unit {0}
Fit plan (line ∷ lines) = (is_item plan line ≡ true) × Fit plan lines

fit : (plan : Plan) (texts : List (List ℕ)) (lines : List ItemLine) → AreItemLines plan texts lines → Fit plan lines
fit plan [] [] are = tt
fit plan [] (line ∷ lines) are = absurd are
fit plan (text ∷ texts) [] are = absurd are
fit plan (text ∷ texts) (line ∷ lines) are = (are.0.fits, fit plan texts lines are.1)

own : (plan : Plan) (worker : ℕ) (lines : List ItemLine) → Fit plan lines → Own plan worker (items_of lines worker)
own plan worker [] fits = tt
own plan worker (line ∷ lines) fits = by (own plan worker lines fits.1) (line.worker == worker) refl where
  by : Own plan worker (items_of lines worker) → (b : Bool) → (line.worker == worker) ≡ b → Own plan worker (cond b (line ∷ items_of lines worker) (items_of lines worker))
  by more true same = (eqb-true line.worker worker same, fits.0, more)
  by more false other = more

line_again : (plan : Plan) (kept : Kept) (worker : ℕ) (along : Along) (line : ItemLine) (sketch : Sketch) → line.worker ≡ worker → is_item plan line ≡ true → sketch_told plan kept worker along line.index line.said ≡ Some sketch
    → written worker (record { index = line.index; front = line.front; sketch = sketch }) ≡ Some line
line_again plan kept worker along line sketch mine fits is =
    let halts = answers_halts plan line.said (second_of (is_front plan.workers line.front) _ (second_of (is_place plan line.worker line.index) _ fits)) in
    let says = said_again worker line.front plan kept along line.index line.said sketch halts is in
    ap (option_map (λ (s : Said). record { worker = worker; index = line.index; front = front_in (made_of worker line.front sketch); said = s })) says
    ∙ ap (λ (f : List ℕ). Some (record { worker = worker; index = line.index; front = f; said = line.said })) (front_again worker line.front sketch)
    ∙ ap (λ (w : ℕ). Some (record { worker = w; index = line.index; front = line.front; said = line.said })) (sym mine)

module _ (plan : Plan) (kept : Kept) (worker : ℕ) where
  lines_again : (along : Along) (lines : List ItemLine) → Own plan worker lines → (items : List Sketched) → list_told plan kept worker along lines ≡ Some items → map (written worker) items ≡ map Some lines
  lines_again along [] mine items is = ap (map (written worker)) (sym (same_Some [] items is))
  lines_again along (line ∷ lines) mine items is =
      by (lines_again (along_behind along line.said) lines mine.2) (sketch_told plan kept worker along line.index line.said) refl (list_told plan kept worker (along_behind along line.said) lines) refl is
    where
      by : ((later : List Sketched) → list_told plan kept worker (along_behind along line.said) lines ≡ Some later → map (written worker) later ≡ map Some lines)
          → (one : Option Sketch) → sketch_told plan kept worker along line.index line.said ≡ one → (more : Option (List Sketched)) → list_told plan kept worker (along_behind along line.said) lines ≡ more
          → sketched_before line one more ≡ Some items → map (written worker) items ≡ Some line ∷ map Some lines
      by each None told more rest is = absurd cc
      by each (Some sketch) told None rest is = absurd cc
      by each (Some sketch) told (Some more) rest is =
          ap (map (written worker)) (sym (same_Some (record { index = line.index; front = line.front; sketch = sketch } ∷ more) items is))
          ∙ ap (λ (x : Option ItemLine). x ∷ map (written worker) more) (line_again plan kept worker along line sketch mine.0 mine.1 told)
          ∙ ap (λ (xs : List (Option ItemLine)). Some line ∷ xs) (each more rest)

-- what a worker's lines of a text are read as is written as those lines
pub list_again : (plan : Plan) (texts : List (List ℕ)) (lines : List ItemLine) → AreItemLines plan texts lines → (kept : Kept) (worker : ℕ) (along : Along) (items : List Sketched)
    → list_told plan kept worker along (items_of lines worker) ≡ Some items → map (written worker) items ≡ map Some (items_of lines worker)
list_again plan texts lines are kept worker along items is = lines_again plan kept worker along (items_of lines worker) (own plan worker lines (fit plan texts lines are)) items is
