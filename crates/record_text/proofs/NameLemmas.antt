-- The names of events and answers, and their operands. The clause that stands for all other words is checked in each.
use Rattle.std.proofs.Common.{◌≡◌, ℕ, true, false, cond, List, [], ◌∷◌, ◌++◌, Some, refl, sym, ap, ◌∙◌}
use Rattle.std.specs.Str.{bytes_eq}
use Rattle.std.proofs.lemmas.Slice.Eq.{bytes_eq-Decides}
use Rattle.sync_types.specs.declared.misuse.Misuse.TheVariants.{UnlockOfUnlockedMutex}
use Rattle.workload.specs.KeywordWords.{first_named}
use Rattle.record_text.specs.declared.event.EventWord.{EventWord}
use Rattle.record_text.specs.declared.event.EventWord.TheVariants as events
use Rattle.record_text.specs.declared.answer.AnswerWord.{AnswerWord}
use Rattle.record_text.specs.declared.answer.AnswerWord.TheVariants as answers
use Rattle.record_text.specs.EventWords.{event_name, event_operand, event_word}
use Rattle.record_text.specs.AnswerWords.{answer_name, answer_operand, answer_word}
use Rattle.record_text.specs.Names.{is_mark, up_to_mark, behind_mark, plain_event, plain_events, plain_answer, plain_answers}

-- the parts are the word
pub whole_name : (word : List ℕ) → up_to_mark word ++ behind_mark word ≡ word
whole_name [] = refl
whole_name (byte ∷ bytes) =
    elim (is_mark byte) as (λ b. cond b (byte ∷ []) (byte ∷ up_to_mark bytes) ++ cond b bytes (behind_mark bytes) ≡ byte ∷ bytes) [
      | true ↦ refl
      | false ↦ ap (λ bs. byte ∷ bs) (whole_name bytes)
    ]

-- what a table finds has the name
pub named : {X : Type 0} (name : X → List ℕ) (xs : List X) (word : List ℕ) (x : X) → first_named name xs word ≡ Some x → name x ≡ word
named name [] word x e = absurd cc
named name (y ∷ ys) word x e =
    elim (bytes_eq word (name y)) as (λ b. bytes_eq word (name y) ≡ b → cond b (Some y) (first_named name ys word) ≡ Some x → name x ≡ word) [
      | true ↦ λ is found. sym ((bytes_eq-Decides word (name y)).0 is ∙ ap name (let same : y ≡ x = cc in same))
      | false ↦ λ is found. named name ys word x found
    ] refl e

-- ---- events

pub event_name_is : (e : EventWord) → up_to_mark (event_word e) ≡ event_name e
event_name_is (events.Arrive now) = refl
event_name_is e = refl

pub event_operand_is : (e : EventWord) → behind_mark (event_word e) ≡ event_operand e
event_operand_is (events.Arrive now) = refl
event_operand_is e = refl

pub event_found : (e : EventWord) → first_named event_name plain_events (event_name e) ≡ Some (plain_event e)
event_found (events.Arrive now) = refl
event_found e = refl

pub plain_event_name : (e : EventWord) → event_name (plain_event e) ≡ event_name e
plain_event_name (events.Arrive now) = refl
plain_event_name e = refl

pub plain_event_plain : (e : EventWord) → plain_event (plain_event e) ≡ plain_event e
plain_event_plain (events.Arrive now) = refl
plain_event_plain e = refl

-- ---- answers

pub answer_name_is : (a : AnswerWord) → up_to_mark (answer_word a) ≡ answer_name a
answer_name_is (answers.Tried true) = refl
answer_name_is (answers.Misused UnlockOfUnlockedMutex) = refl
answer_name_is a = refl

pub answer_operand_is : (a : AnswerWord) → behind_mark (answer_word a) ≡ answer_operand a
answer_operand_is (answers.Tried true) = refl
answer_operand_is (answers.Misused UnlockOfUnlockedMutex) = refl
answer_operand_is a = refl

pub answer_found : (a : AnswerWord) → first_named answer_name plain_answers (answer_name a) ≡ Some (plain_answer a)
answer_found (answers.Tried true) = refl
answer_found (answers.Misused UnlockOfUnlockedMutex) = refl
answer_found a = refl

pub plain_answer_name : (a : AnswerWord) → answer_name (plain_answer a) ≡ answer_name a
plain_answer_name (answers.Tried true) = refl
plain_answer_name (answers.Misused UnlockOfUnlockedMutex) = refl
plain_answer_name a = refl

pub plain_answer_plain : (a : AnswerWord) → plain_answer (plain_answer a) ≡ plain_answer a
plain_answer_plain (answers.Tried true) = refl
plain_answer_plain (answers.Misused UnlockOfUnlockedMutex) = refl
plain_answer_plain a = refl
