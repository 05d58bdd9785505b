-- An event, or an answer, is read by its name and its operand.
use Rattle.std.proofs.Common.{◌≡◌, ℕ, true, List, ◌++◌, Option, Some, None, sym, ap, ◌∙◌}
use Rattle.std.specs.Prelude.{MatchOption}
use Rattle.workload.specs.KeywordWords.{first_named}
use Rattle.record_text.specs.declared.event.EventWord.{EventWord}
use Rattle.record_text.specs.declared.answer.AnswerWord.{AnswerWord}
use Rattle.record_text.specs.EventWords.{event_name, event_operand, event_word, is_event}
use Rattle.record_text.specs.AnswerWords.{answer_name, answer_operand, answer_word, is_answer}
use Rattle.record_text.specs.Names.{up_to_mark, behind_mark, plain_event, plain_events, plain_answer, plain_answers}
use Rattle.record_text.specs.Reading.{IsNone, IsRead}
use Rattle.record_text.proofs.NameLemmas.{whole_name, named, event_name_is, event_operand_is, event_found, plain_event_name, plain_event_plain, answer_name_is, answer_operand_is, answer_found, plain_answer_name, plain_answer_plain}

same_some : {X : Type 0} (x y : X) → Some x ≡ Some y → x ≡ y
same_some x y e = cc

none_some : {X : Type 0} (x : X) → None ≡ Some x → ⊥
none_some x e = absurd cc

-- by the name of the event that a word is
event_at : (e : EventWord) (word : List ℕ) → event_word e ≡ word → first_named event_name plain_events (up_to_mark word) ≡ Some (plain_event e)
event_at e word is = ap (first_named event_name plain_events) (sym (ap up_to_mark is) ∙ event_name_is e) ∙ event_found e

pub no_event : (workers : ℕ) (word : List ℕ) → first_named event_name plain_events (up_to_mark word) ≡ None → IsNone (is_event workers) event_word word
no_event workers word none e fits is = none_some (plain_event e) (sym none ∙ event_at e word is)

pub event_read : (workers : ℕ) (word : List ℕ) (event : EventWord) (read : Option EventWord) → first_named event_name plain_events (up_to_mark word) ≡ Some event
    → MatchOption read ((e : EventWord) → is_event workers e ≡ true → plain_event e ≡ plain_event event → event_operand e ≡ behind_mark word → ⊥)
    (λ e. (is_event workers e ≡ true) × (plain_event e ≡ plain_event event) × (event_operand e ≡ behind_mark word))
    → IsRead (is_event workers) event_word word read
event_read workers word event None found none = λ e fits is.
    let same : event ≡ plain_event e = same_some event (plain_event e) (sym found ∙ event_at e word is) in
    none e fits (sym (plain_event_plain e) ∙ ap plain_event (sym same)) (sym (event_operand_is e) ∙ ap behind_mark is)
event_read workers word event (Some e) found (fits, plain, operand) = (
  fits,
  ap (λ name. name ++ event_operand e) (sym (plain_event_name e) ∙ ap event_name plain ∙ plain_event_name event ∙ named event_name plain_events (up_to_mark word) event found)
      ∙ ap (λ rest. up_to_mark word ++ rest) operand ∙ whole_name word,
)

answer_at : (a : AnswerWord) (word : List ℕ) → answer_word a ≡ word → first_named answer_name plain_answers (up_to_mark word) ≡ Some (plain_answer a)
answer_at a word is = ap (first_named answer_name plain_answers) (sym (ap up_to_mark is) ∙ answer_name_is a) ∙ answer_found a

pub no_answer : (workers : ℕ) (word : List ℕ) → first_named answer_name plain_answers (up_to_mark word) ≡ None → IsNone (is_answer workers) answer_word word
no_answer workers word none a fits is = none_some (plain_answer a) (sym none ∙ answer_at a word is)

pub answer_read : (workers : ℕ) (word : List ℕ) (answer : AnswerWord) (read : Option AnswerWord) → first_named answer_name plain_answers (up_to_mark word) ≡ Some answer
    → MatchOption read ((a : AnswerWord) → is_answer workers a ≡ true → plain_answer a ≡ plain_answer answer → answer_operand a ≡ behind_mark word → ⊥)
    (λ a. (is_answer workers a ≡ true) × (plain_answer a ≡ plain_answer answer) × (answer_operand a ≡ behind_mark word))
    → IsRead (is_answer workers) answer_word word read
answer_read workers word answer None found none = λ a fits is.
    let same : answer ≡ plain_answer a = same_some answer (plain_answer a) (sym found ∙ answer_at a word is) in
    none a fits (sym (plain_answer_plain a) ∙ ap plain_answer (sym same)) (sym (answer_operand_is a) ∙ ap behind_mark is)
answer_read workers word answer (Some a) found (fits, plain, operand) = (
  fits,
  ap (λ name. name ++ answer_operand a) (sym (plain_answer_name a) ∙ ap answer_name plain ∙ plain_answer_name answer ∙ named answer_name plain_answers (up_to_mark word) answer found)
      ∙ ap (λ rest. up_to_mark word ++ rest) operand ∙ whole_name word,
)
