-- The replies of a call on a map or an atomic, by their words.
use Rattle.std.proofs.Common.{◌≡◌, ℕ, Bool, true, false, cond, eqb, List, [], ◌∷◌, codes, refl}
use Rattle.std.proofs.Common.{Option, Some, None}
use Rattle.std.specs.Prelude.{◌↔◌, IsTrue, is_some, not}
use Rattle.std.specs.Borrow.{Bor}
use Rattle.std.proofs.lemmas.Bool.{false≢true}
use Rattle.record_text.specs.Cuts.{parts_in}
use Rattle.std.specs.List.{slice_split, onto_first}
use Rattle.std.specs.Fmt.{decimal}
use Rattle.record_text.specs.declared.item_line.PlacedReply.TheVariants.{Done, Absent, Valued, Truth, Number}
use Rattle.record_text.specs.AnswerWords.{truth_word}
use Rattle.record_text.specs.ItemLines.{is_reply, reply_words}
use Rattle.record_text.specs.Numbers.{has_64_bits}
use Rattle.record_text.specs.Reading.{IsNone}
use Rattle.record_text.proofs.Decimals.{no_sign, small}

first_of_two : (a b x y : List ℕ) → a ∷ b ∷ [] ≡ x ∷ y ∷ [] → a ≡ x
first_of_two a b x y e = cc

second_of_two : (a b x y : List ℕ) → a ∷ b ∷ [] ≡ x ∷ y ∷ [] → b ≡ y
second_of_two a b x y e = cc

pub no_absent : (second : List ℕ) → (codes "false" ≡ second → ⊥) → IsNone is_reply reply_words (codes "-" ∷ second ∷ [])
no_absent second other Done fits e = absurd cc
no_absent second other Absent fits e = other (second_of_two (codes "-") (codes "false") (codes "-") second e)
no_absent second other (Valued value was_there) fits e = no_sign value [] (small value fits) (first_of_two (decimal value) (truth_word was_there) (codes "-") second e)
no_absent second other (Truth truth) fits e = absurd cc
no_absent second other (Number number) fits e = absurd cc

pub no_value : (first second : List ℕ) → (codes "-" ≡ first → ⊥) → IsNone has_64_bits decimal first → IsNone is_reply reply_words (first ∷ second ∷ [])
no_value first second dash none Done fits e = absurd cc
no_value first second dash none Absent fits e = dash (first_of_two (codes "-") (codes "false") first second e)
no_value first second dash none (Valued value was_there) fits e = none value fits (first_of_two (decimal value) (truth_word was_there) first second e)
no_value first second dash none (Truth truth) fits e = absurd cc
no_value first second dash none (Number number) fits e = absurd cc

pub no_truth : (first second : List ℕ) → IsNone (λ truth. true) truth_word second → IsNone is_reply reply_words (first ∷ second ∷ [])
no_truth first second none Done fits e = absurd cc
no_truth first second none Absent fits e = none false refl (second_of_two (codes "-") (codes "false") first second e)
no_truth first second none (Valued value was_there) fits e = none was_there refl (second_of_two (decimal value) (truth_word was_there) first second e)
no_truth first second none (Truth truth) fits e = absurd cc
no_truth first second none (Number number) fits e = absurd cc

-- a text has a part
pub some_part : (text : List ℕ) → slice_split (λ byte. eqb byte 32) text ≡ [] → ⊥
some_part [] e = absurd cc
some_part (byte ∷ bytes) e = by (eqb byte 32) (slice_split (λ b. eqb b 32) bytes) e where
  by : (b : Bool) (parts : List (List ℕ)) → cond b ([] ∷ parts) (onto_first byte parts) ≡ [] → ⊥
  by true parts e = absurd cc
  by false [] e = absurd cc
  by false (part ∷ parts) e = absurd cc

behind_two : (a b x y : List ℕ) (rest : List (List ℕ)) → a ∷ b ∷ [] ≡ x ∷ y ∷ rest → rest ≡ []
behind_two a b x y rest e = cc

-- no reply has three words
pub no_three : (first second rest : List ℕ) → IsNone is_reply reply_words (first ∷ second ∷ slice_split (λ byte. eqb byte 32) rest)
no_three first second rest Done fits e = absurd cc
no_three first second rest Absent fits e = some_part rest (behind_two (codes "-") (codes "false") first second _ e)
no_three first second rest (Valued value was_there) fits e = some_part rest (behind_two (decimal value) (truth_word was_there) first second _ e)
no_three first second rest (Truth truth) fits e = absurd cc
no_three first second rest (Number number) fits e = absurd cc

-- a line has words left exactly where it isn't at its end
pub ends : (rest : Option (Bor (List ℕ))) (end : Bool) → is_some rest ≡ not end → IsTrue end ↔ (parts_in 32 rest ≡ [])
ends None true e = (λ t. refl, λ none. refl)
ends None false e = absurd cc
ends (Some text) true e = absurd cc
ends (Some text) false e = (λ f. absurd (false≢true f), λ none. absurd (some_part text.now none))
