-- What the words of a line say, by its first word.
use Rattle.std.proofs.Common.{◌≡◌, ℕ, ◌≤◌, true, false, ◌&&◌, eqb, List, [], ◌∷◌, codes, Option, Some, None, refl, sym, ap, ◌∙◌, slice_get}
use Rattle.std.specs.Fmt.{decimal}
use Rattle.std.proofs.lemmas.Bool.{eqb-true, eq-eqb, false≢true}
use Rattle.std.specs.Option.{option_map_or}
use Rattle.std.specs.Prelude.{nat_lt}
use Rattle.std.proofs.lemmas.Bool.{ltb-true}
use Rattle.std.proofs.lemmas.Fmt.{decimal_injective}
use Rattle.std.proofs.Common.{length, get_or, arith}
use Rattle.record_text.specs.Numbers.{front_word, is_front}
use Rattle.workload.specs.Plan.{Plan}
use Rattle.workload.specs.Keys.{keys_in}
use Rattle.record_text.specs.declared.directory.Named.{Named}
use Rattle.record_text.specs.declared.event.EventWord.{EventWord}
use Rattle.record_text.specs.declared.answer.AnswerWord.{AnswerWord}
use Rattle.record_text.specs.declared.item_line.Said.{Said}
use Rattle.record_text.specs.declared.item_line.Said.TheVariants.{Call, Begin, Next, Entered}
use Rattle.record_text.specs.declared.item_line.PlacedReply.{PlacedReply}
use Rattle.record_text.specs.AnswerWords.{answer_word, has_answer, is_answer}
use Rattle.record_text.specs.EventWords.{event_word, is_event}
use Rattle.record_text.specs.ItemLines.{index_word, is_index, is_item, is_named, is_place, is_reply, is_said, is_shown, item_words, line_words, may_have, object_word, reply_words, said_word, said_words, shown_word}
use Rattle.record_text.specs.Journals.{named_in, number_named}
use Rattle.std.specs.Borrow.{Bor}
use Rattle.std.proofs.Common.{subst}
use Rattle.record_text.specs.Parts.{IsSaid}
use Rattle.record_text.specs.Numbers.{has_64_bits}
use Rattle.record_text.specs.Reading.{IsNone}
use Rattle.record_text.proofs.Decimals.{both, pair}
use Rattle.record_text.proofs.SameWords.{same_event, same_answer}

-- nothing is said so in a line that begins with this word
abbrev pub SaysNothing : Plan → List ℕ → List (List ℕ) → Type 0
SaysNothing plan first words = (front : List ℕ) (said : Said) → is_said plan said ≡ true → said_word said ≡ first → said_words plan front said ≡ words → ⊥

pub head : (x y : List ℕ) (xs ys : List (List ℕ)) → x ∷ xs ≡ y ∷ ys → x ≡ y
head x y xs ys e = cc

pub tail : (x y : List ℕ) (xs ys : List (List ℕ)) → x ∷ xs ≡ y ∷ ys → xs ≡ ys
tail x y xs ys e = cc

none_some : {X : Type 0} (x : X) → None ≡ Some x → ⊥
none_some x e = absurd cc

-- no two kinds of line begin with one word
pub begin_no_call : codes "begin" ≡ codes "call" → ⊥
begin_no_call e = let letter : 98 ≡ 99 = ap (λ (word : List ℕ). get_or word 0 0) e in omega (arith, letter)

pub next_no_call : codes "next" ≡ codes "call" → ⊥
next_no_call e = let letter : 110 ≡ 99 = ap (λ (word : List ℕ). get_or word 0 0) e in omega (arith, letter)

pub event_no_call : codes "event" ≡ codes "call" → ⊥
event_no_call e = let letter : 101 ≡ 99 = ap (λ (word : List ℕ). get_or word 0 0) e in omega (arith, letter)

pub call_no_begin : codes "call" ≡ codes "begin" → ⊥
call_no_begin e = let letter : 99 ≡ 98 = ap (λ (word : List ℕ). get_or word 0 0) e in omega (arith, letter)

pub next_no_begin : codes "next" ≡ codes "begin" → ⊥
next_no_begin e = let letter : 110 ≡ 98 = ap (λ (word : List ℕ). get_or word 0 0) e in omega (arith, letter)

pub event_no_begin : codes "event" ≡ codes "begin" → ⊥
event_no_begin e = let letter : 101 ≡ 98 = ap (λ (word : List ℕ). get_or word 0 0) e in omega (arith, letter)

pub call_no_next : codes "call" ≡ codes "next" → ⊥
call_no_next e = let letter : 99 ≡ 110 = ap (λ (word : List ℕ). get_or word 0 0) e in omega (arith, letter)

pub begin_no_next : codes "begin" ≡ codes "next" → ⊥
begin_no_next e = let letter : 98 ≡ 110 = ap (λ (word : List ℕ). get_or word 0 0) e in omega (arith, letter)

pub event_no_next : codes "event" ≡ codes "next" → ⊥
event_no_next e = let letter : 101 ≡ 110 = ap (λ (word : List ℕ). get_or word 0 0) e in omega (arith, letter)

pub call_no_event : codes "call" ≡ codes "event" → ⊥
call_no_event e = let letter : 99 ≡ 101 = ap (λ (word : List ℕ). get_or word 0 0) e in omega (arith, letter)

pub begin_no_event : codes "begin" ≡ codes "event" → ⊥
begin_no_event e = let letter : 98 ≡ 101 = ap (λ (word : List ℕ). get_or word 0 0) e in omega (arith, letter)

pub next_no_event : codes "next" ≡ codes "event" → ⊥
next_no_event e = let letter : 110 ≡ 101 = ap (λ (word : List ℕ). get_or word 0 0) e in omega (arith, letter)

-- by the same words
pub along : (plan : Plan) (first : List ℕ) (words others : List (List ℕ)) → SaysNothing plan first words → others ≡ words → SaysNothing plan first others
along plan first words others none e front said fits is same = none front said fits is (same ∙ e)

pub no_words : (plan : Plan) (first : List ℕ) → SaysNothing plan first []
no_words plan first front (Call place reply) fits is e = absurd cc
no_words plan first front (Begin reach) fits is e = absurd cc
no_words plan first front (Next reach shown) fits is e = absurd cc
no_words plan first front (Entered object number event answer) fits is e = absurd cc

pub no_two : (plan : Plan) (first word : List ℕ) → SaysNothing plan first (word ∷ [])
no_two plan first word front (Call place reply) fits is e = absurd cc
no_two plan first word front (Begin reach) fits is e = absurd cc
no_two plan first word front (Next reach shown) fits is e = absurd cc
no_two plan first word front (Entered object number event answer) fits is e = absurd cc

-- a word that no line begins with
pub no_first : (plan : Plan) (first : List ℕ) (words : List (List ℕ)) → (codes "event" ≡ first → ⊥) → (codes "call" ≡ first → ⊥) → (codes "begin" ≡ first → ⊥) → (codes "next" ≡ first → ⊥) → SaysNothing plan first words
no_first plan first words event call begin next front (Call place reply) fits is e = call is
no_first plan first words event call begin next front (Begin reach) fits is e = begin is
no_first plan first words event call begin next front (Next reach shown) fits is e = next is
no_first plan first words event call begin next front (Entered object number event_said answer) fits is e = event is

-- ---- a call

pub call_place : (plan : Plan) (word : List ℕ) (rest : List (List ℕ)) → IsNone has_64_bits decimal word → SaysNothing plan (codes "call") (word ∷ rest)
call_place plan word rest none front (Call place reply) fits first e = none place (both (has_64_bits place) (is_reply reply) fits).0 (head (decimal place) word _ rest e)
call_place plan word rest none front (Begin reach) fits first e = absurd (begin_no_call first)
call_place plan word rest none front (Next reach shown) fits first e = absurd (next_no_call first)
call_place plan word rest none front (Entered object number event answer) fits first e = absurd (event_no_call first)

pub call_reply : (plan : Plan) (word face : List ℕ) (rest : List (List ℕ)) → IsNone is_reply reply_words rest → SaysNothing plan (codes "call") (word ∷ face ∷ rest)
call_reply plan word face rest none front (Call place reply) fits first e = none reply (both (has_64_bits place) (is_reply reply) fits).1 (tail front face _ rest (tail (decimal place) word _ _ e))
call_reply plan word face rest none front (Begin reach) fits first e = absurd (begin_no_call first)
call_reply plan word face rest none front (Next reach shown) fits first e = absurd (next_no_call first)
call_reply plan word face rest none front (Entered object number event answer) fits first e = absurd (event_no_call first)

pub call_said : (plan : Plan) (words behind last : List (List ℕ)) (word front : List ℕ) (place : ℕ) (reply : PlacedReply) → words ≡ word ∷ behind → has_64_bits place ≡ true → decimal place ≡ word → behind ≡ front ∷ last → is_reply reply ≡ true → reply_words reply ≡ last
    → (is_said plan (Call place reply) ≡ true) × (said_word (Call place reply) ≡ codes "call") × (said_words plan front (Call place reply) ≡ words)
call_said plan words behind last word front place reply cut place_fits place_is cut_front reply_fits reply_is = (
  pair (has_64_bits place) (is_reply reply) place_fits reply_fits,
  refl,
  ap (λ w. w ∷ front ∷ reply_words reply) place_is ∙ ap (λ ws. word ∷ front ∷ ws) reply_is ∙ ap (λ ws. word ∷ ws) (sym cut_front) ∙ sym cut,
)

-- ---- a cursor

pub begin_said : (plan : Plan) (words behind : List (List ℕ)) (word front : List ℕ) (reach : ℕ) → words ≡ word ∷ behind → has_64_bits reach ≡ true → decimal reach ≡ word → behind ≡ front ∷ []
    → (is_said plan (Begin reach) ≡ true) × (said_word (Begin reach) ≡ codes "begin") × (said_words plan front (Begin reach) ≡ words)
begin_said plan words behind word front reach cut fits is cut_front = (fits, refl, ap (λ w. w ∷ front ∷ []) is ∙ ap (λ ws. word ∷ ws) (sym cut_front) ∙ sym cut)

pub next_said : (plan : Plan) (words behind last : List (List ℕ)) (word front shown_is : List ℕ) (reach : ℕ) (shown : Option (ℕ × ℕ)) → words ≡ word ∷ behind → has_64_bits reach ≡ true → decimal reach ≡ word → behind ≡ front ∷ last → last ≡ shown_is ∷ []
    → is_shown (keys_in plan.scripts) shown ≡ true → shown_word (keys_in plan.scripts) shown ≡ shown_is
    → (is_said plan (Next reach shown) ≡ true) × (said_word (Next reach shown) ≡ codes "next") × (said_words plan front (Next reach shown) ≡ words)
next_said plan words behind last word front shown_is reach shown cut fits is cut_front cut_last shown_fits same = (
  pair (has_64_bits reach) (is_shown (keys_in plan.scripts) shown) fits shown_fits,
  refl,
  ap (λ w. w ∷ front ∷ shown_word (keys_in plan.scripts) shown ∷ []) is ∙ ap (λ w. word ∷ front ∷ w ∷ []) same ∙ ap (λ ws. word ∷ front ∷ ws) (sym cut_last) ∙ ap (λ ws. word ∷ ws) (sym cut_front) ∙ sym cut,
)

pub begin_reach : (plan : Plan) (word : List ℕ) (rest : List (List ℕ)) → IsNone has_64_bits decimal word → SaysNothing plan (codes "begin") (word ∷ rest)
begin_reach plan word rest none front (Begin reach) fits first e = none reach fits (head (decimal reach) word _ rest e)
begin_reach plan word rest none front (Call place reply) fits first e = absurd (call_no_begin first)
begin_reach plan word rest none front (Next reach shown) fits first e = absurd (next_no_begin first)
begin_reach plan word rest none front (Entered object number event answer) fits first e = absurd (event_no_begin first)

pub begin_front : (plan : Plan) (word : List ℕ) (rest : List (List ℕ)) → ((last : List ℕ) → rest ≡ last ∷ [] → ⊥) → SaysNothing plan (codes "begin") (word ∷ rest)
begin_front plan word rest none front (Begin reach) fits first e = none front (sym (tail (decimal reach) word _ rest e))
begin_front plan word rest none front (Call place reply) fits first e = absurd (call_no_begin first)
begin_front plan word rest none front (Next reach shown) fits first e = absurd (next_no_begin first)
begin_front plan word rest none front (Entered object number event answer) fits first e = absurd (event_no_begin first)

pub next_reach : (plan : Plan) (word : List ℕ) (rest : List (List ℕ)) → IsNone has_64_bits decimal word → SaysNothing plan (codes "next") (word ∷ rest)
next_reach plan word rest none front (Next reach shown) fits first e = none reach (both (has_64_bits reach) (is_shown (keys_in plan.scripts) shown) fits).0 (head (decimal reach) word _ rest e)
next_reach plan word rest none front (Call place reply) fits first e = absurd (call_no_next first)
next_reach plan word rest none front (Begin reach) fits first e = absurd (begin_no_next first)
next_reach plan word rest none front (Entered object number event answer) fits first e = absurd (event_no_next first)

pub next_last : (plan : Plan) (word face : List ℕ) (rest : List (List ℕ)) → ((last : List ℕ) → rest ≡ last ∷ [] → ⊥) → SaysNothing plan (codes "next") (word ∷ face ∷ rest)
next_last plan word face rest none front (Next reach shown) fits first e = none (shown_word (keys_in plan.scripts) shown) (sym (tail front face _ rest (tail (decimal reach) word _ _ e)))
next_last plan word face rest none front (Call place reply) fits first e = absurd (call_no_next first)
next_last plan word face rest none front (Begin reach) fits first e = absurd (begin_no_next first)
next_last plan word face rest none front (Entered object number event answer) fits first e = absurd (event_no_next first)

pub next_shown : (plan : Plan) (word face last : List ℕ) → IsNone (is_shown (keys_in plan.scripts)) (shown_word (keys_in plan.scripts)) last → SaysNothing plan (codes "next") (word ∷ face ∷ last ∷ [])
next_shown plan word face last none front (Next reach shown) fits first e =
    none shown (both (has_64_bits reach) (is_shown (keys_in plan.scripts) shown) fits).1 (head (shown_word (keys_in plan.scripts) shown) last [] [] (tail front face _ _ (tail (decimal reach) word _ _ e)))
next_shown plan word face last none front (Call place reply) fits first e = absurd (call_no_next first)
next_shown plan word face last none front (Begin reach) fits first e = absurd (begin_no_next first)
next_shown plan word face last none front (Entered object number event answer) fits first e = absurd (event_no_next first)

-- ---- an entry

-- what is asked of an entry
pub record Fits (plan : Plan) (object number : ℕ) (event : EventWord) (answer : AnswerWord) : Type 0 where
  pub named_so : is_named plan object ≡ true
  pub number_fits : has_64_bits number ≡ true
  pub event_fits : is_event plan.workers event ≡ true
  pub answer_fits : is_answer plan.workers answer ≡ true
  pub row : may_have plan object event answer ≡ true

pub entry_fits : (plan : Plan) (object number : ℕ) (event : EventWord) (answer : AnswerWord) → is_said plan (Entered object number event answer) ≡ true → Fits plan object number event answer
entry_fits plan object number event answer h =
    let row = may_have plan object event answer in
    let named = both (is_named plan object) (has_64_bits number && (is_event plan.workers event && (is_answer plan.workers answer && row))) h in
    let first = both (has_64_bits number) (is_event plan.workers event && (is_answer plan.workers answer && row)) named.1 in
    let second = both (is_event plan.workers event) (is_answer plan.workers answer && row) first.1 in
    let third = both (is_answer plan.workers answer) row second.1 in
    record { named_so = named.0; number_fits = first.0; event_fits = second.0; answer_fits = third.0; row = third.1 }

there : (names : Option Named) (event : EventWord) (answer : AnswerWord) → option_map_or (λ (named : Named). has_answer named.kind event answer) names false ≡ true → (named : Named) × (names ≡ Some named) × (has_answer named.kind event answer ≡ true)
there None event answer h = absurd cc
there (Some named) event answer h = (named, refl, h)

pub found_so : (found : Option ℕ) (object : ℕ) → option_map_or (λ number. eqb number object) found false ≡ true → found ≡ Some object
found_so None object h = absurd cc
found_so (Some number) object h = ap (λ (n : ℕ). Some n) (eqb-true number object h)

named_so_of : (found : Option ℕ) (object : ℕ) → found ≡ Some object → option_map_or (λ number. eqb number object) found false ≡ true
named_so_of None object e = absurd cc
named_so_of (Some number) object e = eq-eqb number object (let same : number ≡ object = cc in same)

-- five words
abbrev pub five : (a b c d e : List ℕ) → List (List ℕ)
five a b c d e = a ∷ b ∷ c ∷ d ∷ e ∷ []

pub entered_words : (plan : Plan) (rest : List (List ℕ)) → ((a b c d e : List ℕ) → five a b c d e ≡ rest → ⊥) → SaysNothing plan (codes "event") rest
entered_words plan rest none front (Entered object number event answer) fits first e = none _ _ _ _ _ e
entered_words plan rest none front (Call place reply) fits first e = absurd (call_no_event first)
entered_words plan rest none front (Begin reach) fits first e = absurd (begin_no_event first)
entered_words plan rest none front (Next reach shown) fits first e = absurd (next_no_event first)

word_at : (plan : Plan) (object : ℕ) (named : Named) → slice_get (named_in plan) object ≡ Some named → object_word plan object ≡ named.word
word_at plan object named at = ap (λ o. option_map_or (λ (n : Named). n.word) o []) at

pub entered_object : (plan : Plan) (a b c d e : List ℕ) → number_named (named_in plan) a ≡ None → SaysNothing plan (codes "event") (five a b c d e)
entered_object plan a b c d e none front (Entered object number event answer) fits first same =
    none_some object (sym none ∙ ap (number_named (named_in plan)) (sym (head (object_word plan object) a _ _ same)) ∙ found_so (number_named (named_in plan) (object_word plan object)) object (entry_fits plan object number event answer fits).named_so)
entered_object plan a b c d e none front (Call place reply) fits first same = absurd (call_no_event first)
entered_object plan a b c d e none front (Begin reach) fits first same = absurd (begin_no_event first)
entered_object plan a b c d e none front (Next reach shown) fits first same = absurd (next_no_event first)

pub entered_number : (plan : Plan) (a b c d e : List ℕ) → IsNone has_64_bits decimal b → SaysNothing plan (codes "event") (five a b c d e)
entered_number plan a b c d e none front (Entered object number event answer) fits first same =
    none number (entry_fits plan object number event answer fits).number_fits (head (decimal number) b _ _ (tail (object_word plan object) a _ _ same))
entered_number plan a b c d e none front (Call place reply) fits first same = absurd (call_no_event first)
entered_number plan a b c d e none front (Begin reach) fits first same = absurd (begin_no_event first)
entered_number plan a b c d e none front (Next reach shown) fits first same = absurd (next_no_event first)

pub fourth : (a b c d e x y z u v : List ℕ) → five a b c d e ≡ five x y z u v → (a ≡ x) × (d ≡ u) × (e ≡ v)
fourth a b c d e x y z u v same = (cc, cc, cc)

pub entered_event : (plan : Plan) (a b c d e : List ℕ) → IsNone (is_event plan.workers) event_word d → SaysNothing plan (codes "event") (five a b c d e)
entered_event plan a b c d e none front (Entered object number event answer) fits first same =
    none event (entry_fits plan object number event answer fits).event_fits (fourth (object_word plan object) (decimal number) front (event_word event) (answer_word answer) a b c d e same).1
entered_event plan a b c d e none front (Call place reply) fits first same = absurd (call_no_event first)
entered_event plan a b c d e none front (Begin reach) fits first same = absurd (begin_no_event first)
entered_event plan a b c d e none front (Next reach shown) fits first same = absurd (next_no_event first)

pub entered_answer : (plan : Plan) (a b c d e : List ℕ) → IsNone (is_answer plan.workers) answer_word e → SaysNothing plan (codes "event") (five a b c d e)
entered_answer plan a b c d e none front (Entered object number event answer) fits first same =
    none answer (entry_fits plan object number event answer fits).answer_fits (fourth (object_word plan object) (decimal number) front (event_word event) (answer_word answer) a b c d e same).2
entered_answer plan a b c d e none front (Call place reply) fits first same = absurd (call_no_event first)
entered_answer plan a b c d e none front (Begin reach) fits first same = absurd (begin_no_event first)
entered_answer plan a b c d e none front (Next reach shown) fits first same = absurd (next_no_event first)

same_some : {X : Type 0} (x y : X) → Some x ≡ Some y → x ≡ y
same_some x y e = cc

-- the object was found, and its kind hasn't the event with the answer
pub entered_row : (plan : Plan) (a b c d e : List ℕ) (found : ℕ) (named : Named) (event : EventWord) (answer : AnswerWord) → number_named (named_in plan) a ≡ Some found → slice_get (named_in plan) found ≡ Some named
    → is_event plan.workers event ≡ true → event_word event ≡ d → is_answer plan.workers answer ≡ true → answer_word answer ≡ e → plan.workers ≤ 32 → has_answer named.kind event answer ≡ false → SaysNothing plan (codes "event") (five a b c d e)
entered_row plan a b c d e found named event answer is_found at event_fits event_is answer_fits answer_is few none front (Entered object number other given) fits first same =
    let fit = entry_fits plan object number other given fits in
    let words = fourth (object_word plan object) (decimal number) front (event_word other) (answer_word given) a b c d e same in
    let is_same : found ≡ object = same_some found object (sym is_found ∙ ap (number_named (named_in plan)) (sym words.0) ∙ found_so (number_named (named_in plan) (object_word plan object)) object fit.named_so) in
    let (held, at_held, row) = there (slice_get (named_in plan) object) other given fit.row in
    let same_named : named ≡ held = same_some named held (sym at ∙ ap (slice_get (named_in plan)) is_same ∙ at_held) in
    let same_event_is : other ≡ event = same_event plan.workers few other event fit.event_fits event_fits (words.1 ∙ sym event_is) in
    let same_answer_is : given ≡ answer = same_answer plan.workers few given answer fit.answer_fits answer_fits (words.2 ∙ sym answer_is) in
    false≢true (sym none ∙ ap (λ (n : Named). has_answer n.kind event answer) same_named ∙ ap (λ (x : EventWord). has_answer held.kind x answer) (sym same_event_is) ∙ ap (λ (x : AnswerWord). has_answer held.kind other x) (sym same_answer_is) ∙ row)
entered_row plan a b c d e found named event answer is_found at event_fits event_is answer_fits answer_is few none front (Call place reply) fits first same = absurd (call_no_event first)
entered_row plan a b c d e found named event answer is_found at event_fits event_is answer_fits answer_is few none front (Begin reach) fits first same = absurd (begin_no_event first)
entered_row plan a b c d e found named event answer is_found at event_fits event_is answer_fits answer_is few none front (Next reach shown) fits first same = absurd (next_no_event first)

-- an entry that is said
pub entered_said : (plan : Plan) (a b c d e : List ℕ) (found number : ℕ) (named : Named) (event : EventWord) (answer : AnswerWord) → number_named (named_in plan) a ≡ Some found → slice_get (named_in plan) found ≡ Some named → named.word ≡ a
    → has_64_bits number ≡ true → decimal number ≡ b → is_event plan.workers event ≡ true → event_word event ≡ d → is_answer plan.workers answer ≡ true → answer_word answer ≡ e → has_answer named.kind event answer ≡ true
    → (is_said plan (Entered found number event answer) ≡ true) × (said_words plan c (Entered found number event answer) ≡ five a b c d e)
entered_said plan a b c d e found number named event answer is_found at word_is number_fits number_is event_fits event_is answer_fits answer_is row =
    let row_is : may_have plan found event answer ≡ true = ap (λ o. option_map_or (λ (n : Named). has_answer n.kind event answer) o false) at ∙ row in
    let word : object_word plan found ≡ a = word_at plan found named at ∙ word_is in (
      pair (is_named plan found) _ (named_so_of (number_named (named_in plan) (object_word plan found)) found (ap (number_named (named_in plan)) word ∙ is_found))
          (pair (has_64_bits number) _ number_fits (pair (is_event plan.workers event) _ event_fits (pair (is_answer plan.workers answer) _ answer_fits row_is))),
      ap (λ w. w ∷ decimal number ∷ c ∷ event_word event ∷ answer_word answer ∷ []) word
          ∙ ap (λ w. a ∷ w ∷ c ∷ event_word event ∷ answer_word answer ∷ []) number_is
          ∙ ap (λ w. a ∷ b ∷ c ∷ w ∷ answer_word answer ∷ []) event_is
          ∙ ap (λ w. a ∷ b ∷ c ∷ d ∷ w ∷ []) answer_is,
    )

-- ---- the worker and the index

abbrev pub PlacesNothing : Plan → List (List ℕ) → Type 0
PlacesNothing plan rest = (worker : ℕ) (index : Option ℕ) (words : List (List ℕ)) → is_place plan worker index ≡ true → decimal worker ∷ index_word index ∷ words ≡ rest → ⊥

pub place_none : (plan : Plan) (rest : List (List ℕ)) → rest ≡ [] → PlacesNothing plan rest
place_none plan rest none worker index words fits e = absurd (let same : decimal worker ∷ index_word index ∷ words ≡ [] = e ∙ none in cc)

pub place_worker : (plan : Plan) (rest behind : List (List ℕ)) (word : List ℕ) → rest ≡ word ∷ behind → IsNone (λ n. nat_lt n plan.workers) decimal word → PlacesNothing plan rest
place_worker plan rest behind word cut none worker index words fits e =
    none worker (both (nat_lt worker plan.workers) (is_index (length (get_or plan.scripts worker [])) index) fits).0 (head (decimal worker) word _ behind (e ∙ cut))

pub place_one : (plan : Plan) (rest behind : List (List ℕ)) (word : List ℕ) → rest ≡ word ∷ behind → behind ≡ [] → PlacesNothing plan rest
place_one plan rest behind word cut none worker index words fits e = absurd (let same : index_word index ∷ words ≡ [] = tail (decimal worker) word _ behind (e ∙ cut) ∙ none in cc)

pub place_index : (plan : Plan) (rest behind last : List (List ℕ)) (word second : List ℕ) (worker calls : ℕ) → plan.workers ≤ 32 → rest ≡ word ∷ behind → nat_lt worker plan.workers ≡ true → decimal worker ≡ word → behind ≡ second ∷ last → calls ≡ length (get_or plan.scripts worker [])
    → IsNone (is_index calls) index_word second → PlacesNothing plan rest
place_index plan rest behind last word second worker calls few cut worker_fits worker_is cut_second calls_are none other index words fits e =
    let parts = both (nat_lt other plan.workers) (is_index (length (get_or plan.scripts other [])) index) fits in
    let less = ltb-true other plan.workers parts.0 in
    let low = ltb-true worker plan.workers worker_fits in
    let same : other ≡ worker = decimal_injective other worker (omega (arith, less, few)) (omega (arith, low, few)) (head (decimal other) word _ behind (e ∙ cut) ∙ sym worker_is) in
    none index (ap (λ (n : ℕ). is_index n index) (calls_are ∙ ap (λ (w : ℕ). length (get_or plan.scripts w [])) (sym same)) ∙ parts.1) (head (index_word index) second words last (tail (decimal other) word _ behind (e ∙ cut) ∙ cut_second))

pub placed : (plan : Plan) (rest behind last : List (List ℕ)) (word second : List ℕ) (worker calls : ℕ) (index : Option ℕ) → rest ≡ word ∷ behind → nat_lt worker plan.workers ≡ true → decimal worker ≡ word → behind ≡ second ∷ last → calls ≡ length (get_or plan.scripts worker [])
    → is_index calls index ≡ true → index_word index ≡ second → (is_place plan worker index ≡ true) × (decimal worker ∷ index_word index ∷ last ≡ rest)
placed plan rest behind last word second worker calls index cut worker_fits worker_is cut_second calls_are index_fits index_is = (
  pair (nat_lt worker plan.workers) (is_index (length (get_or plan.scripts worker [])) index) worker_fits (ap (λ (n : ℕ). is_index n index) (sym calls_are) ∙ index_fits),
  ap (λ w. w ∷ index_word index ∷ last) worker_is ∙ ap (λ w. word ∷ w ∷ last) index_is ∙ ap (λ ws. word ∷ ws) (sym cut_second) ∙ sym cut,
)

-- ---- the whole line

-- no line has such parts
abbrev pub HasNoParts : Plan → List (List ℕ) → Type 0
HasNoParts plan words = (worker : ℕ) (index : Option ℕ) (front : List ℕ) (said : Said) → is_place plan worker index ≡ true → is_said plan said ≡ true → line_words plan worker index front said ≡ words → ⊥

pub line_none : (plan : Plan) (words : List (List ℕ)) → words ≡ [] → HasNoParts plan words
line_none plan words none worker index front said placed fits e = absurd (let same : line_words plan worker index front said ≡ [] = e ∙ none in cc)

pub line_place : (plan : Plan) (words rest : List (List ℕ)) (first : List ℕ) → words ≡ first ∷ rest → PlacesNothing plan rest → HasNoParts plan words
line_place plan words rest first cut none worker index front said fits said_fits e = none worker index (said_words plan front said) fits (tail (said_word said) first _ rest (e ∙ cut))

pub two_behind : (a b x y : List ℕ) (xs ys : List (List ℕ)) → a ∷ b ∷ xs ≡ x ∷ y ∷ ys → xs ≡ ys
two_behind a b x y xs ys e = cc

pub line_said : (plan : Plan) (words rest behind : List (List ℕ)) (first : List ℕ) (worker : ℕ) (index : Option ℕ) → words ≡ first ∷ rest → decimal worker ∷ index_word index ∷ behind ≡ rest → SaysNothing plan first behind → HasNoParts plan words
line_said plan words rest behind first worker index cut placed none other at front said fits said_fits e =
    none front said said_fits (head (said_word said) first _ rest (e ∙ cut)) (two_behind (decimal other) (index_word at) (decimal worker) (index_word index) (said_words plan front said) behind (tail (said_word said) first _ rest (e ∙ cut) ∙ sym placed))

pub line_parts : (plan : Plan) (words rest behind : List (List ℕ)) (first front : List ℕ) (worker : ℕ) (index : Option ℕ) (said : Said) → words ≡ first ∷ rest → decimal worker ∷ index_word index ∷ behind ≡ rest → said_word said ≡ first → said_words plan front said ≡ behind → line_words plan worker index front said ≡ words
line_parts plan words rest behind first front worker index said cut placed first_is said_is =
    ap (λ w. w ∷ decimal worker ∷ index_word index ∷ said_words plan front said) first_is ∙ ap (λ ws. first ∷ decimal worker ∷ index_word index ∷ ws) said_is ∙ ap (λ ws. first ∷ ws) placed ∙ sym cut

-- ---- the item

pub no_parts : (plan : Plan) (words : List (List ℕ)) → HasNoParts plan words → IsNone (is_item plan) (item_words plan) words
no_parts plan words none item fits e =
    let parts = both (is_place plan item.worker item.index) (is_front plan.workers item.front && is_said plan item.said) fits in
    none item.worker item.index (front_word item.front) item.said parts.0 (both (is_front plan.workers item.front) (is_said plan item.said) parts.1).1 e

pub front_at : (plan : Plan) (front : List ℕ) (said : Said) (face : List ℕ) (other : Said) → said_word said ≡ said_word other → said_words plan front said ≡ said_words plan face other → front ≡ face
front_at plan front (Call place reply) face (Call p r) is e = head front face _ _ (tail (decimal place) (decimal p) _ _ e)
front_at plan front (Begin reach) face (Begin r) is e = head front face _ _ (tail (decimal reach) (decimal r) _ _ e)
front_at plan front (Next reach shown) face (Next r s) is e = head front face _ _ (tail (decimal reach) (decimal r) _ _ e)
front_at plan front (Entered object number event answer) face (Entered o n v a) is e = third (object_word plan object) (decimal number) front _ (object_word plan o) (decimal n) face _ e where
  third : (a b c : List ℕ) (ws : List (List ℕ)) (x y z : List ℕ) (vs : List (List ℕ)) → a ∷ b ∷ c ∷ ws ≡ x ∷ y ∷ z ∷ vs → c ≡ z
  third a b c ws x y z vs e = cc
front_at plan front (Call place reply) face (Begin r) is e = absurd (call_no_begin is)
front_at plan front (Call place reply) face (Next r s) is e = absurd (call_no_next is)
front_at plan front (Call place reply) face (Entered o n v a) is e = absurd (call_no_event is)
front_at plan front (Begin reach) face (Call p r) is e = absurd (begin_no_call is)
front_at plan front (Begin reach) face (Next r s) is e = absurd (begin_no_next is)
front_at plan front (Begin reach) face (Entered o n v a) is e = absurd (begin_no_event is)
front_at plan front (Next reach shown) face (Call p r) is e = absurd (next_no_call is)
front_at plan front (Next reach shown) face (Begin r) is e = absurd (next_no_begin is)
front_at plan front (Next reach shown) face (Entered o n v a) is e = absurd (next_no_event is)
front_at plan front (Entered object number event answer) face (Call p r) is e = absurd (event_no_call is)
front_at plan front (Entered object number event answer) face (Begin r) is e = absurd (event_no_begin is)
front_at plan front (Entered object number event answer) face (Next r s) is e = absurd (event_no_next is)

pub no_front_in : (plan : Plan) (words : List (List ℕ)) (worker : ℕ) (index : Option ℕ) (front : List ℕ) (said : Said) → line_words plan worker index front said ≡ words → IsNone (is_front plan.workers) front_word front → IsNone (is_item plan) (item_words plan) words
no_front_in plan words worker index front said is none item fits e =
    let parts = both (is_place plan item.worker item.index) (is_front plan.workers item.front && is_said plan item.said) fits in
    let same = e ∙ sym is in
    none item.front (both (is_front plan.workers item.front) (is_said plan item.said) parts.1).0
    (front_at plan (front_word item.front) item.said front said (head (said_word item.said) (said_word said) _ _ same)
    (two_behind (decimal item.worker) (index_word item.index) (decimal worker) (index_word index) _ _ (tail (said_word item.said) (said_word said) _ _ same)))

pub an_item : (plan : Plan) (words : List (List ℕ)) (worker : ℕ) (index : Option ℕ) (face front : List ℕ) (said : Said) → is_place plan worker index ≡ true → is_said plan said ≡ true → line_words plan worker index face said ≡ words → is_front plan.workers front ≡ true → front_word front ≡ face
    → ((is_place plan worker index && (is_front plan.workers front && is_said plan said)) ≡ true) × (line_words plan worker index (front_word front) said ≡ words)
an_item plan words worker index face front said placed fits is front_fits front_is = (
  pair (is_place plan worker index) _ placed (pair (is_front plan.workers front) (is_said plan said) front_fits fits),
  ap (λ f. line_words plan worker index f said) front_is ∙ is,
)

-- by the front that was read
pub is_first : (plan : Plan) (first word : List ℕ) (rest : Option (Bor (List ℕ))) (read : Option (Bor (List ℕ) × Said)) → first ≡ word → IsSaid plan word rest read → IsSaid plan first rest read
is_first plan first word rest read same is = subst (λ (w : List ℕ). IsSaid plan w rest read) (sym same) is
