-- An event, and an answer, is determined by its word.
use Rattle.std.proofs.Common.{◌≡◌, ℕ, suc, ◌-◌, ℤ, pos, negsuc, ◌^◌, ◌<◌, ◌≤◌, true, cond, eqb, List, [], ◌∷◌, Some, refl, sym, ap, ◌∙◌, arith}
use Rattle.std.specs.Prelude.{nat_lt, nat_le, ◌&&◌}
use Rattle.std.specs.Fmt.{decimal, signed_decimal}
use Rattle.std.specs.Option.{option_map_or}
use Rattle.std.specs.Str.{all_ascii_digits}
use Rattle.std.proofs.lemmas.Bool.{lt-ltb, ltb-true, le-leb, leb-true, ne_eqb}
use Rattle.sync_types.specs.declared.misuse.Misuse.{Misuse}
use Rattle.sync_types.specs.declared.misuse.Misuse.TheVariants.{UnlockOfUnlockedMutex, RUnlockOfUnlockedRwMutex, UnlockOfUnlockedRwMutex, NegativeWaitGroupCounter, WaitGroupReused, SemaphoreOverReleased}
use Rattle.workload.specs.KeywordWords.{first_named}
use Rattle.workload.specs.NumberWords.{number_of}
use Rattle.record_text.specs.declared.event.EventWord.{EventWord}
use Rattle.record_text.specs.declared.event.EventWord.TheVariants as events
use Rattle.record_text.specs.declared.answer.AnswerWord.{AnswerWord}
use Rattle.record_text.specs.declared.answer.AnswerWord.TheVariants as answers
use Rattle.record_text.specs.declared.item_line.Whole.{Whole}
use Rattle.record_text.specs.declared.item_line.Whole.TheVariants.{Natural, Below}
use Rattle.record_text.specs.EventWords.{event_name, event_operand, event_word, is_event, misuse_word}
use Rattle.record_text.specs.AnswerWords.{answer_name, answer_operand, answer_word, is_answer}
use Rattle.record_text.specs.Names.{up_to_mark, behind_mark, plain_event, plain_events, plain_answer, plain_answers}
use Rattle.record_text.specs.Numbers.{is_int64, is_whole, whole_word}
use Rattle.record_text.proofs.Decimals.{both, digits, number_of-decimal, small, smaller}
use Rattle.record_text.proofs.NameLemmas.{event_name_is, event_operand_is, event_found, answer_name_is, answer_operand_is, answer_found}

same_some : {X : Type 0} (x y : X) → Some x ≡ Some y → x ≡ y
same_some x y e = cc

few : (n most : ℕ) → most ≤ 32 → nat_lt n most ≡ true → n < 2 ^ 64
few n most low h = let less = ltb-true n most h in omega (arith, less, low)

-- ---- operands

whole_from : List ℕ → Whole
whole_from [] = Natural 0
whole_from (byte ∷ bytes) = cond (eqb byte 45) (Below (number_of bytes)) (Natural (number_of (byte ∷ bytes)))

natural_from : (word : List ℕ) → all_ascii_digits word ≡ true → whole_from word ≡ Natural (number_of word)
unfolding whole_from
natural_from [] h = refl
natural_from (byte ∷ bytes) h = ap (λ b. cond b (Below (number_of bytes)) (Natural (number_of (byte ∷ bytes)))) (ne_eqb byte 45 (λ same. sign byte same (both (nat_le 48 byte && nat_le byte 57) (all_ascii_digits bytes) h).0))
  where
    sign : (byte : ℕ) → byte ≡ 45 → (nat_le 48 byte && nat_le byte 57) ≡ true → ⊥
    sign byte same digit = let low = leb-true 48 byte (both (nat_le 48 byte) (nat_le byte 57) digit).0 in omega (arith, low, same)

whole_back : (w : Whole) → is_whole w ≡ true → whole_from (whole_word w) ≡ w
unfolding whole_from
whole_back (Natural n) fits = natural_from (decimal n) (digits n (small n fits)) ∙ ap (λ k. Natural k) (number_of-decimal n (small n fits))
whole_back (Below n) fits = ap (λ k. Below k) (number_of-decimal n (let high = leb-true n (2 ^ 63) (both (nat_lt 0 n) (nat_le n (2 ^ 63)) fits).1 in omega (arith, high)))

pub same_whole : (w v : Whole) → is_whole w ≡ true → is_whole v ≡ true → whole_word w ≡ whole_word v → w ≡ v
same_whole w v fits other same = sym (whole_back w fits) ∙ ap whole_from same ∙ whole_back v other

signed_in : Whole → ℤ
signed_in (Natural n) = pos n
signed_in (Below n) = negsuc (n - 1)

signed_from : List ℕ → ℤ
signed_from word = signed_in (whole_from word)

signed_back : (z : ℤ) → is_int64 z ≡ true → signed_from (signed_decimal z) ≡ z
unfolding signed_from signed_in
signed_back (pos n) fits = ap signed_in (whole_back (Natural n) (lt-ltb n (2 ^ 64) (let low = ltb-true n (2 ^ 63) fits in omega (arith, low))))
signed_back (negsuc n) fits =
    let low = ltb-true n (2 ^ 63) fits in
    ap signed_in (whole_back (Below (suc n)) (ap (λ b. b && nat_le (suc n) (2 ^ 63)) (lt-ltb 0 (suc n) (omega arith)) ∙ le-leb (suc n) (2 ^ 63) (omega (arith, low))))
    ∙ ap negsuc (let same : suc n - 1 ≡ n = omega arith in same)

misuse_from : List ℕ → Misuse
misuse_from word = option_map_or (λ m. m) (first_named misuse_word (UnlockOfUnlockedMutex ∷ RUnlockOfUnlockedRwMutex ∷ UnlockOfUnlockedRwMutex ∷ NegativeWaitGroupCounter ∷ WaitGroupReused ∷ SemaphoreOverReleased ∷ []) word) UnlockOfUnlockedMutex

misuse_back : (m : Misuse) → misuse_from (misuse_word m) ≡ m
unfolding misuse_from
misuse_back UnlockOfUnlockedMutex = refl
misuse_back RUnlockOfUnlockedRwMutex = refl
misuse_back UnlockOfUnlockedRwMutex = refl
misuse_back NegativeWaitGroupCounter = refl
misuse_back WaitGroupReused = refl
misuse_back SemaphoreOverReleased = refl

-- ---- events

event_from : EventWord → List ℕ → EventWord
event_from (events.Arrive n) word = events.Arrive (number_of word)
event_from (events.Woken n) word = events.Woken (number_of word)
event_from (events.WriteArrive n) word = events.WriteArrive (number_of word)
event_from (events.WriteWoken n) word = events.WriteWoken (number_of word)
event_from (events.Add n) word = events.Add (whole_from word)
event_from (events.Put n) word = events.Put (number_of word)
event_from (events.Acquire n) word = events.Acquire (number_of word)
event_from (events.TryAcquire n) word = events.TryAcquire (number_of word)
event_from (events.Release n) word = events.Release (number_of word)
event_from (events.Join n) word = events.Join (number_of word)
event_from (events.Land n) word = events.Land (signed_from word)
event_from (events.Start n) word = events.Start (number_of word)
event_from (events.Halt m) word = events.Halt (misuse_from word)
event_from event word = event

event_back : (workers : ℕ) → workers ≤ 32 → (e : EventWord) → is_event workers e ≡ true → event_from (plain_event e) (event_operand e) ≡ e
unfolding event_from
event_back workers low (events.Arrive n) fits = ap (λ k. events.Arrive k) (number_of-decimal n (small n fits))
event_back workers low events.Try fits = refl
event_back workers low events.Unlock fits = refl
event_back workers low (events.Woken n) fits = ap (λ k. events.Woken k) (number_of-decimal n (small n fits))
event_back workers low events.ReadArrive fits = refl
event_back workers low events.ReadTry fits = refl
event_back workers low events.ReadUnlock fits = refl
event_back workers low (events.WriteArrive n) fits = ap (λ k. events.WriteArrive k) (number_of-decimal n (small n fits))
event_back workers low events.WriteTry fits = refl
event_back workers low (events.WriteWoken n) fits = ap (λ k. events.WriteWoken k) (number_of-decimal n (small n fits))
event_back workers low events.WriteUnlock fits = refl
event_back workers low events.Leave fits = refl
event_back workers low events.Ticket fits = refl
event_back workers low events.Signal fits = refl
event_back workers low events.Broadcast fits = refl
event_back workers low (events.Add w) fits = ap (λ k. events.Add k) (whole_back w fits)
event_back workers low events.Wait fits = refl
event_back workers low events.Begin fits = refl
event_back workers low events.End fits = refl
event_back workers low (events.Put n) fits = ap (λ k. events.Put k) (number_of-decimal n (small n fits))
event_back workers low events.LookOwn fits = refl
event_back workers low events.LookOther fits = refl
event_back workers low events.LookVictim fits = refl
event_back workers low events.Sweep fits = refl
event_back workers low (events.Acquire n) fits = ap (λ k. events.Acquire k) (number_of-decimal n (small n fits))
event_back workers low (events.TryAcquire n) fits = ap (λ k. events.TryAcquire k) (number_of-decimal n (small n fits))
event_back workers low (events.Release n) fits = ap (λ k. events.Release k) (number_of-decimal n (small n fits))
event_back workers low (events.Join n) fits = ap (λ k. events.Join k) (number_of-decimal n (smaller n fits))
event_back workers low (events.Land z) fits = ap (λ k. events.Land k) (signed_back z fits)
event_back workers low (events.Start n) fits = ap (λ k. events.Start k) (number_of-decimal n (few n workers low fits))
event_back workers low (events.Halt m) fits = ap (λ k. events.Halt k) (misuse_back m)

pub same_event : (workers : ℕ) → workers ≤ 32 → (e f : EventWord) → is_event workers e ≡ true → is_event workers f ≡ true → event_word e ≡ event_word f → e ≡ f
same_event workers low e f fits other same =
    let name : event_name e ≡ event_name f = sym (event_name_is e) ∙ ap up_to_mark same ∙ event_name_is f in
    let plain : plain_event e ≡ plain_event f = same_some (plain_event e) (plain_event f) (sym (event_found e) ∙ ap (first_named event_name plain_events) name ∙ event_found f) in
    let operand : event_operand e ≡ event_operand f = sym (event_operand_is e) ∙ ap behind_mark same ∙ event_operand_is f in
    sym (event_back workers low e fits) ∙ ap (λ p. event_from p (event_operand e)) plain ∙ ap (event_from (plain_event f)) operand ∙ event_back workers low f other

-- ---- answers

answer_from : AnswerWord → List ℕ → AnswerWord
answer_from (answers.Woke n) word = answers.Woke (number_of word)
answer_from (answers.Handed n) word = answers.Handed (number_of word)
answer_from (answers.Item n) word = answers.Item (number_of word)
answer_from (answers.Left n) word = answers.Left (signed_from word)
answer_from (answers.Halted m) word = answers.Halted (misuse_from word)
answer_from answer word = answer

answer_back : (workers : ℕ) → workers ≤ 32 → (a : AnswerWord) → is_answer workers a ≡ true → answer_from (plain_answer a) (answer_operand a) ≡ a
unfolding answer_from
answer_back workers low answers.Acquired fits = refl
answer_back workers low answers.Queued fits = refl
answer_back workers low answers.Requeued fits = refl
answer_back workers low answers.Still fits = refl
answer_back workers low answers.Free fits = refl
answer_back workers low answers.Done fits = refl
answer_back workers low answers.Run fits = refl
answer_back workers low answers.Ran fits = refl
answer_back workers low answers.Nothing fits = refl
answer_back workers low answers.Refused fits = refl
answer_back workers low answers.Lead fits = refl
answer_back workers low answers.Go fits = refl
answer_back workers low answers.Never fits = refl
answer_back workers low (answers.Tried t) fits = refl
answer_back workers low (answers.Misused m) fits = refl
answer_back workers low (answers.Woke n) fits = ap (λ k. answers.Woke k) (number_of-decimal n (few n workers low fits))
answer_back workers low (answers.Handed n) fits = ap (λ k. answers.Handed k) (number_of-decimal n (few n workers low fits))
answer_back workers low (answers.Item n) fits = ap (λ k. answers.Item k) (number_of-decimal n (small n fits))
answer_back workers low (answers.Left z) fits = ap (λ k. answers.Left k) (signed_back z fits)
answer_back workers low (answers.Halted m) fits = ap (λ k. answers.Halted k) (misuse_back m)

pub same_answer : (workers : ℕ) → workers ≤ 32 → (a b : AnswerWord) → is_answer workers a ≡ true → is_answer workers b ≡ true → answer_word a ≡ answer_word b → a ≡ b
same_answer workers low a b fits other same =
    let name : answer_name a ≡ answer_name b = sym (answer_name_is a) ∙ ap up_to_mark same ∙ answer_name_is b in
    let plain : plain_answer a ≡ plain_answer b = same_some (plain_answer a) (plain_answer b) (sym (answer_found a) ∙ ap (first_named answer_name plain_answers) name ∙ answer_found b) in
    let operand : answer_operand a ≡ answer_operand b = sym (answer_operand_is a) ∙ ap behind_mark same ∙ answer_operand_is b in
    sym (answer_back workers low a fits) ∙ ap (λ p. answer_from p (answer_operand a)) plain ∙ ap (answer_from (plain_answer b)) operand ∙ answer_back workers low b other
