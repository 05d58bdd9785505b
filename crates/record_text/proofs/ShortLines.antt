-- A line of small counts is short.
use Rattle.std.proofs.Common.{◌≡◌, ℕ, suc, ℤ, pos, negsuc, ◌+◌, ◌*◌, ◌^◌, ◌<◌, ◌≤◌, Bool, true, false, ◌&&◌, eqb, nat_le, List, [], ◌∷◌, ◌++◌, length, get_or, codes, Option, Some, None, arith, length-append}
use Rattle.std.specs.Prelude.{nat_lt}
use Rattle.std.specs.List.{join_with_byte, list_all}
use Rattle.std.specs.Fmt.{decimal, signed_decimal}
use Rattle.std.proofs.lemmas.Bool.{eqb-true, leb-true, ltb-true}
use Rattle.std.proofs.lemmas.Fmt.{length-decimal-le}
use Rattle.sync_types.specs.declared.misuse.Misuse.{Misuse}
use Rattle.sync_types.specs.declared.misuse.Misuse.TheVariants.{UnlockOfUnlockedMutex, RUnlockOfUnlockedRwMutex, UnlockOfUnlockedRwMutex, NegativeWaitGroupCounter, WaitGroupReused, SemaphoreOverReleased}
use Rattle.workload.specs.Keys.{key_name, keys_in}
use Rattle.workload.specs.Plan.{Plan}
use Rattle.workload.specs.Readable.{IsReadable}
use Rattle.record_text.specs.declared.answer.AnswerWord.{AnswerWord}
use Rattle.record_text.specs.declared.answer.AnswerWord.TheVariants as answers
use Rattle.record_text.specs.declared.event.EventWord.{EventWord}
use Rattle.record_text.specs.declared.event.EventWord.TheVariants as events
use Rattle.record_text.specs.declared.item_line.ItemLine.{ItemLine}
use Rattle.record_text.specs.declared.item_line.PlacedReply.{PlacedReply}
use Rattle.record_text.specs.declared.item_line.PlacedReply.TheVariants as replies
use Rattle.record_text.specs.declared.item_line.Said.{Said}
use Rattle.record_text.specs.declared.item_line.Said.TheVariants as said
use Rattle.record_text.specs.declared.item_line.Whole.{Whole}
use Rattle.record_text.specs.declared.item_line.Whole.TheVariants.{Natural, Below}
use Rattle.record_text.specs.declared.limits.TheConstants.{MAX_RECORD_LINE}
use Rattle.record_text.specs.AnswerWords.{answer_word, is_answer, small_misuse_word, truth_word}
use Rattle.record_text.specs.EventWords.{event_word, is_event, misuse_word}
use Rattle.record_text.specs.ItemLines.{index_word, is_index, is_item, is_place, is_reply, is_said, is_shown, item_text, item_words, object_word, reply_words, said_word, said_words, shown_word}
use Rattle.record_text.specs.Numbers.{front_word, has_64_bits, is_front, is_int64, is_whole, whole_word}
use Rattle.record_text.specs.WrittenLines.{count_in, has_small_counts, is_small}
use Rattle.record_text.proofs.Decimals.{both, small, smaller}
use Rattle.record_text.proofs.ItemTexts.{keys_each, name_of_key}
use Rattle.record_text.proofs.ReadPlans.{few_calls}
use Rattle.record_text.proofs.SaidLemmas.{entry_fits}
use Rattle.record_text.proofs.WrittenTexts.{name_short, short_word}

-- ---- numbers

wide : (n : ℕ) → n < 2 ^ 64 → length (decimal n) ≤ 20
wide n low = length-decimal-le 20 n (omega arith) (omega (arith, low)) low

seven : (n : ℕ) → is_small n ≡ true → length (decimal n) ≤ 7
seven n h = let low = ltb-true n 10000000 h in length-decimal-le 7 n (omega arith) (omega (arith, low)) (omega (arith, low))

whole_short : (w : Whole) → is_whole w ≡ true → length (whole_word w) ≤ 20
whole_short (Natural n) fits = wide n (small n fits)
whole_short (Below n) fits =
    let high = leb-true n (2 ^ 63) (both (nat_lt 0 n) (nat_le n (2 ^ 63)) fits).1 in
    let digits = length-decimal-le 19 n (omega arith) (omega (arith, high)) (omega (arith, high)) in
    let e : suc (length (decimal n)) ≤ 20 = omega (arith, digits) in e

signed_short : (z : ℤ) → is_int64 z ≡ true → length (signed_decimal z) ≤ 20
signed_short (pos n) fits = wide n (let low = ltb-true n (2 ^ 63) fits in omega (arith, low))
signed_short (negsuc n) fits =
    let high = ltb-true n (2 ^ 63) fits in
    let digits = length-decimal-le 19 (suc n) (omega arith) (omega (arith, high)) (omega (arith, high)) in
    let e : suc (length (decimal (suc n))) ≤ 20 = omega (arith, digits) in e

front_short : (front : List ℕ) → list_all is_small front ≡ true → length (front_word front) ≤ 8 * length front
front_short [] h = omega arith
front_short (n ∷ []) h = let digits = seven n (both (is_small n) true h).0 in omega (arith, digits)
front_short (n ∷ (m ∷ front)) h =
    let parts = both (is_small n) (list_all is_small (m ∷ front)) h in
    let digits = seven n parts.0 in
    let rest = front_short (m ∷ front) parts.1 in
    let whole = length-append (decimal n) (44 ∷ front_word (m ∷ front)) in
    let e : length (decimal n ++ 44 ∷ front_word (m ∷ front)) ≤ 8 * suc (length (m ∷ front)) = omega (arith, digits, rest, whole) in e

-- ---- words

two : (name operand : List ℕ) (a b : ℕ) → length name ≤ a → length operand ≤ b → length (name ++ operand) ≤ a + b
two name operand a b first second = let whole = length-append name operand in omega (arith, first, second, whole)

worker_short : (worker workers : ℕ) → workers ≤ 32 → nat_lt worker workers ≡ true → length (decimal worker) ≤ 2
worker_short worker workers few h = let low = ltb-true worker workers h in length-decimal-le 2 worker (omega arith) (omega (arith, low, few)) (omega (arith, low, few))

misuse_short : (m : Misuse) → length (misuse_word m) ≤ 2
misuse_short UnlockOfUnlockedMutex = omega arith
misuse_short RUnlockOfUnlockedRwMutex = omega arith
misuse_short UnlockOfUnlockedRwMutex = omega arith
misuse_short NegativeWaitGroupCounter = omega arith
misuse_short WaitGroupReused = omega arith
misuse_short SemaphoreOverReleased = omega arith

small_misuse_short : (m : Misuse) → length (small_misuse_word m ++ []) ≤ 27
small_misuse_short UnlockOfUnlockedMutex = omega arith
small_misuse_short RUnlockOfUnlockedRwMutex = omega arith
small_misuse_short UnlockOfUnlockedRwMutex = omega arith
small_misuse_short NegativeWaitGroupCounter = omega arith
small_misuse_short WaitGroupReused = omega arith
small_misuse_short SemaphoreOverReleased = omega arith

truth_short : (truth : Bool) → length (truth_word truth) ≤ 5
truth_short true = omega arith
truth_short false = omega arith

-- an operand of at most 20 bytes behind a name of at most 9
behind_name : (name operand : List ℕ) → length name ≤ 9 → length operand ≤ 20 → length (name ++ operand) ≤ 29
behind_name name operand first second = let whole = two name operand 9 20 first second in omega (arith, whole)

event_short : (workers : ℕ) → workers ≤ 32 → (e : EventWord) → is_event workers e ≡ true → length (event_word e) ≤ 29
event_short workers few (events.Arrive n) fits = behind_name (codes "arrive@") (decimal n) (omega arith) (wide n (small n fits))
event_short workers few (events.Woken n) fits = behind_name (codes "woken@") (decimal n) (omega arith) (wide n (small n fits))
event_short workers few (events.WriteArrive n) fits = behind_name (codes "w_arrive@") (decimal n) (omega arith) (wide n (small n fits))
event_short workers few (events.WriteWoken n) fits = behind_name (codes "w_woken@") (decimal n) (omega arith) (wide n (small n fits))
event_short workers few (events.Add w) fits = behind_name (codes "add=") (whole_word w) (omega arith) (whole_short w fits)
event_short workers few (events.Put n) fits = behind_name (codes "put=") (decimal n) (omega arith) (wide n (small n fits))
event_short workers few (events.Acquire n) fits = behind_name (codes "acquire=") (decimal n) (omega arith) (wide n (small n fits))
event_short workers few (events.TryAcquire n) fits = behind_name (codes "try=") (decimal n) (omega arith) (wide n (small n fits))
event_short workers few (events.Release n) fits = behind_name (codes "release=") (decimal n) (omega arith) (wide n (small n fits))
event_short workers few (events.Join n) fits = behind_name (codes "join=") (decimal n) (omega arith) (wide n (smaller n fits))
event_short workers few (events.Land z) fits = behind_name (codes "land=") (signed_decimal z) (omega arith) (signed_short z fits)
event_short workers few (events.Start n) fits = behind_name (codes "start=") (decimal n) (omega arith) (let short = worker_short n workers few fits in omega (arith, short))
event_short workers few (events.Halt m) fits = behind_name (codes "halt=") (misuse_word m) (omega arith) (let short = misuse_short m in omega (arith, short))
event_short workers few events.Try fits = omega arith
event_short workers few events.Unlock fits = omega arith
event_short workers few events.ReadArrive fits = omega arith
event_short workers few events.ReadTry fits = omega arith
event_short workers few events.ReadUnlock fits = omega arith
event_short workers few events.WriteTry fits = omega arith
event_short workers few events.WriteUnlock fits = omega arith
event_short workers few events.Leave fits = omega arith
event_short workers few events.Ticket fits = omega arith
event_short workers few events.Signal fits = omega arith
event_short workers few events.Broadcast fits = omega arith
event_short workers few events.Wait fits = omega arith
event_short workers few events.Begin fits = omega arith
event_short workers few events.End fits = omega arith
event_short workers few events.LookOwn fits = omega arith
event_short workers few events.LookOther fits = omega arith
event_short workers few events.LookVictim fits = omega arith
event_short workers few events.Sweep fits = omega arith

-- an operand of at most 20 bytes behind a name of at most 7
behind_short : (name operand : List ℕ) → length name ≤ 7 → length operand ≤ 20 → length (name ++ operand) ≤ 27
behind_short name operand first second = let whole = two name operand 7 20 first second in omega (arith, whole)

answer_short : (workers : ℕ) → workers ≤ 32 → (a : AnswerWord) → is_answer workers a ≡ true → length (answer_word a) ≤ 27
answer_short workers few (answers.Woke n) fits = behind_short (codes "woke=") (decimal n) (omega arith) (let short = worker_short n workers few fits in omega (arith, short))
answer_short workers few (answers.Handed n) fits = behind_short (codes "handed=") (decimal n) (omega arith) (let short = worker_short n workers few fits in omega (arith, short))
answer_short workers few (answers.Item n) fits = behind_short (codes "item=") (decimal n) (omega arith) (wide n (small n fits))
answer_short workers few (answers.Left z) fits = behind_short (codes "left=") (signed_decimal z) (omega arith) (signed_short z fits)
answer_short workers few (answers.Halted m) fits = behind_short (codes "halted=") (misuse_word m) (omega arith) (let short = misuse_short m in omega (arith, short))
answer_short workers few (answers.Misused m) fits = small_misuse_short m
answer_short workers few (answers.Tried true) fits = omega arith
answer_short workers few (answers.Tried false) fits = omega arith
answer_short workers few answers.Acquired fits = omega arith
answer_short workers few answers.Queued fits = omega arith
answer_short workers few answers.Requeued fits = omega arith
answer_short workers few answers.Still fits = omega arith
answer_short workers few answers.Free fits = omega arith
answer_short workers few answers.Done fits = omega arith
answer_short workers few answers.Run fits = omega arith
answer_short workers few answers.Ran fits = omega arith
answer_short workers few answers.Nothing fits = omega arith
answer_short workers few answers.Refused fits = omega arith
answer_short workers few answers.Lead fits = omega arith
answer_short workers few answers.Go fits = omega arith
answer_short workers few answers.Never fits = omega arith

index_short : (calls : ℕ) (index : Option ℕ) → calls ≤ 20000 → is_index calls index ≡ true → length (index_word index) ≤ 5
index_short calls None few fits = omega arith
index_short calls (Some index) few fits =
    let low = ltb-true index calls fits in
    length-decimal-le 5 index (omega arith) (omega (arith, low, few)) (omega (arith, low, few))

shown_short : (plan : Plan) (shown : Option (ℕ × ℕ)) → IsReadable plan → is_shown (keys_in plan.scripts) shown ≡ true → length (shown_word (keys_in plan.scripts) shown) ≤ 53
shown_short plan None readable fits = omega arith
shown_short plan (Some p) readable fits =
    let keys = keys_in plan.scripts in
    let parts = both (nat_lt p.0 (length keys)) (has_64_bits p.1) fits in
    let name = name_of_key (λ (word : List ℕ). length word ≤ 32) keys p.0 (omega arith) (keys_each (λ (word : List ℕ). length word ≤ 32) name_short plan.scripts readable.calls) in
    let first = two (key_name keys p.0) (codes "=") 32 1 name (omega arith) in
    let whole = two (key_name keys p.0 ++ codes "=") (decimal p.1) 33 20 (omega (arith, first)) (wide p.1 (small p.1 parts.1)) in
    omega (arith, whole)

-- ---- the line

-- the bytes of words, each with one more
room : List (List ℕ) → ℕ
room [] = 0
room (word ∷ words) = length word + 1 + room words

joined_short : (words : List (List ℕ)) → length (join_with_byte 32 words) ≤ room words
unfolding room
joined_short [] = omega arith
joined_short (word ∷ []) = omega arith
joined_short (word ∷ (next ∷ words)) =
    let rest = joined_short (next ∷ words) in
    let whole = length-append word (32 ∷ join_with_byte 32 (next ∷ words)) in
    let e : length (word ++ 32 ∷ join_with_byte 32 (next ∷ words)) ≤ length word + 1 + room (next ∷ words) = omega (arith, rest, whole) in e

reply_room : (reply : PlacedReply) → is_reply reply ≡ true → room (reply_words reply) ≤ 28
unfolding room
reply_room replies.Done fits = omega arith
reply_room replies.Absent fits = omega arith
reply_room (replies.Valued value was_there) fits =
    let digits = wide value (small value fits) in
    let truth = truth_short was_there in
    let e : length (decimal value) + 1 + (length (truth_word was_there) + 1 + 0) ≤ 28 = omega (arith, digits, truth) in e
reply_room (replies.Truth truth) fits = let short = truth_short truth in let e : length (truth_word truth) + 1 + 0 ≤ 28 = omega (arith, short) in e
reply_room (replies.Number number) fits = let digits = whole_short number fits in let e : length (whole_word number) + 1 + 0 ≤ 28 = omega (arith, digits) in e

said_room : (plan : Plan) (front : List ℕ) (says : Said) → IsReadable plan → length front ≤ 256 → is_said plan says ≡ true → is_small (count_in says) ≡ true → room (said_words plan front says) ≤ 377
unfolding room
said_room plan front (said.Call place reply) readable short fits low =
    let parts = both (has_64_bits place) (is_reply reply) fits in
    let digits = seven place low in
    let words = reply_room reply parts.1 in
    let e : length (decimal place) + 1 + (length front + 1 + room (reply_words reply)) ≤ 377 = omega (arith, digits, short, words) in e
said_room plan front (said.Begin reach) readable short fits low =
    let digits = seven reach low in
    let e : length (decimal reach) + 1 + (length front + 1 + 0) ≤ 377 = omega (arith, digits, short) in e
said_room plan front (said.Next reach shown) readable short fits low =
    let parts = both (has_64_bits reach) (is_shown (keys_in plan.scripts) shown) fits in
    let digits = seven reach low in
    let word = shown_short plan shown readable parts.1 in
    let e : length (decimal reach) + 1 + (length front + 1 + (length (shown_word (keys_in plan.scripts) shown) + 1 + 0)) ≤ 377 = omega (arith, digits, short, word) in e
said_room plan front (said.Entered object number event answer) readable short fits low =
    let fit = entry_fits plan object number event answer fits in
    let name = short_word plan object readable in
    let digits = seven number low in
    let did = event_short plan.workers readable.few_workers event fit.event_fits in
    let answered = answer_short plan.workers readable.few_workers answer fit.answer_fits in
    let e : length (object_word plan object) + 1 + (length (decimal number) + 1 + (length front + 1 + (length (event_word event) + 1 + (length (answer_word answer) + 1 + 0)))) ≤ 377 = omega (arith, name, digits, short, did, answered) in e

first_short : (says : Said) → length (said_word says) ≤ 5
first_short (said.Call place reply) = omega arith
first_short (said.Begin reach) = omega arith
first_short (said.Next reach shown) = omega arith
first_short (said.Entered object number event answer) = omega arith

pub short_line : (plan : Plan) (item : ItemLine) → IsReadable plan → is_item plan item ≡ true → has_small_counts item ≡ true → length (item_text plan item) ≤ MAX_RECORD_LINE
unfolding room
short_line plan item readable fits low =
    let parts = both (is_place plan item.worker item.index) (is_front plan.workers item.front && is_said plan item.said) fits in
    let at = both (nat_lt item.worker plan.workers) (is_index (length (get_or plan.scripts item.worker [])) item.index) parts.0 in
    let says = both (is_front plan.workers item.front) (is_said plan item.said) parts.1 in
    let counts = both (is_small (count_in item.said)) (list_all is_small item.front) low in
    let each = eqb-true (length item.front) plan.workers (both (eqb (length item.front) plan.workers) (list_all has_64_bits item.front) says.0).0 in
    let few = readable.few_workers in
    let front = front_short item.front counts.1 in
    let first = first_short item.said in
    let worker = worker_short item.worker plan.workers few at.0 in
    let index = index_short (length (get_or plan.scripts item.worker [])) item.index (few_calls plan.scripts item.worker readable.call_room) at.1 in
    let words = said_room plan (front_word item.front) item.said readable (omega (arith, front, each, few)) says.1 counts.0 in
    let whole : length (item_text plan item) ≤ length (said_word item.said) + 1 + (length (decimal item.worker) + 1 + (length (index_word item.index) + 1 + room (said_words plan (front_word item.front) item.said))) = joined_short (item_words plan item) in
    omega (arith, whole, first, worker, index, words)
