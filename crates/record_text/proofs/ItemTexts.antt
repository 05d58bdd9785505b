-- The bytes of an item's line are cut into its words again.
use Rattle.std.proofs.Common.{◌≡◌, ℕ, zero, suc, ℤ, pos, negsuc, ◌^◌, ◌<◌, ◌≤◌, Bool, true, false, ◌&&◌, cond, eqb, nat_le, List, [], ◌∷◌, ◌++◌, map, length, get_or, slice_get, codes, Option, Some, None, refl, sym, ap, ◌∙◌, subst, arith}
use Rattle.std.specs.Prelude.{nat_lt, ◌||◌}
use Rattle.std.specs.List.{AllByRecursion, flat_map, join_with_byte, list_all, list_any, onto_first, slice_split}
use Rattle.std.specs.Option.{option_map_or, option_to_list}
use Rattle.std.specs.Str.{all_ascii_digits, bytes_eq}
use Rattle.std.specs.Fmt.{decimal, signed_decimal}
use Rattle.std.proofs.lemmas.Bool.{eqb-true, leb-true, lt-ltb, ltb-true, ne_eqb}
use Rattle.std.proofs.lemmas.List.Folds.{list_all-append}
use Rattle.std.proofs.lemmas.List.Splits.{join_with_byte-slice_split, slice_split-cons_no, slice_split-cons_yes}
use Rattle.script_calls.specs.declared.call.Call.{Call}
use Rattle.script_calls.specs.declared.call.Operation.{Operation}
use Rattle.script_calls.specs.declared.call.Operation.TheVariants as operations
use Rattle.sync_types.specs.Name.{is_letter, is_name, is_name_byte}
use Rattle.sync_types.specs.SequentialMap.{map_key}
use Rattle.workload.specs.declared.object.ObjectLine.{ObjectLine}
use Rattle.workload.specs.Draft.{all_keys, is_call, keys_of, operation_keys, is_operation, is_value}
use Rattle.workload.specs.CallWords.{map_values}
use Rattle.workload.specs.Keys.{key_name, keys_in, with_name, with_names}
use Rattle.workload.specs.Plan.{Plan}
use Rattle.workload.specs.Readable.{IsReadable, may_declare}
use Rattle.record_text.specs.declared.answer.AnswerWord.{AnswerWord}
use Rattle.record_text.specs.declared.answer.AnswerWord.TheVariants as answers
use Rattle.record_text.specs.declared.directory.Named.{Named}
use Rattle.record_text.specs.declared.event.JournalKind.TheVariants as kinds
use Rattle.record_text.specs.declared.event.EventWord.{EventWord}
use Rattle.record_text.specs.declared.event.EventWord.TheVariants as events
use Rattle.record_text.specs.declared.item_line.ItemLine.{ItemLine}
use Rattle.record_text.specs.declared.item_line.PlacedReply.{PlacedReply}
use Rattle.record_text.specs.declared.item_line.PlacedReply.TheVariants as replies
use Rattle.record_text.specs.declared.item_line.Said.{Said}
use Rattle.record_text.specs.declared.item_line.Said.TheVariants as said
use Rattle.record_text.specs.declared.item_line.Whole.{Whole}
use Rattle.record_text.specs.declared.item_line.Whole.TheVariants.{Natural, Below}
use Rattle.record_text.specs.declared.limits.TheConstants.{MAX_RECORD_LINE}
use Rattle.record_text.specs.AnswerWords.{answer_word, is_answer, small_misuse_word, truth_word}
use Rattle.record_text.specs.EventWords.{event_word, is_event, misuse_word}
use Rattle.record_text.specs.ItemLines.{index_word, is_index, is_item, is_place, is_reply, is_said, is_shown, item_text, item_words, object_word, reply_words, said_word, said_words, shown_word, spaced, IsItemLine}
use Rattle.record_text.specs.Journals.{named_in, named_object, named_parts}
use Rattle.record_text.specs.Numbers.{front_word, has_64_bits, is_front, is_int64, is_whole, whole_word}
use Rattle.record_text.specs.Told.{is_short_line, AreItemLines}
use Rattle.record_text.proofs.Decimals.{both, digits, pair, small, smaller}
use Rattle.record_text.proofs.OwnWords.{Anything, IsNamed, IsPart, all_parts, any, are_declared, each_at, each_both, each_mapped, each_mono, name_bytes}
use Rattle.record_text.proofs.ReadPlans.{short_script}
use Rattle.record_text.proofs.SaidLemmas.{entry_fits}
use Rattle.sync_types.specs.declared.misuse.Misuse.{Misuse}
use Rattle.sync_types.specs.declared.misuse.Misuse.TheVariants.{UnlockOfUnlockedMutex, RUnlockOfUnlockedRwMutex, UnlockOfUnlockedRwMutex, NegativeWaitGroupCounter, WaitGroupReused, SemaphoreOverReleased}

-- ---- words without a space

abbrev pub is_solid : ℕ → Bool
is_solid byte = nat_lt 32 byte

-- each byte of the word is greater than a space
abbrev pub Solid : List ℕ → Type 0
Solid word = list_all is_solid word ≡ true

space : ℕ → Bool
space byte = eqb byte 32

no_space : (byte : ℕ) → is_solid byte ≡ true → space byte ≡ false
unfolding space
no_space byte h = ne_eqb byte 32 (λ same. absurd (let greater = ltb-true 32 byte h in omega (arith, greater, same)))

split_word : (word rest : List ℕ) → Solid word → slice_split space (word ++ 32 ∷ rest) ≡ word ∷ slice_split space rest
unfolding space
split_word [] rest h = slice_split-cons_yes space 32 rest refl
split_word (byte ∷ word) rest h =
    let parts = both (is_solid byte) (list_all is_solid word) h in
    slice_split-cons_no space byte (word ++ 32 ∷ rest) (no_space byte parts.0) ∙ ap (onto_first byte) (split_word word rest parts.1)

split_last : (word : List ℕ) → Solid word → slice_split space word ≡ word ∷ []
split_last [] h = refl
split_last (byte ∷ word) h =
    let parts = both (is_solid byte) (list_all is_solid word) h in
    slice_split-cons_no space byte word (no_space byte parts.0) ∙ ap (onto_first byte) (split_last word parts.1)

-- words that are joined by spaces are cut again
split_joined : (word : List ℕ) (words : List (List ℕ)) → AllByRecursion Solid (word ∷ words) → spaced (join_with_byte 32 (word ∷ words)) ≡ word ∷ words
unfolding space
split_joined word [] h = split_last word h.0
split_joined word (next ∷ words) h = split_word word (join_with_byte 32 (next ∷ words)) h.0 ∙ ap (λ (ws : List (List ℕ)). word ∷ ws) (split_joined next words h.1)

pub solid_both : (xs ys : List ℕ) → Solid xs → Solid ys → Solid (xs ++ ys)
solid_both xs ys h k = list_all-append is_solid xs ys ∙ pair (list_all is_solid xs) (list_all is_solid ys) h k

solid_digit : (byte : ℕ) → (nat_le 48 byte && nat_le byte 57) ≡ true → is_solid byte ≡ true
solid_digit byte h = lt-ltb 32 byte (let low = leb-true 48 byte (both (nat_le 48 byte) (nat_le byte 57) h).0 in omega (arith, low))

solid_digits : (word : List ℕ) → all_ascii_digits word ≡ true → Solid word
solid_digits [] h = refl
solid_digits (byte ∷ word) h =
    let parts = both (nat_le 48 byte && nat_le byte 57) (all_ascii_digits word) h in
    pair (is_solid byte) (list_all is_solid word) (solid_digit byte parts.0) (solid_digits word parts.1)

number_solid : (n : ℕ) → n < 2 ^ 64 → Solid (decimal n)
number_solid n low = solid_digits (decimal n) (digits n low)

whole_solid : (w : Whole) → is_whole w ≡ true → Solid (whole_word w)
whole_solid (Natural n) fits = number_solid n (small n fits)
whole_solid (Below n) fits = number_solid n (let high = leb-true n (2 ^ 63) (both (nat_lt 0 n) (nat_le n (2 ^ 63)) fits).1 in omega (arith, high))

signed_solid : (z : ℤ) → is_int64 z ≡ true → Solid (signed_decimal z)
signed_solid (pos n) fits = number_solid n (let low = ltb-true n (2 ^ 63) fits in omega (arith, low))
signed_solid (negsuc n) fits = number_solid (suc n) (let low = ltb-true n (2 ^ 63) fits in omega (arith, low))

-- a letter, a digit or `_`
solid_name_byte : (byte : ℕ) → is_name_byte byte ≡ true → is_solid byte ≡ true
solid_name_byte byte h = by (is_letter byte) (nat_le 48 byte && nat_le byte 57) refl refl where
  by : (letter digit : Bool) → is_letter byte ≡ letter → (nat_le 48 byte && nat_le byte 57) ≡ digit → is_solid byte ≡ true
  by true digit is also = lt-ltb 32 byte (let low = leb-true 97 byte (both (nat_le 97 byte) (nat_le byte 122) is).0 in omega (arith, low))
  by false true is also = solid_digit byte also
  by false false is also = lt-ltb 32 byte (let line = eqb-true byte 95 (sym (ap (λ b. (b || (nat_le 48 byte && nat_le byte 57)) || eqb byte 95) is ∙ ap (λ b. b || eqb byte 95) also) ∙ h) in omega (arith, line))

name_solid : (name : List ℕ) → list_all is_name_byte name ≡ true → Solid name
name_solid [] h = refl
name_solid (byte ∷ name) h =
    let parts = both (is_name_byte byte) (list_all is_name_byte name) h in
    pair (is_solid byte) (list_all is_solid name) (solid_name_byte byte parts.0) (name_solid name parts.1)

-- ---- the words of a line

front_solid : (front : List ℕ) → list_all has_64_bits front ≡ true → Solid (front_word front)
front_solid [] h = refl
front_solid (n ∷ []) h = number_solid n (small n (both (has_64_bits n) true h).0)
front_solid (n ∷ (m ∷ front)) h =
    let parts = both (has_64_bits n) (list_all has_64_bits (m ∷ front)) h in
    solid_both (decimal n) (44 ∷ front_word (m ∷ front)) (number_solid n (small n parts.0)) (front_solid (m ∷ front) parts.1)

misuse_solid : (m : Misuse) → Solid (misuse_word m)
misuse_solid UnlockOfUnlockedMutex = refl
misuse_solid RUnlockOfUnlockedRwMutex = refl
misuse_solid UnlockOfUnlockedRwMutex = refl
misuse_solid NegativeWaitGroupCounter = refl
misuse_solid WaitGroupReused = refl
misuse_solid SemaphoreOverReleased = refl

small_misuse_solid : (m : Misuse) → Solid (small_misuse_word m ++ [])
small_misuse_solid UnlockOfUnlockedMutex = refl
small_misuse_solid RUnlockOfUnlockedRwMutex = refl
small_misuse_solid UnlockOfUnlockedRwMutex = refl
small_misuse_solid NegativeWaitGroupCounter = refl
small_misuse_solid WaitGroupReused = refl
small_misuse_solid SemaphoreOverReleased = refl

truth_solid : (truth : Bool) → Solid (truth_word truth)
truth_solid true = refl
truth_solid false = refl

worker_solid : (worker workers : ℕ) → workers ≤ 32 → nat_lt worker workers ≡ true → Solid (decimal worker)
worker_solid worker workers few h = number_solid worker (let low = ltb-true worker workers h in omega (arith, low, few))

event_solid : (workers : ℕ) → workers ≤ 32 → (e : EventWord) → is_event workers e ≡ true → Solid (event_word e)
event_solid workers few (events.Arrive n) fits = solid_both (codes "arrive@") (decimal n) refl (number_solid n (small n fits))
event_solid workers few (events.Woken n) fits = solid_both (codes "woken@") (decimal n) refl (number_solid n (small n fits))
event_solid workers few (events.WriteArrive n) fits = solid_both (codes "w_arrive@") (decimal n) refl (number_solid n (small n fits))
event_solid workers few (events.WriteWoken n) fits = solid_both (codes "w_woken@") (decimal n) refl (number_solid n (small n fits))
event_solid workers few (events.Add w) fits = solid_both (codes "add=") (whole_word w) refl (whole_solid w fits)
event_solid workers few (events.Put n) fits = solid_both (codes "put=") (decimal n) refl (number_solid n (small n fits))
event_solid workers few (events.Acquire n) fits = solid_both (codes "acquire=") (decimal n) refl (number_solid n (small n fits))
event_solid workers few (events.TryAcquire n) fits = solid_both (codes "try=") (decimal n) refl (number_solid n (small n fits))
event_solid workers few (events.Release n) fits = solid_both (codes "release=") (decimal n) refl (number_solid n (small n fits))
event_solid workers few (events.Join n) fits = solid_both (codes "join=") (decimal n) refl (number_solid n (smaller n fits))
event_solid workers few (events.Land z) fits = solid_both (codes "land=") (signed_decimal z) refl (signed_solid z fits)
event_solid workers few (events.Start n) fits = solid_both (codes "start=") (decimal n) refl (worker_solid n workers few fits)
event_solid workers few (events.Halt m) fits = solid_both (codes "halt=") (misuse_word m) refl (misuse_solid m)
event_solid workers few events.Try fits = refl
event_solid workers few events.Unlock fits = refl
event_solid workers few events.ReadArrive fits = refl
event_solid workers few events.ReadTry fits = refl
event_solid workers few events.ReadUnlock fits = refl
event_solid workers few events.WriteTry fits = refl
event_solid workers few events.WriteUnlock fits = refl
event_solid workers few events.Leave fits = refl
event_solid workers few events.Ticket fits = refl
event_solid workers few events.Signal fits = refl
event_solid workers few events.Broadcast fits = refl
event_solid workers few events.Wait fits = refl
event_solid workers few events.Begin fits = refl
event_solid workers few events.End fits = refl
event_solid workers few events.LookOwn fits = refl
event_solid workers few events.LookOther fits = refl
event_solid workers few events.LookVictim fits = refl
event_solid workers few events.Sweep fits = refl

answer_solid : (workers : ℕ) → workers ≤ 32 → (a : AnswerWord) → is_answer workers a ≡ true → Solid (answer_word a)
answer_solid workers few (answers.Woke n) fits = solid_both (codes "woke=") (decimal n) refl (worker_solid n workers few fits)
answer_solid workers few (answers.Handed n) fits = solid_both (codes "handed=") (decimal n) refl (worker_solid n workers few fits)
answer_solid workers few (answers.Item n) fits = solid_both (codes "item=") (decimal n) refl (number_solid n (small n fits))
answer_solid workers few (answers.Left z) fits = solid_both (codes "left=") (signed_decimal z) refl (signed_solid z fits)
answer_solid workers few (answers.Halted m) fits = solid_both (codes "halted=") (misuse_word m) refl (misuse_solid m)
answer_solid workers few (answers.Misused m) fits = small_misuse_solid m
answer_solid workers few (answers.Tried true) fits = refl
answer_solid workers few (answers.Tried false) fits = refl
answer_solid workers few answers.Acquired fits = refl
answer_solid workers few answers.Queued fits = refl
answer_solid workers few answers.Requeued fits = refl
answer_solid workers few answers.Still fits = refl
answer_solid workers few answers.Free fits = refl
answer_solid workers few answers.Done fits = refl
answer_solid workers few answers.Run fits = refl
answer_solid workers few answers.Ran fits = refl
answer_solid workers few answers.Nothing fits = refl
answer_solid workers few answers.Refused fits = refl
answer_solid workers few answers.Lead fits = refl
answer_solid workers few answers.Go fits = refl
answer_solid workers few answers.Never fits = refl

reply_solid : (reply : PlacedReply) → is_reply reply ≡ true → AllByRecursion Solid (reply_words reply)
reply_solid replies.Done fits = (refl, tt)
reply_solid replies.Absent fits = (refl, (refl, tt))
reply_solid (replies.Valued value was_there) fits = (number_solid value (small value fits), (truth_solid was_there, tt))
reply_solid (replies.Truth truth) fits = (truth_solid truth, tt)
reply_solid (replies.Number number) fits = (whole_solid number fits, tt)

index_solid : (calls : ℕ) (index : Option ℕ) → calls < 2 ^ 64 → is_index calls index ≡ true → Solid (index_word index)
index_solid calls None low fits = refl
index_solid calls (Some index) low fits = number_solid index (let below = ltb-true index calls fits in omega (arith, below, low))

-- ---- keys

module _ (P : List ℕ → Type 0) where
  each_with : (names : List (List ℕ)) (name : List ℕ) → AllByRecursion P names → P name → AllByRecursion P (with_name names name)
  each_with names name each is = by (list_any (bytes_eq name) names) where
    by : (b : Bool) → AllByRecursion P (cond b names (names ++ name ∷ []))
    by true = each
    by false = each_both P names (name ∷ []) each (is, tt)

  each_with_names : (names more : List (List ℕ)) → AllByRecursion P names → AllByRecursion P more → AllByRecursion P (with_names names more)
  each_with_names names [] each rest = each
  each_with_names names (name ∷ more) each rest = each_with_names (with_name names name) more (each_with names name each rest.0) rest.1

module _ (P : List ℕ → Type 0) (named : (name : List ℕ) → is_name name ≡ true → P name) where
  -- a key of a call is a name
  operation_each : (operation : Operation) → is_operation operation ≡ true → AllByRecursion P (operation_keys operation)
  operation_each (operations.Map call) h = by (map_key call) (both (list_all is_name (option_to_list (map_key call))) (list_all is_value (map_values call)) h).0 where
    by : (key : Option (List ℕ)) → list_all is_name (option_to_list key) ≡ true → AllByRecursion P (option_to_list key)
    by None h = tt
    by (Some name) h = (named name (both (is_name name) true h).0, tt)
  operation_each operations.Range h = tt
  operation_each (operations.Atomic call) h = tt
  operation_each (operations.Mutex call) h = tt
  operation_each (operations.RwMutex call) h = tt
  operation_each (operations.Cond call) h = tt
  operation_each (operations.WaitGroup call) h = tt
  operation_each operations.Once h = tt
  operation_each operations.OnceFunc h = tt
  operation_each operations.OnceValue h = tt
  operation_each (operations.Pool call) h = tt
  operation_each (operations.Sema call) h = tt
  operation_each (operations.Fly key) h = (named key h, tt)
  operation_each (operations.Var call) h = tt
  operation_each (operations.Composed call) h = tt

  script_each : (script : List Call) → list_all is_call script ≡ true → AllByRecursion P (flat_map keys_of script)
  script_each [] h = tt
  script_each (call ∷ script) h =
      let parts = both (is_call call) (list_all is_call script) h in
      each_both P (keys_of call) (flat_map keys_of script) (operation_each call.operation parts.0) (script_each script parts.1)

  scripts_each : (scripts : List (List Call)) → list_all (list_all is_call) scripts ≡ true → AllByRecursion P (all_keys scripts)
  scripts_each [] h = tt
  scripts_each (script ∷ scripts) h =
      let parts = both (list_all is_call script) (list_all (list_all is_call) scripts) h in
      each_both P (flat_map keys_of script) (all_keys scripts) (script_each script parts.0) (scripts_each scripts parts.1)

  pub keys_each : (scripts : List (List Call)) → list_all (list_all is_call) scripts ≡ true → AllByRecursion P (keys_in scripts)
  keys_each scripts h = each_with_names P [] (all_keys scripts) tt (scripts_each scripts h)

pub name_of_key : (P : List ℕ → Type 0) (keys : List (List ℕ)) (key : ℕ) → P [] → AllByRecursion P keys → P (key_name keys key)
name_of_key P [] key nothing each = nothing
name_of_key P (name ∷ keys) zero nothing each = each.0
name_of_key P (name ∷ keys) (suc key) nothing each = name_of_key P keys key nothing each.1

shown_solid : (keys : List (List ℕ)) (shown : Option (ℕ × ℕ)) → AllByRecursion Solid keys → is_shown keys shown ≡ true → Solid (shown_word keys shown)
shown_solid keys None each fits = refl
shown_solid keys (Some p) each fits =
    let parts = both (nat_lt p.0 (length keys)) (has_64_bits p.1) fits in
    solid_both (key_name keys p.0 ++ codes "=") (decimal p.1) (solid_both (key_name keys p.0) (codes "=") (name_of_key Solid keys p.0 refl each) refl) (number_solid p.1 (small p.1 parts.1))

-- ---- objects

abbrev HasSolid : Named → Type 0
HasSolid named = Solid named.word

part_solid : (x : Named) → IsPart Anything x → HasSolid x
part_solid x (o, part, is, low, named, sort) =
    subst Solid (sym is) (solid_both o.name (33 ∷ decimal part) (name_solid o.name (name_bytes o.name named)) (number_solid part low))

objects_solid : (plan : Plan) → plan.workers ≤ 32 → may_declare [] plan.objects ≡ true → AllByRecursion HasSolid (named_in plan)
objects_solid plan few may =
    let names = (are_declared [] plan.objects may).names in (
      refl,
      each_both HasSolid (map named_object plan.objects ++ flat_map (named_parts plan.workers) plan.objects) (record { word = codes "!starts"; kind = kinds.Starts } ∷ [])
          (each_both HasSolid (map named_object plan.objects) (flat_map (named_parts plan.workers) plan.objects)
          (each_mapped named_object HasSolid plan.objects (each_mono IsNamed (λ (o : ObjectLine). HasSolid (named_object o)) (λ (o : ObjectLine) is. name_solid o.name (name_bytes o.name is)) plan.objects names))
          (each_mono (IsPart Anything) HasSolid part_solid (flat_map (named_parts plan.workers) plan.objects) (all_parts Anything plan.workers plan.objects few names (any plan.objects))))
          (refl, tt),
    )

object_solid : (plan : Plan) (object : ℕ) → AllByRecursion HasSolid (named_in plan) → Solid (object_word plan object)
object_solid plan object each = by (slice_get (named_in plan) object) refl where
  by : (o : Option Named) → slice_get (named_in plan) object ≡ o → Solid (option_map_or (λ (x : Named). x.word) o [])
  by None at = refl
  by (Some named) at = each_at HasSolid (named_in plan) object named each at

-- ---- the line

-- what the words of lines need of a workload
pub record AreSolid (plan : Plan) : Type 0 where
  pub few : plan.workers ≤ 32
  pub short : (worker : ℕ) → length (get_or plan.scripts worker []) < 2 ^ 64
  pub keys : AllByRecursion Solid (keys_in plan.scripts)
  pub objects : AllByRecursion HasSolid (named_in plan)

pub readable_solid : (plan : Plan) → IsReadable plan → AreSolid plan
readable_solid plan readable = record {
  few = readable.few_workers;
  short = λ worker. short_script plan.scripts worker readable.call_room;
  keys = keys_each Solid (λ name is. name_solid name (name_bytes name is)) plan.scripts readable.calls;
  objects = objects_solid plan readable.few_workers readable.objects;
}

first_solid : (says : Said) → Solid (said_word says)
first_solid (said.Call place reply) = refl
first_solid (said.Begin reach) = refl
first_solid (said.Next reach shown) = refl
first_solid (said.Entered object number event answer) = refl

said_solid : (plan : Plan) (front : List ℕ) (says : Said) → AreSolid plan → Solid front → is_said plan says ≡ true → AllByRecursion Solid (said_words plan front says)
said_solid plan front (said.Call place reply) solid is fits =
    let parts = both (has_64_bits place) (is_reply reply) fits in
    (number_solid place (small place parts.0), (is, reply_solid reply parts.1))
said_solid plan front (said.Begin reach) solid is fits = (number_solid reach (small reach fits), (is, tt))
said_solid plan front (said.Next reach shown) solid is fits =
    let parts = both (has_64_bits reach) (is_shown (keys_in plan.scripts) shown) fits in
    (number_solid reach (small reach parts.0), (is, (shown_solid (keys_in plan.scripts) shown solid.keys parts.1, tt)))
said_solid plan front (said.Entered object number event answer) solid is fits =
    let fit = entry_fits plan object number event answer fits in (
      object_solid plan object solid.objects,
      (number_solid number (small number fit.number_fits), (is, (event_solid plan.workers solid.few event fit.event_fits, (answer_solid plan.workers solid.few answer fit.answer_fits, tt)))),
    )

pub item_solid : (plan : Plan) (item : ItemLine) → AreSolid plan → is_item plan item ≡ true → AllByRecursion Solid (item_words plan item)
item_solid plan item solid fits =
    let parts = both (is_place plan item.worker item.index) (is_front plan.workers item.front && is_said plan item.said) fits in
    let at = both (nat_lt item.worker plan.workers) (is_index (length (get_or plan.scripts item.worker [])) item.index) parts.0 in
    let says = both (is_front plan.workers item.front) (is_said plan item.said) parts.1 in (
      first_solid item.said,
      (
        worker_solid item.worker plan.workers solid.few at.0,
        (
          index_solid (length (get_or plan.scripts item.worker [])) item.index (solid.short item.worker) at.1,
          said_solid plan (front_word item.front) item.said solid (front_solid item.front (both (eqb (length item.front) plan.workers) (list_all has_64_bits item.front) says.0).1) says.1,
        ),
      ),
    )

-- an item in range has a line, its words joined by spaces, if that is short
pub item_line_is : (plan : Plan) (item : ItemLine) → IsReadable plan → is_item plan item ≡ true → length (item_text plan item) ≤ MAX_RECORD_LINE → IsItemLine plan (item_text plan item) item
item_line_is plan item readable fits short = record {
  short = short;
  fits = fits;
  words = sym (split_joined (said_word item.said) _ (item_solid plan item (readable_solid plan readable) fits));
}

pub lines_are : (plan : Plan) (items : List ItemLine) → IsReadable plan → list_all (is_item plan) items ≡ true → list_all is_short_line (map (item_text plan) items) ≡ true → AreItemLines plan (map (item_text plan) items) items
lines_are plan [] readable fits short = tt
lines_are plan (item ∷ items) readable fits short =
    let here = both (is_item plan item) (list_all (is_item plan) items) fits in
    let line = both (is_short_line (item_text plan item)) (list_all is_short_line (map (item_text plan) items)) short in
    (item_line_is plan item readable here.0 (leb-true (length (item_text plan item)) MAX_RECORD_LINE line.0), lines_are plan items readable here.1 line.1)

-- and no other
pub only_line : (plan : Plan) (line : List ℕ) (item : ItemLine) → IsItemLine plan line item → line ≡ item_text plan item
only_line plan line item is = sym (ap (join_with_byte 32) is.words ∙ join_with_byte-slice_split 32 line)
