-- An item is determined by the words of its line.
use Rattle.std.proofs.Common.{◌≡◌, ℕ, zero, suc, ◌^◌, ◌<◌, ◌≤◌, Bool, true, false, ◌&&◌, nat_le, List, [], ◌∷◌, map, length, get_or, take, drop, codes, Option, Some, None, refl, sym, ap, ◌∙◌, subst, arith}
use Rattle.std.specs.Prelude.{nat_lt}
use Rattle.std.specs.List.{list_all}
use Rattle.std.specs.Str.{all_ascii_digits, bytes_eq}
use Rattle.std.specs.Fmt.{decimal}
use Rattle.std.proofs.lemmas.Bool.{false≢true, ltb-true}
use Rattle.std.proofs.lemmas.Fmt.{decimal_injective}
use Rattle.std.proofs.lemmas.Slice.Eq.{bytes_eq-Decides}
use Rattle.workload.specs.Keys.{keys_in, key_name, number_in}
use Rattle.workload.specs.Plan.{Plan}
use Rattle.workload_text.specs.ReportLines.{pair_text}
use Rattle.record_text.specs.declared.event.EventWord.{EventWord}
use Rattle.record_text.specs.declared.answer.AnswerWord.{AnswerWord}
use Rattle.record_text.specs.declared.item_line.ItemLine.{ItemLine}
use Rattle.record_text.specs.declared.item_line.PlacedReply.{PlacedReply}
use Rattle.record_text.specs.declared.item_line.PlacedReply.TheVariants.{Done, Absent, Valued, Truth, Number}
use Rattle.record_text.specs.declared.item_line.Said.{Said}
use Rattle.record_text.specs.declared.item_line.Said.TheVariants.{Call, Begin, Next, Entered}
use Rattle.record_text.specs.declared.item_line.Whole.{Whole}
use Rattle.record_text.specs.declared.item_line.Whole.TheVariants.{Natural, Below}
use Rattle.record_text.specs.AnswerWords.{answer_word, truth_word}
use Rattle.record_text.specs.Cuts.{is_equals, NoneBehind}
use Rattle.record_text.specs.EventWords.{event_word}
use Rattle.record_text.specs.ItemLines.{index_word, is_index, is_item, is_named, is_place, is_reply, is_said, is_shown, item_words, object_word, reply_words, said_word, said_words, shown_word, IsItemLine}
use Rattle.record_text.specs.Journals.{named_in, number_named}
use Rattle.record_text.specs.Numbers.{front_word, has_64_bits, is_front, is_whole, whole_word}
use Rattle.record_text.proofs.Decimals.{both, digits, small}
use Rattle.record_text.proofs.Fronts.{commas, parts_are}
use Rattle.record_text.proofs.PairLemmas.{AreNumbered, at, drop_name, is_pair, last_is, mark_at, no_mark, parts_of, take_name, with_equals}
use Rattle.record_text.proofs.SaidLemmas.{begin_no_call, begin_no_event, begin_no_next, call_no_begin, call_no_event, call_no_next, entry_fits, event_no_begin, event_no_call, event_no_next, found_so, fourth, front_at, head, next_no_begin, next_no_call, next_no_event, tail, two_behind}
use Rattle.record_text.proofs.SameWords.{same_answer, same_event, same_whole}

pub same_some : {X : Type 0} (x y : X) → Some x ≡ Some y → x ≡ y
same_some x y e = cc

pub unequal : (a b : List ℕ) → (a ≡ b → ⊥) → bytes_eq a b ≡ false
unequal a b other = by (bytes_eq a b) (bytes_eq-Decides a b).0 where
  by : (t : Bool) → (t ≡ true → a ≡ b) → t ≡ false
  by true is = absurd (other (is refl))
  by false is = refl

-- ---- replies

-- a word that begins with neither a digit nor a `-` is that of no number
no_digits : (n byte : ℕ) (bytes : List ℕ) → n < 2 ^ 64 → (nat_le 48 byte && nat_le byte 57) ≡ false → decimal n ≡ byte ∷ bytes → ⊥
no_digits n byte bytes low letter e = false≢true (sym letter ∙ (both (nat_le 48 byte && nat_le byte 57) (all_ascii_digits bytes) (subst (λ (w : List ℕ). all_ascii_digits w ≡ true) e (digits n low))).0)

no_number : (w : Whole) (byte : ℕ) (bytes : List ℕ) → is_whole w ≡ true → (nat_le 48 byte && nat_le byte 57) ≡ false → (byte ≡ 45 → ⊥) → whole_word w ≡ byte ∷ bytes → ⊥
no_number (Natural n) byte bytes fits letter dash e = no_digits n byte bytes (small n fits) letter e
no_number (Below n) byte bytes fits letter dash e = dash (first 45 byte (decimal n) bytes e) where
  first : (a b : ℕ) (xs ys : List ℕ) → a ∷ xs ≡ b ∷ ys → b ≡ a
  first a b xs ys e = cc

-- the reply that one word says, of which the last is that of a number
one_word : Bool → Bool → Bool → PlacedReply → PlacedReply
one_word true t f n = Done
one_word false true f n = Truth true
one_word false false true n = Truth false
one_word false false false n = n

alone : List ℕ → PlacedReply → PlacedReply
alone word n = one_word (bytes_eq word (codes "ok")) (bytes_eq word (codes "true")) (bytes_eq word (codes "false")) n

number_alone : (w : Whole) → is_whole w ≡ true → (n : PlacedReply) → alone (whole_word w) n ≡ n
unfolding alone one_word
number_alone w fits n =
    ap (λ a. one_word a (bytes_eq (whole_word w) (codes "true")) (bytes_eq (whole_word w) (codes "false")) n) (unequal (whole_word w) (codes "ok") (λ e. no_number w 111 _ fits refl (λ same. absurd cc) e))
    ∙ ap (λ b. one_word false b (bytes_eq (whole_word w) (codes "false")) n) (unequal (whole_word w) (codes "true") (λ e. no_number w 116 _ fits refl (λ same. absurd cc) e))
    ∙ ap (λ c. one_word false false c n) (unequal (whole_word w) (codes "false") (λ e. no_number w 102 _ fits refl (λ same. absurd cc) e))

one : (x y : List ℕ) → x ∷ [] ≡ y ∷ [] → x ≡ y
one x y e = cc

two : (a b x y : List ℕ) → a ∷ b ∷ [] ≡ x ∷ y ∷ [] → (a ≡ x) × (b ≡ y)
two a b x y e = (cc, cc)

truth_of : List ℕ → Bool
truth_of word = bytes_eq word (codes "true")

truth_back : (b : Bool) → truth_of (truth_word b) ≡ b
unfolding truth_of
truth_back true = refl
truth_back false = refl

pub same_truth : (b c : Bool) → truth_word b ≡ truth_word c → b ≡ c
same_truth b c e = sym (truth_back b) ∙ ap truth_of e ∙ truth_back c

done_alone : (n : PlacedReply) → alone (codes "ok") n ≡ Done
unfolding alone one_word
done_alone n = refl

truth_alone : (b : Bool) (n : PlacedReply) → alone (truth_word b) n ≡ Truth b
unfolding alone one_word
truth_alone true n = refl
truth_alone false n = refl

no_dash : (n : ℕ) (second other : List ℕ) → has_64_bits n ≡ true → codes "-" ∷ second ∷ [] ≡ decimal n ∷ other ∷ [] → ⊥
no_dash n second other fits e = no_digits n 45 [] (small n fits) refl (sym (two (codes "-") second (decimal n) other e).0)

pub same_reply : (r s : PlacedReply) → is_reply r ≡ true → is_reply s ≡ true → reply_words r ≡ reply_words s → r ≡ s
same_reply Done Done fits other e = refl
same_reply Done Absent fits other e = absurd cc
same_reply Done (Valued v b) fits other e = absurd cc
same_reply Done (Truth b) fits other e = sym (done_alone Done) ∙ ap (λ w. alone w Done) (one (codes "ok") (truth_word b) e) ∙ truth_alone b Done
same_reply Done (Number n) fits other e = sym (done_alone (Number n)) ∙ ap (λ w. alone w (Number n)) (one (codes "ok") (whole_word n) e) ∙ number_alone n other (Number n)
same_reply Absent Done fits other e = absurd cc
same_reply Absent Absent fits other e = refl
same_reply Absent (Valued v b) fits other e = absurd (no_dash v (codes "false") (truth_word b) other e)
same_reply Absent (Truth b) fits other e = absurd cc
same_reply Absent (Number n) fits other e = absurd cc
same_reply (Valued v b) Done fits other e = absurd cc
same_reply (Valued v b) Absent fits other e = absurd (no_dash v (codes "false") (truth_word b) fits (sym e))
same_reply (Valued v b) (Valued w c) fits other e =
    let words = two (decimal v) (truth_word b) (decimal w) (truth_word c) e in
    ap (λ (n : ℕ). Valued n b) (decimal_injective v w (small v fits) (small w other) words.0) ∙ ap (λ t. Valued w t) (same_truth b c words.1)
same_reply (Valued v b) (Truth c) fits other e = absurd cc
same_reply (Valued v b) (Number n) fits other e = absurd cc
same_reply (Truth b) Done fits other e = sym (truth_alone b Done) ∙ ap (λ w. alone w Done) (one (truth_word b) (codes "ok") e) ∙ done_alone Done
same_reply (Truth b) Absent fits other e = absurd cc
same_reply (Truth b) (Valued w c) fits other e = absurd cc
same_reply (Truth b) (Truth c) fits other e = ap (λ t. Truth t) (same_truth b c (one (truth_word b) (truth_word c) e))
same_reply (Truth b) (Number n) fits other e = sym (truth_alone b (Number n)) ∙ ap (λ w. alone w (Number n)) (one (truth_word b) (whole_word n) e) ∙ number_alone n other (Number n)
same_reply (Number n) Done fits other e = sym (number_alone n fits (Number n)) ∙ ap (λ w. alone w (Number n)) (one (whole_word n) (codes "ok") e) ∙ done_alone (Number n)
same_reply (Number n) Absent fits other e = absurd cc
same_reply (Number n) (Valued w c) fits other e = absurd cc
same_reply (Number n) (Truth b) fits other e = sym (number_alone n fits (Number n)) ∙ ap (λ w. alone w (Number n)) (one (whole_word n) (truth_word b) e) ∙ truth_alone b (Number n)
same_reply (Number n) (Number m) fits other e = ap (λ w. Number w) (same_whole n m fits other (one (whole_word n) (whole_word m) e))

-- ---- places in a script, and what cursors show

place_below : (n calls : ℕ) → calls < 2 ^ 64 → nat_lt n calls ≡ true → n < 2 ^ 64
place_below n calls few h = let less = ltb-true n calls h in omega (arith, less, few)

pub same_index : (calls : ℕ) (i j : Option ℕ) → calls < 2 ^ 64 → is_index calls i ≡ true → is_index calls j ≡ true → index_word i ≡ index_word j → i ≡ j
same_index calls None None few fits other e = refl
same_index calls None (Some n) few fits other e = absurd (no_digits n 45 [] (place_below n calls few other) refl (sym e))
same_index calls (Some n) None few fits other e = absurd (no_digits n 45 [] (place_below n calls few fits) refl e)
same_index calls (Some n) (Some m) few fits other e = ap (λ (k : ℕ). Some k) (decimal_injective n m (place_below n calls few fits) (place_below m calls few other) e)

-- a `-` has no `=`
no_equals : (k : ℕ) → is_equals (codes "-") k ≡ true → ⊥
no_equals zero is = false≢true is
no_equals (suc k) is = false≢true is

no_pair : (keys : List (List ℕ)) (p : ℕ × ℕ) → codes "-" ≡ pair_text keys p → ⊥
no_pair keys p e = no_equals (length (key_name keys p.0)) (subst (λ (w : List ℕ). is_equals w (length (key_name keys p.0)) ≡ true) (sym e) (mark_at (key_name keys p.0) (decimal p.1)))

-- behind the name's mark there are digits alone
mark_is_last : (name ds : List ℕ) → all_ascii_digits ds ≡ true → NoneBehind (with_equals name ds) (length name)
mark_is_last [] ds h (suc k) behind within is = no_mark ds k h is
mark_is_last [] ds h zero behind within is = absurd (omega (arith, behind))
mark_is_last (x ∷ xs) ds h zero behind within is = absurd (omega (arith, behind))
mark_is_last (x ∷ xs) ds h (suc k) behind within is = mark_is_last xs ds h k (omega (arith, behind)) (omega (arith, within)) is

same_name : (keys : List (List ℕ)) (p q : ℕ × ℕ) → is_pair keys p ≡ true → is_pair keys q ≡ true → pair_text keys p ≡ pair_text keys q → length (key_name keys p.0) ≡ length (key_name keys q.0)
same_name keys p q fits other e =
    let name = key_name keys p.0 in
    let ds = digits p.1 (small p.1 (parts_of keys p fits).1) in
    last_is (key_name keys q.0) (decimal q.1) (length name) (digits q.1 (small q.1 (parts_of keys q other).1)) (subst (λ (w : List ℕ). is_equals w (length name) ≡ true) e (mark_at name (decimal p.1)))
    (subst (λ (w : List ℕ). NoneBehind w (length name)) e (mark_is_last name (decimal p.1) ds))

pub same_pair : (keys : List (List ℕ)) (p q : ℕ × ℕ) → AreNumbered keys → is_pair keys p ≡ true → is_pair keys q ≡ true → pair_text keys p ≡ pair_text keys q → p ≡ q
same_pair keys (k, v) (l, w) numbered fits other e =
    let end = same_name keys (k, v) (l, w) fits other e in
    let name : key_name keys k ≡ key_name keys l =
    sym (take_name (key_name keys k) (decimal v)) ∙ ap (take (length (key_name keys k))) e ∙ ap (λ (n : ℕ). take n (pair_text keys (l, w))) end ∙ take_name (key_name keys l) (decimal w) in
    let value : decimal v ≡ decimal w =
    sym (drop_name (key_name keys k) (decimal v)) ∙ ap (drop (suc (length (key_name keys k)))) e ∙ ap (λ (n : ℕ). drop (suc n) (pair_text keys (l, w))) end ∙ drop_name (key_name keys l) (decimal w) in
    let here = parts_of keys (k, v) fits in
    let there = parts_of keys (l, w) other in
    let key : k ≡ l = same_some k l (sym ((numbered (key_name keys k) k).1 (at keys k here.0)) ∙ ap (number_in keys) name ∙ (numbered (key_name keys l) l).1 (at keys l there.0)) in
    ap (λ (n : ℕ). (n, v)) key ∙ ap (λ (n : ℕ). (l, n)) (decimal_injective v w (small v here.1) (small w there.1) value)

pub same_shown : (keys : List (List ℕ)) (s t : Option (ℕ × ℕ)) → AreNumbered keys → is_shown keys s ≡ true → is_shown keys t ≡ true → shown_word keys s ≡ shown_word keys t → s ≡ t
same_shown keys None None numbered fits other e = refl
same_shown keys None (Some q) numbered fits other e = absurd (no_pair keys q e)
same_shown keys (Some p) None numbered fits other e = absurd (no_pair keys p (sym e))
same_shown keys (Some p) (Some q) numbered fits other e = ap (λ (r : ℕ × ℕ). Some r) (same_pair keys p q numbered fits other e)

-- ---- fronts

same_counts : (xs ys : List ℕ) → list_all has_64_bits xs ≡ true → list_all has_64_bits ys ≡ true → map decimal xs ≡ map decimal ys → xs ≡ ys
same_counts [] [] fits other e = refl
same_counts [] (y ∷ ys) fits other e = absurd cc
same_counts (x ∷ xs) [] fits other e = absurd cc
same_counts (x ∷ xs) (y ∷ ys) fits other e =
    let here = both (has_64_bits x) (list_all has_64_bits xs) fits in
    let there = both (has_64_bits y) (list_all has_64_bits ys) other in
    ap (λ (n : ℕ). n ∷ xs) (decimal_injective x y (small x here.0) (small y there.0) (head (decimal x) (decimal y) _ _ e)) ∙ ap (λ zs. y ∷ zs) (same_counts xs ys here.1 there.1 (tail (decimal x) (decimal y) _ _ e))

pub same_front : (workers : ℕ) (front other : List ℕ) → 0 < workers → is_front workers front ≡ true → is_front workers other ≡ true → front_word front ≡ front_word other → front ≡ other
same_front workers front other some fits fit e =
    same_counts front other (both _ (list_all has_64_bits front) fits).1 (both _ (list_all has_64_bits other) fit).1
    (sym (parts_are workers (front_word front) front some fits refl) ∙ ap commas e ∙ parts_are workers (front_word other) other some fit refl)

-- ---- what is said

same_object : (plan : Plan) (o p : ℕ) → is_named plan o ≡ true → is_named plan p ≡ true → object_word plan o ≡ object_word plan p → o ≡ p
same_object plan o p fits other e =
    same_some o p (sym (found_so (number_named (named_in plan) (object_word plan o)) o fits) ∙ ap (number_named (named_in plan)) e ∙ found_so (number_named (named_in plan) (object_word plan p)) p other)

third : (a b c x y z : List ℕ) (xs ys : List (List ℕ)) → a ∷ b ∷ c ∷ xs ≡ x ∷ y ∷ z ∷ ys → (a ≡ x) × (b ≡ y) × (c ≡ z)
third a b c x y z xs ys e = (cc, cc, cc)

pub same_said : (plan : Plan) (front face : List ℕ) (s t : Said) → plan.workers ≤ 32 → AreNumbered (keys_in plan.scripts) → is_said plan s ≡ true → is_said plan t ≡ true → said_word s ≡ said_word t → said_words plan front s ≡ said_words plan face t → s ≡ t
same_said plan front face (Call place reply) (Call p r) few numbered fits other is e =
    let here = both (has_64_bits place) (is_reply reply) fits in
    let there = both (has_64_bits p) (is_reply r) other in
    ap (λ (n : ℕ). Call n reply) (decimal_injective place p (small place here.0) (small p there.0) (head (decimal place) (decimal p) _ _ e)) ∙ ap (λ x. Call p x) (same_reply reply r here.1 there.1 (two_behind (decimal place) front (decimal p) face _ _ e))
same_said plan front face (Begin reach) (Begin r) few numbered fits other is e = ap (λ (n : ℕ). Begin n) (decimal_injective reach r (small reach fits) (small r other) (head (decimal reach) (decimal r) _ _ e))
same_said plan front face (Next reach shown) (Next r s) few numbered fits other is e =
    let here = both (has_64_bits reach) (is_shown (keys_in plan.scripts) shown) fits in
    let there = both (has_64_bits r) (is_shown (keys_in plan.scripts) s) other in
    ap (λ (n : ℕ). Next n shown) (decimal_injective reach r (small reach here.0) (small r there.0) (head (decimal reach) (decimal r) _ _ e))
    ∙ ap (λ x. Next r x) (same_shown (keys_in plan.scripts) shown s numbered here.1 there.1 (third (decimal reach) front _ (decimal r) face _ [] [] e).2)
same_said plan front face (Entered object number event answer) (Entered o n v a) few numbered fits other is e =
    let here = entry_fits plan object number event answer fits in
    let there = entry_fits plan o n v a other in
    let words = fourth (object_word plan object) (decimal number) front (event_word event) (answer_word answer) (object_word plan o) (decimal n) face (event_word v) (answer_word a) e in
    let second = (third (object_word plan object) (decimal number) front (object_word plan o) (decimal n) face _ _ e).1 in
    ap (λ (k : ℕ). Entered k number event answer) (same_object plan object o here.named_so there.named_so words.0)
    ∙ ap (λ (k : ℕ). Entered o k event answer) (decimal_injective number n (small number here.number_fits) (small n there.number_fits) second)
    ∙ ap (λ (x : EventWord). Entered o n x answer) (same_event plan.workers few event v here.event_fits there.event_fits words.1)
    ∙ ap (λ (x : AnswerWord). Entered o n v x) (same_answer plan.workers few answer a here.answer_fits there.answer_fits words.2)
same_said plan front face (Call place reply) (Begin r) few numbered fits other is e = absurd (call_no_begin is)
same_said plan front face (Call place reply) (Next r s) few numbered fits other is e = absurd (call_no_next is)
same_said plan front face (Call place reply) (Entered o n v a) few numbered fits other is e = absurd (call_no_event is)
same_said plan front face (Begin reach) (Call p r) few numbered fits other is e = absurd (begin_no_call is)
same_said plan front face (Begin reach) (Next r s) few numbered fits other is e = absurd (begin_no_next is)
same_said plan front face (Begin reach) (Entered o n v a) few numbered fits other is e = absurd (begin_no_event is)
same_said plan front face (Next reach shown) (Call p r) few numbered fits other is e = absurd (next_no_call is)
same_said plan front face (Next reach shown) (Begin r) few numbered fits other is e = absurd (next_no_begin is)
same_said plan front face (Next reach shown) (Entered o n v a) few numbered fits other is e = absurd (next_no_event is)
same_said plan front face (Entered object number event answer) (Call p r) few numbered fits other is e = absurd (event_no_call is)
same_said plan front face (Entered object number event answer) (Begin r) few numbered fits other is e = absurd (event_no_begin is)
same_said plan front face (Entered object number event answer) (Next r s) few numbered fits other is e = absurd (event_no_next is)

-- ---- the item

-- what the words of lines need of a workload
pub record IsPlain (plan : Plan) : Type 0 where
  pub some : 0 < plan.workers
  pub few : plan.workers ≤ 32
  pub short : (worker : ℕ) → length (get_or plan.scripts worker []) < 2 ^ 64
  pub keys : AreNumbered (keys_in plan.scripts)

worker_below : (n workers : ℕ) → workers ≤ 32 → nat_lt n workers ≡ true → n < 2 ^ 64
worker_below n workers few h = let less = ltb-true n workers h in omega (arith, less, few)

same_parts : (item other : ItemLine) → item.worker ≡ other.worker → item.index ≡ other.index → item.front ≡ other.front → item.said ≡ other.said → item ≡ other
same_parts item other worker index front said =
    ap (λ (w : ℕ). record { worker = w; index = item.index; front = item.front; said = item.said }) worker
    ∙ ap (λ (i : Option ℕ). record { worker = other.worker; index = i; front = item.front; said = item.said }) index
    ∙ ap (λ (f : List ℕ). record { worker = other.worker; index = other.index; front = f; said = item.said }) front
    ∙ ap (λ (s : Said). record { worker = other.worker; index = other.index; front = other.front; said = s }) said

pub same_words : (plan : Plan) (item other : ItemLine) → IsPlain plan → is_item plan item ≡ true → is_item plan other ≡ true → item_words plan item ≡ item_words plan other → item ≡ other
same_words plan item other plain fits fit e =
    let here = both (is_place plan item.worker item.index) (is_front plan.workers item.front && is_said plan item.said) fits in
    let there = both (is_place plan other.worker other.index) (is_front plan.workers other.front && is_said plan other.said) fit in
    let at_here = both (nat_lt item.worker plan.workers) (is_index (length (get_or plan.scripts item.worker [])) item.index) here.0 in
    let at_there = both (nat_lt other.worker plan.workers) (is_index (length (get_or plan.scripts other.worker [])) other.index) there.0 in
    let in_here = both (is_front plan.workers item.front) (is_said plan item.said) here.1 in
    let in_there = both (is_front plan.workers other.front) (is_said plan other.said) there.1 in
    let words = third (said_word item.said) (decimal item.worker) (index_word item.index) (said_word other.said) (decimal other.worker) (index_word other.index) _ _ e in
    let behind = two_behind (decimal item.worker) (index_word item.index) (decimal other.worker) (index_word other.index) (said_words plan (front_word item.front) item.said) (said_words plan (front_word other.front) other.said)
    (tail (said_word item.said) (said_word other.said) _ _ e) in
    let worker = decimal_injective item.worker other.worker (worker_below item.worker plan.workers plain.few at_here.0) (worker_below other.worker plan.workers plain.few at_there.0) words.1 in
    same_parts item other worker
    (same_index (length (get_or plan.scripts item.worker [])) item.index other.index (plain.short item.worker) at_here.1 (subst (λ (w : ℕ). is_index (length (get_or plan.scripts w [])) other.index ≡ true) (sym worker) at_there.1) words.2)
    (same_front plan.workers item.front other.front plain.some in_here.0 in_there.0 (front_at plan (front_word item.front) item.said (front_word other.front) other.said words.0 behind))
    (same_said plan (front_word item.front) (front_word other.front) item.said other.said plain.few plain.keys in_here.1 in_there.1 words.0 behind)

pub same_item : (plan : Plan) (line : List ℕ) (item other : ItemLine) → IsPlain plan → IsItemLine plan line item → IsItemLine plan line other → item ≡ other
same_item plan line item other plain is also = same_words plan item other plain is.fits also.fits (is.words ∙ sym also.words)
