-- What a report tells: the replies, line by line, and the ends behind them.
use Rattle.std.proofs.Common.{◌≡◌, ◌∙◌, ℕ, suc, ◌+◌, ◌^◌, ◌<◌, ◌≤◌, Bool, true, false, ◌&&◌, List, [], ◌∷◌, ◌++◌, length, Option, Some, None, inl, inr, refl, sym, ap, subst, arith}
use Rattle.std.specs.Prelude.{◌⊎◌, codes, drop, is_some, slice_get}
use Rattle.std.specs.Fmt.{decimal}
use Rattle.std.specs.List.{list_all}
use Rattle.std.proofs.lemmas.Bool.{and_parts, and_from, ltb-true}
use Rattle.std.proofs.lemmas.Fmt.{decimal_injective}
use Rattle.std.proofs.lemmas.List.{append_assoc, append_cancel_left}
use Rattle.script_calls.specs.Outcome.{left_by}
use Rattle.script_calls.specs.Replies.{is_reply_to}
use Rattle.script_calls.specs.Runs.{made_of, passed_over}
use Rattle.script_calls.specs.declared.call.Call.{Call}
use Rattle.script_calls.specs.declared.call.Reply.{Reply}
use Rattle.script_calls.specs.declared.outcome.Report.{Report}
use Rattle.sync_types.specs.declared.atomic_object.Number.{Number}
use Rattle.sync_types.specs.declared.end.End.{End}
use Rattle.sync_types.specs.declared.end.End.TheVariants as ends
use Rattle.workload.specs.Canonical.{behind_spaces, name_of}
use Rattle.workload.specs.Keys.{keys_in, key_name}
use Rattle.workload.specs.NumberWords.{number_word}
use Rattle.workload.specs.Plan.{Plan}
use Rattle.workload.specs.Readable.{IsReadable}
use Rattle.workload.specs.declared.object.ObjectLine.{ObjectLine}
use Rattle.workload_text.specs.ReportLines.{call_words, completed_line, end_line, reply_text, truth_text}
use Rattle.run_report.specs.ReportText.{calls_text, ends_text, outcome_ends, workers_text}
use Rattle.workload.specs.Forms.{have_forms, all_have_forms}
use Rattle.sync_types.specs.Name.{is_name_byte}
use Rattle.run_report.specs.Told.{has_64_bits, is_end, is_in_range, is_key, is_number_at, ReportTellsWhatIsLeft}
use Rattle.run_report.proofs.Lines.{scripts_are}
use Rattle.run_report.proofs.TextCuts.{lacks, cut, decimal_lacks, name_lacks, words_apart, words_lack, first_lacks}
use Rattle.run_report.proofs.ReplyTexts.{AreKeys, no_feed, no_space, number_apart, number_lacks, number_word_lacks, reply_apart, reply_lacks, truth_lacks, type_at}
use Rattle.run_report.proofs.ReportNames.{AreObjects, IsNumbered, keys_are, objects_are}

not_empty : (a : List ℕ) (x : ℕ) (t : List ℕ) → a ++ x ∷ t ≡ [] → ⊥
not_empty [] x t e = cc
not_empty (c ∷ a) x t e = cc

pub first_differs : (a : List ℕ) (x y : ℕ) (s t : List ℕ) → lacks y a ≡ true → (x ≡ y → ⊥) → a ++ x ∷ s ≡ y ∷ t → ⊥
first_differs [] x y s t l differ e = differ (head e)
  where
    head : x ∷ s ≡ y ∷ t → x ≡ y
    head e = cc
first_differs (c ∷ a) x y s t l differ e = first_lacks y c a l (head e)
  where
    head : c ∷ (a ++ x ∷ s) ≡ y ∷ t → c ≡ y
    head e = cc

-- a text that begins with the number of a worker from one on
record LineBehind (worker : ℕ) (text : List ℕ) : Type 0 where
  other : ℕ
  tail : List ℕ
  later : worker ≤ other
  small : other < 2 ^ 64
  is : text ≡ decimal other ++ 46 ∷ tail

-- a text that begins with the lines of ends
record EndBehind (text : List ℕ) : Type 0 where
  tail : List ℕ
  is : text ≡ 101 ∷ tail

-- no text begins with the line of a worker before this one
abbrev Behind : ℕ → List ℕ → Type 0
Behind worker text = (text ≡ []) ⊎ (LineBehind worker text ⊎ EndBehind text)

abbrev Last : List ℕ → Type 0
Last text = (text ≡ []) ⊎ EndBehind text

pub no_e : (digit : ℕ) → 48 ≤ digit → digit ≤ 57 → digit ≡ 101 → ⊥
no_e digit lo hi e = omega arith

pub no_dot : (digit : ℕ) → 48 ≤ digit → digit ≤ 57 → digit ≡ 46 → ⊥
no_dot digit lo hi e = omega arith

pub dot_e : ◌≡◌ {A = ℕ} 46 101 → ⊥
dot_e e = omega arith

no_line : (worker : ℕ) (tail text : List ℕ) → worker < 2 ^ 64 → Behind (suc worker) text → decimal worker ++ 46 ∷ tail ≡ text → ⊥
no_line worker tail text small (inl none) e = not_empty (decimal worker) 46 tail (e ∙ none)
no_line worker tail text small (inr (inl line)) e =
    let same = cut 46 (decimal worker) (decimal line.other) tail line.tail (decimal_lacks 46 no_dot worker small) (decimal_lacks 46 no_dot line.other line.small) (e ∙ line.is) in
    let number : worker ≡ line.other = decimal_injective worker line.other small line.small same.0 in
    omega (arith, number, line.later)
no_line worker tail text small (inr (inr end)) e =
    first_differs (decimal worker) 46 101 tail end.tail (decimal_lacks 101 no_e worker small) dot_e (e ∙ end.is)

behind_from : (worker : ℕ) (text : List ℕ) → Last text → Behind worker text
behind_from worker text (inl none) = inl none
behind_from worker text (inr end) = inr (inr end)

line_split : (p a x : List ℕ) → ((p ++ a) ++ codes "\n") ++ x ≡ p ++ (a ++ 10 ∷ x)
line_split p a x = append_assoc (p ++ a) (codes "\n") x ∙ append_assoc p a (10 ∷ x)

pub line_front : (d b c e f g x : List ℕ) → ((((((d ++ codes ".") ++ b) ++ c) ++ e) ++ f) ++ g) ++ x ≡ d ++ 46 ∷ (b ++ (c ++ (e ++ (f ++ (g ++ x)))))
line_front d b c e f g x =
    append_assoc (((((d ++ codes ".") ++ b) ++ c) ++ e) ++ f) g x
    ∙ append_assoc ((((d ++ codes ".") ++ b) ++ c) ++ e) f (g ++ x)
    ∙ append_assoc (((d ++ codes ".") ++ b) ++ c) e (f ++ (g ++ x))
    ∙ append_assoc ((d ++ codes ".") ++ b) c (e ++ (f ++ (g ++ x)))
    ∙ append_assoc (d ++ codes ".") b (c ++ (e ++ (f ++ (g ++ x))))
    ∙ append_assoc d (codes ".") (b ++ (c ++ (e ++ (f ++ (g ++ x)))))

nothing : {X : Type 0} (k : ℕ) (x : X) → slice_get {X = X} [] k ≡ Some x → ⊥
nothing k x e = cc

module _ (plan : Plan) (are : AreKeys (keys_in plan.scripts)) (objects : AreObjects plan.objects) where
  abbrev keys : List (List ℕ)
  keys = keys_in plan.scripts

  -- what stands behind the worker's number and its dot
  abbrev line_tail : ℕ → Call → Reply ℕ → List ℕ → List ℕ
  line_tail index call reply x = decimal index ++ (behind_spaces (call_words plan.objects call) ++ (codes " -> " ++ (reply_text keys reply ++ (codes "\n" ++ x))))

  line_is : (worker index : ℕ) (call : Call) (reply : Reply ℕ) (x : List ℕ) → completed_line plan worker index call reply ++ x ≡ decimal worker ++ 46 ∷ line_tail index call reply x
  line_is worker index call reply x = line_front (decimal worker) (decimal index) (behind_spaces (call_words plan.objects call)) (codes " -> ") (reply_text keys reply) (codes "\n") x

  abbrev before_reply : ℕ → ℕ → Call → List ℕ
  before_reply worker index call = (((decimal worker ++ codes ".") ++ decimal index) ++ behind_spaces (call_words plan.objects call)) ++ codes " -> "

  line_apart : (worker index : ℕ) (call : Call) (a b : Reply ℕ) (x y : List ℕ) → is_reply_to call.operation a ≡ true → is_reply_to call.operation b ≡ true → is_in_range plan call a ≡ true → is_in_range plan call b ≡ true
      → completed_line plan worker index call a ++ x ≡ completed_line plan worker index call b ++ y → (a ≡ b) × (x ≡ y)
  line_apart worker index call a b x y fa fb ha hb e =
      let p : List ℕ = before_reply worker index call in
      let parts = cut 10 (reply_text keys a) (reply_text keys b) x y (reply_lacks plan are call a ha) (reply_lacks plan are call b hb)
      (append_cancel_left p (reply_text keys a ++ 10 ∷ x) (reply_text keys b ++ 10 ∷ y) (sym (line_split p (reply_text keys a) x) ∙ e ∙ line_split p (reply_text keys b) y)) in
      (reply_apart plan are call a b fa fb ha hb parts.0, parts.1)

  -- the replies to the calls that were made are in range
  abbrev InRange : List Call → List (Reply ℕ) → Type 0
  InRange calls replies = (number : ℕ) (call : Call) (reply : Reply ℕ) → slice_get calls number ≡ Some call → slice_get replies number ≡ Some reply → is_in_range plan call reply ≡ true

  -- the text behind the line of a completed call
  abbrev behind_call : ℕ → ℕ → Call → List Call → Reply ℕ → List (Reply ℕ) → List ℕ
  behind_call worker place call script reply replies = calls_text plan worker (place + 1 + passed_over call reply) (drop (passed_over call reply) script) replies

  calls_apart : (worker place : ℕ) → worker < 2 ^ 64 → (script : List Call) (ones others : List (Reply ℕ)) (x y : List ℕ) → have_forms (made_of script ones) ones ≡ true → have_forms (made_of script others) others ≡ true
      → InRange (made_of script ones) ones → InRange (made_of script others) others
      → Behind (suc worker) x → Behind (suc worker) y → calls_text plan worker place script ones ++ x ≡ calls_text plan worker place script others ++ y → (ones ≡ others) × (x ≡ y)
  calls_apart worker place small script [] [] x y fa fb ha hb bx by e = (refl, e)
  calls_apart worker place small [] [] (b ∷ others) x y fa fb ha hb bx by e = absurd cc
  calls_apart worker place small [] (a ∷ ones) others x y fa fb ha hb bx by e = absurd cc
  calls_apart worker place small (call ∷ script) [] (b ∷ others) x y fa fb ha hb bx by e =
      let rest : List ℕ = behind_call worker place call script b others in
      absurd (no_line worker (line_tail place call b (rest ++ y)) x small bx (sym (e ∙ append_assoc (completed_line plan worker place call b) rest y ∙ line_is worker place call b (rest ++ y))))
  calls_apart worker place small (call ∷ script) (a ∷ ones) [] x y fa fb ha hb bx by e =
      let rest : List ℕ = behind_call worker place call script a ones in
      absurd (no_line worker (line_tail place call a (rest ++ x)) y small by (sym (append_assoc (completed_line plan worker place call a) rest x ∙ line_is worker place call a (rest ++ x)) ∙ e))
  calls_apart worker place small (call ∷ script) (a ∷ ones) (b ∷ others) x y fa fb ha hb bx by e =
      let a_forms = and_parts (is_reply_to call.operation a) (have_forms (made_of (drop (passed_over call a) script) ones) ones) fa in
      let b_forms = and_parts (is_reply_to call.operation b) (have_forms (made_of (drop (passed_over call b) script) others) others) fb in
      let a_rest : List ℕ = behind_call worker place call script a ones in
      let b_rest : List ℕ = behind_call worker place call script b others in
      let first = line_apart worker place call a b (a_rest ++ x) (b_rest ++ y) a_forms.0 b_forms.0 (ha 0 call a refl refl) (hb 0 call b refl refl)
      (sym (append_assoc (completed_line plan worker place call a) a_rest x) ∙ e ∙ append_assoc (completed_line plan worker place call b) b_rest y) in
      let same : passed_over call b ≡ passed_over call a = ap (passed_over call) (sym first.0) in
      let later = calls_apart worker (place + 1 + passed_over call a) small (drop (passed_over call a) script) ones others x y a_forms.1
      (subst (λ (n : ℕ). have_forms (made_of (drop n script) others) others ≡ true) same b_forms.1)
      (λ i c r. ha (suc i) c r)
      (subst (λ (n : ℕ). InRange (made_of (drop n script) others) others) same (λ i c r. hb (suc i) c r))
      bx by
      (first.1 ∙ ap (λ (n : ℕ). calls_text plan worker (place + 1 + n) (drop n script) others ++ y) same) in
      (ap (λ (r : Reply ℕ). r ∷ ones) first.0 ∙ ap (λ (rs : List (Reply ℕ)). b ∷ rs) later.0, later.1)

  calls_behind : (worker other place : ℕ) → worker ≤ other → other < 2 ^ 64 → (script : List Call) (replies : List (Reply ℕ)) (x : List ℕ) → Behind worker x → Behind worker (calls_text plan other place script replies ++ x)
  calls_behind worker other place le small script [] x b = b
  calls_behind worker other place le small [] (reply ∷ replies) x b = b
  calls_behind worker other place le small (call ∷ script) (reply ∷ replies) x b =
      let rest : List ℕ = behind_call other place call script reply replies in
      inr (inl (record {
        other = other;
        tail = line_tail place call reply (rest ++ x);
        later = le;
        small = small;
        is = append_assoc (completed_line plan other place call reply) rest x ∙ line_is other place call reply (rest ++ x);
      }))

  workers_behind : (worker other : ℕ) (scripts : List (List Call)) → worker ≤ other → other + length scripts < 2 ^ 64 → (replies : List (List (Reply ℕ))) (x : List ℕ) → Last x → Behind worker (workers_text plan other scripts replies ++ x)
  workers_behind worker other [] le small replies x last = behind_from worker x last
  workers_behind worker other (script ∷ scripts) le small [] x last = behind_from worker x last
  workers_behind worker other (script ∷ scripts) le small (replies ∷ more) x last =
      let rest : List ℕ = workers_text plan (other + 1) scripts more in
      subst (λ (t : List ℕ). Behind worker t) (sym (append_assoc (calls_text plan other 0 script replies) rest x))
      (calls_behind worker other 0 le (omega arith) script replies (rest ++ x) (workers_behind worker (other + 1) scripts (omega arith) (omega arith) more x last))

  -- the replies of all workers are in range
  abbrev AllInRange : List (List Call) → List (List (Reply ℕ)) → Type 0
  AllInRange scripts replies = (worker : ℕ) (script : List Call) (completed : List (Reply ℕ)) → slice_get scripts worker ≡ Some script → slice_get replies worker ≡ Some completed → InRange (made_of script completed) completed

  workers_apart : (worker : ℕ) (scripts : List (List Call)) → worker + length scripts < 2 ^ 64 → (ones others : List (List (Reply ℕ))) (x y : List ℕ) → length ones ≡ length scripts → length others ≡ length scripts
      → all_have_forms scripts ones ≡ true → all_have_forms scripts others ≡ true → AllInRange scripts ones → AllInRange scripts others → Last x → Last y
      → workers_text plan worker scripts ones ++ x ≡ workers_text plan worker scripts others ++ y → (ones ≡ others) × (x ≡ y)
  workers_apart worker [] small [] [] x y la lb fa fb ha hb lx ly e = (refl, e)
  workers_apart worker [] small [] (b ∷ others) x y la lb fa fb ha hb lx ly e = absurd (omega arith)
  workers_apart worker [] small (a ∷ ones) others x y la lb fa fb ha hb lx ly e = absurd (omega arith)
  workers_apart worker (script ∷ scripts) small [] others x y la lb fa fb ha hb lx ly e = absurd (omega arith)
  workers_apart worker (script ∷ scripts) small (a ∷ ones) [] x y la lb fa fb ha hb lx ly e = absurd (omega arith)
  workers_apart worker (script ∷ scripts) small (a ∷ ones) (b ∷ others) x y la lb fa fb ha hb lx ly e =
      let a_forms = and_parts (have_forms (made_of script a) a) (all_have_forms scripts ones) fa in
      let b_forms = and_parts (have_forms (made_of script b) b) (all_have_forms scripts others) fb in
      let a_rest : List ℕ = workers_text plan (worker + 1) scripts ones in
      let b_rest : List ℕ = workers_text plan (worker + 1) scripts others in
      let first = calls_apart worker 0 (omega arith) script a b (a_rest ++ x) (b_rest ++ y) a_forms.0 b_forms.0 (ha 0 script a refl refl) (hb 0 script b refl refl)
      (workers_behind (suc worker) (worker + 1) scripts (omega arith) (omega arith) ones x lx) (workers_behind (suc worker) (worker + 1) scripts (omega arith) (omega arith) others y ly)
      (sym (append_assoc (calls_text plan worker 0 script a) a_rest x) ∙ e ∙ append_assoc (calls_text plan worker 0 script b) b_rest y) in
      let later = workers_apart (worker + 1) scripts (omega arith) ones others x y (omega arith) (omega arith) a_forms.1 b_forms.1 (λ w s c. ha (suc w) s c) (λ w s c. hb (suc w) s c) lx ly first.1 in
      (ap (λ (r : List (Reply ℕ)). r ∷ ones) first.0 ∙ ap (λ (rs : List (List (Reply ℕ))). b ∷ rs) later.0, later.1)

  -- the words of an end's line behind `end`
  abbrev end_words : End → List (List ℕ)
  end_words (ends.Number object number) = name_of (slice_get plan.objects object) ∷ number_word number ∷ []
  end_words (ends.Pair object key value) = name_of (slice_get plan.objects object) ∷ key_name keys key ∷ decimal value ∷ []

  end_is : (end : End) → end_line plan end ≡ (codes "end" ++ behind_spaces (end_words end)) ++ codes "\n"
  end_is (ends.Number object number) = refl
  end_is (ends.Pair object key value) = refl

  there_number : (o : Option ObjectLine) (n : Number) → is_number_at o n ≡ true → (x : ObjectLine) × (o ≡ Some x)
  there_number None n h = absurd cc
  there_number (Some x) n h = (x, refl)

  there_pair : (o : Option ObjectLine) → is_some o ≡ true → (x : ObjectLine) × (o ≡ Some x)
  there_pair None h = absurd cc
  there_pair (Some x) h = (x, refl)

  abbrev pair_parts : (object key value : ℕ) → is_end plan (ends.Pair object key value) ≡ true → (is_some (slice_get plan.objects object) ≡ true) × ((is_key plan key ≡ true) × (has_64_bits value ≡ true))
  pair_parts object key value h =
      let parts = and_parts (is_some (slice_get plan.objects object)) (is_key plan key && has_64_bits value) h in
      (parts.0, and_parts (is_key plan key) (has_64_bits value) parts.1)

  object_lacks : (byte : ℕ) → is_name_byte byte ≡ false → (o : Option ObjectLine) (object : ℕ) (x : ObjectLine) → slice_get plan.objects object ≡ o → o ≡ Some x → lacks byte (name_of o) ≡ true
  object_lacks byte none o object x at is =
      subst (λ (p : Option ObjectLine). lacks byte (name_of p) ≡ true) (sym is) (name_lacks byte none x.name (objects.names object x (at ∙ is)))

  end_lacks : (byte : ℕ) → ((digit : ℕ) → 48 ≤ digit → digit ≤ 57 → digit ≡ byte → ⊥) → (45 ≡ byte → ⊥) → ((a : Bool) → lacks byte (truth_text a) ≡ true) → is_name_byte byte ≡ false
      → (end : End) → is_end plan end ≡ true → list_all (lacks byte) (end_words end) ≡ true
  end_lacks byte none minus truth no_name (ends.Number object number) h =
      let there = there_number (slice_get plan.objects object) number h in
      let typed = type_at (slice_get plan.objects object) in
      and_from (lacks byte (name_of (slice_get plan.objects object))) (lacks byte (number_word number) && true)
      (object_lacks byte no_name (slice_get plan.objects object) object there.0 refl there.1)
      (and_from (lacks byte (number_word number)) true (number_word_lacks byte none minus truth typed.0 number (typed.1 number h)) refl)
  end_lacks byte none minus truth no_name (ends.Pair object key value) h =
      let parts = pair_parts object key value h in
      let there = there_pair (slice_get plan.objects object) parts.0 in
      and_from (lacks byte (name_of (slice_get plan.objects object))) (lacks byte (key_name keys key) && (lacks byte (decimal value) && true))
      (object_lacks byte no_name (slice_get plan.objects object) object there.0 refl there.1)
      (and_from (lacks byte (key_name keys key)) (lacks byte (decimal value) && true)
      (name_lacks byte no_name (key_name keys key) (are.names key (ltb-true key (length keys) parts.1.0)))
      (and_from (lacks byte (decimal value)) true (number_lacks byte none value parts.1.1) refl))

  object_apart : (object other : ℕ) (x y : ObjectLine) → slice_get plan.objects object ≡ Some x → slice_get plan.objects other ≡ Some y → name_of (slice_get plan.objects object) ≡ name_of (slice_get plan.objects other) → object ≡ other
  object_apart object other x y is at e = objects.apart object other x y is at (sym (ap name_of is) ∙ e ∙ ap name_of at)

  first_word : {w v : List ℕ} {ws vs : List (List ℕ)} → w ∷ ws ≡ v ∷ vs → w ≡ v
  first_word e = cc

  later_words : {w v : List ℕ} {ws vs : List (List ℕ)} → w ∷ ws ≡ v ∷ vs → ws ≡ vs
  later_words e = cc

  end_apart : (a b : End) → is_end plan a ≡ true → is_end plan b ≡ true → end_words a ≡ end_words b → a ≡ b
  end_apart (ends.Number object n) (ends.Number other m) ha hb e =
      let there = there_number (slice_get plan.objects object) n ha in
      let also = there_number (slice_get plan.objects other) m hb in
      let same = object_apart object other there.0 also.0 there.1 also.1 (first_word e) in
      let typed = type_at (slice_get plan.objects object) in
      let number : n ≡ m = number_apart typed.0 n m (typed.1 n ha) (typed.1 m (subst (λ (k : ℕ). is_number_at (slice_get plan.objects k) m ≡ true) (sym same) hb)) (first_word (later_words e)) in
      ap (λ (k : ℕ). ends.Number k n) same ∙ ap (λ (k : Number). ends.Number other k) number
  end_apart (ends.Number object n) (ends.Pair other key value) ha hb e = absurd (short (later_words (later_words e)))
    where
      short : [] ≡ decimal value ∷ [] → ⊥
      short e = cc
  end_apart (ends.Pair object key value) (ends.Number other m) ha hb e = absurd (short (later_words (later_words e)))
    where
      short : decimal value ∷ [] ≡ [] → ⊥
      short e = cc
  end_apart (ends.Pair object key value) (ends.Pair other lock held) ha hb e =
      let a_parts = pair_parts object key value ha in
      let b_parts = pair_parts other lock held hb in
      let there = there_pair (slice_get plan.objects object) a_parts.0 in
      let also = there_pair (slice_get plan.objects other) b_parts.0 in
      let same = object_apart object other there.0 also.0 there.1 also.1 (first_word e) in
      let same_key = are.apart key lock (ltb-true key (length keys) a_parts.1.0) (ltb-true lock (length keys) b_parts.1.0) (first_word (later_words e)) in
      let same_value : value ≡ held = decimal_injective value held (ltb-true value (2 ^ 64) a_parts.1.1) (ltb-true held (2 ^ 64) b_parts.1.1) (first_word (later_words (later_words e))) in
      ap (λ (k : ℕ). ends.Pair k key value) same ∙ ap (λ (k : ℕ). ends.Pair other k value) same_key ∙ ap (λ (v : ℕ). ends.Pair other lock v) same_value

  end_split : (end : End) (x : List ℕ) → end_line plan end ++ x ≡ codes "end" ++ (behind_spaces (end_words end) ++ 10 ∷ x)
  end_split end x = ap (λ (t : List ℕ). t ++ x) (end_is end) ∙ line_split (codes "end") (behind_spaces (end_words end)) x

  no_end : (t : List ℕ) → codes "end" ++ t ≡ [] → ⊥
  no_end t e = cc

  feed_words : (end : End) → is_end plan end ≡ true → lacks 10 (behind_spaces (end_words end)) ≡ true
  feed_words end h = words_lack 10 (end_words end) refl (end_lacks 10 no_feed minus_feed (truth_lacks 10 refl refl) refl end h)
    where
      minus_feed : ◌≡◌ {A = ℕ} 45 10 → ⊥
      minus_feed e = omega arith

  space_words : (end : End) → is_end plan end ≡ true → list_all (lacks 32) (end_words end) ≡ true
  space_words end h = end_lacks 32 no_space minus_space (truth_lacks 32 refl refl) refl end h
    where
      minus_space : ◌≡◌ {A = ℕ} 45 32 → ⊥
      minus_space e = omega arith

  ends_apart : (ones others : List End) → list_all (is_end plan) ones ≡ true → list_all (is_end plan) others ≡ true → ends_text plan ones ≡ ends_text plan others → ones ≡ others
  ends_apart [] [] ha hb e = refl
  ends_apart [] (b ∷ others) ha hb e = absurd (no_end (behind_spaces (end_words b) ++ 10 ∷ ends_text plan others) (sym (end_split b (ends_text plan others)) ∙ sym e))
  ends_apart (a ∷ ones) [] ha hb e = absurd (no_end (behind_spaces (end_words a) ++ 10 ∷ ends_text plan ones) (sym (end_split a (ends_text plan ones)) ∙ e))
  ends_apart (a ∷ ones) (b ∷ others) ha hb e =
      let a_parts = and_parts (is_end plan a) (list_all (is_end plan) ones) ha in
      let b_parts = and_parts (is_end plan b) (list_all (is_end plan) others) hb in
      let a_rest : List ℕ = ends_text plan ones in
      let b_rest : List ℕ = ends_text plan others in
      let parts = cut 10 (behind_spaces (end_words a)) (behind_spaces (end_words b)) a_rest b_rest (feed_words a a_parts.0) (feed_words b b_parts.0)
      (append_cancel_left (codes "end") (behind_spaces (end_words a) ++ 10 ∷ a_rest) (behind_spaces (end_words b) ++ 10 ∷ b_rest) (sym (end_split a a_rest) ∙ e ∙ end_split b b_rest)) in
      let same = end_apart a b a_parts.0 b_parts.0 (words_apart (end_words a) (end_words b) (space_words a a_parts.0) (space_words b b_parts.0) parts.0) in
      ap (λ (x : End). x ∷ ones) same ∙ ap (λ (xs : List End). b ∷ xs) (ends_apart ones others a_parts.1 b_parts.1 parts.1)

  ends_last : (ones : List End) → Last (ends_text plan ones)
  ends_last [] = inl refl
  ends_last (a ∷ ones) = inr (record { tail = codes "nd" ++ (behind_spaces (end_words a) ++ 10 ∷ ends_text plan ones); is = end_split a (ends_text plan ones) })

  same_left : (a b : Report) → a.replies ≡ b.replies → a.ends ≡ b.ends → a ≡ b
  same_left a b e f =
      let with_replies : List (List (Reply ℕ)) → Report = λ r. record { replies = r; ends = a.ends } in
      let with_ends : List End → Report = λ x. record { replies = b.replies; ends = x } in
      ap with_replies e ∙ ap with_ends f

  left_apart : length plan.scripts < 2 ^ 64 → ReportTellsWhatIsLeft plan
  left_apart small one other is also e =
      let ends_one = subst (λ (xs : List End). list_all (is_end plan) xs ≡ true) is.shown is.ends in
      let ends_other = subst (λ (xs : List End). list_all (is_end plan) xs ≡ true) also.shown also.ends in
      let parts = workers_apart 0 plan.scripts (omega arith) (left_by one).replies (left_by other).replies (ends_text plan (outcome_ends one)) (ends_text plan (outcome_ends other)) is.workers also.workers is.forms also.forms
      (λ w s c at has i call reply a b. is.ranges w i s c call reply at has a b) (λ w s c at has i call reply a b. also.ranges w i s c call reply at has a b)
      (ends_last (outcome_ends one)) (ends_last (outcome_ends other)) e in
      same_left (left_by one) (left_by other) parts.0 (is.shown ∙ ends_apart (outcome_ends one) (outcome_ends other) ends_one ends_other parts.1 ∙ sym also.shown)

pub scripts_few : (plan : Plan) → IsReadable plan → length plan.scripts < 2 ^ 64
scripts_few plan readable = omega (arith, scripts_are plan readable.valid, readable.few_workers)

pub report_tells : (plan : Plan) → IsNumbered (keys_in plan.scripts) → IsReadable plan → ReportTellsWhatIsLeft plan
report_tells plan numbered readable = left_apart plan (keys_are plan.scripts readable.calls numbered) (objects_are plan.objects readable.objects) (scripts_few plan readable)
