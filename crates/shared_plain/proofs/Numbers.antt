-- The calls in a journal have numbers that are in order with its shared history.
use Rattle.std.proofs.Common.{◌≡◌, ℕ, zero, suc, ◌+◌, ◌<◌, ◌≤◌, Bool, true, false, cond, List, [], ◌∷◌, ◌++◌, length, slice_get, Option, Some, None, refl, sym, ap, ◌∙◌, subst, append_assoc, append-nil, eqb, length-append, arith, inl, inr, ◌⊎◌}
use Rattle.std.specs.Prelude.{◌==◌}
use Rattle.std.proofs.lemmas.Option.{none-some, same_Some}
use Rattle.sync_model.specs.declared.item.Item.{Item}
use Rattle.sync_model.specs.Journal.{Begins, by, TimesRise}
use Rattle.sync_model.specs.SharedOrder.{IsAmong, InOrder}
use Rattle.shared_plain.specs.PlainHistory.{Step, call_in, entered, history_of, item_at, listed, items_from, items_by, numbered, entry_times_of, timed, times_by}
use Rattle.shared_plain.proofs.Items.{Made}
use Rattle.shared_plain.proofs.Passing.{by-append, nothing_more}

in_front : {A : Type 0} → (xs ys : List A) (i : ℕ) (x : A) → slice_get xs i ≡ Some x → slice_get (xs ++ ys) i ≡ Some x
in_front [] ys i x at = absurd (none-some x at)
in_front (y ∷ xs) ys zero x at = at
in_front (y ∷ xs) ys (suc i) x at = in_front xs ys i x at

behind : {A : Type 0} → (xs ys : List A) (i : ℕ) (x : A) → slice_get ys i ≡ Some x → slice_get (xs ++ ys) (length xs + i) ≡ Some x
behind [] ys i x at = let same : i ≡ 0 + i = omega arith in subst (λ n. slice_get ys n ≡ Some x) same at
behind (y ∷ xs) ys i x at = let same : suc (length xs + i) ≡ suc (length xs) + i = omega arith in subst (λ n. slice_get (y ∷ (xs ++ ys)) n ≡ Some x) same (behind xs ys i x at)

-- an item of two lists is one of the first, or of the second
in_both : {A : Type 0} → (xs ys : List A) (i : ℕ) (x : A) → slice_get (xs ++ ys) i ≡ Some x → (slice_get xs i ≡ Some x) ⊎ ((j : ℕ) × (i ≡ length xs + j) × (slice_get ys j ≡ Some x))
in_both [] ys i x at = inr (i, omega arith, at)
in_both (y ∷ xs) ys zero x at = inl at
in_both (y ∷ xs) ys (suc i) x at = elim (in_both xs ys i x at) [ inl first ↦ inl first | inr second ↦ let is = second.1 in inr (second.0, omega arith, second.2) ]

-- an entry of the journal with this number
abbrev HasTime : List Step → ℕ → Type 0
HasTime xs time = (i : ℕ) × (x : Step) × (slice_get xs i ≡ Some x) × (x.time ≡ time)

later_one : (x : Step) (xs : List Step) (time : ℕ) → HasTime xs time → HasTime (x ∷ xs) time
later_one x xs time (i, y, at, is) = (suc i, y, at, is)

entry_there : (xs : List Step) (n time : ℕ) → slice_get (entry_times_of xs) n ≡ Some time → HasTime xs time
entry_there [] n time at = absurd (none-some time at)
entry_there (x ∷ xs) n time at = by_call (call_in x.deed) (λ k e. entry_there xs k time e) at
  where
    Rest : Type 0
    Rest = (k : ℕ) → slice_get (entry_times_of xs) k ≡ Some time → HasTime xs time

    first : Rest → (k : ℕ) → slice_get (x.time ∷ entry_times_of xs) k ≡ Some time → HasTime (x ∷ xs) time
    first rest zero e = (0, x, refl, same_Some x.time time e)
    first rest (suc k) e = later_one x xs time (rest k e)

    by_entry : (b : Bool) → Rest → slice_get (cond b (x.time ∷ entry_times_of xs) (entry_times_of xs)) n ≡ Some time → HasTime (x ∷ xs) time
    by_entry true rest e = first rest n e
    by_entry false rest e = later_one x xs time (rest n e)

    by_call : (found : Option Made) → Rest → slice_get (numbered x.time found (entry_times_of xs)) n ≡ Some time → HasTime (x ∷ xs) time
    by_call None rest e = later_one x xs time (rest n e)
    by_call (Some did) rest e = by_entry did.1.entry rest e

rise_on : (x : Step) (xs : List Step) → TimesRise (x ∷ xs) → TimesRise xs
rise_on x xs rise i j y z below at_i at_j = rise (suc i) (suc j) y z (omega arith) at_i at_j

past_first : (x : Step) (xs : List Step) (time : ℕ) → TimesRise (x ∷ xs) → HasTime xs time → x.time < time
past_first x xs time rise (i, y, at, is) = let past = rise 0 (suc i) x y (omega arith) refl at in omega arith

entries_rise : (xs : List Step) → TimesRise xs → (n i earlier later : ℕ) → n < i → slice_get (entry_times_of xs) n ≡ Some earlier → slice_get (entry_times_of xs) i ≡ Some later → earlier < later
entries_rise [] rise n i earlier later below at_n at_i = absurd (none-some earlier at_n)
entries_rise (x ∷ xs) rise n i earlier later below at_n at_i = by_call (call_in x.deed) (λ n i. entries_rise xs (rise_on x xs rise) n i earlier later) at_n at_i
  where
    Rest : Type 0
    Rest = (n i : ℕ) → n < i → slice_get (entry_times_of xs) n ≡ Some earlier → slice_get (entry_times_of xs) i ≡ Some later → earlier < later

    first : Rest → (n i : ℕ) → n < i → slice_get (x.time ∷ entry_times_of xs) n ≡ Some earlier → slice_get (x.time ∷ entry_times_of xs) i ≡ Some later → earlier < later
    first rest n zero below at_n at_i = absurd (omega arith)
    first rest zero (suc i) below at_n at_i = let is = same_Some x.time earlier at_n in let past = past_first x xs later rise (entry_there xs i later at_i) in omega arith
    first rest (suc n) (suc i) below at_n at_i = rest n i (omega arith) at_n at_i

    by_entry : (b : Bool) → Rest → slice_get (cond b (x.time ∷ entry_times_of xs) (entry_times_of xs)) n ≡ Some earlier → slice_get (cond b (x.time ∷ entry_times_of xs) (entry_times_of xs)) i ≡ Some later → earlier < later
    by_entry true rest a b = first rest n i below a b
    by_entry false rest a b = rest n i below a b

    by_call : (found : Option Made) → Rest → slice_get (numbered x.time found (entry_times_of xs)) n ≡ Some earlier → slice_get (numbered x.time found (entry_times_of xs)) i ≡ Some later → earlier < later
    by_call None rest a b = rest n i below a b
    by_call (Some did) rest a b = by_entry did.1.entry rest a b

pub entries_sized : (xs : List Step) → length (entry_times_of xs) ≡ length (history_of xs)
entries_sized [] = refl
entries_sized (x ∷ xs) = by_call (call_in x.deed) (entries_sized xs)
  where
    by_entry : (did : Made) (b : Bool) → length (entry_times_of xs) ≡ length (history_of xs) → length (cond b (x.time ∷ entry_times_of xs) (entry_times_of xs)) ≡ length (cond b (record { caller = x.caller; call = did.0; reply = did.1.reply } ∷ history_of xs) (history_of xs))
    by_entry did true rest = ap suc rest
    by_entry did false rest = rest

    by_call : (found : Option Made) → length (entry_times_of xs) ≡ length (history_of xs) → length (numbered x.time found (entry_times_of xs)) ≡ length (entered x.caller found (history_of xs))
    by_call None rest = rest
    by_call (Some did) rest = by_entry did did.1.entry rest

entries-append : (xs ys : List Step) → entry_times_of (xs ++ ys) ≡ entry_times_of xs ++ entry_times_of ys
entries-append [] ys = refl
entries-append (x ∷ xs) ys = ap (numbered x.time (call_in x.deed)) (entries-append xs ys) ∙ by_call (call_in x.deed)
  where
    by_entry : (b : Bool) → cond b (x.time ∷ (entry_times_of xs ++ entry_times_of ys)) (entry_times_of xs ++ entry_times_of ys) ≡ cond b (x.time ∷ entry_times_of xs) (entry_times_of xs) ++ entry_times_of ys
    by_entry true = refl
    by_entry false = refl

    by_call : (found : Option Made) → numbered x.time found (entry_times_of xs ++ entry_times_of ys) ≡ numbered x.time found (entry_times_of xs) ++ entry_times_of ys
    by_call None = refl
    by_call (Some did) = by_entry did.1.entry

-- where a call stands in the journal, it has its place by its number
among_at : (n : ℕ) (before : List Step) (x : Step) (xs : List Step) (did : Made) → call_in x.deed ≡ Some did → TimesRise (before ++ x ∷ xs) → IsAmong (entry_times_of (before ++ x ∷ xs)) (item_at n before x.knew did) x.time
among_at n before x xs did made rise = subst (λ l. IsAmong l (item_at n before x.knew did) x.time) (sym split) record { past = past; is = is; before = ahead }
  where
    rest : List ℕ
    rest = cond did.1.entry (x.time ∷ entry_times_of xs) (entry_times_of xs)

    split : entry_times_of (before ++ x ∷ xs) ≡ entry_times_of before ++ cond did.1.entry (x.time ∷ entry_times_of xs) (entry_times_of xs)
    split = entries-append before (x ∷ xs) ∙ ap (λ found. entry_times_of before ++ numbered x.time found (entry_times_of xs)) made

    long : length (entry_times_of before) ≡ length (history_of before)
    long = entries_sized before

    here : slice_get (before ++ x ∷ xs) (length before + 0) ≡ Some x
    here = behind before (x ∷ xs) 0 x refl

    lower : (time : ℕ) → HasTime before time → time < x.time
    lower time (i, y, at, is) =
        let inside = within before i y at in
        let less = rise i (length before + 0) y x (omega arith) (in_front before (x ∷ xs) i y at) here in
        omega arith
      where
        within : (ys : List Step) (i : ℕ) (y : Step) → slice_get ys i ≡ Some y → i < length ys
        within [] i y at = absurd (none-some y at)
        within (z ∷ ys) zero y at = omega arith
        within (z ∷ ys) (suc i) y at = let less = within ys i y at in omega arith

    higher : (time : ℕ) → HasTime xs time → x.time < time
    higher time (i, y, at, is) =
        let less = rise (length before + 0) (length before + suc i) x y (omega arith) here (behind before (x ∷ xs) (suc i) y at) in
        omega arith

    past : (k earlier : ℕ) → k < length (history_of before) → slice_get (entry_times_of before ++ rest) k ≡ Some earlier → earlier < x.time
    past k earlier below at = elim (in_both (entry_times_of before) rest k earlier at) [
      | inl first ↦ lower earlier (entry_there before k earlier first)
      | inr second ↦ let at_end = second.1 in let same = long in absurd (omega arith)
    ]

    is : did.1.entry ≡ true → slice_get (entry_times_of before ++ rest) (length (history_of before)) ≡ Some x.time
    is entry =
        let place : length (entry_times_of before) + 0 ≡ length (history_of before) = let same = long in omega arith in
        subst (λ k. slice_get (entry_times_of before ++ rest) k ≡ Some x.time) place
        (behind (entry_times_of before) rest 0 x.time (ap (λ b. slice_get (cond b (x.time ∷ entry_times_of xs) (entry_times_of xs)) 0) entry))

    ahead : did.1.entry ≡ false → (k later : ℕ) → length (history_of before) ≤ k → slice_get (entry_times_of before ++ rest) k ≡ Some later → x.time < later
    ahead quiet k later from at = elim (in_both (entry_times_of before) rest k later at) [
      | inl first ↦ let inside = within_numbers (entry_times_of before) k later first in let same = long in absurd (omega arith)
      | inr second ↦ higher later (entry_there xs second.0 later (ap (λ b. slice_get (cond b (x.time ∷ entry_times_of xs) (entry_times_of xs)) second.0) (sym quiet) ∙ second.2))
    ]
      where
        within_numbers : (ys : List ℕ) (i : ℕ) (y : ℕ) → slice_get ys i ≡ Some y → i < length ys
        within_numbers [] i y at = absurd (none-some y at)
        within_numbers (z ∷ ys) zero y at = omega arith
        within_numbers (z ∷ ys) (suc i) y at = let less = within_numbers ys i y at in omega arith

among_from : (n c : ℕ) (before xs : List Step) → TimesRise (before ++ xs) → (j time : ℕ) (y : Item) → slice_get (items_from n c before xs) j ≡ Some y → slice_get (times_by c xs) j ≡ Some time → IsAmong (entry_times_of (before ++ xs)) y time
among_from n c before [] rise j time y at at_time = absurd (none-some y at)
among_from n c before (x ∷ xs) rise j time y at at_time = by_call (call_in x.deed) refl
    (λ k at_k at_time. subst (λ l. IsAmong (entry_times_of l) y time) (append_assoc before (x ∷ []) xs) (among_from n c (before ++ x ∷ []) xs (subst (λ l. TimesRise l) (sym (append_assoc before (x ∷ []) xs)) rise) k time y at_k at_time)) at at_time
  where
    Rest : Type 0
    Rest = (k : ℕ) → slice_get (items_from n c (before ++ x ∷ []) xs) k ≡ Some y → slice_get (times_by c xs) k ≡ Some time → IsAmong (entry_times_of (before ++ x ∷ xs)) y time

    first : (did : Made) → call_in x.deed ≡ Some did → Rest → (k : ℕ) → slice_get (item_at n before x.knew did ∷ items_from n c (before ++ x ∷ []) xs) k ≡ Some y → slice_get (x.time ∷ times_by c xs) k ≡ Some time → IsAmong (entry_times_of (before ++ x ∷ xs)) y time
    first did made rest zero at at_time = subst (λ (p : Item × ℕ). IsAmong (entry_times_of (before ++ x ∷ xs)) p.0 p.1) (λ i. (same_Some (item_at n before x.knew did) y at i, same_Some x.time time at_time i)) (among_at n before x xs did made rise)
    first did made rest (suc k) at at_time = rest k at at_time

    by_caller : (did : Made) → call_in x.deed ≡ Some did → (b : Bool) → Rest → slice_get (cond b (item_at n before x.knew did ∷ items_from n c (before ++ x ∷ []) xs) (items_from n c (before ++ x ∷ []) xs)) j ≡ Some y
        → slice_get (cond b (x.time ∷ times_by c xs) (times_by c xs)) j ≡ Some time → IsAmong (entry_times_of (before ++ x ∷ xs)) y time
    by_caller did made true rest at at_time = first did made rest j at at_time
    by_caller did made false rest at at_time = rest j at at_time

    by_call : (found : Option Made) → call_in x.deed ≡ found → Rest → slice_get (listed n c before x found (items_from n c (before ++ x ∷ []) xs)) j ≡ Some y → slice_get (timed c x found (times_by c xs)) j ≡ Some time → IsAmong (entry_times_of (before ++ x ∷ xs)) y time
    by_call None made rest at at_time = rest j at at_time
    by_call (Some did) made rest at at_time = by_caller did made (x.caller == c) rest at at_time

pub times_sized : (n c : ℕ) (before xs : List Step) → length (times_by c xs) ≡ length (items_from n c before xs)
times_sized n c before [] = refl
times_sized n c before (x ∷ xs) = by_call (call_in x.deed) (times_sized n c (before ++ x ∷ []) xs)
  where
    Rest : Type 0
    Rest = length (times_by c xs) ≡ length (items_from n c (before ++ x ∷ []) xs)

    by_caller : (did : Made) (b : Bool) → Rest → length (cond b (x.time ∷ times_by c xs) (times_by c xs)) ≡ length (cond b (item_at n before x.knew did ∷ items_from n c (before ++ x ∷ []) xs) (items_from n c (before ++ x ∷ []) xs))
    by_caller did true rest = ap suc rest
    by_caller did false rest = rest

    by_call : (found : Option Made) → Rest → length (timed c x found (times_by c xs)) ≡ length (listed n c before x found (items_from n c (before ++ x ∷ []) xs))
    by_call None rest = rest
    by_call (Some did) rest = by_caller did (x.caller == c) rest

pub times-append : (c : ℕ) (xs ys : List Step) → times_by c (xs ++ ys) ≡ times_by c xs ++ times_by c ys
times-append c [] ys = refl
times-append c (x ∷ xs) ys = ap (timed c x (call_in x.deed)) (times-append c xs ys) ∙ by_call (call_in x.deed)
  where
    by_caller : (b : Bool) → cond b (x.time ∷ (times_by c xs ++ times_by c ys)) (times_by c xs ++ times_by c ys) ≡ cond b (x.time ∷ times_by c xs) (times_by c xs) ++ times_by c ys
    by_caller true = refl
    by_caller false = refl

    by_call : (found : Option Made) → timed c x found (times_by c xs ++ times_by c ys) ≡ timed c x found (times_by c xs) ++ times_by c ys
    by_call None = refl
    by_call (Some did) = by_caller (x.caller == c)

-- a caller without entries has no numbers
pub no_times : (c : ℕ) (xs : List Step) → by c xs ≡ [] → times_by c xs ≡ []
no_times c [] none = refl
no_times c (x ∷ xs) none = by_caller (eqb x.caller c) refl none (λ e. no_times c xs e)
  where
    skipped : (found : Option Made) → eqb x.caller c ≡ false → times_by c xs ≡ [] → timed c x found (times_by c xs) ≡ []
    skipped None other rest = rest
    skipped (Some did) other rest = ap (λ (b : Bool). cond b (x.time ∷ times_by c xs) (times_by c xs)) other ∙ rest

    by_caller : (b : Bool) → eqb x.caller c ≡ b → cond b (x ∷ by c xs) (by c xs) ≡ [] → (by c xs ≡ [] → times_by c xs ≡ []) → timed c x (call_in x.deed) (times_by c xs) ≡ []
    by_caller true is e rest = (cc)
    by_caller false is e rest = skipped (call_in x.deed) is (rest e)

-- a caller's numbers stay what they were where it made no more entries
pub kept_times : (c : ℕ) (old new : List Step) → Begins new old → by c new ≡ by c old → times_by c new ≡ times_by c old
kept_times c old new begins same =
    let rest : List Step = begins.0 in
    let none : by c rest ≡ [] = nothing_more (by c old) (by c rest) (sym (by-append c old rest) ∙ (ap (by c) (sym begins.1) ∙ same)) in
    ap (times_by c) begins.1 ∙ (times-append c old rest ∙ (ap (λ l. times_by c old ++ l) (no_times c rest none) ∙ append-nil (times_by c old)))

-- the journal's calls are in order with its shared history
pub in_one_order : (n : ℕ) (journal : List Step) → TimesRise journal → InOrder (history_of journal) (λ c. items_by n c journal) (entry_times_of journal) (λ c. times_by c journal)
in_one_order n journal rise = record {
  entries = entries_sized journal;
  rise = entries_rise journal rise;
  all = λ c. times_sized n c [] journal;
  among = λ c j time x at at_time. among_from n c [] journal rise j time x at at_time;
}
