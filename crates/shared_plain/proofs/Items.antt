-- A caller's own calls in a journal of maps and atomics.
use Rattle.std.proofs.Common.{◌≡◌, ℕ, ◌+◌, Bool, true, false, cond, eqb, List, [], ◌∷◌, ◌++◌, length, length-append, Option, Some, None, refl, sym, ap, ◌∙◌, append_assoc, arith}
use Rattle.std.proofs.lemmas.Bool.{eqb-true}
use Rattle.std.proofs.lemmas.List.{append-nil}
use Rattle.sync_model.specs.declared.item.SharedCall.{SharedCall}
use Rattle.sync_model.specs.declared.item.SharedEntry.{SharedEntry}
use Rattle.sync_model.specs.declared.item.Item.{Item}
use Rattle.sync_model.specs.SharedHistory.{entries_from, marked_in}
use Rattle.shared_plain.specs.declared.event.Answered.{Answered}
use Rattle.shared_plain.specs.PlainHistory.{Step, call_in, entered, history_of, calls_counted, item_at, listed, items_from}

abbrev pub Made : Type 0
Made = SharedCall × Answered

entered-append : (c : ℕ) (found : Option Made) (later more : List SharedEntry) → entered c found (later ++ more) ≡ entered c found later ++ more
entered-append c None later more = refl
entered-append c (Some did) later more = by_entry did.1.entry
  where
    by_entry : (b : Bool) → cond b (record { caller = c; call = did.0; reply = did.1.reply } ∷ (later ++ more)) (later ++ more) ≡ cond b (record { caller = c; call = did.0; reply = did.1.reply } ∷ later) later ++ more
    by_entry true = refl
    by_entry false = refl

-- the history of two journals, one after the other
pub history-append : (xs ys : List Step) → history_of (xs ++ ys) ≡ history_of xs ++ history_of ys
history-append [] ys = refl
history-append (x ∷ xs) ys = ap (entered x.caller (call_in x.deed)) (history-append xs ys) ∙ entered-append x.caller (call_in x.deed) (history_of xs) (history_of ys)

pub count-append : (c : ℕ) (xs ys : List Step) → calls_counted c (xs ++ ys) ≡ calls_counted c xs + calls_counted c ys
count-append c [] ys = omega arith
count-append c (x ∷ xs) ys = let rest = count-append c xs ys in omega arith

module _ (n c : ℕ) where
  listed-append : (before : List Step) (x : Step) (found : Option Made) (later more : List Item) → listed n c before x found (later ++ more) ≡ listed n c before x found later ++ more
  listed-append before x None later more = refl
  listed-append before x (Some did) later more = by_caller (eqb x.caller c)
    where
      by_caller : (b : Bool) → cond b (item_at n before x.knew did ∷ (later ++ more)) (later ++ more) ≡ cond b (item_at n before x.knew did ∷ later) later ++ more
      by_caller true = refl
      by_caller false = refl

  -- a caller's calls in two journals, one after the other
  pub items-append : (before xs ys : List Step) → items_from n c before (xs ++ ys) ≡ items_from n c before xs ++ items_from n c (before ++ xs) ys
  items-append before [] ys = ap (λ (b : List Step). items_from n c b ys) (sym (append-nil before))
  items-append before (x ∷ xs) ys =
      ap (listed n c before x (call_in x.deed)) (items-append (before ++ x ∷ []) xs ys ∙ ap (λ (b : List Step). items_from n c (before ++ x ∷ []) xs ++ items_from n c b ys) (append_assoc before (x ∷ []) xs))
      ∙ listed-append before x (call_in x.deed) (items_from n c (before ++ x ∷ []) xs) (items_from n c (before ++ (x ∷ xs)) ys)

  -- one entry's part of the marks
  marks_one : (before : List Step) (x : Step) (found : Option Made) (later : List Item) (history : List SharedEntry) → ((k : ℕ) → length (history_of before ++ entered x.caller found []) ≡ k → marked_in c later ≡ entries_from k c history)
      → marked_in c (listed n c before x found later) ≡ entries_from (length (history_of before)) c (entered x.caller found history)
  marks_one before x None later history same = same (length (history_of before)) (ap length (append-nil (history_of before)))
  marks_one before x (Some did) later history same = by_both (eqb x.caller c) did.1.entry refl (λ k is. same k is)
    where
      place : ℕ
      place = length (history_of before)

      shared : ℕ → SharedEntry
      shared caller = record { caller = caller; call = did.0; reply = did.1.reply }

      marked_one : Bool → List (ℕ × SharedEntry) → List (ℕ × SharedEntry)
      marked_one b rest = cond b ((place, shared c) ∷ rest) rest

      by_both : (b e : Bool) → eqb x.caller c ≡ b → ((k : ℕ) → length (history_of before ++ cond e (shared x.caller ∷ []) []) ≡ k → marked_in c later ≡ entries_from k c history)
          → marked_in c (cond b (record { call = did.0; reply = did.1.reply; place = place; entry = e; front = (item_at n before x.knew did).front } ∷ later) later) ≡ entries_from place c (cond e (shared x.caller ∷ history) history)
      by_both true true is rest =
          let r = rest (place + 1) (omega (arith, length-append (history_of before) (shared x.caller ∷ []))) in let caller = eqb-true x.caller c is in
          ap (λ (l : List (ℕ × SharedEntry)). (place, shared c) ∷ l) r
          ∙ (ap (λ (k : ℕ). (place, shared k) ∷ entries_from (place + 1) c history) (sym caller) ∙ sym (ap (λ (t : Bool). cond t ((place, shared x.caller) ∷ entries_from (place + 1) c history) (entries_from (place + 1) c history)) is))
      by_both true false is rest = rest place (ap length (append-nil (history_of before)))
      by_both false true is rest =
          let r = rest (place + 1) (omega (arith, length-append (history_of before) (shared x.caller ∷ []))) in
          r ∙ sym (ap (λ (t : Bool). cond t ((place, shared x.caller) ∷ entries_from (place + 1) c history) (entries_from (place + 1) c history)) is)
      by_both false false is rest = rest place (ap length (append-nil (history_of before)))

  -- a caller's calls that are entries are its entries of the history
  pub marks : (before xs : List Step) → marked_in c (items_from n c before xs) ≡ entries_from (length (history_of before)) c (history_of xs)
  marks before [] = refl
  marks before (x ∷ xs) = marks_one before x (call_in x.deed) (items_from n c (before ++ x ∷ []) xs) (history_of xs)
      (λ k is. marks (before ++ x ∷ []) xs ∙ ap (λ (j : ℕ). entries_from j c (history_of xs)) (ap length (history-append before (x ∷ [])) ∙ is))
