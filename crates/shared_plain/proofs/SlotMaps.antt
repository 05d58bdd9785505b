-- Slots are the finite map whose keys are the slots' numbers.
use Rattle.std.proofs.Common.{◌≡◌, ℕ, zero, suc, ◌+◌, ◌<◌, Bool, true, false, cond, eqb, eq-eqb, ne_eqb, List, [], ◌∷◌, length, get_or, set, replicate, slice_get, Option, Some, None, is_some, refl, sym, ap, ◌∙◌, arith, get_or-set_same, get_or-set_other}
use Rattle.std.proofs.lemmas.Option.{slice_get-get_or, slice_get_within, get_or_from_slice_get}
use Rattle.std.specs.Option.{option_map_or}
use Rattle.std.specs.Prelude.{nat_lt}
use Rattle.std.proofs.lemmas.Bool.{ltb-true, lt-ltb}
use Rattle.std.proofs.lemmas.List.{set-get_or}
use mathlib.Core.Logic.{dite}
use native.Mathlib.Decide.{ℕ_discrete}
use Rattle.std.specs.Ordering.{nat_cmp}
use Rattle.std.specs.Cmp.{nat_cmp_total, unsigned_tied}
use Rattle.std.specs.FinMap.{FinMap, empty, get, insert, remove, get-empty, get-insert, get-remove, same_map, nat_cmp-IsAntisymmetric}
use Rattle.sync_types.specs.declared.map_object.MapCall.{MapCall}
use Rattle.sync_types.specs.declared.map_object.MapCall.TheVariants.{Load, Store, LoadOrStore, LoadAndDelete, Delete, Swap, CompareAndSwap, CompareAndDelete, Clear}
use Rattle.sync_model.specs.declared.item.SharedReply.{SharedReply}
use Rattle.sync_model.specs.declared.item.SharedReply.TheVariants.{Map}
use Rattle.sync_types.specs.declared.map_object.MapReply.{MapReply}
use Rattle.sync_types.specs.declared.map_object.MapReply.TheVariants.{Found}
use Rattle.sync_types.specs.SequentialMap.{has_value, map_key, map_reply, map_after, is_map_entry}
use Rattle.sync_types.specs.KeyCalls.{key_reply, is_key_entry, key_after}
use Rattle.sync_types.specs.MapLaws.{Finds}
use Rattle.shared_plain.specs.Slots.{map_from, map_of, keyed_after, slots_at, slots_after, has_slot}
use Rattle.shared_plain.specs.declared.event.Answered.{Answered}
use Rattle.shared_plain.specs.PlainMachine.{map_answer}

inserted : (m : FinMap nat_cmp ℕ) (k v q : ℕ) → get (insert m k v) q ≡ cond (eqb q k) (Some v) (get m q)
inserted m k v q = get-insert nat_cmp_total m k v q ∙ ap (λ (b : Bool). cond b (Some v) (get m q)) (unsigned_tied q k)

removed : (m : FinMap nat_cmp ℕ) (k q : ℕ) → get (remove m k) q ≡ cond (eqb q k) None (get m q)
removed m k q = get-remove nat_cmp_total m k q ∙ ap (λ (b : Bool). cond b None (get m q)) (unsigned_tied q k)

-- no key below the first has a value
below_first : (n : ℕ) (slots : List (Option ℕ)) (q : ℕ) → q < n → get (map_from n slots) q ≡ None
below_first n [] q below = get-empty nat_cmp q
below_first n (None ∷ slots) q below = below_first (n + 1) slots q (omega arith)
below_first n (Some v ∷ slots) q below =
    inserted (map_from (n + 1) slots) n v q ∙ (ap (λ (b : Bool). cond b (Some v) (get (map_from (n + 1) slots) q)) (ne_eqb q n (λ is. omega arith)) ∙ below_first (n + 1) slots q (omega arith))

-- what the map has at a key is what the key's slot has
from_slot : (n : ℕ) (slots : List (Option ℕ)) (q : ℕ) → get (map_from n slots) (n + q) ≡ get_or slots q None
from_slot n [] q = get-empty nat_cmp (n + q)
from_slot n (None ∷ slots) zero = below_first (n + 1) slots (n + 0) (omega arith)
from_slot n (None ∷ slots) (suc q) = let same : n + suc q ≡ (n + 1) + q = omega arith in ap (get (map_from (n + 1) slots)) same ∙ from_slot (n + 1) slots q
from_slot n (Some v ∷ slots) zero = let same : n + 0 ≡ n = omega arith in
    inserted (map_from (n + 1) slots) n v (n + 0) ∙ ap (λ (b : Bool). cond b (Some v) (get (map_from (n + 1) slots) (n + 0))) (eq-eqb (n + 0) n same)
from_slot n (Some v ∷ slots) (suc q) = let same : n + suc q ≡ (n + 1) + q = omega arith in
    inserted (map_from (n + 1) slots) n v (n + suc q)
    ∙ (ap (λ (b : Bool). cond b (Some v) (get (map_from (n + 1) slots) (n + suc q))) (ne_eqb (n + suc q) n (λ is. omega arith)) ∙ (ap (get (map_from (n + 1) slots)) same ∙ from_slot (n + 1) slots q))

pub get-map_of : (slots : List (Option ℕ)) (q : ℕ) → get (map_of slots) q ≡ get_or slots q None
get-map_of slots q = let same : q ≡ 0 + q = omega arith in ap (get (map_of slots)) same ∙ from_slot 0 slots q

-- a map that has the slots' values is the slots' map
is_map : (slots : List (Option ℕ)) (m : FinMap nat_cmp ℕ) → ((q : ℕ) → get_or slots q None ≡ get m q) → map_of slots ≡ m
is_map slots m each = same_map nat_cmp_total nat_cmp-IsAntisymmetric (map_of slots) m (λ q. get-map_of slots q ∙ each q)

set_read : (slots : List (Option ℕ)) (k q : ℕ) (y : Option ℕ) → k < length slots → get_or (set slots k y) q None ≡ cond (eqb q k) y (get_or slots q None)
set_read slots k q y below = dite (ℕ_discrete q k)
    (λ is. ap (λ (j : ℕ). get_or (set slots k y) j None) is ∙ (get_or-set_same slots k y None below ∙ sym (ap (λ (b : Bool). cond b y (get_or slots q None)) (eq-eqb q k is))))
    (λ ne. get_or-set_other slots k q y None ne ∙ sym (ap (λ (b : Bool). cond b y (get_or slots q None)) (ne_eqb q k ne)))

module _ (slots : List (Option ℕ)) (k : ℕ) (below : k < length slots) where
  stored : (v : ℕ) → map_of (set slots k (Some v)) ≡ insert (map_of slots) k v
  stored v = is_map (set slots k (Some v)) (insert (map_of slots) k v) (λ q. set_read slots k q (Some v) below ∙ (ap (cond (eqb q k) (Some v)) (sym (get-map_of slots q)) ∙ sym (inserted (map_of slots) k v q)))

  emptied : map_of (set slots k None) ≡ remove (map_of slots) k
  emptied = is_map (set slots k None) (remove (map_of slots) k) (λ q. set_read slots k q None below ∙ (ap (cond (eqb q k) None) (sym (get-map_of slots q)) ∙ sym (removed (map_of slots) k q)))

  kept : (held : Option ℕ) → get_or slots k None ≡ held → map_of (set slots k held) ≡ map_of slots
  kept held at_k = ap (λ (x : Option ℕ). map_of (set slots k x)) (sym at_k) ∙ ap map_of (set-get_or slots k None)

  settles : (held : Option ℕ) (v : ℕ) → get_or slots k None ≡ held → map_of (set slots k (cond (is_some held) held (Some v))) ≡ cond (is_some held) (map_of slots) (insert (map_of slots) k v)
  settles None v at_k = stored v
  settles (Some x) v at_k = kept (Some x) at_k

  swaps : (b : Bool) (held : Option ℕ) (v : ℕ) → get_or slots k None ≡ held → map_of (set slots k (cond b (Some v) held)) ≡ cond b (insert (map_of slots) k v) (map_of slots)
  swaps true held v at_k = stored v
  swaps false held v at_k = kept held at_k

  deletes : (b : Bool) (held : Option ℕ) → get_or slots k None ≡ held → map_of (set slots k (cond b None held)) ≡ cond b (remove (map_of slots) k) (map_of slots)
  deletes true held at_k = emptied
  deletes false held at_k = kept held at_k

none_read : (n q : ℕ) → get_or (replicate n None) q None ≡ get (empty {X = ℕ} {R = nat_cmp}) q
none_read zero q = sym (get-empty nat_cmp q)
none_read (suc n) zero = sym (get-empty nat_cmp 0)
none_read (suc n) (suc q) = none_read n q ∙ (get-empty nat_cmp q ∙ sym (get-empty nat_cmp (suc q)))

-- slots of which none has a value are the empty map
pub all_none : (n : ℕ) → map_of (replicate n None) ≡ empty
all_none n = is_map (replicate n None) empty (none_read n)

below_of : (k : ℕ) (slots : List (Option ℕ)) → nat_lt k (length slots) ≡ true → k < length slots
below_of k slots has = ltb-true k (length slots) has

keyed_is : (call : MapCall ℕ) (k : ℕ) (slots : List (Option ℕ)) → k < length slots → keyed_after call k (slice_get slots k) slots ≡ set slots k (key_after call (get_or slots k None))
keyed_is call k slots below = ap (λ (found : Option (Option ℕ)). keyed_after call k found slots) (slice_get-get_or slots k None below)

-- a call on slots does to their map what a call does
pub after_call : (call : MapCall ℕ) (slots : List (Option ℕ)) → has_slot call slots ≡ true → map_of (slots_after call slots) ≡ map_after call (map_of slots)
after_call (Load k) slots has = ap map_of (keyed_is (Load k) k slots (below_of k slots has)) ∙ kept slots k (below_of k slots has) (get_or slots k None) refl
after_call (Store k v) slots has = ap map_of (keyed_is (Store k v) k slots (below_of k slots has)) ∙ stored slots k (below_of k slots has) v
after_call (LoadOrStore k v) slots has =
    ap map_of (keyed_is (LoadOrStore k v) k slots (below_of k slots has))
    ∙ (settles slots k (below_of k slots has) (get_or slots k None) v refl ∙ ap (λ (held : Option ℕ). cond (is_some held) (map_of slots) (insert (map_of slots) k v)) (sym (get-map_of slots k)))
after_call (LoadAndDelete k) slots has = ap map_of (keyed_is (LoadAndDelete k) k slots (below_of k slots has)) ∙ emptied slots k (below_of k slots has)
after_call (Delete k) slots has = ap map_of (keyed_is (Delete k) k slots (below_of k slots has)) ∙ emptied slots k (below_of k slots has)
after_call (Swap k v) slots has = ap map_of (keyed_is (Swap k v) k slots (below_of k slots has)) ∙ stored slots k (below_of k slots has) v
after_call (CompareAndSwap k old v) slots has =
    ap map_of (keyed_is (CompareAndSwap k old v) k slots (below_of k slots has))
    ∙ (swaps slots k (below_of k slots has) (has_value old (get_or slots k None)) (get_or slots k None) v refl
    ∙ ap (λ (held : Option ℕ). cond (has_value old held) (insert (map_of slots) k v) (map_of slots)) (sym (get-map_of slots k)))
after_call (CompareAndDelete k old) slots has =
    ap map_of (keyed_is (CompareAndDelete k old) k slots (below_of k slots has))
    ∙ (deletes slots k (below_of k slots has) (has_value old (get_or slots k None)) (get_or slots k None) refl
    ∙ ap (λ (held : Option ℕ). cond (has_value old held) (remove (map_of slots) k) (map_of slots)) (sym (get-map_of slots k)))
after_call Clear slots has = all_none (length slots)

abbrev pub answer : SharedReply → Bool → Answered
answer reply entry = record { reply = reply; entry = entry }

module _ (call : MapCall ℕ) (key : ℕ) (slots : List (Option ℕ)) (held : Option ℕ) (is : map_key call ≡ Some key) (at_key : slice_get slots key ≡ Some held) where
  found_slot : has_slot call slots ≡ true
  found_slot = ap (λ (k : Option ℕ). option_map_or (λ (j : ℕ). nat_lt j (length slots)) k true) is ∙ lt-ltb key (length slots) (slice_get_within slots key held at_key)

  -- a load finds what the slot has
  pub found_there : Finds (map_of slots) key held
  found_there = ap Found (get-map_of slots key ∙ get_or_from_slice_get slots key held None at_key)

  -- what the key's slot answers is what the map does
  pub keyed_answer : (answered : Answered) → answered.reply ≡ Map (key_reply call held) → answered.entry ≡ is_key_entry call held
      → map_reply call (map_of slots) ≡ key_reply call held → is_map_entry call (map_of slots) ≡ is_key_entry call held → Some answered ≡ map_answer call slots
  keyed_answer answered reply entry replies enters =
      let r : answered.reply ≡ Map (map_reply call (map_of slots)) = reply ∙ ap (λ (x : MapReply). Map x) (sym replies) in
      let e : answered.entry ≡ is_map_entry call (map_of slots) = entry ∙ sym enters in
      let whole : Some answered ≡ Some (answer (Map (map_reply call (map_of slots))) (is_map_entry call (map_of slots))) = λ i. Some (answer (r i) (e i)) in
      whole ∙ sym (ap (λ (b : Bool). cond b (Some (answer (Map (map_reply call (map_of slots))) (is_map_entry call (map_of slots)))) None) found_slot)

  -- and what it leaves there is what the call leaves
  pub keyed_slots : set slots key (key_after call held) ≡ slots_after call slots
  keyed_slots = sym (ap (λ (k : Option ℕ). slots_at call k slots) is ∙ ap (λ (found : Option (Option ℕ)). keyed_after call key found slots) at_key)
