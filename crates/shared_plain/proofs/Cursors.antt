-- What a cursor's step shows.
use Rattle.std.proofs.Common.{◌≡◌, false, ℕ, zero, suc, ◌+◌, ◌-◌, ◌<◌, ◌≤◌, List, [], ◌∷◌, drop, length, get_or, slice_get, Option, Some, None, refl, sym, ap, ◌∙◌, arith}
use Rattle.std.proofs.lemmas.List.{get_or-drop, length-drop}
use Rattle.std.specs.FinMap.{get}
use Rattle.sync_model.specs.declared.item.SharedReply.TheVariants.{Shown}
use Rattle.sync_model.specs.SharedHistory.{value_at}
use Rattle.shared_plain.specs.declared.event.Answered.{Answered}
use Rattle.shared_plain.specs.MapWalks.{IsNextPair}
use Rattle.shared_plain.specs.Slots.{pair_from, next_pair}
use Rattle.shared_plain.specs.PlainMachine.{Holdings, contents_of, cursor_next}
use Rattle.shared_plain.proofs.SlotMaps.{answer, get-map_of}
use Rattle.shared_plain.proofs.Steps.{map_there, some_is}

-- where the first pair lies
record IsFirst (n : ℕ) (slots : List (Option ℕ)) (key value : ℕ) : Type 0 where
  place : ℕ
  is : key ≡ n + place
  there : get_or slots place None ≡ Some value
  before : (j : ℕ) → j < place → get_or slots j None ≡ None

none_before : (slots : List (Option ℕ)) (place : ℕ) → ((j : ℕ) → j < place → get_or slots j None ≡ None) → (j : ℕ) → j < suc place → get_or (None ∷ slots) j None ≡ None
none_before slots place none zero below = refl
none_before slots place none (suc j) below = none j (omega arith)

behind_none : (n : ℕ) (slots : List (Option ℕ)) (key value : ℕ) → IsFirst (n + 1) slots key value → IsFirst n (None ∷ slots) key value
behind_none n slots key value r = let is = r.is in record { place = suc r.place; is = omega arith; there = r.there; before = none_before slots r.place r.before }

first_pair : (n : ℕ) (slots : List (Option ℕ)) (key value : ℕ) → pair_from n slots ≡ Some (key, value) → IsFirst n slots key value
first_pair n [] key value e = (cc)
first_pair n (None ∷ slots) key value e = behind_none n slots key value (first_pair (n + 1) slots key value e)
first_pair n (Some v ∷ slots) key value e =
    let same = some_is (n, v) (key, value) e in let k : n ≡ key = ap (λ (p : ℕ × ℕ). p.0) same in
    record { place = 0; is = omega arith; there = ap (λ (p : ℕ × ℕ). Some p.1) same; before = λ j below. absurd (omega arith) }

no_pair : (n : ℕ) (slots : List (Option ℕ)) → pair_from n slots ≡ None → (j : ℕ) → get_or slots j None ≡ None
no_pair n [] e j = refl
no_pair n (None ∷ slots) e zero = refl
no_pair n (None ∷ slots) e (suc j) = no_pair (n + 1) slots e j
no_pair n (Some v ∷ slots) e j = (cc)

-- what the map has at a key from a place on
value_from : (h : Holdings) (m from i : ℕ) (slots : List (Option ℕ)) → slice_get h.maps m ≡ Some slots → value_at (contents_of h) m (from + i) ≡ get_or (drop from slots) i None
value_from h m from i slots at_m = ap (λ c. get c (from + i)) (map_there h m slots at_m) ∙ (get-map_of slots (from + i) ∙ sym (get_or-drop from slots i None))

shown_is : (pair : Option (ℕ × ℕ)) (answered : Answered) (other : Option (ℕ × ℕ)) → Some (answer (Shown pair) false) ≡ Some answered → answered.reply ≡ Shown other → pair ≡ other
shown_is pair answered other is reply = let same : answer (Shown pair) false ≡ answered = some_is (answer (Shown pair) false) answered is in let r : Shown pair ≡ Shown other = ap (λ (a : Answered). a.reply) same ∙ reply in (cc)

pub shown_at : (h : Holdings) (m from key value : ℕ) (found : Option (List (Option ℕ))) (answered : Answered) → slice_get h.maps m ≡ found → cursor_next from found ≡ Some answered → answered.reply ≡ Shown (Some (key, value))
    → (from ≤ key) × (value_at (contents_of h) m key ≡ Some value) × ((other : ℕ) → from ≤ other → other < key → value_at (contents_of h) m other ≡ None)
shown_at h m from key value None answered at_m is reply = (cc)
shown_at h m from key value (Some slots) answered at_m is reply =
    let same : next_pair from slots ≡ Some (key, value) = shown_is (next_pair from slots) answered (Some (key, value)) is reply in
    let first = first_pair from (drop from slots) key value same in let at = first.is in (
      omega arith,
      ap (value_at (contents_of h) m) at ∙ (value_from h m from first.place slots at_m ∙ first.there),
      λ other least below. let gap : other ≡ from + (other - from) = omega arith in ap (value_at (contents_of h) m) gap ∙ (value_from h m from (other - from) slots at_m ∙ first.before (other - from) (omega arith)),
    )

pub none_from : (h : Holdings) (m from : ℕ) (found : Option (List (Option ℕ))) (answered : Answered) → slice_get h.maps m ≡ found → cursor_next from found ≡ Some answered → answered.reply ≡ Shown None
    → (key : ℕ) → from ≤ key → value_at (contents_of h) m key ≡ None
none_from h m from None answered at_m is reply key least = (cc)
none_from h m from (Some slots) answered at_m is reply key least =
    let same : next_pair from slots ≡ None = shown_is (next_pair from slots) answered None is reply in
    let gap : key ≡ from + (key - from) = omega arith in
    ap (value_at (contents_of h) m) gap ∙ (value_from h m from (key - from) slots at_m ∙ no_pair from (drop from slots) same (key - from))

pair_within : (n : ℕ) (slots : List (Option ℕ)) (key value : ℕ) → pair_from n slots ≡ Some (key, value) → key < n + length slots
pair_within n [] key value e = (cc)
pair_within n (None ∷ slots) key value e = let rest = pair_within (n + 1) slots key value e in omega arith
pair_within n (Some v ∷ slots) key value e = let k : n ≡ key = ap (λ (p : ℕ × ℕ). p.0) (some_is (n, v) (key, value) e) in omega arith

-- a key that is shown has a slot
pub cursor_within : (from : ℕ) (found : Option (List (Option ℕ))) (answered : Answered) (key value keys : ℕ) → ((slots : List (Option ℕ)) → found ≡ Some slots → length slots ≡ keys)
    → cursor_next from found ≡ Some answered → answered.reply ≡ Shown (Some (key, value)) → key < keys
cursor_within from None answered key value keys long is reply = (cc)
cursor_within from (Some slots) answered key value keys long is reply =
    let pair : next_pair from slots ≡ Some (key, value) = shown_is (next_pair from slots) answered (Some (key, value)) is reply in
    let first = (first_pair from (drop from slots) key value pair).is in
    let inside = pair_within from (drop from slots) key value pair in
    let rest = length-drop from slots in let same = long slots refl in omega arith

-- what the slots of a map show next is what the map does
pub pair_is : (h : Holdings) (m from : ℕ) (slots : List (Option ℕ)) (pair : Option (ℕ × ℕ)) → slice_get h.maps m ≡ Some slots → pair ≡ next_pair from slots → IsNextPair (contents_of h) m from pair
pair_is h m from slots (Some (key, value)) at_m is = shown_at h m from key value (Some slots) (answer (Shown (Some (key, value))) false) at_m (ap (λ p. Some (answer (Shown p) false)) (sym is)) refl
pair_is h m from slots None at_m is = none_from h m from (Some slots) (answer (Shown None) false) at_m (ap (λ p. Some (answer (Shown p) false)) (sym is)) refl
