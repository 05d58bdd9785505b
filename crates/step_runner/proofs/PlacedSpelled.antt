-- A placed call spells itself: a call on a map or an atomic is one call in a record, and a `range` is a cursor.
use Rattle.std.proofs.Common.{◌≡◌, ℕ, zero, suc, ◌+◌, ◌<◌, ◌&&◌, ◌||◌, Bool, true, false, T, List, [], ◌∷◌, map, length, refl, ap, ◌∙◌, arith}
use Rattle.std.specs.Prelude.{slice_index_or}
use Rattle.std.specs.FinMap.{FinMap, entries, contains_key-keys, entries_sorted}
use Rattle.std.specs.FinMap.Entries.{is_sorted, below_all}
use Rattle.std.specs.List.{list_any}
use Rattle.std.specs.Ordering.{nat_cmp, is_eq, is_lt, eq_by_cmp, ordering_reverse}
use Rattle.std.specs.declared.cmp.Ordering.{Ordering}
use Rattle.std.specs.declared.cmp.Ordering.TheVariants.{Less, Equal, Greater}
use Rattle.std.specs.Cmp.Lexicographic.{slice_cmp, nat_list_cmp_total}
use Rattle.std.proofs.lemmas.List.Sorted.{IsPermutation-refl}
use Rattle.sync_model.specs.declared.item.Item.{Item}
use Rattle.sync_model.specs.declared.item.SharedCall.{SharedCall}
use Rattle.sync_model.specs.declared.item.SharedReply.{SharedReply}
use Rattle.run_record.specs.MapKind.{AreSorted}
use Rattle.run_record.specs.Parts.{Places}
use Rattle.run_record.specs.declared.made.Made.{Made}
use Rattle.run_record.specs.declared.made.Made.TheVariants.{Shared}
use Rattle.workload.specs.Draft.{all_keys}
use Rattle.workload.specs.Keys.{keys_in, key_number, key_name}
use Rattle.workload.specs.Plan.{Plan}
use Rattle.step_runner.specs.MapKeys.{is_among, HasKeysIn}
use Rattle.step_runner.specs.Recorded.{made_shared}
use Rattle.step_runner.proofs.SpellingLaws.{KeysNamed}

-- calls as a record has them
abbrev pub item_shared : SharedCall × SharedReply → Item
item_shared x = record { call = x.0; reply = x.1; place = 0; entry = false; front = [] }

same_made : (plan : Plan) (calls : List (SharedCall × SharedReply)) → map (made_shared plan) calls ≡ map Shared (map item_shared calls)
same_made plan [] = refl
same_made plan (x ∷ calls) = ap (λ (l : List Made). Shared (item_shared x) ∷ l) (same_made plan calls)

same_calls : (calls : List (SharedCall × SharedReply)) → map (λ (x : Item). (x.call, x.reply)) (map item_shared calls) ≡ calls
same_calls [] = refl
same_calls (x ∷ calls) = ap (λ (l : List (SharedCall × SharedReply)). x ∷ l) (same_calls calls)

pub places : (plan : Plan) (calls : List (SharedCall × SharedReply)) → Places calls (map (made_shared plan) calls)
places plan calls = (map item_shared calls, same_made plan calls, same_calls calls)

-- ---- the pairs of a range

abbrev by_bytes : List ℕ → List ℕ → Ordering
by_bytes = slice_cmp nat_cmp

either_first : (a b : Bool) → T (a && b) → T a
either_first true b h = tt
either_first false b h = absurd h

either_second : (a b : Bool) → T (a && b) → T b
either_second true b h = h
either_second false b h = absurd h

-- what comes later isn't less
not_less : (a b : List ℕ) → T (is_lt (by_bytes a b)) → is_lt (by_bytes b a) ≡ false
not_less a b less = ap is_lt (nat_list_cmp_total.antisymm b a) ∙ by_order (by_bytes a b) less
  where
    by_order : (o : Ordering) → T (is_lt o) → is_lt (ordering_reverse o) ≡ false
    by_order Less h = refl
    by_order Equal h = absurd h
    by_order Greater h = absurd h

module _ (name : ℕ → List ℕ) (number : List ℕ → ℕ) where
  abbrev numbered : List (List ℕ × ℕ) → List (ℕ × ℕ)
  numbered es = map (λ pair. (number pair.0, pair.1)) es

  abbrev AllNamed : List (List ℕ × ℕ) → Type 0
  AllNamed [] = Unit {0}
  AllNamed (e ∷ es) = (name (number e.0) ≡ e.0) × AllNamed es

  abbrev less_at : List (ℕ × ℕ) → ℕ → ℕ × ℕ → Bool
  less_at xs k d = is_lt (by_bytes (name (slice_index_or xs (k + 1) d).0) (name (slice_index_or xs k d).0))

  sorted_numbered : (es : List (List ℕ × ℕ)) → AllNamed es → T (is_sorted by_bytes es) → (k : ℕ) (d : ℕ × ℕ) → k + 1 < length (numbered es) → less_at (numbered es) k d ≡ false
  sorted_numbered [] named sorted k d below = absurd (omega (arith, below))
  sorted_numbered (e ∷ []) named sorted k d below = absurd (omega (arith, below))
  sorted_numbered (e ∷ f ∷ es) named sorted zero d below =
      let less : T (is_lt (by_bytes e.0 f.0)) = either_first (is_lt (by_bytes e.0 f.0)) (below_all by_bytes e.0 es) (either_first (below_all by_bytes e.0 (f ∷ es)) (is_sorted by_bytes (f ∷ es)) sorted) in
      (λ i. is_lt (by_bytes (named.1.0 i) (named.0 i))) ∙ not_less e.0 f.0 less
  sorted_numbered (e ∷ f ∷ es) named sorted (suc k) d below =
      let at : suc k + 1 ≡ suc (k + 1) = omega arith in
      ap (λ (j : ℕ). is_lt (by_bytes (name (slice_index_or (numbered (e ∷ f ∷ es)) j d).0) (name (slice_index_or (numbered (e ∷ f ∷ es)) (suc k) d).0))) at
      ∙ sorted_numbered (f ∷ es) named.1 (either_second (below_all by_bytes e.0 (f ∷ es)) (is_sorted by_bytes (f ∷ es)) sorted) k d (omega (arith, below))

-- the keys of a map are those of the calls
all_named : (law : KeysNamed) (plan : Plan) (es : List (List ℕ × ℕ)) → ((key : List ℕ) → list_any (eq_by_cmp by_bytes key) (map (λ e. e.0) es) ≡ true → is_among (all_keys plan.scripts) key ≡ true)
    → AllNamed (key_name (keys_in plan.scripts)) (key_number (keys_in plan.scripts)) es
all_named law plan [] among = tt
all_named law plan (e ∷ es) among = (
  law plan.scripts e.0 (among e.0 (ap (λ (b : Bool). b || list_any (eq_by_cmp by_bytes e.0) (map (λ e. e.0) es)) (itself e.0))),
  all_named law plan es (λ key is. among key (later (eq_by_cmp by_bytes key e.0) is)),
)
  where
    later : {b : Bool} (a : Bool) → b ≡ true → (a || b) ≡ true
    later true is = refl
    later false is = is

    itself : (key : List ℕ) → eq_by_cmp by_bytes key key ≡ true
    itself key = by_order (by_bytes key key) (nat_list_cmp_total.antisymm key key)
      where
        by_order : (o : Ordering) → o ≡ ordering_reverse o → is_eq o ≡ true
        by_order Less is = absurd cc
        by_order Equal is = refl
        by_order Greater is = absurd cc

pub range_sorted : KeysNamed → (plan : Plan) (m : FinMap by_bytes ℕ) → HasKeysIn (all_keys plan.scripts) m
    → let pairs = map {B = ℕ × ℕ} (λ pair. (key_number (keys_in plan.scripts) pair.0, pair.1)) (entries m) in AreSorted (keys_in plan.scripts) 0 pairs pairs
range_sorted law plan m keys_among =
    let named = all_named law plan (entries m) (λ key is. keys_among key (contains_key-keys m key ∙ is)) in
    let pairs = map {B = ℕ × ℕ} (λ (pair : List ℕ × ℕ). (key_number (keys_in plan.scripts) pair.0, pair.1)) (entries m) in
    (IsPermutation-refl pairs, λ k d low below. sorted_numbered (key_name (keys_in plan.scripts)) (key_number (keys_in plan.scripts)) (entries m) named (entries_sorted m) k d below)
