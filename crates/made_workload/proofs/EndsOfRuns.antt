-- The ends of a run of a seed's workload.
use Rattle.std.proofs.Common.{◌≡◌, ℕ, pos, false, cond, List, [], ◌∷◌, ◌++◌, map, length, get_or, refl, sym, ap, ◌∙◌, arith}
use Rattle.std.specs.Prelude.{sum, sum_by, count_by, zip, codes}
use Rattle.std.specs.FinMap.{empty, entries, values, len, len-entries}
use Rattle.std.specs.List.{flat_map}
use Rattle.std.proofs.lemmas.List.{append-nil, length-map, length-replicate}
use Rattle.std.proofs.lemmas.List.Sums.{sum-map, sum_by-cons}
use Rattle.sync_types.specs.declared.atomic_object.Number.{Number}
use Rattle.sync_types.specs.declared.atomic_object.Number.TheVariants.{Int64, Bool as Truth}
use Rattle.sync_model.specs.declared.item.SharedEntry.{SharedEntry}
use Rattle.sync_types.specs.declared.end.End.{End}
use Rattle.sync_types.specs.declared.end.End.TheVariants as ends
use Rattle.script_calls.specs.declared.outcome.Report.{Report}
use Rattle.sync_types.specs.Ends.{ends_of}
use Rattle.sync_types.specs.SequentialAtomic.{zero_of}
use Rattle.sync_model.specs.SharedHistory.{map_at, number_at, contents_after}
use Rattle.workload.specs.declared.object.ObjectLine.{ObjectLine}
use Rattle.workload.specs.Keys.{keys_in, key_number}
use Rattle.run_record.specs.Objects.{is_map, is_atomic, types_of, map_number, atomic_number, places_from, contents_of, named, ends_in}
use Rattle.made_workload.specs.Generated.{generated_plan}
use Rattle.workload.specs.OwnMaps.{union_of, NamedMap}
use Rattle.made_workload.specs.Summary.{Summary, summary, summary_of, numbered, summary_text}
use Rattle.made_workload.specs.Runs.{ends_of_seed, number_in, is_key, value_in, five_lines}
use Rattle.made_workload.proofs.RunRounds.{objects_are}

-- a list of one
one_item : {A : Type 0} (xs : List A) (d : A) → length xs ≡ 1 → xs ≡ get_or xs 0 d ∷ []
one_item [] d one = absurd (omega (arith, one))
one_item (x ∷ []) d one = refl
one_item (x ∷ (y ∷ xs)) d one = absurd (omega (arith, one))

one_map : (seed : ℕ) → length (contents_of (generated_plan seed)).maps ≡ 1
one_map seed = length-replicate (count_by (λ (o : ObjectLine). is_map o.kind) (generated_plan seed).objects) empty ∙ ap (count_by (λ (o : ObjectLine). is_map o.kind)) (objects_are seed)

one_number : (seed : ℕ) → length (contents_of (generated_plan seed)).numbers ≡ 1
one_number seed = length-map (flat_map (λ (o : ObjectLine). types_of o.kind) (generated_plan seed).objects) zero_of ∙ ap (λ (objects : List ObjectLine). length (flat_map (λ (o : ObjectLine). types_of o.kind) objects)) (objects_are seed)

pub first_number : (seed : ℕ) → atomic_number (generated_plan seed).objects 1 ≡ 0
first_number seed = ap (λ (objects : List ObjectLine). atomic_number objects 1) (objects_are seed)

pub first_map : (seed : ℕ) → map_number (generated_plan seed).objects 2 ≡ 0
first_map seed = ap (λ (objects : List ObjectLine). map_number objects 2) (objects_are seed)

-- the ends, by what the int64 and the map hold
pub ends_are : (seed : ℕ) (history : List SharedEntry) (n : Number) (m : NamedMap)
    → length (contents_after (contents_of (generated_plan seed)) history).maps ≡ length (contents_of (generated_plan seed)).maps
    → length (contents_after (contents_of (generated_plan seed)) history).numbers ≡ length (contents_of (generated_plan seed)).numbers
    → number_at (contents_after (contents_of (generated_plan seed)) history) 0 ≡ n
    → named (keys_in (generated_plan seed).scripts) (map_at (contents_after (contents_of (generated_plan seed)) history) 0) ≡ m
    → ends_in (generated_plan seed) (contents_after (contents_of (generated_plan seed)) history) ≡ ends.Number 1 n ∷ map (λ entry. ends.Pair 2 (key_number (keys_in (generated_plan seed).scripts) entry.0) entry.1) (entries m)
ends_are seed history n m maps_stay numbers_stay number_is map_is =
    let keys = keys_in (generated_plan seed).scripts in
    let contents = contents_after (contents_of (generated_plan seed)) history in
    let numbers : contents.numbers ≡ n ∷ [] = one_item contents.numbers (Truth false) (numbers_stay ∙ one_number seed) ∙ ap (λ (x : Number). x ∷ []) number_is in
    let maps : map (named keys) contents.maps ≡ m ∷ [] = ap (map (named keys)) (one_item contents.maps empty (maps_stay ∙ one_map seed)) ∙ ap (λ (x : NamedMap). x ∷ []) map_is in
    let atomics : places_from 0 is_atomic (generated_plan seed).objects ≡ 1 ∷ [] = ap (places_from 0 is_atomic) (objects_are seed) in
    let places : places_from 0 is_map (generated_plan seed).objects ≡ 2 ∷ [] = ap (places_from 0 is_map) (objects_are seed) in
    ap (λ (p : List ℕ). ends_of (key_number keys) (record { numbers = zip p contents.numbers; maps = zip (places_from 0 is_map (generated_plan seed).objects) (map (named keys) contents.maps) })) atomics
    ∙ (ap (λ (p : List ℕ). ends_of (key_number keys) (record { numbers = zip (1 ∷ []) contents.numbers; maps = zip p (map (named keys) contents.maps) })) places
    ∙ (ap (λ (x : List Number). ends_of (key_number keys) (record { numbers = zip (1 ∷ []) x; maps = zip (2 ∷ []) (map (named keys) contents.maps) })) numbers
    ∙ (ap (λ (x : List NamedMap). ends_of (key_number keys) (record { numbers = zip (1 ∷ []) (n ∷ []); maps = zip (2 ∷ []) x })) maps
    ∙ ap (λ (x : List End). ends.Number 1 n ∷ x) (append-nil (map (λ entry. ends.Pair 2 (key_number keys entry.0) entry.1) (entries m))))))

-- what the ends tell: the total, how many keys there are, and the sum of their values
module _ (number : List ℕ → ℕ) where
  abbrev pairs : List (List ℕ × ℕ) → List End
  pairs es = map (λ entry. ends.Pair 2 (number entry.0) entry.1) es

  pairs_number : (es : List (List ℕ × ℕ)) → sum_by number_in (pairs es) ≡ 0
  pairs_number [] = refl
  pairs_number (e ∷ es) = let rest = pairs_number es in omega (arith, rest, sum_by-cons number_in (ends.Pair 2 (number e.0) e.1) (pairs es))

  pairs_count : (es : List (List ℕ × ℕ)) → count_by is_key (pairs es) ≡ length es
  pairs_count [] = refl
  pairs_count (e ∷ es) = let rest = pairs_count es in omega (arith, rest, sum_by-cons (λ (x : End). cond (is_key x) 1 0) (ends.Pair 2 (number e.0) e.1) (pairs es))

  pairs_sum : (es : List (List ℕ × ℕ)) → sum_by value_in (pairs es) ≡ sum (map (λ e. e.1) es)
  pairs_sum [] = refl
  pairs_sum (e ∷ es) = let rest = pairs_sum es in omega (arith, rest, sum_by-cons value_in (ends.Pair 2 (number e.0) e.1) (pairs es), sum-map (λ (x : List ℕ × ℕ). x.1) (e ∷ es), sum-map (λ (x : List ℕ × ℕ). x.1) es, sum_by-cons (λ (x : List ℕ × ℕ). x.1) e es)

  module _ (total : ℕ) (m : NamedMap) where
    abbrev all_ends : List End
    all_ends = ends.Number 1 (Int64 (pos total)) ∷ pairs (entries m)

    pub tells_total : sum_by number_in all_ends ≡ total
    tells_total = let rest = pairs_number (entries m) in omega (arith, rest, sum_by-cons number_in (ends.Number 1 (Int64 (pos total))) (pairs (entries m)))

    pub tells_keys : count_by is_key all_ends ≡ len m
    tells_keys = let rest = pairs_count (entries m) in omega (arith, rest, len-entries m, sum_by-cons (λ (x : End). cond (is_key x) 1 0) (ends.Number 1 (Int64 (pos total))) (pairs (entries m)))

    pub tells_sum : sum_by value_in all_ends ≡ sum (values m)
    tells_sum = let rest = pairs_sum (entries m) in omega (arith, rest, sum_by-cons value_in (ends.Number 1 (Int64 (pos total))) (pairs (entries m)))

-- five lines of five numbers
abbrev text_of : ℕ → ℕ → ℕ → ℕ → ℕ → List ℕ
text_of workers calls total keys all =
    numbered (codes "workers") workers ++ numbered (codes "calls") calls ++ numbered (codes "total") total ++ numbered (codes "keys") keys ++ numbered (codes "sum") all

same_text : (w c t k a w' c' t' k' a' : ℕ) → w ≡ w' → c ≡ c' → t ≡ t' → k ≡ k' → a ≡ a' → text_of w c t k a ≡ text_of w' c' t' k' a'
same_text w c t k a w' c' t' k' a' p q r s e = λ i. text_of (p i) (q i) (r i) (s i) (e i)

pub lines_are : (seed : ℕ) (left : Report) → summary seed ≡ summary_of (generated_plan seed).scripts → length left.replies ≡ 8 → sum_by length left.replies ≡ 16000 → left.ends ≡ ends_of_seed seed → five_lines left ≡ summary_text (summary seed)
lines_are seed left is workers calls all =
    let number = key_number (keys_in (generated_plan seed).scripts) in
    let m = union_of 2 (generated_plan seed).scripts in
    same_text _ _ _ _ _ _ _ _ _ _ workers calls
    (ap (sum_by number_in) all ∙ tells_total number (summary seed).total m)
    (ap (count_by is_key) all ∙ (tells_keys number (summary seed).total m ∙ sym (ap (λ (s : Summary). s.keys) is)))
    (ap (sum_by value_in) all ∙ (tells_sum number (summary seed).total m ∙ sym (ap (λ (s : Summary). s.sum) is)))
