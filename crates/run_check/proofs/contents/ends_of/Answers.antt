use Rattle.std.proofs.Common.{◌≡◌, ℕ, ◌++◌, List, map, ap, ◌∙◌}
use Rattle.std.specs.Prelude.{zip}
use Rattle.std.specs.List.{flat_map}
use Rattle.std.specs.Ordering.{nat_cmp}
use Rattle.std.specs.FinMap.{FinMap}
use Rattle.sync_types.specs.declared.atomic_object.Number.{Number}
use Rattle.sync_types.specs.declared.end.End.{End}
use Rattle.sync_types.specs.Ends.{number_end}
use Rattle.sync_model.specs.EndsByName.{HasKeysAmong, ends_by_name}
use Rattle.sync_model.specs.EndsOfHistory.{ends_by, pair_ends_by}
use Rattle.workload.specs.Keys.{keys_in, key_number, key_name}
use Rattle.run_record.specs.Objects.{is_atomic, places_from}
use Rattle.shared_checks.specs.Placing.{contents_of}
use Rattle.run_check.proofs.contents.ends_of.Goals as goal

-- the two lists that are pushed, with what stands for each argument
pushed : (order order2 atomics atomics2 maps maps2 : List ℕ) (numbers numbers2 : List Number) (held held2 : List (FinMap nat_cmp ℕ)) (start : List End) → order2 ≡ order → atomics2 ≡ atomics → maps2 ≡ maps → numbers2 ≡ numbers → held2 ≡ held
    → (start ++ map number_end (zip atomics2 numbers2)) ++ flat_map (pair_ends_by order2) (zip maps2 held2) ≡ (start ++ map number_end (zip atomics numbers)) ++ flat_map (pair_ends_by order) (zip maps held)
pushed order order2 atomics atomics2 maps maps2 numbers numbers2 held held2 start o a m n h =
    ap (λ (l : List ℕ). (start ++ map number_end (zip atomics2 numbers2)) ++ flat_map (pair_ends_by l) (zip maps2 held2)) o
    ∙ ap (λ (l : List ℕ). (start ++ map number_end (zip l numbers2)) ++ flat_map (pair_ends_by order) (zip maps2 held2)) a
    ∙ ap (λ (l : List Number). (start ++ map number_end (zip atomics l)) ++ flat_map (pair_ends_by order) (zip maps2 held2)) n
    ∙ ap (λ (l : List ℕ). (start ++ map number_end (zip atomics numbers)) ++ flat_map (pair_ends_by order) (zip l held2)) m
    ∙ ap (λ (l : List (FinMap nat_cmp ℕ)). (start ++ map number_end (zip atomics numbers)) ++ flat_map (pair_ends_by order) (zip maps l)) h

pub returns : goal.returns
returns c =
    let plan = c.args.workload.now in
    let held = contents_of c.args.objects.now in
    let keys = keys_in plan.scripts in
    let order = c.in_ok-order.order.items in
    let atomics = c.in_ok-atomics.field-0.atomics.items in
    let maps = c.in_ok-atomics.field-0.maps.items in
    let among : HasKeysAmong order held = λ m key value is. c.in_ok-order.ensures.all key (c.requires m key value is) in
    let named = c.ends_are_in_name_order.ensures (key_name keys) (key_number keys) order atomics maps held c.in_ok-order.ensures.order among in
    let start = c.new-ends.result.items in
    let both : c.push_maps.new.ends.items ≡ (start ++ map number_end (zip atomics held.numbers)) ++ flat_map (pair_ends_by order) (zip maps held.maps) =
    c.in_ok-push_maps.ensures
    ∙ (ap (λ (l : List End). l ++ flat_map (pair_ends_by c.deref-4.result.now) (zip c.deref-3.result.now c.deref-5.result.now)) c.in_ok-push_numbers.ensures
    ∙ pushed order c.deref-4.result.now atomics c.deref.result.now maps c.deref-3.result.now held.numbers c.deref-2.result.now held.maps c.deref-5.result.now start c.deref-4.ensures.value c.deref.ensures.value c.deref-3.ensures.value c.deref-2.ensures.value c.deref-5.ensures.value) in
    let none : (start ++ map number_end (zip atomics held.numbers)) ++ flat_map (pair_ends_by order) (zip maps held.maps) ≡ ends_by order atomics maps held =
    ap (λ (l : List End). (l ++ map number_end (zip atomics held.numbers)) ++ flat_map (pair_ends_by order) (zip maps held.maps)) c.new-ends.ensures.items in
    c.from_vec.ensures ∙ both ∙ none ∙ named
    ∙ ap (λ (places : List ℕ). ends_by_name (key_name keys) (key_number keys) places maps held) c.in_ok-atomics.ensures.atomics
    ∙ ap (λ (places : List ℕ). ends_by_name (key_name keys) (key_number keys) (places_from 0 is_atomic plan.objects) places held) c.in_ok-atomics.ensures.maps
