use Rattle.std.proofs.Common.{◌≡◌, ℕ, List, [], Contains, length, map, get_or, Option, Some, slice_get, sym, ap, ◌∙◌, subst, arith}
use Rattle.std.specs.Option.{option_map_or}
use Rattle.std.proofs.lemmas.Option.{slice_get-get_or, get_or_from_slice_get, same_Some}
use Rattle.std.proofs.lemmas.Result.{IfOk-weaker}
use Rattle.workload.specs.Keys.{keys_in, number_in, key_number, key_name}
use Rattle.sync_model.specs.EndsByName.{AreInNameOrder}
use Rattle.run_check.proofs.key_order.key_order.Goals as goal

pub places_by_name-requires-clause-few : goal.places_by_name-requires-clause-few
places_by_name-requires-clause-few c =
    let scripts = c.args.workload.now.scripts in
    let long : length c.names.result.now ≡ length (keys_in scripts) = ap (λ (names : List (List ℕ)). length names) (c.names.ensures ∙ c.keys.ensures) in
    let count = c.keys_are_numbered_by_first_appearance.ensures.count scripts in
    omega (arith, long, count, c.workers-workers.ensures.readable.key_room)

pub places_by_name-requires-clause-apart : goal.places_by_name-requires-clause-apart
places_by_name-requires-clause-apart c i j name first second =
    let scripts = c.args.workload.now.scripts in
    let same = c.names.ensures ∙ c.keys.ensures in
    let law = c.keys_are_numbered_by_first_appearance.ensures.number scripts name in
    let at : (k : ℕ) → slice_get c.names.result.now k ≡ Some name → number_in (keys_in scripts) name ≡ Some k = λ k found. (law k).1 (ap (λ (names : List (List ℕ)). slice_get names k) (sym same) ∙ found) in
    same_Some i j (sym (at i first) ∙ at j second)

pub returns-clause-order : goal.returns-clause-order
returns-clause-order c =
    let keys = keys_in c.args.workload.now.scripts in
    let same = c.names.ensures ∙ c.keys.ensures in
    let law = c.keys_are_numbered_by_first_appearance.ensures.number c.args.workload.now.scripts in
    IfOk-weaker c.numbers_of.result _ _
    (λ order is.
    subst (AreInNameOrder (key_name keys) (key_number keys)) (sym (is ∙ ap (map (λ entry. entry.1)) c.in_ok-entries.ensures))
    (c.numbers_by_name_are_in_name_order.ensures.order (key_name keys) (key_number keys) c.in_ok-places.places
    (λ word key found.
    let at : slice_get keys key ≡ Some word = ap (λ (names : List (List ℕ)). slice_get names key) (sym same) ∙ c.in_ok-places.ensures.name word key found in
    (get_or_from_slice_get keys key word [] at, ap (λ (n : Option ℕ). option_map_or (λ number. number) n 0) ((law word key).1 at)))))
    c.numbers_of.ensures

pub returns-clause-all : goal.returns-clause-all
returns-clause-all c =
    let keys = keys_in c.args.workload.now.scripts in
    let same = c.names.ensures ∙ c.keys.ensures in
    IfOk-weaker c.numbers_of.result _ _
    (λ order is key below.
    let word = get_or keys key [] in
    let at : slice_get c.names.result.now key ≡ Some word = ap (λ (names : List (List ℕ)). slice_get names key) same ∙ slice_get-get_or keys key [] below in
    subst (λ (numbers : List ℕ). Contains numbers key) (sym (is ∙ ap (map (λ entry. entry.1)) c.in_ok-entries.ensures))
    (c.numbers_by_name_are_in_name_order.ensures.all c.in_ok-places.places word key (c.in_ok-places.ensures.all word key at)))
    c.numbers_of.ensures
