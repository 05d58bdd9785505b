use Rattle.std.proofs.Common.{◌≡◌, ℕ, List, [], ◌∷◌, ◌++◌, map, refl, sym, ap, ◌∙◌}
use Rattle.std.specs.Prelude.{Option, zip}
use Rattle.std.specs.List.{flat_map}
use Rattle.std.proofs.lemmas.Iterator.{YieldsList-from_slice, YieldsList-from_zip}
use Rattle.std.proofs.lemmas.Iterator.Consumers.{YieldsList-end}
use Rattle.std.proofs.lemmas.List.Folds.{flat_map-map}
use Rattle.sync_model.specs.EndsOfHistory.{pair_ends_by}
use Rattle.shared_plain.specs.Slots.{map_of}
use Rattle.shared_plain.proofs.end_list.push_maps.Goals as goal

-- maps by their slots
by_slots : (order places : List ℕ) (maps : List (List (Option ℕ))) → flat_map (λ held. pair_ends_by order (held.0, map_of held.1)) (zip places maps) ≡ flat_map (pair_ends_by order) (zip places (map map_of maps))
by_slots order [] maps = refl
by_slots order (place ∷ places) [] = refl
by_slots order (place ∷ places) (slots ∷ maps) = ap (λ l. pair_ends_by order (place, map_of slots) ++ l) (by_slots order places maps)

pub returns-clause-ends : goal.returns-clause-ends
returns-clause-ends c =
    let all = YieldsList-end (YieldsList-from_zip (YieldsList-from_slice c.args.places.now cc) (YieldsList-from_slice c.args.maps.now cc)) c.loop-object.yielded _ c.loop-object.yielded_by c.next.result c.next.new.self c.in-None.is c.next.ensures.steps in
    let order = c.args.order.now in
    c.loop-object.invariant.are ∙ ap (λ l. c.args.ends.now.items ++ l) (sym (flat_map-map (λ held. pair_ends_by order (held.0, map_of held.1)) (λ pair. (pair.0.now, pair.1.now)) c.loop-object.yielded)
    ∙ (ap (flat_map (λ held. pair_ends_by order (held.0, map_of held.1))) all.0 ∙ by_slots order c.args.places.now c.args.maps.now))
