use Rattle.std.proofs.Common.{arith}
use Rattle.workload.specs.Draft.{all_keys, distinct_count}
use Rattle.step_runner.specs.declared.turns.object_state.ObjectState.TheVariants as states
use Rattle.step_runner.proofs.RunKeys.{Keys, items_keys}
use Rattle.step_runner.proofs.laws.keys_are_those_of_calls.Goals as goal

pub returns-clause-keys : goal.returns-clause-keys
returns-clause-keys c = λ plan items object m key is there.
    let keys : Keys = record { begins = c.maps_keep_to_the_keys_of_calls.ensures.begins; goes_on = c.keys_are_kept.ensures } in
    (items_keys keys plan (distinct_count (all_keys plan.scripts)) items (omega arith)).maps object (states.Map m) is key there

pub returns-clause-named : goal.returns-clause-named
returns-clause-named c = λ plan items object m key is there.
    let keys : Keys = record { begins = c.maps_keep_to_the_keys_of_calls.ensures.begins; goes_on = c.keys_are_kept.ensures } in
    c.keys_are_numbered_by_first_appearance.ensures.named plan.scripts key
    ((items_keys keys plan (distinct_count (all_keys plan.scripts)) items (omega arith)).maps object (states.Map m) is key there)
