use Rattle.std.proofs.Common.{arith}
use Rattle.workload.specs.Draft.{all_keys, distinct_count}
use Rattle.step_runner.proofs.RunKeys.{Keys, items_keys}
use Rattle.step_runner.proofs.laws.pairs_are_few.Goals as goal

abbrev keys : goal.After-keys_are_kept → Keys
keys c = record { begins = c.maps_keep_to_the_keys_of_calls.ensures.begins; goes_on = c.keys_are_kept.ensures }

pub returns : goal.returns
returns c plan items = (items_keys (keys c) plan (distinct_count (all_keys plan.scripts)) items (omega arith)).few
