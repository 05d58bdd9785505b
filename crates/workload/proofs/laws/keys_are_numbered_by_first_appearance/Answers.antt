use Rattle.std.proofs.Common.{[]}
use Rattle.workload.specs.Draft.{all_keys}
use Rattle.workload.proofs.KeyNumbers.{any_names, length_keys}
use Rattle.workload.proofs.KeyLaws.{number_of_place, place_of_number, named, numbered_in_order}
use Rattle.workload.proofs.laws.keys_are_numbered_by_first_appearance.Goals as goal

pub returns-clause-keys : goal.returns-clause-keys
returns-clause-keys c scripts name = any_names [] (all_keys scripts) name

pub returns-clause-number : goal.returns-clause-number
returns-clause-number c scripts name number = (number_of_place scripts name number, place_of_number scripts name number)

pub returns-clause-named : goal.returns-clause-named
returns-clause-named c = named

pub returns-clause-first : goal.returns-clause-first
returns-clause-first c = numbered_in_order

pub returns-clause-count : goal.returns-clause-count
returns-clause-count c = length_keys
