-- What a run of a seed's workload leaves, and the five lines that tell of it.
use Rattle.std.specs.Prelude.{ℕ, pos, Bool, true, false, List, ◌∷◌, ◌++◌, map, length, sum_by, count_by, codes}
use Rattle.std.specs.FinMap.{entries}
use Rattle.sync_types.specs.declared.atomic_object.Number.TheVariants.{Int64}
use Rattle.sync_types.specs.declared.end.End.{End}
use Rattle.sync_types.specs.declared.end.End.TheVariants as ends
use Rattle.script_calls.specs.declared.outcome.Report.{Report}
use Rattle.workload.specs.Keys.{keys_in, key_number}
use Rattle.made_workload.specs.Generated.{generated_plan}
use Rattle.workload.specs.OwnMaps.{union_of}
use Rattle.made_workload.specs.Summary.{summary, numbered}

-- what the objects hold at the end: the int64, at place 1, the sum of all amounts, and the map, at place 2, the union of the workers' maps, in the order of the keys
abbrev pub ends_of_seed : ℕ → List End
ends_of_seed seed =
    ends.Number 1 (Int64 (pos (summary seed).total))
    ∷ map (λ entry. ends.Pair 2 (key_number (keys_in (generated_plan seed).scripts) entry.0) entry.1) (entries (union_of 2 (generated_plan seed).scripts))

-- the number of an end, where it is that of an int64 which isn't below 0
abbrev pub number_in : End → ℕ
number_in (ends.Number object (Int64 (pos n))) = n
number_in end = 0

-- whether an end is a key, and its value
abbrev pub is_key : End → Bool
is_key (ends.Pair object key value) = true
is_key end = false

abbrev pub value_in : End → ℕ
value_in (ends.Pair object key value) = value
value_in end = 0

-- five lines of what a run left: the workers, the completed calls, what the int64 holds, how many keys the map has, and the sum of their values
abbrev pub five_lines : Report → List ℕ
five_lines left =
    numbered (codes "workers") (length left.replies) ++ numbered (codes "calls") (sum_by length left.replies) ++ numbered (codes "total") (sum_by number_in left.ends)
    ++ numbered (codes "keys") (count_by is_key left.ends) ++ numbered (codes "sum") (sum_by value_in left.ends)
