-- What the calls of a seed's workload come to, whatever the order in which the workers make them.
use Rattle.std.specs.Prelude.{ℕ, pos, List, [], ◌∷◌, ◌++◌, sum, sum_by, codes}
use Rattle.std.specs.Fmt.{decimal}
use Rattle.std.specs.FinMap.{values, len}
use Rattle.sync_types.specs.declared.atomic_object.AtomicCall.TheVariants.{Add}
use Rattle.sync_types.specs.declared.atomic_object.Number.TheVariants.{Int64}
use Rattle.script_calls.specs.declared.call.Call.{Call}
use Rattle.script_calls.specs.declared.call.Operation.{Operation}
use Rattle.script_calls.specs.declared.call.Operation.TheVariants as operations
use Rattle.workload.specs.Canonical.{text_line}
use Rattle.workload.specs.OwnMaps.{union_of}
use Rattle.made_workload.specs.Generated.{generated_plan}

pub record Summary : Type 0 where
  pub total : ℕ  -- what `total` holds at the end
  pub keys : ℕ  -- how many keys the map has at the end
  pub sum : ℕ  -- the sum of their values

-- what an operation adds to an int64; an amount below 0 is none that is generated
abbrev pub amount_of : Operation → ℕ
amount_of (operations.Atomic (Add (Int64 (pos amount)))) = amount
amount_of operation = 0

-- the sum of all amounts, and the keys and the values of the union of the workers' maps, each of its own calls on `t`
abbrev pub summary_of : List (List Call) → Summary
summary_of scripts = record {
  total = sum_by (λ script. sum_by (λ call. amount_of call.operation) script) scripts;
  keys = len (union_of 2 scripts);
  sum = sum (values (union_of 2 scripts));
}

unfoldable pub summary : ℕ → Summary
summary seed = summary_of (generated_plan seed).scripts

-- a line of a word and a number
abbrev pub numbered : List ℕ → ℕ → List ℕ
numbered word number = text_line (word ∷ decimal number ∷ [])

-- the five lines
abbrev pub summary_text : Summary → List ℕ
summary_text s =
    numbered (codes "workers") 8 ++ numbered (codes "calls") 16000 ++ numbered (codes "total") s.total
    ++ numbered (codes "keys") s.keys ++ numbered (codes "sum") s.sum
