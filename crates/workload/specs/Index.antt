-- What a draft keeps beside the plan so that no look-up scans a list.
use Rattle.std.specs.Prelude.{◌≡◌, ℕ, Bool, map, true, false, List, [], ◌∷◌, length, Option, Some, None, nat_lt, get_or, set}
use Rattle.std.specs.Option.{option_map_or}
use Rattle.std.specs.Ordering.{nat_cmp}
use Rattle.std.specs.Cmp.Lexicographic.{slice_cmp}
use Rattle.std.specs.FinMap.{FinMap, get, insert, from_entries}
use Rattle.script_calls.specs.Starts.{start_count}
use Rattle.workload.specs.declared.object.Declared.{Declared}
use Rattle.workload.specs.Plan.{Plan}
use Rattle.workload.specs.Readable.{IsReadable}
use Rattle.workload.specs.Draft.{declared_from, all_keys, call_count, range_count, try_count, access_count}

-- names with nothing at each
abbrev pub marks : List (List ℕ) → List (List ℕ × Unit {0})
marks names = map (λ name. (name, tt)) names

-- the tables say of the plan what they are asked
pub record IsIndexed (plan : Plan) (worker : Option ℕ) (table : FinMap (slice_cmp nat_cmp) Declared) (seen : FinMap (slice_cmp nat_cmp) (Unit {0})) (begun : List Bool) (number many waits accesses : ℕ) : Type 0 where
  pub readable : IsReadable plan
  pub current : option_map_or (λ w. nat_lt w plan.workers) worker true ≡ true
  pub names : (name : List ℕ) → get table name ≡ declared_from 0 name plan.objects
  pub keys : seen ≡ from_entries (marks (all_keys plan.scripts))
  pub workers : length begun ≡ plan.workers
  pub starts : (worker : ℕ) → get_or begun worker false ≡ nat_lt 0 (start_count worker plan.scripts)
  pub calls : number ≡ call_count plan.scripts
  pub ranges : many ≡ range_count plan.scripts
  pub tries : waits ≡ try_count plan.scripts
  pub variables : accesses ≡ access_count plan.scripts

-- for each worker whether a call starts it, with one more call, which starts this worker, if it starts one
abbrev pub marked : List Bool → Option ℕ → List Bool
marked begun None = begun
marked begun (Some worker) = set begun worker true

-- a set of keys with more of them
abbrev pub with_keys : FinMap (slice_cmp nat_cmp) (Unit {0}) → List (List ℕ) → FinMap (slice_cmp nat_cmp) (Unit {0})
with_keys seen [] = seen
with_keys seen (key ∷ keys) = with_keys (insert seen key tt) keys
