-- The workloads that have a text.
use Rattle.std.specs.Prelude.{◌≡◌, ◌<◌, ◌≤◌, ℕ, Bool, true, ◌&&◌, not, nat_lt, List, [], ◌∷◌, ◌++◌, length, is_some}
use Rattle.std.specs.List.{list_all}
use Rattle.script_calls.specs.Starts.{start_count}
use Rattle.sync_types.specs.Name.{is_name}
use Rattle.workload.specs.declared.limits.TheConstants.{MAX_ACCESSES, MAX_ALL_TRIES, MAX_CALLS, MAX_KEYS, MAX_RANGES, MAX_TURNS, MAX_WORKERS}
use Rattle.workload.specs.declared.object.ObjectLine.{ObjectLine}
use Rattle.workload.specs.Plan.{Plan, word_of, refers, is_valid}
use Rattle.workload.specs.Draft.{declared_from, count_of, limit_of, is_kind, is_call, is_item, call_count, all_keys, distinct_count, range_count, try_count, access_count}

-- an object that may be declared behind others: its name is new, it refers to one of them if to any, its numbers are in range, and it keeps its limit
abbrev pub may_join : List ObjectLine → ObjectLine → Bool
may_join others object =
    is_name object.name && (not (is_some (declared_from 0 object.name others)) && (refers others object.kind && (is_kind object.kind
    && nat_lt (count_of (word_of object.kind) others) (limit_of (word_of object.kind)))))

-- objects that may be declared behind others, one after the other
abbrev pub may_declare : List ObjectLine → List ObjectLine → Bool
may_declare others [] = true
may_declare others (object ∷ objects) = may_join others object && may_declare (others ++ object ∷ []) objects

-- every name is one, every number is in range, every limit is kept, and no worker is started by two calls
pub record IsReadable (plan : Plan) : Type 0 where
  pub valid : is_valid plan ≡ true
  pub some_workers : 0 < plan.workers
  pub few_workers : plan.workers ≤ MAX_WORKERS
  pub objects : may_declare [] plan.objects ≡ true
  pub calls : list_all (list_all is_call) plan.scripts ≡ true
  pub call_room : call_count plan.scripts ≤ MAX_CALLS
  pub key_room : distinct_count (all_keys plan.scripts) ≤ MAX_KEYS
  pub range_room : range_count plan.scripts ≤ MAX_RANGES
  pub try_room : try_count plan.scripts ≤ MAX_ALL_TRIES
  pub access_room : access_count plan.scripts ≤ MAX_ACCESSES
  pub starts : (worker : ℕ) → start_count worker plan.scripts ≤ 1
  pub items : list_all (is_item plan.workers) plan.schedule ≡ true
  pub turn_room : length plan.schedule ≤ MAX_TURNS
