-- What the laws of lower crates say that a turn spells its call by.
use Rattle.std.proofs.Common.{◌≡◌, ℕ, ◌<◌, ◌&&◌, Bool, true, List, ap, ◌∙◌}
use Rattle.std.specs.Prelude.{length, nat_lt}
use Rattle.std.specs.List.{list_any}
use Rattle.std.specs.Str.{bytes_eq}
use Rattle.std.proofs.lemmas.Bool.{lt-ltb}
use Rattle.script_calls.specs.declared.call.Call.{Call}
use Rattle.pool_core.specs.PoolMachine as pool
use Rattle.pool_core.specs.declared.pool_event.PoolEvent.{PoolEvent}
use Rattle.step_runner.specs.MachinesStand.{MachinesStand}
use Rattle.workload.specs.Draft.{all_keys}
use Rattle.workload.specs.Keys.{keys_in, key_number, key_name}

abbrev pub PoolKeeps : Type 0
PoolKeeps = (p : pool.PoolState ℕ) (c n : ℕ) (e : PoolEvent ℕ) → length p.primary ≡ n → length p.victims ≡ n → (length (pool.next p c e).0.primary ≡ n) × (length (pool.next p c e).0.victims ≡ n)

abbrev pub KeysNamed : Type 0
KeysNamed = (scripts : List (List Call)) (name : List ℕ) → list_any (bytes_eq name) (all_keys scripts) ≡ true → key_name (keys_in scripts) (key_number (keys_in scripts) name) ≡ name

pub record Laws : Type 0 where
  pub machines : MachinesStand
  pub pools : PoolKeeps
  pub keys : KeysNamed

-- a caller that is there may make what is needed where it is
pub may : (x n : ℕ) (needed : Bool) → x < n → needed ≡ true → (nat_lt x n && needed) ≡ true
may x n needed below is = ap (λ b. b && needed) (lt-ltb x n below) ∙ is
