use Rattle.std.proofs.Common.{◌≡◌, ◌++◌, drop, map}
use Rattle.workload.specs.Draft.{all_keys}
use Rattle.workload.specs.Keys.{with_names, keys_in, call_number, numbers_in}
use Rattle.workload.proofs.keys.Keys.of_scripts.Given as goal

abbrev pub invariant-loop-script : goal.invariant-loop-script
invariant-loop-script l =
    (with_names l.keys (all_keys (drop l.script-index l.scripts)) ≡ keys_in l.scripts)
    × (l.numbers ++ map (map (call_number (keys_in l.scripts))) (drop l.script-index l.scripts) ≡ numbers_in l.scripts)
