use Rattle.std.proofs.Common.{◌≡◌, ◌++◌, drop}
use Rattle.std.specs.List.{flat_map}
use Rattle.record_text.specs.Journals.{named_parts}
use Rattle.record_text.proofs.directory.Directory.add_pools.Given as goal

abbrev pub invariant-loop-object : goal.invariant-loop-object
invariant-loop-object l = l.directory ++ flat_map (named_parts l.workers) (drop l.object-index l.objects) ≡ l.initial.directory ++ flat_map (named_parts l.workers) l.objects
