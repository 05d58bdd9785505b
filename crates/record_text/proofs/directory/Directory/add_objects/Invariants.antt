use Rattle.std.proofs.Common.{◌≡◌, ◌++◌, map, drop}
use Rattle.record_text.specs.Journals.{named_object}
use Rattle.record_text.proofs.directory.Directory.add_objects.Given as goal

abbrev pub invariant-loop-object : goal.invariant-loop-object
invariant-loop-object l = l.directory ++ map named_object (drop l.object-index l.objects) ≡ l.initial.directory ++ map named_object l.objects
