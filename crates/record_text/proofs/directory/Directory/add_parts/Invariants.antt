use Rattle.std.proofs.Common.{◌≡◌, ◌++◌, map}
use Rattle.std.specs.List.{range_with_len}
use Rattle.record_text.specs.Journals.{named_part}
use Rattle.record_text.proofs.directory.Directory.add_parts.Given as goal

abbrev pub invariant-loop-part : goal.invariant-loop-part
invariant-loop-part l = l.directory ≡ l.initial.directory ++ map (named_part l.object) (range_with_len 0 l.part)
