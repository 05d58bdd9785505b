use Rattle.std.proofs.Common.{◌≡◌, drop}
use Rattle.std.specs.List.{list_all}
use Rattle.run_cuts.specs.LineCuts.{is_halt}
use Rattle.list_checks.proofs.spell.line.are_halts.Given as goal

abbrev pub invariant-loop-index : goal.invariant-loop-index
invariant-loop-index l = list_all (is_halt l.misuse) (drop l.from l.items) ≡ list_all (is_halt l.misuse) (drop l.index l.items)
