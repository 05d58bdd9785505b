use Rattle.run_record.specs.Explains.{IsAtEnd}
use Rattle.list_checks.specs.declared.spell.line.SpeltLine.{SpeltLine}
use Rattle.list_checks.specs.SpellLines.{line_end}
use Rattle.run_check.proofs.Endings.{AllTo}
use Rattle.run_check.proofs.ends.are_at_end.Given as goal

abbrev pub invariant-loop-line : goal.invariant-loop-line
invariant-loop-line l = AllTo (λ (line : SpeltLine). IsAtEnd (line_end line.ending)) l.lines l.line-index
