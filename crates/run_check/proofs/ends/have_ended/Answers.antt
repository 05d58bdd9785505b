use Rattle.std.proofs.Common.{refl, sym, ◌∙◌, arith}
use Rattle.std.proofs.lemmas.Bool.{false≢true}
use Rattle.run_record.specs.Explains.{HasEnded}
use Rattle.list_checks.specs.declared.spell.line.SpeltLine.{SpeltLine}
use Rattle.list_checks.specs.SpellLines.{line_end}
use Rattle.run_check.proofs.Endings.{all_done, not_here, one_more}
use Rattle.run_check.proofs.ends.have_ended.Goals as goal

abbrev Holds : SpeltLine → Type 0
Holds line = HasEnded (line_end line.ending)

pub returns-then-not-has_ended : goal.returns-then-not-has_ended
returns-then-not-has_ended c = (
  λ no_. absurd (false≢true no_),
  λ all. absurd (false≢true (sym c.if-not-has_ended.true ∙ c.has_ended.ensures.1 (not_here Holds c.args.lines.now c.loop-line.line-index c.line-item.result c.loop-line-test.true c.line-item.is all))),
)

pub loop-line-preserved : goal.loop-line-preserved
loop-line-preserved c = one_more Holds c.args.lines.now c.loop-line.line-index c.line-item.result c.loop-line-test.true c.line-item.is (c.has_ended.ensures.0 c.if-not-has_ended.false) c.loop-line.invariant

pub returns : goal.returns
returns c = (λ yes_. all_done Holds c.args.lines.now c.loop-line.line-index (omega (arith, c.loop-line-test.false)) c.loop-line.invariant, λ all. refl)
