use Rattle.list_checks.specs.SpellLines.{line_end}
use Rattle.run_check.proofs.HaltsLast.{behind_back, behind_forth}
use Rattle.run_check.proofs.stops.is_behind.Goals as goal

pub returns : goal.returns
returns c = (
  λ yes_. behind_forth c.first_halt-first.result c.args.list.now (line_end c.args.ending) c.first_halt-first.ensures.before (c.are_halts.ensures.0 yes_),
  λ behind. c.are_halts.ensures.1 (behind_back c.first_halt-first.result c.args.list.now (line_end c.args.ending) c.first_halt-first.ensures.before c.first_halt-first.ensures.at behind),
)
