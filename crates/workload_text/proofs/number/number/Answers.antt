use Rattle.std.proofs.Common.{rules, ap, ◌∙◌, arith}
use Rattle.std.specs.Fmt.{decimal}
use Rattle.workload_text.proofs.number.number.Goals as goal

pub returns-then-value-most-clause-spelled : goal.returns-then-value-most-clause-spelled
returns-then-value-most-clause-spelled c =
    let value = c.in_ok-value.ensures in
    ap decimal value ∙ c.numbers.ensures c.args.word.now (search rules) (omega (arith, value, c.ranges.most.fits))
