use Rattle.std.proofs.Common.{arith}
use Rattle.record_text.proofs.WrittenTexts.{front_added}
use Rattle.record_text.proofs.number_writing.push_front.Goals as goal

pub returns-in-Some : goal.returns-in-Some
returns-in-Some c =
    let is = c.in-Some.ensures.cases in
    let first = c.push_number.ensures in
    let rest = c.push_more_counts.ensures in (
      front_added c.args.line.now.items c.push_number.new.line.items c.push_more_counts.new.line.items c.in-Some.first.now c.in-Some.rest.now c.args.front.now is.0 first.0 rest.0,
      omega (arith, is.1, first.1, rest.1),
      omega (arith, first.2, rest.2),
    )
