use Rattle.std.proofs.Common.{arith}
use Rattle.record_text.specs.Cuts.{parts_in}
use Rattle.record_text.proofs.Fronts.{a_front}
use Rattle.record_text.proofs.front.read_front.Goals as goal

pub returns : goal.returns
returns c =
    let a = c.len.ensures in
    let b = c.if-len-workers.false in
    rw c.from_vec.ensures (a_front c.args.workers c.args.word.now c.loop-part.front.items (parts_in 44 c.loop-part.rest) c.loop-part.invariant.fit c.loop-part.invariant.parts c.in_default.ensures (omega (arith, a, b)))
