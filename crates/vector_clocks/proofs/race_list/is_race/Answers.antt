use Rattle.std.proofs.Common.{length, refl, arith}
use Rattle.std.proofs.lemmas.Option.{slice_get_read}
use Rattle.vector_clocks.proofs.Racing.{by_before, without}
use Rattle.vector_clocks.proofs.race_list.is_race.Goals as goal

pub returns-then-conflict : goal.returns-then-conflict
returns-then-conflict c =
    let less = c.requires.order in let within = c.requires.within in
    by_before c.args.trace.now c.args.earlier c.args.later c.index-trace-earlier.result c.index-trace-later.result
    (slice_get_read c.args.trace.now (length c.args.trace.now) c.args.earlier c.index-trace-earlier.result refl (omega (arith, less, within)) c.index-trace-earlier.is)
    (slice_get_read c.args.trace.now (length c.args.trace.now) c.args.later c.index-trace-later.result refl c.requires.within c.index-trace-later.is)
    c.requires.order (c.conflict.ensures.0 c.if-conflict.true) c.is_before.result c.is_before.ensures

pub returns-else-conflict : goal.returns-else-conflict
returns-else-conflict c =
    let less = c.requires.order in let within = c.requires.within in
    without c.args.trace.now c.args.earlier c.args.later c.index-trace-earlier.result c.index-trace-later.result
    (slice_get_read c.args.trace.now (length c.args.trace.now) c.args.earlier c.index-trace-earlier.result refl (omega (arith, less, within)) c.index-trace-earlier.is)
    (slice_get_read c.args.trace.now (length c.args.trace.now) c.args.later c.index-trace-later.result refl c.requires.within c.index-trace-later.is)
    c.conflict.result c.if-conflict.false c.conflict.ensures
