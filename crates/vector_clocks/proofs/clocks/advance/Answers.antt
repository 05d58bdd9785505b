use Rattle.std.proofs.Common.{◌≡◌, length, refl, slice_get, Some}
use Rattle.std.proofs.lemmas.Option.{slice_get_read}
use Rattle.vector_clocks.proofs.Advance.{next_at}
use Rattle.vector_clocks.proofs.Fitting.{fits_at}
use Rattle.vector_clocks.proofs.clocks.advance.Goals as goal

at : (c : goal.After-channels-1) → slice_get c.args.trace.now c.args.n ≡ Some c.index-trace-n.result
at c = slice_get_read c.args.trace.now (length c.args.trace.now) c.args.n c.index-trace-n.result refl c.requires.within c.index-trace-n.is

pub returns-clause-are : goal.returns-clause-are
returns-clause-are c =
    next_at c.args.trace.now c.args.n c.index-trace-n.result (at c) c.behind-clock.result c.behind-clock.ensures.shows c.args.workers.now c.args.channels.now c.requires.are
    (c.behind-clock.ensures.own c.index-trace-n.result (at c)) (fits_at c.args.trace.now _ _ c.args.n c.index-trace-n.result c.requires.fits (at c)).worker
    c.pass_on.ensures.0 c.pass_on.new.channels c.pass_on.ensures.1 c.pass_on.ensures.2
