use Rattle.std.proofs.Common.{◌≡◌, ◌+◌, ◌<◌, length, get_or, refl, sym, ◌∙◌, subst, arith, slice_index, slice_get, Some}
use Rattle.std.proofs.lemmas.Option.{slice_get_read, slice_get-get_or, same_Some}
use Rattle.vector_clocks.specs.declared.clock.Clock.{Clock}
use Rattle.vector_clocks.specs.declared.step.Step.{Step}
use Rattle.vector_clocks.specs.Before.{made_before}
use Rattle.vector_clocks.specs.Knowing.{Taken, Shows}
use Rattle.vector_clocks.proofs.OwnCount.{own_is, shows_is}
use Rattle.vector_clocks.proofs.Fitting.{fits_at}
use Rattle.vector_clocks.proofs.clocks.behind.Goals as goal

at : (c : goal.After-count) → slice_get c.args.trace.now c.args.n ≡ Some c.index-trace-n.result
at c = slice_get_read c.args.trace.now (length c.args.trace.now) c.args.n c.index-trace-n.result refl c.requires.within c.index-trace-n.is

abbrev was : (c : goal.After-count) → Clock
was c = get_or c.args.workers.now c.index-trace-n.result.worker c.taken-clock.result

at_was : (c : goal.After-count) → slice_get c.args.workers.now c.index-trace-n.result.worker ≡ Some (was c)
at_was c = slice_get-get_or c.args.workers.now c.index-trace-n.result.worker c.taken-clock.result (fits_at c.args.trace.now _ _ c.args.n c.index-trace-n.result c.requires.fits (at c)).worker

shows : (c : goal.After-count) → Shows c.args.trace.now c.args.n c.taken-clock.result.counts (Taken c.args.trace.now c.args.n c.index-trace-n.result.worker c.index-trace-n.result.takes.items)
shows c = subst (λ xs. Shows c.args.trace.now c.args.n c.taken-clock.result.counts (Taken c.args.trace.now c.args.n c.index-trace-n.result.worker xs)) c.deref.ensures.value (c.taken-clock.ensures.shows c.args.trace.now c.args.n c.requires.are)

long : (c : goal.After-count) → c.index-trace-n.result.worker < length c.taken-clock.result.counts
long c = let e = (fits_at c.args.trace.now _ _ c.args.n c.index-trace-n.result c.requires.fits (at c)).worker in let f = c.requires.fits.few in let g = c.taken-clock.result.size in omega (arith, e, f, g)

pub returns-clause-shows : goal.returns-clause-shows
returns-clause-shows c =
    shows_is c.args.trace.now c.args.n c.index-trace-n.result (at c) (was c).counts c.taken-clock.result.counts c.count.new.self.counts
    (c.requires.are.own c.index-trace-n.result.worker (was c) (at_was c)) (shows c) (c.taken-clock.ensures.rises (was c) (at_was c)) (long c) c.count.ensures

pub returns-clause-own : goal.returns-clause-own
returns-clause-own c = λ x at_x. subst (λ (s : Step). slice_index c.count.new.self.counts s.worker ≡ made_before c.args.trace.now c.args.n s.worker + 1) (same_Some c.index-trace-n.result x (sym (at c) ∙ at_x))
    (own_is c.args.trace.now c.args.n c.index-trace-n.result (at c) (was c).counts c.taken-clock.result.counts c.count.new.self.counts
    (c.requires.are.own c.index-trace-n.result.worker (was c) (at_was c)) (shows c) (c.taken-clock.ensures.rises (was c) (at_was c)) (long c) c.count.ensures)
