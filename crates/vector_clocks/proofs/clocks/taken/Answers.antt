use Rattle.std.proofs.Common.{length, get_or, refl, sym, ◌∙◌, subst, arith}
use Rattle.std.proofs.lemmas.Option.{slice_get_read, same_Some}
use Rattle.vector_clocks.specs.declared.clock.Clock.{Clock}
use Rattle.vector_clocks.specs.Joins.{IsAtLeast}
use Rattle.vector_clocks.proofs.Taking.{takes_none, takes_more, takes_all}
use Rattle.vector_clocks.proofs.clocks.taken.Goals as goal

pub loop-channel-init : goal.loop-channel-init
loop-channel-init c = record {
  shows = λ trace n are.
      takes_none trace n c.args.worker c.index-workers-worker.result.counts
      (are.of_worker c.args.worker c.index-workers-worker.result (slice_get_read c.args.workers.now (length c.args.workers.now) c.args.worker c.index-workers-worker.result refl c.requires.worker c.index-workers-worker.is));
  rises = λ w. omega arith;
}

pub loop-channel-preserved : goal.loop-channel-preserved
loop-channel-preserved c = record {
  shows = λ trace n are.
      takes_more trace n c.args.worker c.args.takes.now c.loop-channel.channel-index c.loop-channel-test.true
      c.loop-channel.clock.counts c.index-channels-channel.result.counts c.join.new.self.counts
      (c.loop-channel.invariant.shows trace n are)
      (are.of_channel (get_or c.args.takes.now c.loop-channel.channel-index 0) c.index-channels-channel.result
      (slice_get_read c.args.channels.now (length c.args.channels.now) (get_or c.args.takes.now c.loop-channel.channel-index 0) c.index-channels-channel.result refl
      (c.requires.takes c.loop-channel.channel-index 0 c.loop-channel-test.true) c.index-channels-channel.is))
      c.join.ensures;
  rises = λ w. let e = c.join.ensures.first w in let f = c.loop-channel.invariant.rises w in omega (arith, e, f);
}

pub returns-clause-shows : goal.returns-clause-shows
returns-clause-shows c = λ trace n are. takes_all trace n c.args.worker c.loop-channel.clock.counts c.args.takes.now c.loop-channel.channel-index c.loop-channel-test.false (c.loop-channel.invariant.shows trace n are)

pub returns-clause-rises : goal.returns-clause-rises
returns-clause-rises c = λ was at.
    let read = slice_get_read c.args.workers.now (length c.args.workers.now) c.args.worker c.index-workers-worker.result refl c.requires.worker c.index-workers-worker.is in
    subst (λ (k : Clock). IsAtLeast c.loop-channel.clock.counts k.counts) (same_Some c.index-workers-worker.result was (sym read ∙ at)) c.loop-channel.invariant.rises
