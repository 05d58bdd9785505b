use Rattle.std.proofs.Common.{◌<◌, length, refl, subst, get_or, arith}
use Rattle.std.proofs.lemmas.List.{take_all}
use Rattle.std.proofs.lemmas.Option.{slice_get-get_or}
use Rattle.vector_clocks.specs.Knowing.{AreSet}
use Rattle.vector_clocks.proofs.Channels.{sets_more}
use Rattle.vector_clocks.proofs.clocks.set_all.Goals as goal

pub loop-channel-init : goal.loop-channel-init
loop-channel-init c = λ d k at. (k, at, refl)

within : (c : goal.After-row_known-1) → get_or c.args.sets.now c.loop-channel.channel-index 0 < length c.loop-channel.channels
within c =
    let e = c.requires c.loop-channel.channel-index 0 c.loop-channel-test.true in
    let f = c.loop-channel.auto.channels in
    omega (arith, e, f)

pub loop-channel-preserved : goal.loop-channel-preserved
loop-channel-preserved c = sets_more c.args.sets.now c.loop-channel.channel-index c.loop-channel-test.true c.args.clock.now c.args.channels.now c.loop-channel.channels
    (get_or c.loop-channel.channels (get_or c.args.sets.now c.loop-channel.channel-index 0) c.args.clock.now)
    (slice_get-get_or c.loop-channel.channels (get_or c.args.sets.now c.loop-channel.channel-index 0) c.args.clock.now (within c)) c.loop-channel.invariant

pub returns : goal.returns
returns c = subst (λ xs. AreSet xs c.args.clock.now c.args.channels.now c.loop-channel.channels) (take_all c.loop-channel.channel-index c.args.sets.now c.loop-channel-test.false) c.loop-channel.invariant
