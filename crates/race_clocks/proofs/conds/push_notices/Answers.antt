use Rattle.std.proofs.Common.{List, ◌++◌, sym, ap, ◌∙◌, append_assoc}
use Rattle.std.specs.List.{flat_map, range_with_len}
use Rattle.race_clocks.specs.Handing.{notice}
use Rattle.race_clocks.specs.declared.channel.Channel.{Channel}
use Rattle.race_clocks.proofs.Lists.{flat_more}
use Rattle.race_clocks.proofs.conds.push_notices.Goals as goal

pub loop-worker-preserved : goal.loop-worker-preserved
loop-worker-preserved c =
    let told = notice c.args.cond c.args.before.now c.args.core.now in
    c.in_ok-push_notice.ensures
    ∙ ap (λ (gives : List Channel). gives ++ told c.loop-worker.worker) c.loop-worker.invariant
    ∙ append_assoc c.args.gives.now (flat_map told (range_with_len 0 c.loop-worker.worker)) (told c.loop-worker.worker)
    ∙ ap (λ (more : List Channel). c.args.gives.now ++ more) (sym (flat_more told c.loop-worker.worker))
