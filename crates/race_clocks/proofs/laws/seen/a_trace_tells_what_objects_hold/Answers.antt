use Rattle.std.proofs.Common.{ap, ◌∙◌}
use Rattle.step_runner.specs.RunItems.{all_made}
use Rattle.step_runner.specs.State.{start}
use Rattle.step_runner.specs.Turns.{after_items}
use Rattle.race_clocks.specs.PoolItems.{kept_behind}
use Rattle.race_clocks.specs.Seen.{cond_behind, map_behind}
use Rattle.race_clocks.proofs.RunSeen.{cond_seen, pool_seen, map_seen}
use Rattle.race_clocks.proofs.laws.seen.a_trace_tells_what_objects_hold.Goals as goal

pub returns-clause-conds : goal.returns-clause-conds
returns-clause-conds c plan items place mutex state valid at =
    ap (cond_behind plan place) (c.a_trace_tells_what_turns_made.ensures.items plan items)
    ∙ cond_seen plan (all_made plan items (start plan)) (after_items plan items (start plan)).objects (c.objects_keep_their_kinds.ensures.kinds plan items valid) (c.objects_come_by_the_items_of_the_run.ensures.always plan items valid) place mutex state at

pub returns-clause-pools : goal.returns-clause-pools
returns-clause-pools c plan items place state valid at =
    ap (kept_behind plan place) (c.a_trace_tells_what_turns_made.ensures.items plan items)
    ∙ pool_seen plan (all_made plan items (start plan)) (after_items plan items (start plan)).objects (c.objects_keep_their_kinds.ensures.kinds plan items valid) (c.objects_come_by_the_items_of_the_run.ensures.always plan items valid) place state at

pub returns-clause-maps : goal.returns-clause-maps
returns-clause-maps c plan items place state valid at =
    ap (map_behind place) (c.a_trace_tells_what_turns_made.ensures.items plan items)
    ∙ map_seen plan (all_made plan items (start plan)) (after_items plan items (start plan)).objects (c.objects_keep_their_kinds.ensures.kinds plan items valid) (c.objects_come_by_the_items_of_the_run.ensures.always plan items valid) place state at
