use Rattle.std.proofs.Common.{rules, ◌≡◌, Some}
use Rattle.std.proofs.lemmas.List.Elements.{All-pop}
use Rattle.sync_outside.proofs.Threads.{take_one}
use Rattle.sync_outside.proofs.starting.take_back.Goals as goal

pub loop-handle-preserved : goal.loop-handle-preserved
loop-handle-preserved g c = (
  (All-pop (λ h. h.promise.word.now.id ≡ c.args.token.now.of) _ _ (Some c.in-Some.handle) c.in-Some.ensures.items c.loop-handle.invariant.0).0,
  search rules,
  take_one _ _ _ _ _ _ _ c.in-Some.handle c.loop-handle.invariant.2 c.in-Some.ensures.items c.push_within.ensures.items c.join_kept.ensures,
)
