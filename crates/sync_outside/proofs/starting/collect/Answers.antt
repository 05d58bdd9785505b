use Rattle.std.proofs.Common.{rules, ◌≡◌, List, [], Some, subst}
use Rattle.std.specs.List.{AllZip}
use Rattle.std.proofs.lemmas.List.{append-nil}
use Rattle.std.proofs.lemmas.List.Elements.{All-pop}
use Rattle.sync_outside.specs.Told.{owed}
use Rattle.sync_outside.proofs.Threads.{join_one}
use Rattle.sync_outside.proofs.starting.collect.Goals as goal

pub loop-handle-preserved : goal.loop-handle-preserved
loop-handle-preserved g c = (
  (All-pop (λ h. h.promise.word.now.id ≡ c.args.token.now.of) _ _ (Some c.in-Some.handle) c.in-Some.ensures.items c.loop-handle.invariant.0).0,
  search rules,
  join_one _ _ _ _ _ _ _ _ c.in-Some.handle c.loop-handle.invariant.2 c.in-Some.ensures.items c.push_within.ensures.items c.join_done.ensures,
)

-- no thread is left
pub returns : goal.returns
returns g c =
    let P : List _ → Type 0 = λ l. AllZip g.W.Work.gives (owed (λ h. h.promise.job.value) c.args.handles.items) l in
    let Q : List _ → Type 0 = λ hs. AllZip g.W.Work.gives (owed (λ h. h.promise.job.value) hs) [] in
    let none : [] ≡ c.loop-handle.handles.items = grind rules in
    subst P (append-nil c.loop-handle.results.items) (c.loop-handle.invariant.2 [] (subst Q none tt))
