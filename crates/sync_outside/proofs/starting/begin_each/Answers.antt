use Rattle.std.proofs.Common.{rules, ◌≡◌, List, All, Some, sym, subst}
use Rattle.std.proofs.lemmas.List.Elements.{All-pop, All-push}
use Rattle.sync_outside.proofs.Threads.{start_one}
use Rattle.sync_outside.proofs.starting.begin_each.Goals as goal

pub loop-job-preserved : goal.loop-job-preserved
loop-job-preserved g c =
    let P : List _ → Type 0 = λ hs. All (λ h. h.promise.word.now.id ≡ c.args.word.now.id) hs in (
      subst P (sym c.push_within.ensures.items) (All-push (λ h. h.promise.word.now.id ≡ c.args.word.now.id) _ c.in-Ok.handle c.loop-job.invariant.0 c.in-Ok.ensures.runs.1),
      search rules,
      search rules,
      search rules,
      search rules,
      (All-pop g.W.Work.ready _ _ (Some c.in-Some.job) c.in-Some.ensures.items c.loop-job.invariant.5).0,
      start_one _ _ _ _ c.in-Some.job _ _ _ c.loop-job.invariant.6 c.in-Some.ensures.items c.push_within.ensures.items c.in-Ok.ensures.runs.0,
    )
