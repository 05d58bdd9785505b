use Rattle.std.proofs.Common.{◌≡◌, MatchOption, sym, ap, ◌∙◌, subst}
use Rattle.std.proofs.lemmas.Bool.{false≢true}
use Rattle.workload.specs.Plan.{Plan}
use Rattle.run_check.specs.Fronts.{AllMade, AreKnown, SomeFails}
use Rattle.run_check.proofs.FrontOrder.{KeepFronts, are_made, kept}
use Rattle.run_check.proofs.ToldFronts.{kept_along, keeps, none_fails}
use Rattle.run_check.proofs.fronts.keep_fronts.Goals as goal

pub returns-in-None : goal.returns-in-None
returns-in-None c told claim account plan items tells =
    let workers : told.plan.workers ≡ c.workers.result = ap (λ (p : Plan). p.workers) plan ∙ sym c.workers.ensures.workers in
    let fails : SomeFails c.workers.result c.args.items.now = subst (λ found. MatchOption found (SomeFails c.workers.result c.args.items.now) (λ known. AreKnown c.workers.result c.args.items.now known.items)) c.in-None.is c.in_ok-known_of.ensures in (
      λ no_. absurd (false≢true no_),
      λ law. absurd (none_fails told claim tells account law (subst (λ n. SomeFails n told.items) (sym workers) (subst (SomeFails c.workers.result) (sym items) fails))),
    )

pub returns-in-Some : goal.returns-in-Some
returns-in-Some c told claim account plan items tells =
    let n = c.workers.result in
    let lines = c.args.items.now in
    let known = c.in-Some.known.items in
    let workers : told.plan.workers ≡ n = ap (λ (p : Plan). p.workers) plan ∙ sym c.workers.ensures.workers in
    let are = subst (λ found. MatchOption found (SomeFails n lines) (λ of. AreKnown n lines of.items)) c.in-Some.is c.in_ok-known_of.ensures in
    let value = c.deref.ensures.value in
    let there = λ (keep : KeepFronts n lines). subst (λ k. KeepFronts k told.items) (sym workers) (subst (KeepFronts n) (sym items) keep) in
    let back = λ (keep : KeepFronts told.plan.workers told.items). subst (KeepFronts n) items (subst (λ k. KeepFronts k told.items) workers keep) in (
      λ yes_. keeps told claim tells account (there (kept n lines known are (subst AllMade value (c.are_made.ensures.0 yes_)))),
      λ law. c.are_made.ensures.1 (subst AllMade (sym value) (are_made n lines known are (back (kept_along told claim tells account law)))),
    )
