use Rattle.std.proofs.Common.{sym, ◌∙◌}
use Rattle.std.proofs.lemmas.Bool.{false≢true}
use Rattle.std.proofs.lemmas.Result.{IfOk-weaker}
use Rattle.shared_checks.specs.Calls.{calls_in}
use Rattle.run_check.proofs.ToldFronts.{calls_lawful, front_holds, some_keeps}
use Rattle.run_check.proofs.fronts.front_holds.Goals as goal

pub returns-then-not-keeps_fronts : goal.returns-then-not-keeps_fronts
returns-then-not-keeps_fronts c told claim plan items tells calls legal = (
  λ no_. absurd (false≢true no_),
  λ up. absurd (false≢true (sym c.if-not-keeps_fronts.true ∙ c.keeps_fronts.ensures.1 (calls_lawful claim (calls_in c.args.marked.now) calls up))),
)

pub returns : goal.returns
returns c = IfOk-weaker c.keep_fronts.result _ _ (λ keep decides told claim plan items tells calls legal. (
  λ yes_. front_holds claim (calls_in c.args.marked.now) calls legal (c.keeps_fronts.ensures.0 c.if-not-keeps_fronts.false) (λ account. (decides told claim account plan items tells).0 yes_),
  λ up. let (account, keeps) = some_keeps claim up in (decides told claim account plan items tells).1 keeps,
)) c.keep_fronts.ensures
