use Rattle.std.proofs.Common.{Some, map, sym, subst}
use Rattle.workload.specs.declared.keyword.Verb.TheVariants as verbs
use Rattle.workload_text.specs.LineResult.{IsCallIn}
use Rattle.workload_text.proofs.call_reading.read_wait_for.Goals as goal

pub returns-in_ok-atomic-in-Cond : goal.returns-in_ok-atomic-in-Cond
returns-in_ok-atomic-in-Cond c =
    let said = c.in_ok-atomic-in-Cond in
    subst (λ k. IsCallIn c.args.draft.now k verbs.WaitFor (map (λ w. w.now) c.args.words.now) (Some said.atomic, said.call)) (sym c.in-Cond.is) (said.ensures c.in-Cond.mutex)
