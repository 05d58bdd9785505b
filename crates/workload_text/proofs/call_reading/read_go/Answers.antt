use Rattle.std.proofs.Common.{None, map, sym, subst}
use Rattle.workload.specs.declared.keyword.Verb.TheVariants as verbs
use Rattle.workload_text.specs.LineResult.{IsCallIn}
use Rattle.workload_text.proofs.call_reading.read_go.Goals as goal

pub returns-in_ok-read_started-in-WaitGroup : goal.returns-in_ok-read_started-in-WaitGroup
returns-in_ok-read_started-in-WaitGroup c =
    let said = c.in_ok-read_started-in-WaitGroup in
    subst (λ k. IsCallIn c.args.draft.now k verbs.Go (map (λ w. w.now) c.args.words.now) (None, said.field-0)) (sym c.in-WaitGroup.is) (said.ensures c.in-WaitGroup.start)
