use Rattle.std.proofs.Common.{◌≡◌, length, ap, ◌∙◌, subst, arith, rules}
use Rattle.run_record.specs.Objects.{first_part, starts_number}
use Rattle.thread_runner.specs.Dealing.{AreMade}
use Rattle.thread_runner.proofs.deal.make_pools.Goals as goal

pub loop-place-init : goal.loop-place-init
loop-place-init g c = record {
  home = search rules;
  own = search rules;
  front = search rules;
  made = subst (λ n. AreMade g.N.Note.at c.args.crew.now.home.now c.args.crew.now.workers c.args.workload.now n c.args.objects.now.items c.args.columns.now.items) (omega arith) c.requires.made;
}

pub returns-clause-made : goal.returns-clause-made
returns-clause-made g c =
    let plan = c.args.workload.now in
    let ends : c.loop-place.place ≡ length plan.objects = search (rules, arith) in
    let all : first_part plan c.loop-place.place ≡ starts_number plan = ap (λ n. first_part plan n) ends ∙ c.parts_have_numbers_of_their_own.ensures.all plan in
    subst (λ n. AreMade g.N.Note.at c.args.crew.now.home.now c.args.crew.now.workers plan n c.loop-place.objects.items c.loop-place.columns.items) all c.loop-place.invariant.made
