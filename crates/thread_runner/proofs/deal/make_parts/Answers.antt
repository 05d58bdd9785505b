use Rattle.std.proofs.Common.{◌≡◌, ◌+◌, cond, ap, ◌∙◌, subst, arith, rules}
use Rattle.workload.specs.declared.object.ObjectKind.{ObjectKind}
use Rattle.run_record.specs.Objects.{is_pool, first_part}
use Rattle.thread_runner.specs.Dealing.{AreMade}
use Rattle.thread_runner.proofs.Made.{some_parts, of_pool, at_part, next_made, made_as}
use Rattle.thread_runner.proofs.deal.make_parts.Goals as goal

pub loop-part-init : goal.loop-part-init
loop-part-init g c = record {
  home = search rules;
  own = search rules;
  front = search rules;
  made = subst (λ n. AreMade g.N.Note.at c.args.crew.now.home.now c.args.crew.now.workers c.args.workload.now n c.args.objects.now.items c.args.columns.now.items) (omega arith) c.requires.made;
}

pub loop-part-preserved : goal.loop-part-preserved
loop-part-preserved g c =
    let at = g.N.Note.at in
    let home = c.args.crew.now.home.now in
    let workers = c.args.crew.now.workers in
    let plan = c.args.workload.now in
    let part = c.loop-part._part in
    let count = first_part plan c.args.place + part in
    let line = c.requires.place in
    let some = some_parts (is_pool c.args.kind) workers part (omega (arith, c.loop-part-test.true, c.parts_of-part-end.ensures)) in
    let pool = line.2 ∙ of_pool c.args.kind some.0 in
    let numbered = at_part at home workers plan (c.parts_have_numbers_of_their_own.ensures.apart plan) (c.parts_have_numbers_of_their_own.ensures.within plan) c.args.place part line.0 c.in_ok-object.object line.1 pool (omega (arith, some.1, c.requires.workers)) c.in_ok-object.ensures.part in
    let more = next_made at home workers plan count c.loop-part.objects.items c.loop-part.columns.items c.in_ok-object.object c.in_ok-object.passes (omega arith) c.loop-part.invariant.made numbered c.in_ok-object.ensures.column c.in_ok-object.ensures.untouched in
    let next : count + 1 ≡ first_part plan c.args.place + (part + 1) = omega arith in
    record {
      home = search rules;
      own = search rules;
      front = search rules;
      made = made_as at home workers plan _ _ _ _ _ _ next c.in_ok-push.ensures.items c.in_ok-push-2.ensures.items more;
    }

pub returns-clause-made : goal.returns-clause-made
returns-clause-made g c =
    let plan = c.args.workload.now in
    let line = c.requires.place in
    let follow = c.parts_have_numbers_of_their_own.ensures.follow plan c.args.place line.0 line.1 in
    let kind = ap (λ (k : ObjectKind). cond (is_pool k) plan.workers 0) line.2 in
    let same = ap (λ n. cond (is_pool c.args.kind) n 0) c.requires.workers in
    let all : first_part plan c.args.place + c.loop-part._part ≡ first_part plan (c.args.place + 1) = omega (arith, c.loop-part-test.false, c.loop-part.auto._part-end, c.parts_of-part-end.ensures, follow, kind, same) in
    subst (λ n. AreMade g.N.Note.at c.args.crew.now.home.now c.args.crew.now.workers plan n c.loop-part.objects.items c.loop-part.columns.items) all c.loop-part.invariant.made
