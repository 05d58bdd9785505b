use Rattle.std.proofs.Common.{◌≡◌, ◌+◌, ◌<◌, List, [], ◌∷◌, ◌++◌, length, sym, subst, arith, rules}
use Rattle.thread_objects.specs.declared.column.AnyColumn.{AnyColumn}
use Rattle.thread_objects.specs.declared.object.AnyObject.{AnyObject}
use Rattle.thread_runner.specs.Dealing.{AreMade}
use Rattle.thread_runner.proofs.Made.{at_place, next_made, all_nothing}
use Rattle.thread_runner.proofs.deal.make_objects.Goals as goal

pub make_stop-requires-clause-workers : goal.make_stop-requires-clause-workers
make_stop-requires-clause-workers g c =
    let readable = c.workers-workers.ensures.readable in
    (omega (arith, c.requires.workers, readable.some_workers), omega (arith, c.requires.workers, readable.few_workers))

pub loop-place-preserved : goal.loop-place-preserved
loop-place-preserved g c =
    let at = g.N.Note.at in
    let home = c.args.crew.now.home.now in
    let workers = c.args.crew.now.workers in
    let plan = c.args.workload.now in
    let place = c.loop-place.place in
    let within : place < length plan.objects = search (rules, arith) in
    let numbered = at_place at home workers plan place c.in_ok-object.object within c.in_ok-object.ensures.declared in
    let more = next_made at home workers plan (place + 1) c.loop-place.objects.items c.loop-place.columns.items c.in_ok-object.object c.in_ok-object.passes (omega arith) c.loop-place.invariant.made numbered c.in_ok-object.ensures.column c.in_ok-object.ensures.untouched in
    record {
      home = search rules;
      own = search rules;
      front = search rules;
      made = subst (λ (l : List (AnyColumn g.row.N.Denot)). AreMade at home workers plan (place + 1 + 1) c.push_reserved-in-loop-place.new.self.items l) (sym c.push_reserved-in-loop-place-2.ensures.items)
          (subst (λ (l : List (AnyObject g.row.N.Denot g.row.N-Home.Denot)). AreMade at home workers plan (place + 1 + 1) l (c.loop-place.columns.items ++ c.in_ok-object.passes ∷ [])) (sym c.push_reserved-in-loop-place.ensures.items) more);
      objects_room = search rules;
      columns_room = search rules;
    }

pub make_pools-requires-clause-made : goal.make_pools-requires-clause-made
make_pools-requires-clause-made g c =
    let all : c.loop-place.place ≡ length c.args.workload.now.objects = search rules in
    subst (λ n. AreMade g.N.Note.at c.args.crew.now.home.now c.args.crew.now.workers c.args.workload.now (n + 1) c.loop-place.objects.items c.loop-place.columns.items) all c.loop-place.invariant.made

pub returns-clause-nothing : goal.returns-clause-nothing
returns-clause-nothing g c = all_nothing g.N.Note.at c.args.crew.now.home.now c.args.crew.now.workers c.args.workload.now _ _ c.in_ok-make_last.ensures.made
