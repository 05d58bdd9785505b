use Rattle.std.proofs.Common.{◌≡◌, ℕ, ◌+◌, ◌<◌, ◌≤◌, List, [], ◌==◌, cond, length, get_or, map, Some, slice_get, refl, sym, ap, ◌∙◌, subst, arith, rules}
use Rattle.std.specs.Prelude.{vec_len}
use Rattle.std.proofs.lemmas.Iterator.Adapters.{YieldsList-from_vec}
use Rattle.std.proofs.lemmas.Iterator.Consumers.{YieldsList-turn}
use Rattle.std.proofs.lemmas.List.{map_push, length_push, length-map}
use Rattle.std.proofs.lemmas.Option.{slice_get_read}
use Rattle.thread_objects.specs.declared.pass.AnyPass.{AnyPass}
use Rattle.thread_objects.specs.Desks.{AreSeats}
use Rattle.thread_objects.specs.Passes.{owns_of}
use Rattle.thread_objects.specs.Rows.{made_on}
use Rattle.thread_runner.proofs.Dealt.{all_back, mapped_found, others_as_before}
use Rattle.thread_runner.proofs.deal.collect.Goals as goal

pub put_row-requires-clause-seats : goal.put_row-requires-clause-seats
put_row-requires-clause-seats g c =
    let rows = c.args.rows.items in
    let long : vec_len c.args.rows ≡ length rows = search rules in
    let of = c.into_iter-row-iterator.ensures.into_iter_gives in
    let turn = YieldsList-turn (YieldsList-from_vec rows of.0 (of.1 ∙ long)) c.loop-row.yielded _ c.loop-row.yielded_by c.next.result c.next.new.self c.in-Some.row c.in-Some.is c.next.ensures.steps in
    let place = length c.loop-row.yielded in
    let found : slice_get (map (λ row. row.items) rows) place ≡ Some c.in-Some.row.items = mapped_found (λ row. row.items) rows place c.in-Some.row (slice_get_read rows (length rows) place c.in-Some.row refl turn.0 turn.1) in
    let seats = c.requires.seats place c.in-Some.row.items found in
    subst (λ (r : List (AnyPass g.row.N.Denot)). AreSeats g.N.Note.at c.args.crew.now.home.now c.args.crew.now.workers c.loop-row.worker c.args.objects.now r) (sym c.deref_mut.ensures.value)
    (subst (λ n. AreSeats g.N.Note.at c.args.crew.now.home.now c.args.crew.now.workers n c.args.objects.now c.in-Some.row.items) (sym c.loop-row.invariant.worker) seats)

pub put_row-requires-clause-worker : goal.put_row-requires-clause-worker
put_row-requires-clause-worker g c =
    let rows = c.args.rows.items in
    let long : vec_len c.args.rows ≡ length rows = search rules in
    let of = c.into_iter-row-iterator.ensures.into_iter_gives in
    let turn = YieldsList-turn (YieldsList-from_vec rows of.0 (of.1 ∙ long)) c.loop-row.yielded _ c.loop-row.yielded_by c.next.result c.next.new.self c.in-Some.row c.in-Some.is c.next.ensures.steps in
    omega (arith, turn.0, c.requires.count, c.loop-row.invariant.worker)

pub overflow_add-worker : goal.overflow_add-worker
overflow_add-worker g c =
    let rows = c.args.rows.items in
    let long : vec_len c.args.rows ≡ length rows = search rules in
    let of = c.into_iter-row-iterator.ensures.into_iter_gives in
    let turn = YieldsList-turn (YieldsList-from_vec rows of.0 (of.1 ∙ long)) c.loop-row.yielded _ c.loop-row.yielded_by c.next.result c.next.new.self c.in-Some.row c.in-Some.is c.next.ensures.steps in
    let low : c.loop-row.worker < c.args.crew.now.workers = omega (arith, turn.0, c.requires.count, c.loop-row.invariant.worker) in
    let few : c.loop-row.worker + 1 ≤ 64 = omega (arith, low, c.requires.few) in
    search rules

pub loop-row-preserved : goal.loop-row-preserved
loop-row-preserved g c =
    let before = map (λ row. row.items) c.loop-row.yielded in
    let row = c.in-Some.row.items in
    let same : length before ≡ length c.loop-row.yielded = length-map c.loop-row.yielded (λ row. row.items) in
    let pushed = map_push (λ row. row.items) c.loop-row.yielded c.in-Some.row in
    let longer = length_push c.loop-row.yielded c.in-Some.row in
    let longer_too = length_push before row in
    let put : (object other : ℕ) → made_on c.put_row.new.columns object other ≡ cond (other == length before) (owns_of row object) (made_on c.loop-row.columns object other) =
    λ object other. c.put_row.ensures.made object other ∙ ap (λ n. cond (other == n) (owns_of c.deref_mut.result.now object) (made_on c.loop-row.columns object other)) (c.loop-row.invariant.worker ∙ sym same)
    ∙ ap (λ (r : List (AnyPass g.row.N.Denot)). cond (other == length before) (owns_of r object) (made_on c.loop-row.columns object other)) c.deref_mut.ensures.value in
    let back = all_back c.args.columns.now c.loop-row.columns c.put_row.new.columns before row put (λ object worker low. c.loop-row.invariant.made object worker (omega (arith, low, same))) in
    let others = others_as_before c.args.columns.now c.loop-row.columns c.put_row.new.columns before row put (λ object worker high. c.loop-row.invariant.others object worker (omega (arith, high, same))) in
    record {
      worker = omega (arith, longer, c.loop-row.invariant.worker);
      columns = c.put_row.ensures.columns;
      made = λ object worker low. back object worker (omega (arith, low, longer, longer_too, same)) ∙ ap (λ (l : List (List (AnyPass g.row.N.Denot))). owns_of (get_or l worker []) object) (sym pushed);
      others = λ object worker high. others object worker (omega (arith, high, longer, longer_too, same));
    }
