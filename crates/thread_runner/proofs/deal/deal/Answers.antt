use Rattle.std.proofs.Common.{◌≡◌, ℕ, suc, ◌-◌, List, [], map, sym, ap, ◌∙◌, subst, arith, rules}
use Rattle.std.proofs.lemmas.List.{map_push}
use Rattle.thread_objects.specs.Passes.{owns_of}
use Rattle.thread_objects.specs.declared.pass.AnyPass.{AnyPass}
use Rattle.thread_runner.specs.Dealing.{AreRows}
use Rattle.thread_runner.proofs.Dealt.{AreLast, one_more, in_order, mapped_reverse, row_has_all, nothing_left}
use Rattle.thread_runner.proofs.deal.deal.Goals as goal

pub loop-worker-preserved : goal.loop-worker-preserved
loop-worker-preserved g c =
    let at = g.N.Note.at in
    let home = c.args.crew.now.home.now in
    let workers = c.args.crew.now.workers in
    let objects = c.args.objects.now in
    let next = c.loop-worker.worker - 1 in
    let before = c.loop-worker.invariant in
    let row = c.in_ok-row.row.items in
    let some : c.loop-worker.worker ≡ suc next = search rules in
    let made = c.in_ok-row.ensures.made in
    let none : (object : ℕ) → owns_of row object ≡ [] = λ object. sym (row_has_all c.loop-worker.columns c.deal_row.new.columns row next made object) ∙ (before.nothing object next).0 (omega (arith, some)) in
    let more = one_more at home workers objects next (map (λ r. r.items) c.loop-worker.rows.items) row (subst (λ n. AreLast at home workers objects n (map (λ r. r.items) c.loop-worker.rows.items)) some before.rows) (record { seats = c.in_ok-row.ensures.seats; none = none }) in
    let pushed = ap (map (λ r. r.items)) c.push_reserved.ensures.items ∙ map_push (λ r. r.items) c.loop-worker.rows.items c.in_ok-row.row in
    record {
      within = search rules;
      columns = c.in_ok-row.ensures.columns;
      rows = subst (λ (l : List (List (AnyPass g.row.N.Denot))). AreLast at home workers objects next l) (sym pushed) more;
      nothing = nothing_left c.loop-worker.columns c.deal_row.new.columns row workers next made (omega (arith, some, before.within)) (λ object other. ((λ low. (before.nothing object other).0 (omega (arith, low, some))), (before.nothing object other).1));
      room = search rules;
    }

pub returns-clause-rows : goal.returns-clause-rows
returns-clause-rows g c =
    let at = g.N.Note.at in
    let home = c.args.crew.now.home.now in
    let workers = c.args.crew.now.workers in
    let objects = c.args.objects.now in
    let rows = map (λ r. r.items) c.loop-worker.rows.items in
    let done : c.loop-worker.worker ≡ 0 = search rules in
    let all = in_order at home workers objects rows (subst (λ n. AreLast at home workers objects n rows) done c.loop-worker.invariant.rows) in
    subst (λ (l : List (List (AnyPass g.row.N.Denot))). AreRows at home workers objects l) (sym (ap (map (λ r. r.items)) c.reverse.ensures.items ∙ mapped_reverse (λ r. r.items) c.loop-worker.rows.items)) all
