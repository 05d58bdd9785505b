use Rattle.std.proofs.Common.{◌≡◌, ◌+◌, ◌<◌, ◌≤◌, List, [], ◌∷◌, length, Some, slice_get, refl, sym, ap, ◌∙◌, subst, arith, length-append}
use Rattle.std.specs.Prelude.{slice_set}
use Rattle.std.proofs.lemmas.Option.{slice_get-get_or, slice_get_read}
use Rattle.thread_objects.specs.declared.pass.AnyPass.{AnyPass}
use Rattle.thread_objects.proofs.MadeOn.{made_with}
use Rattle.thread_objects.proofs.RowSteps.{WentTo, AreSo, dealt_more, seats_more, columns_of}
use Rattle.thread_objects.proofs.rows.deal_row.Goals as goal

pub loop-number-preserved : goal.loop-number-preserved
loop-number-preserved g c =
    let at = g.N.Note.at in
    let home = c.args.crew.now.home.now in
    let workers = c.args.crew.now.workers in
    let worker = c.args.worker in
    let objects = c.args.objects.now in
    let old = c.args.columns.now in
    let all = c.loop-number.columns in
    let number = c.loop-number.number in
    let row = c.loop-number.row.items in
    let pass = c.take_last-pass.result in
    let new = c.take_last-pass.new.column in
    let so_far = c.loop-number.invariant in
    let within : number < length objects = c.loop-number-test.true in
    let inside : number < length all = omega (arith, within, c.requires.columns.sized, so_far.went.sized) in
    let here : slice_get objects number ≡ Some c.index-objects-number.result = slice_get_read objects (length objects) number c.index-objects-number.result refl within c.index-objects-number.is in
    let items = c.push_reserved.ensures.items in
    record {
      went = subst (λ (xs : List (AnyPass g.row.N.Denot)). WentTo at home workers objects old worker old (slice_set all number new) (slice_set all number new) xs (number + 1)) (sym items)
          (dealt_more at home workers objects old number all new inside worker c.index-objects-number.result _ pass row so_far.row here (slice_get-get_or all number c.index-columns-number.result inside) c.take_last-pass.ensures.column c.take_last-pass.ensures.passes so_far.went);
      row = ap (λ (xs : List (AnyPass g.row.N.Denot)). length xs) items ∙ length-append row (pass ∷ []) ∙ ap (λ n. n + 1) so_far.row;
      room = subst (λ n. length objects ≤ n) (sym c.push_reserved.ensures.capacity) so_far.room;
      seats = subst (λ (xs : List (AnyPass g.row.N.Denot)). AreSo at home workers worker objects xs) (sym items)
          (seats_more at home workers worker objects row c.index-objects-number.result pass (subst (λ n. slice_get objects n ≡ Some c.index-objects-number.result) (sym so_far.row) here) c.take_last-pass.ensures.seat so_far.seats);
    }

pub returns-clause-columns : goal.returns-clause-columns
returns-clause-columns g c =
    let at = g.N.Note.at in
    let home = c.args.crew.now.home.now in
    let workers = c.args.crew.now.workers in
    let objects = c.args.objects.now in
    let old = c.args.columns.now in
    let all = c.loop-number.columns in
    let row = c.loop-number.row.items in
    let ends : c.loop-number.number ≡ length objects = omega (arith, c.loop-number-test.false, c.loop-number.auto.number-end) in
    columns_of at home workers objects old c.args.worker old all all row c.requires.columns.sized (subst (λ n. WentTo at home workers objects old c.args.worker old all all row n) ends c.loop-number.invariant.went)

pub returns-clause-made : goal.returns-clause-made
returns-clause-made g c =
    let so_far = c.loop-number.invariant in
    let row = c.loop-number.row.items in
    let ends : c.loop-number.number ≡ length c.args.objects.now = omega (arith, c.loop-number-test.false, c.loop-number.auto.number-end) in
    made_with g.N.Note.at c.args.crew.now.home.now c.args.crew.now.workers c.args.worker c.args.objects.now c.args.columns.now c.loop-number.columns row (returns-clause-columns g c) c.requires.columns.sized (so_far.row ∙ ends) (λ n within. so_far.went.dealt n (omega (arith, within, so_far.row)))
