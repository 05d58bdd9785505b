use Rattle.std.proofs.Common.{◌≡◌, ◌+◌, ◌<◌, [], ◌∷◌, ◌++◌, length, get_or, Some, refl, sym, ap, ◌∙◌, subst, arith}
use Rattle.std.proofs.lemmas.List.{length-set}
use Rattle.std.proofs.lemmas.Option.{slice_get-get_or, slice_get_read}
use Rattle.thread_objects.specs.declared.pass.AnyPass.{AnyPass}
use Rattle.thread_objects.specs.declared.pass.AnyPass.TheVariants as passes
use Rattle.thread_objects.specs.ByKind.{passes_in}
use Rattle.thread_objects.proofs.ColumnLists.{got, set_other}
use Rattle.thread_objects.proofs.MadeOn.{made_with}
use Rattle.thread_objects.proofs.RowSteps.{WentTo, put_more, columns_of, pass_at}
use Rattle.thread_objects.proofs.rows.put_row.Goals as goal

pub loop-number-preserved : goal.loop-number-preserved
loop-number-preserved g c =
    let at = g.N.Note.at in
    let home = c.args.crew.now.home.now in
    let workers = c.args.crew.now.workers in
    let count = c.args.worker + 1 in
    let objects = c.args.objects.now in
    let old = c.args.columns.now in
    let all = c.loop-number.columns in
    let number = c.loop-number.number in
    let row = c.args.row.now in
    let new = c.put.new.column in
    let so_far = c.loop-number.invariant in
    let within : number < length objects = c.loop-number-test.true in
    let inside : number < length all = omega (arith, within, c.requires.columns.sized, so_far.went.sized) in
    let in_row : number < length c.loop-number.row = omega (arith, within, c.requires.seats.count, so_far.sized) in
    let pass : pass_at row number ≡ c.replace-pass.result =
    got row number c.replace-pass.result passes.None (sym (so_far.same number (omega arith)) ∙ slice_get-get_or c.loop-number.row number c.index-row-number.result in_row ∙ ap (λ (p : AnyPass g.row.N.Denot). Some p) (sym c.replace-pass.ensures.value)) in
    record {
      went = put_more at home workers objects old number all new inside count c.index-objects-number.result _ row
          (slice_get_read objects (length objects) number c.index-objects-number.result refl within c.index-objects-number.is)
          (slice_get-get_or all number c.index-columns-number.result inside)
          c.put.ensures.column
          (c.put.ensures.passes ∙ ap (λ (p : AnyPass g.row.N.Denot). passes_in (get_or all number c.index-columns-number.result) ++ p ∷ []) (sym pass))
          so_far.went;
      sized = length-set c.loop-number.row number _ ∙ so_far.sized;
      same = λ n beyond. set_other c.loop-number.row number n _ (λ e. absurd (omega (arith, e, beyond))) ∙ so_far.same n (omega (arith, beyond));
    }

pub returns-clause-columns : goal.returns-clause-columns
returns-clause-columns g c =
    let at = g.N.Note.at in
    let home = c.args.crew.now.home.now in
    let workers = c.args.crew.now.workers in
    let count = c.args.worker + 1 in
    let objects = c.args.objects.now in
    let old = c.args.columns.now in
    let all = c.loop-number.columns in
    let row = c.args.row.now in
    let ends : c.loop-number.number ≡ length objects = omega (arith, c.loop-number-test.false, c.loop-number.auto.number-end) in
    columns_of at home workers objects old count all old all row c.requires.columns.sized (subst (λ n. WentTo at home workers objects old count all old all row n) ends c.loop-number.invariant.went)

pub returns-clause-made : goal.returns-clause-made
returns-clause-made g c =
    let so_far = c.loop-number.invariant in
    let ends : c.loop-number.number ≡ length c.args.objects.now = omega (arith, c.loop-number-test.false, c.loop-number.auto.number-end) in
    made_with g.N.Note.at c.args.crew.now.home.now c.args.crew.now.workers c.args.worker c.args.objects.now c.loop-number.columns c.args.columns.now c.args.row.now c.requires.columns (so_far.went.sized ∙ c.requires.columns.sized) c.requires.seats.count (λ n within. so_far.went.dealt n (omega (arith, within, c.requires.seats.count, ends)))
