use Rattle.std.proofs.Common.{◌≡◌, ◌<◌, length, refl, sym, ◌∙◌, subst, arith}
use Rattle.std.proofs.lemmas.List.{length-set}
use Rattle.std.proofs.lemmas.Option.{slice_get-get_or, slice_get_read}
use Rattle.thread_objects.proofs.ColumnLists.{set_other}
use Rattle.thread_objects.proofs.Histories.{history_of}
use Rattle.thread_objects.proofs.Telling.{ToldTo, told_first, told_more, are_journals, are_parts}
use Rattle.thread_objects.proofs.gathering.journals.Goals as goal

pub loop-number-init : goal.loop-number-init
loop-number-init g c =
    let objects = c.args.objects.now in
    let columns = c.args.columns.now in
    let within : 0 < length objects = omega (arith, c.requires.declared.count) in
    let inside : 0 < length columns = omega (arith, within, c.requires.columns.sized) in
    let at_object = slice_get_read objects (length objects) 0 c.index-objects-0.result refl within c.index-objects-0.is in
    let at_column = slice_get-get_or columns 0 c.index-columns-0.result inside in
    record {
      told = told_first objects columns c.first_halt-stopped.result c.index-objects-0.result _ at_object at_column
          (history_of g.N.Note.at c.args.crew.now.home.now c.args.crew.now.workers _ _ _ (c.requires.columns.each 0 c.index-objects-0.result _ at_object at_column) c.first_halt-stopped.ensures.history);
      some = omega arith;
      sized = length-set columns 0 _;
      rest = λ n beyond. set_other columns 0 n _ (λ e. absurd (omega (arith, e, beyond)));
    }

pub first_halt-requires : goal.first_halt-requires
first_halt-requires g c =
    let objects = c.args.objects.now in
    let columns = c.loop-number.columns in
    let number = c.loop-number.number in
    let within : number < length objects = c.loop-number-test.true in
    let inside : number < length columns = omega (arith, within, c.requires.columns.sized, c.loop-number.invariant.sized) in
    record { column = c.requires.columns.each number c.index-objects-number.result _ (slice_get_read objects (length objects) number c.index-objects-number.result refl within c.index-objects-number.is) (sym (c.loop-number.invariant.rest number (omega arith)) ∙ slice_get-get_or columns number c.index-columns-number.result inside) }

pub loop-number-preserved : goal.loop-number-preserved
loop-number-preserved g c =
    let objects = c.args.objects.now in
    let columns = c.loop-number.columns in
    let number = c.loop-number.number in
    let so_far = c.loop-number.invariant in
    let within : number < length objects = c.loop-number-test.true in
    let inside : number < length columns = omega (arith, within, c.requires.columns.sized, so_far.sized) in
    let at_object = slice_get_read objects (length objects) number c.index-objects-number.result refl within c.index-objects-number.is in
    let at_column = sym (so_far.rest number (omega arith)) ∙ slice_get-get_or columns number c.index-columns-number.result inside in
    record {
      told = told_more objects c.args.columns.now c.first_halt-stopped.result c.first_halt.result number c.index-objects-number.result _ so_far.some so_far.told at_object at_column
          (history_of g.N.Note.at c.args.crew.now.home.now c.args.crew.now.workers _ _ _ (c.requires.columns.each number c.index-objects-number.result _ at_object at_column) c.first_halt.ensures.history);
      some = omega arith;
      sized = length-set columns number _ ∙ so_far.sized;
      rest = λ n beyond. set_other columns number n _ (λ e. absurd (omega (arith, e, beyond))) ∙ so_far.rest n (omega (arith, beyond));
    }

pub returns : goal.returns
returns g c =
    let objects = c.args.objects.now in
    let columns = c.args.columns.now in
    let ends : c.loop-number.number ≡ length objects = omega (arith, c.loop-number-test.false, c.loop-number.auto.number-end, c.requires.declared.count) in
    let told = subst (ToldTo objects columns c.first_halt-stopped.result) ends c.loop-number.invariant.told in
    record {
      journals = (
        told.journals,
        are_journals objects columns g.N.Note.at c.args.crew.now.home.now c.args._workload.now c.first_halt-stopped.result c.requires.declared c.requires.columns.sized told (c.parts_have_numbers_of_their_own.ensures.within c.args._workload.now) (c.parts_have_numbers_of_their_own.ensures.starts c.args._workload.now),
        told.stops,
        are_parts objects columns g.N.Note.at c.args.crew.now.home.now c.args._workload.now c.first_halt-stopped.result c.requires.declared c.requires.columns.sized told,
      );
    }
