use Rattle.std.proofs.Common.{◌≡◌, ◌+◌, length, refl, slice_get, Some, sym, subst, arith}
use Rattle.std.proofs.lemmas.Option.{slice_get_read}
use Rattle.object_checks.proofs.NoteLemmas.{NotesTo, note_more, notes_all}
use Rattle.object_checks.proofs.journals.edge.notes_of.Goals as goal

pub loop-row-preserved : goal.loop-row-preserved
loop-row-preserved c =
    let at : slice_get c.args.journal.now c.loop-row.row-index ≡ Some c.row-item.result = slice_get_read c.args.journal.now (length c.args.journal.now) c.loop-row.row-index c.row-item.result refl c.loop-row-test.true c.row-item.is in
    subst (NotesTo c.args.journal.now (c.loop-row.row-index + 1)) (sym c.in_ok-push.ensures.items)
    (note_more c.args.journal.now c.loop-row.row-index c.loop-row.notes.items c.loop-row.invariant c.row-item.result at c.note_of.result
    (record { frees_alike = c.note_of.ensures.frees; takes_alike = c.note_of.ensures.takes; front = c.note_of.ensures.front }))

pub returns : goal.returns
returns c = notes_all c.args.journal.now c.loop-row.row-index c.loop-row.notes.items c.loop-row-test.false (omega arith) c.loop-row.invariant
