use Rattle.std.proofs.Common.{◌≤◌, sym, subst}
use Rattle.thread_objects.proofs.StopColumns.{column_from, column_to, halting_same}
use Rattle.thread_objects.proofs.first_halt.first_halt.Goals as goal

pub returns-in-Stop-column-clause-column : goal.returns-in-Stop-column-clause-column
returns-in-Stop-column-clause-column g c =
    let home = c.args.crew.now.home.now in
    let workers = c.args.crew.now.workers in
    let was = column_from g.N.Note.at home workers workers c.in-Stop.object c.args.object.now c.args.column.now c.in-Stop-column.passes c.in-Stop.is c.in-Stop-column.is c.requires.column in
    column_to g.N.Note.at home workers workers c.in-Stop.object c.args.object.now c.first_of.new.passes c.in-Stop.is ((c.first_of.ensures.seated, subst (λ room. workers ≤ room) (sym c.first_of.ensures.room) was.0.1), halting_same c.in-Stop-column.passes.items c.first_of.new.passes.items c.first_of.ensures.owns was.1)
