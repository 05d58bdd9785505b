use Rattle.thread_objects.proofs.Taking.{has_last, taken}
use Rattle.thread_objects.proofs.dealing.take_last.Goals as goal

pub take-requires : goal.take-requires
take-requires g c = has_last g.N.Note.at c.args._crew.now.home.now c.args._crew.now.workers c.args._worker c.args._object.now c.args.column.now c.requires.column

pub returns-clause-seat : goal.returns-clause-seat
returns-clause-seat g c = (taken g.N.Note.at c.args._crew.now.home.now c.args._crew.now.workers c.args._worker c.args._object.now c.args.column.now c.take.new.column c.take.result c.requires.column c.take.ensures.taken).0

pub returns-clause-column : goal.returns-clause-column
returns-clause-column g c = (taken g.N.Note.at c.args._crew.now.home.now c.args._crew.now.workers c.args._worker c.args._object.now c.args.column.now c.take.new.column c.take.result c.requires.column c.take.ensures.taken).1
