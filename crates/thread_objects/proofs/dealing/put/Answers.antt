use Rattle.std.proofs.Common.{arith}
use Rattle.thread_objects.proofs.Taking.{added, has_room}
use Rattle.thread_objects.proofs.dealing.put.Goals as goal

pub add-requires : goal.add-requires
add-requires g c = has_room g.N.Note.at c.args.crew.now.home.now c.args.crew.now.workers c.args._worker c.args._object.now c.args.column.now c.args.pass c.requires.worker (omega arith) c.requires.column c.requires.seat

pub returns-clause-column : goal.returns-clause-column
returns-clause-column g c = added g.N.Note.at c.args.crew.now.home.now c.args.crew.now.workers c.args._worker c.args._object.now c.args.column.now c.add.new.column c.args.pass c.requires.column c.requires.seat c.add.ensures.added
