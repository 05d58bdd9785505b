use Rattle.std.proofs.Common.{Some}
use Rattle.ruled_object.proofs.Calls.{entry}
use Rattle.ruled_object.proofs.object.Object.call_with.Given as goal

abbrev pub ghosts-take_for : goal.ghosts-take_for
ghosts-take_for g a = record { begun = Some a.self.now.table.shared.key }

abbrev pub ghosts-give_entry : goal.ghosts-give_entry
ghosts-give_entry g a = record { entry = Some (entry a._caller a._deed.now (g.N.Note.front a._note.now) a.seat.now.me.0.knew) }
