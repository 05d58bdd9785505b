use Rattle.std.proofs.Common.{Some}
use Rattle.ruled_object.proofs.object.Object.word.Given as goal

abbrev pub ghosts-look : goal.ghosts-look
ghosts-look g a = record { begun = Some a.self.now.table.shared.key }
