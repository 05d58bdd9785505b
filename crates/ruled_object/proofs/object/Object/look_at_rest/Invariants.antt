use Rattle.std.proofs.Common.{Some}
use Rattle.ruled_object.proofs.object.Object.look_at_rest.Given as goal

abbrev pub ghosts-take_rest : goal.ghosts-take_rest
ghosts-take_rest g a = record { begun = Some a.self.now.table.shared.key }
