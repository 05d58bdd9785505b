use Rattle.go_map.proofs.Callers.{stays}
use Rattle.go_map.proofs.map.Map.clear.Goals as goal

pub returns-clause-caller : goal.returns-clause-caller
returns-clause-caller g c = stays c.args.self.now.table.now _ _ _ c.args.caller.now.note c.clear_map.new.note c.requires.caller.0 c.clear_map.ensures.home c.clear_map.ensures.called
