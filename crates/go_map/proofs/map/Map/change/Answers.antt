use Rattle.go_map.proofs.Callers.{stays}
use Rattle.go_map.proofs.Values.{small_reply}
use Rattle.go_map.proofs.map.Map.change.Goals as goal

pub returns-clause-caller : goal.returns-clause-caller
returns-clause-caller g c = stays c.args.self.now.table.now _ _ _ c.args.caller.now.note c.change_map.new.note c.requires.caller.0 c.change_map.ensures.home c.change_map.ensures.called

pub returns-clause-found : goal.returns-clause-found
returns-clause-found g c = small_reply c.args.self.now.table.now c.args.self.now.number c.args.call c.change_map.result c.args.caller.now.note c.change_map.new.note c.requires.values (c.change_map.ensures.home, c.change_map.ensures.called, c.change_map.ensures.lawful)
