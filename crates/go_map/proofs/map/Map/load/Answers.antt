use Rattle.sync_types.specs.declared.map_object.MapCall.TheVariants.{Load}
use Rattle.sync_types.specs.declared.map_object.MapReply.TheVariants.{Found}
use Rattle.go_map.proofs.Callers.{stays}
use Rattle.go_map.proofs.Values.{small_reply}
use Rattle.go_map.proofs.map.Map.load.Goals as goal

pub returns-clause-caller : goal.returns-clause-caller
returns-clause-caller g c = stays c.args.self.now.table.now _ _ _ c.args.caller.now.note c.look_up.new.note c.requires.0 c.look_up.ensures.home c.look_up.ensures.called

pub returns-clause-found : goal.returns-clause-found
returns-clause-found g c = small_reply c.args.self.now.table.now c.args.self.now.number (Load c.args.key) (Found c.look_up.result) c.args.caller.now.note c.look_up.new.note tt (c.look_up.ensures.home, c.look_up.ensures.called, c.look_up.ensures.lawful)
