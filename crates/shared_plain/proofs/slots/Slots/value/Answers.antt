use Rattle.std.proofs.Common.{arith}
use Rattle.std.proofs.lemmas.Grind.{common_steps}
use Rattle.shared_plain.proofs.SlotMaps.{get-map_of}
use Rattle.shared_plain.proofs.slots.Slots.value.Goals as goal

pub returns-in_err-get : goal.returns-in_err-get
returns-in_err-get c = let m = get-map_of c.args.self.now c.args.key in let e = c.in_err-get.ensures in grind (arith, common_steps)

pub returns : goal.returns
returns c = let m = get-map_of c.args.self.now c.args.key in let e = c.in_ok-get.ensures in grind (arith, common_steps)
