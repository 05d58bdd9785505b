use Rattle.shared_plain.specs.declared.mark.Mark.{Mark}
use Rattle.shared_plain.proofs.Begun.{begun_stands}
use Rattle.shared_plain.proofs.Calling.{held_there}
use Rattle.shared_plain.proofs.shared.PlainShared.begin.Goals as goal

pub returns-clause-stands : goal.returns-clause-stands
returns-clause-stands g c was had becomes has =
    let old : Mark = c.args.caller.now.note in
    let held = held_there old c.requires.caller.1 in
    let number = c.next_number-begin.ensures in
    begun_stands c.args.self.now old c.args.map _ held.0 _ _ was becomes _ _ _ _ _ _ _ held.1 (c.requires.caller.0.keeps held.0 held.1) had has number.0 number.1 c.requires.map c.event.ensures.called
