use Rattle.shared_plain.proofs.machine.PlainMachineMachine.step.Goals as goal

pub returns : goal.returns
returns c = c.step.ensures c.args._caller
