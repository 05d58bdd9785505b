use Rattle.std.proofs.Common.{◌∙◌}
use Rattle.ruled_object.proofs.Journals.{never_halted}
use Rattle.ruled_object.proofs.object.Object.first_halt.Goals as goal

pub returns-clause-one_journal : goal.returns-clause-one_journal
returns-clause-one_journal g c = let one = c.look_at_rest.ensures.one_journal in (one.0, one.2, one.3, one.4)

pub returns-clause-history : goal.returns-clause-history
returns-clause-history g c = let one = returns-clause-one_journal g c in (one.0, one.1, one.2, one.3.whole)

pub returns-clause-seen : goal.returns-clause-seen
returns-clause-seen g c = let one = returns-clause-one_journal g c in (one.0, one.3)

pub returns-clause-halts : goal.returns-clause-halts
returns-clause-halts g c never =
    let m = g.M.Machine in
    let one = returns-clause-one_journal g c in
    one.1 ∙ never_halted m.next m.HALTS c.args.self.now.table.shared.key.state one.0 never one.2.follows
