use Rattle.protocols.proofs.Expected.{group_expected}
use Rattle.protocols.proofs.wait_group.GroupCoreProtocol.laws.Goals as goal

pub returns-clause-expected : goal.returns-clause-expected
returns-clause-expected c =
    let knows = c.knows_where_it_stands.ensures in group_expected knows.own knows.others knows.answers knows.callers knows.first
