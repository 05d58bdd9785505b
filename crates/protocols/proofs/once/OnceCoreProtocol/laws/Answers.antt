use Rattle.protocols.proofs.Expected.{once_expected}
use Rattle.protocols.proofs.once.OnceCoreProtocol.laws.Goals as goal

pub returns-clause-expected : goal.returns-clause-expected
returns-clause-expected g c =
    let knows = c.knows_where_it_stands.ensures in once_expected knows.own_wait knows.own_run knows.others_wait knows.others_run knows.answers knows.callers knows.first
