use Rattle.ruled_object.proofs.Growth.{stand-snoc, stands_then}
use Rattle.ruled_object.proofs.laws.standing.Goals as goal

pub returns-clause-entry : goal.returns-clause-entry
returns-clause-entry g c out after place own last = stand-snoc out after place own last

pub returns-clause-entries : goal.returns-clause-entries
returns-clause-entries g c out after place old new es last mine = stands_then out after place old new es last mine
