use Rattle.std.proofs.Common.{◌∷◌, ◌++◌}
use Rattle.sync_model.specs.Journal.{front_at}
use Rattle.sync_model.proofs.Journals.{rising_all, rising_at}
use Rattle.sync_model.proofs.laws.journals.a_callers_entries_rise.Goals as goal

pub returns-clause-entries : goal.returns-clause-entries
returns-clause-entries g c = λ from to earlier between later first second rising.
    (rising_at (front_at first) to between later second (rising_at from to earlier (between ++ second ∷ later) first rising).1).0

pub returns-clause-from : goal.returns-clause-from
returns-clause-from g c = λ from to earlier later entry rising.
    let at = rising_at from to earlier later entry rising in (at.0, rising_all (front_at entry) to later at.1)

pub returns-clause-all : goal.returns-clause-all
returns-clause-all g c = λ from to entries rising. rising_all from to entries rising
