use Rattle.mutex_core.proofs.PackedWord.{leaves, leaves_word}
use Rattle.mutex_core.proofs.laws.uncontended_events.Goals as goal

pub returns-clause-leaves : goal.returns-clause-leaves
returns-clause-leaves c state caller event valid is = leaves state caller event valid is

pub returns-clause-word : goal.returns-clause-word
returns-clause-word c state caller event valid is = leaves_word state caller event valid is
