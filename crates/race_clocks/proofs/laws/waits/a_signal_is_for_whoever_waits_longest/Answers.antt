use Rattle.race_clocks.proofs.Signals.{not_later, signal_tells}
use Rattle.race_clocks.proofs.laws.waits.a_signal_is_for_whoever_waits_longest.Goals as goal

pub returns-clause-first : goal.returns-clause-first
returns-clause-first c = signal_tells

pub returns-clause-later : goal.returns-clause-later
returns-clause-later c = not_later
