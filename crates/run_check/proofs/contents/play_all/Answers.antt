use Rattle.std.proofs.lemmas.Option.{slice_get-get_or}
use Rattle.shared_checks.specs.Placing.{contents_of}
use Rattle.shared_checks.proofs.PlayedLemmas.{next_on, made}
use Rattle.run_check.proofs.Legal.{legal_here}
use Rattle.run_check.proofs.contents.play_all.Goals as goal

pub enter-requires-clause-on : goal.enter-requires-clause-on
enter-requires-clause-on c = next_on _ _ c.requires.on _ _ (slice_get-get_or _ _ _ c.loop-entry-test.true) _ c.loop-entry.invariant

pub enter-requires-clause-entry : goal.enter-requires-clause-entry
enter-requires-clause-entry c = legal_here _ _ _ _ _ c.requires.legal (slice_get-get_or _ _ _ c.loop-entry-test.true) c.loop-entry.invariant

pub loop-entry-preserved : goal.loop-entry-preserved
loop-entry-preserved c = made _ _ c.requires.on _ _ (slice_get-get_or _ _ _ c.loop-entry-test.true) _ c.loop-entry.invariant (contents_of c.enter.new.self) c.in_ok-enter.ensures.ok
