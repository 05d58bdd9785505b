use Rattle.std.proofs.lemmas.Option.{slice_get-get_or}
use Rattle.shared_checks.specs.Placing.{contents_of}
use Rattle.shared_checks.proofs.PlayedLemmas.{next_on, stopped, made}
use Rattle.shared_checks.proofs.playing.play.Goals as goal

pub is_entry-requires : goal.is_entry-requires
is_entry-requires c = next_on _ _ c.requires _ _ (slice_get-get_or _ _ _ c.loop-entry-test.true) _ c.loop-entry.invariant

pub returns-then-not-is_entry-clause-no : goal.returns-then-not-is_entry-clause-no
returns-then-not-is_entry-clause-no c = λ no_. stopped _ _ c.requires _ _ (slice_get-get_or _ _ _ c.loop-entry-test.true) _ c.loop-entry.invariant c.is_entry.result c.is_entry.ensures c.if-not-is_entry.true

pub enter-requires-clause-on : goal.enter-requires-clause-on
enter-requires-clause-on c = next_on _ _ c.requires _ _ (slice_get-get_or _ _ _ c.loop-entry-test.true) _ c.loop-entry.invariant

pub loop-entry-preserved : goal.loop-entry-preserved
loop-entry-preserved c = made _ _ c.requires _ _ (slice_get-get_or _ _ _ c.loop-entry-test.true) _ c.loop-entry.invariant (contents_of c.enter.new.self) c.in_ok-enter.ensures.ok
