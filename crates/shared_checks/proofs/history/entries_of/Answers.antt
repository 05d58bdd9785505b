use Rattle.std.proofs.Common.{arith}
use Rattle.shared_checks.proofs.HistoryLemmas.{all_entries}
use Rattle.shared_checks.proofs.history.entries_of.Goals as goal

pub returns : goal.returns
returns c = all_entries c.args.lists.now c.args.owners.now c.requires.owners c.loop-one.one-index c.loop-one.history.items (omega (arith, c.loop-one-test.false, c.loop-one.auto.one-index-end)) c.loop-one.invariant
