use Rattle.std.proofs.Common.{sym, ap, ◌∙◌}
use Rattle.std.specs.Prelude.{is_some}
use Rattle.workload.proofs.KeyLemmas.{insert_there}
use Rattle.workload.proofs.draft.insert_key.Goals as goal

pub returns-then-is_some : goal.returns-then-is_some
returns-then-is_some c = sym (insert_there c.args.keys.now c.args.key.now (ap is_some (sym c.get.ensures) ∙ sym c.is_some.ensures ∙ c.if-is_some.true))
