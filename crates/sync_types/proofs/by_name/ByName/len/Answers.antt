use Rattle.std.proofs.Common.{sym, ap, ◌∙◌}
use Rattle.std.specs.FinMap.{len}
use Rattle.sync_types.proofs.ByNameLemmas.{len-by_bytes}
use Rattle.sync_types.proofs.by_name.ByName.len.Goals as goal

pub returns-clause-len : goal.returns-clause-len
returns-clause-len g c = c.len.ensures.len ∙ sym (len-by_bytes c.self.inside.entries.entries c.len.ensures.ordered) ∙ ap len c.self.view_is
