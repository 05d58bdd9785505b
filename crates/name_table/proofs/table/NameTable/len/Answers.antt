use Rattle.std.proofs.Common.{sym, ap, ◌∙◌}
use Rattle.std.specs.FinMap.{len}
use Rattle.sync_types.specs.ByName.{by_bytes}
use Rattle.name_table.proofs.Entries.{len-by_name}
use Rattle.name_table.proofs.table.NameTable.len.Goals as goal

pub returns-clause-len : goal.returns-clause-len
returns-clause-len g c =
    c.len.ensures.len
    ∙ sym (len-by_name c.deref.result.now.entries c.len.ensures.unique)
    ∙ ap (λ t. len (by_bytes t.entries)) c.deref.ensures
    ∙ ap len c.self.view_is
