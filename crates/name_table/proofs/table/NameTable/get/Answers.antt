use Rattle.std.proofs.Common.{sym, ap, ◌∙◌}
use Rattle.std.specs.FinMap.{get}
use Rattle.sync_types.specs.ByName.{by_bytes}
use Rattle.name_table.proofs.Entries.{get-by_name}
use Rattle.name_table.proofs.table.NameTable.get.Goals as goal

pub returns : goal.returns
returns g c =
    c.copied.ensures
    ∙ c.get.ensures.value
    ∙ sym (get-by_name c.deref.result.now.entries c.args.name.now)
    ∙ ap (λ t. get (by_bytes t.entries) c.args.name.now) c.deref.ensures
    ∙ ap (λ m. get m c.args.name.now) c.self.view_is
