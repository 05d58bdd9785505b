use Rattle.std.proofs.Common.{ap, ◌∙◌}
use Rattle.std.specs.FinMap.{insert}
use Rattle.sync_types.specs.ByName.{by_bytes}
use Rattle.name_table.proofs.Entries.{by_bytes-put}
use Rattle.name_table.proofs.table.NameTable.insert.Goals as goal

pub returns-clause-ok : goal.returns-clause-ok
returns-clause-ok g c =
    by_bytes-put c.deref_mut.result.now.entries _ c.in_ok-name.name c.args.value c.in_ok-insert.ensures.updates.1 c.in_ok-insert.ensures.updates.3
    ∙ ap (λ t. insert (by_bytes t.entries) c.in_ok-name.name.items c.args.value) c.deref_mut.ensures.value
    ∙ ap (λ n. insert (by_bytes c.self.inside.entries.value.entries) n c.args.value) c.in_ok-name.ensures.items
    ∙ ap (λ m. insert m c.args.name.now c.args.value) c.self.view_is
