use Rattle.std.proofs.Common.{ap, ◌∙◌}
use Rattle.std.specs.FinMap.{insert}
use Rattle.sync_types.specs.Name.{is_name}
use Rattle.sync_types.specs.ByName.{by_bytes, all_names}
use Rattle.sync_types.proofs.ByNameLemmas.{by_bytes-insert_entry, all_names-insert_entry}
use Rattle.sync_types.proofs.by_name.ByName.insert.Goals as goal

pub returns-clause-ok : goal.returns-clause-ok
returns-clause-ok g c =
    ap by_bytes c.in_ok-insert.ensures.entries
    ∙ by_bytes-insert_entry c.self.inside.entries.entries c.in_ok-name.name c.args.value
    ∙ ap (λ n. insert (by_bytes c.self.inside.entries.entries) n c.args.value) c.in_ok-name.ensures.items
    ∙ ap (λ m. insert m c.args.name.now c.args.value) c.self.view_is

pub invariant_of-self-2 : goal.invariant_of-self-2
invariant_of-self-2 g c =
    ap all_names c.in_ok-insert.ensures.entries
    ∙ all_names-insert_entry c.self.inside.entries.entries c.in_ok-name.name c.args.value c.self.invariant (ap is_name c.in_ok-name.ensures.items ∙ c.requires)
