use Rattle.std.proofs.Common.{sym, ap, ◌∙◌}
use Rattle.std.specs.FinMap.{get, remove}
use Rattle.sync_types.specs.ByName.{all_names}
use Rattle.sync_types.proofs.ByNameLemmas.{get-by_bytes, by_bytes-remove_entry, all_names-remove_entry}
use Rattle.sync_types.proofs.by_name.ByName.remove.Goals as goal

pub returns-clause-value : goal.returns-clause-value
returns-clause-value g c = c.remove.ensures.value ∙ sym (get-by_bytes c.self.inside.entries.entries c.args.name.now) ∙ ap (λ m. get m c.args.name.now) c.self.view_is

pub returns-clause-rest : goal.returns-clause-rest
returns-clause-rest g c =
    by_bytes-remove_entry c.self.inside.entries.entries _ c.args.name.now c.remove.ensures.entries c.remove.ensures.updates.1
    ∙ ap (λ m. remove m c.args.name.now) c.self.view_is

pub invariant_of-self : goal.invariant_of-self
invariant_of-self g c = ap all_names c.remove.ensures.entries ∙ all_names-remove_entry _ c.self.inside.entries.entries c.self.invariant
