use Rattle.std.proofs.Common.{sym, ap, ◌∙◌}
use Rattle.std.specs.FinMap.{get}
use Rattle.sync_types.proofs.ByNameLemmas.{get-by_bytes}
use Rattle.sync_types.proofs.by_name.ByName.get.Goals as goal

pub returns : goal.returns
returns g c =
    c.copied.ensures ∙ c.get.ensures.value ∙ sym (get-by_bytes c.self.inside.entries.entries c.args.name.now) ∙ ap (λ m. get m c.args.name.now) c.self.view_is
