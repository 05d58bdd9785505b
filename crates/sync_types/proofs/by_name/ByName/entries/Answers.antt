use Rattle.std.proofs.Common.{◌≡◌, ◌++◌, [], sym, ap, ◌∙◌, append-nil}
use Rattle.std.specs.FinMap as finite
use Rattle.sync_types.proofs.ByNameLemmas.{pairs, entries-by_bytes}
use Rattle.sync_types.proofs.by_name.ByName.entries.Goals as goal

pub returns : goal.returns
returns g c =
    let ended : c.loop-name.name-iterator ≡ [] = c.in-None.ensures.steps.0 in
    sym (append-nil c.loop-name.entries)
    ∙ ap (λ rest. c.loop-name.entries ++ pairs rest) (sym ended)
    ∙ c.loop-name.invariant.0
    ∙ ap pairs (c.into_iter-name-iterator.ensures.into_iter_gives ∙ c.iter-name-items.ensures.rest)
    ∙ sym (entries-by_bytes c.self.inside.entries.entries c.iter-name-items.ensures.ordered)
    ∙ ap finite.entries c.self.view_is
