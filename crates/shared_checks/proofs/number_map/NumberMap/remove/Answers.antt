use Rattle.std.proofs.Common.{ap, ◌∙◌}
use Rattle.std.specs.FinMap.{remove}
use Rattle.shared_checks.proofs.MapLemmas.{remove_of}
use Rattle.shared_checks.proofs.number_map.NumberMap.remove.Goals as goal

pub returns : goal.returns
returns c = remove_of c.self.inside.entries.entries _ c.args.key c.remove.ensures.entries c.remove.ensures.updates.1 ∙ ap (λ m. remove m c.args.key) c.self.view_is
