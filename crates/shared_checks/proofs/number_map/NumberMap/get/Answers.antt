use Rattle.std.proofs.Common.{sym, ap, ◌∙◌}
use Rattle.std.specs.FinMap.{get}
use Rattle.shared_checks.proofs.MapLemmas.{get_of}
use Rattle.shared_checks.proofs.number_map.NumberMap.get.Goals as goal

pub returns : goal.returns
returns c = c.copied.ensures ∙ c.get.ensures.value ∙ sym (get_of c.self.inside.entries.entries c.args.key) ∙ ap (λ m. get m c.args.key) c.self.view_is
