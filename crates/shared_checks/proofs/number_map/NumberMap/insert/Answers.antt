use Rattle.std.proofs.Common.{ap, ◌∙◌}
use Rattle.std.specs.FinMap.{insert}
use Rattle.shared_checks.proofs.MapLemmas.{map_of, insert_of}
use Rattle.shared_checks.proofs.number_map.NumberMap.insert.Goals as goal

pub returns-clause-ok : goal.returns-clause-ok
returns-clause-ok c = ap map_of c.in_ok-insert.ensures.entries ∙ insert_of c.self.inside.entries.entries c.args.key c.args.value ∙ ap (λ m. insert m c.args.key c.args.value) c.self.view_is
