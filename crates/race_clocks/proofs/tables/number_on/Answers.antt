use Rattle.std.proofs.Common.{Option, sym, ap, ◌∙◌, unwrap_or}
use Rattle.std.specs.FinMap.{empty, get, get-empty}
use Rattle.std.specs.Ordering.{nat_cmp}
use Rattle.std.specs.Cmp.Lexicographic.{slice_cmp}
use Rattle.race_clocks.specs.Seen.{Named}
use Rattle.race_clocks.proofs.tables.number_on.Goals as goal

pub returns-in-None : goal.returns-in-None
returns-in-None c = sym (get-empty (slice_cmp nat_cmp) c.args.key.now) ∙ ap (λ (keys : Option Named). get (unwrap_or keys empty) c.args.key.now) c.in-None.ensures
