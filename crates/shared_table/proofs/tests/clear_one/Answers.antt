use Rattle.std.proofs.Common.{IsSome, refl, sym, subst}
use Rattle.shared_table.proofs.tests.clear_one.Goals as goal

pub returns : goal.returns
returns g c = (c.clear_map.ensures.home c.args.table.now c.requires.note.0, subst (λ o. IsSome o) (sym c.clear_map.ensures.called.own_new) refl)
