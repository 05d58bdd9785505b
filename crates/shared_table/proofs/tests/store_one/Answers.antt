use Rattle.std.proofs.Common.{IsSome, refl, sym, subst}
use Rattle.shared_table.proofs.tests.store_one.Goals as goal

pub returns : goal.returns
returns g c = (c.change_map.ensures.home c.args.table.now c.requires.note.0, subst (λ o. IsSome o) (sym c.change_map.ensures.called.own_new) refl)
