use Rattle.std.proofs.Common.{IsSome, refl, sym, subst}
use Rattle.shared_table.proofs.tests.prunes.take_out.Goals as goal

pub returns-in-Found : goal.returns-in-Found
returns-in-Found g c = (c.change_map.ensures.home c.args.table.now c.requires.note.0, subst (λ o. IsSome o) (sym c.change_map.ensures.called.own_new) refl)
