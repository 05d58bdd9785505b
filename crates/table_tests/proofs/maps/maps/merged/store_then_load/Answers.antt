use Rattle.std.proofs.Common.{IsSome, sym, subst}
use Rattle.table_tests.proofs.maps.maps.merged.store_then_load.Goals as goal

pub merge-requires-clause-home : goal.merge-requires-clause-home
merge-requires-clause-home g c = (c.requires.second.0, c.copy-copy.ensures.home.1 c.args.table.now c.stored.ensures.0)

pub loaded-requires-clause-caller : goal.loaded-requires-clause-caller
loaded-requires-clause-caller g c = (c.merge.ensures.home c.args.table.now c.requires.second.0, subst (λ o. IsSome o) (sym c.merge.ensures.own) c.requires.second.1)
