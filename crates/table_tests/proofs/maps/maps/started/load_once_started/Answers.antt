use Rattle.std.proofs.Common.{IsSome, sym, subst}
use Rattle.table_tests.proofs.maps.maps.started.load_once_started.Goals as goal

pub loaded-requires-clause-caller : goal.loaded-requires-clause-caller
loaded-requires-clause-caller g c = (c.wait_start.ensures.note.home c.args.table.now c.requires.caller.0, subst (λ o. IsSome o) (sym c.wait_start.ensures.note.kept) c.requires.caller.1)
