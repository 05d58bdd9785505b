use Rattle.std.proofs.Common.{IsSome, sym, subst}
use Rattle.std.proofs.lemmas.Option.{slice_get-get_or}
use Rattle.table_tests.proofs.maps.maps.started.workers.Goals as goal

pub returns-clause-caller : goal.returns-clause-caller
returns-clause-caller c = (c.copy-note.ensures.home.0 c.args.table.now c.requires.0, subst (λ o. IsSome o) (sym c.copy-note.ensures.own.0) c.requires.1)

pub returns-clause-home : goal.returns-clause-home
returns-clause-home c = c.in_ok-starts.ensures.starts.2 c.args.table.now (c.copy-note.ensures.home.1 c.args.table.now c.requires.0)

pub returns-clause-passes : goal.returns-clause-passes
returns-clause-passes c = λ k d below. (c.in_ok-starts.ensures.passes.all.each k _ (slice_get-get_or _ k d below)).0

pub returns-in_err-starts-clause-caller : goal.returns-in_err-starts-clause-caller
returns-in_err-starts-clause-caller c = (c.copy-note.ensures.home.0 c.args.table.now c.requires.0, subst (λ o. IsSome o) (sym c.copy-note.ensures.own.0) c.requires.1)
