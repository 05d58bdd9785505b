use Rattle.std.proofs.Common.{◌∙◌}
use Rattle.go_waits.specs.OnceValues.{once_of}
use Rattle.library_tests.proofs.FreshPasses.{fresh}
use Rattle.library_tests.proofs.waits.once_setup.stored.Goals as goal

pub returns-clause-passes : goal.returns-clause-passes
returns-clause-passes g c =
    let made = c.in_ok-value.ensures in
    let count = made.passes.all.count ∙ made.once.0 in
    let ok = c.in_ok-value.passes.ok in
    (fresh (once_of c.in_ok-value.value) _ made.passes, (cc))
