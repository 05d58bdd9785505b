use Rattle.std.proofs.Common.{[], ◌∷◌, refl}
use Rattle.run_record.specs.Example.{plan, replies_by, done, held, example}
use Rattle.run_record.proofs.ExampleLemmas.{line, explained}
use Rattle.run_record.proofs.laws.examples.a_store_and_a_load_are_explained.Goals as goal

pub returns : goal.returns
returns c = explained (c.scripts_without_tests_are_spelt_call_by_call.ensures plan example (replies_by done (held 5)) (line ∷ []) refl).1
