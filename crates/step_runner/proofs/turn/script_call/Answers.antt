use Rattle.std.proofs.Common.{◌≡◌, ℕ, Bor, List, length, Option, Some, None, refl, sym, ◌∙◌}
use Rattle.std.specs.Prelude.{slice_get}
use Rattle.std.specs.Option.{option_copied}
use Rattle.std.specs.Slice.{IsItemAt}
use Rattle.std.proofs.lemmas.Bool.{ltb-true, ltb-false}
use Rattle.std.proofs.lemmas.Option.{slice_get_read, slice_get_past}
use Rattle.step_runner.proofs.PlaceLemmas.{script_at}
use Rattle.step_runner.proofs.turn.script_call.Goals as goal

item_copied : {X : Type 0} (xs : List X) (i : ℕ) (r : Option (Bor X)) → IsItemAt xs i r → option_copied r ≡ slice_get xs i
item_copied xs i None is = sym (slice_get_past xs i (ltb-false i (length xs) (sym is.0)))
item_copied xs i (Some x) is = sym (slice_get_read xs (length xs) i x.now refl (ltb-true i (length xs) (sym is.0)) is.1)

pub returns : goal.returns
returns c =
    item_copied c.script.result.now c.place.result c.get.result c.get.ensures.lookup
    ∙ (λ i. slice_get (c.script.ensures.script i) (c.place.ensures i))
    ∙ script_at c.args.workload.now c.args.worker c.args.state.now c.requires.of
