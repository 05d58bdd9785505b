-- What a worker makes that halts all objects.
use Rattle.std.specs.Prelude.{◌≡◌, ℕ, List, [], ◌∷◌, All, Ok}
use Rattle.std.specs.List.{AllByRecursion}
use Rattle.sync_model.specs.declared.answer.Answer.TheVariants.{Done}
use Rattle.sync_types.specs.declared.misuse.Misuse.{Misuse}
use Rattle.workload.specs.Plan.{Plan}
use Rattle.run_record.specs.Halts.{entered_on, halted_numbers}
use Rattle.run_record.specs.Lines.{IsHalt}
use Rattle.run_record.specs.Parts.{Part}
use Rattle.run_record.specs.declared.made.Made.{Made}
use Rattle.thread_objects.specs.declared.object.AnyObject.{AnyObject}
use Rattle.thread_objects.specs.declared.object.AnyObject.TheVariants as objects
use Rattle.thread_objects.specs.Working.{Desk, Moves}

-- the number of an object, where it can be halted
abbrev pub halted_one : {N H : Type 0} → ℕ → AnyObject N H → List ℕ
halted_one number objects.Shared = []
halted_one number object = number ∷ []

-- the items are halts by this misuse of the objects with these numbers, in this order
abbrev pub halting : Misuse → List ℕ → Part (Unit {0})
halting misuse numbers items answer = AllByRecursion (IsHalt misuse) items × (entered_on items ≡ numbers) × (answer ≡ Done (Ok tt))

-- A worker halts by this misuse Stop first, Starts next, where there is one, and then each object of the workload in order of declaration, the parts of a pool in order at its place.
pub record HaltsAll (plan : Plan) (misuse : Misuse) (old new : Desk) : Type 0 where
  pub items : List Made
  pub moves : Moves old items new
  pub halts : All (IsHalt misuse) items
  pub order : entered_on items ≡ halted_numbers plan
