use Rattle.std.proofs.Common.{◌≡◌, ℕ, Bool, List, ap, ◌∙◌}
use Rattle.script_calls.specs.declared.call.ComposedCall.TheVariants.{IfEqual}
use Rattle.script_calls.specs.declared.call.Operation.TheVariants as operations
use Rattle.script_calls.specs.declared.call.Reply.{Reply}
use Rattle.script_calls.specs.declared.call.Reply.TheVariants as replies
use Rattle.sync_model.specs.declared.item.Item.{Item}
use Rattle.sync_model.specs.declared.item.SharedCall.TheVariants as shared
use Rattle.sync_model.specs.declared.item.SharedReply.TheVariants as answers
use Rattle.sync_types.specs.declared.atomic_object.AtomicCall.TheVariants.{Load}
use Rattle.sync_types.specs.declared.atomic_object.AtomicReply.{AtomicReply}
use Rattle.sync_types.specs.declared.atomic_object.AtomicReply.TheVariants.{Compared}
use Rattle.sync_types.specs.declared.atomic_object.Number.{Number}
use Rattle.sync_model.specs.declared.answer.Answer.TheVariants.{Done}
use Rattle.std.specs.Prelude.{[], ◌∷◌, Ok}
use Rattle.protocols.specs.Spelling.{CallAnswer}
use Rattle.workload.specs.declared.object.ObjectKind.TheVariants as kinds
use Rattle.run_record.specs.declared.made.Made.{Made}
use Rattle.run_record.specs.declared.made.Made.TheVariants.{Shared}
use Rattle.run_record.specs.Objects.{atomic_number}
use Rattle.run_record.specs.Parts.{with_outcome}
use Rattle.run_record.specs.Tests.{holds, if_equal_call}
use Rattle.run_record.proofs.Returning.{spelt_on}
use Rattle.run_record.proofs.TwoCalls.{one_place}
use Rattle.run_record.proofs.laws.spelling.an_ifeq_is_one_load.Goals as goal

abbrev IsLoad : ℕ → Number → List Made → CallAnswer (Reply ℕ) → Type 0
IsLoad a value items answer = (x : Item) × (reply : AtomicReply) × (items ≡ Shared x ∷ []) × (x.call ≡ shared.Atomic a Load) × (x.reply ≡ answers.Atomic reply)
    × (answer ≡ Done (Ok (replies.Atomic (Compared (holds value (replies.Atomic reply))))))

abbrev told : Bool → Reply ℕ
told met = replies.Atomic (Compared met)

of_load : (a : ℕ) (value : Number) (items : List Made) (answer : CallAnswer (Reply ℕ)) → if_equal_call a value items answer → IsLoad a value items answer
of_load a value items answer (met, (given, (reply, places, is_given), is_met), is) =
    let one = one_place (shared.Atomic a Load) (answers.Atomic reply) items places in
    (one.0, reply, one.1, one.2, one.3, is ∙ ap (with_outcome told) (is_met ∙ ap (with_outcome (holds value)) is_given))

pub returns : goal.returns
returns c plan worker before passes value type object call items answer there is called spelt =
    of_load (atomic_number plan.objects call.object) value items answer
    (spelt_on plan worker before object call (kinds.Atomic type) (operations.Composed (IfEqual value passes)) items answer there is called spelt)
