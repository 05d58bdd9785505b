-- The calls of an atomic in a record. Atomics have no journal: their calls stand in the shared history.
use Rattle.std.specs.Prelude.{◌≡◌, ℕ, ℤ, [], ◌∷◌, Ok}
use Rattle.sync_model.specs.declared.answer.Answer.TheVariants.{Done}
use Rattle.sync_types.specs.declared.atomic_object.AtomicCall.{AtomicCall}
use Rattle.sync_types.specs.declared.atomic_object.AtomicCall.TheVariants.{Add}
use Rattle.sync_types.specs.declared.atomic_object.AtomicReply.{AtomicReply}
use Rattle.sync_types.specs.declared.atomic_object.AtomicReply.TheVariants.{Held}
use Rattle.sync_types.specs.declared.atomic_object.Number.TheVariants.{Int64}
use Rattle.script_calls.specs.declared.call.Reply.{Reply}
use Rattle.script_calls.specs.declared.call.Reply.TheVariants as replies
use Rattle.sync_model.specs.declared.item.SharedCall.TheVariants as calls
use Rattle.sync_model.specs.declared.item.SharedReply.TheVariants as answers
use Rattle.run_record.specs.Parts.{Part, Places}

-- a call of atomic number a is one placed call
abbrev pub atomic_call : ℕ → AtomicCall → Part (Reply ℕ)
atomic_call a call items answer = (reply : AtomicReply) × Places ((calls.Atomic a call, answers.Atomic reply) ∷ []) items × (answer ≡ Done (Ok (replies.Atomic reply)))

-- an `add` of this amount to the int64 that is atomic number a comes to the sum
abbrev pub adds : ℕ → ℤ → Part ℤ
adds a amount items answer = (sum : ℤ) × Places ((calls.Atomic a (Add (Int64 amount)), answers.Atomic (Held (Int64 sum))) ∷ []) items × (answer ≡ Done (Ok sum))
