-- Calls on maps and atomics, as items of the record.
use Rattle.std.proofs.Common.{◌≡◌, ℕ, ℤ, List, [], ◌∷◌, ◌++◌, refl, sym, ap, ◌∙◌, subst, arith, Option, Some, Ok, slice_index}
use Rattle.std.proofs.lemmas.List.{append-nil}
use Rattle.sync_model.specs.declared.answer.Answer.TheVariants.{Done}
use Rattle.sync_types.specs.declared.atomic_object.AtomicCall.TheVariants.{Add}
use Rattle.sync_types.specs.declared.atomic_object.AtomicReply.{AtomicReply}
use Rattle.sync_types.specs.declared.atomic_object.AtomicReply.TheVariants.{Held}
use Rattle.sync_types.specs.declared.atomic_object.Number.{Number}
use Rattle.sync_types.specs.declared.atomic_object.Number.TheVariants.{Int64}
use Rattle.sync_model.specs.declared.item.Item.{Item}
use Rattle.sync_model.specs.declared.item.SharedCall.{SharedCall}
use Rattle.sync_model.specs.declared.item.SharedCall.TheVariants as calls
use Rattle.sync_model.specs.declared.item.SharedReply.{SharedReply}
use Rattle.sync_model.specs.declared.item.SharedReply.TheVariants as answers
use Rattle.sync_model.specs.declared.item.SharedEntry.{SharedEntry}
use Rattle.sync_model.specs.Front.{Front, AtLeast}
use Rattle.sync_model.specs.Note.{Holding, IsCounted}
use Rattle.sync_model.specs.Shared.{Called, items_of, times_by, state_of}
use Rattle.sync_model.specs.SharedHistory.{Contents}
use Rattle.protocols.specs.Spelling.{CallAnswer}
use Rattle.run_record.specs.AtomicKind.{adds}
use Rattle.run_record.specs.declared.made.Made.{Made}
use Rattle.run_record.specs.declared.made.Made.TheVariants.{Shared}
use Rattle.run_record.specs.Parts.{Part, Places}
use Rattle.run_record.specs.Record.{ObjectEntry}
use Rattle.thread_objects.specs.Working.{Works, number_in, desk_with}
use Rattle.thread_objects.proofs.Moving.{counted_of}

abbrev the_call : SharedCall → SharedReply → List (SharedCall × SharedReply)
the_call call reply = (call, reply) ∷ []

same_calls : (a x : SharedCall) (b y : SharedReply) → a ≡ x → b ≡ y → the_call a b ≡ the_call x y
same_calls a x b y first second = ap (λ (l : SharedCall). the_call l b) first ∙ ap (λ (r : SharedReply). the_call x r) second

module _ {O N : Type 0} (start : Contents) (call : SharedCall) (reply : SharedReply) (cost : ℕ) (owner : N → Option Holding) (front : N → Front) (seen : N → List SharedEntry) (old new : N) (owns : ℕ → List ObjectEntry) (part : Part O) (answer : CallAnswer O) where
  -- one call is one item, which enters nothing in any journal
  pub called_works : ((items : List Made) → Places ((call, reply) ∷ []) items → part items answer) → IsCounted (owner old) (front old).counts → Called start call reply cost (state_of owner front seen old) (state_of owner front seen new)
      → Works part (desk_with owner front owns old) answer (desk_with owner front owns new)
  called_works spelt counted called = record {
    items = Shared called.item ∷ [];
    moves = record {
      worker = ap number_in called.own_new ∙ ap (λ (n : ℕ). Some n) called.number ∙ sym (ap number_in called.own_old);
      owns = λ object. sym (append-nil (owns object));
      calls = ap items_of called.own_new ∙ called.items ∙ ap (λ (l : List Item). l ++ called.item ∷ []) (sym (ap items_of called.own_old));
      numbers = called.time ∷ [];
      times = ap times_by called.own_new ∙ called.times ∙ ap (λ (l : List ℕ). l ++ called.time ∷ []) (sym (ap times_by called.own_old));
      fronts = ((subst (λ (f : List ℕ). AtLeast f (front old).counts) (sym called.is_front) (λ i. omega arith), called.past), (subst (λ (f : List ℕ). AtLeast (front new).counts f) (sym called.is_front) called.rises, called.reached));
      counts = λ worker is. (ap (λ (f : List ℕ). slice_index f worker) called.is_front ∙ counted_of (owner old) (front old).counts counted worker is, tt);
    };
    spelt = spelt (Shared called.item ∷ []) (called.item ∷ [], refl, same_calls called.item.call call called.item.reply reply called.is_call called.is_reply);
  }

-- an `add` to an int64 that is answered by an int64
pub sum_placed : (a : ℕ) (amount sum : ℤ) (operand : Number) (reply : AtomicReply) (items : List Made) → operand ≡ Int64 amount → reply ≡ Held (Int64 sum)
    → Places ((calls.Atomic a (Add operand), answers.Atomic reply) ∷ []) items → adds a amount items (Done (Ok sum))
sum_placed a amount sum operand reply items is told placed =
    (sum, (placed.0, placed.1, placed.2 ∙ same_calls _ _ _ _ (ap (λ (n : Number). calls.Atomic a (Add n)) is) (ap (λ (r : AtomicReply). answers.Atomic r) told)), refl)
