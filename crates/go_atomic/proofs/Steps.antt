-- A compare-exchange of words is the call's compare and swap.
use Rattle.std.proofs.Common.{◌≡◌, ℕ, Bool, true, false, ◌&&◌, cond, refl, sym, ap, subst, ◌∙◌}
use Rattle.std.specs.Prelude.{◌==◌}
use Rattle.sync_types.specs.declared.atomic_object.AtomicCall.TheVariants.{CompareAndSwap}
use Rattle.sync_types.specs.declared.atomic_object.AtomicKind.{AtomicKind}
use Rattle.sync_types.specs.declared.atomic_object.Number.{Number}
use Rattle.sync_types.specs.declared.atomic_object.AtomicCall.{AtomicCall}
use Rattle.sync_types.specs.declared.atomic_object.AtomicReply.TheVariants.{Compared}
use Rattle.sync_model.specs.declared.item.SharedCall.TheVariants as calls
use Rattle.sync_model.specs.declared.item.SharedReply.TheVariants as replies
use Rattle.sync_model.specs.SharedHistory.{Contents}
use Rattle.sync_model.specs.Shared.{CallerState, Called}
use Rattle.sync_types.specs.SequentialAtomic.{is_of, is_same, atomic_reply}
use Rattle.sync_types.specs.WordLayout.{word_of, is_word, number_in}
use Rattle.table_rule.specs.Operations.{IsOperation}

pub both : (a b : Bool) → (a && b) ≡ true → (a ≡ true) × (b ≡ true)
both true b e = (refl, e)
both false b e = absurd (cc)

module _ (kind : AtomicKind) (old new : Number) (first second : ℕ) (is_first : first ≡ word_of old) (is_second : second ≡ word_of new) (is_new : is_of kind new ≡ true)
    (read : (kind : AtomicKind) (number : Number) → is_of kind number ≡ true → (is_word kind (word_of number) ≡ true) × (number_in kind (word_of number) ≡ number))
    (compared : (word : ℕ) → is_word kind word ≡ true → (word == word_of old) ≡ is_same (number_in kind word) old) where
  pub exchanges : IsOperation kind (CompareAndSwap old new) (λ word. cond (word == first) second word)
  exchanges = record {
    keeps = λ word e. kept word e (word == first);
    leads = λ word e. led word (word == first) (is_same (number_in kind word) old) (ap (λ w. word == w) is_first ∙ compared word e);
  }
    where
      kept : (word : ℕ) → is_word kind word ≡ true → (b : Bool) → is_word kind (cond b second word) ≡ true
      kept word e true = ap (is_word kind) is_second ∙ (read kind new is_new).0
      kept word e false = e

      led : (word : ℕ) (b same : Bool) → b ≡ same → number_in kind (cond b second word) ≡ cond same new (number_in kind word)
      led word true true e = ap (number_in kind) is_second ∙ (read kind new is_new).1
      led word false false e = refl
      led word true false e = absurd (cc)
      led word false true e = absurd (cc)

pub swapped : (start : Contents) (a : ℕ) (call : AtomicCall) (kind : AtomicKind) (old new : Number) (first found : ℕ) (s t : CallerState) → call ≡ CompareAndSwap old new → first ≡ word_of old → (found == word_of old) ≡ is_same (number_in kind found) old
    → Called start (calls.Atomic a (CompareAndSwap old new)) (replies.Atomic (atomic_reply (CompareAndSwap old new) (number_in kind found))) 0 s t → Called start (calls.Atomic a call) (replies.Atomic (Compared (found == first))) 0 s t
swapped start a call kind old new first found s t is is_first same called =
    subst (λ (c : AtomicCall). Called start (calls.Atomic a c) (replies.Atomic (Compared (found == first))) 0 s t) (sym is)
    (subst (λ (b : Bool). Called start (calls.Atomic a (CompareAndSwap old new)) (replies.Atomic (Compared b)) 0 s t) (sym (ap (λ w. found == w) is_first ∙ same)) called)
