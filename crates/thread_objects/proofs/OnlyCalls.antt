-- Which calls a worker makes on maps and atomics, and what one has seen that gives up.
use Rattle.std.proofs.Common.{◌≡◌, ℕ, ℤ, List, [], ◌∷◌, ◌++◌, length, map, Option, Some, None, Ok, slice_get, refl, sym, ap, ◌∙◌, subst, append_assoc}
use Rattle.std.specs.Prelude.{IfNone}
use Rattle.std.proofs.lemmas.List.{append-nil}
use Rattle.std.proofs.lemmas.List.Elements.{All-nil, All-cons, All-append}
use Rattle.sync_model.specs.declared.answer.Answer.TheVariants.{Done}
use Rattle.sync_types.specs.declared.atomic_object.AtomicKind.{AtomicKind}
use Rattle.sync_types.specs.declared.atomic_object.AtomicCall.TheVariants.{Add}
use Rattle.sync_types.specs.declared.atomic_object.AtomicReply.{AtomicReply}
use Rattle.sync_types.specs.declared.atomic_object.AtomicReply.TheVariants.{Done as AtomicDone, Held}
use Rattle.sync_types.specs.declared.atomic_object.Number.{Number}
use Rattle.sync_types.specs.declared.atomic_object.Number.TheVariants.{Int64}
use Rattle.sync_model.specs.declared.item.Item.{Item}
use Rattle.sync_model.specs.declared.item.SharedCall.{SharedCall}
use Rattle.sync_model.specs.declared.item.SharedCall.TheVariants as calls
use Rattle.sync_model.specs.declared.item.SharedReply.{SharedReply}
use Rattle.sync_model.specs.declared.item.SharedReply.TheVariants as answers
use Rattle.sync_model.specs.Note.{Holding}
use Rattle.sync_model.specs.Shared.{CallerState, Called, IsAtomicCall, items_of}
use Rattle.sync_model.specs.SharedHistory.{Contents}
use Rattle.run_record.specs.declared.made.Made.{Made}
use Rattle.run_record.specs.declared.made.Made.TheVariants.{Shared}
use Rattle.workload.specs.Plan.{Plan}
use Rattle.run_record.specs.Limits.{HasShown, IsCallOf, atomic_types}
use Rattle.run_record.specs.Record.{shared_in}
use Rattle.thread_objects.specs.GivenUp.{AnsweredAmiss, MakesOnly}
use Rattle.thread_objects.specs.PlacedCalls.{placed, shows}
use Rattle.thread_objects.specs.Working.{Desk, Works}
use Rattle.thread_objects.proofs.Ranging.{placed_on}

shared_of : (xs : List Item) → shared_in (map Shared xs) ≡ xs
shared_of [] = refl
shared_of (x ∷ xs) = ap (λ (l : List Item). x ∷ l) (shared_of xs)

module _ (is : SharedCall → Type 0) where
  pub none_made : (old new : Option Holding) → new ≡ old → MakesOnly is (items_of old) (items_of new)
  none_made old new same = record { made = []; are = ap items_of same ∙ sym (append-nil (items_of old)); each = All-nil (λ x. is x.call) }

  -- some calls, and then others
  pub made_on : (old between new : List Item) → MakesOnly is old between → MakesOnly is between new → MakesOnly is old new
  made_on old between new first later = record {
    made = first.made ++ later.made;
    are = later.are ∙ ap (λ (l : List Item). l ++ later.made) first.are ∙ append_assoc old first.made later.made;
    each = All-append (λ x. is x.call) first.made later.made first.each later.each;
  }

  pub called_only : (start : Contents) (call : SharedCall) (reply : SharedReply) (cost : ℕ) (old new : CallerState) → is call → Called start call reply cost old new → MakesOnly is (items_of old.own) (items_of new.own)
  called_only start call reply cost old new fits called = record {
    made = called.item ∷ [];
    are = ap items_of called.own_new ∙ called.items ∙ ap (λ (l : List Item). l ++ called.item ∷ []) (sym (ap items_of called.own_old));
    each = All-cons (λ x. is x.call) called.item [] (subst is (sym called.is_call) fits) (All-nil (λ x. is x.call));
  }

-- a cursor that was begun, and has shown these pairs
pub has_shown : (old between new : Desk) (m : ℕ) (shown : List (ℕ × ℕ)) → Works (placed ((calls.Begin m, answers.Begun) ∷ [])) old (Done (Ok tt)) between → Works (placed (shows (length old.calls) shown)) between (Done (Ok tt)) new
    → HasShown new.calls shown
has_shown old between new m shown begun showed =
    let whole = placed_on old between new ((calls.Begin m, answers.Begun) ∷ []) (shows (length old.calls) shown) begun showed in
    let made = whole.spelt.0 in
    record {
      m = m;
      before = old.calls;
      made = made.0;
      after = [];
      are = whole.moves.calls ∙ ap (λ (l : List Made). old.calls ++ shared_in l) made.1 ∙ ap (λ (l : List Item). old.calls ++ l) (shared_of made.0 ∙ sym (append-nil made.0));
      more = [];
      steps = made.2 ∙ ap (λ (l : List (SharedCall × SharedReply)). (calls.Begin m, answers.Begun) ∷ l) (sym (append-nil (shows (length old.calls) shown)));
    }

abbrev atomic_in : SharedReply → AtomicReply
atomic_in (answers.Map reply) = AtomicDone
atomic_in answers.Begun = AtomicDone
atomic_in (answers.Shown pair) = AtomicDone
atomic_in (answers.Atomic reply) = reply

at_end : (xs : List Item) (x : Item) → slice_get (xs ++ x ∷ []) (length xs) ≡ Some x
at_end [] x = refl
at_end (y ∷ xs) x = at_end xs x

-- an `add` to an int64 that an atomic has
pub add_fits : (plan : Plan) (types : List AtomicKind) (a : ℕ) (amount : ℤ) (operand : Number) → operand ≡ Int64 amount → atomic_types plan ≡ types → IsAtomicCall types a (Add (Int64 amount)) → IsCallOf plan (calls.Atomic a (Add operand))
add_fits plan types a amount operand is same has = subst (λ (n : Number). IsAtomicCall (atomic_types plan) a (Add n)) (sym is) (subst (λ (t : List AtomicKind). IsAtomicCall t a (Add (Int64 amount))) (sym same) has)

-- and that was answered by no int64
pub answered_amiss : (start : Contents) (a : ℕ) (amount : ℤ) (operand : Number) (reply : AtomicReply) (cost : ℕ) (old new : CallerState) → operand ≡ Int64 amount → ((sum : ℤ) → reply ≡ Held (Int64 sum) → ⊥)
    → Called start (calls.Atomic a (Add operand)) (answers.Atomic reply) cost old new → AnsweredAmiss (items_of new.own)
answered_amiss start a amount operand reply cost old new is other called = record {
  i = length called.was.items;
  a = a;
  amount = amount;
  x = called.item;
  at = ap (λ (l : List Item). slice_get l (length called.was.items)) (ap items_of called.own_new ∙ called.items) ∙ at_end called.was.items called.item;
  call = called.is_call ∙ ap (λ (n : Number). calls.Atomic a (Add n)) is;
  amiss = λ sum told. other sum (ap atomic_in (sym called.is_reply ∙ told));
}

pub IfNone_then : {X : Type 0} (o : Option X) {P Q : Type 0} → IfNone o P → (P → Q) → IfNone o Q
IfNone_then None holds then = then holds
IfNone_then (Some x) holds then = tt

pub IfNone_always : {X : Type 0} (o : Option X) {P : Type 0} → P → IfNone o P
IfNone_always None holds = holds
IfNone_always (Some x) holds = tt
