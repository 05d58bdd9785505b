use Rattle.std.proofs.Common.{◌≡◌, ◌≢◌, ℕ, ℤ, Bool, true, false, List, [], ◌∷◌, ◌++◌, length, Option, sym, ap, ◌∙◌, subst, arith}
use Rattle.std.specs.Prelude.{Ok, Err}
use Rattle.std.proofs.lemmas.Bool.{false≢true}
use Rattle.sync_model.specs.declared.answer.Answer.TheVariants.{Done, Halted}
use Rattle.sync_types.specs.declared.atomic_object.AtomicCall.TheVariants.{Add}
use Rattle.sync_types.specs.declared.atomic_object.AtomicReply.TheVariants.{Held}
use Rattle.sync_types.specs.declared.atomic_object.Number.TheVariants.{Int64}
use Rattle.script_calls.specs.declared.call.Operation.{Operation}
use Rattle.script_calls.specs.declared.call.Reply.{Reply}
use Rattle.script_calls.specs.declared.call.Reply.TheVariants as replies
use Rattle.sync_model.specs.declared.item.Item.{Item}
use Rattle.sync_model.specs.declared.item.SharedCall.TheVariants as shared
use Rattle.sync_model.specs.declared.item.SharedReply.TheVariants as answers
use Rattle.sync_types.specs.declared.once_call.DoReply.TheVariants as do_replies
use Rattle.protocols.specs.Spelling.{CallAnswer}
use Rattle.protocols.specs.declared.once.OnceOutcome.{OnceOutcome}
use Rattle.protocols.specs.declared.once.OnceOutcome.TheVariants.{Run, Already, Ended}
use Rattle.protocols.specs.declared.once.OnceStage.{OnceStage}
use Rattle.protocols.specs.declared.once.OnceStage.TheVariants as stage
use Rattle.protocols.specs.OnceStages.{once_event, once_meaning}
use Rattle.workload.specs.declared.object.ObjectKind.{ObjectKind}
use Rattle.workload.specs.declared.object.ObjectKind.TheVariants as kinds
use Rattle.workload.specs.declared.object.ObjectLine.{ObjectLine}
use Rattle.run_record.specs.declared.entered.ObjectEvent.TheVariants as event
use Rattle.run_record.specs.declared.entered.ObjectReply.TheVariants as reply
use Rattle.run_record.specs.declared.made.Made.{Made}
use Rattle.run_record.specs.declared.made.Made.TheVariants.{Shared}
use Rattle.run_record.specs.AtomicKind.{adds}
use Rattle.run_record.specs.Calls.{call_at, call_on}
use Rattle.run_record.specs.Objects.{atomic_number}
use Rattle.run_record.specs.OnceKind.{goes_on_once, do_call}
use Rattle.run_record.specs.Parts.{Part, GoesOn, with_outcome, stages, read_as}
use Rattle.run_record.specs.Record.{object_number}
use Rattle.run_record.proofs.TwoCalls.{one_place}
use Rattle.run_record.proofs.laws.spelling.a_do_that_ran_added_between.Goals as goal

-- the sum that a reply to `do` shows
abbrev sum_in : ℤ → CallAnswer (Reply ℕ) → ℤ
sum_in other (Done (Ok (replies.Once (do_replies.Ran sum)))) = sum
sum_in other (Done (Ok reply)) = other
sum_in other (Done (Err misuse)) = other
sum_in other (Halted misuse) = other

abbrev RanBy : ℕ → ℤ → ℤ → List Made → Type 0
RanBy a delta sum items = (begun : List Made) × (ended : List Made) × (x : Item) × (items ≡ begun ++ Shared x ∷ ended) × (begun ≢ []) × (ended ≢ [])
    × (x.call ≡ shared.Atomic a (Add (Int64 delta))) × (x.reply ≡ answers.Atomic (Held (Int64 sum)))

module _ (object : ℕ) where
  abbrev part : OnceStage ℤ → Part (OnceOutcome ℤ)
  part from = stages event.Once reply.Once once_event once_meaning object from

  -- a part of the protocol makes something
  makes : (from : OnceStage ℤ) (items : List Made) (answer : CallAnswer (OnceOutcome ℤ)) → part from items answer → items ≢ []
  makes from items answer ([], is, spelt) none = spelt
  makes from items answer (e ∷ es, is, spelt) none = absurd (omega (arith, ap (λ (l : List Made). length l) (sym none ∙ is)))

  abbrev ran : ℤ → Reply ℕ
  ran sum = replies.Once (do_replies.Ran sum)

  abbrev is_ran : CallAnswer (Reply ℕ) → Bool
  is_ran (Done (Ok (replies.Once (do_replies.Ran sum)))) = true
  is_ran (Done (Ok reply)) = false
  is_ran (Done (Err misuse)) = false
  is_ran (Halted misuse) = false

  by_end : (sum added : ℤ) (g : CallAnswer (OnceOutcome ℤ)) → Done (Ok (ran sum)) ≡ with_outcome (λ ended. ran added) g → added ≡ sum
  by_end sum added (Done (Ok outcome)) is = sym (ap (sum_in sum) is)
  by_end sum added (Done (Err misuse)) is = absurd (false≢true (sym (ap is_ran is)))
  by_end sum added (Halted misuse) is = absurd (false≢true (sym (ap is_ran is)))

  by_given : (a : ℕ) (delta sum : ℤ) (begun later items : List Made) (given : CallAnswer (OnceOutcome ℤ)) → items ≡ begun ++ later → begun ≢ []
      → GoesOn (goes_on_once part (adds a delta) ran (λ kept. replies.Once do_replies.Done)) given later (Done (Ok (ran sum))) → RanBy a delta sum items
  by_given a delta sum begun later items (Done (Ok Run)) is some (first, ended, g, are, (added, places, g_is), goes) =
      let last = subst (λ (h : CallAnswer ℤ). GoesOn (λ value. read_as (λ ended. ran value) (part (stage.End value))) h ended (Done (Ok (ran sum)))) g_is goes in
      let x = one_place (shared.Atomic a (Add (Int64 delta))) (answers.Atomic (Held (Int64 added))) first places in
      (begun, ended, x.0, is ∙ ap (λ (l : List Made). begun ++ l) (are ∙ ap (λ (l : List Made). l ++ ended) x.1), some, makes (stage.End added) ended last.0 last.1, x.2, x.3 ∙ ap (λ (z : ℤ). answers.Atomic (Held (Int64 z))) (by_end sum added last.0 last.2))
  by_given a delta sum begun later items (Done (Ok (Already kept))) is some goes = absurd (false≢true (sym (ap is_ran goes.1)))
  by_given a delta sum begun later items (Done (Ok Ended)) is some goes = absurd goes
  by_given a delta sum begun later items (Done (Err misuse)) is some goes = absurd (false≢true (sym (ap is_ran goes.1)))
  by_given a delta sum begun later items (Halted misuse) is some goes = absurd (false≢true (sym (ap is_ran goes.1)))

  of_do : (a : ℕ) (delta sum : ℤ) (items : List Made) → do_call object a delta items (Done (Ok (ran sum))) → RanBy a delta sum items
  of_do a delta sum items (begun, later, given, is, made, goes) = by_given a delta sum begun later items given is (makes stage.Begin begun given made) goes

pub returns : goal.returns
returns c plan worker before atomic delta sum object call items some kind once spelt =
    let answer : CallAnswer (Reply ℕ) = Done (Ok (replies.Once (do_replies.Ran sum))) in
    let found = subst (λ (o : Option ObjectLine). call_at plan worker before call.object o call.operation items answer) some spelt in
    let of_kind = subst (λ (k : ObjectKind). call_on plan worker before call.object k call.operation items answer) kind found in
    let is_do = subst (λ (o : Operation). call_on plan worker before call.object (kinds.Once atomic delta) o items answer) once of_kind in
    of_do (object_number call.object) (atomic_number plan.objects atomic) delta sum items is_do
