use Rattle.std.proofs.Common.{◌≡◌, ℕ, Bool, false, List, Option, Ok, Err, refl, sym, ap, ◌∙◌, subst, arith}
use Rattle.script_calls.specs.declared.call.Call.{Call}
use Rattle.script_calls.specs.declared.call.ComposedCall.TheVariants.{WaitFor}
use Rattle.script_calls.specs.declared.call.Operation.{Operation}
use Rattle.script_calls.specs.declared.call.Operation.TheVariants as operations
use Rattle.script_calls.specs.declared.call.Reply.{Reply}
use Rattle.script_calls.specs.declared.call.Reply.TheVariants as replies
use Rattle.sync_model.specs.declared.answer.Answer.TheVariants.{Done, Halted}
use Rattle.sync_types.specs.declared.atomic_object.AtomicReply.TheVariants.{Compared}
use Rattle.sync_types.specs.declared.atomic_object.Number.{Number}
use Rattle.sync_types.specs.declared.misuse.Misuse.{Misuse}
use Rattle.protocols.specs.Spelling.{CallAnswer}
use Rattle.workload.specs.declared.object.ObjectKind.{ObjectKind}
use Rattle.workload.specs.declared.object.ObjectKind.TheVariants as kinds
use Rattle.workload.specs.declared.object.ObjectLine.{ObjectLine}
use Rattle.workload.specs.Plan.{Plan}
use Rattle.run_record.specs.declared.made.Made.{Made}
use Rattle.run_record.specs.Calls.{call_at, call_on, SpellsCall}
use Rattle.run_record.specs.Objects.{atomic_number}
use Rattle.run_record.specs.Parts.{with_outcome}
use Rattle.run_record.specs.Record.{object_number}
use Rattle.run_record.specs.Rounds.{IsWaitFor, HasWaited, HasStopped}
use Rattle.run_record.specs.Tests.{compared, waits_for, wait_for_call}
use Rattle.run_record.proofs.Returning.{spelt_on, read_off}
use Rattle.run_record.proofs.RoundCounts.{ends_unlocking, waited_counts}
use Rattle.run_record.proofs.RoundLemmas.{Goes, of_waits, to_waits}
use Rattle.run_record.proofs.laws.spelling.a_waitfor_waits_until_a_load_finds_the_value.Goals as goal

is_misuse : (given : CallAnswer Bool) (misuse : Misuse) → Done (Err misuse) ≡ with_outcome compared given → given ≡ Done (Err misuse)
is_misuse (Done (Ok met)) misuse e = absurd cc
is_misuse (Done (Err other)) misuse e = cc
is_misuse (Halted other) misuse e = absurd cc

is_halt : (given : CallAnswer Bool) (misuse : Misuse) → Halted misuse ≡ with_outcome compared given → given ≡ Halted misuse
is_halt (Done (Ok met)) misuse e = absurd cc
is_halt (Done (Err other)) misuse e = absurd cc
is_halt (Halted other) misuse e = cc

abbrev is_met : Reply ℕ → Bool
is_met (replies.Atomic (Compared met)) = met
is_met other = false

module _ (plan : Plan) (worker before mutex atomic tries : ℕ) (value : Number) (call : Call) (items : List Made) (of : IsWaitFor plan call mutex atomic value tries) where
  spelt : (answer : CallAnswer (Reply ℕ)) → SpellsCall plan worker before call items answer → wait_for_call (object_number call.object) (object_number mutex) (atomic_number plan.objects atomic) value tries items answer
  spelt answer is = spelt_on plan worker before of.object call (kinds.Cond mutex) (operations.Composed (WaitFor atomic value tries)) items answer of.there of.on_cond of.waits_for is

  goes : (answer : CallAnswer Bool) → waits_for (object_number call.object) (object_number mutex) (atomic_number plan.objects atomic) value tries items answer → Goes (object_number call.object) (object_number mutex) (atomic_number plan.objects atomic) value tries answer items
  goes answer made = of_waits (object_number call.object) (object_number mutex) (atomic_number plan.objects atomic) value tries items answer made

  spells : (answer : CallAnswer (Reply ℕ)) → wait_for_call (object_number call.object) (object_number mutex) (atomic_number plan.objects atomic) value tries items answer → SpellsCall plan worker before call items answer
  spells answer made =
      subst (λ (o : Option ObjectLine). call_at plan worker before call.object o call.operation items answer) (sym of.there)
      (subst (λ (k : ObjectKind). call_on plan worker before call.object k call.operation items answer) (sym of.on_cond)
      (subst (λ (o : Operation). call_on plan worker before call.object (kinds.Cond mutex) o items answer) (sym of.waits_for) made))

pub returns-clause-returned : goal.returns-clause-returned
returns-clause-returned c plan worker before mutex atomic tries value call items reply of is =
    let s = spelt plan worker before mutex atomic tries value call items of (Done (Ok reply)) is in
    let off = read_off compared s.0 reply s.2 in
    let g = goes plan worker before mutex atomic tries value call items of s.0 s.1 in
    (off.outcome, off.read, subst (λ (a : CallAnswer Bool). Goes (object_number call.object) (object_number mutex) (atomic_number plan.objects atomic) value tries a items) off.is g)

pub returns-clause-spells : goal.returns-clause-spells
returns-clause-spells c plan worker before mutex atomic tries value call items met of w =
    spells plan worker before mutex atomic tries value call items of (Done (Ok (compared met)))
    (Done (Ok met), to_waits (object_number call.object) (object_number mutex) (atomic_number plan.objects atomic) value tries met items w, refl)

pub returns-clause-counted : goal.returns-clause-counted
returns-clause-counted c plan worker before mutex atomic tries value call items met of is =
    let s = spelt plan worker before mutex atomic tries value call items of (Done (Ok (compared met))) is in
    let off = read_off compared s.0 (compared met) s.2 in
    let same : off.outcome ≡ met = ap is_met (sym off.read) in
    let given = off.is ∙ ap (λ (b : Bool). Done (Ok b)) same in
    let g = goes plan worker before mutex atomic tries value call items of s.0 s.1 in
    let w : HasWaited (object_number call.object) (object_number mutex) (atomic_number plan.objects atomic) value tries met items =
    subst (λ (a : CallAnswer Bool). Goes (object_number call.object) (object_number mutex) (atomic_number plan.objects atomic) value tries a items) given g in
    let counts = waited_counts (object_number call.object) (object_number mutex) (atomic_number plan.objects atomic) value tries met items w in
    let few = w.few in
    (omega (arith, counts.0, counts.1), omega (arith, counts.0, few), λ no. counts.0 ∙ w.all_made no)

pub returns-clause-misused : goal.returns-clause-misused
returns-clause-misused c plan worker before mutex atomic tries value call items misuse of is =
    let s = spelt plan worker before mutex atomic tries value call items of (Done (Err misuse)) is in
    let g = goes plan worker before mutex atomic tries value call items of s.0 s.1 in
    let stopped : HasStopped (object_number call.object) (object_number mutex) (atomic_number plan.objects atomic) value tries (Done (Err misuse)) items =
    subst (λ (a : CallAnswer Bool). Goes (object_number call.object) (object_number mutex) (atomic_number plan.objects atomic) value tries a items) (is_misuse s.0 misuse s.2) g in
    (stopped, ends_unlocking c.calls_give_what_they_may.ensures c.calls_give_what_they_may-2.ensures (object_number call.object) (object_number mutex) misuse (atomic_number plan.objects atomic) value tries items stopped)

pub returns-clause-halted : goal.returns-clause-halted
returns-clause-halted c plan worker before mutex atomic tries value call items misuse of is =
    let s = spelt plan worker before mutex atomic tries value call items of (Halted misuse) is in
    let g = goes plan worker before mutex atomic tries value call items of s.0 s.1 in
    subst (λ (a : CallAnswer Bool). Goes (object_number call.object) (object_number mutex) (atomic_number plan.objects atomic) value tries a items) (is_halt s.0 misuse s.2) g
