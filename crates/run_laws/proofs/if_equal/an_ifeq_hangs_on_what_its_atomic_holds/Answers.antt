use Rattle.std.proofs.Common.{◌≡◌, ◌+◌, List, ◌++◌, sym, ap, ◌∙◌, append_assoc}
use Rattle.std.specs.Prelude.{Ok}
use Rattle.script_calls.specs.declared.call.ComposedCall.TheVariants.{IfEqual}
use Rattle.script_calls.specs.declared.call.Operation.TheVariants as operations
use Rattle.sync_model.specs.declared.answer.Answer.TheVariants.{Done}
use Rattle.sync_model.specs.SharedHistory.{contents_at, number_at}
use Rattle.sync_types.specs.SequentialAtomic.{is_same}
use Rattle.workload.specs.declared.object.ObjectKind.TheVariants as kinds
use Rattle.run_record.specs.declared.made.Made.{Made}
use Rattle.run_record.specs.Objects.{contents_of, atomic_number}
use Rattle.run_record.specs.Record.{list_of}
use Rattle.run_laws.proofs.IfEqual.{same_number, spelt_at, passed_by}
use Rattle.run_laws.proofs.Replied.{spelt_on, test_replies}
use Rattle.run_laws.proofs.if_equal.an_ifeq_hangs_on_what_its_atomic_holds.Goals as goal

pub returns : goal.returns
returns c plan r outcome explains worker i passes line spelt object type value there at is kind asks =
    let a = atomic_number plan.objects spelt.call.object in
    let found = spelt_at plan worker 0 line.spelt i spelt (explains.are.each worker line there).calls at in
    let ends : List Made = line.last ++ line.halts in
    let earlier : List Made = line.first ++ found.earlier in
    let whole : list_of r worker ≡ earlier ++ (spelt.items ++ (found.later ++ ends)) =
    c.a_call_that_was_passed_over_leaves_no_item.ensures.list plan r outcome explains.lines worker line explains.are there
    ∙ (ap (λ (l : List Made). line.first ++ l) (ap (λ (l : List Made). l ++ ends) found.items ∙ (append_assoc found.earlier (spelt.items ++ found.later) ends
    ∙ ap (λ (l : List Made). found.earlier ++ l) (append_assoc spelt.items found.later ends))) ∙ sym (append_assoc line.first found.earlier (spelt.items ++ (found.later ++ ends)))) in
    let one = test_replies plan r explains.lawful worker earlier (found.later ++ ends) spelt.items whole a value spelt.reply
    (spelt_on plan worker found.before object spelt.call (kinds.Atomic type) (operations.Composed (IfEqual value passes)) spelt.items (Done (Ok spelt.reply)) is kind asks found.spells) in
    let held = number_at (contents_at (contents_of plan) r.history one.0.place) a in
    let over = passed_by c.only_an_ifeq_answered_false_passes_calls_over.ensures.passes c.only_an_ifeq_answered_false_passes_calls_over.ensures.only spelt.call value passes spelt.reply (is_same held value) asks one.3 in (
      one.0,
      is_same held value,
      one.1,
      one.2,
      one.3,
      same_number held value,
      λ place after from to. c.a_call_that_was_passed_over_leaves_no_item.ensures.next plan r outcome explains.lines worker line i place after spelt explains.are there at from to ∙ ap (λ n. place + 1 + n) over,
    )
