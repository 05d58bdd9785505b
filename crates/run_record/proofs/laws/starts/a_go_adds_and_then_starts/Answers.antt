use Rattle.std.proofs.Common.{ℕ, List, Option, Ok, Err, sym, subst}
use Rattle.script_calls.specs.declared.call.Call.{Call}
use Rattle.script_calls.specs.declared.call.ComposedCall.TheVariants.{Go}
use Rattle.script_calls.specs.declared.call.Operation.{Operation}
use Rattle.script_calls.specs.declared.call.Operation.TheVariants as operations
use Rattle.script_calls.specs.declared.call.Reply.{Reply}
use Rattle.script_calls.specs.declared.call.Reply.TheVariants as replies
use Rattle.sync_model.specs.declared.answer.Answer.TheVariants.{Done, Halted}
use Rattle.protocols.specs.Spelling.{CallAnswer}
use Rattle.workload.specs.declared.object.ObjectKind.{ObjectKind}
use Rattle.workload.specs.declared.object.ObjectKind.TheVariants as kinds
use Rattle.workload.specs.declared.object.ObjectLine.{ObjectLine}
use Rattle.workload.specs.Plan.{Plan}
use Rattle.run_record.specs.declared.made.Made.{Made}
use Rattle.run_record.specs.Calls.{call_at, call_on, SpellsCall}
use Rattle.run_record.specs.Objects.{starts_number}
use Rattle.run_record.specs.Record.{object_number}
use Rattle.run_record.specs.Starting.{IsGo}
use Rattle.run_record.specs.StartsKind.{go_call}
use Rattle.run_record.proofs.GoLemmas.{Goes, goes, has_gone, has_misused, has_met_halt}
use Rattle.run_record.proofs.Returning.{spelt_on}
use Rattle.run_record.proofs.laws.starts.a_go_adds_and_then_starts.Goals as goal

module _ (plan : Plan) (worker before started : ℕ) (call : Call) (items : List Made) (of : IsGo plan call started) (answer : CallAnswer (Reply ℕ)) where
  made : SpellsCall plan worker before call items answer → Goes (object_number call.object) (starts_number plan) started items answer
  made is = goes (object_number call.object) (starts_number plan) started items answer
      (spelt_on plan worker before of.object call (kinds.WaitGroup of.declared) (operations.Composed (Go started)) items answer of.there of.on_group of.goes is)

  spells : go_call (object_number call.object) (starts_number plan) started items answer → SpellsCall plan worker before call items answer
  spells is =
      subst (λ (o : Option ObjectLine). call_at plan worker before call.object o call.operation items answer) (sym of.there)
      (subst (λ (k : ObjectKind). call_on plan worker before call.object k call.operation items answer) (sym of.on_group)
      (subst (λ (o : Operation). call_on plan worker before call.object (kinds.WaitGroup of.declared) o items answer) (sym of.goes) is))

pub returns-clause-returned : goal.returns-clause-returned
returns-clause-returned c plan worker before started call items reply of is = made plan worker before started call items of (Done (Ok reply)) is

pub returns-clause-misused : goal.returns-clause-misused
returns-clause-misused c plan worker before started call items misuse of is = made plan worker before started call items of (Done (Err misuse)) is

pub returns-clause-halted : goal.returns-clause-halted
returns-clause-halted c plan worker before started call items misuse of is = made plan worker before started call items of (Halted misuse) is

pub returns-clause-spells : goal.returns-clause-spells
returns-clause-spells c plan worker before started call items of gone =
    spells plan worker before started call items of (Done (Ok replies.Returned)) (has_gone (object_number call.object) (starts_number plan) started items gone)

pub returns-clause-spells_misuse : goal.returns-clause-spells_misuse
returns-clause-spells_misuse c plan worker before started call items misuse of one =
    spells plan worker before started call items of (Done (Err misuse)) (has_misused (object_number call.object) (starts_number plan) started items misuse one)

pub returns-clause-spells_halt : goal.returns-clause-spells_halt
returns-clause-spells_halt c plan worker before started call items misuse of met =
    spells plan worker before started call items of (Halted misuse) (has_met_halt (object_number call.object) (starts_number plan) started items misuse met)
