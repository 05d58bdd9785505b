use Rattle.std.proofs.Common.{◌≡◌, ℕ, drop, sym, subst}
use Rattle.script_calls.specs.declared.call.Operation.TheVariants as operations
use Rattle.workload.specs.declared.object.ObjectKind.TheVariants as kinds
use Rattle.run_record.specs.Record.{object_number}
use Rattle.run_cuts.specs.CallCuts.{on_cut}
use Rattle.run_cuts.specs.OnceCuts.{func_cut, value_cut}
use Rattle.list_checks.specs.SpellFound.{IsFound}
use Rattle.list_checks.proofs.spell.call.spell_simple.Goals as goal

pub returns-in-OnceFunc-OnceFunc : goal.returns-in-OnceFunc-OnceFunc
returns-in-OnceFunc-OnceFunc c = λ before.
    let code = c.in-OnceFunc-OnceFunc.code in
    let rest = drop c.args.from c.args.items.now in
    let result = c.spell_once_func.result in
    let kind_is : c.args.kind ≡ kinds.OnceFunc code = cc in
    let operation_is : c.args.operation.now ≡ operations.OnceFunc = cc in
    let number_is : c.object_number-object.result ≡ object_number c.args.place = cc in
    subst (λ kind. IsFound c.args.items.now c.args.from (on_cut c.args.workload.now c.args.worker before c.args.place kind c.args.operation.now rest) result) (sym kind_is)
    (subst (λ operation. IsFound c.args.items.now c.args.from (on_cut c.args.workload.now c.args.worker before c.args.place (kinds.OnceFunc code) operation rest) result) (sym operation_is)
    (subst (λ (number : ℕ). IsFound c.args.items.now c.args.from (func_cut number code rest) result) number_is c.spell_once_func.ensures))

pub returns-in-OnceValue-OnceValue : goal.returns-in-OnceValue-OnceValue
returns-in-OnceValue-OnceValue c = λ before.
    let value = c.in-OnceValue-OnceValue.value in
    let rest = drop c.args.from c.args.items.now in
    let result = c.spell_once_value.result in
    let kind_is : c.args.kind ≡ kinds.OnceValue value = cc in
    let operation_is : c.args.operation.now ≡ operations.OnceValue = cc in
    let number_is : c.object_number-object.result ≡ object_number c.args.place = cc in
    subst (λ kind. IsFound c.args.items.now c.args.from (on_cut c.args.workload.now c.args.worker before c.args.place kind c.args.operation.now rest) result) (sym kind_is)
    (subst (λ operation. IsFound c.args.items.now c.args.from (on_cut c.args.workload.now c.args.worker before c.args.place (kinds.OnceValue value) operation rest) result) (sym operation_is)
    (subst (λ (number : ℕ). IsFound c.args.items.now c.args.from (value_cut number value rest) result) number_is c.spell_once_value.ensures))
