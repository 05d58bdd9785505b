use Rattle.std.proofs.Common.{length, drop, ap, arith, sym, ◌∙◌, add-one}
use Rattle.std.specs.List.{flat_map}
use Rattle.std.proofs.lemmas.List.{drop_all}
use Rattle.workload.specs.Draft.{keys_of}
use Rattle.workload.specs.Keys.{with_names, call_number}
use Rattle.workload.proofs.KeyNumbers.{longer}
use Rattle.workload.proofs.CallNumbers.{begins, first_left, goes_on, none_left}
use Rattle.workload.proofs.keys.Keys.insert_script.Goals as goal

pub insert_call-requires : goal.insert_call-requires
insert_call-requires c =
    omega (arith, longer c.loop-call.keys (flat_map keys_of (drop c.loop-call.call-index c.args.script.now)), ap (λ names. length names) c.loop-call.invariant.keys_are, c.requires)

pub loop-call-init : goal.loop-call-init
loop-call-init c = rw c.new-numbers.ensures (begins c.args.self c.args.script.now)

pub loop-call-preserved : goal.loop-call-preserved
loop-call-preserved c =
    let l = c.loop-call in
    rw (c.in_ok-push.ensures.ok, add-one l.call-index)
    (goes_on c.args.self c.args.script.now l.keys c.in_ok-more.more l.numbers l.call-index c.in_ok-more.number c.call-item.result (first_left c.args.script.now l.call-index c.call-item.result c.loop-call-test.true c.call-item.is) c.in_ok-more.ensures.keys c.in_ok-more.ensures.number l.invariant)

pub returns-clause-keys : goal.returns-clause-keys
returns-clause-keys c = sym (ap (λ calls. with_names c.loop-call.keys (flat_map keys_of calls)) (drop_all c.loop-call.call-index c.args.script.now c.loop-call-test.false)) ∙ c.loop-call.invariant.keys_are

pub returns-clause-numbers : goal.returns-clause-numbers
returns-clause-numbers c = λ later.
    let keys = with_names (with_names c.args.self (flat_map keys_of c.args.script.now)) later in
    none_left (call_number keys) c.args.script.now c.loop-call.call-index c.loop-call.numbers c.loop-call-test.false (c.loop-call.invariant.numbers_are later)
