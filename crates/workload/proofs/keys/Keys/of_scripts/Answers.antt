use Rattle.std.proofs.Common.{sym, ◌∙◌, add-one, map}
use Rattle.workload.specs.Keys.{keys_in, call_number}
use Rattle.workload.proofs.KeyNumbers.{few_keys, with_script}
use Rattle.workload.proofs.CallNumbers.{first_left, next_script, none_left, one_more}
use Rattle.workload.proofs.keys.Keys.of_scripts.Goals as goal

pub insert_script-requires : goal.insert_script-requires
insert_script-requires c =
    rw c.as_slice.ensures (few_keys c.loop-script.keys c.args.scripts.now c.loop-script.script-index _ c.script-item.result c.loop-script-test.true c.script-item.is c.loop-script.invariant.0 c.requires)

pub loop-script-preserved : goal.loop-script-preserved
loop-script-preserved c =
    let l = c.loop-script in
    let scripts = c.args.scripts.now in
    let script = c.script-item.result in
    let first = first_left scripts l.script-index script c.loop-script-test.true c.script-item.is in
    let row = next_script l.keys scripts l.script-index script c.in_ok-more.row c.loop-script-test.true c.script-item.is l.invariant.0 (rw (← c.as_slice.ensures) c.in_ok-more.ensures.numbers) in (
      rw (c.in_ok-more.ensures.keys, c.as_slice.ensures, add-one l.script-index) (sym (with_script l.keys scripts l.script-index script c.loop-script-test.true c.script-item.is) ∙ l.invariant.0),
      rw (c.in_ok-push.ensures.ok, add-one l.script-index) (one_more (map (call_number (keys_in scripts))) scripts l.script-index script l.numbers c.in_ok-more.row first row l.invariant.1),
    )

pub returns-clause-numbers : goal.returns-clause-numbers
returns-clause-numbers c =
    none_left (map (call_number (keys_in c.args.scripts.now))) c.args.scripts.now c.loop-script.script-index c.loop-script.numbers c.loop-script-test.false c.loop-script.invariant.1
