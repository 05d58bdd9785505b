use Rattle.std.proofs.Common.{sym}
use Rattle.workload.specs.Keys.{keys_in}
use Rattle.record_text.proofs.PairLemmas.{no_equals, no_key, no_number, a_pair}
use Rattle.record_text.proofs.pair.read_pair.Goals as goal

pub returns-in_err-name : goal.returns-in_err-name
returns-in_err-name c = rw c.from_residual.ensures (no_equals (keys_in c.args.workload.now.scripts) c.args.word.now c.in_err-name.ensures)

pub returns-in_err-key : goal.returns-in_err-key
returns-in_err-key c =
    let keys = keys_in c.args.workload.now.scripts in
    let known = rw c.keys.ensures at c.in_err-key.ensures in
    rw c.from_residual-in_err-key.ensures (no_key keys c.args.word.now c.in_ok-name.name.now c.in_ok-name.rest.now (c.keys_are_numbered_by_first_appearance.ensures.number c.args.workload.now.scripts) c.in_ok-name.ensures (sym known))

pub returns-in_err-value : goal.returns-in_err-value
returns-in_err-value c =
    let keys = keys_in c.args.workload.now.scripts in
    rw c.from_residual-in_err-value.ensures (no_number keys c.args.word.now c.in_ok-name.name.now c.in_ok-name.rest.now c.in_ok-name.ensures c.in_err-value.ensures)

pub returns : goal.returns
returns c =
    let keys = keys_in c.args.workload.now.scripts in
    let known = rw c.keys.ensures at c.in_ok-key.ensures in
    a_pair keys c.args.word.now c.in_ok-name.name.now c.in_ok-name.rest.now c.in_ok-key.key c.in_ok-value.value (c.keys_are_numbered_by_first_appearance.ensures.number c.args.workload.now.scripts) c.in_ok-name.ensures (sym known) c.in_ok-value.ensures.0 c.in_ok-value.ensures.1
