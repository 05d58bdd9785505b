use Rattle.std.proofs.Common.{◌≡◌, ◌<◌, get_or, length, refl, sym, ◌∙◌, subst, arith, le_refl}
use Rattle.std.proofs.lemmas.Option.{slice_get-get_or}
use Rattle.sync_model.specs.declared.caller.Caller.{Caller}
use Rattle.shared_table.specs.declared.note.SharedNote.{SharedNote}
use Rattle.shared_table.specs.Settling.{Gathered}
use Rattle.shared_table.proofs.Settles.{only_own, gathered_on, callers_on, same_callers, set_other}
use Rattle.shared_table.proofs.table.SharedTable.bring_all.Goals as goal

pub loop-caller-init : goal.loop-caller-init
loop-caller-init c = record { table = c.requires.all.0; gathered = c.requires.all.1; same = same_callers c.args.callers.now; rest = λ i past. refl }

pub bring-requires-clause-note : goal.bring-requires-clause-note
bring-requires-clause-note c =
    let i = c.loop-caller.caller-index in
    let count = c.loop-caller.invariant.same.count in
    let inside = c.loop-caller-test.true in
    let below : i < length c.loop-caller.callers = omega arith in
    let at_i = sym (c.loop-caller.invariant.rest i (le_refl i)) ∙ slice_get-get_or c.loop-caller.callers i c.caller-item.result below in
    (c.requires.callers.each i _ at_i).0

pub bring-requires-clause-all : goal.bring-requires-clause-all
bring-requires-clause-all c = (c.loop-caller.invariant.table, c.loop-caller.invariant.gathered.live)

pub bring-requires-clause-next : goal.bring-requires-clause-next
bring-requires-clause-next c =
    let i = c.loop-caller.caller-index in
    let count = c.loop-caller.invariant.same.count in
    let inside = c.loop-caller-test.true in
    let below : i < length c.loop-caller.callers = omega arith in
    let at_i = sym (c.loop-caller.invariant.rest i (le_refl i)) ∙ slice_get-get_or c.loop-caller.callers i c.caller-item.result below in
    let before : Caller SharedNote = get_or c.loop-caller.callers i c.caller-item.result in
    let is = c.requires.callers.each i before at_i in
    let one = only_own before.note i is.0.few is.1 in
    let number : before.note.number ≡ i = sym before.note.number_is ∙ one.2 in
    let zero_number = c.loop-caller.invariant.gathered.number in
    let many = c.loop-caller.invariant.gathered.count in
    omega arith

pub loop-caller-preserved : goal.loop-caller-preserved
loop-caller-preserved c =
    let i = c.loop-caller.caller-index in
    let first = c.args.callers.now in
    let callers = c.loop-caller.callers in
    let count = c.loop-caller.invariant.same.count in
    let inside = c.loop-caller-test.true in
    let below : i < length callers = omega arith in
    let at_i = sym (c.loop-caller.invariant.rest i (le_refl i)) ∙ slice_get-get_or callers i c.caller-item.result below in
    let before : Caller SharedNote = get_or callers i c.caller-item.result in
    let after : Caller SharedNote = record { note = c.bring.new.note } in
    let is = c.requires.callers.each i before at_i in
    record {
      table = c.bring.ensures.all.0 ∙ c.loop-caller.invariant.table;
      gathered = gathered_on c.args.self.now first i c.loop-caller.all.me c.bring.new.all.me before c.loop-caller.invariant.gathered at_i is.0 is.1 c.bring.ensures.all.1 c.bring.ensures.knows;
      same = callers_on first callers i before after at_i c.bring.ensures.note c.loop-caller.invariant.same;
      rest = λ k past. set_other callers i k after (λ e. omega arith) ∙ c.loop-caller.invariant.rest k (omega arith);
    }

pub returns-clause-all : goal.returns-clause-all
returns-clause-all c =
    let ended = c.loop-caller-test.false in
    let count = c.loop-caller.invariant.same.count in
    let least = c.loop-caller.auto in
    (c.loop-caller.invariant.table, subst (λ n. Gathered c.args.self.now c.args.callers.now n c.loop-caller.all.me) (omega arith) c.loop-caller.invariant.gathered)

pub returns-clause-callers : goal.returns-clause-callers
returns-clause-callers c = c.loop-caller.invariant.same
