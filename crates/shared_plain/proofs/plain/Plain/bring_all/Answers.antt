use Rattle.std.proofs.Common.{◌<◌, ◌≤◌, get_or, take, length, refl, sym, ◌∙◌, subst, arith, le_refl}
use Rattle.std.proofs.lemmas.Option.{slice_get-get_or}
use Rattle.sync_model.specs.declared.caller.Caller.{Caller}
use Rattle.ruled_object.specs.Assembled.{Brought}
use Rattle.shared_plain.specs.declared.mark.Mark.{Mark}
use Rattle.shared_plain.specs.Settling.{passes_in}
use Rattle.shared_plain.proofs.Gathered.{own_of, taken_long, taken_more, set_other, marks_on}
use Rattle.shared_plain.proofs.plain.Plain.bring_all.Goals as goal

pub bring-requires-clause-all : goal.bring-requires-clause-all
bring-requires-clause-all c =
    let i = c.loop-caller.caller-index in
    let first = c.args.callers.now in
    let count = c.loop-caller.invariant.same.count in
    let inside = c.loop-caller-test.true in
    let below : i < length c.loop-caller.callers = omega arith in
    let within : i ≤ length first = omega arith in
    let here = slice_get-get_or c.loop-caller.callers i c.caller-item.result below in
    let at_i = sym (c.loop-caller.invariant.rest i (le_refl i)) ∙ here in
    let before : Caller Mark = get_or c.loop-caller.callers i c.caller-item.result in
    let own = own_of before.note i (c.requires.each i _ at_i).1 in
    (passes_in (take i first), c.loop-caller.invariant.brought, own.number ∙ sym (taken_long (λ (caller : Caller Mark). caller.note.pass) first i within))

pub loop-caller-preserved : goal.loop-caller-preserved
loop-caller-preserved c =
    let i = c.loop-caller.caller-index in
    let first = c.args.callers.now in
    let callers = c.loop-caller.callers in
    let count = c.loop-caller.invariant.same.count in
    let inside = c.loop-caller-test.true in
    let below : i < length callers = omega arith in
    let here = slice_get-get_or callers i c.caller-item.result below in
    let at_i = sym (c.loop-caller.invariant.rest i (le_refl i)) ∙ here in
    let before : Caller Mark = get_or callers i c.caller-item.result in
    let after : Caller Mark = record { note = record { pass = c.bring.new.pass; callers = before.note.callers; spare = before.note.spare; stamp = before.note.stamp; done = before.note.done } } in
    record {
      brought = subst (λ l. Brought c.args.self.now.object l c.bring.new.all) (sym (taken_more (λ (caller : Caller Mark). caller.note.pass) first i before at_i))
          (c.bring.ensures.all (passes_in (take i first)) c.loop-caller.invariant.brought);
      same = marks_on first callers i before after at_i (record { number = c.bring.ensures.pass.0; callers = refl; spare = refl; time = refl; done = refl }) c.loop-caller.invariant.same;
      rest = λ k past. set_other callers i k after (λ e. omega arith) ∙ c.loop-caller.invariant.rest k (omega arith);
    }
