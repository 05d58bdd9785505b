use Rattle.std.proofs.Common.{◌≡◌, true, ◌<◌, [], get_or, set, slice_get, length, refl, sym, ap, ◌∙◌, subst, arith, le_refl, inl, inr}
use Rattle.std.proofs.lemmas.Bool.{cases_eq}
use Rattle.std.proofs.lemmas.Option.{slice_get-get_or, slice_get_within}
use Rattle.sync_model.specs.declared.caller.Caller.{Caller}
use Rattle.shared_table.specs.declared.note.SharedNote.{SharedNote}
use Rattle.table_rule.specs.declared.view.View.{View}
use Rattle.shared_table.specs.Settling.{IsBack}
use Rattle.table_rule.specs.Views.{next_in, spare_in, dealt, kept, IsIdle}
use Rattle.shared_table.proofs.Settles.{callers_on, same_callers, set_same, set_other, some_behind, kept_next}
use Rattle.shared_table.proofs.table.SharedTable.hand_all_back.Goals as goal

pub loop-caller-init : goal.loop-caller-init
loop-caller-init c =
    let v = c.args.all.now.me.0 in
    record {
      table = c.requires.all.0;
      left = λ i. (record v { number = c.requires.all.3 i }, c.requires.all.1 i);
      same = same_callers c.args.callers.now;
      back = λ i caller below. absurd (omega arith);
      rest = λ i past. refl;
    }

pub hand_back-requires-clause-all : goal.hand_back-requires-clause-all
hand_back-requires-clause-all c =
    let i = c.loop-caller.caller-index in
    let v = c.args.all.now.me.0 in
    let count = c.loop-caller.invariant.same.count in
    let many = c.requires.count in
    let inside = c.loop-caller-test.true in
    let below : i < length v.owns = omega arith in
    let left = sym (ap (λ me. me.0) c.loop-caller.invariant.left) in
    let idle = c.requires.all.4 in (
      c.loop-caller.invariant.table,
      subst (λ (u : View). u.live ≡ true) left c.requires.all.2,
      subst IsIdle left record { walk = idle.walk; leaf = idle.leaf; lock = idle.lock; upper = idle.upper; gate = idle.gate; spot = idle.spot },
      subst (λ (u : View). 0 < length u.owns) left (some_behind v i below),
    )

pub hand_back-requires-clause-note : goal.hand_back-requires-clause-note
hand_back-requires-clause-note c =
    let i = c.loop-caller.caller-index in
    let count = c.loop-caller.invariant.same.count in
    let inside = c.loop-caller-test.true in
    let below : i < length c.loop-caller.callers = omega arith in
    let at_i = sym (c.loop-caller.invariant.rest i (le_refl i)) ∙ slice_get-get_or c.loop-caller.callers i c.caller-item.result below in
    let before : Caller SharedNote = get_or c.loop-caller.callers i c.caller-item.result in
    let may = c.requires.each i before at_i in
    subst (λ (u : View). (before.note.number ≡ u.number) × (next_in before.note.next u.owns ≡ before.note.next) × (spare_in before.note.spare u.owns ≡ before.note.spare)) (sym (ap (λ me. me.0) c.loop-caller.invariant.left))
    (may.number, may.next, may.spare)

pub loop-caller-preserved : goal.loop-caller-preserved
loop-caller-preserved c =
    let i = c.loop-caller.caller-index in
    let v = c.args.all.now.me.0 in
    let first = c.args.callers.now in
    let callers = c.loop-caller.callers in
    let count = c.loop-caller.invariant.same.count in
    let many = c.requires.count in
    let inside = c.loop-caller-test.true in
    let below : i < length callers = omega arith in
    let stands : i < length v.owns = omega arith in
    let at_i = sym (c.loop-caller.invariant.rest i (le_refl i)) ∙ slice_get-get_or callers i c.caller-item.result below in
    let before : Caller SharedNote = get_or callers i c.caller-item.result in
    let after : Caller SharedNote = record { note = c.hand_back.new.note } in
    let mine : IsBack c.args.self.now v i after.note = record { table_is = c.hand_back.ensures.note.1; me = c.hand_back.ensures.note.2 ∙ ap (λ m. (dealt m.0, [])) c.loop-caller.invariant.left } in
    record {
      table = c.hand_back.ensures.all.0 ∙ c.loop-caller.invariant.table;
      left = c.hand_back.ensures.all.1 ∙ ap (λ m. (kept m.0, m.1)) c.loop-caller.invariant.left ∙ ap (λ (u : View). (u, [])) (kept_next v i stands);
      same = callers_on first callers i before after at_i c.hand_back.ensures.note.0 c.loop-caller.invariant.same;
      back = λ k caller at_most at_k. elim (cases_eq k i) [
        | inl is ↦ let same = set_same callers i after caller (ap (slice_get (set callers i after)) (sym is) ∙ at_k) in
            subst (λ j. IsBack c.args.self.now v j caller.note) (sym is) (subst (λ (x : Caller SharedNote). IsBack c.args.self.now v i x.note) (sym same) mine)
        | inr other ↦ c.loop-caller.invariant.back k caller (omega arith) (sym (set_other callers i k after other) ∙ at_k)
      ];
      rest = λ k past. set_other callers i k after (λ e. omega arith) ∙ c.loop-caller.invariant.rest k (omega arith);
    }

pub returns-clause-callers : goal.returns-clause-callers
returns-clause-callers c = c.loop-caller.invariant.same

pub returns-clause-back : goal.returns-clause-back
returns-clause-back c i caller at_i =
    let below = slice_get_within c.loop-caller.callers i caller at_i in
    let same = c.loop-caller.invariant.same.count in
    let ended = c.loop-caller-test.false in
    c.loop-caller.invariant.back i caller (omega arith) at_i
