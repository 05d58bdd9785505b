use Rattle.std.proofs.Common.{◌≡◌, ◌<◌, ◌+◌, get_or, slice_get, set, length, refl, sym, ap, ◌∙◌, subst, arith, le_refl}
use Rattle.std.proofs.lemmas.Option.{slice_get-get_or, slice_get_within}
use mathlib.Core.Logic.{dite}
use native.Mathlib.Decide.{ℕ_discrete}
use Rattle.sync_model.specs.declared.caller.Caller.{Caller}
use Rattle.ruled_object.specs.Assembled.{HandsBack}
use Rattle.ruled_object.specs.Passes.{number_of}
use Rattle.shared_plain.specs.declared.mark.Mark.{Mark}
use Rattle.shared_plain.specs.Settling.{IsBack}
use Rattle.shared_plain.proofs.Gathered.{set_same, set_other, marks_on}
use Rattle.shared_plain.proofs.plain.Plain.hand_all_back.Goals as goal

pub hand_back-requires-clause-pass : goal.hand_back-requires-clause-pass
hand_back-requires-clause-pass c =
    let i = c.loop-caller.caller-index in
    let count = c.loop-caller.invariant.same.count in
    let many = c.requires.count in
    let inside = c.loop-caller-test.true in
    let below : i < length c.loop-caller.callers = omega arith in
    let here = slice_get-get_or c.loop-caller.callers i c.caller-item.result below in
    let at_i = sym (c.loop-caller.invariant.rest i (le_refl i)) ∙ here in
    let number = c.requires.order i _ at_i in
    omega arith

pub hand_back-requires-clause-all : goal.hand_back-requires-clause-all
hand_back-requires-clause-all c =
    let i = c.loop-caller.caller-index in
    let count = c.loop-caller.invariant.same.count in
    let inside = c.loop-caller-test.true in
    let below : i < length c.loop-caller.callers = omega arith in
    let here = slice_get-get_or c.loop-caller.callers i c.caller-item.result below in
    let at_i = sym (c.loop-caller.invariant.rest i (le_refl i)) ∙ here in
    let number = c.requires.order i _ at_i in
    let all = c.requires.all in
    (all.0, all.1, subst (λ k. HandsBack c.args.self.now.object k all.0 all.1 c.loop-caller.all) (sym number) (c.loop-caller.invariant.hands all.0 all.1 all.2))

pub loop-caller-preserved : goal.loop-caller-preserved
loop-caller-preserved c =
    let i = c.loop-caller.caller-index in
    let plain = c.args.self.now in
    let first = c.args.callers.now in
    let callers = c.loop-caller.callers in
    let count = c.loop-caller.invariant.same.count in
    let inside = c.loop-caller-test.true in
    let below : i < length callers = omega arith in
    let here = slice_get-get_or callers i c.caller-item.result below in
    let at_i = sym (c.loop-caller.invariant.rest i (le_refl i)) ∙ here in
    let before : Caller Mark = get_or callers i c.caller-item.result in
    let after : Caller Mark = record { note = record { pass = c.hand_back.new.pass; callers = before.note.callers; spare = before.note.spare; stamp = before.note.stamp; done = before.note.done } } in
    let number : number_of before.note.pass ≡ i = c.requires.order i before at_i in
    record {
      hands = λ journal passes hands. subst (λ k. HandsBack plain.object (k + 1) journal passes c.hand_back.new.all) number
          (c.hand_back.ensures.all journal passes (subst (λ k. HandsBack plain.object k journal passes c.loop-caller.all) (sym number) (c.loop-caller.invariant.hands journal passes hands)));
      same = marks_on first callers i before after at_i (record { number = c.hand_back.ensures.pass.1.0; callers = refl; spare = refl; time = refl; done = refl }) c.loop-caller.invariant.same;
      back = λ journal passes hands k caller at_most at_k.
          let held = subst (λ j. HandsBack plain.object j journal passes c.loop-caller.all) (sym number) (c.loop-caller.invariant.hands journal passes hands) in
          let mine : IsBack plain journal passes i after.note = record {
            is = c.hand_back.ensures.pass.0;
            seen = c.hand_back.ensures.seen journal passes held;
            own = λ had at. c.hand_back.ensures.own journal passes had held (ap (slice_get passes) number ∙ at);
          } in
          dite (ℕ_discrete k i)
          (λ is. let same = set_same callers i after caller (ap (slice_get (set callers i after)) (sym is) ∙ at_k) in
          subst (λ j. IsBack plain journal passes j caller.note) (sym is) (subst (λ (x : Caller Mark). IsBack plain journal passes i x.note) same mine))
          (λ other. c.loop-caller.invariant.back journal passes hands k caller (omega arith) (sym (set_other callers i k after other) ∙ at_k));
      rest = λ k past. set_other callers i k after (λ e. omega arith) ∙ c.loop-caller.invariant.rest k (omega arith);
    }

pub returns-clause-back : goal.returns-clause-back
returns-clause-back c journal passes hands i caller at_i =
    let below = slice_get_within c.loop-caller.callers i caller at_i in
    let same = c.loop-caller.invariant.same.count in
    let ended = c.loop-caller-test.false in
    c.loop-caller.invariant.back journal passes hands i caller (omega arith) at_i
