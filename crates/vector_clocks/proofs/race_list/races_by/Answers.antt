use Rattle.std.proofs.Common.{◌≡◌, ◌+◌, [], length, List, ℕ, Some, slice_get, refl, sym, ap, ◌∙◌, subst, arith}
use Rattle.std.proofs.lemmas.Option.{slice_get_read}
use Rattle.vector_clocks.specs.declared.race.Race.{Race}
use Rattle.vector_clocks.specs.declared.step.Step.{Step}
use Rattle.vector_clocks.specs.Listing.{AreRacesUpTo, HoldAccesses}
use Rattle.vector_clocks.proofs.Listed.{is_absent, one_access, other_step, next_step, step_without, all_told}
use Rattle.vector_clocks.proofs.race_list.races_by.Goals as goal
use Rattle.vector_clocks.proofs.race_list.races_by.Goals.{then-is_some+in_ok-add_races+in_ok-push, else-is_some}

at : (c : goal.Joined-is_some) → slice_get c.args.trace.now c.loop-later.later ≡ Some c.index-trace-later.result
at c = slice_get_read c.args.trace.now (length c.args.trace.now) c.loop-later.later c.index-trace-later.result refl c.loop-later-test.true c.index-trace-later.is

abbrev Held : goal.Joined-is_some → List ℕ → Type 0
Held c numbers = HoldAccesses c.args.trace.now (c.loop-later.later + 1) numbers

abbrev Told : goal.Joined-is_some → List Race → Type 0
Told c races = AreRacesUpTo c.args.trace.now (c.loop-later.later + 1) [] races

pub loop-later-preserved : goal.loop-later-preserved
loop-later-preserved c = elim c.if-is_some.branch [
  | then-is_some+in_ok-add_races+in_ok-push w ↦ record {
    accesses = subst (Held c) (sym (ap (λ v. v.items) w.accesses-is ∙ w.in_ok-push.ensures.items)) (one_access c.args.trace.now c.loop-later.later c.loop-later.accesses.items c.loop-later.invariant.accesses);
    races = subst (Told c) (sym (ap (λ v. v.items) w.races-is))
        (next_step c.args.trace.now c.loop-later.later c.loop-later.accesses.items c.loop-later.invariant.accesses w.add_races.new.races.items
        (subst (λ xs. AreRacesUpTo c.args.trace.now c.loop-later.later xs w.add_races.new.races.items) w.deref.ensures.value w.in_ok-add_races.ensures));
  }
  | else-is_some w ↦ record {
    accesses = subst (Held c) (sym (ap (λ v. v.items) w.accesses-is)) (other_step c.args.trace.now c.loop-later.later c.loop-later.accesses.items c.loop-later.invariant.accesses c.index-trace-later.result (at c) (ap (λ (x : Step). x.access) c.index-trace-later.is ∙ is_absent _ w.if-is_some.ensures));
    races = subst (Told c) (sym (ap (λ v. v.items) w.races-is)) (step_without c.args.trace.now c.loop-later.later c.index-trace-later.result (at c) (ap (λ (x : Step). x.access) c.index-trace-later.is ∙ is_absent _ w.if-is_some.ensures) c.loop-later.races.items c.loop-later.invariant.races);
  }
]

pub returns : goal.returns
returns c = all_told c.args.trace.now c.loop-later.later (let e = c.loop-later-test.false in let f = c.loop-later.auto.later-end in omega (arith, e, f)) c.loop-later.races.items c.loop-later.invariant.races
