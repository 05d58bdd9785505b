use Rattle.std.proofs.Common.{◌+◌, sym, ap, ◌∙◌, subst, take, List}
use Rattle.std.proofs.lemmas.Bool.{false≢true}
use Rattle.vector_clocks.specs.declared.race.Race.{Race}
use Rattle.vector_clocks.specs.Listing.{AreRacesUpTo}
use Rattle.vector_clocks.proofs.Listed.{one_race, one_without}
use Rattle.vector_clocks.proofs.race_list.add_races.Goals as goal
use Rattle.vector_clocks.proofs.race_list.add_races.Goals.{then-is_race+in_ok-push, else-is_race}

abbrev Next : goal.Joined-is_race → List Race → Type 0
Next c races = AreRacesUpTo c.args.trace.now c.args.later (take (c.loop-earlier.earlier-index + 1) c.args.accesses.now) races

pub loop-earlier-preserved : goal.loop-earlier-preserved
loop-earlier-preserved c = elim c.if-is_race.branch [
  | then-is_race+in_ok-push w ↦ subst (Next c) (sym (ap (λ v. v.items) w.races-is ∙ w.in_ok-push.ensures.items))
      (one_race c.args.trace.now c.args.later c.args.accesses.now c.loop-earlier.earlier-index c.loop-earlier-test.true c.loop-earlier.races.items c.loop-earlier.invariant c.requires.accesses
      (c.is_race.ensures.0 w.if-is_race.true))
  | else-is_race w ↦ subst (Next c) (sym (ap (λ v. v.items) w.races-is))
      (one_without c.args.trace.now c.args.later c.args.accesses.now c.loop-earlier.earlier-index c.loop-earlier-test.true c.loop-earlier.races.items c.loop-earlier.invariant
      (λ r. false≢true (sym w.if-is_race.false ∙ c.is_race.ensures.1 r)))
]
