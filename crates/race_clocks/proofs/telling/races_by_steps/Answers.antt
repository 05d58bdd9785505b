use Rattle.std.proofs.Common.{◌≡◌, Some, map, sym, subst}
use Rattle.std.proofs.lemmas.Result.{IfOk-weaker}
use Rattle.vector_clocks.specs.Races as steps_race
use Rattle.race_clocks.specs.Agreement.{pair_of}
use Rattle.race_clocks.specs.Races.{race_of, AreRaces}
use Rattle.race_clocks.proofs.Agreement.{are_told}
use Rattle.race_clocks.proofs.Told.{are_within}
use Rattle.race_clocks.proofs.telling.races_by_steps.Goals as goal

pub tell-requires : goal.tell-requires
tell-requires c =
    are_within c.args.workload.now c.args.trace.now c.args.steps.now c.requires.agree c.deref.result.now (subst (steps_race.AreRaces c.args.steps.now) (sym c.deref.ensures.value) c.in_ok-found.ensures)

pub returns : goal.returns
returns c =
    IfOk-weaker c.tell.result (λ races. map (race_of c.args.trace.now) (map pair_of c.deref.result.now) ≡ map Some races.items) (λ races. AreRaces c.args.workload.now c.args.trace.now races.items)
    (λ races told. are_told c.args.workload.now c.args.trace.now c.args.steps.now c.requires.agree c.deref.result.now (subst (steps_race.AreRaces c.args.steps.now) (sym c.deref.ensures.value) c.in_ok-found.ensures) races.items told) c.tell.ensures
