use Rattle.std.proofs.Common.{ℕ, true, refl, ◌∙◌, subst}
use Rattle.pool_core.specs.Edges.{pool_releases, pool_acquires}
use Rattle.pool_core.specs.PartMachine.{PartState, part_next}
use Rattle.protocols.specs.PoolStages.{pool_event, pool_meaning, pool_moment}
use Rattle.protocols.specs.Spelling.{Spells, AreTimely}
use Rattle.ruled_object.specs.Growth.{IsLawful}
use Rattle.call_loop.specs.Calls as running
use Rattle.go_pool.proofs.Seats.{read_at, pass_used}
use Rattle.go_pool.proofs.pool.Pool.at_part.Goals as goal

pub call_within-requires-clause-begun : goal.call_within-requires-clause-begun
call_within-requires-clause-begun g c =
    let pool = c.args.self.now in
    (pool.room, pool.are.begun c.args.part _ (read_at pool.parts.items pool.callers c.args.part c.index-object.result.now pool.are.count c.requires.part c.index-object.ensures))

pub call_within-requires-clause-pass : goal.call_within-requires-clause-pass
call_within-requires-clause-pass g c =
    let pool = c.args.self.now in
    let pass = c.args.pass.now in
    let at_o = read_at pool.parts.items pool.callers c.args.part c.index-object.result.now pool.are.count c.requires.part c.index-object.ensures in
    let at_p = read_at pass.parts.items pool.callers c.args.part c.index_mut-seat.result.now (c.requires.pass.seats.count ∙ pool.are.count) c.requires.part c.index_mut-seat.ensures.value in
    (c.requires.pass.seats.each c.args.part c.index-object.result.now c.index_mut-seat.result.now at_o at_p).0

pub call_within-requires-clause-home : goal.call_within-requires-clause-home
call_within-requires-clause-home g c =
    let pool = c.args.self.now in
    (c.requires.home.0 c.args.part c.index-object.result.now (read_at pool.parts.items pool.callers c.args.part c.index-object.result.now pool.are.count c.requires.part c.index-object.ensures), c.requires.home.1)

pub returns-clause-pass : goal.returns-clause-pass
returns-clause-pass g c =
    let pool = c.args.self.now in
    let o = c.index-object.result.now in
    let at_o = read_at pool.parts.items pool.callers c.args.part o pool.are.count c.requires.part c.index-object.ensures in
    let at_p = read_at c.args.pass.now.parts.items pool.callers c.args.part c.index_mut-seat.result.now (c.requires.pass.seats.count ∙ pool.are.count) c.requires.part c.index_mut-seat.ensures.value in
    let lawful = subst (λ (s : PartState ℕ). IsLawful part_next true pool_releases pool_acquires s c.call_within.new.pass) (pool.are.begun c.args.part o at_o) c.call_within.ensures.journal in
    (pass_used pool c.args.pass.now _ c.args.part o c.index_mut-seat.result.now c.call_within.new.pass c.requires.pass at_o at_p refl refl c.call_within.ensures.pass.0 c.call_within.ensures.pass.1.0 lawful, (refl, refl))

pub returns-clause-events : goal.returns-clause-events
returns-clause-events g c =
    let pool = c.args.self.now in
    let pass = c.args.pass.now in
    let o = c.index-object.result.now in
    let at_o = read_at pool.parts.items pool.callers c.args.part o pool.are.count c.requires.part c.index-object.ensures in
    let at_p = read_at pass.parts.items pool.callers c.args.part c.index_mut-seat.result.now (c.requires.pass.seats.count ∙ pool.are.count) c.requires.part c.index_mut-seat.ensures.value in record {
      before = c.index_mut-seat.result.now;
      after = c.call_within.new.pass;
      was = at_p;
      set_is = refl;
      number = refl;
      did = subst (λ (s : PartState ℕ). running.Did part_next true s (Spells pool_event pool_meaning c.args.stage) (AreTimely pool_moment (g.C.Clock.shows c.args.at.now.clock.now)) c.index_mut-seat.result.now (g.N.Note.front c.args.note.now) c.call_within.result c.call_within.new.pass (g.N.Note.front c.call_within.new.note))
          (pool.are.begun c.args.part o at_o) c.call_within.ensures.events;
    }
