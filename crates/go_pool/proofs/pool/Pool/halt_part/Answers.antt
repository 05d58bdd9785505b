use Rattle.std.proofs.Common.{ℕ, true, refl, ◌∙◌, subst}
use Rattle.pool_core.specs.Edges.{pool_releases, pool_acquires}
use Rattle.pool_core.specs.PartMachine.{PartState, part_next}
use Rattle.ruled_object.specs.Passes as object
use Rattle.go_pool.proofs.Seats.{read_at, pass_used, lawful_added}
use Rattle.go_pool.proofs.pool.Pool.halt_part.Goals as goal

pub halt-requires-clause-pass : goal.halt-requires-clause-pass
halt-requires-clause-pass g c =
    let pool = c.args.self.now in
    let pass = c.args.pass.now in
    let at_o = read_at pool.parts.items pool.callers c.args.part c.index-object.result.now pool.are.count c.requires.part c.index-object.ensures in
    let at_p = read_at pass.parts.items pool.callers c.args.part c.index_mut-seat.result.now (c.requires.pass.seats.count ∙ pool.are.count) c.requires.part c.index_mut-seat.ensures.value in
    (c.requires.pass.seats.each c.args.part c.index-object.result.now c.index_mut-seat.result.now at_o at_p).0

pub returns-clause-entry : goal.returns-clause-entry
returns-clause-entry g c =
    let pool = c.args.self.now in
    let pass = c.args.pass.now in
    let o = c.index-object.result.now in
    let p = c.index_mut-seat.result.now in
    let at_o = read_at pool.parts.items pool.callers c.args.part o pool.are.count c.requires.part c.index-object.ensures in
    let at_p = read_at pass.parts.items pool.callers c.args.part p (c.requires.pass.seats.count ∙ pool.are.count) c.requires.part c.index_mut-seat.ensures.value in
    let e = c.halt.ensures.entry in record {
      before = p;
      after = c.halt.new.pass;
      entry = e.0;
      was = at_p;
      set_is = refl;
      adds = subst (λ (s : PartState ℕ). object.Adds part_next true pool_releases pool_acquires s p e.0 c.halt.new.pass) (pool.are.begun c.args.part o at_o) e.1;
      deed = e.2;
      known = e.3;
    }

pub returns-clause-pass : goal.returns-clause-pass
returns-clause-pass g c =
    let pool = c.args.self.now in
    let o = c.index-object.result.now in
    let p = c.index_mut-seat.result.now in
    let q = c.halt.new.pass in
    let e = c.halt.ensures.entry in
    let at_o = read_at pool.parts.items pool.callers c.args.part o pool.are.count c.requires.part c.index-object.ensures in
    let at_p = read_at c.args.pass.now.parts.items pool.callers c.args.part p (c.requires.pass.seats.count ∙ pool.are.count) c.requires.part c.index_mut-seat.ensures.value in
    let adds = subst (λ (s : PartState ℕ). object.Adds part_next true pool_releases pool_acquires s p e.0 q) (pool.are.begun c.args.part o at_o) e.1 in
    (pass_used pool c.args.pass.now _ c.args.part o p q c.requires.pass at_o at_p refl refl c.halt.ensures.pass.0 c.halt.ensures.pass.1.0 (lawful_added p q e.0 adds c.halt.ensures.pass.1.0), (refl, refl))
