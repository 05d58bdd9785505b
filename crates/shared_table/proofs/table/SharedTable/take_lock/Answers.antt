use Rattle.std.proofs.Common.{inl, ap, ◌∙◌}
use Rattle.shared_table.proofs.table.SharedTable.take_lock.Goals as goal

pub is_dead-requires-clause-no_load : goal.is_dead-requires-clause-no_load
is_dead-requires-clause-no_load g c =
    let writer = c.requires.writer in
    inl (writer.0.map, ap (λ m. m.0.gate) c.loop.invariant.same ∙ writer.2.gate)
