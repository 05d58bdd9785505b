use Rattle.std.proofs.Common.{◌∷◌, Some, ap, sym, ◌∙◌}
use Rattle.atomic_table.specs.Table.{rest}
use Rattle.ruled_object.proofs.Calls.{holds}
use Rattle.ruled_object.proofs.object.Object.choose.Goals as goal

pub slot_mut-requires : goal.slot_mut-requires
slot_mut-requires g c = let held = c.requires.held in (c.requires.seat, (Some held.0, held.1 ∙ ap (λ slots. (0, Some held.0) ∷ rest slots) (sym held.1)))

pub returns-clause-chosen : goal.returns-clause-chosen
returns-clause-chosen g c =
    let held = c.requires.held in
    let cell = c.in-Some.cell in
    (cell, holds c.args.seat.now.me c.slot_mut.result.now cell held.0 c.slot_mut.ensures.value c.in-Some.is held.1, c.choose.ensures)
