use Rattle.std.proofs.Common.{◌∷◌, Some, ap, sym, ◌∙◌}
use Rattle.atomic_table.specs.Table.{rest}
use Rattle.ruled_object.proofs.Calls.{holds, holds_new}
use Rattle.ruled_object.proofs.object.Object.act_halt.Goals as goal

pub slot_mut-requires : goal.slot_mut-requires
slot_mut-requires g c = let held = c.requires.held in (c.requires.seat, (Some held.0, held.1 ∙ ap (λ slots. (0, Some held.0) ∷ rest slots) (sym held.1)))

pub returns-clause-acts : goal.returns-clause-acts
returns-clause-acts g c =
    let me = c.args.seat.now.me in
    let held = c.requires.held in
    let old = c.in-Some.cell in
    let new = c.halt.new.self in
    (old, holds me c.slot_mut.result.now old held.0 c.slot_mut.ensures.value c.in-Some.is held.1, (new, holds_new me new held.0 held.1, (c.halt.ensures.acts, c.halt.ensures.home.0)))
