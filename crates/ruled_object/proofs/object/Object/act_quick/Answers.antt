use Rattle.std.proofs.Common.{[], ◌∷◌, Some, ap, sym, ◌∙◌}
use Rattle.atomic_table.specs.Table.{rest}
use Rattle.ruled_object.proofs.Calls.{holds, holds_new, where_some, where_none}
use Rattle.ruled_object.proofs.object.Object.act_quick.Goals as goal

pub slot_mut-requires : goal.slot_mut-requires
slot_mut-requires g c = let held = c.requires.held in (c.requires.seat, (Some held.0, held.1 ∙ ap (λ slots. (0, Some held.0) ∷ rest slots) (sym held.1)))

pub returns-clause-acts : goal.returns-clause-acts
returns-clause-acts g c =
    let me = c.args.seat.now.me in
    let held = c.requires.held in
    let old = c.in-Some.cell in
    let new = c.apply_quick.new.self in
    where_some c.apply_quick.result (λ did acts. (old, holds me c.slot_mut.result.now old held.0 c.slot_mut.ensures.value c.in-Some.is held.1, (new, holds_new me new held.0 held.1, (acts.0, c.apply_quick.ensures.home.0)))) c.apply_quick.ensures.acts

pub returns-clause-free : goal.returns-clause-free
returns-clause-free g c = where_some c.apply_quick.result (λ did acts. acts.1) c.apply_quick.ensures.acts

pub returns-clause-left : goal.returns-clause-left
returns-clause-left g c =
    let me = c.args.seat.now.me in
    let held = c.requires.held in
    let old = c.in-Some.cell in
    let new = c.apply_quick.new.self in
    let lay = holds me c.slot_mut.result.now old held.0 c.slot_mut.ensures.value c.in-Some.is held.1 in
    where_none c.apply_quick.result
    (λ left. (left.1, (old, lay, ((λ i. (me.0, (holds_new me new held.0 held.1 ∙ (ap (λ cell. (0, Some cell) ∷ []) left.0 ∙ sym lay)) i)), left.2, left.3)))) c.apply_quick.ensures.left
