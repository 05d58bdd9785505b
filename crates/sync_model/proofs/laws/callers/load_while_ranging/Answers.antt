use Rattle.std.proofs.Common.{◌≡◌, ℕ, List, length, refl}
use Rattle.sync_model.specs.declared.item.SharedCall.TheVariants.{Map, Next}
use Rattle.sync_types.specs.declared.map_object.MapCall.{MapCall}
use Rattle.sync_model.specs.declared.item.Item.{Item}
use Rattle.sync_model.specs.SharedHistory.{first_contents}
use Rattle.sync_model.proofs.SharedUses.{stands_on, steps_on}
use Rattle.sync_model.proofs.laws.callers.load_while_ranging.Goals as goal

other_call : (m b : ℕ) (call : MapCall ℕ) → Map m call ≡ Next b → ⊥
other_call m b call e = cc

pub next-requires-clause-cursor : goal.next-requires-clause-cursor
next-requires-clause-cursor g c =
    let start = first_contents (g.S.Shared.maps c.args.shared.now) (g.S.Shared.kinds c.args.shared.now) in
    let begun = c.begin-cursor.ensures.called in
    let begin = length begun.was.items in
    let Stands : List Item → Type 0 = λ items. g.S.Shared.stands c.args.shared.now c.begin-cursor.result c.args.map begin items in
    (c.args.map, begin, stands_on start begun refl c.map_call.ensures.called begin Stands (g.met.S.Shared.stays c.args.shared.now c.begin-cursor.result c.args.map begin) (other_call c.args.map begin _) (c.begin-cursor.ensures.stands begun.was begun.own_old begun.becomes begun.own_new))

pub returns-clause-steps : goal.returns-clause-steps
returns-clause-steps g c =
    let start = first_contents (g.S.Shared.maps c.args.shared.now) (g.S.Shared.kinds c.args.shared.now) in
    let begun = c.begin-cursor.ensures.called in
    let begin = length begun.was.items in
    let Stands : List Item → Type 0 = λ items. g.S.Shared.stands c.args.shared.now c.begin-cursor.result c.args.map begin items in
    let stands = stands_on start begun refl c.map_call.ensures.called begin Stands (g.met.S.Shared.stays c.args.shared.now c.begin-cursor.result c.args.map begin) (other_call c.args.map begin _) (c.begin-cursor.ensures.stands begun.was begun.own_old begun.becomes begun.own_new) in
    steps_on start c.args.map begin c.next.result begun c.map_call.ensures.called (c.next.ensures.called c.args.map begin stands) refl
