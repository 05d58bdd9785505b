use Rattle.std.proofs.Common.{length, set, refl, sym, ap, ◌∙◌}
use Rattle.std.specs.Ordering.{nat_cmp}
use Rattle.std.proofs.lemmas.Bool.{ltb-true}
use Rattle.std.proofs.lemmas.Option.{slice_get_read}
use Rattle.shared_plain.specs.PlainMachine.{map_answer}
use Rattle.shared_plain.specs.Slots.{map_of, slots_after}
use Rattle.shared_plain.proofs.SlotMaps.{found_there, keyed_answer, keyed_slots}
use Rattle.shared_plain.proofs.slots.Slots.apply.Goals as goal

pub returns-clause-answer : goal.returns-clause-answer
returns-clause-answer c =
    let call = c.args.call in
    let key = c.in-Some.key.now in
    let slots = c.self.inside.values.items in
    let held = c.in_ok-slot.slot.now in
    let item = c.in_ok-slot.ensures.item in
    let there = slice_get_read slots (length slots) key held refl (ltb-true key (length slots) (sym item.0)) item.1 in
    let on = sym c.in-Some.ensures in
    let finds = found_there call key slots held on there in
    keyed_answer call key slots held on there c.apply_at.result c.apply_at.ensures.reply c.apply_at.ensures.entry
    (c.its_key_decides_a_call.ensures.reply nat_cmp (map_of slots) call key held on finds)
    (c.its_key_decides_a_call.ensures.entry nat_cmp (map_of slots) call key held on finds)
    ∙ ap (map_answer call) c.self.view_is

pub returns-clause-after : goal.returns-clause-after
returns-clause-after c =
    let call = c.args.call in
    let key = c.in-Some.key.now in
    let slots = c.self.inside.values.items in
    let held = c.in_ok-slot.slot.now in
    let item = c.in_ok-slot.ensures.item in
    let there = slice_get_read slots (length slots) key held refl (ltb-true key (length slots) (sym item.0)) item.1 in
    ap (set slots key) c.apply_at.ensures.after ∙ (keyed_slots call key slots held (sym c.in-Some.ensures) there ∙ ap (slots_after call) c.self.view_is)
