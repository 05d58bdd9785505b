use Rattle.std.proofs.Common.{◌≡◌, ◌-◌, length, refl, sym, ap, ◌∙◌, arith, length-append}
use Rattle.trie_nodes.specs.Walks.{slot_pairs, pairs_in_slots, pairs_within}
use Rattle.trie_nodes.specs.Nodes.{slot_at}
use Rattle.table_words.specs.EndContents.{words_of}
use Rattle.table_words.proofs.SlotPairs.{no_levels, all_slots, no_slots, one_slot, room_for_slot, within_bound}
use Rattle.table_words.proofs.ended.TableEnds.+count_below.Goals as goal
use Rattle.table_words.proofs.ended.TableEnds.+count_below.Goals.{in-Empty, in-Node, in-Entry}

pub returns-then-levels-eq0 : goal.returns-then-levels-eq0
returns-then-levels-eq0 t c = sym (ap length (no_levels (words_of c.args.self.now) c.args.node c.args.levels c.if-levels-eq0.true))

pub loop-slot-init : goal.loop-slot-init
loop-slot-init t c = sym (ap length (no_slots (words_of c.args.self.now) c.args.node (pairs_within (words_of c.args.self.now) (c.args.levels - 1))))

pub overflow_add-count : goal.overflow_add-count
overflow_add-count t c =
    let words = words_of c.args.self.now in
    let below = pairs_within words (c.args.levels - 1) in
    let here : c.match-slot.count ≡ length (slot_pairs words below (slot_at words c.args.node c.loop-slot.slot)) = elim c.match-slot.branch [
      | in-Empty w ↦ w.count-is ∙ sym (ap (λ s. length (slot_pairs words below s)) (sym c.slot.ensures.is ∙ w.in-Empty.is))
      | in-Node w ↦ w.count-is ∙ w.count_below.ensures ∙ sym (ap (λ s. length (slot_pairs words below s)) (sym c.slot.ensures.is ∙ w.in-Node.is))
      | in-Entry w ↦ w.count-is ∙ sym (ap (λ s. length (slot_pairs words below s)) (sym c.slot.ensures.is ∙ w.in-Entry.is))
    ] in
    let counted = c.loop-slot.invariant in
    let room = room_for_slot words c.args.node below c.loop-slot.slot (slot_at words c.args.node c.loop-slot.slot) c.loop-slot-test.true refl in
    let all = ap length (all_slots words c.args.node c.args.levels c.if-levels-eq0.false) in
    let few = within_bound words c.args.levels c.args.node c.requires.levels in
    omega arith

pub loop-slot-preserved : goal.loop-slot-preserved
loop-slot-preserved t c =
    let words = words_of c.args.self.now in
    let below = pairs_within words (c.args.levels - 1) in
    let here : c.match-slot.count ≡ length (slot_pairs words below (slot_at words c.args.node c.loop-slot.slot)) = elim c.match-slot.branch [
      | in-Empty w ↦ w.count-is ∙ sym (ap (λ s. length (slot_pairs words below s)) (sym c.slot.ensures.is ∙ w.in-Empty.is))
      | in-Node w ↦ w.count-is ∙ w.count_below.ensures ∙ sym (ap (λ s. length (slot_pairs words below s)) (sym c.slot.ensures.is ∙ w.in-Node.is))
      | in-Entry w ↦ w.count-is ∙ sym (ap (λ s. length (slot_pairs words below s)) (sym c.slot.ensures.is ∙ w.in-Entry.is))
    ] in
    let counted = c.loop-slot.invariant in
    let next = ap length (one_slot words c.args.node below c.loop-slot.slot) in
    let both = length-append (pairs_in_slots words below c.args.node c.loop-slot.slot) (slot_pairs words below (slot_at words c.args.node c.loop-slot.slot)) in
    omega arith

pub returns : goal.returns
returns t c =
    let words = words_of c.args.self.now in
    let last : c.loop-slot.slot ≡ 16 = let ended = c.loop-slot-test.false in let within = c.loop-slot.auto.slot-end in omega arith in
    c.loop-slot.invariant ∙ ap (λ n. length (pairs_in_slots words (pairs_within words (c.args.levels - 1)) c.args.node n)) last ∙ sym (ap length (all_slots words c.args.node c.args.levels c.if-levels-eq0.false))
