use Rattle.std.proofs.Common.{◌≡◌, ◌-◌, ◌<◌, ◌^◌, ◌++◌, [], ◌∷◌, ℕ, length, refl, sym, ap, ◌∙◌, subst, arith, length-append, append_assoc}
use Rattle.std.specs.Prelude.{All, slice_index}
use Rattle.std.proofs.lemmas.List.{append-nil}
use Rattle.std.proofs.lemmas.List.Elements.{All-head}
use Rattle.trie_nodes.specs.declared.slot.Slot.TheVariants as slots
use Rattle.trie_nodes.specs.Layout.{key_word, value_word}
use Rattle.trie_nodes.specs.Walks.{slot_pairs, pairs_in_slots, pairs_within}
use Rattle.trie_nodes.specs.Nodes.{slot_at}
use Rattle.table_words.specs.EndContents.{words_of}
use Rattle.table_words.proofs.SlotPairs.{no_levels, all_slots, no_slots, one_slot, room_for_slot, each_of_slot}
use Rattle.table_words.proofs.ended.TableEnds.+push_below.Goals as goal
use Rattle.table_words.proofs.ended.TableEnds.+push_below.Goals.{in-Empty, in-Node, in-Entry}

pub returns-then-levels-eq0-clause-pairs : goal.returns-then-levels-eq0-clause-pairs
returns-then-levels-eq0-clause-pairs t c =
    let old = c.args.pairs.now.items in sym (ap (λ l. old ++ l) (no_levels (words_of c.args.self.now) c.args.node c.args.levels c.if-levels-eq0.true) ∙ append-nil old)

pub loop-slot-init : goal.loop-slot-init
loop-slot-init t c =
    let words = words_of c.args.self.now in
    let old = c.args.pairs.now.items in record {
      are = sym (ap (λ l. old ++ l) (no_slots words c.args.node (pairs_within words (c.args.levels - 1))) ∙ append-nil old);
      room = refl;
    }

pub push_below-requires : goal.push_below-requires
push_below-requires t c =
    let words = words_of c.args.self.now in
    let below = pairs_within words (c.args.levels - 1) in
    let all = all_slots words c.args.node c.args.levels c.if-levels-eq0.false in
    let is = sym c.slot.ensures.is ∙ c.in-Node.is in
    let count = ap length all in
    let fits = room_for_slot words c.args.node below c.loop-slot.slot (slots.Node c.in-Node.below) c.loop-slot-test.true is in
    let so_far = ap length c.loop-slot.invariant.are ∙ length-append c.args.pairs.now.items (pairs_in_slots words below c.args.node c.loop-slot.slot) in
    let kept = c.loop-slot.invariant.room in
    let room = c.requires.room in
    let long = c.loop-slot.pairs.ok in
    let was = c.args.pairs.now.ok in
    let smaller : c.args.levels - 1 < t = let left = c.decreases in let some = c.if-levels-eq0.false in omega arith in
    let P = λ (pair : ℕ × ℕ). pair.0 < 2 ^ 32 in (
      smaller,
      (c.in-Node.ensures.place, (each_of_slot words c.args.node below P c.loop-slot.slot (slots.Node c.in-Node.below) c.loop-slot-test.true is (subst (All P) all c.requires.keys), omega arith)),
    )

pub pair-requires-clause-key : goal.pair-requires-clause-key
pair-requires-clause-key t c =
    let words = words_of c.args.self.now in
    let all = all_slots words c.args.node c.args.levels c.if-levels-eq0.false in
    let is = sym c.slot.ensures.is ∙ c.in-Entry.is in
    let P = λ (pair : ℕ × ℕ). pair.0 < 2 ^ 32 in
    let e = c.in-Entry.entry in
    All-head P (slice_index words (key_word e), slice_index words (value_word e)) [] (each_of_slot words c.args.node (pairs_within words (c.args.levels - 1)) P c.loop-slot.slot (slots.Entry e) c.loop-slot-test.true is (subst (All P) all c.requires.keys))

pub push_reserved-requires : goal.push_reserved-requires
push_reserved-requires t c =
    let words = words_of c.args.self.now in
    let below = pairs_within words (c.args.levels - 1) in
    let all = ap length (all_slots words c.args.node c.args.levels c.if-levels-eq0.false) in
    let fits = room_for_slot words c.args.node below c.loop-slot.slot (slots.Entry c.in-Entry.entry) c.loop-slot-test.true (sym c.slot.ensures.is ∙ c.in-Entry.is) in
    let so_far = ap length c.loop-slot.invariant.are ∙ length-append c.args.pairs.now.items (pairs_in_slots words below c.args.node c.loop-slot.slot) in
    let kept = c.loop-slot.invariant.room in
    let room = c.requires.room in
    let long = c.loop-slot.pairs.ok in
    let was = c.args.pairs.now.ok in
    omega arith

pub loop-slot-preserved : goal.loop-slot-preserved
loop-slot-preserved t c =
    let words = words_of c.args.self.now in
    let below = pairs_within words (c.args.levels - 1) in
    let old = c.args.pairs.now.items in
    let front = pairs_in_slots words below c.args.node c.loop-slot.slot in
    let here = slot_pairs words below (slot_at words c.args.node c.loop-slot.slot) in
    let added : c.match-slot.pairs.items ≡ c.loop-slot.pairs.items ++ here = elim c.match-slot.branch [
      | in-Empty w ↦ ap (λ v. v.items) w.pairs-is ∙ sym (append-nil c.loop-slot.pairs.items) ∙ ap (λ s. c.loop-slot.pairs.items ++ slot_pairs words below s) (sym (sym c.slot.ensures.is ∙ w.in-Empty.is))
      | in-Node w ↦ ap (λ v. v.items) w.pairs-is ∙ w.push_below.ensures.pairs ∙ ap (λ s. c.loop-slot.pairs.items ++ slot_pairs words below s) (sym (sym c.slot.ensures.is ∙ w.in-Node.is))
      | in-Entry w ↦ ap (λ v. v.items) w.pairs-is ∙ w.push_reserved.ensures.items ∙ ap (λ pair. c.loop-slot.pairs.items ++ pair ∷ []) w.pair.ensures
          ∙ ap (λ s. c.loop-slot.pairs.items ++ slot_pairs words below s) (sym (sym c.slot.ensures.is ∙ w.in-Entry.is))
    ] in record {
      are = added ∙ ap (λ l. l ++ here) c.loop-slot.invariant.are ∙ append_assoc old front here ∙ ap (λ l. old ++ l) (sym (one_slot words c.args.node below c.loop-slot.slot));
      room = elim c.match-slot.branch [
        | in-Empty w ↦ ap (λ v. v.cap) w.pairs-is ∙ c.loop-slot.invariant.room
        | in-Node w ↦ ap (λ v. v.cap) w.pairs-is ∙ w.push_below.ensures.room ∙ c.loop-slot.invariant.room
        | in-Entry w ↦ ap (λ v. v.cap) w.pairs-is ∙ w.push_reserved.ensures.capacity ∙ c.loop-slot.invariant.room
      ];
    }

pub returns-clause-pairs : goal.returns-clause-pairs
returns-clause-pairs t c =
    let words = words_of c.args.self.now in
    let last : c.loop-slot.slot ≡ 16 = let ended = c.loop-slot-test.false in let within = c.loop-slot.auto.slot-end in omega arith in
    c.loop-slot.invariant.are ∙ ap (λ l. c.args.pairs.now.items ++ l)
    (ap (pairs_in_slots words (pairs_within words (c.args.levels - 1)) c.args.node) last ∙ sym (all_slots words c.args.node c.args.levels c.if-levels-eq0.false))
