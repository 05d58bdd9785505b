use Rattle.std.proofs.Common.{◌-◌, refl, sym, ap, ◌∙◌, subst}
use Rattle.shared_table.specs.Pruning.{PrunesAt}
use Rattle.table_rule.specs.Walking.{HasWords}
use Rattle.trie_nodes.specs.Paths.{nibble}
use Rattle.shared_table.proofs.Prunings.{holds_lock, stays_there, is_looked, parent_is, parent_words, in_use, may_take, is_taken, may_mark_it, is_marked, may_cut_it, is_cut, comes_up}
use Rattle.shared_table.proofs.table.SharedTable.prune_at.Goals as goal

pub look_at_slots-words-requires-clause-lock : goal.look_at_slots-words-requires-clause-lock
look_at_slots-words-requires-clause-lock g c = holds_lock c.args.self.now.words.table.shared.key c.args.seat.now.me c.args.key c.args.node c.args.level c.requires.holds

pub returns-in_err-plan-clause-pruned : goal.returns-in_err-plan-clause-pruned
returns-in_err-plan-clause-pruned g c = subst (λ o. PrunesAt c.args.self.now.words.table.shared.key c.args.key c.args.node c.args.level o c.args.seat.now.me c.look_at_slots-words.new.seat.me) (sym c.from_residual.ensures)
    (stays_there c.args.self.now.words.table.shared.key c.args.seat.now.me c.args.key c.args.node c.args.level c.requires.holds c.look_at_slots-words.result c.look_at_slots-words.new.seat.me c.look_at_slots-words.ensures.looked)

pub take_upper-requires-clause-lock : goal.take_upper-requires-clause-lock
take_upper-requires-clause-lock g c = may_take c.args.self.now.words.table.shared.key c.args.seat.now.me c.args.key c.args.node c.args.level c.requires.holds c.requires.below c.look_at_slots-words.new.seat.me c.in_ok-plan.plan.parent (is_looked c.args.self.now.words.table.shared.key c.args.seat.now.me c.args.key c.args.node c.args.level c.requires.holds c.look_at_slots-words.result c.look_at_slots-words.new.seat.me c.look_at_slots-words.ensures.looked (c.in_ok-plan.ensures.some.0 refl).0) (c.in_ok-plan.ensures.parent ∙ parent_is c.args.self.now.words.table.shared.key c.args.seat.now.me c.args.key c.args.node c.args.level c.requires.holds c.look_at_slots-words.result c.look_at_slots-words.new.seat.me c.look_at_slots-words.ensures.looked (c.in_ok-plan.ensures.some.0 refl).0)

pub take_upper-requires-clause-words : goal.take_upper-requires-clause-words
take_upper-requires-clause-words g c = subst (λ m. HasWords m.0 c.in_ok-plan.plan.parent 18) (sym (is_looked c.args.self.now.words.table.shared.key c.args.seat.now.me c.args.key c.args.node c.args.level c.requires.holds c.look_at_slots-words.result c.look_at_slots-words.new.seat.me c.look_at_slots-words.ensures.looked (c.in_ok-plan.ensures.some.0 refl).0)) (subst (λ n. HasWords c.args.seat.now.me.0 n 18) (sym c.in_ok-plan.ensures.parent) (parent_words c.args.self.now.words.table.shared.key c.args.seat.now.me c.args.key c.args.node c.args.level c.requires.holds c.look_at_slots-words.result c.look_at_slots-words.new.seat.me c.look_at_slots-words.ensures.looked (c.in_ok-plan.ensures.some.0 refl).0 c.requires.below))

pub take_upper-requires-clause-caller : goal.take_upper-requires-clause-caller
take_upper-requires-clause-caller g c = c.requires.caller ∙ sym (ap (λ m. m.0.number) (is_looked c.args.self.now.words.table.shared.key c.args.seat.now.me c.args.key c.args.node c.args.level c.requires.holds c.look_at_slots-words.result c.look_at_slots-words.new.seat.me c.look_at_slots-words.ensures.looked (c.in_ok-plan.ensures.some.0 refl).0))

pub mark-requires-clause-both : goal.mark-requires-clause-both
mark-requires-clause-both g c = may_mark_it c.args.self.now.words.table.shared.key c.args.seat.now.me c.args.key c.args.node c.args.level c.requires.holds c.requires.below c.take_upper.new.seat.me (is_taken c.args.self.now.words.table.shared.key c.args.seat.now.me c.args.key c.args.node c.args.level c.requires.holds c.requires.below c.look_at_slots-words.new.seat.me c.take_upper.new.seat.me (is_looked c.args.self.now.words.table.shared.key c.args.seat.now.me c.args.key c.args.node c.args.level c.requires.holds c.look_at_slots-words.result c.look_at_slots-words.new.seat.me c.look_at_slots-words.ensures.looked (c.in_ok-plan.ensures.some.0 refl).0) c.take_upper.ensures.taken)

pub mark-requires-clause-words : goal.mark-requires-clause-words
mark-requires-clause-words g c = let t = (is_taken c.args.self.now.words.table.shared.key c.args.seat.now.me c.args.key c.args.node c.args.level c.requires.holds c.requires.below c.look_at_slots-words.new.seat.me c.take_upper.new.seat.me (is_looked c.args.self.now.words.table.shared.key c.args.seat.now.me c.args.key c.args.node c.args.level c.requires.holds c.look_at_slots-words.result c.look_at_slots-words.new.seat.me c.look_at_slots-words.ensures.looked (c.in_ok-plan.ensures.some.0 refl).0) c.take_upper.ensures.taken) in subst (λ m. HasWords m.0 c.args.node 18) (sym t.1) c.requires.holds.words

pub cut_off-requires-clause-both : goal.cut_off-requires-clause-both
cut_off-requires-clause-both g c = may_cut_it c.args.self.now.words.table.shared.key c.args.seat.now.me c.args.key c.args.node c.args.level c.requires.holds c.requires.below c.mark.new.seat.me c.args.self.now.words.table.shared.key.seed c.in_ok-plan.plan.parent c.in_ok-plan.plan.slot (is_marked c.args.self.now.words.table.shared.key c.args.seat.now.me c.args.key c.args.node c.args.level c.requires.holds c.requires.below c.take_upper.new.seat.me c.mark.new.seat.me (is_taken c.args.self.now.words.table.shared.key c.args.seat.now.me c.args.key c.args.node c.args.level c.requires.holds c.requires.below c.look_at_slots-words.new.seat.me c.take_upper.new.seat.me (is_looked c.args.self.now.words.table.shared.key c.args.seat.now.me c.args.key c.args.node c.args.level c.requires.holds c.look_at_slots-words.result c.look_at_slots-words.new.seat.me c.look_at_slots-words.ensures.looked (c.in_ok-plan.ensures.some.0 refl).0) c.take_upper.ensures.taken) c.mark.ensures.marked) (c.in_ok-plan.ensures.parent ∙ parent_is c.args.self.now.words.table.shared.key c.args.seat.now.me c.args.key c.args.node c.args.level c.requires.holds c.look_at_slots-words.result c.look_at_slots-words.new.seat.me c.look_at_slots-words.ensures.looked (c.in_ok-plan.ensures.some.0 refl).0) (c.in_ok-plan.ensures.slot ∙ ap (λ s. nibble c.args.key s (c.args.level - 1)) c.seed.ensures)

pub cut_off-requires-clause-words : goal.cut_off-requires-clause-words
cut_off-requires-clause-words g c = let t = (is_marked c.args.self.now.words.table.shared.key c.args.seat.now.me c.args.key c.args.node c.args.level c.requires.holds c.requires.below c.take_upper.new.seat.me c.mark.new.seat.me (is_taken c.args.self.now.words.table.shared.key c.args.seat.now.me c.args.key c.args.node c.args.level c.requires.holds c.requires.below c.look_at_slots-words.new.seat.me c.take_upper.new.seat.me (is_looked c.args.self.now.words.table.shared.key c.args.seat.now.me c.args.key c.args.node c.args.level c.requires.holds c.look_at_slots-words.result c.look_at_slots-words.new.seat.me c.look_at_slots-words.ensures.looked (c.in_ok-plan.ensures.some.0 refl).0) c.take_upper.ensures.taken) c.mark.ensures.marked) in subst (λ m. HasWords m.0 c.in_ok-plan.plan.parent 18) (sym t.1) (subst (λ n. HasWords c.args.seat.now.me.0 n 18) (sym c.in_ok-plan.ensures.parent) (parent_words c.args.self.now.words.table.shared.key c.args.seat.now.me c.args.key c.args.node c.args.level c.requires.holds c.look_at_slots-words.result c.look_at_slots-words.new.seat.me c.look_at_slots-words.ensures.looked (c.in_ok-plan.ensures.some.0 refl).0 c.requires.below))

pub returns-clause-pruned : goal.returns-clause-pruned
returns-clause-pruned g c = comes_up c.args.self.now.words.table.shared.key c.args.seat.now.me c.args.key c.args.node c.args.level c.requires.holds c.requires.below c.cut_off.new.seat.me c.in_ok-plan.plan.parent (is_cut c.args.self.now.words.table.shared.key c.args.seat.now.me c.args.key c.args.node c.args.level c.requires.holds c.requires.below c.mark.new.seat.me c.cut_off.new.seat.me (is_marked c.args.self.now.words.table.shared.key c.args.seat.now.me c.args.key c.args.node c.args.level c.requires.holds c.requires.below c.take_upper.new.seat.me c.mark.new.seat.me (is_taken c.args.self.now.words.table.shared.key c.args.seat.now.me c.args.key c.args.node c.args.level c.requires.holds c.requires.below c.look_at_slots-words.new.seat.me c.take_upper.new.seat.me (is_looked c.args.self.now.words.table.shared.key c.args.seat.now.me c.args.key c.args.node c.args.level c.requires.holds c.look_at_slots-words.result c.look_at_slots-words.new.seat.me c.look_at_slots-words.ensures.looked (c.in_ok-plan.ensures.some.0 refl).0) c.take_upper.ensures.taken) c.mark.ensures.marked) c.cut_off.ensures.cut) (c.in_ok-plan.ensures.parent ∙ parent_is c.args.self.now.words.table.shared.key c.args.seat.now.me c.args.key c.args.node c.args.level c.requires.holds c.look_at_slots-words.result c.look_at_slots-words.new.seat.me c.look_at_slots-words.ensures.looked (c.in_ok-plan.ensures.some.0 refl).0) (subst (λ n. HasWords c.args.seat.now.me.0 n 18) (sym c.in_ok-plan.ensures.parent) (parent_words c.args.self.now.words.table.shared.key c.args.seat.now.me c.args.key c.args.node c.args.level c.requires.holds c.look_at_slots-words.result c.look_at_slots-words.new.seat.me c.look_at_slots-words.ensures.looked (c.in_ok-plan.ensures.some.0 refl).0 c.requires.below))

pub returns-in_err-plan-clause-stays : goal.returns-in_err-plan-clause-stays
returns-in_err-plan-clause-stays g c = λ none. in_use c.args.self.now.words.table.shared.key c.args.seat.now.me c.args.key c.args.node c.args.level c.requires.holds c.look_at_slots-words.result c.look_at_slots-words.new.seat.me c.look_at_slots-words.ensures.looked c.requires.below (c.in_err-plan.ensures.none.0 refl)
