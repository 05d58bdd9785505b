use Rattle.std.proofs.Common.{rules, ◌+◌, ◌*◌, ◌^◌, ◌<◌, sym, subst, arith}
use Rattle.table_rule.specs.Making.{Publishes}
use Rattle.table_words.specs.Seats.{begin_of}
use Rattle.shared_table.proofs.Poised.{entry_along, chain_fits, chain_may, shown}
use Rattle.shared_table.proofs.publish.show_chain.Goals as goal

pub overflow_cast-other : goal.overflow_cast-other
overflow_cast-other c = let small : c.args.other.now.key < 2 ^ 32 = (entry_along (begin_of c.args.words.now) c.args.seat.now.me.0 c.args.call c.args.map c.args.key c.args.node c.args.level c.args.next c.requires.poised c.args.other.now c.requires.other.0).0 in search rules

pub expansion-requires-clause-level : goal.expansion-requires-clause-level
expansion-requires-clause-level c =
    chain_fits (begin_of c.args.words.now) c.args.seat.now.me.0 c.args.call c.args.map c.args.key c.args.node c.args.level c.args.next c.requires.poised c.args.other.now c.the_paths_of_different_keys_part.ensures.one_to_one c.args.words.now.made.seed c.requires.other.0 c.requires.other.1 c.ranges.key.fits c.requires.level

pub publish-requires-clause-may : goal.publish-requires-clause-may
publish-requires-clause-may c =
    chain_may (begin_of c.args.words.now) c.args.seat.now.me c.draft_chain.new.seat.me c.args.call c.args.map c.args.key c.args.node c.args.level c.args.next c.args.value c.requires.poised c.expansion.result c.args.other.now c.seed-seed.result c.to_word.result
    c.seed-seed.ensures c.draft_chain.ensures.drafted c.requires.after c.requires.other.0 c.expansion.ensures.plan c.to_word.ensures

pub returns-clause-published : goal.returns-clause-published
returns-clause-published c = subst (λ n. Publishes c.args.map c.args.call n c.args.seat.now.me c.publish.new.seat.me) (sym c.len.ensures)
    (shown (begin_of c.args.words.now) c.args.seat.now.me c.draft_chain.new.seat.me c.args.call c.args.map c.args.key c.args.node c.args.level c.args.next (2 + 18 * c.expansion.result.nodes) _ c.requires.poised c.draft_chain.ensures.drafted (omega arith) c.publish.new.seat.me c.publish.ensures.published)
