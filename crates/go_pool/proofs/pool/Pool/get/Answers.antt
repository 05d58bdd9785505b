use Rattle.std.proofs.Common.{◌≡◌, ◌+◌, ◌*◌, refl, ◌∙◌, arith}
use Rattle.go_pool.specs.Pools.{fresh_of}
use Rattle.go_pool.proofs.Drops.{come_from}
use Rattle.go_pool.proofs.Looking.{AreLooks, looked_more, looks_up, looks_refused, looks_end}
use Rattle.go_pool.proofs.Rounds.{first_round, next_round}
use Rattle.go_pool.proofs.pool.Pool.get.Goals as goal

pub loop-number-init : goal.loop-number-init
loop-number-init g c = first_round g.N.Note.at g.N.Note.own g.N.Note.front c.args.self.now {Are = AreLooks c.args.self.now c.args.pass.now 0} c.args.pass.now _ c.args.note.now c.requires.pass.0 refl refl (omega arith) refl

pub loop-number-preserved : goal.loop-number-preserved
loop-number-preserved g c =
    let did = rw c.in-Done-None.field-0-is at c.in-Done-None.ensures.events in
    let pool = c.args.self.now in
    let old = c.args.pass.now in
    let before = c.loop-number.invariant in
    let number = c.loop-number.number in
    next_round g.N.Note.at g.N.Note.own g.N.Note.front pool {Are = AreLooks pool old number} {Later = AreLooks pool old (number + 1)} old c.loop-number.pass c.look.new.pass c.args.note.now c.loop-number.note c.look.new.note before c.look.ensures.pass.0 c.look.ensures.pass.1
    c.notes_are_kept.ensures c.look.ensures.note did.entries did.grows did.halted (c.look.ensures.no_edge (λ item is. (cc))) (looked_more pool old c.loop-number.pass c.look.new.pass _ _ number before.so_far.grows.number did)

pub returns-in-Done-Some-clause-events : goal.returns-in-Done-Some-clause-events
returns-in-Done-Some-clause-events g c =
    let did = rw c.in-Done-Some.field-0-is at c.in-Done-Some.ensures.events in
    let before = c.loop-number.invariant.so_far in
    looks_up c.args.self.now c.args.pass.now c.loop-number.pass c.look.new.pass _ _ c.loop-number.number before.grows.number _ before (fresh_of c.args.self.now) c.loop-number-test.true c.in-Done-Some.item did

pub returns-in-Done-Some-clause-origin : goal.returns-in-Done-Some-clause-origin
returns-in-Done-Some-clause-origin g c = come_from c.args.self.now c.look.new.pass c.look.ensures.pass.0.lawful c.journal_is_log.ensures c.a_part_gives_each_once.ensures

pub returns-in-Done-Some-clause-no_edge : goal.returns-in-Done-Some-clause-no_edge
returns-in-Done-Some-clause-no_edge g c none = absurd (none c.in-Done-Some.item refl)

pub returns-in-Halted-clause-events : goal.returns-in-Halted-clause-events
returns-in-Halted-clause-events g c =
    let before = c.loop-number.invariant.so_far in
    looks_refused c.args.self.now c.args.pass.now c.loop-number.pass c.look.new.pass _ _ c.loop-number.number before.grows.number _ before (fresh_of c.args.self.now) c.loop-number-test.true c.in-Halted.misuse c.in-Halted.ensures.events

pub returns-in-Halted-clause-origin : goal.returns-in-Halted-clause-origin
returns-in-Halted-clause-origin g c = come_from c.args.self.now c.look.new.pass c.look.ensures.pass.0.lawful c.journal_is_log.ensures c.a_part_gives_each_once.ensures

pub returns-in-Halted-clause-no_edge : goal.returns-in-Halted-clause-no_edge
returns-in-Halted-clause-no_edge g c none = c.in-Halted.ensures.no_edge (λ item is. (cc)) ∙ c.loop-number.invariant.so_far.front

pub returns-clause-events : goal.returns-clause-events
returns-clause-events g c =
    let end : c.loop-number.number ≡ 2 * c.args.self.now.callers = (let past = c.loop-number-test.false in let most = c.loop-number.auto.number-end in omega arith) in
    looks_end c.args.self.now c.args.pass.now c.loop-number.pass _ _ c.loop-number.number end c.loop-number.invariant.so_far

pub returns-clause-origin : goal.returns-clause-origin
returns-clause-origin g c = come_from c.args.self.now c.loop-number.pass c.loop-number.invariant.is.lawful c.journal_is_log.ensures c.a_part_gives_each_once.ensures

pub returns-clause-no_edge : goal.returns-clause-no_edge
returns-clause-no_edge g c none = c.loop-number.invariant.so_far.front

pub returns-clause-journal : goal.returns-clause-journal
returns-clause-journal g c = c.loop-number.invariant.is.lawful
