use Rattle.std.proofs.Common.{◌≡◌, ◌+◌, refl, sym, ◌∙◌, arith}
use Rattle.pool_core.specs.declared.pool_event.PoolEvent.TheVariants.{Sweep}
use Rattle.pool_core.specs.declared.pool_event.PoolReply.TheVariants.{Swept}
use Rattle.protocols.specs.declared.pool.PoolStage.TheVariants as stage
use Rattle.protocols.specs.PoolStages.{sweep_gives}
use Rattle.sync_model.specs.declared.answer.Answer.TheVariants.{Done}
use Rattle.go_pool.specs.PoolAnswers.{sweep_of}
use Rattle.go_pool.proofs.PoolGrowth.{entries_at, grows_at, halted_at}
use Rattle.go_pool.proofs.PoolSpelling.{single_at, sweep_ended, gains_nothing, gives_none}
use Rattle.go_pool.proofs.Rounds.{first_round, next_round}
use Rattle.go_pool.proofs.Seats.{seat_numbers}
use Rattle.go_pool.proofs.Sweeping.{AreSwept, swept_more, swept_refused, swept_all}
use Rattle.go_pool.proofs.pool.Pool.sweep.Goals as goal

pub loop-part-init : goal.loop-part-init
loop-part-init g c = first_round g.N.Note.at g.N.Note.own g.N.Note.front c.args.self.now {Are = AreSwept c.args.self.now 0} c.args.pass.now _ c.args.note.now c.requires.pass.0 refl refl (omega arith) refl

pub loop-part-preserved : goal.loop-part-preserved
loop-part-preserved g c =
    let pool = c.args.self.now in
    let old = c.args.pass.now in
    let mid = c.loop-part.pass in
    let new = c.at_part.new.pass in
    let part = c.loop-part.part in
    let before = c.loop-part.invariant in
    let numbers = seat_numbers pool mid before.is part in
    let did = single_at pool part (g.C.Clock.shows c.args.at.now.clock.now) stage.Sweep Sweep (λ done. Swept) sweep_of refl sweep_ended (sym c.in-Done.is ∙ c.swept.ensures) c.at_part.ensures.events in
    let same = c.at_part.ensures.no_edge (gains_nothing stage.Sweep c.at_part.result (gives_none sweep_gives (λ item. refl) c.at_part.result c.at_part.ensures.gives)) in
    next_round g.N.Note.at g.N.Note.own g.N.Note.front pool {Are = AreSwept pool part} {Later = AreSwept pool (part + 1)} old mid new c.args.note.now c.loop-part.note c.at_part.new.note before c.at_part.ensures.pass.0 c.at_part.ensures.pass.1
    c.notes_are_kept.ensures c.at_part.ensures.note (entries_at pool part mid new _ _ (Done tt) numbers did) (grows_at pool part mid new _ _ (Done tt) numbers did) (halted_at pool part mid new _ _ (Done tt) numbers did) same (swept_more pool old mid new _ _ part c.loop-part-test.true numbers did)

pub returns-in-Halted-clause-events : goal.returns-in-Halted-clause-events
returns-in-Halted-clause-events g c =
    let pool = c.args.self.now in
    let mid = c.loop-part.pass in
    let part = c.loop-part.part in
    let did = single_at pool part (g.C.Clock.shows c.args.at.now.clock.now) stage.Sweep Sweep (λ done. Swept) sweep_of refl sweep_ended (sym c.in-Halted.is ∙ c.swept.ensures) c.at_part.ensures.events in
    swept_refused pool c.args.pass.now mid c.at_part.new.pass _ _ part c.loop-part-test.true (seat_numbers pool mid c.loop-part.invariant.is part) _ c.loop-part.invariant.so_far c.in-Halted.misuse did

pub returns-in-Halted-clause-no_edge : goal.returns-in-Halted-clause-no_edge
returns-in-Halted-clause-no_edge g c =
    c.at_part.ensures.no_edge (gains_nothing stage.Sweep c.at_part.result (gives_none sweep_gives (λ item. refl) c.at_part.result c.at_part.ensures.gives)) ∙ c.loop-part.invariant.so_far.front

pub returns-clause-events : goal.returns-clause-events
returns-clause-events g c =
    let end : c.loop-part.part ≡ c.args.self.now.callers = (let past = c.loop-part-test.false in let most = c.loop-part.auto.part-end in omega arith) in
    swept_all c.args.self.now c.args.pass.now c.loop-part.pass _ _ c.loop-part.part end c.loop-part.invariant.so_far

pub returns-clause-no_edge : goal.returns-clause-no_edge
returns-clause-no_edge g c = c.loop-part.invariant.so_far.front

pub returns-clause-journal : goal.returns-clause-journal
returns-clause-journal g c = c.loop-part.invariant.is.lawful
