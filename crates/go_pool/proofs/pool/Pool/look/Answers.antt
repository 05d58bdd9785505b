use Rattle.std.proofs.Common.{◌≡◌, ◌∙◌, ℕ, Some, sym, ap}
use Rattle.pool_core.specs.PartLaws.{about}
use Rattle.protocols.specs.PoolStages.{pool_event}
use Rattle.pool_core.specs.Looks.{look}
use Rattle.pool_core.specs.PoolParts.{reply_of_look}
use Rattle.call_loop.specs.Calls.{told}
use Rattle.go_pool.specs.Pools.{parts_of, number_of}
use Rattle.go_pool.specs.PoolAnswers.{look_of}
use Rattle.go_pool.proofs.PoolGrowth.{did_single}
use Rattle.go_pool.proofs.PoolSpelling.{single_at, look_ended, gains_nothing}
use Rattle.go_pool.proofs.Seats.{seat_numbers}
use Rattle.go_pool.proofs.pool.Pool.look.Goals as goal

pub returns-clause-events : goal.returns-clause-events
returns-clause-events g c =
    let pool = c.args.self.now in
    let old = c.args.pass.now in
    let stage = c.look_stage-stage in
    let event = look (parts_of pool) (number_of old) c.args.number in
    let is : about (number_of old) event ≡ Some c.look_part-part.result = ap (λ (n : ℕ). about n (look (parts_of pool) n c.args.number)) (sym c.number-2.ensures) ∙ c.look_part-part.ensures.about in
    let made : pool_event stage.result 0 ≡ event = stage.ensures.event ∙ ap (λ (n : ℕ). look (parts_of pool) n c.args.number) c.number.ensures in
    did_single pool c.look_part-part.result old c.at_part.new.pass (g.N.Note.front c.args.note.now) (g.N.Note.front c.at_part.new.note) event reply_of_look (seat_numbers pool old c.requires.pass c.look_part-part.result) is c.looked.result
    (single_at pool c.look_part-part.result (g.C.Clock.shows c.args.at.now.clock.now) stage.result event reply_of_look look_of made (look_ended stage.result stage.ensures.look) c.looked.ensures c.at_part.ensures.events)

pub returns-clause-no_edge : goal.returns-clause-no_edge
returns-clause-no_edge g c none = c.at_part.ensures.no_edge (gains_nothing c.look_stage-stage.result c.at_part.result (λ item is. none item (c.looked.ensures ∙ ap (told look_of) is)))
