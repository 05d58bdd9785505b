use Rattle.std.proofs.Common.{◌≡◌, Some, refl, sym, ap, ◌∙◌}
use Rattle.pool_core.specs.declared.pool_event.PoolEvent.TheVariants.{Put}
use Rattle.pool_core.specs.PartLaws.{about}
use Rattle.pool_core.specs.PoolParts.{reply_of_put}
use Rattle.protocols.specs.declared.pool.PoolStage.TheVariants as stage
use Rattle.protocols.specs.PoolStages.{put_gives}
use Rattle.go_pool.specs.Calls.{Puts}
use Rattle.go_pool.specs.PoolAnswers.{put_of}
use Rattle.go_pool.proofs.Drops.{drops_where}
use Rattle.go_pool.proofs.PoolGrowth.{did_as, did_single}
use Rattle.go_pool.proofs.PoolSpelling.{single_at, put_ended, gains_nothing, gives_none}
use Rattle.go_pool.proofs.Seats.{seat_numbers}
use Rattle.go_pool.proofs.pool.Pool.put.Goals as goal

pub returns-clause-events : goal.returns-clause-events
returns-clause-events g c =
    let pool = c.args.self.now in
    let old = c.args.pass.now in
    let own = c.number-own.result in
    let new = c.at_part.new.pass in
    let from = g.N.Note.front c.args.note.now in
    let to = g.N.Note.front c.at_part.new.note in
    let is : about old.number (Put c.args.item) ≡ Some own = ap Some (sym c.number-own.ensures) in
    did_as pool (Puts c.args.item) old _ new from to c.kept_or_dropped.result refl refl
    (did_single pool own _ new from to (Put c.args.item) reply_of_put (seat_numbers pool old c.requires.pass.0 own) is c.kept_or_dropped.result
    (single_at pool own (g.C.Clock.shows c.args.at.now.clock.now) (stage.Put c.args.item) (Put c.args.item) reply_of_put put_of refl (put_ended c.args.item) c.kept_or_dropped.ensures c.at_part.ensures.events))

pub returns-clause-dropped : goal.returns-clause-dropped
returns-clause-dropped g c =
    let pool = c.args.self.now in
    let own = c.number-own.result in
    let new = c.at_part.new.pass in
    drops_where pool own _ new (g.N.Note.front c.args.note.now) (g.N.Note.front c.at_part.new.note) c.args.item c.kept_or_dropped.result (c.number-own.ensures ∙ sym c.at_part.ensures.pass.1.0)
    (single_at pool own (g.C.Clock.shows c.args.at.now.clock.now) (stage.Put c.args.item) (Put c.args.item) reply_of_put put_of refl (put_ended c.args.item) c.kept_or_dropped.ensures c.at_part.ensures.events)
    c.at_part.ensures.pass.0.lawful c.journal_is_log.ensures c.a_part_drops_where_full.ensures

pub returns-clause-no_edge : goal.returns-clause-no_edge
returns-clause-no_edge g c = c.at_part.ensures.no_edge (gains_nothing (stage.Put c.args.item) c.at_part.result (gives_none put_gives (λ item. refl) c.at_part.result c.at_part.ensures.gives))
