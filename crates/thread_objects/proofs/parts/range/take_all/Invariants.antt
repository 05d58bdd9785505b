use Rattle.std.proofs.Common.{◌≡◌, ℕ, List, Ok}
use Rattle.std.specs.Option.{ForSome}
use Rattle.sync_model.specs.declared.answer.Answer.TheVariants.{Done}
use Rattle.sync_model.specs.Note.{SameHome}
use Rattle.sync_model.specs.Shared.{IsCallerAt, items_of}
use Rattle.workload.specs.Plan.{Plan}
use Rattle.run_record.specs.Limits.{IsCallOf}
use Rattle.run_record.specs.Record.{ObjectEntry}
use Rattle.thread_objects.specs.GivenUp.{MakesOnly}
use Rattle.thread_objects.specs.PlacedCalls.{placed, shows}
use Rattle.thread_objects.specs.Spending.{Spends}
use Rattle.thread_objects.specs.Working.{Works, desk_with}
use Rattle.thread_objects.proofs.parts.range.take_all.Given as goal

abbrev pub invariant-loop : goal.invariant-loop
invariant-loop g l =
    let own = g.S.Mark.Note.own in
    let stands = g.S.Shared.stands l.fn.shared in
    ((goal.iterator-loop g).can_next l.iterator' × (goal.iterator-loop g).is_finite l.iterator')
    × IsCallerAt g.S.Mark.Note.at own (g.S.Shared.home_of l.fn.shared) l.caller
    × SameHome g.S.Mark.Note.at l.fn.caller.note l.caller.note
    × ((map begin : ℕ) → ForSome (own l.fn.caller.note) (λ holding. stands l.fn.cursor map begin holding.items) → ForSome (own l.caller.note) (λ holding. stands l.cursor map begin holding.items))
    × Spends own 0 l.fn.caller.note l.caller.note
    × ((map begin : ℕ) (owns : ℕ → List ObjectEntry) → ForSome (own l.fn.caller.note) (λ holding. stands l.fn.cursor map begin holding.items)
    → Works (placed (shows begin l.shown.items)) (desk_with own g.S.Mark.Note.front owns l.fn.caller.note) (Done (Ok tt)) (desk_with own g.S.Mark.Note.front owns l.caller.note))
    × ((plan : Plan) → MakesOnly (IsCallOf plan) (items_of (own l.fn.caller.note)) (items_of (own l.caller.note)))
    × (l.shown.room ≡ l.fn.room.room)
