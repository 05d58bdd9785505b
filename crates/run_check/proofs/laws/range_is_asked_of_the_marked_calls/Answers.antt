use Rattle.run_check.proofs.PlacedCalls.{marked_fronts, ranges_are, ranges_hold}
use Rattle.run_check.proofs.laws.range_is_asked_of_the_marked_calls.Goals as goal

pub returns-clause-fronts : goal.returns-clause-fronts
returns-clause-fronts c told marked history claim placed = marked_fronts c.calls_have_one_history.ensures told marked history claim placed

pub returns-clause-ranges : goal.returns-clause-ranges
returns-clause-ranges c told marked history claim placed up =
    (λ both. ranges_hold c.calls_have_one_history.ensures told marked history claim placed both.0 both.1 up, ranges_are c.calls_have_one_history.ensures told marked history claim placed)
