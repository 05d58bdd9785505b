use Rattle.std.proofs.Common.{◌≤◌, length, arith, sym, ◌∙◌}
use Rattle.ruled_object.proofs.Holding.{one_held, own_held, some_held}
use Rattle.ruled_object.proofs.laws.passes_and_copies.Goals as goal

pub returns-clause-holds : goal.returns-clause-holds
returns-clause-holds g c object pass is =
    let one = is.one in (
      record { table = is.table; caller = is.caller; number = is.number; one = (let most : length pass.seat.me.0.owns ≤ 1 = omega arith in most); turn = is.turn; empty = is.empty; turns = is.turns },
      one_held pass.seat.me.0.owns one,
    )

pub returns-clause-is_pass : goal.returns-clause-is_pass
returns-clause-is_pass g c object pass own is held =
    let owns = pass.seat.me.0.owns in
    (record { table = is.table; caller = is.caller; number = is.number; one = some_held owns own held is.one; turn = is.turn; empty = is.empty; turns = is.turns }, own_held owns own held)

pub returns-clause-shows : goal.returns-clause-shows
returns-clause-shows g c start pass lawful = record { own = λ own held. sym (own_held pass.seat.me.0.owns own held) ∙ lawful.own; follows = lawful.follows; edges = lawful.edges; times = lawful.times }

pub returns-clause-lawful : goal.returns-clause-lawful
returns-clause-lawful g c start pass own held shows = record { own = own_held pass.seat.me.0.owns own held ∙ shows.own own held; follows = shows.follows; edges = shows.edges; times = shows.times }
