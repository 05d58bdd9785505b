use Rattle.step_runner.proofs.Entered.{Begins, new_idle, entered}
use Rattle.step_runner.proofs.GoesOn.{left_can}
use Rattle.step_runner.proofs.turns.laws.spelling.calls_are_entered_whole.Goals as goal

abbrev begins : goal.After-knows_where_it_stands-6 → Begins
begins c = record {
  tickets = c.knows_where_it_stands.ensures.first;
  groups = record { own = c.knows_where_it_stands-2.ensures.own; others = c.knows_where_it_stands-2.ensures.others; first = c.knows_where_it_stands-2.ensures.first };
  adding = c.knows_where_it_stands-3.ensures.first;
  giving = c.knows_where_it_stands-4.ensures.first;
  semas = c.knows_where_it_stands-5.ensures.first;
  flights = c.knows_where_it_stands-6.ensures.first;
}

pub returns-clause-begins : goal.returns-clause-begins
returns-clause-begins c worker workers room keys kind = new_idle (begins c) worker workers room keys kind

pub returns-clause-enters : goal.returns-clause-enters
returns-clause-enters c plan worker before call objects ready kinds idle out = entered plan worker before call objects ready kinds idle out

pub returns-clause-goes_on : goal.returns-clause-goes_on
returns-clause-goes_on c plan worker before call objects ready plain = left_can plan worker before call objects ready plain
