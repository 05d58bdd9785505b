use Rattle.step_runner.proofs.turns.laws.machines_tell_where_callers_stand.Goals as goal

pub returns : goal.returns
returns c = record {
  mutexes = record {
    moved = λ m x by e valid. c.moves.ensures.moved m x by e valid;
    told = λ m x by e valid told. c.moves.ensures.told m x by e valid told;
    unmoved = λ m x by e valid apart told. c.moves.ensures.unmoved m x by e valid apart told;
    answered = c.standing.ensures.answered;
  };
  rw_mutexes = record {
    others = λ m x by e valid apart. c.moves-2.ensures.others m x by e valid apart;
    own = λ m x e valid. c.moves-2.ensures.own m x e valid;
    answered = c.standing-2.ensures.answered;
    unmade = c.still.ensures.unmade;
  };
  conds = record {
    own = c.knows_where_it_stands.ensures.own;
    others = λ s x by e apart. c.knows_where_it_stands.ensures.others s x by e apart;
    answers = c.answers_its_callers.ensures.answers;
    made = c.still-2.ensures.made;
  };
  groups = c.turn_laws.ensures;
  adding = record {
    own_wait = c.knows_where_it_stands-2.ensures.own_wait;
    own_run = c.knows_where_it_stands-2.ensures.own_run;
    others_wait = λ o x by e apart. c.knows_where_it_stands-2.ensures.others_wait o x by e apart;
    others_run = λ o x by e apart. c.knows_where_it_stands-2.ensures.others_run o x by e apart;
    uses = record { answers = c.knows_where_it_stands-2.ensures.answers; made = c.still-3.ensures.made; used = c.events_are_used_up.ensures };
  };
  giving = record {
    own_wait = c.knows_where_it_stands-3.ensures.own_wait;
    own_run = c.knows_where_it_stands-3.ensures.own_run;
    others_wait = λ o x by e apart. c.knows_where_it_stands-3.ensures.others_wait o x by e apart;
    others_run = λ o x by e apart. c.knows_where_it_stands-3.ensures.others_run o x by e apart;
    uses = record { answers = c.knows_where_it_stands-3.ensures.answers; made = c.still-4.ensures.made; used = c.events_are_used_up-2.ensures };
  };
  semas = c.turn_laws-2.ensures;
  flights = record {
    own = c.knows_where_it_stands-4.ensures.own;
    others = λ f x by e apart. c.knows_where_it_stands-4.ensures.others f x by e apart;
    answers = λ f x e below. c.knows_where_it_stands-4.ensures.answers f x e below;
    made = c.still-5.ensures.made;
    used = c.events_are_used_up-3.ensures;
  };
}
