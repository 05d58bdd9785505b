use Rattle.std.proofs.Common.{get_or, sym, ◌∙◌, subst, arith}
use Rattle.sync_model.specs.Journal.{Begins}
use Rattle.ruled_object.proofs.Gathering.{at_same}
use Rattle.ruled_object.proofs.Journals.{begins_all}
use Rattle.ruled_object.proofs.laws.all_handed_back.Goals as goal

pub returns : goal.returns
returns g c start journal old new whole sized each = record {
  whole = record {
    follows = whole.follows;
    edges = whole.edges;
    times = whole.times;
    owns = λ i after at_i. let before = at_same old new i after sized at_i in (each i (get_or old i after) after before at_i).1 ∙ whole.owns i (get_or old i after) before;
    seen = λ i after at_i. subst (Begins journal) (sym (each i (get_or old i after) after (at_same old new i after sized at_i) at_i).0) (begins_all journal);
    callers = λ who past. whole.callers who (omega arith);
  };
  all = λ i after at_i. (each i (get_or old i after) after (at_same old new i after sized at_i) at_i).0;
}
