use Rattle.std.proofs.Common.{sym, ◌∙◌}
use Rattle.workload.proofs.Keywords.{call_at, other_at}
use Rattle.workload.proofs.keyword.find_any.Goals as goal

pub returns-in-Some : goal.returns-in-Some
returns-in-Some c = sym (call_at c.args.word.now c.in-Some.verb (sym c.read_verb.ensures ∙ c.in-Some.is))

pub returns-in-None : goal.returns-in-None
returns-in-None c = c.find_keyword.ensures ∙ sym (other_at c.args.word.now (sym c.read_verb.ensures ∙ c.in-None.is))
