use Rattle.script_calls.proofs.StartLemmas.{is_go, go_starts, nobody_none, none_nobody, found_there, group_there, one_there}
use Rattle.script_calls.proofs.laws.who_starts_whom.Goals as goal

pub returns-clause-starts : goal.returns-clause-starts
returns-clause-starts c = λ worker call. (is_go worker call, go_starts worker call)

pub returns-clause-nobody : goal.returns-clause-nobody
returns-clause-nobody c = λ worker scripts. (nobody_none worker scripts, none_nobody worker scripts)

pub returns-clause-found : goal.returns-clause-found
returns-clause-found c = λ worker group scripts. found_there worker scripts group

pub returns-clause-group : goal.returns-clause-group
returns-clause-group c = λ worker at place scripts script call few has stands is. group_there worker scripts at place script call few has stands (go_starts worker call is)

pub returns-clause-one : goal.returns-clause-one
returns-clause-one c = λ worker at after place other scripts script later call another few has stands is have stand are.
    one_there worker scripts at after place other script later call another few has stands (go_starts worker call is) have stand (go_starts worker another are)
