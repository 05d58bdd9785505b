use Rattle.run_record.specs.Objects.{contents_of}
use Rattle.run_record.specs.Record.{calls_of}
use Rattle.record_clauses.specs.Account.{record_of}
use Rattle.record_clauses.proofs.Determined.{journals_once}
use Rattle.record_clauses.proofs.OneAccount.{lines_once, one_account}
use Rattle.record_clauses.proofs.laws.the_parts_of_an_account_are_determined.Goals as goal

pub returns-clause-history : goal.returns-clause-history
returns-clause-history c claim one other first second = c.calls_have_one_history.ensures (contents_of claim.plan) (contents_of claim.plan) one.history other.history (calls_of (record_of claim one)) first second

pub returns-clause-journals : goal.returns-clause-journals
returns-clause-journals c = journals_once

pub returns-clause-lines : goal.returns-clause-lines
returns-clause-lines c claim one other told first second ended also = lines_once claim c.a_list_is_cut_into_one_line.ensures.lines told one other first second ended also

pub returns-clause-all : goal.returns-clause-all
returns-clause-all c claim one other told first second =
    one_account claim c.a_list_is_cut_into_one_line.ensures.lines told one other
    (λ legal also. c.calls_have_one_history.ensures (contents_of claim.plan) (contents_of claim.plan) one.history other.history (calls_of (record_of claim one)) legal also) first second
