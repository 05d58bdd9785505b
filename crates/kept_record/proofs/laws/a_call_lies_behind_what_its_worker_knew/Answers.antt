use Rattle.std.proofs.Common.{◌∙◌, sym, append-nil, []}
use Rattle.run_record.specs.Record.{calls_of}
use Rattle.kept_record.specs.Keeping.{account_of, record_of}
use Rattle.kept_record.proofs.AsRecord.{calls_are, call_at, is_worker}
use Rattle.kept_record.proofs.Keeps.{keeps}
use Rattle.kept_record.proofs.Knowing.{all_calls, knows_more}
use Rattle.kept_record.proofs.laws.a_call_lies_behind_what_its_worker_knew.Goals as goal

pub returns-clause-place : goal.returns-clause-place
returns-clause-place c plan acts worker j x all at = ((keeps plan acts all).history.places worker j x (call_at plan acts all worker j x at)).place

pub returns-clause-entry : goal.returns-clause-entry
returns-clause-entry c plan acts worker j x all at = ((keeps plan acts all).history.places worker j x (call_at plan acts all worker j x at)).entry

pub returns-clause-knows : goal.returns-clause-knows
returns-clause-knows c plan acts worker j x all at =
    knows_more (all_calls (account_of plan acts)) (calls_of (record_of plan acts)) x.front x.place (λ d. ([], calls_are plan acts all d ∙ sym (append-nil (all_calls (account_of plan acts) d))))
    ((keeps plan acts all).knowing.knows worker j x (call_at plan acts all worker j x at))

pub returns-clause-own : goal.returns-clause-own
returns-clause-own c plan acts worker j x all at = (keeps plan acts all).knowing.own worker j x (is_worker plan acts all worker j x at) (call_at plan acts all worker j x at)

pub returns-clause-rises : goal.returns-clause-rises
returns-clause-rises c plan acts worker i j x y all before at_x at_y = (keeps plan acts all).knowing.rises worker i j x y before (call_at plan acts all worker i x at_x) (call_at plan acts all worker j y at_y)
