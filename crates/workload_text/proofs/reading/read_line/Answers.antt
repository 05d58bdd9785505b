use Rattle.workload.specs.declared.keyword.Keyword.TheVariants as keywords
use Rattle.std.proofs.Common.{Some, sym, ap, ◌∙◌}
use Rattle.workload_text.proofs.ReadLemmas.{line_of_keyword}
use Rattle.workload_text.proofs.reading.read_line.Goals as goal

pub returns-in-Some-Call : goal.returns-in-Some-Call
returns-in-Some-Call c = line_of_keyword c.keywords.ensures.spelled c.dialects.ensures.known c.args.dialect c.args.draft.now c.args.word.now (keywords.Call c.in-Some-Call.verb) _ c.read_call.result (sym c.read_keyword.ensures ∙ c.in-Some-Call.is ∙ ap Some c.in-Some-Call.field-0-is) c.read_call.ensures

pub returns-in-Some-Object : goal.returns-in-Some-Object
returns-in-Some-Object c = line_of_keyword c.keywords.ensures.spelled c.dialects.ensures.known c.args.dialect c.args.draft.now c.args.word.now (keywords.Object c.in-Some-Object.word) _ c.read_object.result (sym c.read_keyword.ensures ∙ c.in-Some-Object.is ∙ ap Some c.in-Some-Object.field-0-is) c.read_object.ensures

pub returns-in-Some-Dormant : goal.returns-in-Some-Dormant
returns-in-Some-Dormant c = line_of_keyword c.keywords.ensures.spelled c.dialects.ensures.known c.args.dialect c.args.draft.now c.args.word.now keywords.Dormant _ c.read_dormant_line.result (sym c.read_keyword.ensures ∙ c.in-Some-Dormant.is ∙ ap Some c.in-Some-Dormant.field-0-is) c.read_dormant_line.ensures

pub returns-in-Some-Worker : goal.returns-in-Some-Worker
returns-in-Some-Worker c = line_of_keyword c.keywords.ensures.spelled c.dialects.ensures.known c.args.dialect c.args.draft.now c.args.word.now keywords.Worker _ c.read_worker_line.result (sym c.read_keyword.ensures ∙ c.in-Some-Worker.is ∙ ap Some c.in-Some-Worker.field-0-is) c.read_worker_line.ensures

pub returns-in-Some-Schedule : goal.returns-in-Some-Schedule
returns-in-Some-Schedule c = line_of_keyword c.keywords.ensures.spelled c.dialects.ensures.known c.args.dialect c.args.draft.now c.args.word.now keywords.Schedule _ c.read_schedule.result (sym c.read_keyword.ensures ∙ c.in-Some-Schedule.is ∙ ap Some c.in-Some-Schedule.field-0-is) c.read_schedule.ensures
