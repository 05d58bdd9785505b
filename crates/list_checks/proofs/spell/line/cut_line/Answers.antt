use Rattle.std.proofs.Common.{◌≡◌, ◌∙◌, ℕ, true, false, List, [], drop, get_or, Option, None, sym, ap, subst}
use Rattle.sync_types.specs.BoundedSeq.{Bounded}
use Rattle.run_cuts.specs.CallCuts.{call_cut}
use Rattle.run_cuts.specs.CallsAlong.{calls_along}
use Rattle.run_cuts.specs.LineCuts.{cut_from, line_cut}
use Rattle.run_cuts.specs.OneLine.{settles_by}
use Rattle.run_cuts.specs.StartsCuts.{closing_cut, opening_cut}
use Rattle.list_checks.specs.CallMarks.{calls_behind, stop_end, up_to}
use Rattle.list_checks.specs.SpellLines.{ended_at, line_told, stays_by, IsLineTold}
use Rattle.list_checks.specs.declared.spell.line.Ending.TheVariants as ending
use Rattle.list_checks.proofs.SpellCalls.{on_ok}
use Rattle.list_checks.proofs.SpellLines.{came_to, never_came, stays_otherwise}
use Rattle.list_checks.proofs.spell.line.cut_line.Goals as goal

pub returns-then-opened : goal.returns-then-opened
returns-then-opened c =
    let plan = c.args.workload.now in
    let script = get_or plan.scripts c.args.worker [] in
    let comes : c.in-Ok.opened.outcome ≡ true = cc in
    let none : c.in_ok-calls.calls.items ≡ [] = ap (λ (b : Bounded (Option ℕ)). b.items) c.in_ok-calls.ensures in
    let first : c.marked-calls.result.items ≡ up_to [] c.in-Ok.opened.end None = ap (λ (b : Bounded (Option ℕ)). b.items) c.marked-calls.ensures ∙ ap (λ (calls : List (Option ℕ)). up_to calls c.in-Ok.opened.end None) none in
    on_ok c.cut_script.result
    (λ found told. came_to (settles_by plan) script c.args.items.now (opening_cut plan c.args.worker c.args.items.now) (λ rest. cut_from (closing_cut plan c.args.worker) (call_cut plan c.args.worker) 0 0 script rest) c.in-Ok.opened found comes c.in-Ok.ensures
    (subst (λ (calls : List (Option ℕ)). IsLineTold (settles_by plan) (calls_behind calls) (cut_from (closing_cut plan c.args.worker) (call_cut plan c.args.worker) 0 0 script (drop c.in-Ok.opened.end c.args.items.now)) found) first told))
    c.cut_script.ensures

pub returns-else-opened : goal.returns-else-opened
returns-else-opened c =
    let plan = c.args.workload.now in
    let script = get_or plan.scripts c.args.worker [] in
    let stays : c.in-Ok.opened.outcome ≡ false = cc in
    let none : c.in_ok-calls.calls.items ≡ [] = ap (λ (b : Bounded (Option ℕ)). b.items) c.in_ok-calls.ensures in
    let first : c.marked-calls.result.items ≡ up_to [] c.in-Ok.opened.end None = ap (λ (b : Bounded (Option ℕ)). b.items) c.marked-calls.ensures ∙ ap (λ (calls : List (Option ℕ)). up_to calls c.in-Ok.opened.end None) none in
    let same = c.never_started.ensures ∙ ap (λ (calls : List (Option ℕ)). line_told [] calls (ended_at c.args.items.now c.in-Ok.opened.end ending.Never)) first in
    subst (λ found. IsLineTold (settles_by plan) calls_along (line_cut (opening_cut plan c.args.worker) (closing_cut plan c.args.worker) (call_cut plan c.args.worker) 0 script c.args.items.now) found) (sym same)
    (never_came (settles_by plan) script c.args.items.now (opening_cut plan c.args.worker c.args.items.now) (λ rest. cut_from (closing_cut plan c.args.worker) (call_cut plan c.args.worker) 0 0 script rest) c.in-Ok.opened stays c.in-Ok.ensures)

pub returns-in-Err : goal.returns-in-Err
returns-in-Err c =
    let plan = c.args.workload.now in
    let script = get_or plan.scripts c.args.worker [] in
    let none : c.in_ok-calls.calls.items ≡ [] = ap (λ (b : Bounded (Option ℕ)). b.items) c.in_ok-calls.ensures in
    let same = c.stopped_before.ensures ∙ ap (λ (calls : List (Option ℕ)). line_told [] (up_to calls (stop_end c.args.items.now c.in-Err.stop) None) (stays_by c.args.items.now c.in-Err.stop)) none in
    subst (λ found. IsLineTold (settles_by plan) calls_along (line_cut (opening_cut plan c.args.worker) (closing_cut plan c.args.worker) (call_cut plan c.args.worker) 0 script c.args.items.now) found) (sym same)
    (stays_otherwise (settles_by plan) script c.args.items.now (opening_cut plan c.args.worker c.args.items.now) (λ rest. cut_from (closing_cut plan c.args.worker) (call_cut plan c.args.worker) 0 0 script rest) c.in-Err.stop c.in-Err.ensures)
