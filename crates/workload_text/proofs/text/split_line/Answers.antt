use Rattle.std.proofs.Common.{◌≡◌, ◌+◌, ◌-◌, ◌≤◌, suc, length, take, drop, arith, sym, ap, ◌∙◌}
use Rattle.std.proofs.lemmas.List.{take_all, drop_all, length-drop}
use Rattle.std.proofs.Common.{◌∷◌}
use Rattle.workload.specs.Lines.{lines_of}
use Rattle.workload_text.proofs.LineLemmas.{first_line}
use Rattle.workload_text.proofs.text.split_line.Goals as goal

pub returns-then-end-text-clause-line : goal.returns-then-end-text-clause-line
returns-then-end-text-clause-line c =
    let text = c.args.text.now in
    let end = c.line_end-end.result in
    let whole : take (length text - (end + 1)) (drop (end + 1) text) ≡ drop (end + 1) text = take_all _ _ (omega (arith, length-drop (end + 1) text)) in
    let same : end + 1 ≡ suc end = omega arith in
    rw whole (rw same (first_line text end c.requires c.line_end-end.ensures.within c.line_end-end.ensures.before c.line_end-end.ensures.found))

pub returns-else-end-text-clause-line : goal.returns-else-end-text-clause-line
returns-else-end-text-clause-line c =
    let text = c.args.text.now in
    let end = c.line_end-end.result in
    let all : length text ≤ end = c.if-end-text.false in
    let nothing : take (length text - end) (drop end text) ≡ drop (suc end) text = take_all _ _ (omega (arith, length-drop end text)) ∙ drop_all end text all ∙ sym (drop_all (suc end) text (omega arith)) in
    rw nothing (first_line text end c.requires c.line_end-end.ensures.within c.line_end-end.ensures.before c.line_end-end.ensures.found ∙ ap (λ x. x ∷ lines_of (drop (suc end) text)) (take_all end text all))
