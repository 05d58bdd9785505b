use Rattle.std.proofs.Common.{◌≡◌, ◌+◌, ◌-◌, suc, length, take, drop, arith}
use Rattle.std.proofs.lemmas.List.{take_all, length-drop}
use Rattle.record_text.proofs.Cutting.{uncut, cut_at}
use Rattle.record_text.proofs.cut.cut_text.Goals as goal

pub returns-in-None : goal.returns-in-None
returns-in-None c = uncut c.args.separator c.args.text.now (λ k below is. c.in-None.ensures k (omega arith) below is)

pub returns-in-Some : goal.returns-in-Some
returns-in-Some c =
    let text = c.args.text.now in
    let end = c.in-Some.end in
    let first = c.in-Some.ensures.0 in
    let whole : take (length text - (end + 1)) (drop (end + 1) text) ≡ drop (end + 1) text = take_all _ _ (omega (arith, length-drop (end + 1) text)) in
    let same : end + 1 ≡ suc end = omega arith in
    rw whole (rw same (cut_at c.args.separator text end first.high (λ k below is. first.before k (omega arith) below is) c.in-Some.ensures.1))
