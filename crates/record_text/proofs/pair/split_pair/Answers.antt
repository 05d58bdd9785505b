use Rattle.std.proofs.Common.{◌≡◌, ◌+◌, ◌-◌, suc, length, take, drop, ap, ◌∙◌, refl, arith}
use Rattle.std.proofs.lemmas.List.{take_all, length-drop}
use Rattle.record_text.proofs.pair.split_pair.Goals as goal

pub returns-in-None : goal.returns-in-None
returns-in-None c = λ place within mark. c.in-None.ensures place (omega arith) within mark

pub returns-in-Some : goal.returns-in-Some
returns-in-Some c =
    let word = c.args.word.now in
    let end = c.in-Some.end in
    let last = c.in-Some.ensures.0 in
    let whole : take (length word - (end + 1)) (drop (end + 1) word) ≡ drop (end + 1) word = take_all _ _ (omega (arith, length-drop (end + 1) word)) in
    let same : end + 1 ≡ suc end = omega arith in
    record {
      end = end;
      within = last.high;
      mark = c.in-Some.ensures.1;
      none = λ place behind within mark. last.after place (omega (arith, behind)) within mark;
      name_is = refl;
      rest_is = whole ∙ ap (λ n. drop n word) same;
    }
