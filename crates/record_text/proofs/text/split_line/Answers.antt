use Rattle.std.proofs.Common.{◌≡◌, ◌+◌, ◌-◌, suc, length, take, drop, ◌∷◌, get_or, ℕ, List, arith, refl, ap, ◌∙◌, inl, inr}
use Rattle.std.proofs.lemmas.Bool.{eqb-true, eq-eqb}
use Rattle.std.proofs.lemmas.List.{take_all, drop_all, length-drop}
use Rattle.workload.specs.Lines.{lines_of}
use Rattle.record_text.proofs.WalkLemmas.{first_line, whole_line}
use Rattle.record_text.proofs.text.split_line.Goals as goal

pub returns-in-None-clause-line : goal.returns-in-None-clause-line
returns-in-None-clause-line c =
    let text = c.args.text.now in
    first_line text (length text) c.requires (omega arith) (λ k lt is. c.in-None.ensures k (omega arith) lt (eq-eqb (get_or text k 0) 10 is)) (λ lt. absurd (omega (arith, lt)))
    ∙ ap (λ (l : List ℕ). l ∷ lines_of (drop (suc (length text)) text)) (take_all (length text) text (omega arith))
    ∙ ap (λ (bs : List ℕ). text ∷ lines_of bs) (drop_all (suc (length text)) text (omega arith))

pub returns-in-None-clause-whole : goal.returns-in-None-clause-whole
returns-in-None-clause-whole c = inr refl

pub returns-in-Some-clause-line : goal.returns-in-Some-clause-line
returns-in-Some-clause-line c =
    let text = c.args.text.now in
    let end = c.in-Some.end in
    let first = c.in-Some.ensures.0 in
    let whole : take (length text - (end + 1)) (drop (end + 1) text) ≡ drop (end + 1) text = take_all _ _ (omega (arith, length-drop (end + 1) text)) in
    let same : end + 1 ≡ suc end = omega arith in
    rw whole (rw same (first_line text end c.requires (let high = first.high in omega (arith, high)) (λ k lt is. first.before k (omega arith) lt (eq-eqb (get_or text k 0) 10 is)) (λ lt. eqb-true (get_or text end 0) 10 c.in-Some.ensures.1)))

pub returns-in-Some-clause-whole : goal.returns-in-Some-clause-whole
returns-in-Some-clause-whole c =
    let text = c.args.text.now in
    let end = c.in-Some.end in
    let whole : take (length text - (end + 1)) (drop (end + 1) text) ≡ drop (end + 1) text = take_all _ _ (omega (arith, length-drop (end + 1) text)) in
    let same : end + 1 ≡ suc end = omega arith in
    rw whole (rw same (inl (whole_line text end c.in-Some.ensures.0.high (eqb-true (get_or text end 0) 10 c.in-Some.ensures.1))))
