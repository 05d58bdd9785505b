use Rattle.std.proofs.Common.{◌≡◌, ℕ, List, Bor, ◌∷◌, [], get_or, Some, map, length, sym, ap, subst, ◌∙◌, arith}
use Rattle.std.proofs.lemmas.Result.{err_from_is_err_and}
use Rattle.std.specs.Fmt.{decimal}
use Rattle.workload.specs.NumberWords.{number_word}
use Rattle.workload.specs.Checks.{form_words, wait_for_words}
use Rattle.workload_text.specs.LineResult.{IsFault}
use Rattle.workload_text.proofs.CheckLemmas.{three_items}
use Rattle.workload_text.proofs.WaitLemmas.{wait_said, value_fails, tries_fail}
use Rattle.workload_text.proofs.call_reading.read_wait.Goals as goal

pub returns-in_err-value : goal.returns-in_err-value
returns-in_err-value c =
    let p = err_from_is_err_and c.from_residual-in_err-value.result c.from_residual-in_err-value.ensures.1 in
    let words = c.args.words.now in
    let three : length words ≡ 3 = omega (arith, c.in-len3) in
    let none : Bor (List ℕ) = record { ref_ptr = (0, 0); now = [] } in
    let said = c.in_ok-name.ensures in
    rw (p.1, p.2) (subst (λ ws. IsFault (form_words c.args.draft.now (Some (wait_for_words c.args.draft.now (map (λ w. w.now) ws))) (map (λ w. w.now) ws)) c.in_err-value.field-0.0) (sym (three_items words none three))
    (value_fails c.checks_go_in_order.ensures.fails c.args.draft.now (get_or words 0 none).now (get_or words 1 none).now (get_or words 2 none).now c.in_ok-name.atomic c.in_ok-name.kind _ said.1 said.2 c.in_err-value.ensures))

pub returns-in_err-tries : goal.returns-in_err-tries
returns-in_err-tries c =
    let p = err_from_is_err_and c.from_residual-in_err-tries.result c.from_residual-in_err-tries.ensures.1 in
    let words = c.args.words.now in
    let three : length words ≡ 3 = omega (arith, c.in-len3) in
    let none : Bor (List ℕ) = record { ref_ptr = (0, 0); now = [] } in
    let said = c.in_ok-name.ensures in
    rw (p.1, p.2) (subst (λ ws. IsFault (form_words c.args.draft.now (Some (wait_for_words c.args.draft.now (map (λ w. w.now) ws))) (map (λ w. w.now) ws)) c.in_err-tries.field-0.0) (sym (three_items words none three))
    (tries_fail c.args.draft.now (get_or words 0 none).now (get_or words 1 none).now (get_or words 2 none).now c.in_ok-name.atomic c.in_ok-name.kind _ said.1 said.2 c.in_ok-value.ensures.2 c.in_err-tries.ensures))

pub returns : goal.returns
returns c =
    let words = c.args.words.now in
    let three : length words ≡ 3 = omega (arith, c.in-len3) in
    let none : Bor (List ℕ) = record { ref_ptr = (0, 0); now = [] } in
    let said = c.in_ok-name.ensures in
    let name = (get_or words 0 none).now in
    let are : name ∷ number_word c.in_ok-value.value ∷ decimal c.in_ok-tries.tries ∷ [] ≡ map (λ w. w.now) words =
    ap (λ (v : List ℕ). name ∷ v ∷ decimal c.in_ok-tries.tries ∷ []) c.in_ok-value.ensures.0
    ∙ ap (λ (v : List ℕ). name ∷ (get_or words 1 none).now ∷ v ∷ []) c.in_ok-tries.ensures.0
    ∙ sym (ap (map (λ w. w.now)) (three_items words none three)) in
    rw said.0 (wait_said c.names_find_their_objects.ensures c.args.draft.now name c.in_ok-name.atomic c.in_ok-name.kind c.in_ok-value.value c.in_ok-tries.tries (map (λ w. w.now) words) said.1 said.2 c.in_ok-value.ensures.1 c.in_ok-tries.ensures.1 are)
