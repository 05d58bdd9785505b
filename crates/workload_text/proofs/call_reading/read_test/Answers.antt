use Rattle.std.proofs.Common.{◌≡◌, ℕ, List, Bor, ◌∷◌, [], true, get_or, Some, map, length, refl, sym, subst, arith}
use Rattle.std.proofs.lemmas.Result.{err_from_is_err_and}
use Rattle.workload.specs.declared.keyword.Operand.TheVariants as operands
use Rattle.workload.specs.declared.reason.Reason.TheVariants.{WrongNumberOfWords}
use Rattle.workload.specs.Checks.{form_words, operand_check}
use Rattle.workload_text.specs.LineResult.{blank, IsFault}
use Rattle.workload_text.proofs.CheckLemmas.{behind_one, two_items}
use Rattle.workload_text.proofs.call_reading.read_test.Goals as goal

pub returns-in_err-read_number : goal.returns-in_err-read_number
returns-in_err-read_number c =
    let p = err_from_is_err_and c.from_residual.result c.from_residual.ensures.1 in
    let words = c.args.words.now in
    let two : length words ≡ 2 = omega (arith, c.in-len2) in
    let none : Bor (List ℕ) = record { ref_ptr = (0, 0); now = [] } in
    let form = operands.Number c.args.kind ∷ operands.Passes ∷ [] in
    rw (p.1, p.2) (subst (λ ws. IsFault (form_words blank (Some form) (map (λ w. w.now) ws)) c.in_err-read_number.field-0.0) (sym (two_items words none two)) (behind_one c.checks_go_in_order.ensures.fails (true, WrongNumberOfWords) _ (operand_check operands.Passes (get_or words 1 none).now ∷ []) _ refl c.in_err-read_number.ensures))
