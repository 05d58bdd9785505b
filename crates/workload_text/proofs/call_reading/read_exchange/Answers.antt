use Rattle.std.proofs.Common.{◌≡◌, ℕ, List, Bor, ◌∷◌, [], true, get_or, Some, map, length, refl, sym, subst, arith}
use Rattle.std.proofs.lemmas.Result.{err_from_is_err_and}
use Rattle.workload.specs.declared.keyword.Operand.TheVariants as operands
use Rattle.workload.specs.declared.reason.Reason.TheVariants.{WrongNumberOfWords}
use Rattle.workload.specs.Checks.{form_words, operand_check}
use Rattle.workload_text.specs.LineResult.{blank, IsFault}
use Rattle.workload_text.proofs.CheckLemmas.{behind_two, three_items}
use Rattle.workload_text.proofs.call_reading.read_exchange.Goals as goal

pub returns-in_err-read_value : goal.returns-in_err-read_value
returns-in_err-read_value c =
    let p = err_from_is_err_and c.from_residual-in_err-read_value.result c.from_residual-in_err-read_value.ensures.1 in
    let words = c.args.words.now in
    let three : length words ≡ 3 = omega (arith, c.in-len3) in
    let none : Bor (List ℕ) = record { ref_ptr = (0, 0); now = [] } in
    let form = operands.Key ∷ operands.Value ∷ operands.Value ∷ [] in
    rw (p.1, p.2) (subst (λ ws. IsFault (form_words blank (Some form) (map (λ w. w.now) ws)) c.in_err-read_value.field-0.0) (sym (three_items words none three)) (behind_two c.checks_go_in_order.ensures.fails (true, WrongNumberOfWords) (operand_check operands.Key (get_or words 0 none).now) _ (operand_check operands.Value (get_or words 2 none).now ∷ []) _ refl c.in_ok-read_name.ensures.0 c.in_err-read_value.ensures))
