use Rattle.std.proofs.Common.{◌≡◌, ◌+◌, ◌<◌, true, false, cond, Some, None, map, length, sym, ap, subst, ◌∙◌, arith}
use Rattle.std.specs.List.{flat_map}
use Rattle.workload.specs.declared.limits.TheConstants.{MAX_TURNS}
use Rattle.workload.specs.declared.reason.Reason.TheVariants.{LimitReached}
use Rattle.workload.specs.Words.{turn_word}
use Rattle.workload.specs.Checks.{first_failing, item_checks}
use Rattle.workload_text.specs.LineResult.{IsFault}
use Rattle.std.specs.Prelude.{nat_lt, nat_le}
use Rattle.std.proofs.lemmas.Bool.{eqb-false, lt-ltb, lt-leb}
use Rattle.std.proofs.lemmas.List.{length-map}
use Rattle.std.proofs.lemmas.Result.{err_from_is_err_and}
use Rattle.workload_text.proofs.CheckLemmas.{turns_fail, turns_pass}
use Rattle.workload_text.proofs.reading.read_schedule.Goals as goal

pub returns-in_err-turns : goal.returns-in_err-turns
returns-in_err-turns c =
    let p = err_from_is_err_and c.from_residual.result c.from_residual.ensures.1 in
    let words = c.args.arguments.now in
    let filled : 0 < length words = omega (arith, eqb-false (length words) 0 (sym c.is_empty.ensures ∙ c.if-is_empty.false)) in
    let some : nat_lt 0 (length (map (λ w. w.now) words)) ≡ true = rw (length-map words (λ w. w.now)) (lt-ltb 0 (length words) filled) in
    rw (p.1, p.2) (turns_fail c.checks_go_in_order.ensures.fails c.args.draft.now (map (λ w. w.now) words) c.in_err-turns.field-0.0 some (subst (λ n. IsFault (flat_map (item_checks n) (map (λ w. w.now) words)) c.in_err-turns.field-0.0) c.workers.ensures.workers c.in_err-turns.ensures))

pub returns-then-saturating_add-gt-MAX_TURNS : goal.returns-then-saturating_add-gt-MAX_TURNS
returns-then-saturating_add-gt-MAX_TURNS c =
    let words = c.args.arguments.now in
    let filled : 0 < length words = omega (arith, eqb-false (length words) 0 (sym c.is_empty.ensures ∙ c.if-is_empty.false)) in
    let some : nat_lt 0 (length (map (λ w. w.now) words)) ≡ true = rw (length-map words (λ w. w.now)) (lt-ltb 0 (length words) filled) in
    let passes = subst (λ n. first_failing (flat_map (item_checks n) (map (λ w. w.now) words)) ≡ None) c.workers.ensures.workers c.in_ok-turns.ensures.2 in
    let many : length c.in_ok-turns.turns ≡ length (map (λ w. w.now) words) = sym (length-map c.in_ok-turns.turns turn_word) ∙ ap length c.in_ok-turns.ensures.0 in
    let full : nat_le (length c.args.draft.now.plan.schedule + length (map (λ w. w.now) words)) MAX_TURNS ≡ false = lt-leb _ _ (omega (arith, many, c.len.ensures, c.turns.ensures, c.saturating_add.ensures, c.if-saturating_add-gt-MAX_TURNS.true)) in
    turns_pass c.checks_go_in_order.ensures.passes c.args.draft.now (map (λ w. w.now) words) some passes ∙ ap (λ b. cond b None (Some LimitReached)) full
