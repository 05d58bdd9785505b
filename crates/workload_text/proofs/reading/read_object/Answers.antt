use Rattle.std.proofs.Common.{rules, ◌≡◌, eqb, true, false, ◌∷◌, map, length, sym, ap, subst, ◌∙◌}
use Rattle.std.specs.Prelude.{is_some}
use Rattle.std.proofs.lemmas.Bool.{eq-eqb}
use Rattle.std.proofs.lemmas.List.{length-map}
use Rattle.std.proofs.lemmas.Result.{err_from_is_err_and}
use Rattle.workload.specs.Checks.{declaration_checks, parameters_of}
use Rattle.workload.specs.Draft.{declared}
use Rattle.workload_text.specs.LineResult.{IsFault}
use Rattle.workload_text.proofs.CheckLemmas.{object_fails, object_full}
use Rattle.workload_text.proofs.reading.read_object.Goals as goal

pub returns-in_err-kind : goal.returns-in_err-kind
returns-in_err-kind c =
    let p = err_from_is_err_and c.from_residual-in_err-kind.result c.from_residual-in_err-kind.ensures.1 in
    let words = c.in-Some.words.now in
    let name = c.in-Some.name.now.now in
    let front : map (λ w. w.now) c.args.arguments.now ≡ name ∷ map (λ w. w.now) words = search rules in
    let count : eqb (length (map (λ w. w.now) words)) (length (parameters_of c.args.word)) ≡ true = eq-eqb (length (map (λ w. w.now) words)) (length (parameters_of c.args.word)) (length-map words (λ w. w.now) ∙ c.if-words-parameter_count.false ∙ c.parameter_count.ensures) in
    let new : is_some (declared c.args.draft.now name) ≡ false = ap is_some (sym c.declared.ensures) ∙ sym c.is_some.ensures ∙ c.if-is_some.false in
    rw (p.1, p.2) (subst (λ ws. IsFault (declaration_checks c.args.draft.now c.args.word ws) c.in_err-kind.field-0.0) (sym front) (object_fails c.checks_go_in_order.ensures.fails c.args.draft.now c.args.word name (map (λ w. w.now) words) c.in_err-kind.field-0.0 count c.in_ok-object.ensures.0 new c.in_err-kind.ensures))

pub returns-then-not-has_room_for : goal.returns-then-not-has_room_for
returns-then-not-has_room_for c = search (rules, object_full)
