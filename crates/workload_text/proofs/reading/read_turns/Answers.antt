use Rattle.std.proofs.Common.{refl, add-one, [], ◌∷◌, ◌++◌, suc, map, drop, get_or, sym, ap, ◌∙◌}
use Rattle.std.specs.List.{flat_map}
use Rattle.std.proofs.Math.Seq.{drop-cons}
use Rattle.std.proofs.lemmas.List.Folds.{list_all-append}
use Rattle.std.proofs.lemmas.Result.{err_from_is_err_and}
use Rattle.workload.specs.Checks.{first_failing, item_checks}
use Rattle.workload_text.proofs.CheckLemmas.{items_fault, turns_more}
use Rattle.workload.specs.Words.{turn_word}
use Rattle.workload.specs.Draft.{is_item}
use Rattle.workload_text.proofs.reading.read_turns.Goals as goal

pub returns-in_err-read_turn : goal.returns-in_err-read_turn
returns-in_err-read_turn c =
    let p = err_from_is_err_and c.from_residual.result c.from_residual.ensures.1 in
    let words = c.args.words.now in
    let i = c.loop-word.word-index in
    let word = get_or words i (record { ref_ptr = (0, 0); now = [] }) in
    let next = drop-cons words i (record { ref_ptr = (0, 0); now = [] }) c.loop-word-test.true in
    let same = sym (ap (λ ws. first_failing (flat_map (item_checks c.args.workers) (map (λ w. w.now) ws))) next) ∙ c.loop-word.invariant.2 in
    rw (p.1, p.2) (items_fault c.checks_go_in_order.ensures.fails c.args.workers word.now (map (λ w. w.now) (drop (suc i) words)) (map (λ w. w.now) words) _ same c.in_err-read_turn.ensures)

pub loop-word-preserved : goal.loop-word-preserved
loop-word-preserved c =
    let words = c.args.words.now in
    let i = c.loop-word.word-index in
    let word = get_or words i (record { ref_ptr = (0, 0); now = [] }) in
    let turn = c.in_ok-read_turn.field-0 in
    let next = drop-cons words i (record { ref_ptr = (0, 0); now = [] }) c.loop-word-test.true in
    let here = c.loop-word.invariant in
    let rest = map (λ w. w.now) (drop (suc i) words) in
    let so_far = ap (λ ws. map turn_word c.loop-word.turns ++ map (λ w. w.now) ws) (sym next) ∙ here.0 in
    let same = sym (ap (λ ws. first_failing (flat_map (item_checks c.args.workers) (map (λ w. w.now) ws))) next) ∙ here.2 in
    rw (add-one, c.in_ok-push.ensures.ok) (
      turns_more c.loop-word.turns turn word.now rest (map (λ w. w.now) words) c.in_ok-read_turn.ensures.0 so_far,
      rw (list_all-append (is_item c.args.workers) c.loop-word.turns (turn ∷ []), here.1, c.in_ok-read_turn.ensures.1) refl,
      sym (c.checks_go_in_order.ensures.passes (item_checks c.args.workers word.now) (flat_map (item_checks c.args.workers) rest) c.in_ok-read_turn.ensures.2) ∙ same,
    )
