use Rattle.std.proofs.Common.{◌≡◌, ◌∷◌, [], length, map, sym, ap, ◌∙◌, arith}
use Rattle.std.proofs.lemmas.Bool.{not-false}
use Rattle.std.proofs.lemmas.Slice.Eq.{bytes_eq-Decides}
use Rattle.workload.specs.declared.keyword.Keyword.TheVariants as keywords
use Rattle.workload.specs.KeywordWords.{keyword_word}
use Rattle.workload_text.proofs.CheckLemmas.{one_item}
use Rattle.workload_text.proofs.reading.read_workers.Goals as goal

pub returns-in-Some : goal.returns-in-Some
returns-in-Some c =
    let one : length c.args.arguments.now ≡ 1 = omega arith in
    let is = one_item c.args.arguments.now (record { ref_ptr = (0, 0); now = [] }) one in
    let word = (bytes_eq-Decides c.args.word.now _).0 (not-false _ (sym c.if-ne.ensures)) ∙ c.text.ensures in
    let number = ap (map (λ w. w.now)) is ∙ ap (λ w. w ∷ []) (sym c.in-Some.ensures.spelled) in (
      c.if-workers-gt0.true,
      c.in-Some.ensures.value.1,
      ap (λ w. w ∷ map (λ w. w.now) c.args.arguments.now) word ∙ ap (λ ws. keyword_word keywords.Workers ∷ ws) number,
    )
