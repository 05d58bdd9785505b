use Rattle.std.proofs.Common.{rules, tests, eqb, map, ◌++◌, ap, ◌∙◌}
use Rattle.std.proofs.lemmas.Iterator.Consumers.{YieldsList-from_filter, YieldsList-at}
use Rattle.std.proofs.lemmas.Iterator.Splits.{YieldsList-from_slice_split}
use Rattle.workload.specs.Lines.{is_filled}
use Rattle.workload_text.proofs.ChainLemmas.{from_extended}
use Rattle.workload_text.proofs.text.split_words.Goals as goal

pub returns : goal.returns
returns c =
    from_extended (λ word. word.now) c.extend.result c.extend.ensures.ran
    (YieldsList-from_filter _ is_filled
    (YieldsList-at c.filter.ensures.source
    (YieldsList-from_slice_split _ (λ byte. eqb byte 32) c.args.line.now c.split.ensures.rest c.split.ensures.done c.split.ensures.closure (λ x r q k. search (rules, tests))))
    c.filter.ensures.closure (λ x r q k. search (rules, tests)))
    (λ xs same gives. ap (map (λ word. word.now)) (gives.0 ∙ ap (λ front. front ++ xs) c.clear.ensures.items) ∙ same)
