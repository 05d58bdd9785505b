use Rattle.std.proofs.Common.{rules, ℕ}
use Rattle.std.proofs.lemmas.List.Sorted.{IsNonDecreasingBy-from_sort_by_key}
use Rattle.table_words.proofs.pairs.sort_by_key.Goals as goal

pub returns-clause-rise : goal.returns-clause-rise
returns-clause-rise c = IsNonDecreasingBy-from_sort_by_key (λ (pair : ℕ × ℕ). pair.0) _ c.sort_unstable_by_key.ensures.sorted (λ a r q k. search rules)
