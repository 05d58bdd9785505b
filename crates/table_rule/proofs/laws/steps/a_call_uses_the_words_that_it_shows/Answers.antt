use Rattle.std.proofs.Common.{ℕ, List, ap, ◌∙◌}
use Rattle.table_rule.specs.declared.view.Own.{Own}
use Rattle.table_rule.specs.declared.view.View.{View}
use Rattle.table_rule.specs.Views.{next_in, paid, with_item}
use Rattle.table_rule.proofs.laws.steps.a_call_uses_the_words_that_it_shows.Goals as goal

pub returns-clause-write : goal.returns-clause-write
returns-clause-write c = λ m call words l own owns before after costs locked is published.
    let makes = published.1 l locked in
    ap (λ (v : View). next_in 0 v.owns) makes.is
    ∙ ap (λ (n : ℕ). next_in 0 (paid n words (with_item before.0.owns makes.item makes.time))) costs
    ∙ ap (λ (os : List Own). next_in 0 (paid 1 words (with_item os makes.item makes.time))) is

pub returns-clause-clear : goal.returns-clause-clear
returns-clause-clear c = λ m own owns before after is told.
    let made = told.1.2 in
    ap (λ (v : View). next_in 0 v.owns) made.is ∙ ap (λ (os : List Own). next_in 0 (paid 1 18 (with_item os made.item made.time))) is
