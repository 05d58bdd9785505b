use Rattle.std.proofs.Common.{[], sym, subst}
use Rattle.atomic_table.specs.Table.{opening}
use Rattle.table_rule.specs.Rule.{Kept}
use Rattle.table_rule.specs.Views.{first_view}
use Rattle.table_words.proofs.Opening.{opens}
use Rattle.table_words.proofs.words.TableWords.new.Goals as goal

pub of_words-requires : goal.of_words-requires
of_words-requires c =
    let k = c.args.begin in
    subst (λ ws. Kept k (opening ws [] (first_view k))) (sym c.as_slice.ensures.value) (opens k c.requires.begin c.in_ok-words.words.items c.in_ok-words.ensures c.history_laws.ensures)
