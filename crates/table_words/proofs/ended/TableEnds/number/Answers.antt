use Rattle.std.proofs.Common.{sym, ap, ◌∙◌, subst, true}
use Rattle.std.specs.Prelude.{◌≡◌, Some}
use Rattle.sync_types.specs.WordLayout.{is_word, number_in}
use Rattle.table_words.specs.EndContents.{words_of}
use Rattle.table_words.specs.EndWords.{number_of}
use Rattle.table_words.proofs.Readings.{numbered, not_numbered}
use Rattle.table_words.proofs.ended.TableEnds.number.Goals as goal

pub returns-in_err-kind : goal.returns-in_err-kind
returns-in_err-kind c = c.from_residual.ensures ∙ sym (not_numbered (number_of c.args.self.now.kinds (words_of c.args.self.now)) c.args.self.now.kinds c.args.atomic (sym c.kind.ensures ∙ c.in_err-kind.was))

pub of_word-requires : goal.of_word-requires
of_word-requires c = subst (λ word. is_word c.in_ok-kind.kind word ≡ true) (sym c.word.ensures) (c.args.self.now.row.numbers c.args.atomic c.in_ok-kind.kind (sym c.kind.ensures ∙ c.in_ok-kind.was))

pub returns : goal.returns
returns c = ap (λ n. Some n) (c.of_word.ensures.number ∙ ap (number_in c.in_ok-kind.kind) c.word.ensures)
    ∙ sym (numbered (number_of c.args.self.now.kinds (words_of c.args.self.now)) c.args.self.now.kinds c.args.atomic c.in_ok-kind.kind (sym c.kind.ensures ∙ c.in_ok-kind.was))
