use Rattle.std.proofs.Common.{◌≡◌, true, bit_and, ap, subst, ◌∙◌}
use Rattle.sync_types.specs.WordLayout.{is_word}
use Rattle.sync_types.specs.SequentialAtomic.{kind_of}
use Rattle.sync_types.proofs.WordLemmas.{is_word-bitwise, and_bitwise, both_word}
use Rattle.sync_types.proofs.word.and_word.Goals as goal

pub returns-clause-next : goal.returns-clause-next
returns-clause-next c =
    let operand = subst (λ w. is_word (kind_of c.args.operand) w ≡ true) c.to_word.ensures.word c.to_word.ensures.is_word in
    ap (bit_and c.args.word) c.to_word.ensures.word
    ∙ both_word c.args.kind c.args.word c.args.operand c.requires.has_bits c.requires.word c.requires.operand operand

pub returns-clause-is_word : goal.returns-clause-is_word
returns-clause-is_word c =
    is_word-bitwise and_bitwise c.args.kind c.args.word c.to_word.result c.requires.has_bits c.requires.word
    (subst (λ kind. is_word kind c.to_word.result ≡ true) c.requires.operand c.to_word.ensures.is_word)
