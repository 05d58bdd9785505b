-- What an atomic step makes of a word.
use Rattle.std.specs.Prelude.{ℕ, ◌+◌, ◌%◌, ◌^◌, ◌==◌, cond, bit_and, bit_or}
use Rattle.table_rule.specs.declared.word_step.WordStep.{WordStep}
use Rattle.table_rule.specs.declared.word_step.WordStep.TheVariants.{Load, Swap, Add, And, Or, CompareExchange}

abbrev pub word_after : WordStep → ℕ → ℕ
word_after Load word = word
word_after (Swap new) word = new
word_after (Add operand) word = (word + operand) % 2 ^ 64
word_after (And operand) word = bit_and word operand
word_after (Or operand) word = bit_or word operand
word_after (CompareExchange old new) word = cond (word == old) new word
