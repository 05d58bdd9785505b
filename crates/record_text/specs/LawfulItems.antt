-- What an item of a record's lists needs for its line.
use Rattle.std.specs.Prelude.{◌≡◌, ℕ, ◌^◌, Bool, true, ◌&&◌, Some, slice_get}
use Rattle.std.specs.Option.{option_map_or}
use Rattle.run_record.specs.declared.made.Made.{Made}
use Rattle.run_record.specs.declared.made.Made.TheVariants as made
use Rattle.run_record.specs.Record.{Record, journal_of}
use Rattle.record_text.specs.declared.item_line.Said.{Said}
use Rattle.record_text.specs.declared.item_line.Said.TheVariants.{Call, Begin, Next, Entered}
use Rattle.record_text.specs.AnswerWords.{is_answer}
use Rattle.record_text.specs.EventWords.{is_event}
use Rattle.record_text.specs.ItemLines.{is_reply}
use Rattle.record_text.specs.Numbers.{has_64_bits}

-- all numbers of what is said have 64 bits, as those of a program have
abbrev pub has_numbers : Said → Bool
has_numbers (Call place reply) = has_64_bits place && is_reply reply
has_numbers (Begin reach) = has_64_bits reach
has_numbers (Next reach shown) = has_64_bits reach && option_map_or (λ pair. has_64_bits pair.1) shown true
has_numbers (Entered object number event answer) = has_64_bits number && (is_event (2 ^ 64) event && is_answer (2 ^ 64) answer)

-- an entry has this number in its object's journal
abbrev pub IsNumbered : Record → ℕ → Made → Type 0
IsNumbered r number (made.Shared item) = Unit {0}
IsNumbered r number (made.Entered object entry) = slice_get (journal_of r object) number ≡ Some entry
