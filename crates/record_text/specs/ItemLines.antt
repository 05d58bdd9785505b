-- The words of an item's line, and which items have one.
use Rattle.std.specs.Prelude.{◌≡◌, ℕ, ◌≤◌, Bool, true, false, ◌&&◌, nat_lt, ◌==◌, List, [], ◌∷◌, length, codes, Option, Some, None, slice_get, get_or}
use Rattle.std.specs.List.{join_with_byte, slice_split}
use Rattle.std.specs.Option.{option_map_or}
use Rattle.std.specs.Fmt.{decimal}
use Rattle.workload.specs.Keys.{keys_in}
use Rattle.workload.specs.Plan.{Plan}
use Rattle.workload_text.specs.ReportLines.{pair_text}
use Rattle.record_text.specs.declared.answer.AnswerWord.{AnswerWord}
use Rattle.record_text.specs.declared.event.EventWord.{EventWord}
use Rattle.record_text.specs.declared.item_line.ItemLine.{ItemLine}
use Rattle.record_text.specs.declared.item_line.PlacedReply.{PlacedReply}
use Rattle.record_text.specs.declared.item_line.PlacedReply.TheVariants as replies
use Rattle.record_text.specs.declared.item_line.Said.{Said}
use Rattle.record_text.specs.declared.item_line.Said.TheVariants.{Call, Begin, Next, Entered}
use Rattle.record_text.specs.declared.limits.TheConstants.{MAX_RECORD_LINE}
use Rattle.record_text.specs.AnswerWords.{answer_word, has_answer, is_answer, truth_word}
use Rattle.record_text.specs.EventWords.{event_word, is_event}
use Rattle.record_text.specs.Journals.{named_in, number_named, word_at}
use Rattle.record_text.specs.Numbers.{front_word, has_64_bits, is_front, is_whole, whole_word}

-- ---- its parts

-- the reply of a call on a map or an atomic: one word, or two
abbrev pub reply_words : PlacedReply → List (List ℕ)
reply_words replies.Done = codes "ok" ∷ []
reply_words replies.Absent = codes "-" ∷ codes "false" ∷ []
reply_words (replies.Valued value was_there) = decimal value ∷ truth_word was_there ∷ []
reply_words (replies.Truth truth) = truth_word truth ∷ []
reply_words (replies.Number number) = whole_word number ∷ []

abbrev pub is_reply : PlacedReply → Bool
is_reply (replies.Valued value was_there) = has_64_bits value
is_reply (replies.Number number) = is_whole number
is_reply reply = true

-- a place in a script, or `-`
abbrev pub index_word : Option ℕ → List ℕ
index_word None = codes "-"
index_word (Some index) = decimal index

abbrev pub is_index : ℕ → Option ℕ → Bool
is_index calls index = option_map_or (λ place. nat_lt place calls) index true

-- what a step of a cursor shows: `K=V`, or `-`
abbrev pub shown_word : List (List ℕ) → Option (ℕ × ℕ) → List ℕ
shown_word keys None = codes "-"
shown_word keys (Some pair) = pair_text keys pair

abbrev pub is_shown : List (List ℕ) → Option (ℕ × ℕ) → Bool
is_shown keys shown = option_map_or (λ pair. nat_lt pair.0 (length keys) && has_64_bits pair.1) shown true

-- the word of the object with a number
abbrev pub object_word : Plan → ℕ → List ℕ
object_word plan object = word_at (named_in plan) object

-- whether the object with a number is the one that its word names: there is such an object, and none before it has the word
abbrev pub is_named : Plan → ℕ → Bool
is_named plan object = option_map_or (λ number. number == object) (number_named (named_in plan) (object_word plan object)) false

-- whether the object's journal may have the event with the answer
abbrev pub may_have : Plan → ℕ → EventWord → AnswerWord → Bool
may_have plan object event answer = option_map_or (λ named. has_answer named.kind event answer) (slice_get (named_in plan) object) false

-- ---- the line

-- the first word of the line
abbrev pub said_word : Said → List ℕ
said_word (Call place reply) = codes "call"
said_word (Begin reach) = codes "begin"
said_word (Next reach shown) = codes "next"
said_word (Entered object number event answer) = codes "event"

-- the words behind the worker and the index, with this word for the front
abbrev pub said_words : Plan → List ℕ → Said → List (List ℕ)
said_words plan front (Call place reply) = decimal place ∷ front ∷ reply_words reply
said_words plan front (Begin reach) = decimal reach ∷ front ∷ []
said_words plan front (Next reach shown) = decimal reach ∷ front ∷ shown_word (keys_in plan.scripts) shown ∷ []
said_words plan front (Entered object number event answer) = object_word plan object ∷ decimal number ∷ front ∷ event_word event ∷ answer_word answer ∷ []

-- the words of a line of these parts
abbrev pub line_words : Plan → (worker : ℕ) → Option ℕ → (front : List ℕ) → Said → List (List ℕ)
line_words plan worker index front said = said_word said ∷ decimal worker ∷ index_word index ∷ said_words plan front said

-- the words of an item's line
abbrev pub item_words : Plan → ItemLine → List (List ℕ)
item_words plan item = line_words plan item.worker item.index (front_word item.front) item.said

-- the bytes of an item's line: its words, with one space between two
abbrev pub item_text : Plan → ItemLine → List ℕ
item_text plan item = join_with_byte 32 (item_words plan item)

-- what is said is in range; an entry is of an object whose kind has the event, with an answer of the event's row
abbrev pub is_said : Plan → Said → Bool
is_said plan (Call place reply) = has_64_bits place && is_reply reply
is_said plan (Begin reach) = has_64_bits reach
is_said plan (Next reach shown) = has_64_bits reach && is_shown (keys_in plan.scripts) shown
is_said plan (Entered object number event answer) =
    is_named plan object && (has_64_bits number && (is_event plan.workers event && (is_answer plan.workers answer && may_have plan object event answer)))

-- the worker is there, and so is the call in its script
abbrev pub is_place : Plan → ℕ → Option ℕ → Bool
is_place plan worker index = nat_lt worker plan.workers && is_index (length (get_or plan.scripts worker [])) index

-- all of an item is in range, and the front has a number for each worker
abbrev pub is_item : Plan → ItemLine → Bool
is_item plan item = is_place plan item.worker item.index && (is_front plan.workers item.front && is_said plan item.said)

-- the words of a line of a record: what stands between its spaces
abbrev pub spaced : List ℕ → List (List ℕ)
spaced line = slice_split (λ byte. byte == 32) line

-- the line says this of an item: its words, with one space between two, are the item's, and it has at most 400 bytes
pub record IsItemLine (plan : Plan) (line : List ℕ) (item : ItemLine) : Type 0 where
  pub short : length line ≤ MAX_RECORD_LINE
  pub fits : is_item plan item ≡ true
  pub words : item_words plan item ≡ spaced line
