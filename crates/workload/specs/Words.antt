-- How the lines of a text are spelled, as words.
use Rattle.std.specs.Prelude.{ℕ, List, [], ◌∷◌, ◌++◌, map}
use Rattle.std.specs.Option.{option_to_list}
use Rattle.std.specs.Fmt.{decimal, signed_decimal}
use Rattle.workload.specs.declared.keyword.Keyword.{Keyword}
use Rattle.workload.specs.declared.keyword.Keyword.TheVariants as keywords
use Rattle.workload.specs.declared.object.ObjectKind.{ObjectKind}
use Rattle.workload.specs.declared.object.ObjectKind.TheVariants as kinds
use Rattle.workload.specs.declared.line.Line.{Line}
use Rattle.workload.specs.declared.line.Line.TheVariants as lines
use Rattle.workload.specs.declared.turn.Turn.{Turn}
use Rattle.workload.specs.declared.turn.Turn.TheVariants as turns
use Rattle.workload.specs.Plan.{word_of}
use Rattle.workload.specs.KeywordWords.{keyword_word}
use Rattle.workload.specs.CallWords.{verb_of, operands_of}

-- the numbers of an object's line, in order
abbrev pub kind_parameters : ObjectKind → List (List ℕ)
kind_parameters (kinds.WaitGroup start) = decimal start ∷ []
kind_parameters (kinds.Once atomic delta) = signed_decimal delta ∷ []
kind_parameters (kinds.Sema size) = decimal size ∷ []
kind_parameters (kinds.Flight atomic delta) = signed_decimal delta ∷ []
kind_parameters (kinds.OnceFunc code) = decimal code ∷ []
kind_parameters (kinds.OnceValue value) = decimal value ∷ []
kind_parameters kind = []

-- an item of a schedule: a worker's number, or a moment behind an `@`
abbrev pub turn_word : Turn → List ℕ
turn_word (turns.Worker worker) = decimal worker
turn_word (turns.Moment moment) = 64 ∷ decimal moment

-- the keyword that a line begins with
abbrev pub keyword_of : Line → Keyword
keyword_of (lines.Object object reference) = keywords.Object (word_of object.kind)
keyword_of (lines.Dormant worker) = keywords.Dormant
keyword_of (lines.Worker worker) = keywords.Worker
keyword_of (lines.Schedule schedule) = keywords.Schedule
keyword_of (lines.Call name second call) = keywords.Call (verb_of call.operation)

-- the words of a line behind the first one
abbrev pub arguments_of : Line → List (List ℕ)
arguments_of (lines.Object object reference) = object.name ∷ option_to_list reference ++ kind_parameters object.kind
arguments_of (lines.Dormant worker) = decimal worker ∷ []
arguments_of (lines.Worker worker) = decimal worker ∷ []
arguments_of (lines.Schedule schedule) = map turn_word schedule
arguments_of (lines.Call name second call) = name ∷ option_to_list second ++ operands_of call.operation

-- the one spelling of a line
abbrev pub spelled : Line → List (List ℕ)
spelled line = keyword_word (keyword_of line) ∷ arguments_of line

-- the spelling of the first line
abbrev pub first_spelled : ℕ → List (List ℕ)
first_spelled workers = keyword_word keywords.Workers ∷ decimal workers ∷ []
