-- The texts of the reasons.
use Rattle.std.specs.Prelude.{ℕ, List, codes}
use Rattle.workload.specs.declared.reason.Reason.{Reason}
use Rattle.workload.specs.declared.reason.Reason.TheVariants.{NoWorkersLine, LineTooLong, BadByte, UnknownWord, WrongNumberOfWords, BadName, NameTaken, UnknownName, WrongKind, BadNumber, NoSuchWorker, CallOutsideWorker, LimitReached, InputTooLong, NotDormant}

-- what the program says of a reason
abbrev pub reason_text : Reason → List ℕ
reason_text NoWorkersLine = codes "no workers line"
reason_text LineTooLong = codes "line too long"
reason_text BadByte = codes "bad byte"
reason_text UnknownWord = codes "unknown word"
reason_text WrongNumberOfWords = codes "wrong number of words"
reason_text BadName = codes "bad name"
reason_text NameTaken = codes "name taken"
reason_text UnknownName = codes "unknown name"
reason_text WrongKind = codes "wrong kind"
reason_text BadNumber = codes "bad number"
reason_text NoSuchWorker = codes "no such worker"
reason_text CallOutsideWorker = codes "call outside a worker"
reason_text LimitReached = codes "limit reached"
reason_text InputTooLong = codes "input too long"
reason_text NotDormant = codes "worker not dormant"
