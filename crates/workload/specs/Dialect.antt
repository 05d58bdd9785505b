-- Which words a text may have. Those of plain variables stand in race texts alone, those of weighted semaphores and flights in the texts of `step` and `run`.
use Rattle.std.specs.Prelude.{ℕ, Bool, true, false, ◌&&◌, not, cond, List, Option, Some, None}
use Rattle.std.specs.List.{list_any}
use Rattle.workload.specs.declared.keyword.Dialect.{Dialect}
use Rattle.workload.specs.declared.keyword.Dialect.TheVariants.{Plain, Runs, Races}
use Rattle.workload.specs.declared.keyword.Keyword.{Keyword}
use Rattle.workload.specs.declared.keyword.Keyword.TheVariants as keywords
use Rattle.workload.specs.declared.keyword.Verb.TheVariants as verbs
use Rattle.workload.specs.declared.object.ObjectKind.{ObjectKind}
use Rattle.workload.specs.declared.object.ObjectKind.TheVariants as kinds
use Rattle.workload.specs.declared.object.ObjectWord.TheVariants as words
use Rattle.workload.specs.KeywordWords.{keyword_at}
use Rattle.workload.specs.Plan.{Plan}

-- whether a keyword is one of plain variables
abbrev pub is_variable_word : Keyword → Bool
is_variable_word (keywords.Object words.Var) = true
is_variable_word (keywords.Call verbs.Read) = true
is_variable_word (keywords.Call verbs.Write) = true
is_variable_word keyword = false

-- whether it is one of the kinds of `golang.org/x/sync`: of weighted semaphores and of flights
abbrev pub is_x_sync_word : Keyword → Bool
is_x_sync_word (keywords.Object words.Sema) = true
is_x_sync_word (keywords.Object words.Flight) = true
is_x_sync_word (keywords.Call verbs.Acquire) = true
is_x_sync_word (keywords.Call verbs.TryAcquire) = true
is_x_sync_word (keywords.Call verbs.Release) = true
is_x_sync_word (keywords.Call verbs.Fly) = true
is_x_sync_word keyword = false

-- whether a text of this dialect may have a line that begins so
abbrev pub knows : Dialect → Keyword → Bool
knows Plain keyword = not (is_variable_word keyword) && not (is_x_sync_word keyword)
knows Runs keyword = not (is_variable_word keyword)
knows Races keyword = not (is_x_sync_word keyword)

abbrev pub if_known : Dialect → Option Keyword → Option Keyword
if_known dialect None = None
if_known dialect (Some keyword) = cond (knows dialect keyword) (Some keyword) None

-- the keyword that a word is in a text of this dialect, if it is one there
abbrev pub keyword_in : Dialect → List ℕ → Option Keyword
keyword_in dialect word = if_known dialect (keyword_at word)

-- whether an object is a plain variable
abbrev pub is_variable : ObjectKind → Bool
is_variable kinds.Var = true
is_variable kind = false

-- whether a workload has one
abbrev pub has_variables : Plan → Bool
has_variables plan = list_any (λ object. is_variable object.kind) plan.objects

-- whether an object is a weighted semaphore or a group of flights
abbrev pub is_x_sync : ObjectKind → Bool
is_x_sync (kinds.Sema size) = true
is_x_sync (kinds.Flight atomic delta) = true
is_x_sync kind = false

-- whether a workload has one
abbrev pub has_x_sync : Plan → Bool
has_x_sync plan = list_any (λ object. is_x_sync object.kind) plan.objects

-- whether no text of a record tells of an object: of a plain variable, a weighted semaphore and a group of flights
abbrev pub is_unrecorded : ObjectKind → Bool
is_unrecorded kinds.Var = true
is_unrecorded (kinds.Sema size) = true
is_unrecorded (kinds.Flight atomic delta) = true
is_unrecorded kind = false

-- whether a workload has one
abbrev pub has_unrecorded : Plan → Bool
has_unrecorded plan = list_any (λ object. is_unrecorded object.kind) plan.objects
