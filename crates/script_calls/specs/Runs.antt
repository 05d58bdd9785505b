-- A run of a script: which of its calls are made, by what those before them were answered.
use Rattle.std.specs.Prelude.{◌≡◌, ℕ, ◌+◌, Bool, true, false, not, cond, List, [], ◌∷◌, drop}
use Rattle.std.specs.List.{list_any}
use Rattle.sync_types.specs.declared.atomic_object.AtomicReply.TheVariants.{Compared}
use Rattle.script_calls.specs.declared.call.Call.{Call}
use Rattle.script_calls.specs.declared.call.ComposedCall.TheVariants.{IfEqual}
use Rattle.script_calls.specs.declared.call.Operation.{Operation}
use Rattle.script_calls.specs.declared.call.Operation.TheVariants as operations
use Rattle.script_calls.specs.declared.call.Reply.{Reply}
use Rattle.script_calls.specs.declared.call.Reply.TheVariants as replies

-- whether a reply says that two numbers differ
abbrev pub says_no : {K : Type 0} → Reply K → Bool
says_no (replies.Atomic (Compared equal)) = not equal
says_no reply = false

-- how many of the next calls an operation passes over, where it is answered so
abbrev pub passes_of : Operation → ℕ
passes_of (operations.Composed (IfEqual value passes)) = passes
passes_of operation = 0

-- how many of the next calls are passed over behind a call with this reply
abbrev pub passed_over : {K : Type 0} → Call → Reply K → ℕ
passed_over call reply = cond (says_no reply) (passes_of call.operation) 0

-- whether an operation may pass calls over
abbrev pub is_test_operation : Operation → Bool
is_test_operation (operations.Composed (IfEqual value passes)) = true
is_test_operation operation = false

-- whether a call may pass others over
abbrev pub is_test : Call → Bool
is_test call = is_test_operation call.operation

-- whether a script has such a call
abbrev pub has_test : List Call → Bool
has_test script = list_any is_test script

-- whether one of these scripts has
abbrev pub have_tests : List (List Call) → Bool
have_tests scripts = list_any has_test scripts

module _ {K : Type 0} where
  -- what is left of a script behind its completed calls, which were answered so
  abbrev pub left_of : List Call → List (Reply K) → List Call
  left_of script [] = script
  left_of [] (reply ∷ given) = []
  left_of (call ∷ script) (reply ∷ given) = left_of (drop (passed_over call reply) script) given

  -- the calls that were answered so, in order
  abbrev pub made_of : List Call → List (Reply K) → List Call
  made_of script [] = []
  made_of [] (reply ∷ given) = []
  made_of (call ∷ script) (reply ∷ given) = call ∷ made_of (drop (passed_over call reply) script) given

  -- their places in the script, which is from this place on
  abbrev pub places_from : ℕ → List Call → List (Reply K) → List ℕ
  places_from place script [] = []
  places_from place [] (reply ∷ given) = []
  places_from place (call ∷ script) (reply ∷ given) = place ∷ places_from (place + 1 + passed_over call reply) (drop (passed_over call reply) script) given

  -- The calls were made along the script, each with its answer, and this is left of it: each was the next one when it was made, and those that it passes over are left out
  abbrev pub RunsAlong : List Call → List (Call × Reply K) → List Call → Type 0
  RunsAlong script [] rest = rest ≡ script
  RunsAlong script (made ∷ later) rest = (behind : List Call) × (script ≡ made.0 ∷ behind) × RunsAlong (drop (passed_over made.0 made.1) behind) later rest
