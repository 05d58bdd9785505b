-- That each reply has the form of its call's replies.
use Rattle.std.specs.Prelude.{Bool, true, false, ◌&&◌, List, [], ◌∷◌}
use Rattle.script_calls.specs.Outcome.{left_by}
use Rattle.script_calls.specs.Replies.{is_reply_to}
use Rattle.script_calls.specs.Runs.{made_of}
use Rattle.script_calls.specs.declared.call.Call.{Call}
use Rattle.script_calls.specs.declared.call.Reply.{Reply}
use Rattle.script_calls.specs.declared.outcome.Outcome.{Outcome}
use Rattle.workload.specs.Plan.{Plan}

-- the replies are to the first of these calls, one each
abbrev pub have_forms : {K : Type 0} → List Call → List (Reply K) → Bool
have_forms [] [] = true
have_forms (call ∷ calls) [] = true
have_forms [] (reply ∷ replies) = false
have_forms (call ∷ calls) (reply ∷ replies) = is_reply_to call.operation reply && have_forms calls replies

-- those of the first workers are to the calls that they made of their scripts
abbrev pub all_have_forms : {K : Type 0} → List (List Call) → List (List (Reply K)) → Bool
all_have_forms [] [] = true
all_have_forms (script ∷ scripts) [] = true
all_have_forms [] (replies ∷ others) = false
all_have_forms (script ∷ scripts) (replies ∷ others) = have_forms (made_of script replies) replies && all_have_forms scripts others

-- the replies that a run of a plan leaves behind
abbrev pub has_forms : Plan → Outcome → Bool
has_forms plan outcome = all_have_forms plan.scripts (left_by outcome).replies
