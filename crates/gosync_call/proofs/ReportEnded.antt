-- A report is its lines, each with its line feed.
use Rattle.std.proofs.Common.{◌≡◌, ℕ, ◌+◌, Bool, true, cond, List, [], ◌∷◌, ◌++◌, codes, drop, slice_get, refl, ap, ◌∙◌}
use Rattle.std.specs.Fmt.{decimal}
use Rattle.script_calls.specs.declared.call.Call.{Call}
use Rattle.script_calls.specs.declared.call.Reply.{Reply}
use Rattle.script_calls.specs.declared.outcome.Outcome.{Outcome}
use Rattle.script_calls.specs.Outcome.{left_by}
use Rattle.script_calls.specs.Runs.{passed_over}
use Rattle.sync_types.specs.declared.end.End.{End}
use Rattle.sync_types.specs.declared.end.End.TheVariants.{Number, Pair}
use Rattle.workload.specs.Canonical.{behind_spaces, name_of}
use Rattle.workload.specs.Keys.{key_name, keys_in}
use Rattle.workload.specs.Lines.{lines_of}
use Rattle.workload.specs.NumberWords.{number_word}
use Rattle.workload.specs.Plan.{Plan}
use Rattle.workload_text.specs.ReportLines.{call_words, completed_line, end_line, reply_text}
use Rattle.run_report.specs.ReportText.{calls_text, ends_text, outcome_ends, report_text, workers_text}
use Rattle.record_text.specs.Told.{joined}
use Rattle.run_check.specs.Rest.{is_ended}
use Rattle.run_check.proofs.EndedText.{joined_lines}

-- the text ends with a line feed
abbrev IsFed : List ℕ → Type 0
IsFed text = (front : List ℕ) × (text ≡ front ++ 10 ∷ [])

last_feed : (front : List ℕ) → is_ended (front ++ 10 ∷ []) ≡ true
last_feed [] = refl
last_feed (byte ∷ []) = refl
last_feed (byte ∷ (next ∷ front)) = last_feed (next ∷ front)

fed_ended : (text : List ℕ) → IsFed text → is_ended text ≡ true
fed_ended text (front, is) = ap is_ended is ∙ last_feed front

both_ended : (text more : List ℕ) → is_ended text ≡ true → is_ended more ≡ true → is_ended (text ++ more) ≡ true
both_ended [] more one other = other
both_ended (byte ∷ []) [] one other = one
both_ended (byte ∷ []) (next ∷ more) one other = other
both_ended (byte ∷ (next ∷ text)) more one other = both_ended (next ∷ text) more one other

completed_ended : (plan : Plan) (worker place : ℕ) (call : Call) (reply : Reply ℕ) → is_ended (completed_line plan worker place call reply) ≡ true
completed_ended plan worker place call reply =
    fed_ended (completed_line plan worker place call reply)
    (decimal worker ++ codes "." ++ decimal place ++ behind_spaces (call_words plan.objects call) ++ codes " -> " ++ reply_text (keys_in plan.scripts) reply, refl)

end_ended : (plan : Plan) (end : End) → is_ended (end_line plan end) ≡ true
end_ended plan (Number object number) =
    fed_ended (end_line plan (Number object number)) (codes "end" ++ behind_spaces (name_of (slice_get plan.objects object) ∷ number_word number ∷ []), refl)
end_ended plan (Pair object key value) =
    fed_ended (end_line plan (Pair object key value)) (codes "end" ++ behind_spaces (name_of (slice_get plan.objects object) ∷ key_name (keys_in plan.scripts) key ∷ decimal value ∷ []), refl)

calls_ended : (plan : Plan) (worker place : ℕ) (script : List Call) (replies : List (Reply ℕ)) → is_ended (calls_text plan worker place script replies) ≡ true
calls_ended plan worker place script [] = refl
calls_ended plan worker place [] (reply ∷ replies) = refl
calls_ended plan worker place (call ∷ script) (reply ∷ replies) =
    both_ended (completed_line plan worker place call reply) _ (completed_ended plan worker place call reply) (calls_ended plan worker (place + 1 + passed_over call reply) (drop (passed_over call reply) script) replies)

workers_ended : (plan : Plan) (worker : ℕ) (scripts : List (List Call)) (replies : List (List (Reply ℕ))) → is_ended (workers_text plan worker scripts replies) ≡ true
workers_ended plan worker [] replies = refl
workers_ended plan worker (script ∷ scripts) [] = refl
workers_ended plan worker (script ∷ scripts) (replies ∷ rest) = both_ended (calls_text plan worker 0 script replies) _ (calls_ended plan worker 0 script replies) (workers_ended plan (worker + 1) scripts rest)

ends_ended : (plan : Plan) (ends : List End) → is_ended (ends_text plan ends) ≡ true
ends_ended plan [] = refl
ends_ended plan (end ∷ ends) = both_ended (end_line plan end) (ends_text plan ends) (end_ended plan end) (ends_ended plan ends)

report_ended : (plan : Plan) (outcome : Outcome) → is_ended (report_text plan outcome) ≡ true
report_ended plan outcome = both_ended (workers_text plan 0 plan.scripts (left_by outcome).replies) (ends_text plan (outcome_ends outcome)) (workers_ended plan 0 plan.scripts (left_by outcome).replies) (ends_ended plan (outcome_ends outcome))

pub report_joined : (plan : Plan) (outcome : Outcome) → joined (lines_of (report_text plan outcome)) ≡ report_text plan outcome
report_joined plan outcome =
    let text = report_text plan outcome in
    joined_lines text ∙ ap (λ (b : Bool). cond b text (text ++ 10 ∷ [])) (report_ended plan outcome)
