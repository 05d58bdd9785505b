use Rattle.std.proofs.Common.{◌≡◌, ◌⊎◌, inl, inr, ℕ, List, [], get_or, sym, ap, ◌∙◌}
use Rattle.script_calls.specs.declared.call.Call.{Call}
use Rattle.script_calls.specs.declared.call.Reply.{Reply}
use Rattle.script_calls.specs.Outcome.{left_by}
use Rattle.script_calls.specs.Runs.{left_of}
use Rattle.sync_types.specs.declared.misuse.Misuse.{Misuse}
use Rattle.run_record.specs.Explains.{HasEnded}
use Rattle.run_record.specs.Lines.{Stay, misused, halted, stayed, never, stopped, waits, replies_of}
use Rattle.run_laws.proofs.LineEnds.{Met, how_it_ends, met, met_before}
use Rattle.run_laws.proofs.endings.each_worker_has_ended.Goals as goal

pub returns-clause-left : goal.returns-clause-left
returns-clause-left c plan outcome r explains worker line live at some =
    let script = get_or plan.scripts worker [] in
    met plan outcome r explains worker line at (λ stay. c.who_does_not_wait_comes_to_its_script.ensures.comes plan worker line stay live (explains.are.each worker line at))
    (λ none. some (ap (λ (l : List (Reply ℕ)). left_of script l) (c.replies_tell_which_calls_were_made.ensures.given plan r outcome explains.lines worker line explains.are at)
    ∙ (sym (c.replies_tell_which_calls_were_made.ensures.left plan r outcome explains.lines worker line explains.are at) ∙ none)))

pub returns-clause-fewer : goal.returns-clause-fewer
returns-clause-fewer c plan outcome r no_tests explains worker line live at few =
    let spelt = (c.scripts_without_tests_are_spelt_call_by_call.ensures plan r outcome explains.lines no_tests).0 explains.are in
    met_before plan outcome r explains worker line at spelt.scripts (λ stay. c.who_does_not_wait_comes_to_its_script.ensures.comes plan worker line stay live (explains.are.each worker line at))
    (c.replies_tell_which_calls_were_made.ensures.given plan r outcome explains.lines worker line explains.are at) few

pub returns-clause-stayed : goal.returns-clause-stayed
returns-clause-stayed c plan outcome r explains worker line at = by_how (how_it_ends plan outcome r explains worker line at) where
  script : List Call
  script = get_or plan.scripts worker []

  replies : List (Reply ℕ)
  replies = get_or (left_by outcome).replies worker []

  given : replies ≡ replies_of line
  given = c.replies_tell_which_calls_were_made.ensures.given plan r outcome explains.lines worker line explains.are at

  by_stay : (stay : Stay) → line.ending ≡ stayed stay → HasEnded (stayed stay)
      → ((misuse : Misuse) × ((line.ending ≡ misused misuse) ⊎ (line.ending ≡ halted misuse) ⊎ (line.ending ≡ stayed (stopped misuse)))) ⊎ ((line.ending ≡ stayed never) × (replies ≡ []))
  by_stay never is ended = inr (is, given ∙ c.nobody_who_was_not_started_makes_a_call.ensures.replies plan worker line never (explains.are.each worker line at) is)
  by_stay (stopped misuse) is ended = inl (misuse, inr (inr is))
  by_stay waits is ended = absurd ended

  by_how : (line.rest ≡ []) ⊎ (Met plan outcome r explains worker line at ⊎ ((stay : Stay) × (line.ending ≡ stayed stay) × HasEnded (stayed stay)))
      → (left_of script replies ≡ []) ⊎ ((misuse : Misuse) × ((line.ending ≡ misused misuse) ⊎ (line.ending ≡ halted misuse) ⊎ (line.ending ≡ stayed (stopped misuse)))) ⊎ ((line.ending ≡ stayed never) × (replies ≡ []))
  by_how (inl none) = inl (ap (λ (l : List (Reply ℕ)). left_of script l) given ∙ (sym (c.replies_tell_which_calls_were_made.ensures.left plan r outcome explains.lines worker line explains.are at) ∙ none))
  by_how (inr (inl (misuse, inl is))) = inr (inl (misuse, inl is))
  by_how (inr (inl (misuse, inr is))) = inr (inl (misuse, inr (inl is)))
  by_how (inr (inr (stay, is, ended))) = inr (by_stay stay is ended)
