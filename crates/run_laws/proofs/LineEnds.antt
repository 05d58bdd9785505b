-- How a worker's line ends.
use Rattle.std.proofs.Common.{◌≡◌, ◌⊎◌, inl, inr, ℕ, ◌<◌, List, [], ◌++◌, map, length, All, Some, slice_get, get_or, refl, sym, ap, ◌∙◌, subst, arith, append-nil}
use Rattle.std.specs.Option.{option_map}
use Rattle.std.proofs.lemmas.List.{length-map}
use Rattle.std.proofs.lemmas.Option.{slice_get_within, get_or_from_slice_get, slice_get-map}
use Rattle.script_calls.specs.declared.call.Call.{Call}
use Rattle.sync_types.specs.declared.misuse.Misuse.{Misuse}
use Rattle.script_calls.specs.declared.outcome.Outcome.{Outcome}
use Rattle.script_calls.specs.declared.outcome.Outcome.TheVariants.{Done, Misused, Deadlocked}
use Rattle.script_calls.specs.Outcome.{left_by}
use Rattle.workload.specs.Plan.{Plan}
use Rattle.run_record.specs.Explains.{Explains, Agrees, HasEnded, IsAtEnd}
use Rattle.run_record.specs.Lines.{Line, LineEnd, SpeltCall, Stay, whole, misused, halted, unfinished, stayed, never, stopped, waits, script_of, replies_of, EndsBy}
use Rattle.run_record.specs.Record.{Record, shared_in}
use Rattle.run_laws.proofs.DoneLines.{items_in}
use Rattle.run_laws.proofs.Orderly.{get_at}

pub line_is : (P : Line → Type 0) (lines : List Line) (worker : ℕ) (line : Line) → All P lines → slice_get lines worker ≡ Some line → P line
line_is P lines worker line all at = subst P (get_or_from_slice_get lines worker line line at) (all worker line (slice_get_within lines worker line at))

at_end_ended : (ending : LineEnd) → IsAtEnd ending → HasEnded ending
at_end_ended whole at_end = tt
at_end_ended (stayed never) at_end = tt
at_end_ended (misused misuse) at_end = absurd at_end
at_end_ended (halted misuse) at_end = absurd at_end
at_end_ended unfinished at_end = absurd at_end
at_end_ended (stayed (stopped misuse)) at_end = absurd at_end
at_end_ended (stayed waits) at_end = absurd at_end

pub has_ended : (plan : Plan) (r : Record) (lines : List Line) (outcome : Outcome) → Agrees plan r lines outcome → (worker : ℕ) (line : Line) → slice_get lines worker ≡ Some line → HasEnded line.ending
has_ended plan r lines (Done left) agrees worker line at = at_end_ended line.ending (line_is (λ (l : Line). IsAtEnd l.ending) lines worker line agrees.0 at)
has_ended plan r lines (Misused left misuse) agrees worker line at = line_is (λ (l : Line). HasEnded l.ending) lines worker line agrees.0 at
has_ended plan r lines (Deadlocked left) agrees worker line at = absurd agrees

module _ (plan : Plan) (outcome : Outcome) (r : Record) (explains : Explains plan outcome r) (worker : ℕ) (line : Line) (at : slice_get explains.lines worker ≡ Some line) where
  -- it met a misuse or a halt in a call, or behind its script
  abbrev pub Met : Type 0
  Met = (misuse : Misuse) × ((line.ending ≡ misused misuse) ⊎ (line.ending ≡ halted misuse))

  by_end : (end : LineEnd) → line.ending ≡ end → HasEnded end → EndsBy plan worker (length (shared_in (items_in line.spelt))) end line.rest line.last
      → (line.rest ≡ []) ⊎ (Met ⊎ ((stay : Stay) × (line.ending ≡ stayed stay) × HasEnded (stayed stay)))
  by_end whole is ended ends = inl ends.0
  by_end (misused misuse) is ended ends = inr (inl (misuse, inl is))
  by_end (halted misuse) is ended ends = inr (inl (misuse, inr is))
  by_end unfinished is ended ends = absurd ended
  by_end (stayed stay) is ended ends = inr (inr (stay, is, ended))

  -- nothing is left of its script, or it met such, or it didn't come to its script
  pub how_it_ends : (line.rest ≡ []) ⊎ (Met ⊎ ((stay : Stay) × (line.ending ≡ stayed stay) × HasEnded (stayed stay)))
  how_it_ends = by_end line.ending refl (has_ended plan r explains.lines outcome explains.agrees worker line at) (explains.are.each worker line at).ends

  -- where something is left of the script of one that came to it
  pub met : ((stay : Stay) → line.ending ≡ stayed stay → ⊥) → (line.rest ≡ [] → ⊥) → Met
  met comes some = by_how how_it_ends where
    by_how : (line.rest ≡ []) ⊎ (Met ⊎ ((stay : Stay) × (line.ending ≡ stayed stay) × HasEnded (stayed stay))) → Met
    by_how (inl none) = absurd (some none)
    by_how (inr (inl met)) = met
    by_how (inr (inr (stay, is, ended))) = absurd (comes stay is)

  module _ (scripts : map script_of explains.lines ≡ plan.scripts) where
    script : get_or plan.scripts worker [] ≡ script_of line
    script = get_at plan.scripts worker (script_of line) (ap (λ (l : List (List Call)). slice_get l worker) (sym scripts) ∙ (slice_get-map script_of explains.lines worker ∙ ap (option_map script_of) at))

    -- a script at its end has a reply to each call
    all_replied : line.rest ≡ [] → length (script_of line) ≡ length (replies_of line)
    all_replied none =
        let calls = map (λ (s : SpeltCall). s.call) line.spelt in
        ap length (ap (λ (l : List Call). calls ++ l) none ∙ append-nil calls) ∙ (length-map line.spelt (λ (s : SpeltCall). s.call) ∙ sym (length-map line.spelt (λ (s : SpeltCall). s.reply)))

    pub met_before : ((stay : Stay) → line.ending ≡ stayed stay → ⊥) → get_or (left_by outcome).replies worker [] ≡ replies_of line → length (get_or (left_by outcome).replies worker []) < length (get_or plan.scripts worker [])
        → Met
    met_before comes replied few =
        let in_script = ap length script in
        let in_replies = ap length replied in
        met comes (λ none. let same = all_replied none in omega (arith, few, in_script, in_replies, same))
