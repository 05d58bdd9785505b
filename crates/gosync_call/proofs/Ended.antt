-- What is left of each worker where a run is done.
use Rattle.std.proofs.Common.{◌≡◌, ◌∙◌, ℕ, zero, suc, Bool, true, false, List, [], ◌∷◌, length, get_or, map, Option, Some, None, inl, inr, refl, sym, ap}
use Rattle.std.specs.Prelude.{◌≢◌, option_map, slice_get}
use Rattle.std.proofs.lemmas.Option.{slice_get-map}
use Rattle.script_calls.specs.Runs.{have_tests, left_of}
use Rattle.script_calls.specs.declared.call.Reply.{Reply}
use Rattle.script_calls.specs.declared.outcome.Outcome.TheVariants as outcomes
use Rattle.script_calls.specs.declared.outcome.Report.{Report}
use Rattle.workload.specs.Plan.{Plan, is_dormant, has_dormant}
use Rattle.run_record.specs.Explains.{Explains}
use Rattle.run_record.specs.Lines.{Line, LineEnd, whole, misused, halted, unfinished, stayed, never, stopped, waits, replies_of}
use Rattle.run_record.specs.Record.{Record}
use Rattle.gosync_call.specs.Headline.{HasEnded, WorkerEnded}

-- nothing is there where no item is
nothing_there : {X : Type 0} (xs : List (List X)) (i : ℕ) → slice_get xs i ≡ None → get_or xs i [] ≡ []
nothing_there [] i none = refl
nothing_there (x ∷ xs) zero none = absurd cc
nothing_there (x ∷ xs) (suc i) none = nothing_there xs i none

module _ (plan : Plan) (left : Report) (r : Record) (explains : Explains plan (outcomes.Done left) r)
    (runs : (worker : ℕ) → is_dormant plan worker ≡ false → left_of (get_or plan.scripts worker []) (get_or left.replies worker []) ≡ [])
    (started : (worker : ℕ) (line : Line) → slice_get explains.lines worker ≡ Some line → line.ending ≢ stayed never → left_of (get_or plan.scripts worker []) (get_or left.replies worker []) ≡ [])
    (unstarted : (worker : ℕ) (line : Line) → slice_get explains.lines worker ≡ Some line → line.ending ≡ stayed never → get_or left.replies worker [] ≡ [])
    (all : have_tests plan.scripts ≡ false → has_dormant plan ≡ false → map length left.replies ≡ map length plan.scripts) where
  by_ending : (worker : ℕ) (line : Line) → is_dormant plan worker ≡ true → slice_get explains.lines worker ≡ Some line → (ending : LineEnd) → line.ending ≡ ending → WorkerEnded plan left worker
  by_ending worker line dormant has whole is = inl (started worker line has (λ also. cc))
  by_ending worker line dormant has (misused misuse) is = inl (started worker line has (λ also. cc))
  by_ending worker line dormant has (halted misuse) is = inl (started worker line has (λ also. cc))
  by_ending worker line dormant has unfinished is = inl (started worker line has (λ also. cc))
  by_ending worker line dormant has (stayed never) is = inr (dormant, unstarted worker line has is)
  by_ending worker line dormant has (stayed (stopped misuse)) is = inl (started worker line has (λ also. cc))
  by_ending worker line dormant has (stayed waits) is = inl (started worker line has (λ also. cc))

  by_line : (worker : ℕ) → is_dormant plan worker ≡ true → (line : Option Line) → slice_get explains.lines worker ≡ line → WorkerEnded plan left worker
  by_line worker dormant (Some line) has = by_ending worker line dormant has line.ending refl
  by_line worker dormant None none =
      let no_replies : slice_get left.replies worker ≡ None =
      ap (λ (l : List (List (Reply ℕ))). slice_get l worker) (sym explains.are.replies) ∙ slice_get-map replies_of explains.lines worker ∙ ap (option_map replies_of) none in
      inr (dormant, nothing_there left.replies worker no_replies)

  by_dormant : (worker : ℕ) (dormant : Bool) → is_dormant plan worker ≡ dormant → WorkerEnded plan left worker
  by_dormant worker true is = by_line worker is (slice_get explains.lines worker) refl
  by_dormant worker false is = inl (runs worker is)

  pub have_ended : HasEnded plan left
  have_ended = (λ worker. by_dormant worker (is_dormant plan worker) refl, all)
