-- What each event does to the progress of a once, and what comes of it over a log.
use Rattle.std.proofs.Common.{◌≡◌, ℕ, ◌==◌, ◌+◌, ◌≤◌, Bool, true, false, cond, [], ◌∷◌, ◌++◌, Option, Some, None, refl, sym, ap, ◌∙◌, subst, arith}
use Rattle.std.specs.Prelude.{nat_lt}
use Rattle.std.specs.List.{slice_get, count_by}
use Rattle.std.specs.Option.{option_or}
use Rattle.std.proofs.lemmas.List.Sums.{sum_by-cons}
use Rattle.wait_cores.specs.declared.once.OnceEvent.{OnceEvent}
use Rattle.wait_cores.specs.declared.once.OnceEvent.TheVariants.{Begin, End, Leave}
use Rattle.wait_cores.specs.declared.once.OnceReply.{OnceReply}
use Rattle.wait_cores.specs.declared.once.OnceReply.TheVariants.{Ended, Still}
use Rattle.wait_cores.specs.declared.once.OnceProgress.{OnceProgress}
use Rattle.wait_cores.specs.declared.once.OnceProgress.TheVariants as progress
use Rattle.wait_cores.specs.declared.once.OncePlace.{OncePlace}
use Rattle.wait_cores.specs.declared.once.OncePlace.TheVariants.{Out, Waiting, Released}
use Rattle.sync_model.specs.Log.{entry, after, Follows}
use Rattle.wait_cores.specs.OnceMachine.{OnceState, start, next, made, begin_from, come_to, end_by, leave_with, callers_of, place_of, runner_in, runner_of}
use Rattle.wait_cores.specs.OnceLaws.{OnceEntry, Log, begins, ends, returned_in, kept_in, kept_by}
use Rattle.wait_cores.proofs.LogParts.{ComesApart}

abbrev one_if : Bool → ℕ
one_if b = cond b 1 0

module _ {T : Type 0} where
  -- how often the function may be begun yet, and whether it runs
  abbrev beginnings_left : OnceProgress T → ℕ
  beginnings_left progress.NotRun = 1
  beginnings_left (progress.Running caller) = 0
  beginnings_left (progress.Ended kept) = 0

  abbrev running : OnceProgress T → ℕ
  running progress.NotRun = 0
  running (progress.Running caller) = 1
  running (progress.Ended kept) = 0

  abbrev kept_at : OnceProgress T → Option T
  kept_at progress.NotRun = None
  kept_at (progress.Running caller) = None
  kept_at (progress.Ended kept) = Some kept

  record Stepped (s : OnceState T) (e : OnceEntry T) (s' : OnceState T) : Type 0 where
    begins_less : one_if (begins e) + beginnings_left s'.progress ≤ beginnings_left s.progress
    runs_less : one_if (ends e) + running s'.progress ≤ running s.progress + one_if (begins e)
    keeps : kept_at s'.progress ≡ option_or (kept_at s.progress) (kept_in e.event e.reply)
    returns : (value : T) → returned_in e.reply ≡ Some value → kept_at s.progress ≡ Some value

  or_none : (o : Option T) → o ≡ option_or o None
  or_none (Some value) = refl
  or_none None = refl

  keeps_nothing : (event : OnceEvent T) → kept_in event Still ≡ None
  keeps_nothing Begin = refl
  keeps_nothing (End value) = refl
  keeps_nothing Leave = refl

  step_still : (s : OnceState T) (d : ℕ) (event : OnceEvent T) → Stepped s (entry d event Still) s
  step_still s d event = record {
    begins_less = omega arith;
    runs_less = omega arith;
    keeps = rw (keeps_nothing event) (or_none (kept_at s.progress));
    returns = λ value h. cc;
  }

  step_come : (p : OnceProgress T) (s : OnceState T) (d : ℕ) → s.progress ≡ p → Stepped s (entry d Begin (come_to p s d).1) (come_to p s d).0
  step_come progress.NotRun s d is = record {
    begins_less = rw is (omega arith);
    runs_less = rw is (omega arith);
    keeps = rw is refl;
    returns = λ value h. cc;
  }
  step_come (progress.Running other) s d is = record {
    begins_less = omega arith;
    runs_less = omega arith;
    keeps = or_none (kept_at s.progress);
    returns = λ value h. cc;
  }
  step_come (progress.Ended kept) s d is = record {
    begins_less = omega arith;
    runs_less = omega arith;
    keeps = or_none (kept_at s.progress);
    returns = λ value h. rw is h;
  }

  step_begin : (p : OncePlace) (s : OnceState T) (d : ℕ) → Stepped s (entry d Begin (begin_from p s d).1) (begin_from p s d).0
  step_begin Out s d = step_come s.progress s d refl
  step_begin Waiting s d = step_still s d Begin
  step_begin Released s d = step_still s d Begin

  step_ended : (b : Bool) (runner : ℕ) (s : OnceState T) (d : ℕ) (value : T) → runner_of s ≡ Some runner
      → Stepped s (entry d (End value) (cond {A = OnceState T × OnceReply T} b (record s { progress = progress.Ended value }, Ended) (s, Still)).1)
      (cond {A = OnceState T × OnceReply T} b (record s { progress = progress.Ended value }, Ended) (s, Still)).0
  step_ended true runner s d value is = by_progress s.progress refl is where
    by_progress : (p : OnceProgress T) → s.progress ≡ p → runner_in p ≡ Some runner → Stepped s (entry d (End value) Ended) (record s { progress = progress.Ended value })
    by_progress progress.NotRun now runs = cc
    by_progress (progress.Running other) now runs = record {
      begins_less = rw now (omega arith);
      runs_less = rw now (omega arith);
      keeps = rw now refl;
      returns = λ value h. cc;
    }
    by_progress (progress.Ended kept) now runs = cc
  step_ended false runner s d value is = step_still s d (End value)

  step_end : (runner : Option ℕ) (s : OnceState T) (d : ℕ) (value : T) → runner_of s ≡ runner
      → Stepped s (entry d (End value) (end_by runner s d value).1) (end_by runner s d value).0
  step_end (Some runner) s d value is = step_ended (runner == d) runner s d value is
  step_end None s d value is = step_still s d (End value)

  step_leave : (p : OnceProgress T) (waits : Option Bool) (s : OnceState T) (d : ℕ) → s.progress ≡ p
      → Stepped s (entry d Leave (leave_with p waits s d).1) (leave_with p waits s d).0
  step_leave (progress.Ended kept) (Some true) s d is = record {
    begins_less = omega arith;
    runs_less = omega arith;
    keeps = or_none (kept_at s.progress);
    returns = λ value h. rw is h;
  }
  step_leave (progress.Ended kept) (Some false) s d is = step_still s d Leave
  step_leave (progress.Ended kept) None s d is = step_still s d Leave
  step_leave progress.NotRun waits s d is = step_still s d Leave
  step_leave (progress.Running other) waits s d is = step_still s d Leave

  step_made : (s : OnceState T) (d : ℕ) (event : OnceEvent T) → Stepped s (entry d event (made s d event).1) (made s d event).0
  step_made s d Begin = step_begin (place_of s d) s d
  step_made s d (End value) = step_end (runner_of s) s d value refl
  step_made s d Leave = step_leave s.progress (slice_get s.waits d) s d refl

  step_if : (b : Bool) (s : OnceState T) (d : ℕ) (event : OnceEvent T) → Stepped s (entry d event (cond b (made s d event) (s, Still)).1) (cond b (made s d event) (s, Still)).0
  step_if true s d event = step_made s d event
  step_if false s d event = step_still s d event

  -- each entry of a log that follows the machine
  steps : (s : OnceState T) (e : OnceEntry T) → (next s e.caller e.event).1 ≡ e.reply → Stepped s e (next s e.caller e.event).0
  steps s e h =
      let P : OnceReply T → Type 0 = λ r. Stepped s (entry e.caller e.event r) (next s e.caller e.event).0 in
      subst P h (step_if (nat_lt e.caller (callers_of s)) s e.caller e.event)

  begun : (s : OnceState T) (log : Log T) → Follows next s log → count_by begins log ≤ beginnings_left s.progress
  begun s [] h = omega arith
  begun s (e ∷ log) h =
      let s' : OnceState T = (next s e.caller e.event).0 in
      let step : Stepped s e s' = steps s e h.0 in
      let more : count_by begins (e ∷ log) ≡ one_if (begins e) + count_by begins log = sum_by-cons (λ x. one_if (begins x)) e log in
      let rest : count_by begins log ≤ beginnings_left s'.progress = begun s' log h.1 in
      let here : one_if (begins e) + beginnings_left s'.progress ≤ beginnings_left s.progress = step.begins_less in
      rw more (omega arith)

  ended : (s : OnceState T) (log : Log T) → Follows next s log → count_by ends log ≤ running s.progress + count_by begins log
  ended s [] h = omega arith
  ended s (e ∷ log) h =
      let s' : OnceState T = (next s e.caller e.event).0 in
      let step : Stepped s e s' = steps s e h.0 in
      let more : count_by begins (e ∷ log) ≡ one_if (begins e) + count_by begins log = sum_by-cons (λ x. one_if (begins x)) e log in
      let more_ends : count_by ends (e ∷ log) ≡ one_if (ends e) + count_by ends log = sum_by-cons (λ x. one_if (ends x)) e log in
      let rest : count_by ends log ≤ running s'.progress + count_by begins log = ended s' log h.1 in
      let here : one_if (ends e) + running s'.progress ≤ running s.progress + one_if (begins e) = step.runs_less in
      rw (more, more_ends) (omega arith)

  or_assoc : (a b c : Option T) → option_or (option_or a b) c ≡ option_or a (option_or b c)
  or_assoc (Some x) b c = refl
  or_assoc None b c = refl

  kept_after : (s : OnceState T) (log : Log T) → Follows next s log → kept_at (after next s log).progress ≡ option_or (kept_at s.progress) (kept_by log)
  kept_after s [] h = or_none (kept_at s.progress)
  kept_after s (e ∷ log) h =
      let s' : OnceState T = (next s e.caller e.event).0 in
      let step : Stepped s e s' = steps s e h.0 in
      kept_after s' log h.1 ∙ ap (λ (o : Option T). option_or o (kept_by log)) step.keeps
      ∙ or_assoc (kept_at s.progress) (kept_in e.event e.reply) (kept_by log)

  pub begins_once : (callers : ℕ) (log : Log T) → Follows next (start callers) log → count_by begins log ≤ 1
  begins_once callers log h = begun (start callers) log h

  pub ends_as_begun : (callers : ℕ) (log : Log T) → Follows next (start callers) log → count_by ends log ≤ count_by begins log
  ends_as_begun callers log h = let e : count_by ends log ≤ 0 + count_by begins log = ended (start callers) log h in omega arith

  pub returns_what_is_kept : ComesApart (next {T = T}) → (callers : ℕ) (before rest : Log T) (e : OnceEntry T) (value : T) → Follows next (start callers) (before ++ e ∷ rest)
      → returned_in e.reply ≡ Some value → kept_by before ≡ Some value
  returns_what_is_kept apart callers before rest e value h returned =
      let s : OnceState T = after next (start callers) before in
      let parts : Follows next (start callers) before × Follows next s (e ∷ rest) = apart (start callers) before (e ∷ rest) h in
      sym (kept_after (start callers) before parts.0) ∙ (steps s e parts.1.0).returns value returned
