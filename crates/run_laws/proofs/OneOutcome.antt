-- That a record explains one outcome, where each call is spelt in one way.
use Rattle.std.proofs.Common.{◌≡◌, ◌≢◌, ◌⊎◌, inl, inr, ℕ, zero, suc, ◌+◌, Bool, true, false, List, [], ◌∷◌, ◌++◌, map, drop, length, get_or, Some, slice_get, refl, sym, ap, ◌∙◌, subst, append_assoc, arith}
use Rattle.std.specs.Prelude.{Ok, Err}
use Rattle.std.specs.List.{flat_map}
use Rattle.std.proofs.lemmas.Bool.{false≢true}
use Rattle.std.proofs.lemmas.Option.{none-some, same_Some}
use Rattle.protocols.specs.Spelling.{CallAnswer}
use Rattle.script_calls.specs.declared.call.Call.{Call}
use Rattle.script_calls.specs.declared.call.Reply.{Reply}
use Rattle.script_calls.specs.declared.outcome.Outcome.{Outcome}
use Rattle.script_calls.specs.declared.outcome.Outcome.TheVariants.{Done as DoneWith, Misused, Deadlocked}
use Rattle.script_calls.specs.declared.outcome.Report.{Report}
use Rattle.script_calls.specs.Outcome.{left_by}
use Rattle.script_calls.specs.Runs.{passed_over, RunsAlong}
use Rattle.sync_model.specs.declared.answer.Answer.TheVariants.{Done, Halted}
use Rattle.sync_model.specs.Journal.{halt_of}
use Rattle.sync_types.specs.declared.end.End.{End}
use Rattle.sync_types.specs.declared.misuse.Misuse.{Misuse}
use Rattle.workload.specs.Plan.{Plan}
use Rattle.run_record.specs.declared.made.Made.{Made}
use Rattle.run_record.specs.declared.made.Made.TheVariants.{Shared, Entered}
use Rattle.run_record.specs.Calls.{SpellsCall}
use Rattle.run_record.specs.Explains.{AreLines, IsRecordOf, HasEnded, Explains}
use Rattle.run_record.specs.Lines.{SpeltCall, LineEnd, whole, misused, halted, unfinished, stayed, never, stopped, waits, Line, calls_made, items_of, replies_of, AreSpelt, EndsBy, OpensBy, IsLineOf}
use Rattle.run_record.specs.Record.{Record, stop, journal_of, shared_in}
use Rattle.run_record.specs.StartsKind.{opening}
use Rattle.run_laws.specs.OneSpelling.{IsCertain}
use Rattle.run_laws.proofs.AroundScripts.{opening_certain}
use Rattle.run_laws.proofs.LineEnds.{has_ended}
use Rattle.run_laws.proofs.OneWay.{tail_of}
use Rattle.run_laws.proofs.LinesOneWay.{AreCertain, reply_in, same_spelt}

abbrev is_reply : CallAnswer (Reply ℕ) → Bool
is_reply (Done (Ok reply)) = true
is_reply (Done (Err misuse)) = false
is_reply (Halted misuse) = false

shared_append : (xs ys : List Made) → length (shared_in (xs ++ ys)) ≡ length (shared_in xs) + length (shared_in ys)
shared_append [] ys = omega arith
shared_append (Shared x ∷ xs) ys = omega (arith, shared_append xs ys)
shared_append (Entered object entry ∷ xs) ys = shared_append xs ys

abbrev items_in : List SpeltCall → List Made
items_in spelt = flat_map (λ call. call.items) spelt

-- the completed calls, each with its reply
abbrev made_in : List SpeltCall → List (Call × Reply ℕ)
made_in spelt = map (λ s. (s.call, s.reply)) spelt

dropped_at : {A : Type 0} (n i : ℕ) (xs : List A) (x : A) → slice_get (drop n xs) i ≡ Some x → (j : ℕ) × (slice_get xs j ≡ Some x)
dropped_at zero i xs x at = (i, at)
dropped_at (suc n) i [] x at = absurd (none-some x at)
dropped_at (suc n) i (y ∷ xs) x at = let there = dropped_at n i xs x at in (suc there.0, there.1)

-- the worker came to its script, and has ended there
abbrev HasCalled : LineEnd → Type 0
HasCalled whole = Unit {0}
HasCalled (misused misuse) = Unit {0}
HasCalled (halted misuse) = Unit {0}
HasCalled unfinished = ⊥
HasCalled (stayed stay) = ⊥

-- what a worker was told before its script that has ended so
abbrev told : LineEnd → CallAnswer Bool
told (stayed never) = Done (Ok false)
told (stayed (stopped misuse)) = Halted misuse
told ending = Done (Ok true)

abbrev is_told_to_come : CallAnswer Bool → Bool
is_told_to_come (Done (Ok comes)) = comes
is_told_to_come (Done (Err misuse)) = false
is_told_to_come (Halted misuse) = false

module _ (plan : Plan) (worker : ℕ) where
  -- a list that ends before a call doesn't begin with that call
  cut_short : (before : ℕ) (o : SpeltCall) (calls left : List Call) (last halts behind : List Made) (ends : LineEnd) → IsCertain (SpellsCall plan worker before o.call) → left ≡ o.call ∷ calls
      → SpellsCall plan worker before o.call o.items (Done (Ok o.reply)) → EndsBy plan worker before ends left last → HasCalled ends → last ++ halts ≡ o.items ++ behind → ⊥
  cut_short before o calls left last halts behind ends certain is spells cut ended same = by_end ends (subst (λ (l : List Call). EndsBy plan worker before ends l last) is cut) ended where
    by_end : (ends : LineEnd) → EndsBy plan worker before ends (o.call ∷ calls) last → HasCalled ends → ⊥
    by_end whole cut ended = absurd (omega (arith, ap (λ (l : List Call). length l) cut.0))
    by_end (misused misuse) cut ended = false≢true (ap is_reply (certain last o.items halts behind (Done (Err misuse)) (Done (Ok o.reply)) cut spells same).2)
    by_end (halted misuse) cut ended = false≢true (ap is_reply (certain last o.items halts behind (Halted misuse) (Done (Ok o.reply)) cut spells same).2)
    by_end unfinished cut ended = ended
    by_end (stayed stay) cut ended = ended

  one_line : (before : ℕ) (spelt other : List SpeltCall) (script left right : List Call) (last halts more behind : List Made) (ends given : LineEnd) → AreCertain plan worker script
      → RunsAlong script (made_in spelt) left → RunsAlong script (made_in other) right → AreSpelt plan worker before spelt → AreSpelt plan worker before other
      → EndsBy plan worker (before + length (shared_in (items_in spelt))) ends left last → EndsBy plan worker (before + length (shared_in (items_in other))) given right more
      → HasCalled ends → HasCalled given → items_in spelt ++ (last ++ halts) ≡ items_in other ++ (more ++ behind) → spelt ≡ other
  one_line before [] [] script left right last halts more behind ends given certain run other_run a b at_end at_other ended also same = refl
  one_line before [] (o ∷ other) script left right last halts more behind ends given certain run (rest, is, later) a b at_end at_other ended also same =
      absurd (cut_short before o rest left last halts (items_in other ++ (more ++ behind)) ends
      (certain 0 before o.call (ap (λ (l : List Call). slice_get l 0) is)) (run ∙ is) b.0
      (subst (λ (n : ℕ). EndsBy plan worker n ends left last) (omega arith) at_end) ended (same ∙ append_assoc o.items (items_in other) (more ++ behind)))
  one_line before (s ∷ spelt) [] script left right last halts more behind ends given certain (rest, is, later) run a b at_end at_other ended also same =
      absurd (cut_short before s rest right more behind (items_in spelt ++ (last ++ halts)) given
      (certain 0 before s.call (ap (λ (l : List Call). slice_get l 0) is)) (run ∙ is) a.0
      (subst (λ (n : ℕ). EndsBy plan worker n given right more) (omega arith) at_other) also (sym same ∙ append_assoc s.items (items_in spelt) (last ++ halts)))
  one_line before (s ∷ spelt) (o ∷ other) script left right last halts more behind ends given certain (rest, is, run) (other_rest, other_is, other_run) a b at_end at_other ended also same =
      let both : s.call ∷ rest ≡ o.call ∷ other_rest = sym is ∙ other_is in
      let call : s.call ≡ o.call = ap (λ (l : List Call). get_or l 0 s.call) both in
      let start : s.items ++ (items_in spelt ++ (last ++ halts)) ≡ o.items ++ (items_in other ++ (more ++ behind)) =
      sym (append_assoc s.items (items_in spelt) (last ++ halts)) ∙ (same ∙ append_assoc o.items (items_in other) (more ++ behind)) in
      let one = certain 0 before s.call (ap (λ (l : List Call). slice_get l 0) is) s.items o.items (items_in spelt ++ (last ++ halts)) (items_in other ++ (more ++ behind)) (Done (Ok s.reply)) (Done (Ok o.reply)) a.0
      (subst (λ (c : Call). SpellsCall plan worker before c o.items (Done (Ok o.reply))) (sym call) b.0) start in
      let first : s ≡ o = same_spelt s o call one.0 (ap (reply_in s.reply) one.2) in
      let next = before + length (shared_in s.items) in
      let long : length (shared_in s.items) ≡ length (shared_in o.items) = ap (λ (l : List Made). length (shared_in l)) one.0 in
      let first_end : EndsBy plan worker (next + length (shared_in (items_in spelt))) ends left last =
      subst (λ (n : ℕ). EndsBy plan worker n ends left last) (omega (arith, shared_append s.items (items_in spelt))) at_end in
      let other_end : EndsBy plan worker (next + length (shared_in (items_in other))) given right more =
      subst (λ (n : ℕ). EndsBy plan worker n given right more) (omega (arith, shared_append o.items (items_in other), long)) at_other in
      let passed : drop (passed_over o.call o.reply) other_rest ≡ drop (passed_over s.call s.reply) rest =
      ap (λ (x : SpeltCall). drop (passed_over x.call x.reply) other_rest) (sym first) ∙ ap (λ (l : List Call). drop (passed_over s.call s.reply) (tail_of l)) (sym both) in
      let later = one_line next spelt other (drop (passed_over s.call s.reply) rest) left right last halts more behind ends given
      (λ i n c at. let there = dropped_at (passed_over s.call s.reply) i rest c at in certain (suc there.0) n c (ap (λ (l : List Call). slice_get l (suc there.0)) is ∙ there.1))
      run (subst (λ (l : List Call). RunsAlong l (made_in other) right) passed other_run) a.1
      (subst (λ (l : List Made). AreSpelt plan worker (before + length (shared_in l)) other) (sym one.0) b.1) first_end other_end ended also one.1 in
      ap (λ (x : SpeltCall). x ∷ spelt) first ∙ ap (λ (xs : List SpeltCall). o ∷ xs) later

  opened : (ending : LineEnd) (spelt : List SpeltCall) (first : List Made) → HasEnded ending → OpensBy plan worker ending spelt first → opening plan worker first (told ending)
  opened whole spelt first ended opens = opens
  opened (misused misuse) spelt first ended opens = opens
  opened (halted misuse) spelt first ended opens = opens
  opened unfinished spelt first ended opens = absurd ended
  opened (stayed never) spelt first ended opens = opens.1
  opened (stayed (stopped misuse)) spelt first ended opens = opens.1
  opened (stayed waits) spelt first ended opens = absurd ended

  -- it made calls where it was told to come, and else none
  came : (ending : LineEnd) (spelt : List SpeltCall) (first : List Made) → HasEnded ending → OpensBy plan worker ending spelt first
      → (HasCalled ending × (is_told_to_come (told ending) ≡ true)) ⊎ ((spelt ≡ []) × (is_told_to_come (told ending) ≡ false))
  came whole spelt first ended opens = inl (tt, refl)
  came (misused misuse) spelt first ended opens = inl (tt, refl)
  came (halted misuse) spelt first ended opens = inl (tt, refl)
  came unfinished spelt first ended opens = absurd ended
  came (stayed never) spelt first ended opens = inr (opens.0, refl)
  came (stayed (stopped misuse)) spelt first ended opens = inr (opens.0, refl)
  came (stayed waits) spelt first ended opens = absurd ended

  pub same_line : (script : List Call) (line other : Line) → AreCertain plan worker script → RunsAlong script (calls_made line) line.rest → RunsAlong script (calls_made other) other.rest → items_of line ≡ items_of other
      → IsLineOf plan worker line → IsLineOf plan worker other → HasEnded line.ending → HasEnded other.ending → line.spelt ≡ other.spelt
  same_line script line other certain run other_run items is also ended given =
      by_both (came line.ending line.spelt line.first ended is.opens) (came other.ending other.spelt other.first given also.opens) where
        one : (line.first ≡ other.first) × (items_in line.spelt ++ (line.last ++ line.halts) ≡ items_in other.spelt ++ (other.last ++ other.halts)) × (told line.ending ≡ told other.ending)
        one = opening_certain plan worker line.first other.first (items_in line.spelt ++ (line.last ++ line.halts)) (items_in other.spelt ++ (other.last ++ other.halts)) (told line.ending) (told other.ending)
            (opened line.ending line.spelt line.first ended is.opens) (opened other.ending other.spelt other.first given also.opens) items

        by_both : (HasCalled line.ending × (is_told_to_come (told line.ending) ≡ true)) ⊎ ((line.spelt ≡ []) × (is_told_to_come (told line.ending) ≡ false))
            → (HasCalled other.ending × (is_told_to_come (told other.ending) ≡ true)) ⊎ ((other.spelt ≡ []) × (is_told_to_come (told other.ending) ≡ false)) → line.spelt ≡ other.spelt
        by_both (inl (called, comes)) (inl (calls, also_comes)) =
            one_line 0 line.spelt other.spelt script line.rest other.rest line.last line.halts other.last other.halts line.ending other.ending certain run other_run is.calls also.calls
            (subst (λ (n : ℕ). EndsBy plan worker n line.ending line.rest line.last) (omega arith) is.ends) (subst (λ (n : ℕ). EndsBy plan worker n other.ending other.rest other.last) (omega arith) also.ends) called calls one.1
        by_both (inr (none, stays)) (inr (none_either, also_stays)) = none ∙ sym none_either
        by_both (inl (called, comes)) (inr (none, stays)) = absurd (false≢true (sym stays ∙ (sym (ap is_told_to_come one.2) ∙ comes)))
        by_both (inr (none, stays)) (inl (calls, comes)) = absurd (false≢true (sym stays ∙ (ap is_told_to_come one.2 ∙ comes)))

module _ (plan : Plan) where
  -- lines of the workers that are numbered so
  abbrev AreEnded : (ℕ → ℕ) → List Line → Type 0
  AreEnded worker lines = (i : ℕ) (line : Line) → slice_get lines i ≡ Some line → IsLineOf plan (worker i) line × HasEnded line.ending

  -- lines along runs of these scripts
  abbrev AreAlong : List (List Call) → List Line → Type 0
  AreAlong scripts lines = (i : ℕ) (line : Line) → slice_get lines i ≡ Some line → RunsAlong (get_or scripts i []) (calls_made line) line.rest

  same_replies : (worker : ℕ → ℕ) (scripts : List (List Call)) (lines others : List Line) → length lines ≡ length scripts → AreAlong scripts lines → AreAlong scripts others → map items_of lines ≡ map items_of others
      → AreEnded worker lines → AreEnded worker others → ((i : ℕ) (script : List Call) → slice_get scripts i ≡ Some script → AreCertain plan (worker i) script) → map replies_of lines ≡ map replies_of others
  same_replies worker scripts [] [] count runs also items a b certain = refl
  same_replies worker scripts [] (o ∷ others) count runs also items a b certain = absurd (omega (arith, ap (λ (l : List (List Made)). length l) items))
  same_replies worker scripts (l ∷ lines) [] count runs also items a b certain = absurd (omega (arith, ap (λ (l : List (List Made)). length l) items))
  same_replies worker [] (l ∷ lines) (o ∷ others) count runs also items a b certain = absurd (omega (arith, count))
  same_replies worker (script ∷ scripts) (l ∷ lines) (o ∷ others) count runs also items a b certain =
      let list : items_of l ≡ items_of o = ap (λ (s : List (List Made)). get_or s 0 []) items in
      let mine = a 0 l refl in
      let its = b 0 o refl in
      let spelt = same_line plan (worker 0) script l o (certain 0 script refl) (runs 0 l refl) (also 0 o refl) list mine.0 its.0 mine.1 its.1 in
      let first : replies_of l ≡ replies_of o = ap (λ (s : List SpeltCall). map (λ call. call.reply) s) spelt in
      ap (λ (r : List (Reply ℕ)). r ∷ map replies_of lines) first
      ∙ ap (λ (rs : List (List (Reply ℕ))). replies_of o ∷ rs) (same_replies (λ i. worker (suc i)) scripts lines others (omega (arith, count)) (λ i line at. runs (suc i) line at) (λ i line at. also (suc i) line at)
      (ap (λ (s : List (List Made)). tail_of s) items) (λ i line at. a (suc i) line at) (λ i line at. b (suc i) line at) (λ i line at. certain (suc i) line at))

abbrev report_of : List (List (Reply ℕ)) → List End → Report
report_of replies ends = record { replies = replies; ends = ends }

same_report : (left right : Report) → left.replies ≡ right.replies → left.ends ≡ right.ends → left ≡ right
same_report left right replies ends = ap (λ (rs : List (List (Reply ℕ))). report_of rs left.ends) replies ∙ ap (λ (es : List End). report_of right.replies es) ends

module _ (plan : Plan) (r : Record) (certain : (worker : ℕ) (script : List Call) → slice_get plan.scripts worker ≡ Some script → AreCertain plan worker script)
    (done : (left : Report) (explains : Explains plan (DoneWith left) r) (worker : ℕ) (line : Line) (misuse : Misuse) → slice_get explains.lines worker ≡ Some line → line.ending ≢ misused misuse)
    (met : (lines : List Line) (outcome : Outcome) (misuse : Misuse) → AreLines plan r outcome lines → IsRecordOf plan r → halt_of (journal_of r stop) ≡ Some misuse
    → (worker : ℕ) × (line : Line) × (slice_get lines worker ≡ Some line) × (line.ending ≡ misused misuse)) where
  replies_same : (one other : Outcome) (first : Explains plan one r) (second : Explains plan other r) → (left_by one).replies ≡ (left_by other).replies
  replies_same one other first second =
      sym first.are.replies ∙ (same_replies plan (λ i. i) plan.scripts first.lines second.lines first.are.count first.are.runs second.are.runs (first.are.lists ∙ sym second.are.lists)
      (λ i line at. (first.are.each i line at, has_ended plan r first.lines one first.agrees i line at)) (λ i line at. (second.are.each i line at, has_ended plan r second.lines other second.agrees i line at)) certain ∙ second.are.replies)

  not_both : (left right : Report) (misuse : Misuse) → Explains plan (DoneWith left) r → Explains plan (Misused right misuse) r → ⊥
  not_both left right misuse first second =
      let one = met first.lines (DoneWith left) misuse first.are first.lawful second.agrees.2 in
      done left first one.0 one.1 misuse one.2 one.3

  pub one_outcome : (one other : Outcome) → Explains plan one r → Explains plan other r → one ≡ other
  one_outcome (DoneWith left) (DoneWith right) first second = ap DoneWith (same_report left right (replies_same (DoneWith left) (DoneWith right) first second) (first.agrees.1 ∙ sym second.agrees.1))
  one_outcome (DoneWith left) (Misused right misuse) first second = absurd (not_both left right misuse first second)
  one_outcome (Misused left misuse) (DoneWith right) first second = absurd (not_both right left misuse second first)
  one_outcome (Misused left misuse) (Misused right given) first second =
      let report = same_report left right (replies_same (Misused left misuse) (Misused right given) first second) (first.agrees.1 ∙ sym second.agrees.1) in
      ap (λ (l : Report). Misused l misuse) report ∙ ap (λ (m : Misuse). Misused right m) (same_Some misuse given (sym first.agrees.2 ∙ second.agrees.2))
  one_outcome (Deadlocked left) other first second = absurd first.agrees
  one_outcome (DoneWith left) (Deadlocked right) first second = absurd second.agrees
  one_outcome (Misused left misuse) (Deadlocked right) first second = absurd second.agrees
