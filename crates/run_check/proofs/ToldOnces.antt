-- What a once keeps, and tells whoever returns, is what its function came to.
use Rattle.std.proofs.Common.{◌≡◌, ◌⊎◌, inl, inr, ⊎_elim, ℕ, zero, suc, ◌+◌, ◌<◌, ◌≤◌, ℤ, ◌==◌, Bool, true, false, cond, List, [], ◌∷◌, map, length, get_or, Option, Some, None, slice_get, refl, sym, ap, ◌∙◌, subst, arith}
use Rattle.std.specs.Prelude.{nat_lt}
use Rattle.std.specs.Option.{option_map}
use Rattle.std.proofs.lemmas.Bool.{cases_lt, eq-eqb, eqb-true, false≢true}
use Rattle.std.proofs.lemmas.List.{get_or_past, length-map}
use Rattle.std.proofs.lemmas.Option.{get_or_from_slice_get, none-some, same_Some, slice_get-map, slice_get_cases}
use Rattle.sync_types.specs.declared.misuse.Misuse.{Misuse}
use Rattle.sync_model.specs.declared.journal.Deed.{Deed}
use Rattle.sync_model.specs.declared.journal.Deed.TheVariants.{Event, Refused, Halt}
use Rattle.sync_model.specs.declared.journal.Entry.{Entry}
use Rattle.sync_model.specs.Journal.{Follows, Right, by, halt_next, state_next}
use Rattle.script_calls.specs.declared.outcome.Outcome.{Outcome}
use Rattle.wait_cores.specs.declared.once.OnceEvent.{OnceEvent}
use Rattle.wait_cores.specs.declared.once.OnceEvent.TheVariants.{Begin, End, Leave}
use Rattle.wait_cores.specs.declared.once.OnceReply.{OnceReply}
use Rattle.wait_cores.specs.declared.once.OnceReply.TheVariants as replies
use Rattle.wait_cores.specs.declared.once.OnceProgress.{OnceProgress}
use Rattle.wait_cores.specs.declared.once.OnceProgress.TheVariants.{NotRun, Running, Ended}
use Rattle.wait_cores.specs.declared.once.OncePlace.{OncePlace}
use Rattle.wait_cores.specs.declared.once.OncePlace.TheVariants.{Out, Waiting, Released}
use Rattle.wait_cores.specs.OnceEdges.{once_acquires, once_releases}
use Rattle.wait_cores.specs.OnceLaws.{is_run as is_run_of}
use Rattle.wait_cores.specs.OnceMachine.{OnceState, begin_from, callers_of, come_to, end_by, leave_with, made, next, place_of, runner_of, start}
use Rattle.workload.specs.declared.object.ObjectKind.{ObjectKind}
use Rattle.workload.specs.declared.object.ObjectKind.TheVariants as kinds
use Rattle.workload.specs.declared.object.ObjectLine.{ObjectLine}
use Rattle.workload.specs.Plan.{Plan}
use Rattle.run_record.specs.declared.entered.ObjectEvent.{ObjectEvent}
use Rattle.run_record.specs.declared.entered.ObjectEvent.TheVariants as object_events
use Rattle.run_record.specs.declared.entered.ObjectReply.{ObjectReply}
use Rattle.run_record.specs.declared.entered.ObjectReply.TheVariants as object_replies
use Rattle.run_record.specs.declared.made.Made.{Made}
use Rattle.run_record.specs.declared.made.Made.TheVariants.{Shared, Entered}
use Rattle.run_record.specs.Calls.{IsJournalOf}
use Rattle.run_record.specs.Explains.{AreLines, IsRecordOf}
use Rattle.run_record.specs.Journals.{FollowsFrom}
use Rattle.run_record.specs.Lines.{Line, items_of}
use Rattle.run_record.specs.Parts.{lifted, lifted_deed}
use Rattle.run_record.specs.Record.{ObjectEntry, Record, entries_in, journal_of, list_of, object_number}
use Rattle.run_check.proofs.ToldEnds.{EndsAre, is_end, is_run, line_ends, run_behind}
use Rattle.run_check.proofs.ToldEntries.{OnceReplyIs}
use Rattle.run_check.proofs.ToldJournals.{at_own, in_journal, in_list, own_at}
use Rattle.run_check.proofs.ToldKept.{IsEnd}

-- the answer tells that this is kept
abbrev pub Tells : {T : Type 0} → T → OnceReply T → Type 0
Tells v (replies.Done kept) = kept ≡ v
Tells v (replies.Left kept) = kept ≡ v
Tells v reply = ⊥

-- the reply of a once does
abbrev pub Keeps : ℤ → Deed ObjectEvent ObjectReply → Type 0
Keeps v (Event (object_events.Once event) (object_replies.Once reply)) = Tells v reply
Keeps v deed = ⊥

abbrev one_if : Bool → ℕ
one_if b = cond b 1 0

-- ---- the machine

module _ {T : Type 0} where
  -- how often the function may be begun yet
  abbrev beginnings_left : OnceProgress T → ℕ
  beginnings_left NotRun = 1
  beginnings_left (Running caller) = 0
  beginnings_left (Ended kept) = 0

  record Stepped (s : OnceState T) (event : OnceEvent T) (step : OnceState T × OnceReply T) : Type 0 where
    begins : one_if (is_run_of step.1) + beginnings_left step.0.progress ≤ beginnings_left s.progress
    keeps : (v : T) → step.0.progress ≡ Ended v → (s.progress ≡ Ended v) ⊎ (event ≡ End v)
    tells : (v : T) → Tells v step.1 → s.progress ≡ Ended v

  step_still : (s : OnceState T) (event : OnceEvent T) → Stepped s event (s, replies.Still)
  step_still s event = record { begins = omega arith; keeps = λ v is. inl is; tells = λ v none. absurd none }

  step_come : (p : OnceProgress T) (s : OnceState T) (caller : ℕ) → s.progress ≡ p → Stepped s Begin (come_to p s caller)
  step_come NotRun s caller is = record { begins = rw is (omega arith); keeps = λ v now. absurd cc; tells = λ v none. absurd none }
  step_come (Running other) s caller is = record { begins = omega arith; keeps = λ v now. inl now; tells = λ v none. absurd none }
  step_come (Ended kept) s caller is = record { begins = omega arith; keeps = λ v now. inl now; tells = λ v same. is ∙ ap (λ w. Ended w) same }

  step_begin : (p : OncePlace) (s : OnceState T) (caller : ℕ) → Stepped s Begin (begin_from p s caller)
  step_begin Out s caller = step_come s.progress s caller refl
  step_begin Waiting s caller = step_still s Begin
  step_begin Released s caller = step_still s Begin

  step_end : (runner : Option ℕ) (s : OnceState T) (caller : ℕ) (value : T) → Stepped s (End value) (end_by runner s caller value)
  step_end (Some runner) s caller value = of (runner == caller) where
    of : (b : Bool) → Stepped s (End value) (cond {A = OnceState T × OnceReply T} b (record s { progress = Ended value }, replies.Ended) (s, replies.Still))
    of true = record { begins = omega arith; keeps = λ v now. inr cc; tells = λ v none. absurd none }
    of false = step_still s (End value)
  step_end None s caller value = step_still s (End value)

  step_leave : (p : OnceProgress T) (waits : Option Bool) (s : OnceState T) (caller : ℕ) → s.progress ≡ p → Stepped s Leave (leave_with p waits s caller)
  step_leave (Ended kept) (Some true) s caller is = record { begins = omega arith; keeps = λ v now. inl now; tells = λ v same. is ∙ ap (λ w. Ended w) same }
  step_leave (Ended kept) (Some false) s caller is = step_still s Leave
  step_leave (Ended kept) None s caller is = step_still s Leave
  step_leave NotRun waits s caller is = step_still s Leave
  step_leave (Running other) waits s caller is = step_still s Leave

  step_made : (s : OnceState T) (caller : ℕ) (event : OnceEvent T) → Stepped s event (made s caller event)
  step_made s caller Begin = step_begin (place_of s caller) s caller
  step_made s caller (End value) = step_end (runner_of s) s caller value
  step_made s caller Leave = step_leave s.progress (slice_get s.waits caller) s caller refl

  steps : (s : OnceState T) (caller : ℕ) (event : OnceEvent T) → Stepped s event (next s caller event)
  steps s caller event = of (nat_lt caller (callers_of s)) where
    of : (b : Bool) → Stepped s event (cond {A = OnceState T × OnceReply T} b (made s caller event) (s, replies.Still))
    of true = step_made s caller event
    of false = step_still s event

-- ---- a journal of the machine

abbrev OwnEntry : Type 0 → Type 0
OwnEntry T = Entry (OnceEvent T) (OnceReply T)

module _ {T : Type 0} where
  abbrev TellsIn : T → Deed (OnceEvent T) (OnceReply T) → Type 0
  TellsIn v (Event event reply) = Tells v reply
  TellsIn v (Refused event misuse) = ⊥
  TellsIn v (Halt misuse) = ⊥

  -- the function ended, and came to this
  abbrev HasEnded : T → List (OwnEntry T) → Type 0
  HasEnded v own = (j : ℕ) × (y : OwnEntry T) × (reply : OnceReply T) × (slice_get own j ≡ Some y) × (y.deed ≡ Event (End v) reply)

  told_here : (s : OnceState T) (h : Option Misuse) (caller : ℕ) (deed : Deed (OnceEvent T) (OnceReply T)) (v : T) → Right next true s h caller deed → TellsIn v deed → s.progress ≡ Ended v
  told_here s h caller (Event event reply) v right told = (steps s caller event).tells v (subst (Tells v) right.1 told)
  told_here s h caller (Refused event misuse) v right told = absurd told
  told_here s h caller (Halt misuse) v right told = absurd told

  ended_here : (s : OnceState T) (caller : ℕ) (deed : Deed (OnceEvent T) (OnceReply T)) (v : T) → (state_next next s caller deed).progress ≡ Ended v → (s.progress ≡ Ended v) ⊎ ((reply : OnceReply T) × (deed ≡ Event (End v) reply))
  ended_here s caller (Event event reply) v now = ⊎_elim (λ before. inl before) (λ same. inr (reply, ap (λ e. Event e reply) same)) ((steps s caller event).keeps v now)
  ended_here s caller (Refused event misuse) v now = inl now
  ended_here s caller (Halt misuse) v now = inl now

  -- what is told is what stood at the start, or what the function came to
  kept_from : (s : OnceState T) (h : Option Misuse) (own : List (OwnEntry T)) (k : ℕ) (x : OwnEntry T) (v : T) → Follows next true s h own → slice_get own k ≡ Some x → TellsIn v x.deed → (s.progress ≡ Ended v) ⊎ HasEnded v own
  kept_from s h [] k x v follows at told = absurd (none-some x at)
  kept_from s h (y ∷ own) zero x v follows at told = inl (told_here s h y.caller y.deed v follows.0 (subst (λ (z : OwnEntry T). TellsIn v z.deed) (sym (same_Some y x at)) told))
  kept_from s h (y ∷ own) (suc k) x v follows at told = of (kept_from (state_next next s y.caller y.deed) (halt_next h y.deed) own k x v follows.1 at told) where
    here : (s.progress ≡ Ended v) ⊎ ((reply : OnceReply T) × (y.deed ≡ Event (End v) reply)) → (s.progress ≡ Ended v) ⊎ HasEnded v (y ∷ own)
    here (inl before) = inl before
    here (inr (reply, is)) = inr (0, y, reply, refl, is)

    of : ((state_next next s y.caller y.deed).progress ≡ Ended v) ⊎ HasEnded v own → (s.progress ≡ Ended v) ⊎ HasEnded v (y ∷ own)
    of (inl now) = here (ended_here s y.caller y.deed v now)
    of (inr (j, z, reply, there, is)) = inr (suc j, z, reply, there, is)

module _ {T : Type 0} (on : OnceEvent T → ObjectEvent) (answered : OnceReply T → ObjectReply) (apart : (a b : OnceReply T) → answered a ≡ answered b → a ≡ b)
    (workers : ℕ) (journal : List ObjectEntry) (follows : FollowsFrom on answered next once_releases once_acquires (start workers) journal) where
  own_tells : (deed : Deed (OnceEvent T) (OnceReply T)) (event : ObjectEvent) (reply : OnceReply T) (v : T) → lifted_deed on answered deed ≡ Event event (answered reply) → Tells v reply → TellsIn v deed
  own_tells (Event e r) event reply v is told = subst (Tells v) (sym (apart r reply (let same : answered r ≡ answered reply = cc in same))) told
  own_tells (Refused e misuse) event reply v is told = absurd cc
  own_tells (Halt misuse) event reply v is told = absurd cc

  -- whoever is told what is kept, the function's end stands in the journal
  came_to : (k : ℕ) (entry : ObjectEntry) (event : ObjectEvent) (reply : OnceReply T) (v : T) → slice_get journal k ≡ Some entry → entry.deed ≡ Event event (answered reply) → Tells v reply
      → (j : ℕ) × (end : ObjectEntry) × (given : OnceReply T) × (slice_get journal j ≡ Some end) × (end.deed ≡ Event (on (End v)) (answered given))
  came_to k entry event reply v at is told =
      let (own, are, goes, edges) = follows in
      let (x, at_x, same) = own_at on answered journal own are k entry at in
      of own are (kept_from (start workers) None own k x v goes at_x (own_tells x.deed event reply v (ap (λ (e : ObjectEntry). e.deed) same ∙ is) told)) where
        of : (own : List (OwnEntry T)) → journal ≡ map (lifted on answered) own → (NotRun ≡ Ended v) ⊎ HasEnded v own
            → (j : ℕ) × (end : ObjectEntry) × (given : OnceReply T) × (slice_get journal j ≡ Some end) × (end.deed ≡ Event (on (End v)) (answered given))
        of own are (inl never) = absurd cc
        of own are (inr (j, y, given, there, end)) = (j, lifted on answered y, given, at_own on answered journal own are j y there, ap (lifted_deed on answered) end)

-- ---- ends and beginnings, counted

abbrev end_count : List ObjectEntry → ℕ
end_count [] = 0
end_count (x ∷ xs) = one_if (is_end x.deed) + end_count xs

abbrev run_count : List ObjectEntry → ℕ
run_count [] = 0
run_count (x ∷ xs) = one_if (is_run x.deed) + run_count xs

-- each end stands right behind a beginning
abbrev Opens : Bool → List ObjectEntry → Type 0
Opens may [] = Unit {0}
Opens may (x ∷ xs) = (is_end x.deed ≡ true → may ≡ true) × Opens (is_run x.deed) xs

at_most : (b may : Bool) → (b ≡ true → may ≡ true) → one_if b ≤ one_if may
at_most true may leads = let is : one_if may ≡ 1 = ap one_if (leads refl) in omega (arith, is)
at_most false may leads = omega arith

counted : (may : Bool) (xs : List ObjectEntry) → Opens may xs → end_count xs ≤ one_if may + run_count xs
counted may [] opens = omega arith
counted may (x ∷ xs) opens =
    let first = at_most (is_end x.deed) may opens.0 in
    let rest = counted (is_run x.deed) xs opens.1 in
    omega (arith, first, rest)

-- on each object of a list
opens_in : (object : ℕ) (list : List Made) (runs : Option ℕ) (may : Bool) → (runs ≡ Some object → may ≡ true) → EndsAre runs list → Opens may (entries_in object list)
opens_in object [] runs may leads ends = tt
opens_in object (Shared x ∷ list) runs may leads ends = opens_in object list runs may leads ends
opens_in object (Entered other entry ∷ list) runs may leads ends = of (other == object) refl (λ behind opened leads_on later. opens_in object list behind opened leads_on later) where
  begun : (b : Bool) → cond b (Some other) None ≡ Some object → (b ≡ true) × (other ≡ object)
  begun true is = (refl, same_Some other object is)
  begun false is = absurd (none-some object is)

  of : (b : Bool) → (other == object) ≡ b → ((behind : Option ℕ) (opened : Bool) → (behind ≡ Some object → opened ≡ true) → EndsAre behind list → Opens opened (entries_in object list))
      → Opens may (cond b (entry ∷ entries_in object list) (entries_in object list))
  of true same on = (
    (λ is. leads (ends.0 is ∙ ap (λ (n : ℕ). Some n) (eqb-true other object same))),
    on (run_behind other entry.deed) (is_run entry.deed) (λ is. (begun (is_run entry.deed) is).0) ends.1,
  )
  of false apart on = on (run_behind other entry.deed) may (λ is. absurd (false≢true (sym apart ∙ eq-eqb other object (begun (is_run entry.deed) is).1))) ends.1

runs_most : (c : ℕ) (xs : List ObjectEntry) → run_count (by c xs) ≤ run_count xs
runs_most c [] = omega arith
runs_most c (x ∷ xs) = of (x.caller == c) (runs_most c xs) where
  of : (b : Bool) → run_count (by c xs) ≤ run_count xs → run_count (cond b (x ∷ by c xs) (by c xs)) ≤ one_if (is_run x.deed) + run_count xs
  of true rest = omega (arith, rest)
  of false rest = omega (arith, rest)

runs_apart : (c d : ℕ) → (c ≡ d → ⊥) → (xs : List ObjectEntry) → run_count (by c xs) + run_count (by d xs) ≤ run_count xs
runs_apart c d apart [] = omega arith
runs_apart c d apart (x ∷ xs) = of (x.caller == c) refl (x.caller == d) refl (runs_apart c d apart xs) where
  of : (b : Bool) → (x.caller == c) ≡ b → (e : Bool) → (x.caller == d) ≡ e → run_count (by c xs) + run_count (by d xs) ≤ run_count xs
      → run_count (cond b (x ∷ by c xs) (by c xs)) + run_count (cond e (x ∷ by d xs) (by d xs)) ≤ one_if (is_run x.deed) + run_count xs
  of true first true second rest = absurd (apart (sym (eqb-true x.caller c first) ∙ eqb-true x.caller d second))
  of true first false second rest = omega (arith, rest)
  of false first true second rest = omega (arith, rest)
  of false first false second rest = omega (arith, rest)

more_ends : (c : ℕ) (x : ObjectEntry) (xs : List ObjectEntry) → end_count (by c xs) ≤ end_count (by c (x ∷ xs))
more_ends c x xs = of (x.caller == c) where
  of : (b : Bool) → end_count (by c xs) ≤ end_count (cond b (x ∷ by c xs) (by c xs))
  of true = omega arith
  of false = omega arith

first_end : (x : ObjectEntry) (xs : List ObjectEntry) → is_end x.deed ≡ true → end_count (by x.caller (x ∷ xs)) ≡ 1 + end_count (by x.caller xs)
first_end x xs is =
    ap (λ (b : Bool). end_count (cond b (x ∷ by x.caller xs) (by x.caller xs))) (eq-eqb x.caller x.caller refl) ∙ ap (λ (b : Bool). one_if b + end_count (by x.caller xs)) is

one_at_least : (xs : List ObjectEntry) (i : ℕ) (x : ObjectEntry) → slice_get xs i ≡ Some x → is_end x.deed ≡ true → 1 ≤ end_count (by x.caller xs)
one_at_least [] i x at is = absurd (none-some x at)
one_at_least (z ∷ xs) zero x at is = subst (λ (y : ObjectEntry). 1 ≤ end_count (by x.caller (y ∷ xs))) (sym (same_Some z x at)) (let first = first_end x xs is in omega (arith, first))
one_at_least (z ∷ xs) (suc i) x at is =
    let rest = one_at_least xs i x at is in
    let more = more_ends x.caller z xs in
    omega (arith, rest, more)

two_at_least : (xs : List ObjectEntry) (i j : ℕ) (x y : ObjectEntry) → i < j → slice_get xs i ≡ Some x → slice_get xs j ≡ Some y → is_end x.deed ≡ true → is_end y.deed ≡ true → x.caller ≡ y.caller → 2 ≤ end_count (by x.caller xs)
two_at_least [] i j x y before at_x at_y is_x is_y same = absurd (none-some x at_x)
two_at_least (z ∷ xs) i zero x y before at_x at_y is_x is_y same = absurd (omega (arith, before))
two_at_least (z ∷ xs) zero (suc j) x y before at_x at_y is_x is_y same =
    subst (λ (w : ObjectEntry). 2 ≤ end_count (by x.caller (w ∷ xs))) (sym (same_Some z x at_x))
    (let first = first_end x xs is_x in
    let later : 1 ≤ end_count (by x.caller xs) = subst (λ (c : ℕ). 1 ≤ end_count (by c xs)) (sym same) (one_at_least xs j y at_y is_y) in
    omega (arith, first, later))
two_at_least (z ∷ xs) (suc i) (suc j) x y before at_x at_y is_x is_y same =
    let rest = two_at_least xs i j x y (omega (arith, before)) at_x at_y is_x is_y same in
    let more = more_ends x.caller z xs in
    omega (arith, rest, more)

-- where the function is begun once, and each caller's ends are no more than its beginnings, there is one end
module _ (xs : List ObjectEntry) (each : (c : ℕ) → end_count (by c xs) ≤ run_count (by c xs)) (once : run_count xs ≤ 1) where
  no_two : (i j : ℕ) (x y : ObjectEntry) → i < j → slice_get xs i ≡ Some x → slice_get xs j ≡ Some y → is_end x.deed ≡ true → is_end y.deed ≡ true → ⊥
  no_two i j x y before at_x at_y is_x is_y = of (x.caller == y.caller) refl where
    of : (b : Bool) → (x.caller == y.caller) ≡ b → ⊥
    of true same =
        let two = two_at_least xs i j x y before at_x at_y is_x is_y (eqb-true x.caller y.caller same) in
        let mine = each x.caller in
        let most = runs_most x.caller xs in
        omega (arith, two, mine, most, once)
    of false apart =
        let first = one_at_least xs i x at_x is_x in
        let second = one_at_least xs j y at_y is_y in
        let mine = each x.caller in
        let other = each y.caller in
        let most = runs_apart x.caller y.caller (λ same. false≢true (sym apart ∙ eq-eqb x.caller y.caller same)) xs in
        omega (arith, first, second, mine, other, most, once)

  one_end : (i j : ℕ) (x y : ObjectEntry) → slice_get xs i ≡ Some x → slice_get xs j ≡ Some y → is_end x.deed ≡ true → is_end y.deed ≡ true → x ≡ y
  one_end i j x y at_x at_y is_x is_y = elim (cases_lt i j) [
    | inl before ↦ absurd (no_two i j x y before at_x at_y is_x is_y)
    | inr past ↦ elim (cases_lt j i) [
      | inl behind ↦ absurd (no_two j i y x behind at_y at_x is_y is_x)
      | inr most ↦ same_Some x y (sym at_x ∙ ap (slice_get xs) (let same : i ≡ j = omega (arith, past, most) in same) ∙ at_y)
    ]
  ]

-- a once's function is begun once at most
begun_here : (s : OnceState ℤ) (h : Option Misuse) (caller : ℕ) (deed : Deed (OnceEvent ℤ) (OnceReply ℤ)) → Right next true s h caller deed
    → one_if (is_run (lifted_deed object_events.Once object_replies.Once deed)) + beginnings_left (state_next next s caller deed).progress ≤ beginnings_left s.progress
begun_here s h caller (Event event reply) right =
    subst (λ (r : OnceReply ℤ). one_if (is_run_of r) + beginnings_left (next s caller event).0.progress ≤ beginnings_left s.progress) (sym right.1) (steps s caller event).begins
begun_here s h caller (Refused event misuse) right = omega arith
begun_here s h caller (Halt misuse) right = omega arith

begun : (s : OnceState ℤ) (h : Option Misuse) (own : List (OwnEntry ℤ)) → Follows next true s h own → run_count (map (lifted object_events.Once object_replies.Once) own) ≤ beginnings_left s.progress
begun s h [] follows = omega arith
begun s h (x ∷ own) follows =
    let first = begun_here s h x.caller x.deed follows.0 in
    let rest = begun (state_next next s x.caller x.deed) (halt_next h x.deed) own follows.1 in
    omega (arith, first, rest)

-- ---- the record

end_of : (v : ℤ) (deed : Deed ObjectEvent ObjectReply) → IsEnd v deed → is_end deed ≡ true
end_of v (Event (object_events.Once (End w)) reply) is = refl
end_of v (Refused (object_events.Once (End w)) misuse) is = refl
end_of v deed is = absurd is

told_in : (v : ℤ) (deed : Deed ObjectEvent ObjectReply) → Keeps v deed → (event : ObjectEvent) × (reply : OnceReply ℤ) × (deed ≡ Event event (object_replies.Once reply)) × Tells v reply
told_in v (Event (object_events.Once event) (object_replies.Once reply)) keeps = (object_events.Once event, reply, refl, keeps)
told_in v deed keeps = absurd keeps

reply_is : {T : Type 0} (value : T) (reply : OnceReply T) → ((v : T) → Tells v reply → value ≡ v) → OnceReplyIs value reply
reply_is value (replies.Done kept) leads = leads kept refl
reply_is value (replies.Left kept) leads = leads kept refl
reply_is value replies.Run leads = tt
reply_is value replies.Queued leads = tt
reply_is value replies.Ended leads = tt
reply_is value replies.Still leads = tt

module _ (plan : Plan) (r : Record) (lawful : IsRecordOf plan r) where
  pub journal_at : (place : ℕ) (object : ObjectLine) (kind : ObjectKind) → slice_get plan.objects place ≡ Some object → object.kind ≡ kind → IsJournalOf plan place kind (journal_of r (object_number place))
  journal_at place object kind there is = subst (λ (k : ObjectKind). IsJournalOf plan place k (journal_of r (object_number place))) is (lawful.journals place object there)

  -- a function made by `OnceFunc` keeps its code, and one made by `OnceValue` its value, where each end of it in a list came to that
  pub func_keeps : (place : ℕ) (object : ObjectLine) (code : ℕ) → slice_get plan.objects place ≡ Some object → object.kind ≡ kinds.OnceFunc code
      → ((worker i : ℕ) (entry : ObjectEntry) (v : ℕ) (answer : ObjectReply) → slice_get (list_of r worker) i ≡ Some (Entered (object_number place) entry) → entry.deed ≡ Event (object_events.OnceFunc (End v)) answer → code ≡ v)
      → (worker i : ℕ) (entry : ObjectEntry) (event : ObjectEvent) (reply : OnceReply ℕ) → slice_get (list_of r worker) i ≡ Some (Entered (object_number place) entry) → entry.deed ≡ Event event (object_replies.OnceFunc reply) → OnceReplyIs code reply
  func_keeps place object code there kind ends worker i entry event reply at is =
      let number = object_number place in
      let (k, in_it, caller) = in_journal plan r lawful worker i number entry at in
      reply_is code reply (λ v told.
      let (j, end, given, stands, deed) = came_to object_events.OnceFunc object_replies.OnceFunc (λ a b same. cc) plan.workers (journal_of r number) (journal_at place object (kinds.OnceFunc code) there kind) k entry event reply v in_it is told in
      let (n, here) = in_list plan r lawful number j end stands in
      ends end.caller n end v (object_replies.OnceFunc given) here deed)

  pub value_keeps : (place : ℕ) (object : ObjectLine) (value : ℕ) → slice_get plan.objects place ≡ Some object → object.kind ≡ kinds.OnceValue value
      → ((worker i : ℕ) (entry : ObjectEntry) (v : ℕ) (answer : ObjectReply) → slice_get (list_of r worker) i ≡ Some (Entered (object_number place) entry) → entry.deed ≡ Event (object_events.OnceValue (End v)) answer → value ≡ v)
      → (worker i : ℕ) (entry : ObjectEntry) (event : ObjectEvent) (reply : OnceReply ℕ) → slice_get (list_of r worker) i ≡ Some (Entered (object_number place) entry) → entry.deed ≡ Event event (object_replies.OnceValue reply) → OnceReplyIs value reply
  value_keeps place object value there kind ends worker i entry event reply at is =
      let number = object_number place in
      let (k, in_it, caller) = in_journal plan r lawful worker i number entry at in
      reply_is value reply (λ v told.
      let (j, end, given, stands, deed) = came_to object_events.OnceValue object_replies.OnceValue (λ a b same. cc) plan.workers (journal_of r number) (journal_at place object (kinds.OnceValue value) there kind) k entry event reply v in_it is told in
      let (n, here) = in_list plan r lawful number j end stands in
      ends end.caller n end v (object_replies.OnceValue given) here deed)

  module _ (outcome : Outcome) (lines : List Line) (are : AreLines plan r outcome lines) where
    list_ends : (worker : ℕ) → EndsAre None (list_of r worker)
    list_ends worker = of (slice_get_cases lines worker).1 where
      of : ((line : Line) × (worker < length lines) × (slice_get lines worker ≡ Some line) × (get_or lines worker line ≡ line)) ⊎ ((length lines ≤ worker) × (slice_get lines worker ≡ None)) → EndsAre None (list_of r worker)
      of (inl (line, within, there, read)) =
          let list = ap (λ (lists : List (List Made)). get_or lists worker []) (sym are.lists) ∙ get_or_from_slice_get (map items_of lines) worker (items_of line) [] (slice_get-map items_of lines worker ∙ ap (option_map items_of) there) in
          subst (EndsAre None) (sym list) (line_ends plan worker line (are.each worker line there))
      of (inr (past, none)) =
          let long = length-map lines items_of in
          let list = ap (λ (lists : List (List Made)). get_or lists worker []) (sym are.lists) ∙ get_or_past (map items_of lines) worker [] (omega (arith, past, long)) in
          subst (EndsAre None) (sym list) tt

    -- a caller's ends on an object are no more than its beginnings there
    own_count : (object worker : ℕ) → end_count (by worker (journal_of r object)) ≤ run_count (by worker (journal_of r object))
    own_count object worker =
        let most = counted false (entries_in object (list_of r worker)) (opens_in object (list_of r worker) None false (λ is. absurd (none-some object is)) (list_ends worker)) in
        subst (λ (l : List ObjectEntry). end_count l ≤ run_count l) (lawful.once worker object) (omega (arith, most))

    -- whoever is told what a once keeps: in some list its function ended, and each end of it in any list came to that
    pub once_agrees : (place : ℕ) (object : ObjectLine) (atomic : ℕ) (delta : ℤ) → slice_get plan.objects place ≡ Some object → object.kind ≡ kinds.Once atomic delta
        → (worker i : ℕ) (entry : ObjectEntry) (v : ℤ) → slice_get (list_of r worker) i ≡ Some (Entered (object_number place) entry) → Keeps v entry.deed
        → ((ender j : ℕ) × (e : ObjectEntry) × (slice_get (list_of r ender) j ≡ Some (Entered (object_number place) e)) × IsEnd v e.deed)
        × ((other k : ℕ) (e : ObjectEntry) (u : ℤ) → slice_get (list_of r other) k ≡ Some (Entered (object_number place) e) → IsEnd u e.deed → u ≡ v)
    once_agrees place object atomic delta there kind worker i entry v at keeps =
        let number = object_number place in
        let journal = journal_of r number in
        let follows = journal_at place object (kinds.Once atomic delta) there kind in
        let (own, lifts, goes, edges) = follows in
        let once : run_count journal ≤ 1 = subst (λ (l : List ObjectEntry). run_count l ≤ 1) (sym lifts) (begun (start plan.workers) None own goes) in
        let (k, in_it, caller) = in_journal plan r lawful worker i number entry at in
        let (event, reply, is, told) = told_in v entry.deed keeps in
        let (j, end, given, stands, deed) = came_to object_events.Once object_replies.Once (λ a b same. cc) plan.workers journal follows k entry event reply v in_it is told in
        let (n, here) = in_list plan r lawful number j end stands in
        let ended : IsEnd v end.deed = subst (IsEnd v) (sym deed) refl in (
          (end.caller, n, end, here, ended),
          (λ other m e u at_e ends.
              let (l, in_too, also) = in_journal plan r lawful other m number e at_e in
              let same : e ≡ end = one_end journal (own_count number) once l j e end in_too stands (end_of u e.deed ends) (end_of v end.deed ended) in
              let came : IsEnd u (Event (object_events.Once (End v)) (object_replies.Once given)) = subst (IsEnd u) deed (subst (λ (x : ObjectEntry). IsEnd u x.deed) same ends) in
              sym came),
        )
