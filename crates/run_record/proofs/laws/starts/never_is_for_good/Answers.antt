use Rattle.std.proofs.Common.{◌≡◌, ◌⊎◌, inl, inr, ℕ, zero, suc, ◌+◌, ◌<◌, ◌≤◌, ◌==◌, Bool, true, false, ◌||◌, cond, List, [], ◌∷◌, ◌++◌, map, length, get_or, Some, slice_get, refl, sym, ap, ◌∙◌, subst, arith}
use Rattle.std.specs.Prelude.{nat_lt}
use Rattle.std.specs.List.{list_any}
use Rattle.std.proofs.lemmas.Bool.{false≢true, eq-eqb, cases_lt}
use Rattle.std.proofs.lemmas.Bool.Decides.{nat_tests}
use Rattle.std.proofs.lemmas.List.{get_or_past, length-map}
use Rattle.std.proofs.lemmas.Option.{none-some}
use Rattle.sync_model.specs.declared.journal.Entry.{Entry}
use Rattle.sync_model.specs.Journal.{by, log_of}
use Rattle.sync_model.specs.Log.{after}
use Rattle.script_calls.specs.declared.outcome.Outcome.{Outcome}
use Rattle.starts_core.specs.declared.starts.StartEvent.{StartEvent}
use Rattle.starts_core.specs.declared.starts.StartEvent.TheVariants.{Start, Leave}
use Rattle.starts_core.specs.declared.starts.StartPlace.{StartPlace}
use Rattle.starts_core.specs.declared.starts.StartPlace.TheVariants.{Live}
use Rattle.starts_core.specs.declared.starts.StartReply.{StartReply}
use Rattle.starts_core.specs.declared.starts.StartReply.TheVariants.{Done, Go, Never, Still}
use Rattle.starts_core.specs.StartsLaws.{Log, IsLog, StartInTurn, leave_by, start_by, stands_by, is_going}
use Rattle.starts_core.specs.StartsMachine.{StartsState, begun, first_place, next, made, callers_of, place_of}
use Rattle.workload.specs.Plan.{Plan, is_dormant, has_dormant}
use Rattle.run_record.specs.declared.entered.ObjectEvent.TheVariants as event
use Rattle.run_record.specs.declared.entered.ObjectReply.{ObjectReply}
use Rattle.run_record.specs.declared.entered.ObjectReply.TheVariants as reply
use Rattle.run_record.specs.Explains.{AreLines, IsRecordOf}
use Rattle.run_record.specs.Lines.{Line}
use Rattle.run_record.specs.Logs.{Shows}
use Rattle.run_record.specs.Objects.{starts_number}
use Rattle.run_record.specs.Parts.{lifted, lifted_deed}
use Rattle.run_record.specs.Record.{Record, ObjectEntry, journal_of, list_of, entries_in}
use Rattle.run_record.specs.StartsKind.{IsStartsJournal}
use Rattle.run_record.proofs.JournalParts.{cut_two, log_cut}
use Rattle.run_record.proofs.Lifts.{lifted_from, lifted_at}
use Rattle.run_record.proofs.StartItems.{started_in}
use Rattle.run_record.proofs.ListLemmas.{at_length}
use Rattle.run_record.proofs.StartLemmas.{of_starts}
use Rattle.run_record.proofs.StartTurns.{InTurn, IsStart, behind_all, turn_at, list_turns, by_raised, stands_alike, Logged, logged_at}
use Rattle.run_record.proofs.laws.starts.never_is_for_good.Goals as goal

abbrev raised : Entry StartEvent StartReply → ObjectEntry
raised x = lifted event.Starts reply.Starts x

-- a worker's own entries, where a journal is cut at one of them
by_cut : (worker : ℕ) (xs ys : List (Entry StartEvent StartReply)) (x : Entry StartEvent StartReply) → x.caller ≡ worker → by worker (xs ++ x ∷ ys) ≡ by worker xs ++ x ∷ by worker ys
by_cut worker [] ys x mine = ap (λ (b : Bool). cond b (x ∷ by worker ys) (by worker ys)) (eq-eqb x.caller worker mine)
by_cut worker (z ∷ xs) ys x mine = chosen (z.caller == worker) (by_cut worker xs ys x mine) where
  chosen : (b : Bool) → by worker (xs ++ x ∷ ys) ≡ by worker xs ++ x ∷ by worker ys → cond b (z ∷ by worker (xs ++ x ∷ ys)) (by worker (xs ++ x ∷ ys)) ≡ cond b (z ∷ by worker xs) (by worker xs) ++ x ∷ by worker ys
  chosen true rest = ap (λ (es : List (Entry StartEvent StartReply)). z ∷ es) rest
  chosen false rest = rest

map_cut : (xs ys : List (Entry StartEvent StartReply)) (x : Entry StartEvent StartReply) → map raised (xs ++ x ∷ ys) ≡ map raised xs ++ raised x ∷ map raised ys
map_cut [] ys x = refl
map_cut (z ∷ xs) ys x = ap (λ (es : List ObjectEntry). raised z ∷ es) (map_cut xs ys x)

-- where a worker stands at the beginning
place_is : (dormant : List Bool) (worker : ℕ) → worker < length dormant → place_of (begun dormant) worker ≡ first_place (get_or dormant worker false)
place_is [] worker low = absurd (omega (arith, low))
place_is (b ∷ dormant) zero low = refl
place_is (b ∷ dormant) (suc worker) low = place_is dormant worker (omega (arith, low))

lt_false : (m n : ℕ) → n ≤ m → nat_lt m n ≡ false
lt_false m n most = grind (arith, nat_tests)

-- a caller that isn't one of the workers is answered `Still`
module _ (keeps : (state : StartsState) (caller : ℕ) (event : StartEvent) → callers_of (next state caller event).0 ≡ callers_of state) where
  callers_after : (state : StartsState) (log : Log) → callers_of (after next state log) ≡ callers_of state
  callers_after state [] = refl
  callers_after state (e ∷ log) = callers_after (next state e.caller e.event).0 log ∙ keeps state e.caller e.event

  past_still : (dormant : List Bool) (before : Log) (caller : ℕ) (event : StartEvent) → length dormant ≤ caller → (next (after next (begun dormant) before) caller event).1 ≡ Still
  past_still dormant before caller event past =
      let state = after next (begun dormant) before in
      let count = callers_after (begun dormant) before in
      let long = length-map dormant first_place in
      ap (λ (b : Bool). (cond b (made state caller event) (state, Still)).1) (lt_false caller (callers_of state) (omega (arith, past, count, long)))

abbrev is_done : StartReply → Bool
is_done Done = true
is_done Go = false
is_done Never = false
is_done Still = false

abbrev reply_in : StartReply → ObjectReply → StartReply
reply_in other (reply.Starts given) = given
reply_in other given = other

module _ (plan : Plan) (r : Record) (outcome : Outcome) (lines : List Line) (are : AreLines plan r outcome lines) (lawful : IsRecordOf plan r) (own : List (Entry StartEvent StartReply)) (is : journal_of r (starts_number plan) ≡ map raised own) (follows : IsLog plan.dormant (log_of own))
    (keeps : (state : StartsState) (caller : ℕ) (event : StartEvent) → callers_of (next state caller event).0 ≡ callers_of state)
    (told : (before rest : Log) (caller : ℕ) (event : StartEvent) (given : StartReply) → IsLog plan.dormant (before ++ record { caller = caller; event = event; reply = given } ∷ rest) → given ≡ (next (after next (begun plan.dormant) before) caller event).1) where
  in_turn : StartInTurn plan.dormant (log_of own)
  in_turn before rest caller worker given parts = by_number (cases_lt caller (length plan.dormant)) where
    l : Logged own before rest (start_by caller worker given)
    l = logged_at own before rest (start_by caller worker given) parts

    entries : entries_in (starts_number plan) (list_of r caller) ≡ map raised (by caller l.front) ++ raised l.entry ∷ map raised (by caller l.behind)
    entries = lawful.once caller (starts_number plan)
        ∙ (ap (by caller) is ∙ (by_raised caller own
        ∙ (ap (λ (es : List (Entry StartEvent StartReply)). map raised (by caller es)) l.parts
        ∙ (ap (map raised) (by_cut caller l.front l.behind l.entry l.caller) ∙ map_cut (by caller l.front) (by caller l.behind) l.entry))))

    live : behind_all (first_place (is_dormant plan caller)) (map raised (by caller l.front)) ≡ Live
    live = turn_at (first_place (is_dormant plan caller)) (map raised (by caller l.front)) (map raised (by caller l.behind)) (raised l.entry)
        (subst (InTurn (first_place (is_dormant plan caller))) entries (list_turns plan r outcome lines are caller)) (subst IsStart (sym (ap (lifted_deed event.Starts reply.Starts) l.deed)) tt)

    -- by the list it was done
    done : given ≡ Done
    done =
        let at : slice_get (journal_of r (starts_number plan)) (length l.front) ≡ Some (raised l.entry) =
        ap (λ (es : List ObjectEntry). slice_get es (length l.front)) is
        ∙ lifted_at event.Starts reply.Starts own (length l.front) l.entry (subst (λ (es : List (Entry StartEvent StartReply)). slice_get es (length l.front) ≡ Some l.entry) (sym l.parts) (at_length l.front l.behind l.entry)) in
        ap (reply_in given) (started_in plan r outcome lines are lawful (starts_number plan) (length l.front) worker (reply.Starts given) (raised l.entry) at (ap (lifted_deed event.Starts reply.Starts) l.deed)).1

    by_number : (caller < length plan.dormant) ⊎ (length plan.dormant ≤ caller) → stands_by plan.dormant caller before ≡ Live
    by_number (inl low) =
        ap (λ (es : Log). stands_by plan.dormant caller es) (sym l.earlier)
        ∙ (stands_alike caller (place_of (begun plan.dormant) caller) l.front
        ∙ (ap (λ (s : StartPlace). behind_all s (map raised (by caller l.front))) (place_is plan.dormant caller low) ∙ live))
    by_number (inr past) =
        let still = told before rest caller (Start worker) given (subst (IsLog plan.dormant) parts follows) ∙ past_still keeps plan.dormant before caller (Start worker) past in
        absurd (false≢true (ap is_done (sym still ∙ done)))

-- where nobody waits, Starts has no journal
no_journal : (plan : Plan) (r : Record) → IsRecordOf plan r → has_dormant plan ≡ false → journal_of r (starts_number plan) ≡ []
no_journal plan r lawful none = get_or_past r.journals (starts_number plan) [] (let all = lawful.objects ∙ ap (λ (b : Bool). starts_number plan + cond {A = ℕ} b 1 0) none in omega (arith, all))

no_starts : (dormant : List Bool) → StartInTurn dormant []
no_starts dormant [] rest caller worker given parts = absurd cc
no_starts dormant (e ∷ before) rest caller worker given parts = absurd cc

pub returns-clause-in_turn : goal.returns-clause-in_turn
returns-clause-in_turn c plan r outcome lines are lawful = by_waiting (has_dormant plan) refl where
  by_waiting : (b : Bool) → has_dormant plan ≡ b → (log : Log) × Shows event.Starts reply.Starts (journal_of r (starts_number plan)) log × StartInTurn plan.dormant log
  by_waiting false none = ([], ([], no_journal plan r lawful none, refl), no_starts plan.dormant)
  by_waiting true some =
      let j = lawful.starts some in (
        log_of j.0,
        (j.0, j.1, refl),
        in_turn plan r outcome lines are lawful j.0 j.1 (c.journal_is_log.ensures (begun plan.dormant) j.0 j.2).0 c.workers_go_from_dormant_to_live_to_ended.ensures.callers
            (λ before rest caller event given log. c.replies_are_the_machines.ensures (begun plan.dormant) before rest caller event given log),
      )

any_there : (xs ys : Log) (y : _) → is_going y ≡ true → list_any is_going (xs ++ y ∷ ys) ≡ true
any_there [] ys y is = ap (λ (b : Bool). b || list_any is_going ys) is
any_there (x ∷ xs) ys y is = either (is_going x) (any_there xs ys y is) where
  either : (b : Bool) → list_any is_going (xs ++ y ∷ ys) ≡ true → (b || list_any is_going (xs ++ y ∷ ys)) ≡ true
  either true there = refl
  either false there = there

pub returns-clause-nobody_goes : goal.returns-clause-nobody_goes
returns-clause-nobody_goes c plan r outcome lines m n told going are lawful before at_told at_going is_told is_going = by_waiting (has_dormant plan) refl where
  of_journal : IsStartsJournal plan.dormant (journal_of r (starts_number plan)) → ⊥
  of_journal j =
      let follows = (c.journal_is_log.ensures (begun plan.dormant) j.0 j.2).0 in
      let x = lifted_from event.Starts reply.Starts j.0 m told (subst (λ (es : List ObjectEntry). slice_get es m ≡ Some told) j.1 at_told) in
      let y = lifted_from event.Starts reply.Starts j.0 n going (subst (λ (es : List ObjectEntry). slice_get es n ≡ Some going) j.1 at_going) in
      let never = of_starts x.0.deed Leave Never (ap (λ (e : ObjectEntry). e.deed) x.2 ∙ is_told) in
      let goes = of_starts y.0.deed Leave Go (ap (λ (e : ObjectEntry). e.deed) y.2 ∙ is_going) in
      let cut = cut_two j.0 m n x.0 y.0 before x.1 y.1 in
      let parts : log_of j.0 ≡ log_of cut.front ++ leave_by x.0.caller Never ∷ (log_of cut.mid ++ leave_by y.0.caller Go ∷ log_of cut.rest) =
      ap log_of cut.parts ∙ log_cut cut.front cut.mid cut.rest x.0 y.0 Leave Leave Never Go never goes in
      let turns = in_turn plan r outcome lines are lawful j.0 j.1 follows c.workers_go_from_dormant_to_live_to_ended.ensures.callers
      (λ earlier rest caller event given log. c.replies_are_the_machines.ensures (begun plan.dormant) earlier rest caller event given log) in
      let none = c.never_is_for_good.ensures.in_turn plan.dormant (log_of cut.front) (log_of cut.mid ++ leave_by y.0.caller Go ∷ log_of cut.rest) x.0.caller
      (subst (IsLog plan.dormant) parts follows) (subst (StartInTurn plan.dormant) parts turns) in
      false≢true (sym none ∙ any_there (log_of cut.mid) (log_of cut.rest) (leave_by y.0.caller Go) refl)

  by_waiting : (b : Bool) → has_dormant plan ≡ b → ⊥
  by_waiting true some = of_journal (lawful.starts some)
  by_waiting false none = none-some told (subst (λ (es : List ObjectEntry). slice_get es m ≡ Some told) (no_journal plan r lawful none) at_told)
