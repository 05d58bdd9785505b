-- What is done on Starts, by the items of each call, and by what stands around a script.
use Rattle.std.proofs.Common.{◌≡◌, ℕ, ◌+◌, List, [], ◌∷◌, ◌++◌, map, length, get_or, Some, slice_get, refl, sym, ap, ◌∙◌, subst}
use Rattle.std.specs.Prelude.{Ok, Err}
use Rattle.std.specs.List.{flat_map}
use Rattle.sync_model.specs.declared.answer.Answer.TheVariants.{Done, Halted}
use Rattle.sync_model.specs.declared.item.Item.{Item}
use Rattle.sync_model.specs.declared.item.SharedCall.{SharedCall}
use Rattle.sync_model.specs.declared.item.SharedReply.{SharedReply}
use Rattle.sync_model.specs.declared.journal.Deed.{Deed}
use Rattle.sync_model.specs.declared.journal.Deed.TheVariants.{Event, Refused, Halt}
use Rattle.sync_model.specs.declared.journal.Entry.{Entry}
use Rattle.sync_types.specs.declared.misuse.Misuse.{Misuse}
use Rattle.script_calls.specs.declared.call.Call.{Call}
use Rattle.script_calls.specs.declared.outcome.Outcome.{Outcome}
use Rattle.script_calls.specs.Runs.{RunsAlong}
use Rattle.script_calls.specs.Starts.{started_by}
use Rattle.protocols.specs.GroupStages.{group_event, group_meaning}
use Rattle.protocols.specs.Spelling.{CallAnswer, IsFirstDeed, Spells}
use Rattle.protocols.specs.declared.step.Step.{Step}
use Rattle.protocols.specs.declared.wait_group.GroupStage.TheVariants as group_stage
use Rattle.starts_core.specs.declared.protocol.StartsOutcome.{StartsOutcome}
use Rattle.starts_core.specs.declared.protocol.StartsStage.TheVariants as stage
use Rattle.starts_core.specs.declared.starts.StartEvent.{StartEvent}
use Rattle.starts_core.specs.declared.starts.StartEvent.TheVariants.{Start, End, Leave}
use Rattle.starts_core.specs.declared.starts.StartReply.{StartReply}
use Rattle.starts_core.specs.declared.starts.StartReply.TheVariants as answers
use Rattle.starts_core.specs.StartsStages.{starts_event, starts_meaning}
use Rattle.workload.specs.Plan.{Plan}
use Rattle.run_record.specs.declared.entered.ObjectEvent.{ObjectEvent}
use Rattle.run_record.specs.declared.entered.ObjectEvent.TheVariants as event
use Rattle.run_record.specs.declared.entered.ObjectReply.{ObjectReply}
use Rattle.run_record.specs.declared.entered.ObjectReply.TheVariants as reply
use Rattle.run_record.specs.declared.made.Made.{Made}
use Rattle.run_record.specs.declared.made.Made.TheVariants.{Shared, Entered}
use Rattle.run_record.specs.Calls.{SpellsCall}
use Rattle.run_record.specs.Explains.{AreLines, IsRecordOf}
use Rattle.run_record.specs.Lines.{SpeltCall, LineEnd, whole, misused, halted, unfinished, stayed, Line, calls_made, items_of, IsHalt, AreHalts, AreSpelt, IsLineOf}
use Rattle.run_record.specs.Parts.{Places, lifted, lifted_deed, stages}
use Rattle.run_record.specs.Record.{Record, ObjectEntry, journal_of, list_of, shared_in}
use Rattle.run_record.specs.StartsKind.{starts_part, opening, closing}
use Rattle.run_record.proofs.CallParts.{HoldsOfParts, holds_of_call, of_fly, of_opening, of_closing}
use Rattle.run_record.proofs.EachItem.{EachOf, through, of_entries, of_stages}
use Rattle.run_record.proofs.GoLemmas.{Makes, starts_it, ends_it}
use Rattle.run_record.proofs.Having.{Has, Each, OfEntry, each_both, each_at, place_of, by_has, has_entered, has_in}
use Rattle.run_record.proofs.LineParts.{each_first, each_last}
use Rattle.run_record.proofs.PairLemmas.{each_from}
use Rattle.run_record.proofs.Limits.{item_of}
use Rattle.run_record.proofs.Returning.{map_none}
use Rattle.run_record.proofs.RunLines.{each_along}

-- Of the events of Starts it is only a start, which was made, of such a worker; or another one, where that may be
module _ (P : ℕ → Type 0) (M : Type 0) where
  abbrev pub MayDo : Deed ObjectEvent ObjectReply → Type 0
  MayDo (Event (event.Starts (Start worker)) r) = P worker × (r ≡ reply.Starts answers.Done)
  MayDo (Event (event.Starts End) r) = M
  MayDo (Event (event.Starts Leave) r) = M
  MayDo (Event e r) = Unit {0}
  MayDo (Refused e misuse) = Unit {0}
  MayDo (Halt misuse) = Unit {0}

  abbrev pub Does : Made → Type 0
  Does (Shared x) = Unit {0}
  Does (Entered object entry) = MayDo entry.deed

-- where more may be done
module _ (P P' : ℕ → Type 0) (M M' : Type 0) (starts_more : (worker : ℕ) → P worker → P' worker) (more : M → M') where
  wider_deed : (d : Deed ObjectEvent ObjectReply) → MayDo P M d → MayDo P' M' d
  wider_deed (Event (event.Starts (Start worker)) r) (is, made) = (starts_more worker is, made)
  wider_deed (Event (event.Starts End) r) is = more is
  wider_deed (Event (event.Starts Leave) r) is = more is
  wider_deed (Event e r) is = tt
  wider_deed (Refused e misuse) is = tt
  wider_deed (Halt misuse) is = tt

  wider_item : (x : Made) → Does P M x → Does P' M' x
  wider_item (Shared x) is = tt
  wider_item (Entered object entry) is = wider_deed entry.deed is

  pub wider : (items : List Made) → Each (Does P M) items → Each (Does P' M') items
  wider [] each = tt
  wider (x ∷ items) each = (wider_item x each.0, wider items each.1)

module _ (P : ℕ → Type 0) (M : Type 0) where
  -- entries of other kinds do nothing on Starts
  module _ {E R : Type 0} (event : E → ObjectEvent) (reply : R → ObjectReply) (elsewhere : (e : E) (r : R) → MayDo P M (Event (event e) (reply r))) where
    other_deed : (d : Deed E R) → MayDo P M (lifted_deed event reply d)
    other_deed (Event e r) = elsewhere e r
    other_deed (Refused e misuse) = tt
    other_deed (Halt misuse) = tt

    others : (object : ℕ) (entries : List (Entry E R)) → Each (Does P M) (map (λ entry. Entered object (lifted event reply entry)) entries)
    others object = of_entries (Does P M) event reply object (λ entry. other_deed entry.deed)

    other_stages : {G O : Type 0} (event_of : G → ℕ → E) (meaning : G → R → Step G O) (object : ℕ) (from : G) → EachOf (Does P M) (stages event reply event_of meaning object from)
    other_stages event_of meaning object from = of_stages (Does P M) event reply object event_of meaning from (λ entry. other_deed entry.deed)

  shared_only : (made : List Item) → Each (Does P M) (map Shared made)
  shared_only [] = tt
  shared_only (x ∷ made) = (tt, shared_only made)

  by_places : (calls : List (SharedCall × SharedReply)) (items : List Made) → Places calls items → Each (Does P M) items
  by_places calls items (made, is, are) = subst (Each (Does P M)) (sym is) (shared_only made)

  abbrev done_on_starts : HoldsOfParts (λ O part. EachOf (Does P M) part)
  done_on_starts = record {
    through = through (Does P M);
    mutex = λ object from. other_stages event.Mutex reply.Mutex (λ e r. tt) _ _ object from;
    rw_mutex = λ object from. other_stages event.RwMutex reply.RwMutex (λ e r. tt) _ _ object from;
    writes = λ object items answer locks. subst (Each (Does P M)) (sym locks.1) (others event.RwMutex reply.RwMutex (λ e r. tt) object locks.0);
    cond = λ object from. other_stages event.Cond reply.Cond (λ e r. tt) _ _ object from;
    wait_group = λ object from. other_stages event.WaitGroup reply.WaitGroup (λ e r. tt) _ _ object from;
    once = λ object from. other_stages event.Once reply.Once (λ e r. tt) _ _ object from;
    func = λ object from. other_stages event.OnceFunc reply.OnceFunc (λ e r. tt) _ _ object from;
    value = λ object from. other_stages event.OnceValue reply.OnceValue (λ e r. tt) _ _ object from;
    pool = λ object from. other_stages event.Pool reply.Pool (λ e r. tt) _ _ object from;
    sema = λ object from. other_stages event.Sema reply.Sema (λ e r. tt) _ _ object from;
    added = λ a amount items answer spelt. by_places _ items spelt.1;
    atomic = λ a call items answer spelt. by_places _ items spelt.1;
    range = λ keys m begin items answer spelt. by_places _ items spelt.2;
  }

  one_start : (object worker : ℕ) → P worker → (items : List Made) (answer : CallAnswer StartsOutcome) → Makes object (Start worker) items answer → Each (Does P M) items
  one_start object worker is items (Done (Ok outcome)) one = subst (Each (Does P M)) (sym one.are) (subst (MayDo P M) (sym one.deed) (is, refl), tt)
  one_start object worker is items (Done (Err misuse)) one = absurd one
  one_start object worker is items (Halted misuse) one = subst (Each (Does P M)) (sym one.are) (subst (MayDo P M) (sym one.deed) tt, tt)

  -- a call starts whom it names, and does nothing else on Starts
  pub of_call : (plan : Plan) (worker before : ℕ) (call : Call) → ((started : ℕ) → started_by call.operation ≡ Some started → P started) → EachOf (Does P M) (SpellsCall plan worker before call)
  of_call plan worker before call starts =
      holds_of_call (λ O part. EachOf (Does P M) part) done_on_starts plan worker before call (λ m op is items answer spelt. by_places _ items spelt.1)
      (λ object started is items answer made. one_start object started (starts started is) items answer (starts_it object started items answer made))
      (λ object atomic amount key there is called. of_fly (λ O part. EachOf (Does P M) part) (through (Does P M)) _ _ amount _ (λ from. other_stages event.Flight reply.Flight (λ e r. tt) _ _ _ from) (done_on_starts.added _ amount))

-- it starts nobody
abbrev pub StartsNobody : Made → Type 0
StartsNobody x = Does (λ worker. ⊥) (Unit {0}) x

abbrev entry_of : ℕ → Entry StartEvent StartReply → Made
entry_of object entry = Entered object (lifted event.Starts reply.Starts entry)

abbrev nobody_by : Deed StartEvent StartReply → Type 0
nobody_by d = MayDo (λ worker. ⊥) (Unit {0}) (lifted_deed event.Starts reply.Starts d)

waits_nobody : (object : ℕ) (entries : List (Entry StartEvent StartReply)) (answer : CallAnswer StartsOutcome) → Spells starts_event starts_meaning stage.WaitStart (map (λ entry. entry.deed) entries) answer → Each StartsNobody (map (entry_of object) entries)
waits_nobody object [] answer spelt = absurd spelt
waits_nobody object (x ∷ rest) answer spelt = by_deed (λ later. waits_nobody object rest answer later) x.deed refl spelt where
  none_behind : map (λ (entry : Entry StartEvent StartReply). entry.deed) rest ≡ [] → Each StartsNobody (map (entry_of object) rest)
  none_behind none = subst (λ (es : List (Entry StartEvent StartReply)). Each StartsNobody (map (entry_of object) es)) (sym (map_none (λ (entry : Entry StartEvent StartReply). entry.deed) rest none)) tt

  leaves : (e : StartEvent) (r : StartReply) → x.deed ≡ Event e r → e ≡ Leave → nobody_by x.deed
  leaves e r is at = subst nobody_by (sym (is ∙ ap (λ (f : StartEvent). Event f r) at)) tt

  by_deed : (Spells starts_event starts_meaning stage.WaitStart (map (λ entry. entry.deed) rest) answer → Each StartsNobody (map (entry_of object) rest)) → (d : Deed StartEvent StartReply) → x.deed ≡ d
      → IsFirstDeed starts_event starts_meaning stage.WaitStart d (map (λ entry. entry.deed) rest) (λ later. Spells starts_event starts_meaning later (map (λ entry. entry.deed) rest) answer) answer → Each StartsNobody (entry_of object x ∷ map (entry_of object) rest)
  by_deed later (Event e answers.Done) is (at, goes) = absurd goes
  by_deed later (Event e answers.Go) is (at, goes) = (leaves e answers.Go is at.1, none_behind goes.0)
  by_deed later (Event e answers.Never) is (at, goes) = (leaves e answers.Never is at.1, none_behind goes.0)
  by_deed later (Event e answers.Still) is (at, goes) = (leaves e answers.Still is at.1, later goes)
  by_deed later (Refused e misuse) is (at, none, halts) = (subst nobody_by (sym is) tt, none_behind none)
  by_deed later (Halt misuse) is first = absurd first

one_end : (object : ℕ) (items : List Made) (answer : CallAnswer StartsOutcome) → Makes object End items answer → Each StartsNobody items
one_end object items (Done (Ok outcome)) one = subst (Each StartsNobody) (sym one.are) (subst (MayDo (λ worker. ⊥) (Unit {0})) (sym one.deed) tt, tt)
one_end object items (Done (Err misuse)) one = absurd one
one_end object items (Halted misuse) one = subst (Each StartsNobody) (sym one.are) (subst (MayDo (λ worker. ⊥) (Unit {0})) (sym one.deed) tt, tt)

-- what stands before a script starts nobody, nor what stands behind it, nor a halt
pub opening_nobody : (plan : Plan) (worker : ℕ) → EachOf StartsNobody (opening plan worker)
opening_nobody plan worker = of_opening (λ O part. EachOf StartsNobody part) (through StartsNobody) plan worker (λ object. waits object) where
  waits : (object : ℕ) → EachOf StartsNobody (starts_part object stage.WaitStart)
  waits object items answer (entries, is, spelt) = subst (Each StartsNobody) (sym is) (waits_nobody object entries answer spelt)

pub closing_nobody : (plan : Plan) (worker : ℕ) → EachOf StartsNobody (closing plan worker)
closing_nobody plan worker = of_closing (λ O part. EachOf StartsNobody part) (through StartsNobody) plan worker
    (λ object. other_stages (λ worker. ⊥) (Unit {0}) event.WaitGroup reply.WaitGroup (λ e r. tt) group_event group_meaning object group_stage.Done)
    (λ object items answer made. one_end object items answer (ends_it object items answer made))

halt_nobody : (misuse : Misuse) (x : Made) → IsHalt misuse x → StartsNobody x
halt_nobody misuse (Shared x) is = tt
halt_nobody misuse (Entered object entry) is = subst (MayDo (λ worker. ⊥) (Unit {0})) (sym is) tt

pub halts_nobody : (ending : LineEnd) (halts : List Made) → AreHalts ending halts → Each StartsNobody halts
halts_nobody (misused misuse) halts all = each_from StartsNobody halts (λ i x at. halt_nobody misuse x (item_of (IsHalt misuse) halts i x all at))
halts_nobody whole halts none = subst (Each StartsNobody) (sym none) tt
halts_nobody (halted misuse) halts none = subst (Each StartsNobody) (sym none) tt
halts_nobody unfinished halts none = subst (Each StartsNobody) (sym none) tt
halts_nobody (stayed stay) halts none = subst (Each StartsNobody) (sym none) tt

-- a call of the script starts the worker
abbrev pub IsStartedIn : List Call → ℕ → Type 0
IsStartedIn script started = (i : ℕ) × (call : Call) × (slice_get script i ≡ Some call) × (started_by call.operation ≡ Some started)

-- whoever is started in a list is started by a call of its script
module _ (plan : Plan) (worker : ℕ) (script : List Call) where
  abbrev OfScript : Made → Type 0
  OfScript x = Does (IsStartedIn script) (Unit {0}) x

  abbrev IsOfScript : Call → Type 0
  IsOfScript call = (started : ℕ) → started_by call.operation ≡ Some started → IsStartedIn script started

  of_nobody : (items : List Made) → Each StartsNobody items → Each OfScript items
  of_nobody items each = wider (λ worker. ⊥) (IsStartedIn script) (Unit {0}) (Unit {0}) (λ worker none. absurd none) (λ more. more) items each

  spelt_of : (before : ℕ) (spelt : List SpeltCall) → Each IsOfScript (map (λ s. s.call) spelt) → AreSpelt plan worker before spelt → Each OfScript (flat_map (λ s. s.items) spelt)
  spelt_of before [] each are = tt
  spelt_of before (s ∷ spelt) each are = each_both OfScript s.items (flat_map (λ t. t.items) spelt)
      (of_call (IsStartedIn script) (Unit {0}) plan worker before s.call each.0 s.items (Done (Ok s.reply)) are.0) (spelt_of (before + length (shared_in s.items)) spelt each.1 are.1)

  pub line_of : (line : Line) → IsLineOf plan worker line → RunsAlong script (calls_made line) line.rest → Each OfScript (items_of line)
  line_of line is run =
      let calls = flat_map (λ s. s.items) line.spelt in
      let along = each_along IsOfScript line.spelt script line.rest (each_from IsOfScript script (λ i call at started starts. (i, call, at, starts))) run in
      each_both OfScript line.first (calls ++ (line.last ++ line.halts)) (each_first OfScript plan worker (λ items answer opens. of_nobody items (opening_nobody plan worker items answer opens)) line.ending line.spelt line.first is.opens)
      (each_both OfScript calls (line.last ++ line.halts)
      (spelt_of 0 line.spelt along.0 is.calls)
      (each_both OfScript line.last line.halts
      (each_last OfScript plan worker (λ items answer closes. of_nobody items (closing_nobody plan worker items answer closes)) (length (shared_in calls)) line.ending line.rest line.last
      (λ call behind is_next items answer spelt. of_call (IsStartedIn script) (Unit {0}) plan worker (length (shared_in calls)) call (subst (Each IsOfScript) is_next along.1).0 items answer spelt) is.ends)
      (of_nobody line.halts (halts_nobody line.ending line.halts is.halts))))

-- an entry that starts a worker, and was answered so
abbrev pub IsStartOf : ℕ → ObjectReply → ObjectEntry → Type 0
IsStartOf started answer entry = entry.deed ≡ Event (event.Starts (Start started)) answer

-- in a record it is made by a call of its caller's script
module _ (plan : Plan) (r : Record) (outcome : Outcome) (lines : List Line) (are : AreLines plan r outcome lines) (lawful : IsRecordOf plan r) where
  abbrev pub IsMadeBy : List Call → ℕ → ObjectReply → Type 0
  IsMadeBy script started answer = IsStartedIn script started × (answer ≡ reply.Starts answers.Done)

  of_entry : (script : List Call) (started : ℕ) (answer : ObjectReply) (x : Made) → OfEntry (IsStartOf started answer) x → Does (IsStartedIn script) (Unit {0}) x → IsMadeBy script started answer
  of_entry script started answer (Shared x) is does = absurd is
  of_entry script started answer (Entered object entry) is does = subst (MayDo (IsStartedIn script) (Unit {0})) is does

  pub started_in : (object n started : ℕ) (answer : ObjectReply) (entry : ObjectEntry) → slice_get (journal_of r object) n ≡ Some entry → IsStartOf started answer entry → IsMadeBy (get_or plan.scripts entry.caller []) started answer
  started_in object n started answer entry at is = in_line (has_in items_of (Has (OfEntry (IsStartOf started answer))) [] lines entry.caller (λ none. none) (subst (λ (l : List (List Made)). Has (OfEntry (IsStartOf started answer)) (get_or l entry.caller [])) (sym are.lists) has)) where
    has : Has (OfEntry (IsStartOf started answer)) (list_of r entry.caller)
    has = has_entered (IsStartOf started answer) object (list_of r entry.caller)
        (subst (λ (es : List ObjectEntry). Has (IsStartOf started answer) es) (sym (lawful.once entry.caller object)) (by_has (IsStartOf started answer) (journal_of r object) n entry at is))

    in_line : (line : Line) × (slice_get lines entry.caller ≡ Some line) × Has (OfEntry (IsStartOf started answer)) (items_of line) → IsMadeBy (get_or plan.scripts entry.caller []) started answer
    in_line (line, at_line, has_it) =
        let script = get_or plan.scripts entry.caller [] in
        let found = place_of (OfEntry (IsStartOf started answer)) (items_of line) has_it in
        of_entry script started answer found.1 found.3
        (each_at (Does (IsStartedIn script) (Unit {0})) (items_of line) found.0 found.1 found.2 (line_of plan entry.caller script line (are.each entry.caller line at_line) (are.runs entry.caller line at_line)))
