use Rattle.std.proofs.Common.{◌≡◌, ℕ, List, [], ◌∷◌, ◌++◌, map, length, get_or, Some, slice_get, sym, ap, ◌∙◌, subst, arith, append_assoc}
use Rattle.std.specs.Prelude.{option_map}
use Rattle.std.proofs.lemmas.Option.{slice_get_within, slice_get-map}
use Rattle.script_calls.specs.declared.call.Call.{Call}
use Rattle.script_calls.specs.Runs.{RunsAlong}
use Rattle.sync_types.specs.declared.wait_call.WaitGroupCall.TheVariants.{Wait}
use Rattle.sync_model.specs.Front.{AtLeast}
use Rattle.sync_model.specs.Journal.{is_such}
use Rattle.workload.specs.Plan.{Plan}
use Rattle.run_record.specs.declared.made.Made.{Made}
use Rattle.run_record.specs.declared.made.Made.TheVariants.{Entered}
use Rattle.run_record.specs.Edges.{frees}
use Rattle.run_record.specs.Explains.{IsRecordOf}
use Rattle.run_record.specs.Lines.{SpeltCall, Line, calls_made, items_of}
use Rattle.run_record.specs.Objects.{starts_number}
use Rattle.run_record.specs.Record.{Record, ObjectEntry, object_number, journal_of, list_of, entries_in}
use Rattle.run_record.proofs.CondWaits.{spelt_at}
use Rattle.run_record.proofs.EdgeLemmas.{of_object}
use Rattle.run_record.proofs.Having.{each_at, get_at}
use Rattle.run_record.proofs.JournalParts.{get_left}
use Rattle.run_record.proofs.ListLemmas.{at_length, list_there}
use Rattle.run_record.proofs.ListOrder.{StandsIn, entries_both, entries_first, stands}
use Rattle.run_record.proofs.PairLemmas.{each_from}
use Rattle.run_record.proofs.RunLines.{each_along}
use Rattle.run_record.proofs.laws.starts.a_wait_knows_what_all_that_were_started_under_it_had_done.Goals as goal

-- an entry of a list stands in its object's journal
in_journal : (plan : Plan) (r : Record) (worker object : ℕ) (entry : ObjectEntry) (earlier later : List Made) → IsRecordOf plan r → list_of r worker ≡ earlier ++ Entered object entry ∷ later
    → StandsIn worker (journal_of r object) (entries_in object earlier) entry (entries_in object later)
in_journal plan r worker object entry earlier later lawful is = stands worker (journal_of r object) (entries_in object earlier) (entries_in object later) entry
    (sym (lawful.once worker object) ∙ (ap (λ (l : List Made). entries_in object l) is ∙ (entries_both object earlier (Entered object entry ∷ later) ∙ ap (λ (es : List ObjectEntry). entries_in object earlier ++ es) (entries_first object entry later))))

pub returns-clause-done : goal.returns-clause-done
returns-clause-done c plan r outcome lines worker group line are lawful at waits ending under =
    let ends = c.who_was_started_is_done_on_its_group.ensures.ends plan r outcome lines worker group line are at waits ending under in
    let there = in_journal plan r worker (object_number group) ends.done ends.earlier (Entered (starts_number plan) ends.ended ∷ []) lawful ends.are in
    (there.place, record { ends = ends; at = there.at; caller = there.caller })

-- a completed call stands in its script
abbrev IsIn : List Call → Call → Type 0
IsIn script call = (k : ℕ) × (slice_get script k ≡ Some call)

in_script : (script : List Call) (line : Line) (i : ℕ) (s : SpeltCall) → RunsAlong script (calls_made line) line.rest → slice_get line.spelt i ≡ Some s → IsIn script s.call
in_script script line i s run at =
    each_at (IsIn script) (map (λ t. t.call) line.spelt) i s.call (slice_get-map (λ (t : SpeltCall). t.call) line.spelt i ∙ ap (option_map (λ (t : SpeltCall). t.call)) at)
    (each_along (IsIn script) line.spelt script line.rest (each_from (IsIn script) script (λ k call there. (k, there))) run).0

pub returns-clause-gone : goal.returns-clause-gone
returns-clause-gone c plan r outcome lines worker starter i line before go are lawful at waits ending at_starter at_go is one =
    let script = get_or plan.scripts starter [] in
    let there = in_script script before i go (are.runs starter before at_starter) at_go in
    let under = c.who_starts_whom.ensures.group worker starter there.0 plan.scripts script go.call one (list_there plan.scripts starter there.0 go.call there.1) there.1 is.goes in
    returns-clause-done c plan r outcome lines worker go.call.object line are lawful at waits ending under

pub returns-clause-returned : goal.returns-clause-returned
returns-clause-returned c plan r outcome lines worker i declared line wait object are lawful at_line at_wait some kind waits =
    let group = object_number wait.call.object in
    let s = spelt_at plan worker 0 line.spelt i wait (are.each worker line at_line).calls at_wait in
    let taken = c.what_a_wait_group_call_has_done.ensures plan worker s.before declared object wait.call Wait wait.items wait.reply some kind waits s.spells in
    let ends = taken.2 in
    let list = ap (λ (lists : List (List Made)). get_or lists worker []) (sym are.lists) ∙ get_at items_of [] lines worker line at_line in
    let behind = line.last ++ line.halts in
    let parts = list ∙ (ap (λ (l : List Made). line.first ++ (l ++ behind)) s.are ∙ cut line.first s.front wait.items s.rest behind ends.earlier (Entered group ends.last) ends.are) in
    let there = in_journal plan r worker group ends.last (line.first ++ (s.front ++ ends.earlier)) (s.rest ++ behind) lawful parts in
    (there.place, record { ends = ends; at = there.at; caller = there.caller })
  where
    cut : (first front items rest behind earlier : List Made) (x : Made) → items ≡ earlier ++ x ∷ [] → first ++ ((front ++ (items ++ rest)) ++ behind) ≡ (first ++ (front ++ earlier)) ++ x ∷ (rest ++ behind)
    cut first front items rest behind earlier x is =
        ap (λ (l : List Made). first ++ l)
        (append_assoc front (items ++ rest) behind
        ∙ (ap (λ (l : List Made). front ++ l) (append_assoc items rest behind ∙ (ap (λ (l : List Made). l ++ (rest ++ behind)) is ∙ append_assoc earlier (x ∷ []) (rest ++ behind)))
        ∙ sym (append_assoc front earlier (x ∷ (rest ++ behind)))))
        ∙ sym (append_assoc first (front ++ earlier) (x ∷ (rest ++ behind)))

pub returns-clause-knows : goal.returns-clause-knows
returns-clause-knows c plan r worker waiter group starts m n items lawful before gone back = (
  least,
  λ k x at other.
      let rises = lawful.fronts.rises worker k (length gone.ends.earlier) x (Entered group gone.ends.done) (slice_get_within gone.ends.earlier k x at)
      (subst (λ (l : List Made). slice_get l k ≡ Some x) (sym gone.ends.are) (get_left gone.ends.earlier (Entered group gone.ends.done ∷ (Entered starts gone.ends.ended ∷ [])) k x at))
      (subst (λ (l : List Made). slice_get l (length gone.ends.earlier) ≡ Some (Entered group gone.ends.done)) (sym gone.ends.are) (at_length gone.ends.earlier (Entered starts gone.ends.ended ∷ []) (Entered group gone.ends.done))) other in
      let more = least other in
      omega (arith, rises, more),
)
  where
    least : AtLeast back.ends.last.front gone.ends.done.front
    least = of_object plan r lawful group m n gone.ends.done back.ends.last before gone.at back.at (ap (is_such frees) gone.ends.is_done) back.ends.takes_in
