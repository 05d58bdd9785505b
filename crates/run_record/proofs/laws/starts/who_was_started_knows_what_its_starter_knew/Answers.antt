use Rattle.std.proofs.Common.{◌≡◌, ℕ, List, [], ◌∷◌, ◌++◌, map, get_or, Some, slice_get, sym, ap, ◌∙◌, subst, append_assoc}
use Rattle.std.specs.List.{flat_map}
use Rattle.sync_model.specs.declared.journal.Entry.{Entry}
use Rattle.sync_model.specs.Front.{AtLeast}
use Rattle.sync_model.specs.Journal.{by}
use Rattle.script_calls.specs.declared.outcome.Outcome.{Outcome}
use Rattle.starts_core.specs.declared.starts.StartEvent.{StartEvent}
use Rattle.starts_core.specs.declared.starts.StartEvent.TheVariants.{Start, Leave}
use Rattle.starts_core.specs.declared.starts.StartReply.{StartReply}
use Rattle.starts_core.specs.declared.starts.StartReply.TheVariants.{Done, Go, Still}
use Rattle.starts_core.specs.StartsMachine.{begun}
use Rattle.workload.specs.Plan.{Plan}
use Rattle.run_record.specs.declared.entered.ObjectEvent.TheVariants as event
use Rattle.run_record.specs.declared.entered.ObjectReply.TheVariants as reply
use Rattle.sync_model.specs.declared.journal.Deed.TheVariants.{Event}
use Rattle.run_record.specs.declared.made.Made.{Made}
use Rattle.run_record.specs.Explains.{AreLines, IsRecordOf}
use Rattle.run_record.specs.Lines.{Line, items_of}
use Rattle.run_record.specs.Objects.{starts_number}
use Rattle.run_record.specs.Parts.{lifted, lifted_deed}
use Rattle.run_record.specs.Record.{Record, ObjectEntry, journal_of, list_of, entries_in}
use Rattle.run_record.proofs.Having.{Each, each_at, get_at}
use Rattle.run_record.proofs.Lifts.{lifted_from, lifted_at}
use Rattle.run_record.proofs.ListOrder.{StandsIn, entries_both, entries_first, stands}
use Rattle.run_record.proofs.OpeningLemmas.{GoesBy, started_on, came_by, goes_by, own_entries}
use Rattle.run_record.proofs.StartLemmas.{some_waits, waits_at, of_starts, asks_only, was_started}
use Rattle.run_record.proofs.laws.starts.who_was_started_knows_what_its_starter_knew.Goals as goal

abbrev raised : Entry StartEvent StartReply → ObjectEntry
raised x = lifted event.Starts reply.Starts x

-- where its going stands in the journal of Starts, behind its earlier entries
going_at : (plan : Plan) (r : Record) (outcome : Outcome) (lines : List Line) (worker : ℕ) (line : Line) (g : GoesBy (starts_number plan) line.first)
    → AreLines plan r outcome lines → IsRecordOf plan r → slice_get lines worker ≡ Some line
    → (later : List ObjectEntry) × StandsIn worker (journal_of r (starts_number plan)) (map raised g.earlier) (raised g.leave) later
going_at plan r outcome lines worker line g are lawful at = (entries_in object behind, stands worker (journal_of r object) (map raised g.earlier) (entries_in object behind) (raised g.leave) own) where
  object : ℕ
  object = starts_number plan

  before : List Made
  before = map (started_on (starts_number plan)) g.earlier

  behind : List Made
  behind = flat_map (λ spelt. spelt.items) line.spelt ++ (line.last ++ line.halts)

  list : list_of r worker ≡ before ++ started_on object g.leave ∷ behind
  list = ap (λ (l : List (List Made)). get_or l worker []) (sym are.lists) ∙ (get_at items_of [] lines worker line at ∙ (ap (λ (l : List Made). l ++ behind) g.are ∙ append_assoc before (started_on object g.leave ∷ []) behind))

  own : by worker (journal_of r object) ≡ map raised g.earlier ++ raised g.leave ∷ entries_in object behind
  own = sym (lawful.once worker object)
      ∙ (ap (λ (l : List Made). entries_in object l) list
      ∙ (entries_both object before (started_on object g.leave ∷ behind)
      ∙ (ap (λ (es : List ObjectEntry). es ++ entries_in object (started_on object g.leave ∷ behind)) (own_entries object g.earlier)
      ∙ ap (λ (es : List ObjectEntry). map raised g.earlier ++ es) (entries_first object (raised g.leave) behind))))

-- it asked before, and so started nobody
another : (worker : ℕ) (start : Entry StartEvent StartReply) (earlier : List (Entry StartEvent StartReply)) → start.deed ≡ Event (Start worker) Done → Each (λ entry. entry.deed ≡ Event Leave Still) earlier
    → (k : ℕ) × (slice_get (map raised earlier) k ≡ Some (raised start)) → ⊥
another worker start earlier is asks (k, at) =
    let found = lifted_from event.Starts reply.Starts earlier k (raised start) at in
    let same : lifted_deed event.Starts reply.Starts found.0.deed ≡ Event (event.Starts (Start worker)) (reply.Starts Done) = ap (λ (e : ObjectEntry). e.deed) found.2 ∙ ap (lifted_deed event.Starts reply.Starts) is in
    asks_only found.0.deed worker (each_at (λ entry. entry.deed ≡ Event Leave Still) earlier k found.0 found.1 asks) (of_starts found.0.deed (Start worker) Done same)

pub returns : goal.returns
returns c plan r outcome lines worker line are lawful at waits came =
    let g = goes_by plan worker line.first waits (came_by plan worker line.ending line.spelt line.first came (are.each worker line at).opens) in
    let there = (going_at plan r outcome lines worker line g are lawful at).1 in
    let j = lawful.starts (some_waits plan worker waits) in
    let follows = (c.journal_is_log.ensures (begun plan.dormant) j.0 j.2).0 in
    let last = lifted_from event.Starts reply.Starts j.0 there.place (raised g.leave) (subst (λ (es : List ObjectEntry). slice_get es there.place ≡ Some (raised g.leave)) j.1 there.at) in
    let goes = of_starts last.0.deed Leave Go (ap (λ (e : ObjectEntry). e.deed) last.2 ∙ ap (lifted_deed event.Starts reply.Starts) g.goes) in
    let s = was_started plan.dormant worker j.0 follows j.3 (λ before rest. c.goes_when_started.ensures plan.dormant before rest worker (waits_at plan.dormant worker waits))
    (c.synchronizes.ensures.starts worker) c.synchronizes.ensures.goes there.place last.0 last.1 (ap (λ (e : ObjectEntry). e.caller) last.2 ∙ there.caller) goes in
    let at_start : slice_get (journal_of r (starts_number plan)) s.place ≡ Some (raised s.start) = subst (λ (es : List ObjectEntry). slice_get es s.place ≡ Some (raised s.start)) (sym j.1) (lifted_at event.Starts reply.Starts j.0 s.place s.start s.at) in (
      s.place,
      there.place,
      raised s.start,
      raised g.leave,
      map (started_on (starts_number plan)) g.earlier,
      s.before,
      at_start,
      there.at,
      ap (lifted_deed event.Starts reply.Starts) s.is,
      λ mine. another worker s.start g.earlier s.is g.asks (there.before s.place (raised s.start) s.before at_start mine),
      ap (lifted_deed event.Starts reply.Starts) g.goes,
      g.are,
      subst (λ (e : ObjectEntry). AtLeast e.front s.start.front) last.2 s.knows,
    )
