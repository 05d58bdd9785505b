-- The journals of all objects of a record.
use Rattle.std.proofs.Common.{◌≡◌, ℕ, Bool, List, [], Some, slice_get, sym, subst}
use Rattle.std.proofs.lemmas.Option.{none-some}
use Rattle.sync_model.specs.Journal.{KeepsEdges}
use Rattle.workload.specs.declared.object.ObjectKind.{ObjectKind}
use Rattle.workload.specs.declared.object.ObjectKind.TheVariants as kinds
use Rattle.workload.specs.declared.object.ObjectLine.{ObjectLine}
use Rattle.workload.specs.Plan.{Plan}
use Rattle.run_record.specs.declared.entered.ObjectEvent.TheVariants as event
use Rattle.run_record.specs.declared.entered.ObjectReply.TheVariants as reply
use Rattle.run_record.specs.Calls.{IsJournalOf}
use Rattle.run_record.specs.Edges.{frees, takes}
use Rattle.run_record.specs.Explains.{IsRecordOf}
use Rattle.run_record.specs.PoolKind.{IsPartJournal}
use Rattle.run_record.specs.Record.{Record, ObjectEntry, object_number, journal_of}
use Rattle.run_record.specs.StartsKind.{IsStartsJournal}
use Rattle.run_record.proofs.Lifts.{edges_lifted}

abbrev pub Keeps : List ObjectEntry → Type 0
Keeps journal = KeepsEdges frees takes journal

-- nothing was done
pub nothing : Keeps []
nothing i j x y before at_x at_y is_x is_y = absurd (none-some x at_x)

from : {journal own : List ObjectEntry} → journal ≡ own → Keeps own → Keeps journal
from e keeps = subst Keeps (sym e) keeps

-- the edge law, whatever the kind
pub of_kind : (plan : Plan) (place : ℕ) (kind : ObjectKind) (journal : List ObjectEntry) → IsJournalOf plan place kind journal → Keeps journal
of_kind plan place kinds.Map journal is = from is nothing
of_kind plan place (kinds.Atomic type) journal is = from is nothing
of_kind plan place kinds.Mutex journal is = from is.1 (edges_lifted event.Mutex reply.Mutex frees takes is.0 is.3)
of_kind plan place kinds.RwMutex journal is = from is.1 (edges_lifted event.RwMutex reply.RwMutex frees takes is.0 is.3)
of_kind plan place (kinds.Cond mutex) journal is = from is.1 (edges_lifted event.Cond reply.Cond frees takes is.0 is.3)
of_kind plan place (kinds.WaitGroup start) journal is = from is.1 (edges_lifted event.WaitGroup reply.WaitGroup frees takes is.0 is.3)
of_kind plan place (kinds.Once atomic delta) journal is = from is.1 (edges_lifted event.Once reply.Once frees takes is.0 is.3)
of_kind plan place (kinds.OnceFunc code) journal is = from is.1 (edges_lifted event.OnceFunc reply.OnceFunc frees takes is.0 is.3)
of_kind plan place (kinds.OnceValue value) journal is = from is.1 (edges_lifted event.OnceValue reply.OnceValue frees takes is.0 is.3)
of_kind plan place kinds.Pool journal is = from is nothing
of_kind plan place (kinds.Sema size) journal is = from is.1 (edges_lifted event.Sema reply.Sema frees takes is.0 is.3)
of_kind plan place (kinds.Flight atomic delta) journal is = from is.1 (edges_lifted event.Flight reply.Flight frees takes is.0 is.3)
of_kind plan place kinds.Var journal is = from is nothing

-- and of a part of a pool
pub of_part : (room : ℕ) (journal : List ObjectEntry) → IsPartJournal room journal → Keeps journal
of_part room journal is = from is.1 (edges_lifted event.Pool reply.Pool frees takes is.0 is.3)

-- and of Starts
pub of_starts : (dormant : List Bool) (journal : List ObjectEntry) → IsStartsJournal dormant journal → Keeps journal
of_starts dormant journal is = from is.1 (edges_lifted event.Starts reply.Starts frees takes is.0 is.3)

-- the journal of an object of a known kind
pub journal_at : (plan : Plan) (r : Record) (place : ℕ) (object : ObjectLine) (kind : ObjectKind) → IsRecordOf plan r → slice_get plan.objects place ≡ Some object → object.kind ≡ kind → IsJournalOf plan place kind (journal_of r (object_number place))
journal_at plan r place object kind lawful some is = subst (λ (k : ObjectKind). IsJournalOf plan place k (journal_of r (object_number place))) is (lawful.journals place object some)
