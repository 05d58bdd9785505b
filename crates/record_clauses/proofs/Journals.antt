-- The journals of all objects, with their fronts and without them.
use Rattle.std.proofs.Common.{◌≡◌, ℕ, Bool, List, [], ap}
use Rattle.sync_model.specs.Journal.{KeepsEdges}
use Rattle.workload.specs.declared.object.ObjectKind.{ObjectKind}
use Rattle.workload.specs.declared.object.ObjectKind.TheVariants as kinds
use Rattle.workload.specs.Plan.{Plan}
use Rattle.run_record.specs.declared.entered.ObjectEvent.TheVariants as event
use Rattle.run_record.specs.declared.entered.ObjectReply.TheVariants as reply
use Rattle.run_record.specs.Calls.{IsJournalOf}
use Rattle.run_record.specs.Edges.{frees, takes}
use Rattle.run_record.specs.PoolKind.{IsPartJournal}
use Rattle.run_record.specs.Record.{ObjectEntry}
use Rattle.run_record.specs.StartsKind.{IsStartsJournal}
use Rattle.record_clauses.specs.Journals.{without_fronts}
use Rattle.record_clauses.proofs.FrontsAside.{none_left, set_aside, put_back}

none_without : (journal : List ObjectEntry) → journal ≡ [] → without_fronts journal ≡ []
none_without journal is = ap (λ (es : List ObjectEntry). without_fronts es) is

pub aside_of_kind : (plan : Plan) (place : ℕ) (kind : ObjectKind) (journal : List ObjectEntry) → IsJournalOf plan place kind journal → IsJournalOf plan place kind (without_fronts journal)
aside_of_kind plan place kinds.Map journal is = none_without journal is
aside_of_kind plan place kinds.Var journal is = none_without journal is
aside_of_kind plan place (kinds.Atomic type) journal is = none_without journal is
aside_of_kind plan place kinds.Mutex journal is = set_aside event.Mutex reply.Mutex _ _ _ _ journal is
aside_of_kind plan place kinds.RwMutex journal is = set_aside event.RwMutex reply.RwMutex _ _ _ _ journal is
aside_of_kind plan place (kinds.Cond mutex) journal is = set_aside event.Cond reply.Cond _ _ _ _ journal is
aside_of_kind plan place (kinds.WaitGroup start) journal is = set_aside event.WaitGroup reply.WaitGroup _ _ _ _ journal is
aside_of_kind plan place (kinds.Once atomic delta) journal is = set_aside event.Once reply.Once _ _ _ _ journal is
aside_of_kind plan place (kinds.OnceFunc code) journal is = set_aside event.OnceFunc reply.OnceFunc _ _ _ _ journal is
aside_of_kind plan place (kinds.OnceValue value) journal is = set_aside event.OnceValue reply.OnceValue _ _ _ _ journal is
aside_of_kind plan place (kinds.Sema size) journal is = set_aside event.Sema reply.Sema _ _ _ _ journal is
aside_of_kind plan place (kinds.Flight atomic delta) journal is = set_aside event.Flight reply.Flight _ _ _ _ journal is
aside_of_kind plan place kinds.Pool journal is = none_without journal is

pub aside_of_part : (room : ℕ) (journal : List ObjectEntry) → IsPartJournal room journal → IsPartJournal room (without_fronts journal)
aside_of_part room journal is = set_aside event.Pool reply.Pool _ _ _ _ journal is

pub aside_of_starts : (dormant : List Bool) (journal : List ObjectEntry) → IsStartsJournal dormant journal → IsStartsJournal dormant (without_fronts journal)
aside_of_starts dormant journal is = set_aside event.Starts reply.Starts _ _ _ _ journal is

pub back_of_kind : (plan : Plan) (place : ℕ) (kind : ObjectKind) (journal : List ObjectEntry) → IsJournalOf plan place kind (without_fronts journal) → KeepsEdges frees takes journal → IsJournalOf plan place kind journal
back_of_kind plan place kinds.Map journal is keeps = none_left journal is
back_of_kind plan place kinds.Var journal is keeps = none_left journal is
back_of_kind plan place (kinds.Atomic type) journal is keeps = none_left journal is
back_of_kind plan place kinds.Mutex journal is keeps = put_back event.Mutex reply.Mutex _ _ frees takes _ _ journal is keeps
back_of_kind plan place kinds.RwMutex journal is keeps = put_back event.RwMutex reply.RwMutex _ _ frees takes _ _ journal is keeps
back_of_kind plan place (kinds.Cond mutex) journal is keeps = put_back event.Cond reply.Cond _ _ frees takes _ _ journal is keeps
back_of_kind plan place (kinds.WaitGroup start) journal is keeps = put_back event.WaitGroup reply.WaitGroup _ _ frees takes _ _ journal is keeps
back_of_kind plan place (kinds.Once atomic delta) journal is keeps = put_back event.Once reply.Once _ _ frees takes _ _ journal is keeps
back_of_kind plan place (kinds.OnceFunc code) journal is keeps = put_back event.OnceFunc reply.OnceFunc _ _ frees takes _ _ journal is keeps
back_of_kind plan place (kinds.OnceValue value) journal is keeps = put_back event.OnceValue reply.OnceValue _ _ frees takes _ _ journal is keeps
back_of_kind plan place (kinds.Sema size) journal is keeps = put_back event.Sema reply.Sema _ _ frees takes _ _ journal is keeps
back_of_kind plan place (kinds.Flight atomic delta) journal is keeps = put_back event.Flight reply.Flight _ _ frees takes _ _ journal is keeps
back_of_kind plan place kinds.Pool journal is keeps = none_left journal is

pub back_of_part : (room : ℕ) (journal : List ObjectEntry) → IsPartJournal room (without_fronts journal) → KeepsEdges frees takes journal → IsPartJournal room journal
back_of_part room journal is keeps = put_back event.Pool reply.Pool _ _ frees takes _ _ journal is keeps

pub back_of_starts : (dormant : List Bool) (journal : List ObjectEntry) → IsStartsJournal dormant (without_fronts journal) → KeepsEdges frees takes journal → IsStartsJournal dormant journal
back_of_starts dormant journal is keeps = put_back event.Starts reply.Starts _ _ frees takes _ _ journal is keeps
