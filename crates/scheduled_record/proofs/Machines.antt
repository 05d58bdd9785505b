-- The journal of each object of a run follows its machine, from what the object's line says.
use Rattle.std.proofs.Common.{◌≡◌, ℕ, zero, suc, ◌≤◌, ◌&&◌, Bool, true, false, cond, List, [], ◌∷◌, ◌++◌, map, flat_map, length, replicate, Option, Some, None, option_map, slice_get, refl, sym, ap, ◌∙◌, subst, arith}
use Rattle.std.specs.Prelude.{pos, ◌==◌, nat_lt, nat_le, not, is_some}
use Rattle.std.proofs.Math.Nat.{zero-add}
use Rattle.std.proofs.lemmas.Bool.{leb-true}
use Rattle.std.proofs.lemmas.Bool.Decides.{nat_tests}
use Rattle.std.proofs.lemmas.List.{length-replicate}
use Rattle.std.proofs.lemmas.Option.{none-some, same_Some, slice_get-map}
use Rattle.sync_model.specs.Journal.{KeepsEdges}
use Rattle.sync_model.specs.declared.journal.Deed.TheVariants.{Event}
use Rattle.pool_core.specs.PoolMachine as pool
use Rattle.flight_core.specs.FlightEdges as flight_edges
use Rattle.flight_core.specs.FlightMachine as flight
use Rattle.mutex_core.specs.MutexMachine as mutex
use Rattle.mutex_core.specs.Edges as mutex_edges
use Rattle.rw_core.specs.RwMachine as rw
use Rattle.rw_core.specs.Edges as rw_edges
use Rattle.sema_core.specs.SemaEdges as sema_edges
use Rattle.sema_core.specs.SemaMachine as sema
use Rattle.wait_cores.specs.GroupEdges as group_edges
use Rattle.wait_cores.specs.GroupMachine as group
use Rattle.wait_cores.specs.NotifyEdges as notify_edges
use Rattle.wait_cores.specs.NotifyMachine as notify
use Rattle.wait_cores.specs.OnceEdges as once_edges
use Rattle.wait_cores.specs.OnceMachine as once
use Rattle.wait_cores.specs.declared.group.GroupEvent.TheVariants.{Add}
use Rattle.wait_cores.specs.declared.group.GroupPlace.{GroupPlace}
use Rattle.wait_cores.specs.declared.group.GroupPlace.TheVariants.{Out}
use Rattle.workload.specs.declared.limits.TheConstants.{MAX_AMOUNT}
use Rattle.workload.specs.declared.object.ObjectKind.{ObjectKind}
use Rattle.workload.specs.declared.object.ObjectKind.TheVariants as kinds
use Rattle.workload.specs.declared.object.ObjectLine.{ObjectLine}
use Rattle.sync_types.specs.Name.{is_name}
use Rattle.workload.specs.Draft.{declared_from, count_of, limit_of, is_kind}
use Rattle.workload.specs.Plan.{Plan, word_of, refers}
use Rattle.workload.specs.Readable.{may_join, may_declare, IsReadable}
use Rattle.run_record.specs.declared.entered.ObjectEvent.{ObjectEvent}
use Rattle.run_record.specs.declared.entered.ObjectEvent.TheVariants as events
use Rattle.run_record.specs.declared.entered.ObjectReply.{ObjectReply}
use Rattle.run_record.specs.declared.entered.ObjectReply.TheVariants as answered
use Rattle.run_record.specs.Calls.{IsJournalOf}
use Rattle.run_record.specs.Edges.{frees, takes}
use Rattle.run_record.specs.Journals.{FollowsFrom}
use Rattle.run_record.specs.Record.{ObjectEntry}
use Rattle.run_record.specs.WaitGroupKind.{group_start}
use Rattle.kept_record.specs.Acts.{told}
use Rattle.step_runner.specs.declared.turns.item.Deed.TheVariants as deeds
use Rattle.step_runner.specs.declared.turns.item.Item.{Item}
use Rattle.step_runner.specs.declared.turns.object_state.ObjectState.{ObjectState}
use Rattle.step_runner.specs.declared.turns.object_state.ObjectState.TheVariants as states
use Rattle.step_runner.specs.LeadsTo.{on_object, told_in, FollowsTo, MapGoes, AtomicGoes, VarGoes, LeadsTo}
use Rattle.step_runner.specs.Objects.{new_object}
use Rattle.scheduled_record.proofs.Journals.{by_told, told_on, no_entries, nothing, from_log, none_logged, follows_from}
use Rattle.scheduled_record.proofs.OnObjects.{Told, told_deed, told_at}

-- ---- a wait group begins with the number of its line

released_out : (n : ℕ) → map group.released (replicate n Out) ≡ replicate n Out
released_out zero = refl
released_out (suc n) = ap (λ (l : List GroupPlace). Out ∷ l) (released_out n)

by_zero : (callers counter : ℕ) (none : Bool) → (let made : group.GroupState = record { counter = counter; places = cond none (map group.released (replicate callers Out)) (replicate callers Out) } in made) ≡ group_start callers counter
by_zero callers counter true = ap (λ (places : List GroupPlace). let made : group.GroupState = record { counter = counter; places = places } in made) (released_out callers)
by_zero callers counter false = refl

by_sum : (callers n : ℕ) → n ≤ 10000 → (group.added (group.within (pos n)) (group.start callers)).0 ≡ group_start callers n
by_sum callers n few = by_test (nat_le n 2147483647) (grind (arith, nat_tests)) where
  by_test : (b : Bool) → b ≡ true → (group.added (cond b (Some n) None) (group.start callers)).0 ≡ group_start callers n
  by_test true is = by_zero callers n (n == 0)
  by_test false is = cc

group_begins : (callers n : ℕ) → n ≤ 10000 → 1 ≤ callers → (group.next (group.start callers) 0 (Add (pos n))).0 ≡ group_start callers n
group_begins callers n few some = rw below (ap (λ (k : ℕ). (group.added (group.within (pos k)) (group.start callers)).0) (zero-add n) ∙ by_sum callers n few) where
  below : nat_lt 0 (length (replicate callers Out)) ≡ true
  below = rw length-replicate (grind (arith, nat_tests))

-- ---- what a text allows

right : (a b : Bool) → (a && b) ≡ true → b ≡ true
right true b is = is
right false b is = absurd cc

left : (a b : Bool) → (a && b) ≡ true → a ≡ true
left true b is = refl
left false b is = is

kind_there : (others objects : List ObjectLine) (place : ℕ) (object : ObjectLine) → may_declare others objects ≡ true → slice_get objects place ≡ Some object → is_kind object.kind ≡ true
kind_there others [] place object all at = absurd (none-some object at)
kind_there others (first ∷ objects) zero object all at = subst (λ (o : ObjectLine). is_kind o.kind ≡ true) (same_Some first object at) (of_join others first (left (may_join others first) (may_declare (others ++ first ∷ []) objects) all)) where
  fourth : (a b c d e : Bool) → (a && (b && (c && (d && e)))) ≡ true → d ≡ true
  fourth a b c d e is = left d e (right c (d && e) (right b (c && (d && e)) (right a (b && (c && (d && e))) is)))

  of_join : (others : List ObjectLine) (o : ObjectLine) → may_join others o ≡ true → is_kind o.kind ≡ true
  of_join others o is = fourth (is_name o.name) (not (is_some (declared_from 0 o.name others))) (refers others o.kind) (is_kind o.kind) (nat_lt (count_of (word_of o.kind) others) (limit_of (word_of o.kind))) is
kind_there others (first ∷ objects) (suc place) object all at = kind_there (others ++ first ∷ []) objects place object (right (may_join others first) (may_declare (others ++ first ∷ []) objects) all) at

pub group_few : (plan : Plan) → IsReadable plan → (place start : ℕ) (object : ObjectLine) → slice_get plan.objects place ≡ Some object → object.kind ≡ kinds.WaitGroup start → start ≤ 10000
group_few plan readable place start object at is =
    let few : start ≤ MAX_AMOUNT = leb-true start MAX_AMOUNT (ap is_kind (sym is) ∙ kind_there [] plan.objects place object readable.objects at) in omega (arith, few)

-- ---- kind by kind

module _ (plan : Plan) (place : ℕ) (items : List Item) (journal : List ObjectEntry) (are : map told journal ≡ flat_map (told_at place) items) (keeps : KeepsEdges frees takes journal) where
  by_log : {S E R : Type 0} (event : E → ObjectEvent) (answer : R → ObjectReply) (next : S → ℕ → E → S × R) (own_frees own_takes : E → R → Bool)
      → ((caller : ℕ) (e : E) (r : R) → told_deed caller (deeds.Entered (event e) (answer r)) ≡ (let t : Told = (caller, Event (event e) (answer r)) in t ∷ []))
      → ((e : E) (r : R) → frees (event e) (answer r) ≡ own_frees e r) → ((e : E) (r : R) → takes (event e) (answer r) ≡ own_takes e r)
      → (first last : S) → FollowsTo event answer next first (on_object place items) last → FollowsFrom event answer next own_frees own_takes first journal
  by_log event answer next own_frees own_takes plain same_frees same_takes first last (log, same, follows, ends) =
      follows_from event answer next own_frees own_takes same_frees same_takes first journal log (are ∙ (told_on place items ∙ (ap (flat_map by_told) same ∙ from_log event answer next plain log))) follows keeps

  none_of : {S : Type 0} (first last : S) (made : flat_map by_told (map told_in (on_object place items)) ≡ []) → journal ≡ []
  none_of first last made = nothing journal (are ∙ (told_on place items ∙ made))

  pub journal_by : (workers room : ℕ) (keys : List (List ℕ)) → workers ≡ plan.workers → 1 ≤ workers → (kind : ObjectKind) → ((start : ℕ) → kind ≡ kinds.WaitGroup start → start ≤ 10000) → (o : ObjectState) → LeadsTo (new_object workers room keys kind) (on_object place items) o → IsJournalOf plan place kind journal
  journal_by workers room keys count some kinds.Map few (states.Map n) leads = none_of n n (no_entries MapGoes _ n (on_object place items) leads)
  journal_by workers room keys count some kinds.Map few o leads = absurd leads
  journal_by workers room keys count some (kinds.Atomic type) few (states.Atomic n) leads = none_of n n (no_entries AtomicGoes _ n (on_object place items) leads)
  journal_by workers room keys count some (kinds.Atomic type) few o leads = absurd leads
  journal_by workers room keys count some kinds.Var few (states.Var n) leads = none_of n n (no_entries VarGoes _ n (on_object place items) leads)
  journal_by workers room keys count some kinds.Var few o leads = absurd leads
  journal_by workers room keys count some kinds.Pool few (states.Pool n) (log, same, follows, ends) = none_of n n (ap (flat_map by_told) same ∙ none_logged events.Pool answered.Pool pool.next (λ caller e r. refl) log)
  journal_by workers room keys count some kinds.Pool few o leads = absurd leads
  journal_by workers room keys count some kinds.Mutex few (states.Mutex n) leads = subst (λ (w : ℕ). FollowsFrom events.Mutex answered.Mutex mutex.next (λ event reply. mutex_edges.releases reply) (λ event reply. mutex_edges.acquires reply) (mutex.start w) journal) count
      (by_log events.Mutex answered.Mutex mutex.next (λ event reply. mutex_edges.releases reply) (λ event reply. mutex_edges.acquires reply) (λ caller e r. refl) (λ e r. refl) (λ e r. refl) (mutex.start workers) n leads)
  journal_by workers room keys count some kinds.Mutex few o leads = absurd leads
  journal_by workers room keys count some kinds.RwMutex few (states.RwMutex n) leads = subst (λ (w : ℕ). FollowsFrom events.RwMutex answered.RwMutex rw.next (λ event reply. rw_edges.releases reply) (λ event reply. rw_edges.acquires reply) (rw.start w) journal) count
      (by_log events.RwMutex answered.RwMutex rw.next (λ event reply. rw_edges.releases reply) (λ event reply. rw_edges.acquires reply) (λ caller e r. refl) (λ e r. refl) (λ e r. refl) (rw.start workers) n leads)
  journal_by workers room keys count some kinds.RwMutex few o leads = absurd leads
  journal_by workers room keys count some (kinds.Cond mutex) few (states.Cond n other) leads = subst (λ (w : ℕ). FollowsFrom events.Cond answered.Cond notify.next notify_edges.notify_releases notify_edges.notify_acquires (notify.start w) journal) count
      (by_log events.Cond answered.Cond notify.next notify_edges.notify_releases notify_edges.notify_acquires (λ caller e r. refl) (λ e r. refl) (λ e r. refl) (notify.start workers) n leads)
  journal_by workers room keys count some (kinds.Cond mutex) few o leads = absurd leads
  journal_by workers room keys count some (kinds.WaitGroup start) few (states.WaitGroup n other) leads =
      subst (λ (g : group.GroupState). FollowsFrom events.WaitGroup answered.WaitGroup group.next group_edges.group_releases group_edges.group_acquires g journal) (group_begins workers start (few start refl) some ∙ ap (λ (w : ℕ). group_start w start) count)
      (by_log events.WaitGroup answered.WaitGroup group.next group_edges.group_releases group_edges.group_acquires (λ caller e r. refl) (λ e r. refl) (λ e r. refl) (group.next (group.start workers) 0 (Add (pos start))).0 n leads)
  journal_by workers room keys count some (kinds.WaitGroup start) few o leads = absurd leads
  journal_by workers room keys count some (kinds.Once atomic delta) few (states.Once n other amount) leads = subst (λ (w : ℕ). FollowsFrom events.Once answered.Once once.next once_edges.once_releases once_edges.once_acquires (once.start w) journal) count
      (by_log events.Once answered.Once once.next once_edges.once_releases once_edges.once_acquires (λ caller e r. refl) (λ e r. refl) (λ e r. refl) (once.start workers) n leads)
  journal_by workers room keys count some (kinds.Once atomic delta) few o leads = absurd leads
  journal_by workers room keys count some (kinds.OnceFunc code) few (states.OnceFunc n other) leads = subst (λ (w : ℕ). FollowsFrom events.OnceFunc answered.OnceFunc once.next once_edges.once_releases once_edges.once_acquires (once.start w) journal) count
      (by_log events.OnceFunc answered.OnceFunc once.next once_edges.once_releases once_edges.once_acquires (λ caller e r. refl) (λ e r. refl) (λ e r. refl) (once.start workers) n leads)
  journal_by workers room keys count some (kinds.OnceFunc code) few o leads = absurd leads
  journal_by workers room keys count some (kinds.OnceValue value) few (states.OnceValue n other) leads = subst (λ (w : ℕ). FollowsFrom events.OnceValue answered.OnceValue once.next once_edges.once_releases once_edges.once_acquires (once.start w) journal) count
      (by_log events.OnceValue answered.OnceValue once.next once_edges.once_releases once_edges.once_acquires (λ caller e r. refl) (λ e r. refl) (λ e r. refl) (once.start workers) n leads)
  journal_by workers room keys count some (kinds.OnceValue value) few o leads = absurd leads
  journal_by workers room keys count some (kinds.Sema size) few (states.Sema n other) leads = subst (λ (w : ℕ). FollowsFrom events.Sema answered.Sema sema.next sema_edges.sema_releases sema_edges.sema_acquires (sema.start w size) journal) count
      (by_log events.Sema answered.Sema sema.next sema_edges.sema_releases sema_edges.sema_acquires (λ caller e r. refl) (λ e r. refl) (λ e r. refl) (sema.start workers size) n leads)
  journal_by workers room keys count some (kinds.Sema size) few o leads = absurd leads
  journal_by workers room keys count some (kinds.Flight atomic delta) few (states.Flight n names other amount) leads = subst (λ (w : ℕ). FollowsFrom events.Flight answered.Flight flight.next flight_edges.flight_releases flight_edges.flight_acquires (flight.start w) journal) count
      (by_log events.Flight answered.Flight flight.next flight_edges.flight_releases flight_edges.flight_acquires (λ caller e r. refl) (λ e r. refl) (λ e r. refl) (flight.start workers) n leads)
  journal_by workers room keys count some (kinds.Flight atomic delta) few o leads = absurd leads

-- the object that is at a place at the end of a run
pub object_there : {A B K : Type 0} (kind : A → K) (line_kind : B → K) (objects : List A) (lines : List B) (place : ℕ) (line : B) → map kind objects ≡ map line_kind lines → slice_get lines place ≡ Some line → (o : A) × (slice_get objects place ≡ Some o)
object_there {A} {B} {K} kind line_kind objects lines place line same at = chosen (slice_get objects place) refl where
  kinds_at : option_map kind (slice_get objects place) ≡ Some (line_kind line)
  kinds_at = sym (slice_get-map kind objects place) ∙ (ap (λ (l : List K). slice_get l place) same ∙ (slice_get-map line_kind lines place ∙ ap (option_map line_kind) at))

  chosen : (o : Option A) → slice_get objects place ≡ o → (x : A) × (slice_get objects place ≡ Some x)
  chosen None none = absurd (none-some (line_kind line) (ap (option_map kind) (sym none) ∙ kinds_at))
  chosen (Some o) there = (o, there)
