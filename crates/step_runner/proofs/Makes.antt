-- What the stages of a turn leave as it was, and what is so of the turn's answers.
use Rattle.std.proofs.Common.{ℕ, List, [], ◌∷◌, Option, Some, None}
use Rattle.std.specs.Prelude.{Result, Err}
use Rattle.script_calls.specs.declared.call.Reply.TheVariants as replies
use Rattle.sync_types.specs.declared.misuse.Misuse.{Misuse}
use Rattle.sync_types.specs.declared.pool_call.PoolCall.{PoolCall}
use Rattle.sync_types.specs.declared.pool_call.PoolCall.TheVariants as pool_calls
use Rattle.sync_types.specs.declared.pool_call.PoolCallReply.TheVariants as pool_replies
use Rattle.mutex_core.specs.MutexMachine as mutex
use Rattle.mutex_core.specs.declared.event.MutexEvent.{MutexEvent}
use Rattle.rw_core.specs.RwMachine as rw
use Rattle.rw_core.specs.declared.event.RwEvent.{RwEvent}
use Rattle.wait_cores.specs.NotifyMachine as notify
use Rattle.wait_cores.specs.GroupMachine as group
use Rattle.wait_cores.specs.OnceMachine as once
use Rattle.wait_cores.specs.OnceStanding.{runs_at}
use Rattle.wait_cores.specs.declared.notify.NotifyEvent.{NotifyEvent}
use Rattle.wait_cores.specs.declared.group.GroupEvent.{GroupEvent}
use Rattle.wait_cores.specs.declared.once.OnceEvent.{OnceEvent}
use Rattle.pool_core.specs.PoolMachine as pool
use Rattle.pool_core.specs.declared.pool_event.PoolEvent.{PoolEvent}
use Rattle.protocols.specs.CondStages.{cond_event, cond_meaning}
use Rattle.protocols.specs.GroupStages.{group_event, group_meaning}
use Rattle.protocols.specs.MutexStages.{mutex_event, mutex_meaning}
use Rattle.protocols.specs.OnceStages.{once_event, once_meaning}
use Rattle.protocols.specs.RwMutexStages.{rw_event, rw_meaning}
use Rattle.protocols.specs.declared.cond.CondStage.{CondStage}
use Rattle.protocols.specs.declared.mutex.MutexStage.{MutexStage}
use Rattle.protocols.specs.declared.rw_mutex.RwMutexStage.{RwMutexStage}
use Rattle.protocols.specs.declared.wait_group.GroupStage.{GroupStage}
use Rattle.protocols.specs.declared.pool.PoolStage.{PoolStage}
use Rattle.protocols.specs.declared.pool.PoolStage.TheVariants as pool_stage
use Rattle.protocols.specs.PoolStages as pools
use Rattle.protocols.specs.declared.step.Step.{Step}
use Rattle.protocols.specs.declared.step.Step.TheVariants.{Finished, Misused, Waits, Next, Never}
use Rattle.step_runner.specs.declared.turns.answer.Answer.{Answer}
use Rattle.step_runner.specs.declared.turns.answer.Answer.TheVariants as answers
use Rattle.step_runner.specs.Due.{once_due}
use Rattle.step_runner.specs.PoolTurn.{PoolStep, looked, found_or, found_by, pool_step}
use Rattle.step_runner.specs.Stages.{outcome_of, make, answer_by}
use Rattle.step_runner.specs.TurnAtObjects.{once_made}
use Rattle.step_runner.proofs.DueLemmas.{OfDue}

module _ {S E R G O : Type 0} (next : S → ℕ → E → S × R) (event_of : G → ℕ → E) (meaning : G → R → Step G O) (worker moment : ℕ) where
  -- what is so of the object, and behind each event
  pub make_moves : (P : S → Type 0) (due : Option G) (s : S) → P s → ((e : E) → P (next s worker e).0) → P (make next event_of meaning worker moment due s).0
  make_moves P None s is moved = is
  make_moves P (Some stage) s is moved = moved (event_of stage moment)

  -- what each event keeps
  pub make_keeps : (P : S → Type 0) → ((s : S) (e : E) → P s → P (next s worker e).0) → (due : Option G) (s : S) → P s → P (make next event_of meaning worker moment due s).0
  make_keeps P keeps due s is = make_moves P due s is (λ e. keeps s e is)

  -- by whether a stage is due
  pub make_by : (P : G → Type 0) (Q : S × Result O Answer → Type 0) (due : Option G) (s : S) → OfDue P due → Q (s, Err answers.Still)
      → ((stage : G) → P stage → Q ((next s worker (event_of stage moment)).0, outcome_of (meaning stage (next s worker (event_of stage moment)).1))) → Q (make next event_of meaning worker moment due s)
  make_by P Q None s of still made = still
  make_by P Q (Some stage) s of still made = made stage of

module _ {G O : Type 0} (Q : Answer → Type 0) (still : Q answers.Still) (unfinished : Q answers.Unfinished) (misused : (misuse : Misuse) → Q (answers.Misused misuse)) (read : O → Answer) (each : (outcome : O) → Q (read outcome)) where
  -- of each answer that isn't a reply, and of what an outcome is read as
  pub step_answer : (step : Step G O) → Q (answer_by read (outcome_of step))
  step_answer (Finished outcome) = each outcome
  step_answer (Misused misuse) = misused misuse
  step_answer (Waits later) = unfinished
  step_answer (Next later) = unfinished
  step_answer Never = still

  pub make_answer : {S E R : Type 0} (next : S → ℕ → E → S × R) (event_of : G → ℕ → E) (meaning : G → R → Step G O) (worker moment : ℕ) (due : Option G) (s : S) → Q (answer_by read (make next event_of meaning worker moment due s).1)
  make_answer next event_of meaning worker moment None s = still
  make_answer next event_of meaning worker moment (Some stage) s = step_answer (meaning stage (next s worker (event_of stage moment)).1)

-- a call of a pool
module _ (worker moment : ℕ) (P : pool.PoolState ℕ → Type 0) (keeps : (p : pool.PoolState ℕ) (e : PoolEvent ℕ) → P p → P (pool.next p worker e).0) where
  found_or_keeps : (step : pool.PoolState ℕ × Option ℕ) (rest : pool.PoolState ℕ → PoolStep) → P step.0 → ((p : pool.PoolState ℕ) → P p → P (rest p).0) → P (found_or step rest).0
  found_or_keeps (p, Some item) rest is later = is
  found_or_keeps (p, None) rest is later = later p is

  found_keeps : (looks : List PoolStage) (p : pool.PoolState ℕ) → P p → P (found_by worker moment looks p).0
  found_keeps [] p is = is
  found_keeps (look ∷ looks) p is = found_or_keeps (looked worker moment look p) (found_by worker moment looks) (keeps p (pools.pool_event look moment) is) (found_keeps looks)

  pub pool_keeps : (call : PoolCall) (p : pool.PoolState ℕ) → P p → P (pool_step worker moment call p).0
  pool_keeps (pool_calls.Put item) p is = keeps p (pools.pool_event (pool_stage.Put item) moment) is
  pool_keeps pool_calls.Sweep p is = keeps p (pools.pool_event pool_stage.Sweep moment) is
  pool_keeps pool_calls.Get p is = found_keeps _ p is

-- a get is answered by an item that was put, or by a new one
module _ (worker moment : ℕ) (Q : Answer → Type 0) (put : (item : ℕ) → Q (answers.Completed (replies.Pool (pool_replies.Put item)))) (new : Q (answers.Completed (replies.Pool pool_replies.New))) where
  found_or_answer : (step : pool.PoolState ℕ × Option ℕ) (rest : pool.PoolState ℕ → PoolStep) → ((p : pool.PoolState ℕ) → Q (rest p).1) → Q (found_or step rest).1
  found_or_answer (p, Some item) rest later = put item
  found_or_answer (p, None) rest later = later p

  pub found_answer : (looks : List PoolStage) (p : pool.PoolState ℕ) → Q (found_by worker moment looks p).1
  found_answer [] p = new
  found_answer (look ∷ looks) p = found_or_answer (looked worker moment look p) (found_by worker moment looks) (found_answer looks)

-- the same, by kind
module _ (worker moment : ℕ) where
  pub mutex_keeps : (P : mutex.State → Type 0) → ((m : mutex.State) (e : MutexEvent) → P m → P (mutex.next m worker e).0) → (due : Option MutexStage) (m : mutex.State) → P m → P (make mutex.next mutex_event mutex_meaning worker moment due m).0
  mutex_keeps = make_keeps mutex.next mutex_event mutex_meaning worker moment

  pub rw_keeps : (P : rw.State → Type 0) → ((m : rw.State) (e : RwEvent) → P m → P (rw.next m worker e).0) → (due : Option RwMutexStage) (m : rw.State) → P m → P (make rw.next rw_event rw_meaning worker moment due m).0
  rw_keeps = make_keeps rw.next rw_event rw_meaning worker moment

  pub group_keeps : (P : group.GroupState → Type 0) → ((g : group.GroupState) (e : GroupEvent) → P g → P (group.next g worker e).0) → (due : Option GroupStage) (g : group.GroupState) → P g → P (make group.next group_event group_meaning worker moment due g).0
  group_keeps = make_keeps group.next group_event group_meaning worker moment

  pub cond_keeps : (P : notify.NotifyState → Type 0) → ((c : notify.NotifyState) (e : NotifyEvent) → P c → P (notify.next c worker e).0) → (due : Option CondStage) (c : notify.NotifyState) → P c → P (make notify.next cond_event cond_meaning worker moment due c).0
  cond_keeps = make_keeps notify.next cond_event cond_meaning worker moment

  pub once_keeps : {T : Type 0} (P : once.OnceState T → Type 0) → ((o : once.OnceState T) (e : OnceEvent T) → P o → P (once.next o worker e).0) → (value : T) (o : once.OnceState T) → P o → P (once_made worker moment value o).0
  once_keeps P keeps value o = make_keeps once.next once_event once_meaning worker moment P keeps (once_due value (runs_at o worker) (once.place_of o worker)) o
