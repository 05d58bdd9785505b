-- At whatever object, the event of a stage that is allowed gets an answer by which a call goes on.
use Rattle.std.proofs.Common.{◌≡◌, ◌≢◌, ℕ, ◌<◌, Bool, true, false, List, sym, ap, ◌∙◌, subst, unwrap_or}
use Rattle.std.specs.Prelude.{length, slice_get}
use Rattle.std.proofs.lemmas.Bool.{false≢true, ltb-true}
use Rattle.std.proofs.lemmas.List.{length-replicate}
use Rattle.sync_model.specs.Log.{Entry, after, Follows}
use Rattle.wait_cores.specs.declared.group.GroupEvent.{GroupEvent}
use Rattle.wait_cores.specs.declared.group.GroupReply.{GroupReply}
use Rattle.wait_cores.specs.declared.group.GroupReply.TheVariants as grouped
use Rattle.wait_cores.specs.declared.group.GroupPlace.{GroupPlace}
use Rattle.wait_cores.specs.declared.group.GroupPlace.TheVariants.{Out}
use Rattle.wait_cores.specs.GroupMachine as groups
use Rattle.wait_cores.specs.GroupStanding as group_stands
use Rattle.wait_cores.specs.declared.once.OnceEvent.{OnceEvent}
use Rattle.wait_cores.specs.declared.once.OnceReply.{OnceReply}
use Rattle.wait_cores.specs.declared.once.OnceReply.TheVariants as onced
use Rattle.wait_cores.specs.OnceMachine as onces
use Rattle.wait_cores.specs.OnceStanding as once_standing
use Rattle.wait_cores.specs.declared.notify.NotifyEvent.{NotifyEvent}
use Rattle.wait_cores.specs.declared.notify.NotifyReply.{NotifyReply}
use Rattle.wait_cores.specs.declared.notify.NotifyReply.TheVariants as notified
use Rattle.wait_cores.specs.NotifyMachine as conds
use Rattle.wait_cores.specs.NotifyLaws as cond_laws
use Rattle.pool_core.specs.declared.pool_event.PoolEvent.{PoolEvent}
use Rattle.pool_core.specs.declared.pool_event.PoolReply.{PoolReply}
use Rattle.pool_core.specs.declared.pool_event.PoolReply.TheVariants as pooled
use Rattle.pool_core.specs.PartMachine.{PartState, part_next}
use Rattle.pool_core.specs.PoolMachine as pools
use Rattle.pool_core.specs.PoolLaws as pool_laws
use Rattle.protocols.specs.declared.cond.CondStage.{CondStage}
use Rattle.protocols.specs.declared.cond.CondStage.TheVariants as cond
use Rattle.protocols.specs.declared.once.OnceStage.{OnceStage}
use Rattle.protocols.specs.declared.once.OnceStage.TheVariants as once
use Rattle.protocols.specs.declared.pool.PoolStage.{PoolStage}
use Rattle.protocols.specs.declared.pool.PoolStage.TheVariants as pool
use Rattle.protocols.specs.declared.wait_group.GroupStage.{GroupStage}
use Rattle.protocols.specs.declared.wait_group.GroupStage.TheVariants as group
use Rattle.protocols.specs.CondStages.{cond_event, cond_meaning, CondBegins}
use Rattle.protocols.specs.GroupStages.{group_event, group_meaning, group_allows, GroupBegins}
use Rattle.protocols.specs.OnceStages.{once_event, once_meaning, once_stands, may_be, once_allows, OnceBegins}
use Rattle.protocols.specs.PoolStages.{pool_event, look_meaning, pool_meaning, pool_allows, PoolBegins}
use Rattle.protocols.specs.Stands.{stand_from}
use Rattle.protocols.specs.Steps.{IsExpected}
use Rattle.protocols.proofs.StandLemmas.{stands_in, size_stays}

no : {A : Type 0} → false ≡ true → A
no e = absurd (false≢true e)

-- a wait group's
group_answered : (start : groups.GroupState) (stage : GroupStage) (now : ℕ) (w : Bool) (r : GroupReply) → group_allows start w stage ≡ true → group_stands.answers w (group_event stage now) r ≡ true → IsExpected (group_meaning stage r)
group_answered start (group.Add delta) now w grouped.Done may is = tt
group_answered start (group.Add delta) now w (grouped.Misused m) may is = tt
group_answered start (group.Add delta) now w grouped.Queued may is = no is
group_answered start (group.Add delta) now w grouped.Still may is = no is
group_answered start group.Done now w grouped.Done may is = tt
group_answered start group.Done now w (grouped.Misused m) may is = tt
group_answered start group.Done now w grouped.Queued may is = no is
group_answered start group.Done now w grouped.Still may is = no is
group_answered start group.Wait now true r may is = no may
group_answered start group.Wait now false grouped.Done may is = tt
group_answered start group.Wait now false grouped.Queued may is = tt
group_answered start group.Wait now false (grouped.Misused m) may is = no is
group_answered start group.Wait now false grouped.Still may is = no is
group_answered start group.Leave now w grouped.Done may is = tt
group_answered start group.Leave now w (grouped.Misused m) may is = tt
group_answered start group.Leave now w grouped.Still may is = tt
group_answered start group.Leave now w grouped.Queued may is = no is

pub group_expected : ((s : groups.GroupState) (c : ℕ) (e : GroupEvent) → group_stands.waits_at (groups.next s c e).0 c ≡ group_stands.waits_after (group_stands.waits_at s c) e (groups.next s c e).1)
    → ((s : groups.GroupState) (c o : ℕ) (e : GroupEvent) → c ≢ o → group_stands.waits_at (groups.next s o e).0 c ≡ group_stands.waits_at s c)
    → ((s : groups.GroupState) (c : ℕ) (e : GroupEvent) → c < groups.callers_of s → group_stands.answers (group_stands.waits_at s c) e (groups.next s c e).1 ≡ true)
    → ((s : groups.GroupState) (c : ℕ) (e : GroupEvent) → groups.callers_of (groups.next s c e).0 ≡ groups.callers_of s)
    → ((callers caller : ℕ) → group_stands.waits_at (groups.start callers) caller ≡ false)
    → (callers caller now : ℕ) (start : groups.GroupState) (log : List (Entry GroupEvent GroupReply)) (stage : GroupStage) → GroupBegins callers start → Follows groups.next start log → caller < callers
    → group_allows start (stand_from group_stands.waits_after false caller log) stage ≡ true → IsExpected (group_meaning stage (groups.next (after groups.next start log) caller (group_event stage now)).1)
group_expected own others answers same first callers caller now start log stage begins follows below may =
    let s : groups.GroupState = after groups.next start log in
    let out : group_stands.waits_at start caller ≡ false = ap (λ (places : List GroupPlace). group_stands.is_in (unwrap_or (slice_get places caller) Out)) begins ∙ first callers caller in
    let stands = stands_in groups.next group_stands.waits_at group_stands.waits_after own others start caller log follows ∙ ap (λ (w : Bool). stand_from group_stands.waits_after w caller log) out in
    let count : groups.callers_of s ≡ callers = size_stays groups.next groups.callers_of same start log ∙ (ap (λ (places : List GroupPlace). length places) begins ∙ length-replicate callers Out) in
    let is = answers s caller (group_event stage now) (subst (λ (n : ℕ). caller < n) (sym count) below) in
    group_answered start stage now (group_stands.waits_at s caller) (groups.next s caller (group_event stage now)).1 (subst (λ (w : Bool). group_allows start w stage ≡ true) (sym stands) may) is

-- a once's
once_answered : {T : Type 0} (stage : OnceStage T) (now : ℕ) (w runs : Bool) (r : OnceReply T) → may_be w runs stage ≡ true → once_standing.answers w runs (once_event stage now) r ≡ true → IsExpected (once_meaning stage r)
once_answered once.Begin now false false onced.Run may is = tt
once_answered once.Begin now false false onced.Queued may is = tt
once_answered once.Begin now false false (onced.Done kept) may is = tt
once_answered once.Begin now false false (onced.Left kept) may is = no is
once_answered once.Begin now false false onced.Ended may is = no is
once_answered once.Begin now false false onced.Still may is = no is
once_answered once.Begin now false true r may is = no may
once_answered once.Begin now true false r may is = no may
once_answered once.Begin now true true r may is = no may
once_answered (once.End value) now false true onced.Ended may is = tt
once_answered (once.End value) now false true onced.Run may is = no is
once_answered (once.End value) now false true onced.Queued may is = no is
once_answered (once.End value) now false true (onced.Done kept) may is = no is
once_answered (once.End value) now false true (onced.Left kept) may is = no is
once_answered (once.End value) now false true onced.Still may is = no is
once_answered (once.End value) now false false r may is = no may
once_answered (once.End value) now true false r may is = no may
once_answered (once.End value) now true true r may is = no may
once_answered once.Leave now w runs (onced.Left kept) may is = tt
once_answered once.Leave now w runs onced.Still may is = tt
once_answered once.Leave now w runs onced.Run may is = no is
once_answered once.Leave now w runs onced.Queued may is = no is
once_answered once.Leave now w runs (onced.Done kept) may is = no is
once_answered once.Leave now w runs onced.Ended may is = no is

both : {A B : Type 0} (a b : A) (c d : B) → a ≡ b → c ≡ d → ◌≡◌ {A = A × B} (a, c) (b, d)
both {A} {B} a b c d e f = subst (λ (z : A). ◌≡◌ {A = A × B} (a, c) (z, d)) e (ap (λ (z : B). let p : A × B = (a, z) in p) f)

module _ {T : Type 0} where
  pub once_expected : ((s : onces.OnceState T) (c : ℕ) (e : OnceEvent T) → once_standing.waits_at (onces.next s c e).0 c ≡ once_standing.waits_after (once_standing.waits_at s c) (onces.next s c e).1)
      → ((s : onces.OnceState T) (c : ℕ) (e : OnceEvent T) → once_standing.runs_at (onces.next s c e).0 c ≡ once_standing.runs_after (once_standing.runs_at s c) (onces.next s c e).1)
      → ((s : onces.OnceState T) (c o : ℕ) (e : OnceEvent T) → c ≢ o → once_standing.waits_at (onces.next s o e).0 c ≡ once_standing.waits_at s c)
      → ((s : onces.OnceState T) (c o : ℕ) (e : OnceEvent T) → c ≢ o → once_standing.runs_at (onces.next s o e).0 c ≡ once_standing.runs_at s c)
      → ((s : onces.OnceState T) (c : ℕ) (e : OnceEvent T) → c < onces.callers_of s → once_standing.answers (once_standing.waits_at s c) (once_standing.runs_at s c) e (onces.next s c e).1 ≡ true)
      → ((s : onces.OnceState T) (c : ℕ) (e : OnceEvent T) → onces.callers_of (onces.next s c e).0 ≡ onces.callers_of s)
      → ((callers caller : ℕ) → (once_standing.waits_at {T = T} (onces.start callers) caller ≡ false) × (once_standing.runs_at {T = T} (onces.start callers) caller ≡ false))
      → (callers caller now : ℕ) (start : onces.OnceState T) (log : List (Entry (OnceEvent T) (OnceReply T))) (stage : OnceStage T) → OnceBegins callers start → Follows onces.next start log → caller < callers
      → once_allows start (stand_from once_stands (false, false) caller log) stage ≡ true → IsExpected (once_meaning stage (onces.next (after onces.next start log) caller (once_event stage now)).1)
  once_expected own_wait own_run others_wait others_run answers same first callers caller now start log stage begins follows below may =
      let s : onces.OnceState T = after onces.next start log in
      let place : onces.OnceState T → ℕ → Bool × Bool = λ s c. (once_standing.waits_at s c, once_standing.runs_at s c) in
      let at_first = first callers caller in
      let out : place start caller ≡ (false, false) = subst (λ (z : onces.OnceState T). place z caller ≡ (false, false)) (sym begins) (both (once_standing.waits_at {T = T} (onces.start callers) caller) false (once_standing.runs_at {T = T} (onces.start callers) caller) false at_first.0 at_first.1) in
      let stands = stands_in onces.next place once_stands (λ s c e. both (once_standing.waits_at (onces.next s c e).0 c) (once_standing.waits_after (once_standing.waits_at s c) (onces.next s c e).1) (once_standing.runs_at (onces.next s c e).0 c) (once_standing.runs_after (once_standing.runs_at s c) (onces.next s c e).1) (own_wait s c e) (own_run s c e))
      (λ s c o e other. both (once_standing.waits_at (onces.next s o e).0 c) (once_standing.waits_at s c) (once_standing.runs_at (onces.next s o e).0 c) (once_standing.runs_at s c) (others_wait s c o e other) (others_run s c o e other)) start caller log follows
      ∙ ap (λ (w : Bool × Bool). stand_from once_stands w caller log) out in
      let count : onces.callers_of s ≡ callers = size_stays onces.next onces.callers_of same start log ∙ (ap (λ (z : onces.OnceState T). onces.callers_of z) begins ∙ length-replicate callers false) in
      let is = answers s caller (once_event stage now) (subst (λ (n : ℕ). caller < n) (sym count) below) in
      once_answered stage now (once_standing.waits_at s caller) (once_standing.runs_at s caller) (onces.next s caller (once_event stage now)).1 (subst (λ (w : Bool × Bool). may_be w.0 w.1 stage ≡ true) (sym stands) may) is

-- a cond's
cond_answered : (stage : CondStage) (now : ℕ) (r : NotifyReply) → cond_laws.answers (cond_event stage now) r ≡ true → IsExpected (cond_meaning stage r)
cond_answered cond.Ticket now notified.Done is = tt
cond_answered cond.Ticket now notified.Still is = no is
cond_answered cond.Leave now notified.Done is = tt
cond_answered cond.Leave now notified.Still is = tt
cond_answered cond.Signal now notified.Done is = tt
cond_answered cond.Signal now notified.Still is = no is
cond_answered cond.Broadcast now notified.Done is = tt
cond_answered cond.Broadcast now notified.Still is = no is

pub cond_expected : ((s : conds.NotifyState) (c : ℕ) (e : NotifyEvent) → c < conds.callers_of s → cond_laws.answers e (conds.next s c e).1 ≡ true)
    → ((s : conds.NotifyState) (c : ℕ) (e : NotifyEvent) → conds.callers_of (conds.next s c e).0 ≡ conds.callers_of s)
    → (callers caller now : ℕ) (start : conds.NotifyState) (log : List (Entry NotifyEvent NotifyReply)) (stage : CondStage) → CondBegins callers start → caller < callers
    → IsExpected (cond_meaning stage (conds.next (after conds.next start log) caller (cond_event stage now)).1)
cond_expected answers same callers caller now start log stage begins below =
    let s : conds.NotifyState = after conds.next start log in
    let count : conds.callers_of s ≡ callers = size_stays conds.next conds.callers_of same start log ∙ (ap (λ (z : conds.NotifyState). conds.callers_of z) begins ∙ length-replicate callers _) in
    cond_answered stage now (conds.next s caller (cond_event stage now)).1 (answers s caller (cond_event stage now) (subst (λ (n : ℕ). caller < n) (sym count) below))

-- a pool's
looked : (r : PoolReply ℕ) → pool_laws.answers_look r ≡ true → IsExpected (look_meaning r)
looked (pooled.Item _) is = tt
looked pooled.Nothing is = tt
looked pooled.Kept is = no is
looked (pooled.Dropped _) is = no is
looked pooled.Swept is = no is
looked pooled.Still is = no is

pool_answered : (stage : PoolStage) (now : ℕ) (r : PoolReply ℕ) → pool_laws.answers (pool_event stage now) r ≡ true → IsExpected (pool_meaning stage r)
pool_answered (pool.Put item) now pooled.Kept is = tt
pool_answered (pool.Put item) now (pooled.Dropped _) is = tt
pool_answered (pool.Put item) now (pooled.Item _) is = no is
pool_answered (pool.Put item) now pooled.Nothing is = no is
pool_answered (pool.Put item) now pooled.Swept is = no is
pool_answered (pool.Put item) now pooled.Still is = no is
pool_answered pool.LookOwn now r is = looked r is
pool_answered (pool.LookOther part) now r is = looked r is
pool_answered (pool.LookVictim part) now r is = looked r is
pool_answered pool.Sweep now pooled.Swept is = tt
pool_answered pool.Sweep now pooled.Kept is = no is
pool_answered pool.Sweep now (pooled.Dropped _) is = no is
pool_answered pool.Sweep now (pooled.Item _) is = no is
pool_answered pool.Sweep now pooled.Nothing is = no is
pool_answered pool.Sweep now pooled.Still is = no is

names_part : (callers room : ℕ) (stage : PoolStage) (now : ℕ) → pool_allows (pools.start callers room) tt stage ≡ true → pool_laws.NamesPart callers (pool_event stage now)
names_part callers room (pool.Put item) now may = tt
names_part callers room pool.LookOwn now may = tt
names_part callers room (pool.LookOther part) now may = subst (λ (n : ℕ). part < n) (length-replicate callers _) (ltb-true part (pools.callers_of (pools.start {X = ℕ} callers room)) may)
names_part callers room (pool.LookVictim part) now may = subst (λ (n : ℕ). part < n) (length-replicate callers _) (ltb-true part (pools.callers_of (pools.start {X = ℕ} callers room)) may)
names_part callers room pool.Sweep now may = tt

pub pool_expected : ((callers room : ℕ) (log : List (Entry (PoolEvent ℕ) (PoolReply ℕ))) (caller : ℕ) (event : PoolEvent ℕ) → caller < callers → pool_laws.NamesPart callers event → pool_laws.answers event (pools.next (pool_laws.state_after callers room log) caller event).1 ≡ true)
    → (callers caller now : ℕ) (start : pools.PoolState ℕ) (log : List (Entry (PoolEvent ℕ) (PoolReply ℕ))) (stage : PoolStage) → PoolBegins callers start → caller < callers
    → pool_allows start tt stage ≡ true → IsExpected (pool_meaning stage (pools.next (after pools.next start log) caller (pool_event stage now)).1)
pool_expected answers callers caller now start log stage (room, begins) below =
    subst (λ (z : pools.PoolState ℕ). pool_allows z tt stage ≡ true → IsExpected (pool_meaning stage (pools.next (after pools.next z log) caller (pool_event stage now)).1)) (sym begins)
    (λ may. pool_answered stage now (pools.next (pool_laws.state_after callers room log) caller (pool_event stage now)).1 (answers callers room log caller (pool_event stage now) below (names_part callers room stage now may)))

-- a part's, which answers every event
pub part_expected : ((state : PartState ℕ) (caller : ℕ) (event : PoolEvent ℕ) → pool_laws.answers event (part_next state caller event).1 ≡ true)
    → (state : PartState ℕ) (caller now : ℕ) (stage : PoolStage) → IsExpected (pool_meaning stage (part_next state caller (pool_event stage now)).1)
part_expected answers state caller now stage = pool_answered stage now (part_next state caller (pool_event stage now)).1 (answers state caller (pool_event stage now))
