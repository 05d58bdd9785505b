-- That a writer's lock is cut as it is spelt, whatever answers `Still` it has.
use Rattle.std.proofs.Common.{◌≡◌, ◌∙◌, ℕ, Bool, true, false, if◌then◌else◌, cond, List, [], ◌∷◌, map, get_or, Option, Some, None, refl, sym, ap, subst}
use Rattle.std.proofs.lemmas.Bool.{false≢true}
use Rattle.sync_types.specs.declared.misuse.Misuse.{Misuse}
use Rattle.sync_types.specs.declared.misuse.Misuse.TheVariants.{UnlockOfUnlockedMutex}
use Rattle.sync_types.specs.declared.lock_call.LockReply.{LockReply}
use Rattle.sync_model.specs.declared.answer.Answer.TheVariants.{Halted}
use Rattle.sync_model.specs.declared.journal.Deed.{Deed}
use Rattle.sync_model.specs.declared.journal.Deed.TheVariants.{Event, Refused, Halt}
use Rattle.rw_core.specs.declared.event.RwEvent.{RwEvent}
use Rattle.rw_core.specs.declared.event.RwEvent.TheVariants.{WriteArrive, WriteWoken, Leave}
use Rattle.rw_core.specs.declared.reply.RwReply.{RwReply}
use Rattle.rw_core.specs.declared.reply.RwReply.TheVariants.{Arrived, Tried, Unlocked, Resumed, Left, Still}
use Rattle.rw_core.specs.declared.reply.Arrival.TheVariants.{Acquired as AtOnce, Queued}
use Rattle.rw_core.specs.declared.reply.Resumption.TheVariants.{Acquired, Queued as Announced, Requeued}
use Rattle.protocols.specs.declared.rw_mutex.RwMutexStage.{RwMutexStage}
use Rattle.protocols.specs.declared.rw_mutex.RwMutexStage.TheVariants as stage
use Rattle.protocols.specs.RwMutexStages.{rw_event, rw_meaning, arrive_meaning, resume_meaning, inner_meaning, leave_meaning}
use Rattle.protocols.specs.Spelling.{CallAnswer, Rest, Spells}
use Rattle.run_record.specs.declared.entered.ObjectEvent.{ObjectEvent}
use Rattle.run_record.specs.declared.entered.ObjectEvent.TheVariants as event
use Rattle.run_record.specs.declared.entered.ObjectReply.{ObjectReply}
use Rattle.run_record.specs.declared.entered.ObjectReply.TheVariants as reply
use Rattle.run_record.specs.declared.made.Made.{Made}
use Rattle.run_record.specs.Parts.{lifted_deed}
use Rattle.run_record.specs.RwMutexKind.{RwDeed, asks, is_still, up_to_the_last, without_stills, WriteLocks, write_part}
use Rattle.run_cuts.specs.Cuts.{Cuts, answers_by, goes_to, no_call}
use Rattle.run_cuts.specs.declared.writer.WriterStage.{WriterStage}
use Rattle.run_cuts.specs.declared.writer.WriterStage.TheVariants.{Arriving as arriving, Queued as queued, Inner as inner, AfterReaders as after_readers}
use Rattle.run_cuts.specs.RwMutexCuts.{WriterMove, arrival_move, woken_move, leave_move, still_move, writer_move, rw_event_in, rw_reply_in, rw_deed_in, event_deed, refused_deed, is_writer_event, by_rw_deed, write_cut}
use Rattle.run_cuts.proofs.CutLemmas.{Goes, IsMoveOf, IsMoves, alike_cuts, deeds_cuts, entries_part}

-- ---- the deeds of a lock, by its moves

abbrev Follows : List RwDeed → CallAnswer LockReply → WriterMove → (WriterStage → Type 0) → Type 0
Follows rest answer (answers_by given) on = (rest ≡ []) × (answer ≡ given)
Follows rest answer (goes_to later) on = on later
Follows rest answer no_call on = ⊥

abbrev Writes : WriterStage → List RwDeed → CallAnswer LockReply → Type 0
Writes from [] answer = ⊥
Writes from (deed ∷ rest) answer = Follows rest answer (writer_move from deed) (λ later. Writes later rest answer)

-- ---- a lock by the protocol goes by these moves

-- a stage of a writer's lock
abbrev is_writing : RwMutexStage → Bool
is_writing stage.Lock = true
is_writing stage.Resume = true
is_writing stage.LeaveWriting = true
is_writing stage.Inner = true
is_writing stage.Behind = true
is_writing stage.TryLock = false
is_writing stage.Unlock = false
is_writing stage.RLock = false
is_writing stage.TryRLock = false
is_writing stage.RUnlock = false
is_writing stage.LeaveReading = false

abbrev where_at : RwMutexStage → WriterStage
where_at stage.Lock = arriving
where_at stage.Resume = queued
where_at stage.LeaveWriting = queued
where_at stage.Inner = inner
where_at stage.Behind = after_readers
where_at stage.TryLock = arriving
where_at stage.Unlock = arriving
where_at stage.RLock = arriving
where_at stage.TryRLock = arriving
where_at stage.RUnlock = arriving
where_at stage.LeaveReading = arriving

module _ (rest : List RwDeed) (answer : CallAnswer LockReply) (later : (next : RwMutexStage) → is_writing next ≡ true → Spells rw_event rw_meaning next rest answer → Writes (where_at next) rest answer) where
  abbrev On : RwMutexStage → Type 0
  On next = Spells rw_event rw_meaning next rest answer

  abbrev Moves : WriterMove → Type 0
  Moves moved = Follows rest answer moved (λ next. Writes next rest answer)

  by_arriving : (r : RwReply) → Rest (arrive_meaning stage.Resume r) rest On answer → Moves (arrival_move r)
  by_arriving (Arrived AtOnce) goes = goes
  by_arriving (Arrived Queued) goes = later stage.Resume refl goes
  by_arriving (Tried b) goes = absurd goes
  by_arriving (Unlocked u) goes = absurd goes
  by_arriving (Resumed r) goes = absurd goes
  by_arriving Left goes = absurd goes
  by_arriving Still goes = absurd goes

  by_resuming : (r : RwReply) → Rest (resume_meaning r) rest On answer → Moves (woken_move queued r)
  by_resuming (Resumed Acquired) goes = goes
  by_resuming (Resumed Announced) goes = later stage.Behind refl goes
  by_resuming (Resumed Requeued) goes = later stage.Inner refl goes
  by_resuming Still goes = later stage.LeaveWriting refl goes
  by_resuming (Arrived a) goes = absurd goes
  by_resuming (Tried b) goes = absurd goes
  by_resuming (Unlocked u) goes = absurd goes
  by_resuming Left goes = absurd goes

  by_going_on : (r : RwReply) → Rest (inner_meaning r) rest On answer → Moves (woken_move inner r)
  by_going_on (Resumed Acquired) goes = goes
  by_going_on (Resumed Announced) goes = later stage.Behind refl goes
  by_going_on (Resumed Requeued) goes = later stage.Inner refl goes
  by_going_on Still goes = later stage.Inner refl goes
  by_going_on (Arrived a) goes = absurd goes
  by_going_on (Tried b) goes = absurd goes
  by_going_on (Unlocked u) goes = absurd goes
  by_going_on Left goes = absurd goes

  by_leaving : (next : RwMutexStage) (r : RwReply) → is_writing next ≡ true → Rest (leave_meaning next r) rest On answer → Moves (leave_move (where_at next) r)
  by_leaving next Left writes goes = goes
  by_leaving next Still writes goes = later next writes goes
  by_leaving next (Arrived a) writes goes = absurd goes
  by_leaving next (Tried b) writes goes = absurd goes
  by_leaving next (Unlocked u) writes goes = absurd goes
  by_leaving next (Resumed r) writes goes = absurd goes

  -- the moves of the event that the stage makes
  by_event : (from : RwMutexStage) (e : RwEvent) (r : RwReply) (now : ℕ) → e ≡ rw_event from now → Moves (writer_move (where_at from) (Event (rw_event from now) r)) → Moves (writer_move (where_at from) (Event e r))
  by_event from e r now is goes = subst (λ (x : RwEvent). Moves (writer_move (where_at from) (Event x r))) (sym is) goes

  by_refusal : (from : RwMutexStage) (e : RwEvent) (m : Misuse) (now : ℕ) → e ≡ rw_event from now → Moves (writer_move (where_at from) (Refused (rw_event from now) m)) → Moves (writer_move (where_at from) (Refused e m))
  by_refusal from e m now is goes = subst (λ (x : RwEvent). Moves (writer_move (where_at from) (Refused x m))) (sym is) goes

by_protocol : (from : RwMutexStage) → is_writing from ≡ true → (deeds : List RwDeed) (answer : CallAnswer LockReply) → Spells rw_event rw_meaning from deeds answer → Writes (where_at from) deeds answer
by_protocol from writes [] answer spelt = absurd spelt
by_protocol from writes (Halt m ∷ rest) answer spelt = absurd spelt
by_protocol stage.Lock writes (Event e r ∷ rest) answer ((now, is), goes) =
    by_event rest answer (λ next w s. by_protocol next w rest answer s) stage.Lock e r now is (by_arriving rest answer (λ next w s. by_protocol next w rest answer s) r goes)
by_protocol stage.Resume writes (Event e r ∷ rest) answer ((now, is), goes) =
    by_event rest answer (λ next w s. by_protocol next w rest answer s) stage.Resume e r now is (by_resuming rest answer (λ next w s. by_protocol next w rest answer s) r goes)
by_protocol stage.LeaveWriting writes (Event e r ∷ rest) answer ((now, is), goes) =
    by_event rest answer (λ next w s. by_protocol next w rest answer s) stage.LeaveWriting e r now is (by_leaving rest answer (λ next w s. by_protocol next w rest answer s) stage.Resume r refl goes)
by_protocol stage.Inner writes (Event e r ∷ rest) answer ((now, is), goes) =
    by_event rest answer (λ next w s. by_protocol next w rest answer s) stage.Inner e r now is (by_going_on rest answer (λ next w s. by_protocol next w rest answer s) r goes)
by_protocol stage.Behind writes (Event e r ∷ rest) answer ((now, is), goes) =
    by_event rest answer (λ next w s. by_protocol next w rest answer s) stage.Behind e r now is (by_leaving rest answer (λ next w s. by_protocol next w rest answer s) stage.Behind r refl goes)
by_protocol stage.Lock writes (Refused e m ∷ rest) answer ((now, is), none, halted) = by_refusal rest answer (λ next w s. by_protocol next w rest answer s) stage.Lock e m now is (none, halted)
by_protocol stage.Resume writes (Refused e m ∷ rest) answer ((now, is), none, halted) = by_refusal rest answer (λ next w s. by_protocol next w rest answer s) stage.Resume e m now is (none, halted)
by_protocol stage.LeaveWriting writes (Refused e m ∷ rest) answer ((now, is), none, halted) = by_refusal rest answer (λ next w s. by_protocol next w rest answer s) stage.LeaveWriting e m now is (none, halted)
by_protocol stage.Inner writes (Refused e m ∷ rest) answer ((now, is), none, halted) = by_refusal rest answer (λ next w s. by_protocol next w rest answer s) stage.Inner e m now is (none, halted)
by_protocol stage.Behind writes (Refused e m ∷ rest) answer ((now, is), none, halted) = by_refusal rest answer (λ next w s. by_protocol next w rest answer s) stage.Behind e m now is (none, halted)
by_protocol stage.TryLock writes (d ∷ rest) answer spelt = absurd (false≢true writes)
by_protocol stage.Unlock writes (d ∷ rest) answer spelt = absurd (false≢true writes)
by_protocol stage.RLock writes (d ∷ rest) answer spelt = absurd (false≢true writes)
by_protocol stage.TryRLock writes (d ∷ rest) answer spelt = absurd (false≢true writes)
by_protocol stage.RUnlock writes (d ∷ rest) answer spelt = absurd (false≢true writes)
by_protocol stage.LeaveReading writes (d ∷ rest) answer spelt = absurd (false≢true writes)

-- ---- answers `Still` before the last deed change none of them

abbrev waits : WriterStage → Bool
waits arriving = false
waits queued = true
waits inner = true
waits after_readers = true

still_is : (c : WriterStage) → waits c ≡ true → (e : RwEvent) → asks e ≡ true → writer_move c (Event e Still) ≡ goes_to c
still_is arriving w e is = absurd (false≢true w)
still_is queued w (WriteWoken now) is = refl
still_is queued w Leave is = refl
still_is inner w (WriteWoken now) is = refl
still_is inner w Leave is = refl
still_is after_readers w (WriteWoken now) is = refl
still_is after_readers w Leave is = refl
still_is c w e is = absurd cc

still_passes : (c : WriterStage) → waits c ≡ true → (d : RwDeed) → is_still d ≡ true → writer_move c d ≡ goes_to c
still_passes c w (Event e Still) is = still_is c w e is
still_passes c w (Event e (Arrived a)) is = absurd (false≢true is)
still_passes c w (Event e (Tried b)) is = absurd (false≢true is)
still_passes c w (Event e (Unlocked u)) is = absurd (false≢true is)
still_passes c w (Event e (Resumed r)) is = absurd (false≢true is)
still_passes c w (Event e Left) is = absurd (false≢true is)
still_passes c w (Refused e m) is = absurd (false≢true is)
still_passes c w (Halt m) is = absurd (false≢true is)

-- a lock goes on to where it waits
abbrev ToWait : WriterMove → Type 0
ToWait (answers_by answer) = Unit {0}
ToWait (goes_to later) = waits later ≡ true
ToWait no_call = Unit {0}

arrival_waits : (r : RwReply) → ToWait (arrival_move r)
arrival_waits (Arrived AtOnce) = tt
arrival_waits (Arrived Queued) = refl
arrival_waits (Tried b) = tt
arrival_waits (Unlocked u) = tt
arrival_waits (Resumed r) = tt
arrival_waits Left = tt
arrival_waits Still = tt

module _ (c : WriterStage) (w : waits c ≡ true) where
  woken_waits : (r : RwReply) → ToWait (woken_move c r)
  woken_waits Still = w
  woken_waits (Resumed Acquired) = tt
  woken_waits (Resumed Announced) = refl
  woken_waits (Resumed Requeued) = refl
  woken_waits (Arrived a) = tt
  woken_waits (Tried b) = tt
  woken_waits (Unlocked u) = tt
  woken_waits Left = tt

  leave_waits : (r : RwReply) → ToWait (leave_move c r)
  leave_waits Still = w
  leave_waits Left = tt
  leave_waits (Arrived a) = tt
  leave_waits (Tried b) = tt
  leave_waits (Unlocked u) = tt
  leave_waits (Resumed r) = tt

  still_waits : (r : RwReply) → ToWait (still_move c r)
  still_waits Still = w
  still_waits Left = tt
  still_waits (Arrived a) = tt
  still_waits (Tried b) = tt
  still_waits (Unlocked u) = tt
  still_waits (Resumed r) = tt

refusal_waits : (b : Bool) (m : Misuse) → ToWait (cond b (answers_by (Halted m)) no_call)
refusal_waits true m = tt
refusal_waits false m = tt

event_waits : (c : WriterStage) (e : RwEvent) (r : RwReply) → ToWait (writer_move c (Event e r))
event_waits arriving (WriteArrive now) r = arrival_waits r
event_waits queued (WriteWoken now) r = woken_waits queued refl r
event_waits queued Leave r = leave_waits queued refl r
event_waits inner (WriteWoken now) r = woken_waits inner refl r
event_waits inner Leave r = still_waits inner refl r
event_waits after_readers (WriteWoken now) r = still_waits after_readers refl r
event_waits after_readers Leave r = leave_waits after_readers refl r
event_waits c e r = tt

to_wait : (c : WriterStage) (d : RwDeed) → ToWait (writer_move c d)
to_wait c (Event e r) = event_waits c e r
to_wait c (Refused e m) = refusal_waits (is_writer_event c e) m
to_wait c (Halt m) = tt

not_none : (x : RwDeed) (xs : List RwDeed) → x ∷ xs ≡ [] → ⊥
not_none x xs e = absurd cc

one_stays : (b : Bool) (x : RwDeed) (zs : List RwDeed) → (zs ≡ [] → ⊥) → (if b then zs else x ∷ zs) ≡ [] → ⊥
one_stays true x zs some e = some e
one_stays false x zs some e = absurd cc

some_left : (x : RwDeed) (xs : List RwDeed) → up_to_the_last (x ∷ xs) ≡ [] → ⊥
some_left x [] e = absurd cc
some_left x (y ∷ ys) e = one_stays (is_still x) x (up_to_the_last (y ∷ ys)) (λ none. some_left y ys none) e

none_left : (ds xs : List RwDeed) → up_to_the_last ds ≡ up_to_the_last xs → xs ≡ [] → ds ≡ []
none_left [] xs same none = refl
none_left (d ∷ ds) xs same none = absurd (some_left d ds (same ∙ ap up_to_the_last none))

module _ (answer : CallAnswer LockReply) where
  -- the moves of one deed, before other lists
  onwards : (moved : WriterMove) → ToWait moved → (ds xs : List RwDeed) → (xs ≡ [] → ds ≡ []) → ((later : WriterStage) → waits later ≡ true → Writes later xs answer → Writes later ds answer)
      → Follows xs answer moved (λ later. Writes later xs answer) → Follows ds answer moved (λ later. Writes later ds answer)
  onwards (answers_by given) w ds xs none on (is, same) = (none is, same)
  onwards (goes_to later) w ds xs none on goes = on later w goes
  onwards no_call w ds xs none on goes = goes

  abbrev FollowsOn : WriterStage → WriterMove → List RwDeed → Type 0
  FollowsOn c moved ds = Follows ds answer moved (λ later. Writes later ds answer)

  kept_by : (b : Bool) (c : WriterStage) → waits c ≡ true → (x y : RwDeed) (ys : List RwDeed) → is_still x ≡ b → ((later : WriterStage) → waits later ≡ true → Writes later (y ∷ ys) answer → Writes later (up_to_the_last (y ∷ ys)) answer)
      → Writes c (x ∷ (y ∷ ys)) answer → Writes c (if b then up_to_the_last (y ∷ ys) else x ∷ up_to_the_last (y ∷ ys)) answer
  kept_by true c w x y ys is on goes = on c w (subst (λ (moved : WriterMove). FollowsOn c moved (y ∷ ys)) (still_passes c w x is) goes)
  kept_by false c w x y ys is on goes = onwards (writer_move c x) (to_wait c x) (up_to_the_last (y ∷ ys)) (y ∷ ys) (λ none. absurd (not_none y ys none)) on goes

  kept : (deeds : List RwDeed) (c : WriterStage) → waits c ≡ true → Writes c deeds answer → Writes c (up_to_the_last deeds) answer
  kept [] c w goes = goes
  kept (x ∷ []) c w goes = goes
  kept (x ∷ (y ∷ ys)) c w goes = kept_by (is_still x) c w x y ys refl (λ later v g. kept (y ∷ ys) later v g) goes

  back_by : (b : Bool) (c : WriterStage) → waits c ≡ true → (x y : RwDeed) (ys : List RwDeed) → is_still x ≡ b → ((later : WriterStage) → waits later ≡ true → Writes later (up_to_the_last (y ∷ ys)) answer → Writes later (y ∷ ys) answer)
      → Writes c (if b then up_to_the_last (y ∷ ys) else x ∷ up_to_the_last (y ∷ ys)) answer → Writes c (x ∷ (y ∷ ys)) answer
  back_by true c w x y ys is on goes = subst (λ (moved : WriterMove). FollowsOn c moved (y ∷ ys)) (sym (still_passes c w x is)) (on c w goes)
  back_by false c w x y ys is on goes = onwards (writer_move c x) (to_wait c x) (y ∷ ys) (up_to_the_last (y ∷ ys)) (λ none. absurd (some_left y ys none)) on goes

  back : (deeds : List RwDeed) (c : WriterStage) → waits c ≡ true → Writes c (up_to_the_last deeds) answer → Writes c deeds answer
  back [] c w goes = goes
  back (x ∷ []) c w goes = goes
  back (x ∷ (y ∷ ys)) c w goes = back_by (is_still x) c w x y ys refl (λ later v g. back (y ∷ ys) later v g) goes

  -- two lists that are the same but for such answers, behind one first deed
  alike : (x : RwDeed) (ds xs : List RwDeed) → up_to_the_last ds ≡ up_to_the_last xs → Writes arriving (x ∷ xs) answer → Writes arriving (x ∷ ds) answer
  alike x ds xs same goes =
      onwards (writer_move arriving x) (to_wait arriving x) ds xs (λ none. none_left ds xs same none)
      (λ later w g. back ds later w (subst (λ (l : List RwDeed). Writes later l answer) (sym same) (kept xs later w g))) goes

abbrev tail_of : List RwDeed → List RwDeed
tail_of [] = []
tail_of (x ∷ xs) = xs

moves_tell : (deeds spelt : List RwDeed) (answer : CallAnswer LockReply) → without_stills deeds ≡ without_stills spelt → Writes arriving spelt answer → Writes arriving deeds answer
moves_tell deeds [] answer same goes = absurd goes
moves_tell [] (x ∷ xs) answer same goes = absurd cc
moves_tell (d ∷ ds) (x ∷ xs) answer same goes =
    let heads : d ≡ x = ap (λ (l : List RwDeed). get_or l 0 d) same in
    subst (λ (z : RwDeed). Writes arriving (z ∷ ds) answer) (sym heads) (alike answer x ds xs (ap (λ (l : List RwDeed). tail_of l) same) goes)

by_lock : (deeds : List RwDeed) (answer : CallAnswer LockReply) → WriteLocks deeds answer → Writes arriving deeds answer
by_lock deeds answer (spelt, same, by) = moves_tell deeds spelt answer same (by_protocol stage.Lock refl spelt answer by)

-- ---- and what goes by these moves is a lock

abbrev stage_at : WriterStage → RwMutexStage
stage_at arriving = stage.Lock
stage_at queued = stage.Resume
stage_at inner = stage.Inner
stage_at after_readers = stage.Behind

-- from where it waits, the protocol spells the deeds, but for answers `Still` before the last
abbrev LocksFrom : WriterStage → List RwDeed → CallAnswer LockReply → Type 0
LocksFrom c deeds answer = (spelt : List RwDeed) × (up_to_the_last deeds ≡ up_to_the_last spelt) × Spells rw_event rw_meaning (stage_at c) spelt answer

first_kept : (d : RwDeed) (ds : List RwDeed) → is_still d ≡ false → up_to_the_last (d ∷ ds) ≡ d ∷ up_to_the_last ds
first_kept d [] is = refl
first_kept d (y ∷ ys) is = ap (λ (b : Bool). if b then up_to_the_last (y ∷ ys) else d ∷ up_to_the_last (y ∷ ys)) is

both_kept : (d : RwDeed) (ds xs : List RwDeed) → is_still d ≡ false → up_to_the_last ds ≡ up_to_the_last xs → up_to_the_last (d ∷ ds) ≡ up_to_the_last (d ∷ xs)
both_kept d ds xs is same = first_kept d ds is ∙ ap (λ (l : List RwDeed). d ∷ l) same ∙ sym (first_kept d xs is)

module _ (answer : CallAnswer LockReply) where
  left_out : (c : WriterStage) (d : RwDeed) (rest : List RwDeed) → is_still d ≡ true → Writes c rest answer → LocksFrom c rest answer → LocksFrom c (d ∷ rest) answer
  left_out c d [] is goes locks = absurd goes
  left_out c d (y ∷ ys) is goes (spelt, same, by) = (spelt, ap (λ (b : Bool). if b then up_to_the_last (y ∷ ys) else d ∷ up_to_the_last (y ∷ ys)) is ∙ same, by)

  module _ (rest : List RwDeed) (on : (c : WriterStage) → waits c ≡ true → Writes c rest answer → LocksFrom c rest answer) where
    abbrev Goes_by : WriterMove → Type 0
    Goes_by moved = Follows rest answer moved (λ later. Writes later rest answer)

    passed : (c : WriterStage) (d : RwDeed) → waits c ≡ true → is_still d ≡ true → Writes c rest answer → LocksFrom c (d ∷ rest) answer
    passed c d w is goes = left_out c d rest is goes (on c w goes)

    to_next : (c later : WriterStage) (d : RwDeed) → is_still d ≡ false → ((spelt : List RwDeed) → Spells rw_event rw_meaning (stage_at later) spelt answer → Spells rw_event rw_meaning (stage_at c) (d ∷ spelt) answer) → LocksFrom later rest answer → LocksFrom c (d ∷ rest) answer
    to_next c later d is spells (spelt, same, by) = (d ∷ spelt, both_kept d rest spelt is same, spells spelt by)

    queued_woken : (now : ℕ) (r : RwReply) → Goes_by (woken_move queued r) → LocksFrom queued (Event (WriteWoken now) r ∷ rest) answer
    queued_woken now Still goes = passed queued (Event (WriteWoken now) Still) refl refl goes
    queued_woken now (Resumed Acquired) goes = (Event (WriteWoken now) (Resumed Acquired) ∷ rest, refl, ((now, refl), goes))
    queued_woken now (Resumed Announced) goes = to_next queued after_readers (Event (WriteWoken now) (Resumed Announced)) refl (λ spelt by. ((now, refl), by)) (on after_readers refl goes)
    queued_woken now (Resumed Requeued) goes = to_next queued inner (Event (WriteWoken now) (Resumed Requeued)) refl (λ spelt by. ((now, refl), by)) (on inner refl goes)
    queued_woken now (Arrived a) goes = absurd goes
    queued_woken now (Tried b) goes = absurd goes
    queued_woken now (Unlocked u) goes = absurd goes
    queued_woken now Left goes = absurd goes

    inner_woken : (now : ℕ) (r : RwReply) → Goes_by (woken_move inner r) → LocksFrom inner (Event (WriteWoken now) r ∷ rest) answer
    inner_woken now Still goes = passed inner (Event (WriteWoken now) Still) refl refl goes
    inner_woken now (Resumed Acquired) goes = (Event (WriteWoken now) (Resumed Acquired) ∷ rest, refl, ((now, refl), goes))
    inner_woken now (Resumed Announced) goes = to_next inner after_readers (Event (WriteWoken now) (Resumed Announced)) refl (λ spelt by. ((now, refl), by)) (on after_readers refl goes)
    inner_woken now (Resumed Requeued) goes = to_next inner inner (Event (WriteWoken now) (Resumed Requeued)) refl (λ spelt by. ((now, refl), by)) (on inner refl goes)
    inner_woken now (Arrived a) goes = absurd goes
    inner_woken now (Tried b) goes = absurd goes
    inner_woken now (Unlocked u) goes = absurd goes
    inner_woken now Left goes = absurd goes

    queued_leaves : (r : RwReply) → Goes_by (leave_move queued r) → LocksFrom queued (Event Leave r ∷ rest) answer
    queued_leaves Still goes = passed queued (Event Leave Still) refl refl goes
    queued_leaves Left goes = (Event (WriteWoken 0) Still ∷ (Event Leave Left ∷ rest), refl, ((0, refl), ((0, refl), goes)))
    queued_leaves (Arrived a) goes = absurd goes
    queued_leaves (Tried b) goes = absurd goes
    queued_leaves (Unlocked u) goes = absurd goes
    queued_leaves (Resumed r) goes = absurd goes

    last_leaves : (r : RwReply) → Goes_by (leave_move after_readers r) → LocksFrom after_readers (Event Leave r ∷ rest) answer
    last_leaves Still goes = passed after_readers (Event Leave Still) refl refl goes
    last_leaves Left goes = (Event Leave Left ∷ rest, refl, ((0, refl), goes))
    last_leaves (Arrived a) goes = absurd goes
    last_leaves (Tried b) goes = absurd goes
    last_leaves (Unlocked u) goes = absurd goes
    last_leaves (Resumed r) goes = absurd goes

    in_vain : (c : WriterStage) (e : RwEvent) (r : RwReply) → waits c ≡ true → asks e ≡ true → Goes_by (still_move c r) → LocksFrom c (Event e r ∷ rest) answer
    in_vain c e Still w is goes = passed c (Event e Still) w is goes
    in_vain c e Left w is goes = absurd goes
    in_vain c e (Arrived a) w is goes = absurd goes
    in_vain c e (Tried b) w is goes = absurd goes
    in_vain c e (Unlocked u) w is goes = absurd goes
    in_vain c e (Resumed r) w is goes = absurd goes

    event_told : (c : WriterStage) → waits c ≡ true → (e : RwEvent) (r : RwReply) → Goes_by (writer_move c (Event e r)) → LocksFrom c (Event e r ∷ rest) answer
    event_told arriving w e r goes = absurd (false≢true w)
    event_told queued w (WriteWoken now) r goes = queued_woken now r goes
    event_told queued w Leave r goes = queued_leaves r goes
    event_told inner w (WriteWoken now) r goes = inner_woken now r goes
    event_told inner w Leave r goes = in_vain inner Leave r refl refl goes
    event_told after_readers w (WriteWoken now) r goes = in_vain after_readers (WriteWoken now) r refl refl goes
    event_told after_readers w Leave r goes = last_leaves r goes
    event_told c w e r goes = absurd goes

    refusal_told : (c : WriterStage) → waits c ≡ true → (e : RwEvent) (m : Misuse) → Goes_by (writer_move c (Refused e m)) → LocksFrom c (Refused e m ∷ rest) answer
    refusal_told arriving w e m goes = absurd (false≢true w)
    refusal_told queued w (WriteWoken now) m goes = (Refused (WriteWoken now) m ∷ rest, refl, ((now, refl), goes.0, goes.1))
    refusal_told queued w Leave m goes = (Event (WriteWoken 0) Still ∷ (Refused Leave m ∷ rest), refl, ((0, refl), ((0, refl), goes.0, goes.1)))
    refusal_told inner w (WriteWoken now) m goes = (Refused (WriteWoken now) m ∷ rest, refl, ((now, refl), goes.0, goes.1))
    refusal_told after_readers w Leave m goes = (Refused Leave m ∷ rest, refl, ((0, refl), goes.0, goes.1))
    refusal_told c w e m goes = absurd goes

  waits_on : (deeds : List RwDeed) (c : WriterStage) → waits c ≡ true → Writes c deeds answer → LocksFrom c deeds answer
  waits_on [] c w goes = absurd goes
  waits_on (Event e r ∷ rest) c w goes = event_told rest (λ later v g. waits_on rest later v g) c w e r goes
  waits_on (Refused e m ∷ rest) c w goes = refusal_told rest (λ later v g. waits_on rest later v g) c w e m goes
  waits_on (Halt m ∷ rest) c w goes = absurd goes

  arrives : (now : ℕ) (r : RwReply) (rest : List RwDeed) → Follows rest answer (arrival_move r) (λ later. Writes later rest answer) → WriteLocks (Event (WriteArrive now) r ∷ rest) answer
  arrives now (Arrived AtOnce) rest goes = (Event (WriteArrive now) (Arrived AtOnce) ∷ rest, refl, ((now, refl), goes))
  arrives now (Arrived Queued) rest goes = by (waits_on rest queued refl goes)
    where
      by : LocksFrom queued rest answer → WriteLocks (Event (WriteArrive now) (Arrived Queued) ∷ rest) answer
      by (spelt, same, spells) = (Event (WriteArrive now) (Arrived Queued) ∷ spelt, ap (λ (l : List RwDeed). Event (WriteArrive now) (Arrived Queued) ∷ l) same, ((now, refl), spells))
  arrives now (Tried b) rest goes = absurd goes
  arrives now (Unlocked u) rest goes = absurd goes
  arrives now (Resumed r) rest goes = absurd goes
  arrives now Left rest goes = absurd goes
  arrives now Still rest goes = absurd goes

to_lock : (deeds : List RwDeed) (answer : CallAnswer LockReply) → Writes arriving deeds answer → WriteLocks deeds answer
to_lock [] answer goes = absurd goes
to_lock (Event (WriteArrive now) r ∷ rest) answer goes = arrives answer now r rest goes
to_lock (Refused (WriteArrive now) m ∷ rest) answer goes = (Refused (WriteArrive now) m ∷ rest, refl, ((now, refl), goes.0, goes.1))
to_lock (Halt m ∷ rest) answer goes = absurd goes
to_lock (d ∷ rest) answer goes = absurd goes

-- ---- so it is cut

abbrev moves : WriterStage → Deed ObjectEvent ObjectReply → WriterMove
moves from deed = by_rw_deed from (rw_deed_in deed)

pub only_event : (o : ObjectEvent) (e : RwEvent) → rw_event_in o ≡ Some e → o ≡ event.RwMutex e
only_event (event.RwMutex x) e is = ap (λ (y : RwEvent). event.RwMutex y) (same is)
  where
    same : {x y : RwEvent} → Some x ≡ Some y → x ≡ y
    same is = cc
only_event o e is = absurd cc

pub only_reply : (o : ObjectReply) (r : RwReply) → rw_reply_in o ≡ Some r → o ≡ reply.RwMutex r
only_reply (reply.RwMutex x) r is = ap (λ (y : RwReply). reply.RwMutex y) (same is)
  where
    same : {x y : RwReply} → Some x ≡ Some y → x ≡ y
    same is = cc
only_reply o r is = absurd cc

some_deed : {x y : RwDeed} → Some x ≡ Some y → x ≡ y
some_deed is = cc

event_deed_is : (o : ObjectEvent) (p : ObjectReply) (e : Option RwEvent) (r : Option RwReply) (own : RwDeed) → rw_event_in o ≡ e → rw_reply_in p ≡ r → event_deed e r ≡ Some own → Event o p ≡ lifted_deed event.RwMutex reply.RwMutex own
event_deed_is o p (Some e) (Some r) own has answers is =
    ap (λ (x : ObjectEvent). Event x p) (only_event o e has) ∙ ap (λ (y : ObjectReply). Event (event.RwMutex e) y) (only_reply p r answers) ∙ ap (λ (d : RwDeed). lifted_deed event.RwMutex reply.RwMutex d) (some_deed is)
event_deed_is o p (Some e) None own has answers is = absurd cc
event_deed_is o p None r own has answers is = absurd cc

refused_deed_is : (o : ObjectEvent) (m : Misuse) (e : Option RwEvent) (own : RwDeed) → rw_event_in o ≡ e → refused_deed e m ≡ Some own → Refused o m ≡ lifted_deed event.RwMutex reply.RwMutex own
refused_deed_is o m (Some e) own has is = ap (λ (x : ObjectEvent). Refused x m) (only_event o e has) ∙ ap (λ (d : RwDeed). lifted_deed event.RwMutex reply.RwMutex d) (some_deed is)
refused_deed_is o m None own has is = absurd cc

only_deed : (d : Deed ObjectEvent ObjectReply) (own : RwDeed) → rw_deed_in d ≡ Some own → d ≡ lifted_deed event.RwMutex reply.RwMutex own
only_deed (Event o p) own is = event_deed_is o p (rw_event_in o) (rw_reply_in p) own refl refl is
only_deed (Refused o m) own is = refused_deed_is o m (rw_event_in o) own refl is
only_deed (Halt m) own is = absurd cc

move_told : (from : WriterStage) (d : Deed ObjectEvent ObjectReply) (own : RwDeed) → d ≡ lifted_deed event.RwMutex reply.RwMutex own → (moved : WriterMove) → writer_move from own ≡ moved → IsMoveOf event.RwMutex reply.RwMutex Writes from d moved
move_told from d own is (answers_by answer) goes = (own, is, subst (λ (m : WriterMove). Follows [] answer m (λ later. Writes later [] answer)) (sym goes) (refl, refl))
move_told from d own is (goes_to later) goes = (own, is, λ rest answer writes. subst (λ (m : WriterMove). Follows rest answer m (λ next. Writes next rest answer)) (sym goes) writes)
move_told from d own is no_call goes = tt

told : (from : WriterStage) (d : Deed ObjectEvent ObjectReply) → IsMoveOf event.RwMutex reply.RwMutex Writes from d (moves from d)
told from d = by (rw_deed_in d) refl
  where
    by : (o : Option RwDeed) → rw_deed_in d ≡ o → IsMoveOf event.RwMutex reply.RwMutex Writes from d (by_rw_deed from o)
    by (Some own) is = move_told from d own (only_deed d own is) (writer_move from own) refl
    by None is = tt

follows_goes : (rest : List RwDeed) (answer : CallAnswer LockReply) (moved : WriterMove) → Follows rest answer moved (λ later. Writes later rest answer) → Goes event.RwMutex reply.RwMutex Writes rest answer moved
follows_goes rest answer (answers_by given) goes = goes
follows_goes rest answer (goes_to later) goes = goes
follows_goes rest answer no_call goes = goes

tells : (from : WriterStage) (own : RwDeed) (rest : List RwDeed) (answer : CallAnswer LockReply) → Writes from (own ∷ rest) answer → Goes event.RwMutex reply.RwMutex Writes rest answer (moves from (lifted_deed event.RwMutex reply.RwMutex own))
tells from (Event e r) rest answer goes = follows_goes rest answer (writer_move from (Event e r)) goes
tells from (Refused e m) rest answer goes = follows_goes rest answer (writer_move from (Refused e m)) goes
tells from (Halt m) rest answer goes = absurd goes

halts : (from : WriterStage) → (own : RwDeed) × Writes from (own ∷ []) (Halted UnlockOfUnlockedMutex)
halts arriving = (Refused (WriteArrive 0) UnlockOfUnlockedMutex, (refl, refl))
halts queued = (Refused Leave UnlockOfUnlockedMutex, (refl, refl))
halts inner = (Refused (WriteWoken 0) UnlockOfUnlockedMutex, (refl, refl))
halts after_readers = (Refused Leave UnlockOfUnlockedMutex, (refl, refl))

moves_are : IsMoves event.RwMutex reply.RwMutex Writes moves
moves_are = record { told = told; tells = tells; some = λ from answer goes. goes; halts = halts }

pub write_cuts : (object : ℕ) → Cuts (write_part object) (write_cut object)
write_cuts object =
    alike_cuts (entries_part event.RwMutex reply.RwMutex Writes object arriving) (write_part object) (write_cut object) from to (deeds_cuts event.RwMutex reply.RwMutex Writes moves moves_are object arriving)
  where
    from : (items : List Made) (answer : CallAnswer LockReply) → entries_part event.RwMutex reply.RwMutex Writes object arriving items answer → write_part object items answer
    from items answer (entries, are, goes) = (entries, are, to_lock (map (λ x. x.deed) entries) answer goes)

    to : (items : List Made) (answer : CallAnswer LockReply) → write_part object items answer → entries_part event.RwMutex reply.RwMutex Writes object arriving items answer
    to items answer (entries, are, locks) = (entries, are, by_lock (map (λ x. x.deed) entries) answer locks)
