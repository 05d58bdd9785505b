-- Where a writer waits, by its answers, and that its lock goes on there.
use Rattle.std.proofs.Common.{◌≡◌, ◌≢◌, ◌↔◌, ℕ, Bool, true, false, if◌then◌else◌, List, [], ◌∷◌, ◌++◌, Ok, get_or, refl, sym, ap, ◌∙◌, subst}
use Rattle.std.proofs.lemmas.Bool.{false≢true}
use Rattle.sync_types.specs.declared.lock_call.LockReply.{LockReply}
use Rattle.sync_types.specs.declared.lock_call.LockReply.TheVariants as outcome
use Rattle.sync_model.specs.declared.answer.Answer.TheVariants.{Done}
use Rattle.sync_model.specs.declared.journal.Deed.TheVariants.{Event, Refused, Halt}
use Rattle.rw_core.specs.declared.event.RwEvent.TheVariants.{WriteArrive, WriteWoken, Leave}
use Rattle.rw_core.specs.declared.reply.RwReply.{RwReply}
use Rattle.rw_core.specs.declared.reply.RwReply.TheVariants.{Arrived, Tried, Unlocked, Resumed, Left, Still}
use Rattle.rw_core.specs.declared.reply.Arrival.TheVariants.{Queued}
use Rattle.rw_core.specs.declared.reply.Resumption.{Resumption}
use Rattle.rw_core.specs.declared.reply.Resumption.TheVariants.{Acquired, Queued as Announced, Requeued}
use Rattle.protocols.specs.declared.rw_mutex.RwMutexStage.{RwMutexStage}
use Rattle.protocols.specs.declared.rw_mutex.RwMutexStage.TheVariants as stage
use Rattle.protocols.specs.RwMutexStages.{rw_event, rw_meaning}
use Rattle.protocols.specs.Spelling.{CallAnswer, Spells}
use Rattle.run_record.specs.RwMutexKind.{RwDeed, is_still, up_to_the_last, without_stills, WriteLocks}
use Rattle.run_record.proofs.WriteLocks.{tail_of}

-- where a writer is that was queued: it can't tell; at the inner mutex; behind readers; at the end of its lock; or where none comes
data Where : Type 0 where
  unsure : Where
  at_inner : Where
  behind_readers : Where
  over : Where
  wrong : Where

abbrev resumed : Resumption → Where → Where
resumed Acquired unsure = over
resumed Acquired at_inner = over
resumed Announced unsure = behind_readers
resumed Announced at_inner = behind_readers
resumed Requeued unsure = at_inner
resumed Requeued at_inner = at_inner
resumed r at = wrong

abbrev left : Where → Where
left unsure = over
left behind_readers = over
left at = wrong

abbrev refused : Where → Where
refused over = wrong
refused wrong = wrong
refused at = over

abbrev by_reply : RwReply → Where → Where
by_reply Still at = at
by_reply (Resumed r) at = resumed r at
by_reply Left at = left at
by_reply r at = wrong

abbrev step : RwDeed → Where → Where
step (Event e r) at = by_reply r at
step (Refused e m) at = refused at
step (Halt m) at = wrong

abbrev after : Where → List RwDeed → Where
after at [] = at
after at (d ∷ ds) = after (step d at) ds

-- ---- by the protocol it comes to the end

abbrev where_of : RwMutexStage → Where
where_of stage.Resume = unsure
where_of stage.LeaveWriting = unsure
where_of stage.Inner = at_inner
where_of stage.Behind = behind_readers
where_of from = wrong

abbrev is_waiting : RwMutexStage → Bool
is_waiting stage.Resume = true
is_waiting stage.LeaveWriting = true
is_waiting stage.Inner = true
is_waiting stage.Behind = true
is_waiting from = false

ends : (rest : List RwDeed) → rest ≡ [] → after over rest ≡ over
ends rest none = ap (λ (l : List RwDeed). after over l) none

comes : (from : RwMutexStage) → is_waiting from ≡ true → (deeds : List RwDeed) (answer : CallAnswer LockReply) → Spells rw_event rw_meaning from deeds answer → after (where_of from) deeds ≡ over
comes from waits [] answer spelt = absurd spelt
comes from waits (Halt m ∷ rest) answer spelt = absurd spelt
comes stage.Resume waits (Refused e m ∷ rest) answer spelt = ends rest spelt.1
comes stage.Resume waits (Event e (Resumed Acquired) ∷ rest) answer spelt = ends rest spelt.1.0
comes stage.Resume waits (Event e (Resumed Announced) ∷ rest) answer spelt = comes stage.Behind refl rest answer spelt.1
comes stage.Resume waits (Event e (Resumed Requeued) ∷ rest) answer spelt = comes stage.Inner refl rest answer spelt.1
comes stage.Resume waits (Event e Still ∷ rest) answer spelt = comes stage.LeaveWriting refl rest answer spelt.1
comes stage.Resume waits (Event e (Arrived a) ∷ rest) answer spelt = absurd spelt.1
comes stage.Resume waits (Event e (Tried b) ∷ rest) answer spelt = absurd spelt.1
comes stage.Resume waits (Event e (Unlocked u) ∷ rest) answer spelt = absurd spelt.1
comes stage.Resume waits (Event e Left ∷ rest) answer spelt = absurd spelt.1
comes stage.Inner waits (Refused e m ∷ rest) answer spelt = ends rest spelt.1
comes stage.Inner waits (Event e (Resumed Acquired) ∷ rest) answer spelt = ends rest spelt.1.0
comes stage.Inner waits (Event e (Resumed Announced) ∷ rest) answer spelt = comes stage.Behind refl rest answer spelt.1
comes stage.Inner waits (Event e (Resumed Requeued) ∷ rest) answer spelt = comes stage.Inner refl rest answer spelt.1
comes stage.Inner waits (Event e Still ∷ rest) answer spelt = comes stage.Inner refl rest answer spelt.1
comes stage.Inner waits (Event e (Arrived a) ∷ rest) answer spelt = absurd spelt.1
comes stage.Inner waits (Event e (Tried b) ∷ rest) answer spelt = absurd spelt.1
comes stage.Inner waits (Event e (Unlocked u) ∷ rest) answer spelt = absurd spelt.1
comes stage.Inner waits (Event e Left ∷ rest) answer spelt = absurd spelt.1
comes stage.LeaveWriting waits (Refused e m ∷ rest) answer spelt = ends rest spelt.1
comes stage.LeaveWriting waits (Event e Left ∷ rest) answer spelt = ends rest spelt.1.0
comes stage.LeaveWriting waits (Event e Still ∷ rest) answer spelt = comes stage.Resume refl rest answer spelt.1
comes stage.LeaveWriting waits (Event e (Arrived a) ∷ rest) answer spelt = absurd spelt.1
comes stage.LeaveWriting waits (Event e (Tried b) ∷ rest) answer spelt = absurd spelt.1
comes stage.LeaveWriting waits (Event e (Unlocked u) ∷ rest) answer spelt = absurd spelt.1
comes stage.LeaveWriting waits (Event e (Resumed r) ∷ rest) answer spelt = absurd spelt.1
comes stage.Behind waits (Refused e m ∷ rest) answer spelt = ends rest spelt.1
comes stage.Behind waits (Event e Left ∷ rest) answer spelt = ends rest spelt.1.0
comes stage.Behind waits (Event e Still ∷ rest) answer spelt = comes stage.Behind refl rest answer spelt.1
comes stage.Behind waits (Event e (Arrived a) ∷ rest) answer spelt = absurd spelt.1
comes stage.Behind waits (Event e (Tried b) ∷ rest) answer spelt = absurd spelt.1
comes stage.Behind waits (Event e (Unlocked u) ∷ rest) answer spelt = absurd spelt.1
comes stage.Behind waits (Event e (Resumed r) ∷ rest) answer spelt = absurd spelt.1
comes stage.Lock waits (Event e r ∷ rest) answer spelt = absurd (false≢true waits)
comes stage.Lock waits (Refused e m ∷ rest) answer spelt = absurd (false≢true waits)
comes stage.TryLock waits (Event e r ∷ rest) answer spelt = absurd (false≢true waits)
comes stage.TryLock waits (Refused e m ∷ rest) answer spelt = absurd (false≢true waits)
comes stage.Unlock waits (Event e r ∷ rest) answer spelt = absurd (false≢true waits)
comes stage.Unlock waits (Refused e m ∷ rest) answer spelt = absurd (false≢true waits)
comes stage.RLock waits (Event e r ∷ rest) answer spelt = absurd (false≢true waits)
comes stage.RLock waits (Refused e m ∷ rest) answer spelt = absurd (false≢true waits)
comes stage.TryRLock waits (Event e r ∷ rest) answer spelt = absurd (false≢true waits)
comes stage.TryRLock waits (Refused e m ∷ rest) answer spelt = absurd (false≢true waits)
comes stage.RUnlock waits (Event e r ∷ rest) answer spelt = absurd (false≢true waits)
comes stage.RUnlock waits (Refused e m ∷ rest) answer spelt = absurd (false≢true waits)
comes stage.LeaveReading waits (Event e r ∷ rest) answer spelt = absurd (false≢true waits)
comes stage.LeaveReading waits (Refused e m ∷ rest) answer spelt = absurd (false≢true waits)

-- ---- an answer `Still` changes nothing of that

stays : (d : RwDeed) (at : Where) → is_still d ≡ true → step d at ≡ at
stays (Event e Still) at is = refl
stays (Event e (Arrived a)) at is = absurd (false≢true is)
stays (Event e (Tried b)) at is = absurd (false≢true is)
stays (Event e (Unlocked u)) at is = absurd (false≢true is)
stays (Event e (Resumed r)) at is = absurd (false≢true is)
stays (Event e Left) at is = absurd (false≢true is)
stays (Refused e m) at is = absurd (false≢true is)
stays (Halt m) at is = absurd (false≢true is)

past : (b : Bool) (d : RwDeed) (zs ys : List RwDeed) (at : Where) → is_still d ≡ b → ((w : Where) → after w zs ≡ after w ys) → after at (if b then zs else d ∷ zs) ≡ after at (d ∷ ys)
past true d zs ys at is same = same at ∙ ap (λ (w : Where). after w ys) (sym (stays d at is))
past false d zs ys at is same = same (step d at)

same_after : (ds : List RwDeed) (at : Where) → after at (up_to_the_last ds) ≡ after at ds
same_after [] at = refl
same_after (x ∷ []) at = refl
same_after (x ∷ (y ∷ ys)) at = past (is_still x) x (up_to_the_last (y ∷ ys)) (y ∷ ys) at refl (λ w. same_after (y ∷ ys) w)

by_spelt : (now : ℕ) (deeds spelt : List RwDeed) (answer : CallAnswer LockReply) → without_stills (Event (WriteArrive now) (Arrived Queued) ∷ deeds) ≡ without_stills spelt → Spells rw_event rw_meaning stage.Lock spelt answer → after unsure deeds ≡ over
by_spelt now deeds [] answer same by = absurd by
by_spelt now deeds (x ∷ xs) answer same by =
    let first : RwDeed = Event (WriteArrive now) (Arrived Queued) in
    let heads : first ≡ x = ap (λ (l : List RwDeed). get_or l 0 first) same in
    let tails : up_to_the_last deeds ≡ up_to_the_last xs = ap (λ (l : List RwDeed). tail_of l) same in
    let on = subst (λ (d : RwDeed). Spells rw_event rw_meaning stage.Lock (d ∷ xs) answer) (sym heads) by in
    sym (same_after deeds unsure) ∙ (ap (λ (l : List RwDeed). after unsure l) tails ∙ (same_after xs unsure ∙ comes stage.Resume refl xs answer on.1))

lock_is_over : (now : ℕ) (deeds : List RwDeed) (answer : CallAnswer LockReply) → WriteLocks (Event (WriteArrive now) (Arrived Queued) ∷ deeds) answer → after unsure deeds ≡ over
lock_is_over now deeds answer (spelt, same, by) = by_spelt now deeds spelt answer same by

-- ---- the laws

pub leaves : (now : ℕ) → WriteLocks (Event (WriteArrive now) (Arrived Queued) ∷ (Event Leave Left ∷ [])) (Done (Ok outcome.Done))
leaves now = (Event (WriteArrive now) (Arrived Queued) ∷ (Event (WriteWoken 0) Still ∷ (Event Leave Left ∷ [])), refl, ((now, refl), ((0, refl), ((0, refl), (refl, refl)))))

pub waits : (now : ℕ) (answer : CallAnswer LockReply) → WriteLocks (Event (WriteArrive now) (Arrived Queued) ∷ []) answer → ⊥
waits now answer locks = let is = lock_is_over now [] answer locks in absurd cc

never_resumed : (r : Resumption) → resumed r behind_readers ≡ wrong
never_resumed Acquired = refl
never_resumed Announced = refl
never_resumed Requeued = refl

pub behind : (arrived woken again : ℕ) (reply : Resumption) (answer : CallAnswer LockReply)
    → WriteLocks (Event (WriteArrive arrived) (Arrived Queued) ∷ (Event (WriteWoken woken) (Resumed Announced) ∷ (Event (WriteWoken again) (Resumed reply) ∷ []))) answer → ⊥
behind arrived woken again reply answer locks =
    let is = sym (never_resumed reply) ∙ lock_is_over arrived (Event (WriteWoken woken) (Resumed Announced) ∷ (Event (WriteWoken again) (Resumed reply) ∷ [])) answer locks in absurd cc

pub inner : (arrived woken : ℕ) (answer : CallAnswer LockReply) → WriteLocks (Event (WriteArrive arrived) (Arrived Queued) ∷ (Event (WriteWoken woken) (Resumed Requeued) ∷ (Event Leave Left ∷ []))) answer → ⊥
inner arrived woken answer locks = let is = lock_is_over arrived (Event (WriteWoken woken) (Resumed Requeued) ∷ (Event Leave Left ∷ [])) answer locks in absurd cc

some_more : (xs ys : List RwDeed) → (ys ≡ [] → ⊥) → xs ++ ys ≡ [] → ⊥
some_more [] ys some none = some none
some_more (x ∷ xs) ys some none = absurd cc

behind_one : (x : RwDeed) (one two : List RwDeed) → (one ≡ [] → ⊥) → (two ≡ [] → ⊥) → up_to_the_last one ≡ up_to_the_last two → up_to_the_last (x ∷ one) ≡ up_to_the_last (x ∷ two)
behind_one x [] two some any same = absurd (some refl)
behind_one x (y ∷ ys) [] some any same = absurd (any refl)
behind_one x (y ∷ ys) (z ∷ zs) some any same = ap (λ (l : List RwDeed). if is_still x then l else x ∷ l) same

dropped : (earlier later : List RwDeed) (still : RwDeed) → is_still still ≡ true → (later ≡ [] → ⊥) → up_to_the_last (earlier ++ still ∷ later) ≡ up_to_the_last (earlier ++ later)
dropped [] [] still is some = absurd (some refl)
dropped [] (y ∷ ys) still is some = ap (λ (b : Bool). if b then up_to_the_last (y ∷ ys) else still ∷ up_to_the_last (y ∷ ys)) is
dropped (x ∷ xs) later still is some =
    behind_one x (xs ++ still ∷ later) (xs ++ later) (some_more xs (still ∷ later) (λ none. absurd cc)) (some_more xs later some) (dropped xs later still is some)

pub stills : (first still : RwDeed) (earlier later : List RwDeed) (answer : CallAnswer LockReply) → is_still still ≡ true → later ≢ [] → WriteLocks (first ∷ (earlier ++ still ∷ later)) answer ↔ WriteLocks (first ∷ (earlier ++ later)) answer
stills first still earlier later answer is some =
    let same : without_stills (first ∷ (earlier ++ still ∷ later)) ≡ without_stills (first ∷ (earlier ++ later)) = ap (λ (l : List RwDeed). first ∷ l) (dropped earlier later still is some) in
    (λ locks. (locks.0, sym same ∙ locks.1, locks.2), λ locks. (locks.0, same ∙ locks.1, locks.2))
