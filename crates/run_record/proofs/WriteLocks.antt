-- How a writer's lock ends, with whatever answers `Still` it has.
use Rattle.std.proofs.Common.{◌≡◌, ℕ, Bool, true, false, if◌then◌else◌, List, [], ◌∷◌, Result, Ok, get_or, refl, sym, ap, ◌∙◌, subst}
use Rattle.std.proofs.lemmas.Bool.{false≢true}
use Rattle.sync_types.specs.declared.misuse.Misuse.{Misuse}
use Rattle.sync_types.specs.declared.lock_call.LockReply.{LockReply}
use Rattle.sync_model.specs.declared.answer.Answer.TheVariants.{Done, Halted}
use Rattle.sync_model.specs.declared.journal.Deed.TheVariants.{Event, Refused, Halt}
use Rattle.rw_core.specs.declared.event.RwEvent.{RwEvent}
use Rattle.rw_core.specs.declared.event.RwEvent.TheVariants.{WriteArrive}
use Rattle.rw_core.specs.declared.reply.RwReply.{RwReply}
use Rattle.rw_core.specs.declared.reply.RwReply.TheVariants.{Arrived, Tried, Unlocked, Resumed, Left, Still}
use Rattle.rw_core.specs.declared.reply.Arrival.TheVariants.{Acquired as AtOnce, Queued}
use Rattle.rw_core.specs.declared.reply.Resumption.TheVariants.{Acquired, Queued as Announced, Requeued}
use Rattle.rw_core.specs.Edges.{acquires}
use Rattle.protocols.specs.declared.rw_mutex.RwMutexStage.{RwMutexStage}
use Rattle.protocols.specs.declared.rw_mutex.RwMutexStage.TheVariants as stage
use Rattle.protocols.specs.RwMutexStages.{rw_event, rw_meaning, arrive_meaning, resume_meaning, inner_meaning, leave_meaning}
use Rattle.protocols.specs.Spelling.{CallAnswer, Rest, Spells, IsEvent, IsLast, Ends, TakesInLast}
use Rattle.run_record.specs.RwMutexKind.{RwDeed, asks, is_still, up_to_the_last, without_stills, WriteLocks, IsLastWhere, EndsAtFirst}

-- ---- by the protocol a lock ends at its first event that acquires, from whichever of its stages on

-- a stage of a writer's lock
abbrev is_writing : RwMutexStage → Bool
is_writing stage.Lock = true
is_writing stage.Resume = true
is_writing stage.LeaveWriting = true
is_writing stage.Inner = true
is_writing stage.Behind = true
is_writing stage.TryLock = false
is_writing stage.Unlock = false
is_writing stage.RLock = false
is_writing stage.TryRLock = false
is_writing stage.RUnlock = false
is_writing stage.LeaveReading = false

module _ (rest : List RwDeed) (answer : CallAnswer LockReply) (on : RwMutexStage → Type 0) (later : (next : RwMutexStage) → is_writing next ≡ true → on next → EndsAtFirst rest answer) where
  abbrev Goes : RwReply → Type 0
  Goes r = IsLastWhere (acquires r) rest answer (EndsAtFirst rest answer)

  by_arriving : (r : RwReply) → Rest (arrive_meaning stage.Resume r) rest on answer → Goes r
  by_arriving (Arrived AtOnce) goes = goes
  by_arriving (Arrived Queued) goes = later stage.Resume refl goes
  by_arriving (Tried b) goes = absurd goes
  by_arriving (Unlocked u) goes = absurd goes
  by_arriving (Resumed r) goes = absurd goes
  by_arriving Left goes = absurd goes
  by_arriving Still goes = absurd goes

  by_resuming : (r : RwReply) → Rest (resume_meaning r) rest on answer → Goes r
  by_resuming (Resumed Acquired) goes = goes
  by_resuming (Resumed Announced) goes = later stage.Behind refl goes
  by_resuming (Resumed Requeued) goes = later stage.Inner refl goes
  by_resuming Still goes = later stage.LeaveWriting refl goes
  by_resuming (Arrived a) goes = absurd goes
  by_resuming (Tried b) goes = absurd goes
  by_resuming (Unlocked u) goes = absurd goes
  by_resuming Left goes = absurd goes

  by_going_on : (r : RwReply) → Rest (inner_meaning r) rest on answer → Goes r
  by_going_on (Resumed Acquired) goes = goes
  by_going_on (Resumed Announced) goes = later stage.Behind refl goes
  by_going_on (Resumed Requeued) goes = later stage.Inner refl goes
  by_going_on Still goes = later stage.Inner refl goes
  by_going_on (Arrived a) goes = absurd goes
  by_going_on (Tried b) goes = absurd goes
  by_going_on (Unlocked u) goes = absurd goes
  by_going_on Left goes = absurd goes

  by_leaving : (next : RwMutexStage) (r : RwReply) → is_writing next ≡ true → Rest (leave_meaning next r) rest on answer → Goes r
  by_leaving next Left writes goes = goes
  by_leaving next Still writes goes = later next writes goes
  by_leaving next (Arrived a) writes goes = absurd goes
  by_leaving next (Tried b) writes goes = absurd goes
  by_leaving next (Unlocked u) writes goes = absurd goes
  by_leaving next (Resumed r) writes goes = absurd goes

by_protocol : (from : RwMutexStage) → is_writing from ≡ true → (deeds : List RwDeed) (answer : CallAnswer LockReply) → Spells rw_event rw_meaning from deeds answer → EndsAtFirst deeds answer
by_protocol from writes [] answer spelt = absurd spelt
by_protocol from writes (Refused e m ∷ rest) answer spelt = (spelt.1, spelt.2)
by_protocol from writes (Halt m ∷ rest) answer spelt = absurd spelt
by_protocol stage.Lock writes (Event e r ∷ rest) answer spelt = by_arriving rest answer (λ next. Spells rw_event rw_meaning next rest answer) (λ next is goes. by_protocol next is rest answer goes) r spelt.1
by_protocol stage.Resume writes (Event e r ∷ rest) answer spelt = by_resuming rest answer (λ next. Spells rw_event rw_meaning next rest answer) (λ next is goes. by_protocol next is rest answer goes) r spelt.1
by_protocol stage.LeaveWriting writes (Event e r ∷ rest) answer spelt = by_leaving rest answer (λ next. Spells rw_event rw_meaning next rest answer) (λ next is goes. by_protocol next is rest answer goes) stage.Resume r refl spelt.1
by_protocol stage.Inner writes (Event e r ∷ rest) answer spelt = by_going_on rest answer (λ next. Spells rw_event rw_meaning next rest answer) (λ next is goes. by_protocol next is rest answer goes) r spelt.1
by_protocol stage.Behind writes (Event e r ∷ rest) answer spelt = by_leaving rest answer (λ next. Spells rw_event rw_meaning next rest answer) (λ next is goes. by_protocol next is rest answer goes) stage.Behind r refl spelt.1
by_protocol stage.TryLock writes (Event e r ∷ rest) answer spelt = absurd (false≢true writes)
by_protocol stage.Unlock writes (Event e r ∷ rest) answer spelt = absurd (false≢true writes)
by_protocol stage.RLock writes (Event e r ∷ rest) answer spelt = absurd (false≢true writes)
by_protocol stage.TryRLock writes (Event e r ∷ rest) answer spelt = absurd (false≢true writes)
by_protocol stage.RUnlock writes (Event e r ∷ rest) answer spelt = absurd (false≢true writes)
by_protocol stage.LeaveReading writes (Event e r ∷ rest) answer spelt = absurd (false≢true writes)

-- ---- answers `Still` before the last deed don't change that

not_none : (x : RwDeed) (xs : List RwDeed) → x ∷ xs ≡ [] → ⊥
not_none x xs e = absurd cc

one_stays : (b : Bool) (x : RwDeed) (zs : List RwDeed) → (zs ≡ [] → ⊥) → (if b then zs else x ∷ zs) ≡ [] → ⊥
one_stays true x zs some e = some e
one_stays false x zs some e = absurd cc

some_left : (x : RwDeed) (xs : List RwDeed) → up_to_the_last (x ∷ xs) ≡ [] → ⊥
some_left x [] e = absurd cc
some_left x (y ∷ ys) e = one_stays (is_still x) x (up_to_the_last (y ∷ ys)) (λ none. some_left y ys none) e

none_left : (ds xs : List RwDeed) → up_to_the_last ds ≡ up_to_the_last xs → xs ≡ [] → ds ≡ []
none_left [] xs same none = refl
none_left (d ∷ ds) xs same none = absurd (some_left d ds (same ∙ ap up_to_the_last none))

abbrev pub tail_of : List RwDeed → List RwDeed
tail_of [] = []
tail_of (x ∷ xs) = xs

module _ (answer : CallAnswer LockReply) where
  either : (b : Bool) (x : RwDeed) (zs : List RwDeed) → EndsAtFirst zs answer → EndsAtFirst (x ∷ zs) answer → EndsAtFirst (if b then zs else x ∷ zs) answer
  either true x zs without beside = without
  either false x zs without beside = beside

  going_on : (b : Bool) (y : RwDeed) (ys zs : List RwDeed) → (EndsAtFirst (y ∷ ys) answer → EndsAtFirst zs answer)
      → IsLastWhere b (y ∷ ys) answer (EndsAtFirst (y ∷ ys) answer) → EndsAtFirst zs answer × IsLastWhere b zs answer (EndsAtFirst zs answer)
  going_on true y ys zs keep ends = absurd (not_none y ys ends.0)
  going_on false y ys zs keep ends = (keep ends, keep ends)

  kept : (deeds : List RwDeed) → EndsAtFirst deeds answer → EndsAtFirst (up_to_the_last deeds) answer
  kept [] ends = absurd ends
  kept (x ∷ []) ends = ends
  kept (Event e r ∷ (y ∷ ys)) ends =
      let both = going_on (acquires r) y ys (up_to_the_last (y ∷ ys)) (λ later. kept (y ∷ ys) later) ends in
      either (is_still (Event e r)) (Event e r) (up_to_the_last (y ∷ ys)) both.0 both.1
  kept (Refused e m ∷ (y ∷ ys)) ends = absurd (not_none y ys ends.0)
  kept (Halt m ∷ (y ∷ ys)) ends = absurd ends

  unless_left : (b : Bool) (x : RwDeed) (zs : List RwDeed) → (EndsAtFirst (x ∷ zs) answer → EndsAtFirst zs answer) → EndsAtFirst (if b then zs else x ∷ zs) answer → EndsAtFirst zs answer
  unless_left true x zs on ends = ends
  unless_left false x zs on ends = on ends

  regained : (b : Bool) (y : RwDeed) (ys zs : List RwDeed) → (zs ≡ [] → ⊥) → (EndsAtFirst zs answer → EndsAtFirst (y ∷ ys) answer)
      → IsLastWhere b zs answer (EndsAtFirst zs answer) → IsLastWhere b (y ∷ ys) answer (EndsAtFirst (y ∷ ys) answer)
  regained true y ys zs some on ends = absurd (some ends.0)
  regained false y ys zs some on ends = on ends

  back : (deeds : List RwDeed) → EndsAtFirst (up_to_the_last deeds) answer → EndsAtFirst deeds answer
  back [] ends = absurd ends
  back (x ∷ []) ends = ends
  back (Event e Still ∷ (y ∷ ys)) ends = back (y ∷ ys) (unless_left (asks e) (Event e Still) (up_to_the_last (y ∷ ys)) (λ later. later) ends)
  back (Event e (Arrived a) ∷ (y ∷ ys)) ends = regained (acquires (Arrived a)) y ys (up_to_the_last (y ∷ ys)) (λ none. some_left y ys none) (λ later. back (y ∷ ys) later) ends
  back (Event e (Tried b) ∷ (y ∷ ys)) ends = regained (acquires (Tried b)) y ys (up_to_the_last (y ∷ ys)) (λ none. some_left y ys none) (λ later. back (y ∷ ys) later) ends
  back (Event e (Unlocked u) ∷ (y ∷ ys)) ends = regained (acquires (Unlocked u)) y ys (up_to_the_last (y ∷ ys)) (λ none. some_left y ys none) (λ later. back (y ∷ ys) later) ends
  back (Event e (Resumed r) ∷ (y ∷ ys)) ends = regained (acquires (Resumed r)) y ys (up_to_the_last (y ∷ ys)) (λ none. some_left y ys none) (λ later. back (y ∷ ys) later) ends
  back (Event e Left ∷ (y ∷ ys)) ends = regained (acquires Left) y ys (up_to_the_last (y ∷ ys)) (λ none. some_left y ys none) (λ later. back (y ∷ ys) later) ends
  back (Refused e m ∷ (y ∷ ys)) ends = absurd (some_left y ys ends.0)
  back (Halt m ∷ (y ∷ ys)) ends = absurd ends

  -- two lists that are the same but for such answers, behind one first deed
  alike : (b : Bool) (ds xs : List RwDeed) → up_to_the_last ds ≡ up_to_the_last xs → IsLastWhere b xs answer (EndsAtFirst xs answer) → IsLastWhere b ds answer (EndsAtFirst ds answer)
  alike true ds xs same ends = (none_left ds xs same ends.0, ends.1)
  alike false ds xs same ends = back ds (subst (λ (l : List RwDeed). EndsAtFirst l answer) (sym same) (kept xs ends))

  behind : (x : RwDeed) (ds xs : List RwDeed) → up_to_the_last ds ≡ up_to_the_last xs → EndsAtFirst (x ∷ xs) answer → EndsAtFirst (x ∷ ds) answer
  behind (Event e r) ds xs same ends = alike (acquires r) ds xs same ends
  behind (Refused e m) ds xs same ends = (none_left ds xs same ends.0, ends.1)
  behind (Halt m) ds xs same ends = absurd ends

  whole : (deeds spelt : List RwDeed) → without_stills deeds ≡ without_stills spelt → EndsAtFirst spelt answer → EndsAtFirst deeds answer
  whole deeds [] same ends = absurd ends
  whole [] (x ∷ xs) same ends = absurd cc
  whole (d ∷ ds) (x ∷ xs) same ends =
      let heads : d ≡ x = ap (λ (l : List RwDeed). get_or l 0 d) same in
      subst (λ (z : RwDeed). EndsAtFirst (z ∷ ds) answer) (sym heads) (behind x ds xs (ap (λ (l : List RwDeed). tail_of l) same) ends)

pub ends_at_first : (deeds : List RwDeed) (answer : CallAnswer LockReply) → WriteLocks deeds answer → EndsAtFirst deeds answer
ends_at_first deeds answer (spelt, same, by) = whole answer deeds spelt same (by_protocol stage.Lock refl spelt answer by)

-- ---- what follows of a lock

is_last : (b : Bool) (d : RwDeed) (answer : CallAnswer LockReply) → IsEvent d → IsLastWhere b [] answer ⊥ → IsLast d answer
is_last true d answer event ends = subst (λ (a : CallAnswer LockReply). IsLast d a) (sym ends.1) event
is_last false d answer event ends = absurd ends

goes_on : (b : Bool) (y : RwDeed) (ys : List RwDeed) (answer : CallAnswer LockReply) → IsLastWhere b (y ∷ ys) answer (EndsAtFirst (y ∷ ys) answer) → EndsAtFirst (y ∷ ys) answer
goes_on true y ys answer ends = absurd (not_none y ys ends.0)
goes_on false y ys answer ends = ends

refused : (d : RwDeed) (answer : CallAnswer LockReply) (e : RwEvent) (m : Misuse) → d ≡ Refused e m → answer ≡ Halted m → IsLast d answer
refused d answer e m is ends = subst (λ (a : CallAnswer LockReply). IsLast d a) (sym ends) (e, is)

as_calls_do : (deeds : List RwDeed) (answer : CallAnswer LockReply) → EndsAtFirst deeds answer → Ends deeds answer
as_calls_do [] answer ends = absurd ends
as_calls_do (Event e r ∷ []) answer ends = is_last (acquires r) (Event e r) answer tt ends
as_calls_do (Event e r ∷ (y ∷ ys)) answer ends = (tt, as_calls_do (y ∷ ys) answer (goes_on (acquires r) y ys answer ends))
as_calls_do (Refused e m ∷ []) answer ends = refused (Refused e m) answer e m refl ends.1
as_calls_do (Refused e m ∷ (y ∷ ys)) answer ends = absurd (not_none y ys ends.0)
as_calls_do (Halt m ∷ rest) answer ends = absurd ends

-- it ends as each call does
pub lock_ends : (deeds : List RwDeed) (answer : CallAnswer LockReply) → WriteLocks deeds answer → Ends deeds answer
lock_ends deeds answer locks = as_calls_do deeds answer (ends_at_first deeds answer locks)

last_takes : (b : Bool) (r : RwReply) (answer : CallAnswer LockReply) → acquires r ≡ b → IsLastWhere b [] answer ⊥ → acquires r ≡ true
last_takes true r answer is ends = is
last_takes false r answer is ends = absurd ends

others_take_none : (b : Bool) (r : RwReply) (y : RwDeed) (ys : List RwDeed) (answer : CallAnswer LockReply) → acquires r ≡ b → IsLastWhere b (y ∷ ys) answer (EndsAtFirst (y ∷ ys) answer) → acquires r ≡ false
others_take_none true r y ys answer is ends = absurd (not_none y ys ends.0)
others_take_none false r y ys answer is ends = is

takes_at_end : (deeds : List RwDeed) (given : LockReply) → EndsAtFirst deeds (Done (Ok given)) → TakesInLast (λ (e : RwEvent) r. acquires r) true deeds
takes_at_end [] given ends = absurd ends
takes_at_end (Event e r ∷ []) given ends = last_takes (acquires r) r (Done (Ok given)) refl ends
takes_at_end (Event e r ∷ (y ∷ ys)) given ends = (others_take_none (acquires r) r y ys (Done (Ok given)) refl ends, takes_at_end (y ∷ ys) given (goes_on (acquires r) y ys (Done (Ok given)) ends))
takes_at_end (Refused e m ∷ rest) given ends = let is = ends.1 in absurd cc
takes_at_end (Halt m ∷ rest) given ends = absurd ends

-- its last event takes in what earlier unlocks left
pub lock_takes : (deeds : List RwDeed) (given : LockReply) → WriteLocks deeds (Done (Ok given)) → TakesInLast (λ (e : RwEvent) r. acquires r) true deeds
lock_takes deeds given locks = takes_at_end deeds given (ends_at_first deeds (Done (Ok given)) locks)

arrives_first : (spelt : List RwDeed) (given : Result LockReply Misuse) → Spells rw_event rw_meaning stage.Lock spelt (Done given) → (now : ℕ) × (r : RwReply) × (more : List RwDeed) × (spelt ≡ Event (WriteArrive now) r ∷ more)
arrives_first [] given spells = absurd spells
arrives_first (Event e r ∷ more) given spells = (spells.0.0, r, more, ap (λ (x : RwEvent). Event x r ∷ more) spells.0.1)
arrives_first (Refused e m ∷ more) given spells = let is = spells.2 in absurd cc
arrives_first (Halt m ∷ more) given spells = absurd spells

-- it begins by its arrival
pub lock_begins : (deeds : List RwDeed) (given : Result LockReply Misuse) → WriteLocks deeds (Done given) → (now : ℕ) × (r : RwReply) × (more : List RwDeed) × (deeds ≡ Event (WriteArrive now) r ∷ more)
lock_begins deeds given (spelt, same, by) =
    let first = arrives_first spelt given by in
    begins deeds first.0 first.1 first.2 (same ∙ ap without_stills first.3) where
      begins : (deeds : List RwDeed) (now : ℕ) (r : RwReply) (more : List RwDeed) → without_stills deeds ≡ without_stills (Event (WriteArrive now) r ∷ more) → (now : ℕ) × (r : RwReply) × (more : List RwDeed) × (deeds ≡ Event (WriteArrive now) r ∷ more)
      begins [] now r more same = absurd cc
      begins (d ∷ ds) now r more same = (now, r, ds, ap (λ (z : RwDeed). z ∷ ds) (ap (λ (l : List RwDeed). get_or l 0 d) same))
