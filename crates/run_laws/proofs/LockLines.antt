-- A worker that keeps to its locks unlocks a mutex only where it holds it: so its list says.
use Rattle.std.proofs.Common.{◌≡◌, ℕ, suc, ◌+◌, ◌==◌, Bool, true, false, cond, List, [], ◌∷◌, ◌++◌, map, length, refl, sym, ap, ◌∙◌, subst, arith, append_assoc, append-nil}
use Rattle.std.specs.Prelude.{◌&&◌, not, All, Ok, Err}
use Rattle.std.specs.List.{flat_map}
use Rattle.std.proofs.lemmas.Bool.{false≢true, and_parts, eq-eqb, eqb-true, eqb-false, ne_eqb}
use Rattle.sync_model.specs.declared.answer.Answer.TheVariants.{Done, Halted}
use Rattle.script_calls.specs.declared.call.Call.{Call}
use Rattle.script_calls.specs.declared.call.ComposedCall.TheVariants.{IfEqual}
use Rattle.script_calls.specs.declared.call.Operation.{Operation}
use Rattle.script_calls.specs.declared.call.Operation.TheVariants as operations
use Rattle.script_calls.specs.declared.call.Reply.{Reply}
use Rattle.script_calls.specs.declared.call.Reply.TheVariants as replies
use Rattle.sync_model.specs.declared.journal.Deed.{Deed}
use Rattle.sync_model.specs.declared.journal.Deed.TheVariants.{Event, Refused, Halt}
use Rattle.sync_model.specs.declared.journal.Entry.{Entry}
use Rattle.sync_types.specs.declared.lock_call.LockReply.{LockReply}
use Rattle.sync_types.specs.declared.lock_call.MutexCall.{MutexCall}
use Rattle.sync_types.specs.declared.lock_call.MutexCall.TheVariants.{Lock, Unlock, TryLock}
use Rattle.sync_types.specs.declared.misuse.Misuse.{Misuse}
use Rattle.mutex_core.specs.declared.event.MutexEvent.{MutexEvent}
use Rattle.mutex_core.specs.declared.reply.MutexReply.{MutexReply}
use Rattle.mutex_core.specs.declared.reply.MutexReply.TheVariants.{Arrived, Unlocked, Resumed, Still}
use Rattle.mutex_core.specs.declared.reply.Arrival.TheVariants as arrival
use Rattle.mutex_core.specs.declared.reply.Resumption.TheVariants as resumption
use Rattle.mutex_core.specs.declared.reply.Unlocking.TheVariants as unlocking
use Rattle.protocols.specs.declared.mutex.MutexStage.{MutexStage}
use Rattle.protocols.specs.declared.mutex.MutexStage.TheVariants as stage
use Rattle.protocols.specs.MutexStages.{mutex_event, mutex_meaning}
use Rattle.protocols.specs.Spelling.{CallAnswer, IsFirstDeed, Spells}
use Rattle.workload.specs.declared.object.ObjectKind.TheVariants as kinds
use Rattle.workload.specs.Plan.{Plan}
use Rattle.run_record.specs.declared.entered.ObjectEvent.{ObjectEvent}
use Rattle.run_record.specs.declared.entered.ObjectEvent.TheVariants as event
use Rattle.run_record.specs.declared.entered.ObjectReply.{ObjectReply}
use Rattle.run_record.specs.declared.entered.ObjectReply.TheVariants as reply
use Rattle.run_record.specs.declared.made.Made.{Made}
use Rattle.run_record.specs.declared.made.Made.TheVariants.{Shared, Entered}
use Rattle.run_record.specs.Lines.{SpeltCall, LineEnd, whole, misused, halted, unfinished, stayed, Line, script_of, items_of, IsHalt, AreHalts, AreSpelt, EndsBy, IsLineOf}
use Rattle.run_record.specs.MutexKind.{mutex_call, mutex_stage}
use Rattle.run_record.specs.Objects.{starts_number}
use Rattle.run_record.specs.Parts.{lifted, lifted_deed, with_outcome}
use Rattle.run_record.specs.Record.{ObjectEntry, object_number, shared_in, entries_in}
use Rattle.run_laws.specs.Locks.{has_plain_objects, is_in_turn, keeps_lock}
use Rattle.run_laws.proofs.AroundScripts.{IsNoMutexs, starts_apart, closing_no_mutex, first_elsewhere}
use Rattle.run_laws.proofs.EachOf.{Each, each_left}
use Rattle.run_laws.proofs.EntriesIn.{entries_append, entries_shared, entries_elsewhere}
use Rattle.run_laws.proofs.Holders.{IsHolders, OnlyHolder, holds_after}
use Rattle.run_laws.proofs.PlainCalls.{PlainCall, on_map, on_range, on_atomic, on_test, on_mutex, IsOfKind, plain_call}

-- the entries of a call on a mutex
abbrev pub entered : ℕ → List (Entry MutexEvent MutexReply) → List Made
entered object entries = map (λ entry. Entered object (lifted event.Mutex reply.Mutex entry)) entries

abbrev pub of_kind : List (Entry MutexEvent MutexReply) → List ObjectEntry
of_kind entries = map (lifted event.Mutex reply.Mutex) entries

abbrev pub deeds : List (Entry MutexEvent MutexReply) → List (Deed MutexEvent MutexReply)
deeds entries = map (λ entry. entry.deed) entries

pub entries_here : (object other : ℕ) (entries : List (Entry MutexEvent MutexReply)) → (other == object) ≡ true → entries_in object (entered other entries) ≡ of_kind entries
entries_here object other [] same = refl
entries_here object other (x ∷ entries) same =
    let rest = entries_in object (entered other entries) in
    ap (λ (b : Bool). cond b (lifted event.Mutex reply.Mutex x ∷ rest) rest) same ∙ ap (λ (es : List ObjectEntry). lifted event.Mutex reply.Mutex x ∷ es) (entries_here object other entries same)

only_first : (held : Bool) (xs ys : List ObjectEntry) → OnlyHolder held (xs ++ ys) → OnlyHolder held xs
only_first held [] ys only = tt
only_first held (x ∷ xs) ys only = (only.0, only_first (holds_after held x.deed) xs ys only.1)

-- deeds of others unlock nothing
others_only : (held : Bool) (xs ys : List ObjectEntry) → Each (λ (x : ObjectEntry). IsNoMutexs x.deed) xs → OnlyHolder held ys → OnlyHolder held (xs ++ ys)
others_only held [] ys others only = only
others_only held (x ∷ xs) ys others only =
    let one = unheld x.deed others.0 in
    (one.0, subst (λ (h : Bool). OnlyHolder h (xs ++ ys)) (sym one.1) (others_only held xs ys others.1 only)) where
      unheld : (deed : Deed ObjectEvent ObjectReply) → IsNoMutexs deed → IsHolders held deed × (holds_after held deed ≡ held)
      unheld (Event e (reply.Mutex r)) none = absurd none
      unheld deed none = (tt, refl)

-- what comes behind a call, after which its caller holds the mutex or doesn't: where the call wasn't completed it unlocks nothing
abbrev Behind : {O : Type 0} → CallAnswer O → Bool → List ObjectEntry → Type 0
Behind (Done (Ok outcome)) held rest = OnlyHolder held rest
Behind (Done (Err misuse)) held rest = (b : Bool) → OnlyHolder b rest
Behind (Halted misuse) held rest = (b : Bool) → OnlyHolder b rest

behind_nothing : {O : Type 0} (answer : CallAnswer O) (held : Bool) → Behind answer held []
behind_nothing (Done (Ok outcome)) held = tt
behind_nothing (Done (Err misuse)) held = λ b. tt
behind_nothing (Halted misuse) held = λ b. tt

behind_given : (given : CallAnswer LockReply) (held : Bool) (rest : List ObjectEntry) → Behind {O = Reply ℕ} (with_outcome replies.Lock given) held rest → Behind given held rest
behind_given (Done (Ok outcome)) held rest behind = behind
behind_given (Done (Err misuse)) held rest behind = behind
behind_given (Halted misuse) held rest behind = behind

-- no entries, by their deeds
no_entries : (xs : List (Entry MutexEvent MutexReply)) → deeds xs ≡ [] → xs ≡ []
no_entries [] is = refl
no_entries (x ∷ xs) is = absurd (omega (arith, ap (λ (l : List (Deed MutexEvent MutexReply)). length l) is))

abbrev IsLocking : MutexStage → Type 0
IsLocking stage.Lock = Unit {0}
IsLocking stage.Resume = Unit {0}
IsLocking stage.TryLock = ⊥
IsLocking stage.Unlock = ⊥

no : {A : Type 0} → false ≡ true → A
no e = absurd (false≢true e)

module _ (xs : List (Entry MutexEvent MutexReply)) (answer : CallAnswer LockReply) (rest : List ObjectEntry) where
  -- the call was the last of these entries
  last_then : (held : Bool) → deeds xs ≡ [] → OnlyHolder held rest → OnlyHolder held (of_kind xs ++ rest)
  last_then held none only = subst (λ (l : List (Entry MutexEvent MutexReply)). OnlyHolder held (of_kind l ++ rest)) (sym (no_entries xs none)) only

  -- the deed is this one, and the entries behind it go on
  abbrev Goes : Bool → Deed MutexEvent MutexReply → Type 0
  Goes held deed = IsHolders held (lifted_deed event.Mutex reply.Mutex deed) × OnlyHolder (holds_after held (lifted_deed event.Mutex reply.Mutex deed)) (of_kind xs ++ rest)

  lock_deed : Behind answer true rest → (Spells mutex_event mutex_meaning stage.Resume (deeds xs) answer → OnlyHolder false (of_kind xs ++ rest))
      → (from : MutexStage) (deed : Deed MutexEvent MutexReply) → IsLocking from → IsFirstDeed mutex_event mutex_meaning from deed (deeds xs) (λ later. Spells mutex_event mutex_meaning later (deeds xs) answer) answer → Goes false deed
  lock_deed behind on stage.Lock (Event e (Arrived arrival.Acquired)) locking (is, (none, gives)) = (λ u. no u, last_then true none (subst (λ (a : CallAnswer LockReply). Behind a true rest) gives behind))
  lock_deed behind on stage.Lock (Event e (Arrived (arrival.Queued ticket))) locking (is, later) = (λ u. no u, on later)
  lock_deed behind on stage.Lock (Event e r) locking (is, never) = absurd never
  lock_deed behind on stage.Resume (Event e (Resumed resumption.Acquired)) locking (is, (none, gives)) = (λ u. no u, last_then true none (subst (λ (a : CallAnswer LockReply). Behind a true rest) gives behind))
  lock_deed behind on stage.Resume (Event e (Resumed resumption.Requeued)) locking (is, later) = (λ u. no u, on later)
  lock_deed behind on stage.Resume (Event e Still) locking (is, later) = (λ u. no u, on later)
  lock_deed behind on stage.Resume (Event e r) locking (is, never) = absurd never
  lock_deed behind on from (Refused e misuse) locking (is, none, gives) = (tt, last_then false none (subst (λ (a : CallAnswer LockReply). Behind a true rest) gives behind false))
  lock_deed behind on from (Halt misuse) locking begun = absurd begun
  lock_deed behind on stage.TryLock deed locking begun = absurd locking
  lock_deed behind on stage.Unlock deed locking begun = absurd locking

  unlock_deed : Behind answer false rest → (deed : Deed MutexEvent MutexReply) → IsFirstDeed mutex_event mutex_meaning stage.Unlock deed (deeds xs) (λ later. Spells mutex_event mutex_meaning later (deeds xs) answer) answer → Goes true deed
  unlock_deed behind (Event e (Unlocked unlocking.Free)) (is, (none, gives)) = (λ u. refl, last_then false none (subst (λ (a : CallAnswer LockReply). Behind a false rest) gives behind))
  unlock_deed behind (Event e (Unlocked (unlocking.Woke ticket))) (is, (none, gives)) = (λ u. refl, last_then false none (subst (λ (a : CallAnswer LockReply). Behind a false rest) gives behind))
  unlock_deed behind (Event e (Unlocked (unlocking.Handed ticket))) (is, (none, gives)) = (λ u. refl, last_then false none (subst (λ (a : CallAnswer LockReply). Behind a false rest) gives behind))
  unlock_deed behind (Event e (Unlocked (unlocking.Misuse misuse))) (is, (none, gives)) = (λ u. refl, last_then true none (subst (λ (a : CallAnswer LockReply). Behind a false rest) gives behind true))
  unlock_deed behind (Event e r) (is, never) = absurd never
  unlock_deed behind (Refused e misuse) (is, none, gives) = (tt, last_then true none (subst (λ (a : CallAnswer LockReply). Behind a false rest) gives behind true))
  unlock_deed behind (Halt misuse) begun = absurd begun

-- a `lock` unlocks nothing, and then its caller holds the mutex
lock_turns : (entries : List (Entry MutexEvent MutexReply)) (from : MutexStage) (answer : CallAnswer LockReply) (rest : List ObjectEntry) → IsLocking from → Spells mutex_event mutex_meaning from (deeds entries) answer → Behind answer true rest
    → OnlyHolder false (of_kind entries ++ rest)
lock_turns [] from answer rest locking spelt behind = absurd spelt
lock_turns (x ∷ xs) from answer rest locking spelt behind = lock_deed xs answer rest behind (λ later. lock_turns xs stage.Resume answer rest tt later behind) from x.deed locking spelt

-- an `unlock` unlocks it once
unlock_turns : (entries : List (Entry MutexEvent MutexReply)) (answer : CallAnswer LockReply) (rest : List ObjectEntry) → Spells mutex_event mutex_meaning stage.Unlock (deeds entries) answer → Behind answer false rest
    → OnlyHolder true (of_kind entries ++ rest)
unlock_turns [] answer rest spelt behind = absurd spelt
unlock_turns (x ∷ xs) answer rest spelt behind = unlock_deed xs answer rest behind x.deed spelt

-- of a call that comes in its turn
by_turn : (held : Bool) (m : MutexCall) (entries : List (Entry MutexEvent MutexReply)) (answer : CallAnswer LockReply) (rest : List ObjectEntry) → is_in_turn held (operations.Mutex m) ≡ true
    → Spells mutex_event mutex_meaning (mutex_stage m) (deeds entries) answer → Behind answer (not held) rest → OnlyHolder held (of_kind entries ++ rest)
by_turn false Lock entries answer rest turn spelt behind = lock_turns entries stage.Lock answer rest tt spelt behind
by_turn true Unlock entries answer rest turn spelt behind = unlock_turns entries answer rest spelt behind
by_turn false Unlock entries answer rest turn spelt behind = no turn
by_turn false TryLock entries answer rest turn spelt behind = no turn
by_turn true Lock entries answer rest turn spelt behind = no turn
by_turn true TryLock entries answer rest turn spelt behind = no turn

-- halts unlock nothing
halts_only : (object : ℕ) (misuse : Misuse) (halts : List Made) → All (IsHalt misuse) halts → (held : Bool) → OnlyHolder held (entries_in object halts)
halts_only object misuse [] all held = tt
halts_only object misuse (Shared x ∷ halts) all held = absurd (all 0 (Shared x) (omega arith))
halts_only object misuse (Entered other entry ∷ halts) all held = either (other == object) (halts_only object misuse halts later held) (all 0 (Entered other entry) (omega arith)) where
  later : All (IsHalt misuse) halts
  later k d within = all (suc k) d (omega (arith, within))

  either : (b : Bool) → OnlyHolder held (entries_in object halts) → entry.deed ≡ Halt misuse → OnlyHolder held (cond b (entry ∷ entries_in object halts) (entries_in object halts))
  either false on is = on
  either true on is = subst (λ (d : Deed ObjectEvent ObjectReply). IsHolders held d × OnlyHolder (holds_after held d) (entries_in object halts)) (sym is) (tt, on)

-- whether a call of a worker that holds the mutex at a place, or doesn't, comes in its turn, and whether it holds it then
abbrev pub comes_in_turn : ℕ → Bool → Call → Bool
comes_in_turn place held call = cond (call.object == place) (is_in_turn held call.operation) true

abbrev pub next_held : ℕ → Bool → Call → Bool
next_held place held call = cond (call.object == place) (not held) held

pub keeps_on : (place : ℕ) (held : Bool) (call : Call) (calls : List Call) → keeps_lock place held (call ∷ calls) ≡ true → (comes_in_turn place held call ≡ true) × (keeps_lock place (next_held place held call) calls ≡ true)
keeps_on place held call calls keeps = by_object (call.object == place) keeps where
  by_object : (b : Bool) → cond b (is_in_turn held call.operation && keeps_lock place (not held) calls) (keeps_lock place held calls) ≡ true
      → (cond b (is_in_turn held call.operation) true ≡ true) × (keeps_lock place (cond b (not held) held) calls ≡ true)
  by_object true keeps = and_parts (is_in_turn held call.operation) (keeps_lock place (not held) calls) keeps
  by_object false keeps = (refl, keeps)

module _ (plan : Plan) (plain : has_plain_objects plan ≡ true) (place : ℕ) (mutex : IsOfKind plan place kinds.Mutex) where
  -- another object's call has no entry of the mutex, and comes in no turn on it
  of_another : (held : Bool) (call : Call) (items : List Made) (answer : CallAnswer (Reply ℕ)) (rest : List ObjectEntry) → is_in_turn held call.operation ≡ false → entries_in (object_number place) items ≡ [] → comes_in_turn place held call ≡ true
      → Behind answer (next_held place held call) rest → OnlyHolder held (entries_in (object_number place) items ++ rest)
  of_another held call items answer rest untimely none turn behind = by_object (call.object == place) turn behind where
    only : (answer : CallAnswer (Reply ℕ)) → Behind answer held rest → OnlyHolder held rest
    only (Done (Ok outcome)) behind = behind
    only (Done (Err misuse)) behind = behind held
    only (Halted misuse) behind = behind held

    by_object : (b : Bool) → cond b (is_in_turn held call.operation) true ≡ true → Behind answer (cond b (not held) held) rest → OnlyHolder held (entries_in (object_number place) items ++ rest)
    by_object true turn behind = no (sym untimely ∙ turn)
    by_object false turn behind = subst (λ (es : List ObjectEntry). OnlyHolder held (es ++ rest)) (sym none) (only answer behind)

  -- a call on a mutex
  of_mutex : (held : Bool) (call : Call) (m : MutexCall) (items : List Made) (answer : CallAnswer (Reply ℕ)) (rest : List ObjectEntry) → call.operation ≡ operations.Mutex m → mutex_call (object_number call.object) m items answer → comes_in_turn place held call ≡ true
      → Behind answer (next_held place held call) rest → OnlyHolder held (entries_in (object_number place) items ++ rest)
  of_mutex held call m items answer rest asks (given, (entries, is, spelt), gives) turn behind = by_object (call.object == place) refl turn behind where
    of_given : (h : Bool) → Behind answer h rest → Behind given h rest
    of_given h behind = behind_given given h rest (subst (λ (a : CallAnswer (Reply ℕ)). Behind a h rest) gives behind)

    only : (given : CallAnswer LockReply) → Behind given held rest → OnlyHolder held rest
    only (Done (Ok outcome)) behind = behind
    only (Done (Err misuse)) behind = behind held
    only (Halted misuse) behind = behind held

    by_object : (b : Bool) → (call.object == place) ≡ b → cond b (is_in_turn held call.operation) true ≡ true → Behind answer (cond b (not held) held) rest → OnlyHolder held (entries_in (object_number place) items ++ rest)
    by_object true same turn behind =
        subst (λ (es : List ObjectEntry). OnlyHolder held (es ++ rest)) (sym (ap (λ (l : List Made). entries_in (object_number place) l) is ∙ entries_here (object_number place) (object_number call.object) entries (eq-eqb (object_number call.object) (object_number place) (ap object_number (eqb-true call.object place same)))))
        (by_turn held m entries given rest (subst (λ (o : Operation). is_in_turn held o ≡ true) asks turn) spelt (of_given (not held) behind))
    by_object false apart turn behind =
        subst (λ (es : List ObjectEntry). OnlyHolder held (es ++ rest)) (sym (ap (λ (l : List Made). entries_in (object_number place) l) is ∙ entries_elsewhere event.Mutex reply.Mutex (object_number place) (object_number call.object) entries (ne_eqb (object_number call.object) (object_number place) (λ same. eqb-false call.object place apart (omega (arith, same))))))
        (only given (of_given held behind))

  untimely : (held : Bool) (call : Call) (operation : Operation) → call.operation ≡ operation → ((h : Bool) → is_in_turn h operation ≡ false) → is_in_turn held call.operation ≡ false
  untimely held call operation asks never = ap (is_in_turn held) asks ∙ never held

  call_turns : (held : Bool) (call : Call) (items : List Made) (answer : CallAnswer (Reply ℕ)) (rest : List ObjectEntry) → PlainCall plan call items answer → comes_in_turn place held call ≡ true
      → Behind answer (next_held place held call) rest → OnlyHolder held (entries_in (object_number place) items ++ rest)
  call_turns held call items answer rest (on_map m kind asks one) turn behind = of_another held call items answer rest (untimely held call (operations.Map m) asks never) (ap (λ (l : List Made). entries_in (object_number place) l) one.are) turn behind where
    never : (h : Bool) → is_in_turn h (operations.Map m) ≡ false
    never true = refl
    never false = refl
  call_turns held call items answer rest (on_range kind asks cursor) turn behind = of_another held call items answer rest (untimely held call operations.Range asks never) (ap (λ (l : List Made). entries_in (object_number place) l) cursor.are ∙ entries_shared (object_number place) cursor.made) turn behind where
    never : (h : Bool) → is_in_turn h operations.Range ≡ false
    never true = refl
    never false = refl
  call_turns held call items answer rest (on_atomic type a kind asks one) turn behind = of_another held call items answer rest (untimely held call (operations.Atomic a) asks never) (ap (λ (l : List Made). entries_in (object_number place) l) one.are) turn behind where
    never : (h : Bool) → is_in_turn h (operations.Atomic a) ≡ false
    never true = refl
    never false = refl
  call_turns held call items answer rest (on_test type value passes kind asks one) turn behind = of_another held call items answer rest (untimely held call (operations.Composed (IfEqual value passes)) asks never) (ap (λ (l : List Made). entries_in (object_number place) l) one.are) turn behind where
    never : (h : Bool) → is_in_turn h (operations.Composed (IfEqual value passes)) ≡ false
    never true = refl
    never false = refl
  call_turns held call items answer rest (on_mutex m kind asks spelt) turn behind = of_mutex held call m items answer rest asks spelt turn behind

  module _ (worker : ℕ) where
    -- the completed calls, and then the calls that are left
    spelt_turns : (before : ℕ) (spelt : List SpeltCall) (left : List Call) (held : Bool) (rest : List ObjectEntry) → AreSpelt plan worker before spelt → keeps_lock place held (map (λ call. call.call) spelt ++ left) ≡ true
        → ((h : Bool) → keeps_lock place h left ≡ true → OnlyHolder h rest) → OnlyHolder held (entries_in (object_number place) (flat_map (λ call. call.items) spelt) ++ rest)
    spelt_turns before [] left held rest are keeps behind = behind held keeps
    spelt_turns before (call ∷ spelt) left held rest are keeps behind =
        let on = keeps_on place held call.call (map (λ call. call.call) spelt ++ left) keeps in
        let later = flat_map (λ call. call.items) spelt in
        let goes = spelt_turns (before + length (shared_in call.items)) spelt left (next_held place held call.call) rest are.1 on.1 behind in
        subst (λ (es : List ObjectEntry). OnlyHolder held es) (sym (ap (λ (es : List ObjectEntry). es ++ rest) (entries_append (object_number place) call.items later) ∙ append_assoc (entries_in (object_number place) call.items) (entries_in (object_number place) later) rest))
        (call_turns held call.call call.items (Done (Ok call.reply)) (entries_in (object_number place) later ++ rest) (plain_call plan plain worker before call.call call.items (Done (Ok call.reply)) are.0) on.0 goes)

    -- the call that was cut short, or none, and the halts behind it
    unhalted : (halts : List Made) → halts ≡ [] → (held : Bool) → OnlyHolder held (entries_in (object_number place) halts)
    unhalted halts none held = subst (λ (l : List Made). OnlyHolder held (entries_in (object_number place) l)) (sym none) tt

    apart : (starts_number plan == object_number place) ≡ false
    apart = starts_apart plan place mutex.0 mutex.1

    -- what stands behind the script is nothing on a mutex
    closed : (last halts : List Made) (held : Bool) → Each (λ (x : ObjectEntry). IsNoMutexs x.deed) (entries_in (object_number place) last) → OnlyHolder held (entries_in (object_number place) halts) → OnlyHolder held (entries_in (object_number place) last ++ entries_in (object_number place) halts)
    closed last halts held others only = others_only held (entries_in (object_number place) last) (entries_in (object_number place) halts) others only

    last_turns : (before : ℕ) (ending : LineEnd) (left : List Call) (last halts : List Made) → EndsBy plan worker before ending left last → AreHalts ending halts → (held : Bool) → keeps_lock place held left ≡ true
        → OnlyHolder held (entries_in (object_number place) last ++ entries_in (object_number place) halts)
    last_turns before whole left last halts ends none held keeps = closed last halts held (closing_no_mutex plan (object_number place) worker last (Done (Ok tt)) ends.1) (unhalted halts none held)
    last_turns before (misused m) [] last halts ends all held keeps = closed last halts held (closing_no_mutex plan (object_number place) worker last (Done (Err m)) ends) (halts_only (object_number place) m halts all held)
    last_turns before (misused m) (call ∷ left) last halts spelt all held keeps =
        call_turns held call last (Done (Err m)) (entries_in (object_number place) halts) (plain_call plan plain worker before call last (Done (Err m)) spelt) (keeps_on place held call left keeps).0 (halts_only (object_number place) m halts all)
    last_turns before (halted m) [] last halts ends none held keeps = closed last halts held (closing_no_mutex plan (object_number place) worker last (Halted m) ends) (unhalted halts none held)
    last_turns before (halted m) (call ∷ left) last halts spelt none held keeps =
        call_turns held call last (Halted m) (entries_in (object_number place) halts) (plain_call plan plain worker before call last (Halted m) spelt) (keeps_on place held call left keeps).0 (unhalted halts none)
    last_turns before unfinished [] last halts (later, answer, some, ends) none held keeps =
        closed last halts held
        (each_left (λ (x : ObjectEntry). IsNoMutexs x.deed) (entries_in (object_number place) last) (entries_in (object_number place) later)
        (subst (Each (λ (x : ObjectEntry). IsNoMutexs x.deed)) (entries_append (object_number place) last later) (closing_no_mutex plan (object_number place) worker (last ++ later) answer ends)))
        (unhalted halts none held)
    last_turns before (stayed stay) left last halts ends none held keeps = closed last halts held (subst (λ (l : List Made). Each (λ (x : ObjectEntry). IsNoMutexs x.deed) (entries_in (object_number place) l)) (sym ends) tt) (unhalted halts none held)
    last_turns before unfinished (call ∷ left) last halts (later, answer, spelt) none held keeps =
        subst (λ (l : List Made). OnlyHolder held (entries_in (object_number place) last ++ entries_in (object_number place) l)) (sym none)
        (subst (λ (es : List ObjectEntry). OnlyHolder held es) (sym (append-nil (entries_in (object_number place) last)))
        (only_first held (entries_in (object_number place) last) (entries_in (object_number place) later) (subst (λ (es : List ObjectEntry). OnlyHolder held es) (entries_append (object_number place) last later)
        (only_first held (entries_in (object_number place) (last ++ later)) [] (call_turns held call (last ++ later) answer [] (plain_call plan plain worker before call (last ++ later) answer spelt) (keeps_on place held call left keeps).0 (behind_nothing answer (next_held place held call)))))))

    -- the whole list; what stands around the script is nothing on the mutex
    pub line_turns : (line : Line) → IsLineOf plan worker line → keeps_lock place false (script_of line) ≡ true → OnlyHolder false (entries_in (object_number place) (items_of line))
    line_turns line is keeps =
        let calls = flat_map (λ spelt. spelt.items) line.spelt in
        subst (λ (es : List ObjectEntry). OnlyHolder false es)
        (sym (entries_append (object_number place) line.first (calls ++ (line.last ++ line.halts))
        ∙ (ap (λ (es : List ObjectEntry). es ++ entries_in (object_number place) (calls ++ (line.last ++ line.halts))) (first_elsewhere plan (object_number place) apart worker line.ending line.spelt line.first is.opens)
        ∙ (entries_append (object_number place) calls (line.last ++ line.halts) ∙ ap (λ (es : List ObjectEntry). entries_in (object_number place) calls ++ es) (entries_append (object_number place) line.last line.halts)))))
        (spelt_turns 0 line.spelt line.rest false (entries_in (object_number place) line.last ++ entries_in (object_number place) line.halts) is.calls keeps (λ h left. last_turns _ line.ending line.rest line.last line.halts is.ends is.halts h left))
