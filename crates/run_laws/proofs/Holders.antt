-- A mutex that is unlocked by its holder alone is locked while somebody holds it, so no unlock finds it unlocked.
use Rattle.std.proofs.Common.{◌≡◌, inl, inr, ℕ, ◌==◌, Bool, true, false, cond, List, [], ◌∷◌, map, Option, None, refl, sym, ap, ◌∙◌, subst}
use Rattle.std.proofs.lemmas.Bool.{false≢true, cases_Bool, eq-eqb, eqb-true}
use Rattle.sync_model.specs.declared.journal.Deed.{Deed}
use Rattle.sync_model.specs.declared.journal.Deed.TheVariants.{Event, Refused, Halt}
use Rattle.sync_model.specs.declared.journal.Entry.{Entry}
use Rattle.sync_types.specs.declared.misuse.Misuse.{Misuse}
use Rattle.sync_model.specs.Journal.{by, halt_next, state_next, Right, Follows}
use Rattle.mutex_core.specs.declared.event.MutexEvent.{MutexEvent}
use Rattle.mutex_core.specs.declared.reply.MutexReply.{MutexReply}
use Rattle.mutex_core.specs.declared.reply.MutexReply.TheVariants.{Arrived, Tried, Unlocked, Resumed, Still}
use Rattle.mutex_core.specs.declared.reply.Unlocking.TheVariants as unlocking
use Rattle.mutex_core.specs.Edges.{acquires, releases}
use Rattle.mutex_core.specs.Exclusion.{held_after}
use Rattle.mutex_core.specs.MutexMachine.{State, next, start, IsValid}
use Rattle.run_record.specs.declared.entered.ObjectEvent.{ObjectEvent}
use Rattle.run_record.specs.declared.entered.ObjectEvent.TheVariants as event
use Rattle.run_record.specs.declared.entered.ObjectReply.{ObjectReply}
use Rattle.run_record.specs.declared.entered.ObjectReply.TheVariants as reply
use Rattle.run_record.specs.MutexKind.{IsMutexJournal}
use Rattle.run_record.specs.Parts.{lifted, lifted_deed}
use Rattle.run_record.specs.Record.{ObjectEntry}
use Rattle.run_laws.proofs.EachOf.{Each}
use Rattle.run_laws.proofs.LockSteps.{LockStep, is_unlocking, lock_step}

-- an unlock that found the mutex unlocked
abbrev pub is_misuse : MutexReply → Bool
is_misuse (Unlocked (unlocking.Misuse misuse)) = true
is_misuse reply = false

-- whether the caller holds the mutex after a deed of its own
abbrev pub holds_after : Bool → Deed ObjectEvent ObjectReply → Bool
holds_after held (Event e (reply.Mutex r)) = held_after held r
holds_after held deed = held

-- it unlocks the mutex only where it holds it
abbrev pub IsHolders : Bool → Deed ObjectEvent ObjectReply → Type 0
IsHolders held (Event e (reply.Mutex r)) = is_unlocking r ≡ true → held ≡ true
IsHolders held deed = Unit {0}

-- so does each of a caller's entries, which holds it first or doesn't
abbrev pub OnlyHolder : Bool → List ObjectEntry → Type 0
OnlyHolder held [] = Unit {0}
OnlyHolder held (x ∷ xs) = IsHolders held x.deed × OnlyHolder (holds_after held x.deed) xs

-- no entry is a misuse
abbrev pub IsUse : Deed ObjectEvent ObjectReply → Type 0
IsUse (Event e (reply.Mutex r)) = is_misuse r ≡ true → ⊥
IsUse deed = Unit {0}

abbrev pub AreUses : List ObjectEntry → Type 0
AreUses xs = Each (λ x. IsUse x.deed) xs

-- who holds the mutex: one caller at most, and only while it is locked
record Held (holds : ℕ → Bool) (locked : Bool) : Type 0 where
  locks : (c : ℕ) → holds c ≡ true → locked ≡ true
  one : (c d : ℕ) → holds c ≡ true → holds d ≡ true → c ≡ d

-- who holds it after a caller's deed
abbrev holders_after : (ℕ → Bool) → ℕ → Deed ObjectEvent ObjectReply → ℕ → Bool
holders_after holds c deed d = cond (c == d) (holds_after (holds d) deed) (holds d)

module _ (holds : ℕ → Bool) (locked after : Bool) (c : ℕ) (held : Held holds locked) where
  -- nobody holds it, where it isn't locked
  none_holds : locked ≡ false → (d : ℕ) → holds d ≡ true → ⊥
  none_holds unlocked d is = false≢true (sym unlocked ∙ held.locks d is)

  -- the caller acquired it
  now_held : (r : MutexReply) → acquires r ≡ true → LockStep locked r after → Held (λ d. cond (c == d) (held_after (holds d) r) (holds d)) after
  now_held r takes step =
      let locked_now : after ≡ true = step.after ∙ ap (λ (b : Bool). cond b true (cond (releases r) false locked)) takes in
      let mine : (d : ℕ) → cond (c == d) (held_after (holds d) r) (holds d) ≡ true → c ≡ d = λ d is. elim (cases_Bool (c == d)) [
        | inl e ↦ eqb-true c d e
        | inr e ↦ absurd (none_holds (step.acquired takes) d (sym (ap (λ (b : Bool). cond b (held_after (holds d) r) (holds d)) e) ∙ is))
      ] in
      record { locks = λ d is. locked_now; one = λ d e first second. sym (mine d first) ∙ mine e second }

  -- the caller, who held it, released it
  now_free : (r : MutexReply) → acquires r ≡ false → releases r ≡ true → holds c ≡ true → Held (λ d. cond (c == d) (held_after (holds d) r) (holds d)) after
  now_free r leaves frees mine =
      let nobody : (d : ℕ) → cond (c == d) (held_after (holds d) r) (holds d) ≡ true → ⊥ = λ d is. elim (cases_Bool (c == d)) [
        | inl e ↦ false≢true (sym (ap (λ (b : Bool). cond b (held_after (holds d) r) (holds d)) e ∙ (ap (λ (b : Bool). cond b true (cond (releases r) false (holds d))) leaves ∙ ap (λ (b : Bool). cond b false (holds d)) frees)) ∙ is)
        | inr e ↦ false≢true (sym e ∙ eq-eqb c d (held.one c d mine (sym (ap (λ (b : Bool). cond b (held_after (holds d) r) (holds d)) e) ∙ is)))
      ] in
      record { locks = λ d is. absurd (nobody d is); one = λ d e first second. absurd (nobody d first) }

  -- nothing changed
  now_same : (r : MutexReply) → acquires r ≡ false → releases r ≡ false → LockStep locked r after → Held (λ d. cond (c == d) (held_after (holds d) r) (holds d)) after
  now_same r leaves keeps step =
      let stays : (b : Bool) → held_after b r ≡ b = λ b. ap (λ (t : Bool). cond t true (cond (releases r) false b)) leaves ∙ ap (λ (t : Bool). cond t false b) keeps in
      let before : (d : ℕ) → cond (c == d) (held_after (holds d) r) (holds d) ≡ true → holds d ≡ true = λ d is. elim (cases_Bool (c == d)) [
        | inl e ↦ sym (ap (λ (b : Bool). cond b (held_after (holds d) r) (holds d)) e ∙ stays (holds d)) ∙ is
        | inr e ↦ sym (ap (λ (b : Bool). cond b (held_after (holds d) r) (holds d)) e) ∙ is
      ] in
      record { locks = λ d is. (step.after ∙ stays locked) ∙ held.locks d (before d is); one = λ d e first second. held.one d e (before d first) (before e second) }

  -- so it is after whatever deed of its own, where it unlocks only what it holds
  held_on : (r : MutexReply) → LockStep locked r after → (is_unlocking r ≡ true → holds c ≡ true) → Held (λ d. cond (c == d) (held_after (holds d) r) (holds d)) after
  held_on r step mine = elim (cases_Bool (acquires r)) [
    | inl takes ↦ now_held r takes step
    | inr leaves ↦ elim (cases_Bool (releases r)) [
      | inl frees ↦ now_free r leaves frees (mine (step.releasing frees))
      | inr keeps ↦ now_same r leaves keeps step
    ]
  ]

  -- and it is no misuse
  used : (r : MutexReply) → LockStep locked r after → (is_unlocking r ≡ true → holds c ≡ true) → is_misuse r ≡ true → ⊥
  used r step mine is = let both = misused r is in false≢true (sym (both.1) ∙ (step.unlocked both.0 ∙ held.locks c (mine both.0))) where
    misused : (r : MutexReply) → is_misuse r ≡ true → (is_unlocking r ≡ true) × (releases r ≡ false)
    misused (Unlocked (unlocking.Misuse misuse)) is = (refl, refl)
    misused (Unlocked unlocking.Free) is = absurd (false≢true is)
    misused (Unlocked (unlocking.Woke ticket)) is = absurd (false≢true is)
    misused (Unlocked (unlocking.Handed ticket)) is = absurd (false≢true is)
    misused (Arrived a) is = absurd (false≢true is)
    misused (Tried a) is = absurd (false≢true is)
    misused (Resumed a) is = absurd (false≢true is)
    misused Still is = absurd (false≢true is)

-- a caller's own entries, behind the first entry
own_on : (held same : Bool) (x : ObjectEntry) (xs : List ObjectEntry) → OnlyHolder held (cond same (x ∷ xs) xs) → OnlyHolder (cond same (holds_after held x.deed) held) xs
own_on held true x xs only = only.1
own_on held false x xs only = only

own_first : (held same : Bool) (x : ObjectEntry) (xs : List ObjectEntry) → same ≡ true → OnlyHolder held (cond same (x ∷ xs) xs) → IsHolders held x.deed
own_first held true x xs is only = only.0
own_first held false x xs is only = absurd (false≢true is)

abbrev of_mutex : List (Entry MutexEvent MutexReply) → List ObjectEntry
of_mutex own = map (lifted event.Mutex reply.Mutex) own

-- a deed that isn't the machine's changes nothing
held_still : (holds : ℕ → Bool) (locked : Bool) (c : ℕ) → Held holds locked → Held (λ d. cond (c == d) (holds d) (holds d)) locked
held_still holds locked c held = record { locks = λ d is. held.locks d (before d is); one = λ d e first second. held.one d e (before d first) (before e second) } where
  both : (b h : Bool) → cond b h h ≡ h
  both true h = refl
  both false h = refl

  before : (d : ℕ) → cond (c == d) (holds d) (holds d) ≡ true → holds d ≡ true
  before d is = sym (both (c == d) (holds d)) ∙ is

-- each state that an event leads to is valid
module _ (keeps_valid : (s : State) (c : ℕ) (e : MutexEvent) → IsValid s → IsValid (next s c e).0) where
  still_valid : (d : Deed MutexEvent MutexReply) (c : ℕ) (s : State) → IsValid s → IsValid (state_next next s c d)
  still_valid (Event e r) c s valid = keeps_valid s c e valid
  still_valid (Refused e m) c s valid = valid
  still_valid (Halt m) c s valid = valid

  -- one entry of a journal, of a caller that unlocks only what it holds
  entry_used : (d : Deed MutexEvent MutexReply) (c : ℕ) (s : State) (halt : Option Misuse) (holds : ℕ → Bool) → IsValid s → Held holds s.locked → Right next true s halt c d
      → IsHolders (holds c) (lifted_deed event.Mutex reply.Mutex d) → Held (holders_after holds c (lifted_deed event.Mutex reply.Mutex d)) (state_next next s c d).locked × IsUse (lifted_deed event.Mutex reply.Mutex d)
  entry_used (Event e r) c s halt holds valid held right mine =
      let step : LockStep s.locked r (next s c e).0.locked = subst (λ (q : MutexReply). LockStep s.locked q (next s c e).0.locked) (sym right.1) (lock_step s c e valid) in
      (held_on holds s.locked (next s c e).0.locked c held r step mine, used holds s.locked (next s c e).0.locked c held r step mine)
  entry_used (Refused e m) c s halt holds valid held right mine = (held_still holds s.locked c held, tt)
  entry_used (Halt m) c s halt holds valid held right mine = (held_still holds s.locked c held, tt)

  -- no entry of a journal is a misuse, where each caller unlocks only what it holds
  all_uses : (own : List (Entry MutexEvent MutexReply)) (s : State) (halt : Option Misuse) (holds : ℕ → Bool) → IsValid s → Held holds s.locked → Follows next true s halt own
      → ((c : ℕ) → OnlyHolder (holds c) (by c (of_mutex own))) → AreUses (of_mutex own)
  all_uses [] s halt holds valid held follows only = tt
  all_uses (x ∷ own) s halt holds valid held follows only =
      let mine = own_first (holds x.caller) (x.caller == x.caller) (lifted event.Mutex reply.Mutex x) (by x.caller (of_mutex own)) (eq-eqb x.caller x.caller refl) (only x.caller) in
      let first = entry_used x.deed x.caller s halt holds valid held follows.0 mine in (
        first.1,
        all_uses own (state_next next s x.caller x.deed) (halt_next halt x.deed) (holders_after holds x.caller (lifted_deed event.Mutex reply.Mutex x.deed)) (still_valid x.deed x.caller s valid) first.0 follows.1
            (λ c. own_on (holds c) (x.caller == c) (lifted event.Mutex reply.Mutex x) (by c (of_mutex own)) (only c)),
      )

  -- of a mutex that begins unlocked
  pub journal_uses : (workers : ℕ) (journal : List ObjectEntry) → IsValid (start workers) → IsMutexJournal workers journal → ((c : ℕ) → OnlyHolder false (by c journal)) → AreUses journal
  journal_uses workers journal valid (own, is, follows, edges) only =
      subst AreUses (sym is) (all_uses own (start workers) None (λ c. false) valid (record { locks = λ c e. absurd (false≢true e); one = λ c d first second. absurd (false≢true first) }) follows
      (λ c. subst (λ (xs : List ObjectEntry). OnlyHolder false (by c xs)) is (only c)))
