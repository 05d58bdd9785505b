-- The readers that wait are among the admitted once a writer unlocks.
use Rattle.std.proofs.Common.{◌≡◌, ℕ, Bool, true, false, ◌||◌, List, [], ◌∷◌, ◌++◌, length, refl, ap, ◌∙◌}
use Rattle.std.specs.Prelude.{nat_lt, ◌==◌, if◌then◌else◌}
use Rattle.std.specs.List.{AllByRecursion}
use Rattle.std.proofs.lemmas.Bool.{eq-eqb}
use Rattle.std.proofs.lemmas.List.Folds.{list_any-append}
use Rattle.mutex_core.specs.MutexMachine as mutex
use Rattle.mutex_core.specs.declared.event.MutexEvent.TheVariants as mutex_event
use Rattle.rw_core.specs.declared.event.RwEvent.TheVariants as event
use Rattle.rw_core.specs.declared.place.Place.TheVariants.{Admitted}
use Rattle.sync_types.specs.declared.misuse.Misuse.TheVariants.{UnlockOfUnlockedRwMutex}
use Rattle.rw_core.specs.declared.reply.RwReply.{RwReply}
use Rattle.rw_core.specs.declared.reply.RwReply.TheVariants.{Unlocked, Still}
use Rattle.rw_core.specs.declared.reply.Unlocking.TheVariants as unlocking
use Rattle.rw_core.specs.declared.writer.Writer.TheVariants as writer
use Rattle.rw_core.specs.RwMachine.{State, is_among, is_holding, place_of, next}
use Rattle.rw_core.specs.Admission.{Admits}

or-true : (b : Bool) → (b || true) ≡ true
or-true true = refl
or-true false = refl

all_into : (P Q : ℕ → Type 0) → ((x : ℕ) → P x → Q x) → (xs : List ℕ) → AllByRecursion P xs → AllByRecursion Q xs
all_into P Q into [] all = tt
all_into P Q into (x ∷ xs) all = (into x all.0, all_into P Q into xs all.1)

among_more : (x y : ℕ) (ys : List ℕ) → is_among x ys ≡ true → is_among x (y ∷ ys) ≡ true
among_more x y ys e = ap (λ b. (x == y) || b) e ∙ or-true (x == y)

each_among : (ys : List ℕ) → AllByRecursion (λ x. is_among x ys ≡ true) ys
each_among [] = tt
each_among (y ∷ ys) = (ap (λ b. b || is_among y ys) (eq-eqb y y refl), all_into (λ x. is_among x ys ≡ true) (λ x. is_among x (y ∷ ys) ≡ true) (λ x e. among_more x y ys e) ys (each_among ys))

-- each caller of a list is in what the list is the end of
among_end : (xs ys : List ℕ) → AllByRecursion (λ x. is_among x (xs ++ ys) ≡ true) ys
among_end xs ys =
    all_into (λ x. is_among x ys ≡ true) (λ x. is_among x (xs ++ ys) ≡ true)
    (λ x e. list_any-append (λ other. x == other) xs ys ∙ (ap (λ b. is_among x xs || b) e ∙ or-true (is_among x xs))) ys (each_among ys)

all_admitted : (s : State) (ys : List ℕ) → AllByRecursion (λ x. is_among x s.admitted ≡ true) ys → AllByRecursion (λ x. place_of s x ≡ Admitted) ys
all_admitted s [] all = tt
all_admitted s (y ∷ ys) all = (rw (all.0) refl, all_admitted s ys all.1)

-- what a writer's unlock of a lock that a writer holds comes to
abbrev unlocked_by : State → ℕ → State × RwReply
unlocked_by s c =
    (record s { readers = length s.queue; writer = writer.Nobody; queue = []; admitted = s.admitted ++ s.queue; inner = (mutex.next s.inner c mutex_event.Unlock).0 }, Unlocked unlocking.Done)

abbrev AdmitsIfDone : State → State × RwReply → Type 0
AdmitsIfDone s t = t.1 ≡ Unlocked unlocking.Done → Admits s t.0

pub admits : (s : State) (c : ℕ) → (next s c event.WriteUnlock).1 ≡ Unlocked unlocking.Done → Admits s (next s c event.WriteUnlock).0
admits s c done = by_tests (nat_lt c s.callers) (is_holding s.writer) done
  where
    by_tests : (below holds : Bool) → AdmitsIfDone s (if below then (if holds then unlocked_by s c else (s, Unlocked (unlocking.Misuse UnlockOfUnlockedRwMutex))) else (s, Still))
    by_tests true true done = record { admitted = all_admitted (unlocked_by s c).0 s.queue (among_end s.admitted s.queue); queue = refl; readers = refl }
    by_tests true false done = cc
    by_tests false holds done = cc
