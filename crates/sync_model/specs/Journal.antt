-- The journal of a shared object, which follows its machine: the first entry stands first.
use Rattle.std.specs.Prelude.{◌≡◌, ℕ, ◌<◌, Bool, true, false, ◌==◌, cond, List, [], ◌∷◌, ◌++◌, Option, Some, None, slice_get}
use Rattle.sync_types.specs.declared.misuse.Misuse.{Misuse}
use Rattle.sync_model.specs.declared.journal.Deed.{Deed}
use Rattle.sync_model.specs.declared.journal.Deed.TheVariants.{Event, Refused, Halt}
use Rattle.sync_model.specs.declared.journal.Entry.{Entry}
use Rattle.sync_model.specs.Front.{Front, AtLeast, NoLess, Later}
use Rattle.sync_model.specs.Log as log

-- the first list begins with the second
abbrev pub Begins : {A : Type 0} → List A → List A → Type 0
Begins {A} whole front = (rest : List A) × (whole ≡ front ++ rest)

module _ {E R : Type 0} where
  -- the misuse that stands after a deed: the first one is kept
  abbrev pub halt_next : Option Misuse → Deed E R → Option Misuse
  halt_next (Some m) d = Some m
  halt_next None (Event e r) = None
  halt_next None (Refused e m) = None
  halt_next None (Halt m) = Some m

  -- the misuse that stands after a journal
  abbrev pub halt_after : Option Misuse → List (Entry E R) → Option Misuse
  halt_after h [] = h
  halt_after h (x ∷ xs) = halt_after (halt_next h x.deed) xs

  -- the misuse of the first halt
  abbrev pub halt_of : List (Entry E R) → Option Misuse
  halt_of xs = halt_after None xs

  -- one caller's entries
  abbrev pub by : ℕ → List (Entry E R) → List (Entry E R)
  by c [] = []
  by c (x ∷ xs) = cond (x.caller == c) (x ∷ by c xs) (by c xs)

  -- an event that the machine took, of which a test of events and replies is true
  abbrev pub is_such : (E → R → Bool) → Deed E R → Bool
  is_such test (Event e r) = test e r
  is_such test (Refused e m) = false
  is_such test (Halt m) = false

  -- an entry's event, before those of the later entries
  abbrev pub logged : ℕ → Deed E R → List (log.Entry E R) → List (log.Entry E R)
  logged c (Event e r) later = log.entry c e r ∷ later
  logged c (Refused e m) later = later
  logged c (Halt m) later = later

  -- the log of the events that the machine took
  abbrev pub log_of : List (Entry E R) → List (log.Entry E R)
  log_of [] = []
  log_of (x ∷ xs) = logged x.caller x.deed (log_of xs)

  -- the front knows all that the releasing entries knew
  abbrev pub Covers : (E → R → Bool) → List ℕ → List (Entry E R) → Type 0
  Covers frees front xs = (i : ℕ) (x : Entry E R) → slice_get xs i ≡ Some x → is_such frees x.deed ≡ true → AtLeast front x.front

  -- the edge law: an acquiring entry knows, caller by caller, all that each releasing entry before it knew
  abbrev pub KeepsEdges : (E → R → Bool) → (E → R → Bool) → List (Entry E R) → Type 0
  KeepsEdges frees takes xs = (i j : ℕ) (x y : Entry E R) → i < j → slice_get xs i ≡ Some x → slice_get xs j ≡ Some y → is_such frees x.deed ≡ true → is_such takes y.deed ≡ true → AtLeast y.front x.front

  -- each entry's number is less
  abbrev pub AllBefore : List (Entry E R) → ℕ → Type 0
  AllBefore xs time = (i : ℕ) (x : Entry E R) → slice_get xs i ≡ Some x → x.time < time

  -- the numbers of the entries rise, whatever they did: an edge or not, a refusal or a halt
  abbrev pub TimesRise : List (Entry E R) → Type 0
  TimesRise xs = (i j : ℕ) (x y : Entry E R) → i < j → slice_get xs i ≡ Some x → slice_get xs j ≡ Some y → x.time < y.time

  -- what the caller knew after an entry
  abbrev pub front_at : Entry E R → Front
  front_at x = record { counts = x.front; time = x.time }

  -- what a caller knows never gets less along its entries, from one front to another, and each entry has a number past those before it
  abbrev pub Rising : Front → List (Entry E R) → Front → Type 0
  Rising from [] to = NoLess to from
  Rising from (x ∷ xs) to = Later (front_at x) from × Rising (front_at x) xs to

module _ {S E R : Type 0} (next : S → ℕ → E → S × R) where
  -- only an event that the machine took changes the state
  abbrev pub state_next : S → ℕ → Deed E R → S
  state_next s c (Event e r) = (next s c e).0
  state_next s c (Refused e m) = s
  state_next s c (Halt m) = s

  -- the machine's state after a journal
  abbrev pub state_after : S → List (Entry E R) → S
  state_after s [] = s
  state_after s (x ∷ xs) = state_after (state_next s x.caller x.deed) xs

  -- a deed is right where this misuse stands: the machine's reply where none does, a refusal by the one that does, and a halt of a machine that halts at all
  abbrev pub Right : Bool → S → Option Misuse → ℕ → Deed E R → Type 0
  Right halts s h c (Event e r) = (h ≡ None) × (r ≡ (next s c e).1)
  Right halts s h c (Refused e m) = h ≡ Some m
  Right halts s h c (Halt m) = halts ≡ true

  -- the journal follows the machine: each entry is right after those before it
  abbrev pub Follows : Bool → S → Option Misuse → List (Entry E R) → Type 0
  Follows halts s h [] = Unit {0}
  Follows halts s h (x ∷ xs) = Right halts s h x.caller x.deed × Follows halts (state_next s x.caller x.deed) (halt_next h x.deed) xs
