-- What several entries of one caller, made one after the other, show of the history. A call of the layers above is such a list.
use Rattle.std.specs.Prelude.{◌≡◌, ℕ, Bool, true, List, [], ◌∷◌, ◌++◌, Option, Some, None, length, map}
use Rattle.std.specs.List.{AllByRecursion}
use Rattle.sync_types.specs.declared.misuse.Misuse.{Misuse}
use Rattle.sync_model.specs.declared.answer.Answer.{Answer}
use Rattle.sync_model.specs.declared.answer.Answer.TheVariants.{Done, Halted}
use Rattle.sync_model.specs.declared.journal.Deed.{Deed}
use Rattle.sync_model.specs.declared.journal.Deed.TheVariants.{Event, Refused, Halt}
use Rattle.sync_model.specs.declared.journal.Entry.{Entry}
use Rattle.sync_model.specs.Front.{Front, NoLess}
use Rattle.sync_model.specs.Journal.{Begins, halt_of, by, KeepsEdges, TimesRise, Rising, state_after, Right, Follows}
use Rattle.sync_model.specs.Note.{SameHome, Holding}
use Rattle.ruled_object.specs.declared.pass.Pass.{Pass}
use Rattle.ruled_object.specs.Cells.{deed_of}
use Rattle.ruled_object.specs.Passes.{number_of, turns_of, seen_by, own_by}

-- an entry at its place: the history that stands before it
pub record Placed (E R : Type 0) : Type 0 where
  pub before : List (Entry E R)
  pub entry : Entry E R

module _ {E R : Type 0} where
  -- the entries, and what they did
  abbrev pub entries_of : List (Placed E R) → List (Entry E R)
  entries_of es = map (λ p. p.entry) es

  abbrev pub deeds_of : List (Placed E R) → List (Deed E R)
  deeds_of es = map (λ p. p.entry.deed) es

  -- from what a caller had seen to what it has seen: each entry stands behind all that the caller had seen before it
  abbrev pub Leads : List (Entry E R) → List (Placed E R) → List (Entry E R) → Type 0
  Leads seen [] now = now ≡ seen
  Leads seen (p ∷ es) now = Begins p.before seen × (p.entry.knew ≡ length seen) × Leads (p.before ++ p.entry ∷ []) es now

  -- the misuse of the first halt before the place of the last of these entries
  abbrev pub halt_before : List (Placed E R) → Option Misuse
  halt_before [] = None
  halt_before (p ∷ []) = halt_of p.before
  halt_before (p ∷ (q ∷ es)) = halt_before (q ∷ es)

  -- An answer is Halted exactly where a halt stands before the place of the last entry, and then by the first one's misuse.
  abbrev pub MeetsHalt : {A : Type 0} → List (Placed E R) → Answer A → Type 0
  MeetsHalt es (Done answer) = halt_before es ≡ None
  MeetsHalt es (Halted misuse) = halt_before es ≡ Some misuse

module _ {S E R : Type 0} where
  -- the entry is the caller's, and right where it stands
  abbrev pub IsRight : (S → ℕ → E → S × R) → Bool → S → ℕ → Placed E R → Type 0
  IsRight next halts start caller p =
      (p.entry.caller ≡ caller) × Right next halts (state_after next start p.before) (halt_of p.before) caller p.entry.deed

-- The pass's caller made these entries, in order, and no others. `from` is the front of its note before them, and `to` the front after them.
pub record Grows {S N E R : Type 0} (next : S → ℕ → E → S × R) (halts : Bool) (start : S) (old : Pass S N E R) (from : Front) (es : List (Placed E R)) (new : Pass S N E R) (to : Front) : Type 0 where
  pub history : Leads (seen_by old) es (seen_by new)
  pub mine : own_by new ≡ own_by old ++ entries_of es
  pub right : AllByRecursion (IsRight next halts start (number_of old)) es
  pub fronts : Rising from (entries_of es) to
  pub number : number_of new ≡ number_of old

-- what two calls add, one after the other, they add together
abbrev pub AddUp : {S E R : Type 0} → Type 0 → (S → ℕ → E → S × R) → Bool → S → Type 0
AddUp {S} {E} {R} N next halts start =
    (old mid new : Pass S N E R) (es fs : List (Placed E R)) (from between to : Front) → Grows next halts start old from es mid between → Grows next halts start mid between fs new to
    → Grows next halts start old from (es ++ fs) new to

-- of several entries the last one tells whether a halt was met
abbrev pub LastTells : Type 0 → Type 0 → Type 0
LastTells E R = (es : List (Placed E R)) (last : Placed E R) (answer : Answer R) → MeetsHalt (last ∷ []) answer → MeetsHalt (es ++ last ∷ []) answer

-- The pass's caller made one event, which was answered this. What stands before it follows the machine, and has of the caller what the pass had.
pub record Makes {S N E R : Type 0} (next : S → ℕ → E → S × R) (halts : Bool) (start : S) (old : Pass S N E R) (from : Front) (event : E) (answer : Answer R) (new : Pass S N E R) (to : Front) : Type 0 where
  pub one : Placed E R
  pub grows : Grows next halts start old from (one ∷ []) new to
  pub deed : one.entry.deed ≡ deed_of event answer
  pub halted : MeetsHalt (one ∷ []) answer
  pub own : own_by old ≡ by (number_of old) one.before
  pub follows : Follows next halts start None one.before

module _ {S E : Type 0} where
  -- the event is one that may be made at this state, or, where this misuse has halted the object, to be refused
  abbrev pub MayBeMade : (S → E → Type 0) → (E → Type 0) → Option Misuse → S → E → Type 0
  MayBeMade may refused None state event = may state event
  MayBeMade may refused (Some misuse) state event = refused event

-- The same of an event that was made by what it finds.
pub record MakesWith {S N E R : Type 0} (next : S → ℕ → E → S × R) (halts : Bool) (start : S) (may : S → E → Type 0) (refused : E → Type 0) (old : Pass S N E R) (from : Front) (event : E) (answer : Answer R) (new : Pass S N E R) (to : Front) : Type 0 where
  pub makes : Makes next halts start old from event answer new to
  pub chosen : MayBeMade may refused (halt_of makes.one.before) (state_after next start makes.one.before) event

-- What a pass shows of the history follows the machine from its start and keeps the edge law, its numbers rise, and it has of its caller what the pass has.
pub record IsLawful {S N E R : Type 0} (next : S → ℕ → E → S × R) (halts : Bool) (frees takes : E → R → Bool) (start : S) (pass : Pass S N E R) : Type 0 where
  pub own : own_by pass ≡ by (number_of pass) (seen_by pass)
  pub follows : Follows next halts start None (seen_by pass)
  pub edges : KeepsEdges frees takes (seen_by pass)
  pub times : TimesRise (seen_by pass)

-- the note stays its holder's and at its home, and what it knows never gets less
pub record KeepsNote {H N : Type 0} (at : H → N → Type 0) (own : N → Option Holding) (front : N → Front) (old new : N) : Type 0 where
  pub home : SameHome at old new
  pub kept : own new ≡ own old
  pub rises : NoLess (front new) (front old)

module _ {S E R : Type 0} where
  -- the word alone decides this deed of a caller at this state: an event that it decides, and each event that is refused
  abbrev pub IsAlone : (S → ℕ → E → Bool) → S → ℕ → Deed E R → Type 0
  IsAlone alone state caller (Event event reply) = alone state caller event ≡ true
  IsAlone alone state caller (Refused event misuse) = Unit {0}
  IsAlone alone state caller (Halt misuse) = ⊥

-- Where the pass's caller made one entry alone, and the word alone decides it at its place, no turn was taken.
abbrev pub NeedsNoTurn : {S N E R : Type 0} → (S → ℕ → E → S × R) → Bool → (S → ℕ → E → Bool) → S → Pass S N E R → Front → Pass S N E R → Front → Type 0
NeedsNoTurn {S} {N} {E} {R} next halts alone start old from new to =
    (one : Placed E R) → Grows next halts start old from (one ∷ []) new to → IsAlone alone (state_after next start one.before) one.entry.caller one.entry.deed → turns_of new ≡ turns_of old
