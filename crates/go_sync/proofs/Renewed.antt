-- What a call did with a pass that was renewed before, it did with the pass as it was.
use Rattle.std.proofs.Common.{◌≡◌, ℕ, Bool, true, List, refl, subst}
use Rattle.sync_model.specs.declared.answer.Answer.{Answer}
use Rattle.sync_model.specs.declared.journal.Deed.{Deed}
use Rattle.sync_model.specs.Front.{Front}
use Rattle.ruled_object.specs.declared.pass.Pass.{Pass}
use Rattle.ruled_object.specs.Growth.{Placed, Grows, MeetsHalt, deeds_of}
use Rattle.go_locks.specs.Calls.{Did}
use Rattle.go_sync.specs.Made.{Made, no_front}
use Rattle.go_sync.specs.Renewing.{IsSame}

module _ {S N E R : Type 0} (next : S → ℕ → E → S × R) (halts : Bool) (start : S) where
  -- calls that are left say nothing of the history
  with_left : (old new : Pass S N E R) (calls : ℕ) (from to : Front) (es : List (Placed E R))
      → Grows next halts start (record old { left = calls }) from es new to → Grows next halts start old from es new to
  with_left old new calls from to es grows = record { history = grows.history; mine = grows.mine; right = grows.right; fronts = grows.fronts; number = grows.number }

  -- and the note that the call began with was a new one
  pub grew_so : (old mid new : Pass S N E R) (first : ℕ) (to : Front) (es : List (Placed E R))
      → IsSame old mid → first ≡ 0 → Grows next halts start mid (no_front first) es new to → Grows next halts start old (no_front 0) es new to
  grew_so old mid new first to es same fresh grows = with_left old new same.0 (no_front 0) to es (subst (λ p. Grows next halts start p (no_front 0) es new to) same.1 (subst (λ t. Grows next halts start mid (no_front t) es new to) fresh grows))

pub did_so : {S N E R A : Type 0} (next : S → ℕ → E → S × R) (start : S) (spells : List (Deed E R) → Answer A → Type 0) (clocked : List (Deed E R) → Type 0) (old mid new : Pass S N E R) (first last : ℕ) (answer : Answer A)
    → IsSame old mid → first ≡ 0 → Did next start spells clocked mid (no_front first) answer new (no_front last) → (time : ℕ) × Did next start spells clocked old (no_front 0) answer new (no_front time)
did_so next start spells clocked old mid new first last answer same fresh did = (
  last,
  record {
    entries = did.entries;
    grows = grew_so next true start old mid new first (no_front last) did.entries same fresh did.grows;
    spelt = did.spelt;
    halted = did.halted;
    moments = did.moments;
  },
)

pub made_so : {S N E R A : Type 0} (next : S → ℕ → E → S × R) (halts : Bool) (start : S) (spells : List (Deed E R) → Answer A → Type 0) (old mid new : Pass S N E R) (first last : ℕ) (answer : Answer A)
    → IsSame old mid → first ≡ 0 → ((es : List (Placed E R)) × Grows next halts start mid (no_front first) es new (no_front last) × spells (deeds_of es) answer × MeetsHalt es answer) → Made next halts start spells old answer new
made_so next halts start spells old mid new first last answer same fresh did = record {
  entries = did.0;
  time = last;
  grows = grew_so next halts start old mid new first (no_front last) did.0 same fresh did.1;
  spelt = did.2;
  halted = did.3;
}

-- the same of a call that shows it in these words already
pub made_again : {S N E R A : Type 0} (next : S → ℕ → E → S × R) (halts : Bool) (start : S) (spells : List (Deed E R) → Answer A → Type 0) (old mid new : Pass S N E R) (answer : Answer A)
    → IsSame old mid → Made next halts start spells mid answer new → Made next halts start spells old answer new
made_again next halts start spells old mid new answer same made = record {
  entries = made.entries;
  time = made.time;
  grows = grew_so next halts start old mid new 0 (no_front made.time) made.entries same refl made.grows;
  spelt = made.spelt;
  halted = made.halted;
}

-- the note that the call began with was a new one
pub did_fresh : {S N E R A : Type 0} (next : S → ℕ → E → S × R) (start : S) (spells : List (Deed E R) → Answer A → Type 0) (clocked : List (Deed E R) → Type 0) (old new : Pass S N E R) (first last : ℕ) (answer : Answer A)
    → first ≡ 0 → Did next start spells clocked old (no_front first) answer new (no_front last) → (time : ℕ) × Did next start spells clocked old (no_front 0) answer new (no_front time)
did_fresh next start spells clocked old new first last answer fresh did = (last, subst (λ t. Did next start spells clocked old (no_front t) answer new (no_front last)) fresh did)
