-- What a call did with a pass that was renewed before, it did with the pass as it was.
use Rattle.std.proofs.Common.{◌≡◌, ℕ, Bool, true, List, refl, subst}
use Rattle.sync_model.specs.declared.answer.Answer.{Answer}
use Rattle.sync_model.specs.declared.journal.Deed.{Deed}
use Rattle.sync_model.specs.Front.{Front}
use Rattle.ruled_object.specs.declared.pass.Pass.{Pass}
use Rattle.ruled_object.specs.Growth.{Placed, Grows, MeetsHalt, deeds_of}
use Rattle.ruled_object.specs.Renewals.{IsRenewed}
use Rattle.go_locks.specs.Calls.{Did}

module _ {S N E R : Type 0} (next : S → ℕ → E → S × R) (halts : Bool) (start : S) where
  -- calls that are left say nothing of the history
  with_left : (old new : Pass S N E R) (calls : ℕ) (from to : Front) (es : List (Placed E R))
      → Grows next halts start (record old { left = calls }) from es new to → Grows next halts start old from es new to
  with_left old new calls from to es grows = record { history = grows.history; mine = grows.mine; right = grows.right; fronts = grows.fronts; number = grows.number }

  grew_same : (old mid new : Pass S N E R) (from to : Front) (es : List (Placed E R))
      → ((calls : ℕ) × IsRenewed calls old mid) → Grows next halts start mid from es new to → Grows next halts start old from es new to
  grew_same old mid new from to es same grows = with_left old new same.0 from to es (subst (λ p. Grows next halts start p from es new to) same.1 grows)

pub did_with : {S N E R A : Type 0} (next : S → ℕ → E → S × R) (start : S) (spells : List (Deed E R) → Answer A → Type 0) (clocked : List (Deed E R) → Type 0) (old mid new : Pass S N E R) (from to : Front) (answer : Answer A)
    → ((calls : ℕ) × IsRenewed calls old mid) → Did next start spells clocked mid from answer new to → Did next start spells clocked old from answer new to
did_with next start spells clocked old mid new from to answer same did = record {
  entries = did.entries;
  grows = grew_same next true start old mid new from to did.entries same did.grows;
  spelt = did.spelt;
  halted = did.halted;
  moments = did.moments;
}

pub grew_with : {S N E R A : Type 0} (next : S → ℕ → E → S × R) (start : S) (spells : List (Deed E R) → Answer A → Type 0) (old mid new : Pass S N E R) (from to : Front) (answer : Answer A)
    → ((calls : ℕ) × IsRenewed calls old mid) → ((es : List (Placed E R)) × Grows next true start mid from es new to × spells (deeds_of es) answer × MeetsHalt es answer)
    → (es : List (Placed E R)) × Grows next true start old from es new to × spells (deeds_of es) answer × MeetsHalt es answer
grew_with next start spells old mid new from to answer same did = (did.0, grew_same next true start old mid new from to did.0 same did.1, did.2, did.3)
