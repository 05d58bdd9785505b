-- The turn word of a table that keeps the rule.
use Rattle.std.proofs.Common.{◌≡◌, ℕ, zero, suc, ◌+◌, ◌-◌, ◌*◌, ◌%◌, ◌^◌, ◌<◌, Bool, List, Option, get_or, refl, sym, ap, ◌∙◌, subst, arith}
use Rattle.std.specs.Prelude.{sum_by}
use Rattle.std.specs.List.{range_with_len}
use Rattle.std.proofs.Math.Nat.{lt_of_not-le}
use Rattle.std.proofs.lemmas.List.Sums.{sum_by-cons}
use mathlib.Core.Logic.{dite}
use native.Mathlib.Decide.{ℕ_discrete}
use Rattle.atomic_table.specs.Table.{State}
use Rattle.sync_model.specs.Front.{Front}
use Rattle.sync_model.specs.declared.journal.Entry.{Entry}
use Rattle.ruled_object.specs.declared.cell.Cell.{Cell}
use Rattle.ruled_object.specs.declared.rule.Begin.{Begin}
use Rattle.ruled_object.specs.declared.view.Stage.{Stage}
use Rattle.ruled_object.specs.declared.view.Stage.TheVariants.{Idle, Making, Taken, Deep}
use Rattle.ruled_object.specs.declared.view.View.{View}
use Rattle.ruled_object.specs.Rule.{HasWord, IsFree, IsHeld, Homes, AtStage, Kept, all_turns}
use Rattle.ruled_object.specs.Turns.{HaveTaken, IsOut, TurnTells}

same_sum : (f g : ℕ → ℕ) (a n : ℕ) → ((c : ℕ) → c < a + n → f c ≡ g c) → sum_by f (range_with_len a n) ≡ sum_by g (range_with_len a n)
same_sum f g a zero same = refl
same_sum f g a (suc n) same =
    let here = same a (omega arith) in let more = same_sum f g (a + 1) n (λ c below. same c (omega arith)) in
    let left = sum_by-cons f a (range_with_len (a + 1) n) in let right = sum_by-cons g a (range_with_len (a + 1) n) in omega arith

module _ {S N E R : Type 0} (journal : List (Entry E R)) (word turn : ℕ) (homes : Homes S N) (holder seat : ℕ) (seen : List (Entry E R)) where
  -- who has the word and not the turn finds that nobody has the turn
  not_out : (st : Stage) → HasWord st → (st ≡ Deep → ⊥) → AtStage journal word turn homes holder seat seen st → turn ≡ 0
  not_out Idle has without at = absurd has
  not_out Making has without at = at.1
  not_out Taken has without at = at.1
  not_out Deep has without at = absurd (without refl)

module _ {S N E R H : Type 0} (next : S → ℕ → E → S × R) (halts : Bool) (frees takes : E → R → Bool) (front : N → Front) (at : H → N → Type 0) (tells : S → ℕ) (means : S → ℕ → S) (begin : Begin S N) where
  abbrev St : Type 0
  St = State (Option (Cell S N)) (View E R)

  abbrev Rule : St → Type 0
  Rule = Kept next halts frees takes front at tells means begin

  -- nobody has the turn
  none_out : (s : St) (r : Rule s) → (IsOut s.views → ⊥) → r.turn ≡ 0
  none_out s r without = let word : ℕ = get_or s.words 0 0 in dite (ℕ_discrete (2 ^ 63 - word) 0)
      (λ is. let held : IsHeld word = omega arith in let b = r.busy held in not_out r.journal (get_or s.words 0 0) r.turn s.homes r.holder r.holder b.0.seen b.0.stage b.2 (λ deep. without (r.holder, b.0, b.1, deep)) (r.each r.holder b.0 b.1).stage)
      (λ other. let free : IsFree word = lt_of_not-le (λ held. other (omega arith)) in (r.free free).0)

  -- one seat has it
  one_out : (s : St) (r : Rule s) → IsOut s.views → r.turn ≡ 1
  one_out s r out = let v : View E R = out.1 in (subst (λ (z : Stage). AtStage r.journal (get_or s.words 0 0) r.turn s.homes r.holder out.0 v.seen z) out.3 (r.each out.0 v out.2).stage).1

  -- the views count what the rule does
  same_turns : (s : St) (r : Rule s) (turns : ℕ → ℕ) → HaveTaken s.views begin.callers turns → all_turns begin.callers r.turns ≡ all_turns begin.callers turns
  same_turns s r turns have = same_sum r.turns turns 0 begin.callers
      (λ c below. let h = have c (omega arith) in let v : View E R = h.1 in let own = (r.each h.0 v h.4).owns h.2 h.3 h.5 in sym (own.3 ∙ ap r.turns h.6) ∙ h.7)

  tells_so : (s : St) (r : Rule s) (more : ℕ) (turns : ℕ → ℕ) → HaveTaken s.views begin.callers turns → r.turn ≡ more → TurnTells s more begin.callers turns
  tells_so s r more turns have is = subst (λ (z : ℕ × ℕ). (get_or s.words 1 0 + z.0) % 2 ^ 64 ≡ (2 * z.1) % 2 ^ 64) (λ i. (is i, same_turns s r turns have i)) r.counted

  -- while nobody has the turn the turn word is twice what the callers count, and else one less
  pub tells_none : (s : St) (turns : ℕ → ℕ) → Rule s → HaveTaken s.views begin.callers turns → (IsOut s.views → ⊥) → TurnTells s 0 begin.callers turns
  tells_none s turns r have without = tells_so s r 0 turns have (none_out s r without)

  pub tells_one : (s : St) (turns : ℕ → ℕ) → Rule s → HaveTaken s.views begin.callers turns → IsOut s.views → TurnTells s 1 begin.callers turns
  tells_one s turns r have out = tells_so s r 1 turns have (one_out s r out)
