-- Whether a seat stands for a caller.
use Rattle.std.proofs.Common.{◌≡◌, ℕ, ◌+◌, ◌≤◌, Bool, List, [], ◌∷◌, length, Option, Some, None, refl, sym, ap, ◌∙◌, subst, arith}
use mathlib.Core.Option.{some}
use lib.ListN.{get_elem?}
use Rattle.sync_model.specs.Front.{Front}
use Rattle.sync_model.specs.declared.journal.Entry.{Entry}
use Rattle.sync_model.specs.Journal.{Begins, by, KeepsEdges, TimesRise, Follows}
use Rattle.ruled_object.specs.declared.cell.Cell.{Cell}
use Rattle.ruled_object.specs.declared.pass.Pass.{Pass}
use Rattle.ruled_object.specs.declared.rule.Begin.{Begin}
use Rattle.ruled_object.specs.declared.view.Own.{Own}
use Rattle.ruled_object.specs.declared.view.View.{View}
use Rattle.ruled_object.specs.Looks.{looked, Finds}
use Rattle.ruled_object.specs.Notes.{held_of, Shows}
use Rattle.ruled_object.specs.Passes.{own_of}
use Rattle.ruled_object.specs.Steps.{Sat, joined}
use Rattle.ruled_object.proofs.Gathering.{at_second}

module _ {E R : Type 0} where
  -- who holds nobody's entries stands for nobody
  pub nobody : (owns : List (Own E R)) → held_of owns ≡ None → owns ≡ []
  nobody [] none = refl
  nobody (own ∷ owns) none = (cc)

  -- what is held is what the first caller made
  pub first_held : (owns : List (Own E R)) (own : List (Entry E R)) → held_of owns ≡ Some own → (get_elem? owns 0 ≡ some (own_of owns)) × ((own_of owns).entries ≡ own)
  first_held [] own is = (cc)
  first_held (own ∷ owns) mine is = (refl, (cc))

  pub own_held : (owns : List (Own E R)) (own : List (Entry E R)) → held_of owns ≡ Some own → (own_of owns).entries ≡ own
  own_held [] own is = (cc)
  own_held (own ∷ owns) mine is = (cc)

  pub some_held : (owns : List (Own E R)) (own : List (Entry E R)) → held_of owns ≡ Some own → length owns ≤ 1 → length owns ≡ 1
  some_held [] own is one = (cc)
  some_held (own ∷ owns) mine is one = omega arith

  pub one_held : (owns : List (Own E R)) → length owns ≡ 1 → held_of owns ≡ Some (own_of owns).entries
  one_held [] one = absurd (omega arith)
  one_held (own ∷ owns) one = refl

module _ {S N E R H : Type 0} (next : S → ℕ → E → S × R) (halts : Bool) (frees takes : E → R → Bool) (front : N → Front) (at : H → N → Type 0) (tells : S → ℕ) (means : S → ℕ → S) (begin : Begin S N) where
  -- a seat that took in another and then looked has seen what both had
  pub sees_both : (v w : View E R) (journal : List (Entry E R)) → Finds next halts frees takes front at tells means begin (joined v w) journal → Begins journal v.seen × Begins journal w.seen
  sees_both v w journal finds = (finds.seen, finds.heard (length v.heard + 0) w.seen (at_second v.heard (w.seen ∷ w.heard) 0 w.seen refl))

  -- what a pass shows after a look
  pub shows_after : (pass : Pass S N E R) (v : View E R) (slots : List (ℕ × Option (Cell S N))) (journal : List (Entry E R)) → pass.seat.me ≡ (looked v journal, slots) → v.number ≡ pass.number
      → Finds next halts frees takes front at tells means begin v journal → Shows next halts frees takes begin.state pass
  shows_after pass v slots journal me number finds =
      let seen : pass.seat.me.0.seen ≡ journal = ap (λ (m : Sat S N E R). m.0.seen) me in
      let owns : pass.seat.me.0.owns ≡ v.owns = ap (λ (m : Sat S N E R). m.0.owns) me in
      let same : v.number + 0 ≡ pass.number = omega arith in record {
        own = λ own is. let first = first_held v.owns own (sym (ap held_of owns) ∙ is) in sym first.1 ∙ (finds.owns 0 (own_of v.owns) first.0).1 ∙ (ap (λ (c : ℕ). by c journal) same ∙ ap (by pass.number) (sym seen));
        follows = subst (Follows next halts begin.state None) (sym seen) finds.lawful.follows;
        edges = subst (KeepsEdges frees takes) (sym seen) finds.lawful.edges;
        times = subst TimesRise (sym seen) finds.lawful.times;
      }
