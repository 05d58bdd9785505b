-- Callers whose notes were used and not changed.
use Rattle.std.proofs.Common.{◌≡◌, ℕ, zero, suc, ◌≤◌, List, [], ◌∷◌, get_or, Option, Some, slice_get, slice_set, refl, sym, ap, ◌∙◌, subst, arith}
use Rattle.std.specs.Option.{ForSome}
use Rattle.std.proofs.lemmas.Option.{none-some, same_Some, slice_get_within, slice_get-get_or}
use Rattle.sync_model.specs.declared.caller.Caller.{Caller}
use Rattle.sync_model.specs.Note.{Holding, SameHome}
use Rattle.sync_model.specs.Shared.{AreAllCallers, IsHeldBy, items_of}
use Rattle.workload.specs.Plan.{Plan}
use Rattle.thread_runner.specs.Sites.{cost_of_calls}
use Rattle.thread_runner.specs.Dealing.{SameNotes}
use Rattle.thread_runner.specs.EndsPlans.{HaveMadeNone, HaveSpare}

module _ {N H : Type 0} (at : H → N → Type 0) (own : N → Option Holding) where
  -- only the first note was used
  pub first_used : (old : List (Caller N)) (caller now : Caller N) → slice_get old 0 ≡ Some caller → SameHome at caller.note now.note → own now.note ≡ own caller.note → SameNotes at own old (slice_set old 0 now)
  first_used [] caller now found home held = absurd (none-some caller found)
  first_used (x ∷ old) caller now found home held = record { count = refl; same = each } where
    each : (i : ℕ) (before after : Caller N) → slice_get (x ∷ old) i ≡ Some before → slice_get (now ∷ old) i ≡ Some after → SameHome at before.note after.note × (own after.note ≡ own before.note)
    each zero before after at_before at_after =
        let first : caller ≡ before = same_Some caller before (sym found ∙ at_before) in
        let last : now ≡ after = same_Some now after at_after in
        subst (λ (a : Caller N). SameHome at before.note a.note × (own a.note ≡ own before.note)) last (subst (λ (b : Caller N). SameHome at b.note now.note × (own now.note ≡ own b.note)) first (home, held))
    each (suc i) before after at_before at_after =
        let same : before ≡ after = same_Some before after (sym at_before ∙ at_after) in
        subst (λ (a : Caller N). SameHome at before.note a.note × (own a.note ≡ own before.note)) same ((λ h is. is), refl)

  module _ (old new : List (Caller N)) (same : SameNotes at own old new) where
    was : (i : ℕ) (caller : Caller N) → slice_get new i ≡ Some caller → (before : Caller N) × (slice_get old i ≡ Some before)
    was i caller found = let within = slice_get_within new i caller found in (get_or old i caller, slice_get-get_or old i caller (omega (arith, within, same.count)))

    pub all_stay : (home : H) (count : ℕ) → AreAllCallers at own home old count → AreAllCallers at own home new count
    all_stay home count all = record {
      all = same.count ∙ all.all;
      each = λ i caller found.
          let before = was i caller found in
          let kept = same.same i before.0 caller before.1 found in
          let it = all.each i before.0 before.1 in
          (kept.0 home it.0, subst (IsHeldBy i) (sym kept.1) it.1);
    }

    pub none_still : HaveMadeNone own old → HaveMadeNone own new
    none_still none i caller found = let before = was i caller found in ap items_of (same.same i before.0 caller before.1 found).1 ∙ none i before.0 before.1

    pub spare_still : (plan : Plan) → HaveSpare own plan old → HaveSpare own plan new
    spare_still plan spare i caller found =
        let before = was i caller found in
        subst (λ (h : Option Holding). ForSome h (λ holding. cost_of_calls (get_or plan.scripts i []) ≤ holding.spare)) (sym (same.same i before.0 caller before.1 found).1) (spare i before.0 before.1)
