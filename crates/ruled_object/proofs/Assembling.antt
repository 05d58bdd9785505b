-- Passes that are brought to an assembly, and handed back.
use Rattle.std.proofs.Common.{◌≡◌, ℕ, zero, suc, ◌+◌, ◌<◌, ⊎_elim, List, [], ◌∷◌, ◌++◌, length, length-append, get_or, set, get_or-set_same, slice_get, Some, refl, sym, ap, ◌∙◌, subst, arith}
use Rattle.std.proofs.lemmas.List.{get_or-set_other}
use Rattle.std.proofs.lemmas.Option.{slice_get-get_or, slice_get_within}
use mathlib.Core.Option.{some-injective}
use Rattle.sync_model.specs.declared.journal.Entry.{Entry}
use Rattle.ruled_object.specs.declared.assembly.Assembly.{Assembly}
use Rattle.ruled_object.specs.declared.object.Object.{Object}
use Rattle.ruled_object.specs.declared.pass.Pass.{Pass}
use Rattle.ruled_object.specs.declared.view.Own.{Own}
use Rattle.ruled_object.specs.declared.view.View.{View}
use Rattle.ruled_object.specs.Assembled.{HandsBack}
use Rattle.ruled_object.specs.Gathered.{Gathered, IsDealt}
use Rattle.ruled_object.specs.Passes.{capped, callers_of, own_in, turns_of}
use Rattle.ruled_object.specs.Steps.{dealt, joined}
use Rattle.ruled_object.proofs.Gathering.{gathered_on, is_dealt}
use Rattle.ruled_object.proofs.Journals.{at_end}

module _ {A : Type 0} where
  get_before : (xs : List A) (x y : A) (i : ℕ) → i < length xs → slice_get (xs ++ x ∷ []) i ≡ Some y → slice_get xs i ≡ Some y
  get_before [] x y i below e = absurd (omega arith)
  get_before (z ∷ zs) x y zero below e = e
  get_before (z ∷ zs) x y (suc i) below e = get_before zs x y i (omega arith) e

  get_last : (xs : List A) (x : A) → slice_get (xs ++ x ∷ []) (length xs) ≡ Some x
  get_last [] x = refl
  get_last (z ∷ zs) x = get_last zs x

module _ {S N E R : Type 0} where
  -- one pass more was brought
  pub gathered_more : (passes : List (Pass S N E R)) (pass : Pass S N E R) (v : View E R) → length pass.seat.me.0.owns ≡ 1 → Gathered (length passes) passes v
      → Gathered (length (passes ++ pass ∷ [])) (passes ++ pass ∷ []) (joined v pass.seat.me.0)
  gathered_more passes pass v one d =
      let all : List (Pass S N E R) = passes ++ pass ∷ [] in
      let longer : Gathered (length passes) all v = record {
        stage = d.stage;
        number = d.number;
        count = d.count;
        owns = λ i p below at_i. d.owns i p below (get_before passes pass p i below at_i);
        heard = λ i p below at_i. d.heard i p below (get_before passes pass p i below at_i);
      } in
      let sized : length passes + 1 ≡ length all = omega (arith, length-append passes (pass ∷ [])) in
      subst (λ (n : ℕ). Gathered n all (joined v pass.seat.me.0)) sized (gathered_on (length passes) all pass v (get_last passes pass) one longer)

  -- and the assembly has its turns too
  pub turns_more : (passes : List (Pass S N E R)) (pass : Pass S N E R) (turns : List ℕ) → length passes < length turns → ((i : ℕ) (p : Pass S N E R) → slice_get passes i ≡ Some p → get_or turns i 0 ≡ turns_of p)
      → (i : ℕ) (p : Pass S N E R) → slice_get (passes ++ pass ∷ []) i ≡ Some p → get_or (set turns (length passes) (turns_of pass)) i 0 ≡ turns_of p
  turns_more passes pass turns room has i p at_i = ⊎_elim
      (λ at_old. let below = slice_get_within passes i p at_old in get_or-set_other turns (length passes) i (turns_of pass) 0 (λ e. omega arith) ∙ has i p at_old)
      (λ t. ap (λ (k : ℕ). get_or (set turns (length passes) (turns_of pass)) k 0) t.0 ∙ (get_or-set_same turns (length passes) (turns_of pass) 0 room ∙ ap turns_of t.1))
      (at_end passes pass p i at_i)

-- the pass that is handed back
pub handed_back : {M N S E R H : Type 0} (object : Object M N S E R H) (n : ℕ) (journal : List (Entry E R)) (passes : List (Pass S N E R)) (all : Assembly S N E R) (pass : Pass S N E R) (back : HandsBack object n journal passes all)
    → n < callers_of object → pass.seat.table_id ≡ object.table.shared.table_id → pass.seat.me ≡ (dealt all.seat.me.0, []) → pass.number ≡ n → turns_of pass ≡ get_or all.turns n 0 → IsDealt object n journal back.owns pass
handed_back {M} {N} {S} {E} {R} {H} object n journal passes all pass back below table me number turns =
    let count = back.dealing.count in let sized = back.sized in let callers = back.passes_are.count in
    let some_own : 0 < length all.seat.me.0.owns = omega arith in let before : Pass S N E R = get_or passes n pass in
    let at_n = slice_get-get_or passes n pass (omega arith) in
    is_dealt object n journal back.owns all.seat.me.0 pass back.dealing some_own below table me number
    (λ own is. turns ∙ (back.turns n before at_n ∙ ((back.passes_are.each n before at_n).0.turns ∙ ap (λ (o : Own E R). capped o.turns) (some-injective (own_in before) own (sym (back.own n before at_n) ∙ is)))))
