-- What a call of one or two events shows that began with a new note.
use Rattle.std.proofs.Common.{◌≡◌, ℕ, true, List, [], ◌∷◌, ◌++◌, ap, sym, subst, ◌∙◌}
use Rattle.std.proofs.lemmas.List.{map-append}
use Rattle.sync_model.specs.declared.answer.Answer.{Answer}
use Rattle.sync_model.specs.declared.journal.Deed.{Deed}
use Rattle.ruled_object.specs.declared.pass.Pass.{Pass}
use Rattle.ruled_object.specs.Growth.{Placed, AddUp, Grows, LastTells, MeetsHalt, deeds_of}
use Rattle.go_sync.specs.Made.{Made, no_front}

-- the last of all entries decides whether a call met a halt
meets-append : {E R : Type 0} → LastTells E R → (es fs : List (Placed E R)) (d : Deed E R) (answer : Answer R) → deeds_of fs ≡ d ∷ [] → MeetsHalt fs answer → MeetsHalt (es ++ fs) answer
meets-append last es [] d answer is meets = cc
meets-append last es (p ∷ []) d answer is meets = last es p answer meets
meets-append last es (p ∷ (q ∷ fs)) d answer is meets = cc

module _ {S N E R A : Type 0} {next : S → ℕ → E → S × R} {start : S} {spells : List (Deed E R) → Answer A → Type 0} {old new : Pass S N E R} {first last : ℕ} {answer : Answer A} where
  -- by what the events show
  pub made_one : first ≡ 0 → ((es : List (Placed E R)) × Grows next true start old (no_front first) es new (no_front last) × spells (deeds_of es) answer × MeetsHalt es answer)
      → Made next true start spells old answer new
  made_one fresh did = record {
    entries = did.0;
    time = last;
    grows = subst (λ t. Grows next true start old (no_front t) did.0 new (no_front last)) fresh did.1;
    spelt = did.2;
    halted = did.3;
  }

  -- by what each of two events shows, one after the other
  pub made_two : {mid : Pass S N E R} {between : ℕ} {one : Deed E R} → AddUp N next true start → LastTells E R → first ≡ 0
      → ((es : List (Placed E R)) × Grows next true start old (no_front first) es mid (no_front between) × (deeds_of es ≡ one ∷ []))
      → (two : Deed E R) (told : Answer R) → ((es : List (Placed E R)) × Grows next true start mid (no_front between) es new (no_front last) × (deeds_of es ≡ two ∷ []) × MeetsHalt es told)
      → ((es : List (Placed E R)) → MeetsHalt es told → MeetsHalt es answer) → spells (one ∷ (two ∷ [])) answer → Made next true start spells old answer new
  made_two {mid} {between} {one} both tells fresh made two told then halts spelt =
      let deeds = map-append (λ (p : Placed E R). p.entry.deed) made.0 then.0 ∙ ap (λ (z : List (Deed E R) × List (Deed E R)). z.0 ++ z.1) (λ i. (made.2 i, then.2 i)) in
      made_one fresh (
        made.0 ++ then.0,
        both old mid new made.0 then.0 (no_front first) (no_front between) (no_front last) made.1 then.1,
        subst (λ ds. spells ds answer) (sym deeds) spelt,
        halts (made.0 ++ then.0) (meets-append tells made.0 then.0 two told then.2 then.3),
      )
