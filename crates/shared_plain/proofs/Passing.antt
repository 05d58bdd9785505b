-- Notes that are copied and merged.
use Rattle.std.proofs.Common.{◌≡◌, ℕ, zero, suc, ◌+◌, ◌≤◌, Bool, true, false, cond, eqb, List, [], ◌∷◌, ◌++◌, length, map, take, get_or, Option, Some, None, refl, sym, ap, ◌∙◌, arith}
use Rattle.std.specs.List.{range_with_len}
use Rattle.std.proofs.lemmas.List.{append-nil}
use Rattle.sync_model.specs.declared.item.SharedCall.{SharedCall}
use Rattle.sync_model.specs.declared.item.Item.{Item}
use Rattle.shared_plain.specs.declared.event.Answered.{Answered}
use Rattle.sync_model.specs.Front.{AtLeast}
use Rattle.sync_model.specs.Journal.{Begins, by}
use Rattle.ruled_object.specs.Notes.{held_by}
use Rattle.ruled_object.specs.Passes.{number_of, seen_by}
use Rattle.shared_plain.specs.declared.mark.Mark.{Mark}
use Rattle.shared_plain.specs.Marks.{holding, own_by}
use Rattle.shared_plain.specs.PlainHistory.{Step, call_in, calls_counted, front_of, item_at, listed, items_from, items_by, times_by}
use Rattle.shared_plain.proofs.Items.{count-append, items-append}

pub take_front : {A : Type 0} (xs ys : List A) → take (length xs) (xs ++ ys) ≡ xs
take_front [] [] = refl
take_front [] (y ∷ ys) = refl
take_front (x ∷ xs) ys = ap (λ l. x ∷ l) (take_front xs ys)

-- the entries of a caller in two journals, one after the other
pub by-append : (c : ℕ) (xs ys : List Step) → by c (xs ++ ys) ≡ by c xs ++ by c ys
by-append c [] ys = refl
by-append c (x ∷ xs) ys = by_caller (eqb x.caller c) (by-append c xs ys)
  where
    by_caller : (b : Bool) → by c (xs ++ ys) ≡ by c xs ++ by c ys → cond b (x ∷ by c (xs ++ ys)) (by c (xs ++ ys)) ≡ cond b (x ∷ by c xs) (by c xs) ++ by c ys
    by_caller true same = ap (λ (l : List Step). x ∷ l) same
    by_caller false same = same

-- a caller without entries has no calls
pub no_items : (n c : ℕ) (before xs : List Step) → by c xs ≡ [] → items_from n c before xs ≡ []
no_items n c before [] none = refl
no_items n c before (x ∷ xs) none = by_caller (eqb x.caller c) refl none (λ e. no_items n c (before ++ x ∷ []) xs e)
  where
    later : List Item
    later = items_from n c (before ++ x ∷ []) xs

    skipped : (found : Option (SharedCall × Answered)) → eqb x.caller c ≡ false → later ≡ [] → listed n c before x found later ≡ []
    skipped None other rest = rest
    skipped (Some did) other rest = ap (λ (b : Bool). cond b (item_at n before x.knew did ∷ later) later) other ∙ rest

    by_caller : (b : Bool) → eqb x.caller c ≡ b → cond b (x ∷ by c xs) (by c xs) ≡ [] → (by c xs ≡ [] → later ≡ []) → listed n c before x (call_in x.deed) later ≡ []
    by_caller true is e rest = (cc)
    by_caller false is e rest = skipped (call_in x.deed) is (rest e)

pub nothing_more : (front rest : List Step) → front ++ rest ≡ front → rest ≡ []
nothing_more [] rest e = e
nothing_more (x ∷ xs) rest e = nothing_more xs rest (let same : x ∷ (xs ++ rest) ≡ x ∷ xs = e in (cc))

-- a caller's calls stay what they were where it made no more entries
pub kept_items : (n c : ℕ) (old new : List Step) → Begins new old → by c new ≡ by c old → items_by n c new ≡ items_by n c old
kept_items n c old new begins same =
    let rest : List Step = begins.0 in
    let none : by c rest ≡ [] = nothing_more (by c old) (by c rest) (sym (by-append c old rest) ∙ (ap (by c) (sym begins.1) ∙ same)) in
    ap (items_by n c) begins.1 ∙ (items-append n c [] old rest ∙ (ap (λ l. items_by n c old ++ l) (no_items n c old rest none) ∙ append-nil (items_by n c old)))

at_most : (n from i : ℕ) (f g : ℕ → ℕ) → ((c : ℕ) → f c ≤ g c) → get_or (map f (range_with_len from n)) i 0 ≤ get_or (map g (range_with_len from n)) i 0
at_most zero from i f g each = omega arith
at_most (suc n) from zero f g each = each from
at_most (suc n) from (suc i) f g each = at_most n (from + 1) i f g each

-- who has seen more knows at least as much
pub rises : (n : ℕ) (old new : List Step) → Begins new old → AtLeast (front_of n new) (front_of n old)
rises n old new begins c = at_most n 0 c (λ d. calls_counted d old) (λ d. calls_counted d new) (λ d. let more = count-append d old begins.0 in let same = ap (calls_counted d) begins.1 in omega arith)

held_on : (new old : Mark) (found : Option (List Step)) → number_of new.pass ≡ number_of old.pass → new.callers ≡ old.callers → new.spare ≡ old.spare
    → ((own : List Step) → found ≡ Some own → items_by old.callers (number_of old.pass) (seen_by new.pass) ≡ items_by old.callers (number_of old.pass) (seen_by old.pass)) → ((own : List Step) → found ≡ Some own → times_by (number_of new.pass) (seen_by new.pass) ≡ times_by (number_of old.pass) (seen_by old.pass)) → holding new found ≡ holding old found
held_on new old None number callers spare items times = refl
held_on new old (Some own) number callers spare items times = λ i. Some (record {
  times = times own refl i;
  number = number i;
  items = (ap (λ (z : ℕ × ℕ). items_by z.0 z.1 (seen_by new.pass)) (λ j. (callers j, number j)) ∙ items own refl) i;
  spare = spare i;
})

-- the holder and its calls stay
pub same_own : (new old : Mark) → held_by new.pass ≡ held_by old.pass → number_of new.pass ≡ number_of old.pass → new.callers ≡ old.callers → new.spare ≡ old.spare
    → ((own : List Step) → held_by old.pass ≡ Some own → items_by old.callers (number_of old.pass) (seen_by new.pass) ≡ items_by old.callers (number_of old.pass) (seen_by old.pass)) → ((own : List Step) → held_by old.pass ≡ Some own → times_by (number_of new.pass) (seen_by new.pass) ≡ times_by (number_of old.pass) (seen_by old.pass)) → own_by new ≡ own_by old
same_own new old held number callers spare items times = ap (holding new) held ∙ held_on new old (held_by old.pass) number callers spare items times
