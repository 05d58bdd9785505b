-- Journals of one kind with their fronts, and without them.
use Rattle.std.proofs.Common.{◌≡◌, ℕ, zero, suc, ◌≤◌, Bool, true, List, [], ◌∷◌, map, length, Option, None, Some, slice_get, slice_index, refl, sym, ap, ◌∙◌, subst, arith}
use Rattle.std.specs.Prelude.{drop}
use Rattle.std.proofs.lemmas.Option.{none-some, same_Some}
use Rattle.sync_types.specs.declared.misuse.Misuse.{Misuse}
use Rattle.sync_model.specs.declared.journal.Deed.{Deed}
use Rattle.sync_model.specs.declared.journal.Deed.TheVariants.{Event, Refused, Halt}
use Rattle.sync_model.specs.declared.journal.Entry.{Entry}
use Rattle.sync_model.specs.Journal.{is_such, halt_next, state_next, Follows, KeepsEdges}
use Rattle.run_record.specs.declared.entered.ObjectEvent.{ObjectEvent}
use Rattle.run_record.specs.declared.entered.ObjectReply.{ObjectReply}
use Rattle.run_record.specs.Journals.{FollowsFrom}
use Rattle.run_record.specs.Parts.{lifted, lifted_deed}
use Rattle.run_record.specs.Record.{ObjectEntry}
use Rattle.record_clauses.specs.Journals.{without_fronts}

-- entries with another front
abbrev with_front : {E R : Type 0} → List ℕ → Entry E R → Entry E R
with_front front x = record x { front = front }

pub first_same : {A : Type 0} (x y : A) (xs ys : List A) → x ∷ xs ≡ y ∷ ys → x ≡ y
first_same {A} x y xs ys same = same_Some x y (ap (λ (l : List A). slice_get l 0) same)

pub rest_same : {A : Type 0} (x y : A) (xs ys : List A) → x ∷ xs ≡ y ∷ ys → xs ≡ ys
rest_same {A} x y xs ys same = ap (λ (l : List A). drop 1 l) same

pub no_more : {A : Type 0} (x : A) (xs : List A) → x ∷ xs ≡ [] → ⊥
no_more {A} x xs same = let long = ap (λ (l : List A). length l) same in omega (arith, long)

-- an empty journal stays empty
pub none_left : (journal : List ObjectEntry) → without_fronts journal ≡ [] → journal ≡ []
none_left [] is = refl
none_left (x ∷ journal) is = absurd (no_more (with_front [] x) (without_fronts journal) is)

module _ {E R : Type 0} where
  -- entries with the fronts of a journal
  abbrev fronted : List ObjectEntry → List (Entry E R) → List (Entry E R)
  fronted [] own = []
  fronted (x ∷ journal) [] = []
  fronted (x ∷ journal) (y ∷ own) = with_front x.front y ∷ fronted journal own

  -- entries without fronts
  abbrev bare : List (Entry E R) → List (Entry E R)
  bare [] = []
  bare (y ∷ own) = with_front [] y ∷ bare own

  bare_at : (own : List (Entry E R)) (i : ℕ) (x : Entry E R) → slice_get (bare own) i ≡ Some x → x.front ≡ []
  bare_at [] i x at = absurd (none-some x at)
  bare_at (y ∷ own) zero x at = ap (λ (e : Entry E R). e.front) (sym (same_Some (with_front [] y) x at))
  bare_at (y ∷ own) (suc i) x at = bare_at own i x at

  -- they keep every edge
  bare_edges : (frees takes : E → R → Bool) (own : List (Entry E R)) → KeepsEdges frees takes (bare own)
  bare_edges frees takes own i j x y before at_x at_y is_x is_y caller =
      subst (λ (front : List ℕ). slice_index front caller ≤ slice_index y.front caller) (sym (bare_at own i x at_x)) (omega arith)

  -- a machine sees no fronts
  module _ {S : Type 0} (next : S → ℕ → E → S × R) where
    follows_bare : (s : S) (h : Option Misuse) (own : List (Entry E R)) → Follows next true s h own → Follows next true s h (bare own)
    follows_bare s h [] follows = tt
    follows_bare s h (y ∷ own) follows = (follows.0, follows_bare (state_next next s y.caller y.deed) (halt_next h y.deed) own follows.1)

    follows_fronted : (s : S) (h : Option Misuse) (journal : List ObjectEntry) (own : List (Entry E R)) → Follows next true s h own → Follows next true s h (fronted journal own)
    follows_fronted s h [] own follows = tt
    follows_fronted s h (x ∷ journal) [] follows = tt
    follows_fronted s h (x ∷ journal) (y ∷ own) follows = (follows.0, follows_fronted (state_next next s y.caller y.deed) (halt_next h y.deed) journal own follows.1)

  module _ (event : E → ObjectEvent) (reply : R → ObjectReply) where
    such : (test : ObjectEvent → ObjectReply → Bool) (d : Deed E R) → is_such test (lifted_deed event reply d) ≡ is_such (λ e r. test (event e) (reply r)) d
    such test (Event e r) = refl
    such test (Refused e m) = refl
    such test (Halt m) = refl

    lifted_at : (own : List (Entry E R)) (i : ℕ) (y : Entry E R) → slice_get own i ≡ Some y → slice_get (map (lifted event reply) own) i ≡ Some (lifted event reply y)
    lifted_at [] i y at = absurd (none-some y at)
    lifted_at (x ∷ own) zero y at = ap (λ (e : Entry E R). Some (lifted event reply e)) (same_Some x y at)
    lifted_at (x ∷ own) (suc i) y at = lifted_at own i y at

    -- the edge law, in the words of the kind
    own_edges : (frees takes : ObjectEvent → ObjectReply → Bool) (own : List (Entry E R)) → KeepsEdges frees takes (map (lifted event reply) own)
        → KeepsEdges (λ e r. frees (event e) (reply r)) (λ e r. takes (event e) (reply r)) own
    own_edges frees takes own keeps i j x y before at_x at_y is_x is_y =
        keeps i j (lifted event reply x) (lifted event reply y) before (lifted_at own i x at_x) (lifted_at own j y at_y) (such frees x.deed ∙ is_x) (such takes y.deed ∙ is_y)

    one_fronted : (x : ObjectEntry) (y : Entry E R) → with_front [] x ≡ lifted event reply y → x ≡ lifted event reply (with_front x.front y)
    one_fronted x y same = ap (λ (e : ObjectEntry). with_front x.front e) same

    all_fronted : (journal : List ObjectEntry) (own : List (Entry E R)) → without_fronts journal ≡ map (lifted event reply) own → journal ≡ map (lifted event reply) (fronted journal own)
    all_fronted [] own same = refl
    all_fronted (x ∷ journal) [] same = absurd (no_more (with_front [] x) (without_fronts journal) same)
    all_fronted (x ∷ journal) (y ∷ own) same =
        ap (λ (e : ObjectEntry). e ∷ journal) (one_fronted x y (first_same (with_front [] x) (lifted event reply y) (without_fronts journal) (map (lifted event reply) own) same))
        ∙ ap (λ (es : List ObjectEntry). lifted event reply (with_front x.front y) ∷ es) (all_fronted journal own (rest_same (with_front [] x) (lifted event reply y) (without_fronts journal) (map (lifted event reply) own) same))

    all_bare : (own : List (Entry E R)) → without_fronts (map (lifted event reply) own) ≡ map (lifted event reply) (bare own)
    all_bare [] = refl
    all_bare (y ∷ own) = ap (λ (es : List ObjectEntry). lifted event reply (with_front [] y) ∷ es) (all_bare own)

    module _ {S : Type 0} (next : S → ℕ → E → S × R) (start : S) where
      -- a journal of an object is one without its fronts, too
      pub set_aside : (frees takes : E → R → Bool) (journal : List ObjectEntry) → FollowsFrom event reply next frees takes start journal → FollowsFrom event reply next frees takes start (without_fronts journal)
      set_aside frees takes journal is = (bare is.0, ap (λ (es : List ObjectEntry). without_fronts es) is.1 ∙ all_bare is.0, follows_bare next start None is.0 is.2, bare_edges frees takes is.0)

      -- and one without its fronts is one with them, where they keep the edge law
      pub put_back : (frees takes : ObjectEvent → ObjectReply → Bool) (some other : E → R → Bool) (journal : List ObjectEntry) → FollowsFrom event reply next some other start (without_fronts journal) → KeepsEdges frees takes journal
          → FollowsFrom event reply next (λ e r. frees (event e) (reply r)) (λ e r. takes (event e) (reply r)) start journal
      put_back frees takes some other journal is keeps =
          let same = all_fronted journal is.0 is.1 in
          (fronted journal is.0, same, follows_fronted next start None journal is.0 is.2, own_edges frees takes (fronted journal is.0) (subst (KeepsEdges frees takes) same keeps))

      -- what a machine sees of a journal without its fronts, and of one with them, is the same
      abbrev pub FollowsMachine : List ObjectEntry → Type 0
      FollowsMachine journal = (own : List (Entry E R)) × (journal ≡ map (lifted event reply) own) × Follows next true start None own

      pub seen : (frees takes : E → R → Bool) (journal : List ObjectEntry) → FollowsFrom event reply next frees takes start (without_fronts journal) → FollowsMachine journal
      seen frees takes journal is = (fronted journal is.0, all_fronted journal is.0 is.1, follows_fronted next start None journal is.0 is.2)

      pub unseen : (frees takes : E → R → Bool) (journal : List ObjectEntry) → FollowsMachine journal → FollowsFrom event reply next frees takes start (without_fronts journal)
      unseen frees takes journal is = (bare is.0, ap (λ (es : List ObjectEntry). without_fronts es) is.1 ∙ all_bare is.0, follows_bare next start None is.0 is.2, bare_edges frees takes is.0)
