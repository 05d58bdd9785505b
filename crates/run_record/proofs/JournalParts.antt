-- Journals cut at two entries, and what their logs show.
use Rattle.std.proofs.Common.{◌≡◌, ℕ, zero, suc, ◌<◌, Bool, true, false, ◌||◌, List, [], ◌∷◌, ◌++◌, length, Some, slice_get, refl, sym, ap, ◌∙◌, subst, arith}
use Rattle.std.specs.Prelude.{IsTrue}
use Rattle.std.specs.List.{list_any}
use Rattle.std.proofs.lemmas.Bool.{false≢true}
use Rattle.std.proofs.lemmas.Option.{none-some, same_Some, slice_get_within}
use Rattle.sync_model.specs.declared.journal.Deed.{Deed}
use Rattle.sync_model.specs.declared.journal.Deed.TheVariants.{Event, Refused, Halt}
use Rattle.sync_model.specs.declared.journal.Entry.{Entry}
use Rattle.sync_model.specs.Journal.{is_such, logged, log_of}
use Rattle.sync_model.specs.Log as log

module _ {A : Type 0} where
  pub get_left : (xs ys : List A) (i : ℕ) (x : A) → slice_get xs i ≡ Some x → slice_get (xs ++ ys) i ≡ Some x
  get_left [] ys i x at = absurd (none-some x at)
  get_left (z ∷ xs) ys zero x at = at
  get_left (z ∷ xs) ys (suc i) x at = get_left xs ys i x at

  -- a list at two of its places
  pub record IsCut (xs : List A) (m n : ℕ) (x y : A) : Type 0 where
    pub front : List A
    pub mid : List A
    pub rest : List A
    pub parts : xs ≡ front ++ x ∷ (mid ++ y ∷ rest)
    -- what stands between them is at a place between
    pub inner : (k : ℕ) (z : A) → slice_get mid k ≡ Some z → (i : ℕ) × (slice_get xs i ≡ Some z) × (m < i) × (i < n)

  -- a list at one of its places
  abbrev pub CutAt : List A → ℕ → A → Type 0
  CutAt xs n y = (front : List A) × (rest : List A) × (xs ≡ front ++ y ∷ rest) × (length front ≡ n)

  pub cut_one : (xs : List A) (n : ℕ) (y : A) → slice_get xs n ≡ Some y → CutAt xs n y
  cut_one [] n y at = absurd (none-some y at)
  cut_one (x ∷ xs) zero y at = ([], xs, ap (λ z. z ∷ xs) (same_Some x y at), refl)
  cut_one (x ∷ xs) (suc n) y at = let c = cut_one xs n y at in (x ∷ c.0, c.1, ap (λ zs. x ∷ zs) c.2, ap suc c.3)

  pub cut_two : (xs : List A) (m n : ℕ) (x y : A) → m < n → slice_get xs m ≡ Some x → slice_get xs n ≡ Some y → IsCut xs m n x y
  cut_two [] m n x y before at_x at_y = absurd (none-some x at_x)
  cut_two (z ∷ xs) m zero x y before at_x at_y = absurd (omega (arith, before))
  cut_two (z ∷ xs) zero (suc n) x y before at_x at_y = first (cut_one xs n y at_y) where
    first : CutAt xs n y → IsCut (z ∷ xs) zero (suc n) x y
    first (mid, rest, parts, long) = record {
      front = [];
      mid = mid;
      rest = rest;
      parts = ap (λ h. h ∷ xs) (same_Some z x at_x) ∙ ap (λ t. x ∷ t) parts;
      inner = λ k w at. let within = slice_get_within mid k w at in (suc k, subst (λ t. slice_get t k ≡ Some w) (sym parts) (get_left mid (y ∷ rest) k w at), omega arith, omega (arith, within, long));
    }
  cut_two (z ∷ xs) (suc m) (suc n) x y before at_x at_y =
      let c = cut_two xs m n x y (omega (arith, before)) at_x at_y in
      record {
        front = z ∷ c.front;
        mid = c.mid;
        rest = c.rest;
        parts = ap (λ t. z ∷ t) c.parts;
        inner = λ k w at. let found = c.inner k w at in let above = found.2 in let below = found.3 in (suc found.0, found.1, omega (arith, above), omega (arith, below));
      }

module _ {E R : Type 0} where
  pub log_both : (xs ys : List (Entry E R)) → log_of (xs ++ ys) ≡ log_of xs ++ log_of ys
  log_both [] ys = refl
  log_both (x ∷ xs) ys = by_deed x.deed (log_both xs ys) where
    by_deed : (d : Deed E R) → log_of (xs ++ ys) ≡ log_of xs ++ log_of ys → logged x.caller d (log_of (xs ++ ys)) ≡ logged x.caller d (log_of xs) ++ log_of ys
    by_deed (Event e r) is = ap (λ (l : List (log.Entry E R)). log.entry x.caller e r ∷ l) is
    by_deed (Refused e m) is = is
    by_deed (Halt m) is = is

  log_first : (x : Entry E R) (xs : List (Entry E R)) (e : E) (r : R) → x.deed ≡ Event e r → log_of (x ∷ xs) ≡ log.entry x.caller e r ∷ log_of xs
  log_first x xs e r is = ap (λ (d : Deed E R). logged x.caller d (log_of xs)) is

  -- the log of a journal that is cut at an event, and at two
  pub log_at : (front rest : List (Entry E R)) (x : Entry E R) (e : E) (r : R) → x.deed ≡ Event e r → log_of (front ++ x ∷ rest) ≡ log_of front ++ log.entry x.caller e r ∷ log_of rest
  log_at front rest x e r is = log_both front (x ∷ rest) ∙ ap (λ (l : List (log.Entry E R)). log_of front ++ l) (log_first x rest e r is)

  pub log_cut : (front mid rest : List (Entry E R)) (x y : Entry E R) (e f : E) (r s : R) → x.deed ≡ Event e r → y.deed ≡ Event f s
      → log_of (front ++ x ∷ (mid ++ y ∷ rest)) ≡ log_of front ++ log.entry x.caller e r ∷ (log_of mid ++ log.entry y.caller f s ∷ log_of rest)
  log_cut front mid rest x y e f r s is_x is_y =
      log_both front (x ∷ (mid ++ y ∷ rest))
      ∙ ap (λ (l : List (log.Entry E R)). log_of front ++ l)
      (log_first x (mid ++ y ∷ rest) e r is_x
      ∙ ap (λ (l : List (log.Entry E R)). log.entry x.caller e r ∷ l) (log_both mid (y ∷ rest) ∙ ap (λ (l : List (log.Entry E R)). log_of mid ++ l) (log_first y rest f s is_y)))

  -- an entry of which a test is true
  pub record HasSuch (test : E → R → Bool) (xs : List (Entry E R)) : Type 0 where
    pub at : ℕ
    pub entry : Entry E R
    pub is : slice_get xs at ≡ Some entry
    pub such : is_such test entry.deed ≡ true

  module _ (test : E → R → Bool) where
    later_such : (x : Entry E R) (xs : List (Entry E R)) → HasSuch test xs → HasSuch test (x ∷ xs)
    later_such x xs has = record { at = suc has.at; entry = has.entry; is = has.is; such = has.such }

    pub logged_such : (xs : List (Entry E R)) → IsTrue (list_any (λ e. test e.event e.reply) (log_of xs)) → HasSuch test xs
    logged_such [] any = absurd (false≢true any)
    logged_such (x ∷ xs) any = by_deed (λ rest. logged_such xs rest) x.deed refl any where
      by_test : (IsTrue (list_any (λ e. test e.event e.reply) (log_of xs)) → HasSuch test xs) → (e : E) (r : R) (b : Bool) → test e r ≡ b → x.deed ≡ Event e r → (b || list_any (λ e. test e.event e.reply) (log_of xs)) ≡ true → HasSuch test (x ∷ xs)
      by_test later e r true such is any = record { at = zero; entry = x; is = refl; such = ap (is_such test) is ∙ such }
      by_test later e r false such is any = later_such x xs (later any)

      by_deed : (IsTrue (list_any (λ e. test e.event e.reply) (log_of xs)) → HasSuch test xs) → (d : Deed E R) → x.deed ≡ d → IsTrue (list_any (λ e. test e.event e.reply) (logged x.caller d (log_of xs))) → HasSuch test (x ∷ xs)
      by_deed later (Event e r) is any = by_test later e r (test e r) refl is any
      by_deed later (Refused e m) is any = later_such x xs (later any)
      by_deed later (Halt m) is any = later_such x xs (later any)
