-- A journal, and the log of what the machine took.
use Rattle.std.proofs.Common.{◌≡◌, ℕ, suc, Bool, true, false, cond, ◌||◌, List, [], ◌∷◌, ◌++◌, length, refl, sym, ap, ◌∙◌}
use Rattle.std.specs.List.{list_any}
use Rattle.std.specs.Prelude.{filter}
use Rattle.std.proofs.lemmas.Bool.{false≢true}
use Rattle.sync_model.specs.declared.journal.Deed.{Deed}
use Rattle.sync_model.specs.declared.journal.Deed.TheVariants.{Event, Refused, Halt}
use Rattle.sync_model.specs.declared.journal.Entry.{Entry}
use Rattle.sync_model.specs.Log as log
use Rattle.sync_model.specs.Journal.{logged, log_of, is_such, state_next, state_after}

length-choice : {A : Type 0} (b : Bool) (x : A) (xs : List A) → length (cond b (x ∷ xs) xs) ≡ cond b (suc (length xs)) (length xs)
length-choice true x xs = refl
length-choice false x xs = refl

module _ {E R : Type 0} where
  logged-append : (c : ℕ) (d : Deed E R) (xs ys : List (log.Entry E R)) → logged c d (xs ++ ys) ≡ logged c d xs ++ ys
  logged-append c (Event e r) xs ys = refl
  logged-append c (Refused e m) xs ys = refl
  logged-append c (Halt m) xs ys = refl

  pub log_of-append : (xs ys : List (Entry E R)) → log_of (xs ++ ys) ≡ log_of xs ++ log_of ys
  log_of-append [] ys = refl
  log_of-append (x ∷ xs) ys = ap (λ (z : List (log.Entry E R)). logged x.caller x.deed z) (log_of-append xs ys) ∙ logged-append x.caller x.deed (log_of xs) (log_of ys)

  -- an entry that passes a test is an event that the machine took
  pub record Took (test : E → R → Bool) (x : Entry E R) : Type 0 where
    pub event : E
    pub reply : R
    pub deed : x.deed ≡ Event event reply
    pub passes : test event reply ≡ true

  took-by : (test : E → R → Bool) (x : Entry E R) (d : Deed E R) → x.deed ≡ d → is_such test d ≡ true → Took test x
  took-by test x (Event e r) is such = record { event = e; reply = r; deed = is; passes = such }
  took-by test x (Refused e m) is such = absurd (false≢true such)
  took-by test x (Halt m) is such = absurd (false≢true such)

  pub took : (test : E → R → Bool) (x : Entry E R) → is_such test x.deed ≡ true → Took test x
  took test x such = took-by test x x.deed refl such

  pub log_of-event : (x : Entry E R) (xs : List (Entry E R)) (e : E) (r : R) → x.deed ≡ Event e r → log_of (x ∷ xs) ≡ log.entry x.caller e r ∷ log_of xs
  log_of-event x xs e r is = ap (λ (d : Deed E R). logged x.caller d (log_of xs)) is

  any_logged : (test : E → R → Bool) (c : ℕ) (d : Deed E R) (l : List (log.Entry E R)) → list_any (λ e. test e.event e.reply) (logged c d l) ≡ (is_such test d || list_any (λ e. test e.event e.reply) l)
  any_logged test c (Event e r) l = refl
  any_logged test c (Refused e m) l = refl
  any_logged test c (Halt m) l = refl

  -- some entry of the journal passes where one of the log does
  pub any_of-log : (test : E → R → Bool) (xs : List (Entry E R)) → list_any (λ e. test e.event e.reply) (log_of xs) ≡ list_any (λ x. is_such test x.deed) xs
  any_of-log test [] = refl
  any_of-log test (x ∷ xs) = any_logged test x.caller x.deed (log_of xs) ∙ ap (λ (b : Bool). is_such test x.deed || b) (any_of-log test xs)

module _ {S E R : Type 0} (next : S → ℕ → E → S × R) where
  after-logged : (s : S) (c : ℕ) (d : Deed E R) (l : List (log.Entry E R)) → log.after next s (logged c d l) ≡ log.after next (state_next next s c d) l
  after-logged s c (Event e r) l = refl
  after-logged s c (Refused e m) l = refl
  after-logged s c (Halt m) l = refl

  pub after-log : (s : S) (xs : List (Entry E R)) → log.after next s (log_of xs) ≡ state_after next s xs
  after-log s [] = refl
  after-log s (x ∷ xs) = after-logged s x.caller x.deed (log_of xs) ∙ after-log (state_next next s x.caller x.deed) xs

module _ {E R : Type 0} where
  -- the log of a journal with two such entries
  pub log_of-two : (earlier between later : List (Entry E R)) (first second : Entry E R) (e f : E) (r s : R) → first.deed ≡ Event e r → second.deed ≡ Event f s
      → log_of (earlier ++ first ∷ (between ++ second ∷ later)) ≡ log_of earlier ++ log.entry first.caller e r ∷ (log_of between ++ log.entry second.caller f s ∷ log_of later)
  log_of-two earlier between later first second e f r s at_first at_second =
      log_of-append earlier (first ∷ (between ++ second ∷ later))
      ∙ ap (λ (z : List (log.Entry E R)). log_of earlier ++ z) (log_of-event first (between ++ second ∷ later) e r at_first
      ∙ ap (λ (z : List (log.Entry E R)). log.entry first.caller e r ∷ z) (log_of-append between (second ∷ later)
      ∙ ap (λ (z : List (log.Entry E R)). log_of between ++ z) (log_of-event second later f s at_second)))

  pub log_of-one : (earlier later : List (Entry E R)) (x : Entry E R) (e : E) (r : R) → x.deed ≡ Event e r → log_of (earlier ++ x ∷ later) ≡ log_of earlier ++ log.entry x.caller e r ∷ log_of later
  log_of-one earlier later x e r is = log_of-append earlier (x ∷ later) ∙ ap (λ (z : List (log.Entry E R)). log_of earlier ++ z) (log_of-event x later e r is)

  pub log_of-between : (earlier between later : List (Entry E R)) (second : Entry E R) (f : E) (s : R) → second.deed ≡ Event f s → log_of (earlier ++ (between ++ second ∷ later)) ≡ log_of earlier ++ (log_of between ++ log.entry second.caller f s ∷ log_of later)
  log_of-between earlier between later second f s is = log_of-append earlier (between ++ second ∷ later) ∙ ap (λ (z : List (log.Entry E R)). log_of earlier ++ z) (log_of-one between later second f s is)

  count_logged : (test : E → R → Bool) (c : ℕ) (d : Deed E R) (l : List (log.Entry E R)) → length (filter (λ e. test e.event e.reply) (logged c d l)) ≡ cond (is_such test d) (suc (length (filter (λ e. test e.event e.reply) l))) (length (filter (λ e. test e.event e.reply) l))
  count_logged test c (Event e r) l = length-choice (test e r) (log.entry c e r) (filter (λ x. test x.event x.reply) l)
  count_logged test c (Refused e m) l = refl
  count_logged test c (Halt m) l = refl

  -- as many entries of the journal pass as of the log
  pub count_of-log : (test : E → R → Bool) (xs : List (Entry E R)) → length (filter (λ e. test e.event e.reply) (log_of xs)) ≡ length (filter (λ x. is_such test x.deed) xs)
  count_of-log test [] = refl
  count_of-log test (x ∷ xs) =
      count_logged test x.caller x.deed (log_of xs)
      ∙ (ap (λ (n : ℕ). cond (is_such test x.deed) (suc n) n) (count_of-log test xs) ∙ sym (length-choice (is_such test x.deed) x (filter (λ y. is_such test y.deed) xs)))
