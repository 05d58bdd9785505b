-- What the first part of a list counts hangs on what it asks and answers alone, and where an entry stands.
use Rattle.std.proofs.Common.{◌≡◌, ℕ, zero, suc, ◌<◌, ◌==◌, Bool, true, false, cond, List, [], ◌∷◌, ◌++◌, map, length, take, Some, slice_get, refl, sym, ap, ◌∙◌, subst, append_assoc, arith}
use Rattle.std.proofs.lemmas.Bool.{eq-eqb}
use Rattle.std.proofs.lemmas.List.{map-append}
use Rattle.std.proofs.lemmas.Option.{none-some, same_Some}
use Rattle.sync_model.specs.declared.item.Item.{Item}
use Rattle.sync_model.specs.declared.journal.Deed.{Deed}
use Rattle.sync_model.specs.Journal.{by}
use Rattle.run_record.specs.declared.entered.ObjectEvent.{ObjectEvent}
use Rattle.run_record.specs.declared.entered.ObjectReply.{ObjectReply}
use Rattle.run_record.specs.declared.made.Made.{Made}
use Rattle.run_record.specs.declared.made.Made.TheVariants.{Shared, Entered}
use Rattle.run_record.specs.Record.{ObjectEntry, shared_in, entries_in}
use Rattle.kept_record.specs.Acts.{bare_made, bare, deed_on, deeds_on, told}
use Rattle.kept_record.specs.Keeping.{Act, Account, made_by, entered, placed, with_made, with_act}

-- ---- lists

module _ {A : Type 0} where
  pub at_seam : (xs : List A) (y : A) (ys : List A) → slice_get (xs ++ y ∷ ys) (length xs) ≡ Some y
  at_seam [] y ys = refl
  at_seam (x ∷ xs) y ys = at_seam xs y ys

  pub map_at : {B : Type 0} (f : A → B) (xs : List A) (i : ℕ) (y : B) → slice_get (map f xs) i ≡ Some y → (x : A) × (slice_get xs i ≡ Some x) × (f x ≡ y)
  map_at f [] i y at = absurd (none-some y at)
  map_at f (x ∷ xs) zero y at = (x, refl, same_Some (f x) y at)
  map_at f (x ∷ xs) (suc i) y at = map_at f xs i y at

  -- each element is one of those before, or the last
  pub each_more : (P : ℕ → A → Type 0) (xs : List A) (y : A) → ((i : ℕ) (x : A) → slice_get xs i ≡ Some x → P i x) → P (length xs) y → (i : ℕ) (x : A) → slice_get (xs ++ y ∷ []) i ≡ Some x → P i x
  each_more P [] y each last zero x at = subst (P 0) (same_Some y x at) last
  each_more P [] y each last (suc i) x at = absurd (none-some x at)
  each_more P (z ∷ xs) y each last zero x at = each 0 x at
  each_more P (z ∷ xs) y each last (suc i) x at = each_more (λ (n : ℕ) (v : A). P (suc n) v) xs y (λ n v is. each (suc n) v is) last i x at

-- ---- what is counted

entries_bare : (w o : ℕ) (list : List Made) → length (entries_in o (map (bare_made w) list)) ≡ length (entries_in o list)
entries_bare w o [] = refl
entries_bare w o (Shared x ∷ list) = entries_bare w o list
entries_bare w o (Entered object entry ∷ list) = chosen (object == o) _ entry (entries_in o (map (bare_made w) list)) (entries_in o list) (entries_bare w o list) where
  chosen : (b : Bool) (first second : ObjectEntry) (left right : List ObjectEntry) → length left ≡ length right → length (cond b (first ∷ left) left) ≡ length (cond b (second ∷ right) right)
  chosen true first second left right same = ap suc same
  chosen false first second left right same = same

pub as_many_entries : (w o : ℕ) (list other : List Made) → map (bare_made w) list ≡ map (bare_made w) other → length (entries_in o list) ≡ length (entries_in o other)
as_many_entries w o list other same = sym (entries_bare w o list) ∙ (ap (λ (l : List Made). length (entries_in o l)) same ∙ entries_bare w o other)

-- how many of these are a worker's
abbrev pub many : ℕ → List (ℕ × Deed ObjectEvent ObjectReply) → ℕ
many w [] = 0
many w (one ∷ more) = cond (one.0 == w) (suc (many w more)) (many w more)

pub by_many : (w : ℕ) (journal : List ObjectEntry) → length (by w journal) ≡ many w (map told journal)
by_many w [] = refl
by_many w (entry ∷ journal) = chosen (entry.caller == w) (by w journal) (many w (map told journal)) (by_many w journal) where
  chosen : (b : Bool) (left : List ObjectEntry) (n : ℕ) → length left ≡ n → length (cond b (entry ∷ left) left) ≡ cond b (suc n) n
  chosen true left n same = ap suc same
  chosen false left n same = same

module _ (w o : ℕ) (list : List Made) (deeds : List (ℕ × Deed ObjectEvent ObjectReply)) (same : length (entries_in o list) ≡ many w deeds) where
  one_more : (worker : ℕ) (made : Made) → length (entries_in o (cond (worker == w) (made ∷ list) list)) ≡ many w (deed_on o worker made ++ deeds)
  one_more worker (Shared x) = chosen (worker == w) where
    chosen : (b : Bool) → length (entries_in o (cond b (Shared x ∷ list) list)) ≡ many w deeds
    chosen true = same
    chosen false = same
  one_more worker (Entered object entry) = left (worker == w) ∙ (middle (worker == w) (object == o) ∙ sym (right (object == o))) where
    first : (b : Bool) (l : List ObjectEntry) → length (cond b (entry ∷ l) l) ≡ cond b (suc (length l)) (length l)
    first true l = refl
    first false l = refl

    left : (b : Bool) → length (entries_in o (cond b (Entered object entry ∷ list) list)) ≡ cond b (cond (object == o) (suc (length (entries_in o list))) (length (entries_in o list))) (length (entries_in o list))
    left true = first (object == o) (entries_in o list)
    left false = refl

    right : (b : Bool) → many w (cond b ((worker, entry.deed) ∷ []) [] ++ deeds) ≡ cond b (cond (worker == w) (suc (many w deeds)) (many w deeds)) (many w deeds)
    right true = refl
    right false = refl

    middle : (mine here : Bool) → cond mine (cond here (suc (length (entries_in o list))) (length (entries_in o list))) (length (entries_in o list)) ≡ cond here (cond mine (suc (many w deeds)) (many w deeds)) (many w deeds)
    middle true true = ap suc same
    middle true false = same
    middle false true = same
    middle false false = same

pub made_many : (w o : ℕ) (acts : List Act) → length (entries_in o (made_by w acts)) ≡ many w (deeds_on o acts)
made_many w o [] = refl
made_many w o (act ∷ acts) = one_more w o (made_by w acts) (deeds_on o acts) (made_many w o acts) act.worker act.made

-- a first part that reaches past a call has more of them
pub one_more_shared : (list : List Made) (i j : ℕ) (x : Item) → slice_get list i ≡ Some (Shared x) → i < j → length (shared_in (take i list)) < length (shared_in (take j list))
one_more_shared list i zero x at less = absurd (omega arith)
one_more_shared [] i (suc j) x at less = absurd (none-some (Shared x) at)
one_more_shared (made ∷ list) zero (suc j) x at less = subst (λ (one : Made). 0 < length (shared_in (one ∷ take j list))) (sym (same_Some made (Shared x) at)) (omega arith)
one_more_shared (Shared y ∷ list) (suc i) (suc j) x at less = let more : length (shared_in (take i list)) < length (shared_in (take j list)) = one_more_shared list i j x at (omega arith) in omega arith
one_more_shared (Entered object entry ∷ list) (suc i) (suc j) x at less = one_more_shared list i j x at (omega arith)

-- ---- where an entry stands

same_number : (n : ℕ) → (n == n) ≡ true
same_number n = eq-eqb n n refl

behind : (b : Bool) (first entry : ObjectEntry) (all some : List ObjectEntry) → slice_get all (length some) ≡ Some entry → slice_get (cond b (first ∷ all) all) (length (cond b (first ∷ some) some)) ≡ Some entry
behind true first entry all some at = at
behind false first entry all some at = at

-- an entry of a list, among those on its object
pub entry_stands : (o : ℕ) (list : List Made) (i : ℕ) (entry : ObjectEntry) → slice_get list i ≡ Some (Entered o entry) → slice_get (entries_in o list) (length (entries_in o (take i list))) ≡ Some entry
entry_stands o [] i entry at = absurd (none-some (Entered o entry) at)
entry_stands o (made ∷ list) zero entry at = subst (λ (one : Made). slice_get (entries_in o (one ∷ list)) 0 ≡ Some entry) (sym (same_Some made (Entered o entry) at))
    (ap (λ (b : Bool). slice_get (cond b (entry ∷ entries_in o list) (entries_in o list)) 0) (same_number o))
entry_stands o (Shared x ∷ list) (suc i) entry at = entry_stands o list i entry at
entry_stands o (Entered object first ∷ list) (suc i) entry at = behind (object == o) first entry (entries_in o list) (entries_in o (take i list)) (entry_stands o list i entry at)

-- an entry of a journal, among those of its caller
pub caller_stands : (w : ℕ) (journal : List ObjectEntry) (i : ℕ) (entry : ObjectEntry) → slice_get journal i ≡ Some entry → entry.caller ≡ w → slice_get (by w journal) (length (by w (take i journal))) ≡ Some entry
caller_stands w [] i entry at calls = absurd (none-some entry at)
caller_stands w (first ∷ journal) zero entry at calls = subst (λ (one : ObjectEntry). slice_get (by w (one ∷ journal)) 0 ≡ Some entry) (sym (same_Some first entry at))
    (ap (λ (b : Bool). slice_get (cond b (entry ∷ by w journal) (by w journal)) 0) (ap (λ (n : ℕ). n == w) calls ∙ same_number w))
caller_stands w (first ∷ journal) (suc i) entry at calls = behind (first.caller == w) first entry (by w journal) (by w (take i journal)) (caller_stands w journal i entry at calls)

-- ---- what acts ask and answer

bare_again : (w worker : ℕ) (made : Made) → bare_made w (bare_made worker made) ≡ bare_made w made
bare_again w worker (Shared x) = refl
bare_again w worker (Entered object entry) = refl

pub bare_lists : (w : ℕ) (acts : List Act) → map (bare_made w) (made_by w (map bare acts)) ≡ map (bare_made w) (made_by w acts)
bare_lists w [] = refl
bare_lists w (act ∷ acts) = chosen (act.worker == w) (made_by w (map bare acts)) (made_by w acts) (bare_lists w acts) where
  chosen : (b : Bool) (left right : List Made) → map (bare_made w) left ≡ map (bare_made w) right → map (bare_made w) (cond b (bare_made act.worker act.made ∷ left) left) ≡ map (bare_made w) (cond b (act.made ∷ right) right)
  chosen true left right same = ap (λ (one : Made). one ∷ map (bare_made w) left) (bare_again w act.worker act.made) ∙ ap (λ (l : List Made). bare_made w act.made ∷ l) same
  chosen false left right same = same

pub made_by-append : (w : ℕ) (acts more : List Act) → made_by w (acts ++ more) ≡ made_by w acts ++ made_by w more
made_by-append w [] more = refl
made_by-append w (act ∷ acts) more = chosen (act.worker == w) (made_by w (acts ++ more)) (made_by w acts) (made_by-append w acts more) where
  chosen : (b : Bool) (left right : List Made) → left ≡ right ++ made_by w more → cond b (act.made ∷ left) left ≡ cond b (act.made ∷ right) right ++ made_by w more
  chosen true left right is = ap (λ (l : List Made). act.made ∷ l) is
  chosen false left right is = is

bare_deed : (o worker : ℕ) (made : Made) → deed_on o worker (bare_made worker made) ≡ deed_on o worker made
bare_deed o worker (Shared x) = refl
bare_deed o worker (Entered object entry) = refl

pub bare_deeds : (o : ℕ) (acts : List Act) → deeds_on o (map bare acts) ≡ deeds_on o acts
bare_deeds o [] = refl
bare_deeds o (act ∷ acts) = ap (λ (l : List (ℕ × Deed ObjectEvent ObjectReply)). l ++ deeds_on o (map bare acts)) (bare_deed o act.worker act.made)
    ∙ ap (λ (l : List (ℕ × Deed ObjectEvent ObjectReply)). deed_on o act.worker act.made ++ l) (bare_deeds o acts)

pub deeds_on-append : (o : ℕ) (acts more : List Act) → deeds_on o (acts ++ more) ≡ deeds_on o acts ++ deeds_on o more
deeds_on-append o [] more = refl
deeds_on-append o (act ∷ acts) more = ap (λ (l : List (ℕ × Deed ObjectEvent ObjectReply)). deed_on o act.worker act.made ++ l) (deeds_on-append o acts more)
    ∙ sym (append_assoc (deed_on o act.worker act.made) (deeds_on o acts) (deeds_on o more))

-- with one act more
bare_act : (worker : ℕ) (made : Made) (kept : Account) → map bare (with_made worker made kept).acts ≡ map bare kept.acts ++ bare (record { worker = worker; made = made }) ∷ []
bare_act worker (Shared x) kept = map-append bare kept.acts (record { worker = worker; made = Shared (placed worker x kept) } ∷ [])
bare_act worker (Entered object entry) kept = map-append bare kept.acts (record { worker = worker; made = Entered object (entered worker object entry kept) } ∷ [])

pub bare_next : (kept : Account) (act : Act) → map bare (with_act kept act).acts ≡ map bare kept.acts ++ bare act ∷ []
bare_next kept act = bare_act act.worker act.made kept
