-- Going along lists and journals for their halts.
use Rattle.std.proofs.Common.{◌≡◌, ◌≢◌, ◌↔◌, ℕ, zero, suc, ◌+◌, ◌<◌, ◌≤◌, Bool, true, false, ◌&&◌, List, [], ◌∷◌, length, take, drop, get_or, slice_get, Some, None, refl, sym, ap, ◌∙◌, subst, add-one, arith}
use Rattle.std.specs.Prelude.{not}
use Rattle.std.proofs.Math.Seq.{drop-cons}
use Rattle.std.proofs.lemmas.List.Elements.{All-cons, All-head, All-nil, All-tail}
use Rattle.sync_model.specs.declared.journal.Deed.{Deed}
use Rattle.sync_model.specs.declared.journal.Deed.TheVariants.{Event, Refused, Halt}
use Rattle.sync_model.specs.Journal.{halt_after, halt_next, halt_of}
use Rattle.sync_types.specs.declared.misuse.Misuse.{Misuse}
use Rattle.run_record.specs.declared.entered.ObjectEvent.{ObjectEvent}
use Rattle.run_record.specs.declared.entered.ObjectReply.{ObjectReply}
use Rattle.run_record.specs.declared.made.Made.{Made}
use Rattle.run_record.specs.Lines.{AreHalts, IsHalt, misused}
use Rattle.run_record.specs.Record.{ObjectEntry}
use Rattle.list_checks.specs.declared.spell.line.Ending.{Ending}
use Rattle.list_checks.specs.declared.spell.line.Ending.TheVariants.{Whole, Misused, Halted, Unfinished, Never, Stopped, Waits}
use Rattle.list_checks.specs.SpellLines.{line_end}
use Rattle.object_checks.specs.declared.journals.row.Row.{Row}
use Rattle.object_checks.specs.JournalItems.{entries_in_row}
use Rattle.record_clauses.specs.Lists.{is_halt}
use Rattle.run_check.specs.Found.{are_no_halts}

-- ---- a journal

kept : (misuse : Misuse) (entries : List ObjectEntry) → halt_after (Some misuse) entries ≡ Some misuse
kept misuse [] = refl
kept misuse (entry ∷ entries) = kept misuse entries

no_halt : (deed : Deed ObjectEvent ObjectReply) → ((misuse : Misuse) → deed ≢ Halt misuse) → halt_next None deed ≡ None
no_halt (Event e r) none = refl
no_halt (Refused e m) none = refl
no_halt (Halt m) none = absurd (none m refl)

drop_row : (journal : List Row) (n : ℕ) (row : Row) → n < length journal → row ≡ get_or journal n row → drop n journal ≡ row ∷ drop (n + 1) journal
drop_row journal n row inside is = drop-cons journal n row inside ∙ ap (λ (r : Row). r ∷ drop (suc n) journal) (sym is) ∙ ap (λ (k : ℕ). row ∷ drop k journal) (sym (add-one n))

-- the first halt is behind the first n rows
abbrev pub Behind : List Row → ℕ → Type 0
Behind journal n = halt_of (entries_in_row journal) ≡ halt_of (entries_in_row (drop n journal))

pub found_here : (journal : List Row) (n : ℕ) (row : Row) (misuse : Misuse) → n < length journal → row ≡ get_or journal n row → row.item.now.deed ≡ Halt misuse → Behind journal n → Some misuse ≡ halt_of (entries_in_row journal)
found_here journal n row misuse inside is deed behind =
    sym (behind ∙ ap (λ (rows : List Row). halt_of (entries_in_row rows)) (drop_row journal n row inside is) ∙ ap (λ d. halt_after (halt_next None d) (entries_in_row (drop (n + 1) journal))) deed ∙ kept misuse (entries_in_row (drop (n + 1) journal)))

pub not_here : (journal : List Row) (n : ℕ) (row : Row) → n < length journal → row ≡ get_or journal n row → ((misuse : Misuse) → row.item.now.deed ≢ Halt misuse) → Behind journal n → Behind journal (n + 1)
not_here journal n row inside is none behind =
    behind ∙ ap (λ (rows : List Row). halt_of (entries_in_row rows)) (drop_row journal n row inside is) ∙ ap (λ h. halt_after h (entries_in_row (drop (n + 1) journal))) (no_halt row.item.now.deed none)

drop_all : {X : Type 0} (xs : List X) (n : ℕ) → length xs ≤ n → drop n xs ≡ []
drop_all [] zero past = refl
drop_all [] (suc n) past = refl
drop_all (x ∷ xs) zero past = absurd (omega (arith, past))
drop_all (x ∷ xs) (suc n) past = drop_all xs n (omega (arith, past))

-- ---- a list

none_more : (list : List Made) (n : ℕ) (x : Made) → slice_get list n ≡ Some x → is_halt x ≡ false → are_no_halts (take n list) ≡ true → are_no_halts (take (suc n) list) ≡ true
none_more [] n x at halt none = absurd cc
none_more (y ∷ list) zero x at halt none = ap (λ (z : Made). not (is_halt z) && true) (let same : y ≡ x = cc in same) ∙ ap (λ b. not b && true) halt
none_more (y ∷ list) (suc n) x at halt none = more (is_halt y) none (λ h. none_more list n x at halt h) where
  more : (b : Bool) → (not b && are_no_halts (take n list)) ≡ true → (are_no_halts (take n list) ≡ true → are_no_halts (take (suc n) list) ≡ true) → (not b && are_no_halts (take (suc n) list)) ≡ true
  more true h later = h
  more false h later = later h

pub one_more : (list : List Made) (n : ℕ) (x : Made) → slice_get list n ≡ Some x → is_halt x ≡ false → are_no_halts (take n list) ≡ true → are_no_halts (take (n + 1) list) ≡ true
one_more list n x at halt none = ap (λ (k : ℕ). are_no_halts (take k list)) (add-one n) ∙ none_more list n x at halt none

pub left_none : (list : List Made) (from : ℕ) → from ≡ length list → drop from list ≡ []
left_none list from is = drop_all list from (omega (arith, is))

pub none_left : (list : List Made) (from : ℕ) → from ≤ length list → drop from list ≡ [] → from ≡ length list
none_left [] zero within none = refl
none_left [] (suc from) within none = absurd (omega (arith, within))
none_left (x ∷ list) zero within none = absurd cc
none_left (x ∷ list) (suc from) within none = ap suc (none_left list from (omega (arith, within)) none)

-- a list that doesn't end in a misuse has no halts behind it
pub other_halts : (ending : Ending) (list : List Made) → ((misuse : Misuse) → ending ≢ Misused misuse) → AreHalts (line_end ending) list ↔ (list ≡ [])
other_halts Whole list none = (λ h. h, λ h. h)
other_halts (Misused misuse) list none = absurd (none misuse refl)
other_halts (Halted misuse) list none = (λ h. h, λ h. h)
other_halts Unfinished list none = (λ h. h, λ h. h)
other_halts Never list none = (λ h. h, λ h. h)
other_halts (Stopped misuse) list none = (λ h. h, λ h. h)
other_halts Waits list none = (λ h. h, λ h. h)

-- the items from one place up to another are halts by this misuse
abbrev pub HaltsTo : List Made → Misuse → ℕ → ℕ → Type 0
HaltsTo list misuse from to = (k : ℕ) (x : Made) → from ≤ k → k < to → slice_get list k ≡ Some x → IsHalt misuse x

pub all_halts : (list : List Made) (misuse : Misuse) (from to : ℕ) → length list ≤ to → HaltsTo list misuse from to → AreHalts (misused misuse) (drop from list)
all_halts [] misuse zero to past halts = All-nil (IsHalt misuse)
all_halts [] misuse (suc from) to past halts = All-nil (IsHalt misuse)
all_halts (x ∷ list) misuse zero zero past halts = absurd (omega (arith, past))
all_halts (x ∷ list) misuse zero (suc to) past halts = All-cons (IsHalt misuse) x list (halts zero x (omega arith) (omega arith) refl) (all_halts list misuse zero to (omega (arith, past)) (λ k y at below there. halts (suc k) y (omega arith) (omega (arith, below)) there))
all_halts (x ∷ list) misuse (suc from) zero past halts = absurd (omega (arith, past))
all_halts (x ∷ list) misuse (suc from) (suc to) past halts = all_halts list misuse from to (omega (arith, past)) (λ k y at below there. halts (suc k) y (omega (arith, at)) (omega (arith, below)) there)

pub halt_at : (list : List Made) (misuse : Misuse) (from k : ℕ) (x : Made) → AreHalts (misused misuse) (drop from list) → from ≤ k → slice_get list k ≡ Some x → IsHalt misuse x
halt_at [] misuse from k x all behind at = absurd cc
halt_at (y ∷ list) misuse zero zero x all behind at = subst (IsHalt misuse) (let same : y ≡ x = cc in same) (All-head (IsHalt misuse) y list all)
halt_at (y ∷ list) misuse zero (suc k) x all behind at = halt_at list misuse zero k x (All-tail (IsHalt misuse) y list all) (omega arith) at
halt_at (y ∷ list) misuse (suc from) zero x all behind at = absurd (omega (arith, behind))
halt_at (y ∷ list) misuse (suc from) (suc k) x all behind at = halt_at list misuse from k x all (omega (arith, behind)) at
