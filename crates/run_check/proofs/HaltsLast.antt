-- Where halts stand in lists.
use Rattle.std.proofs.Common.{◌≡◌, ℕ, zero, suc, Bool, true, false, ◌&&◌, cond, List, [], ◌∷◌, ◌++◌, map, take, drop, slice_get, Option, Some, None, refl, sym, ap, ◌∙◌, subst, append_assoc}
use Rattle.std.specs.Prelude.{All, not}
use Rattle.std.proofs.lemmas.Bool.{false≢true}
use Rattle.std.proofs.lemmas.List.Elements.{All-head, All-tail}
use Rattle.sync_model.specs.Journal.{halt_of}
use Rattle.sync_types.specs.declared.misuse.Misuse.{Misuse}
use Rattle.run_record.specs.declared.made.Made.{Made}
use Rattle.run_record.specs.declared.made.Made.TheVariants.{Shared, Entered}
use Rattle.run_record.specs.Explains.{HasEnded}
use Rattle.run_record.specs.Lines.{AreHalts, IsHalt, Line, LineEnd, SpeltCall, halted, items_of, misused, stayed, unfinished, whole}
use Rattle.std.specs.List.{flat_map}
use Rattle.list_checks.specs.declared.spell.line.SpeltLine.{SpeltLine}
use Rattle.list_checks.specs.SpellLines.{line_end}
use Rattle.run_record.specs.Record.{ObjectEntry, journal_of, stop}
use Rattle.record_clauses.specs.Account.{Account, Claim, made_in, record_of}
use Rattle.record_clauses.specs.Clauses.{HasHalts, IsStoppedBy}
use Rattle.record_clauses.specs.Lists.{before_halts, halts, is_halt, without_halts}
use Rattle.run_check.proofs.Endings.{AreFound, all_of_found, endings, found_endings, found_of_all, head_of, tail_of}
use Rattle.run_check.specs.Found.{AllHaltsBehind, HaltsBehind, IsStoppedSo, are_no_halts, begins_with_halt}

-- the clause `stop` holds, with some halts behind the account's lines
abbrev pub StopHolds : Claim → Account → Type 0
StopHolds claim account = (lines : List Line) × (map before_halts lines ≡ map before_halts account.lines) × HasHalts claim (record account { lines = lines })

both : (x y : Bool) → (x && y) ≡ true → (x ≡ true) × (y ≡ true)
both true true h = (refl, refl)
both true false h = absurd (false≢true h)
both false y h = absurd (false≢true h)

nothing_behind : {X : Type 0} (xs : List X) → xs ++ [] ≡ xs
nothing_behind [] = refl
nothing_behind (x ∷ xs) = ap (λ ys. x ∷ ys) (nothing_behind xs)

same_behind : {X : Type 0} (front xs ys : List X) → front ++ xs ≡ front ++ ys → xs ≡ ys
same_behind [] xs ys e = e
same_behind (x ∷ front) xs ys e = same_behind front xs ys (let rest : front ++ xs ≡ front ++ ys = cc in rest)

-- ---- one list

without_all : (list : List Made) → are_no_halts list ≡ true → without_halts list ≡ list
without_all [] none = refl
without_all (x ∷ list) none = by (is_halt x) (both (not (is_halt x)) (are_no_halts list) none).0 (without_all list (both (not (is_halt x)) (are_no_halts list) none).1) where
  by : (b : Bool) → not b ≡ true → without_halts list ≡ list → cond b (without_halts list) (x ∷ without_halts list) ≡ x ∷ list
  by true h rest = absurd (false≢true h)
  by false h rest = ap (λ xs. x ∷ xs) rest

without_append : (xs ys : List Made) → without_halts (xs ++ ys) ≡ without_halts xs ++ without_halts ys
without_append [] ys = refl
without_append (x ∷ xs) ys = by (is_halt x) (without_append xs ys) where
  by : (b : Bool) → without_halts (xs ++ ys) ≡ without_halts xs ++ without_halts ys → cond b (without_halts (xs ++ ys)) (x ∷ without_halts (xs ++ ys)) ≡ cond b (without_halts xs) (x ∷ without_halts xs) ++ without_halts ys
  by true rest = rest
  by false rest = ap (λ zs. x ∷ zs) rest

none_left : (list : List Made) → are_no_halts (without_halts list) ≡ true
none_left [] = refl
none_left (x ∷ list) = by (is_halt x) refl (none_left list) where
  by : (b : Bool) → is_halt x ≡ b → are_no_halts (without_halts list) ≡ true → are_no_halts (cond b (without_halts list) (x ∷ without_halts list)) ≡ true
  by true is rest = rest
  by false is rest = ap (λ c. not c && are_no_halts (without_halts list)) is ∙ rest

by_halts : (misuse : Misuse) (list : List Made) → All (IsHalt misuse) list → without_halts list ≡ []
by_halts misuse [] each = refl
by_halts misuse (Shared x ∷ list) each = absurd (All-head (IsHalt misuse) (Shared x) list each)
by_halts misuse (Entered object entry ∷ list) each =
    ap (λ b. cond b (without_halts list) (Entered object entry ∷ without_halts list)) (ap halts (All-head (IsHalt misuse) (Entered object entry) list each)) ∙ by_halts misuse list (All-tail (IsHalt misuse) (Entered object entry) list each)

pub are_halts : (ending : LineEnd) (list : List Made) → AreHalts ending list → without_halts list ≡ []
are_halts (misused misuse) list are = by_halts misuse list are
are_halts whole list are = ap without_halts are
are_halts (halted misuse) list are = ap without_halts are
are_halts unfinished list are = ap without_halts are
are_halts (stayed stay) list are = ap without_halts are

split : {X : Type 0} (n : ℕ) (xs : List X) → take n xs ++ drop n xs ≡ xs
split zero xs = refl
split (suc n) [] = refl
split (suc n) (x ∷ xs) = ap (λ ys. x ∷ ys) (split n xs)

parts_without : (n : ℕ) (list : List Made) → are_no_halts (take n list) ≡ true → without_halts list ≡ take n list ++ without_halts (drop n list)
parts_without n list none = ap without_halts (sym (split n list)) ∙ without_append (take n list) (drop n list) ∙ ap (λ xs. xs ++ without_halts (drop n list)) (without_all (take n list) none)

pub behind_forth : (n : ℕ) (list : List Made) (ending : LineEnd) → are_no_halts (take n list) ≡ true → AreHalts ending (drop n list) → HaltsBehind list ending
behind_forth n list ending none are =
    let front : without_halts list ≡ take n list = parts_without n list none ∙ ap (λ xs. take n list ++ xs) (are_halts ending (drop n list) are) ∙ nothing_behind (take n list) in
    (drop n list, sym (split n list) ∙ ap (λ xs. xs ++ drop n list) (sym front), are)

-- a list that begins with a halt is halts alone, where those stand behind all else
pub only_halts : (ys later : List Made) → begins_with_halt ys ≡ true → ys ≡ without_halts ys ++ later → ys ≡ later
only_halts [] later begins e = e
only_halts (y ∷ ys) later begins e = by (without_halts ys) (none_left ys) (e ∙ ap (λ b. cond b (without_halts ys) (y ∷ without_halts ys) ++ later) begins) where
  by : (left : List Made) → are_no_halts left ≡ true → y ∷ ys ≡ left ++ later → y ∷ ys ≡ later
  by [] none same = same
  by (x ∷ left) none same =
      let first : y ≡ x = cc in
      absurd (false≢true (ap not (sym (ap is_halt (sym first) ∙ begins)) ∙ (both (not (is_halt x)) (are_no_halts left) none).0))

pub behind_back : (n : ℕ) (list : List Made) (ending : LineEnd) → are_no_halts (take n list) ≡ true → begins_with_halt (drop n list) ≡ true → HaltsBehind list ending → AreHalts ending (drop n list)
behind_back n list ending none begins (later, is, are) =
    let whole_is : take n list ++ drop n list ≡ take n list ++ (without_halts (drop n list) ++ later) =
    split n list ∙ is ∙ ap (λ xs. xs ++ later) (parts_without n list none) ∙ append_assoc (take n list) (without_halts (drop n list)) later in
    subst (AreHalts ending) (sym (only_halts (drop n list) later begins (same_behind (take n list) (drop n list) (without_halts (drop n list) ++ later) whole_is))) are

-- ---- all lists

-- the items of a line are those before its halts, and the halts
items_split : (line : Line) → items_of line ≡ items_of (before_halts line) ++ line.halts
items_split line =
    let made = flat_map (λ (s : SpeltCall). s.items) line.spelt in
    let tail_is : made ++ (line.last ++ line.halts) ≡ (made ++ (line.last ++ [])) ++ line.halts =
    sym (append_assoc made line.last line.halts) ∙ ap (λ xs. (made ++ xs) ++ line.halts) (sym (nothing_behind line.last)) in
    ap (λ xs. line.first ++ xs) tail_is ∙ sym (append_assoc line.first (made ++ (line.last ++ [])) line.halts)

-- lines with halts behind them
record Fuller (old : List Line) (lists : List (List Made)) (new : List Line) : Type 0 where
  before : map before_halts new ≡ map before_halts old
  items : map items_of new ≡ lists
  halts : (worker : ℕ) (line : Line) → slice_get new worker ≡ Some line → AreHalts line.ending line.halts
  same : endings new ≡ endings old

same_some : {X : Type 0} (x y : X) → Some x ≡ Some y → x ≡ y
same_some x y e = cc

none_some : {X : Type 0} (x : X) → None ≡ Some x → ⊥
none_some x e = absurd cc

fuller : (old : List Line) (lists : List (List Made)) (found : List SpeltLine) → endings old ≡ found_endings found → map items_of (map before_halts old) ≡ map without_halts lists → AllHaltsBehind lists found → (new : List Line) × Fuller old lists new
fuller [] [] found ends are behind = ([], record { before = refl; items = refl; halts = λ worker line at. absurd (none_some line at); same = refl })
fuller [] (list ∷ lists) found ends are behind = absurd cc
fuller (line ∷ old) [] found ends are behind = absurd cc
fuller (line ∷ old) (list ∷ lists) [] ends are behind = absurd cc
fuller (line ∷ old) (list ∷ lists) (f ∷ found) ends are behind =
    let (later, is, halts_are) = behind zero list f refl refl in
    let (new, rest) = fuller old lists found (tail_of line.ending (line_end f.ending) _ _ ends) (tail_of (items_of (before_halts line)) (without_halts list) _ _ are) (λ worker l g at_l at_g. behind (suc worker) l g at_l at_g) in
    let this : Line = record line { halts = later } in
    let items_are : items_of this ≡ list = items_split this ∙ ap (λ xs. xs ++ later) (head_of (items_of (before_halts line)) (without_halts list) _ _ are) ∙ sym is in
    let ending_is : line.ending ≡ line_end f.ending = head_of line.ending (line_end f.ending) _ _ ends in (
      this ∷ new,
      record {
        before = ap (λ ls. before_halts line ∷ ls) rest.before;
        items = ap (λ xs. xs ∷ map items_of new) items_are ∙ ap (λ ls. list ∷ ls) rest.items;
        halts = at this new (subst (λ e. AreHalts e later) (sym ending_is) halts_are) rest.halts;
        same = ap (λ es. line.ending ∷ es) rest.same;
      },
    )
  where
    at : (this : Line) (new : List Line) → AreHalts this.ending this.halts → ((worker : ℕ) (line : Line) → slice_get new worker ≡ Some line → AreHalts line.ending line.halts) → (worker : ℕ) (line : Line) → slice_get (this ∷ new) worker ≡ Some line → AreHalts line.ending line.halts
    at this new first rest zero line there = subst (λ (l : Line). AreHalts l.ending l.halts) (same_some this line there) first
    at this new first rest (suc worker) line there = rest worker line there

behind_at : (new old : List Line) (lists : List (List Made)) (found : List SpeltLine) (worker : ℕ) (list : List Made) (f : SpeltLine) → map before_halts new ≡ map before_halts old → endings old ≡ found_endings found → map items_of (map before_halts old) ≡ map without_halts lists → map items_of new ≡ lists
    → ((worker : ℕ) (line : Line) → slice_get new worker ≡ Some line → AreHalts line.ending line.halts) → slice_get lists worker ≡ Some list → slice_get found worker ≡ Some f → HaltsBehind list (line_end f.ending)
behind_at new old [] found worker list f before ends are items halts_are at at_f = absurd (none_some list at)
behind_at [] old (x ∷ lists) found worker list f before ends are items halts_are at at_f = absurd cc
behind_at (l ∷ new) [] (x ∷ lists) found worker list f before ends are items halts_are at at_f = absurd cc
behind_at (l ∷ new) (o ∷ old) (x ∷ lists) [] worker list f before ends are items halts_are at at_f = absurd cc
behind_at (l ∷ new) (o ∷ old) (x ∷ lists) (g ∷ found) zero list f before ends are items halts_are at at_f =
    let x_is : x ≡ list = same_some x list at in
    let g_is : g ≡ f = same_some g f at_f in
    let same : before_halts l ≡ before_halts o = head_of (before_halts l) (before_halts o) _ _ before in
    let ending_is : l.ending ≡ line_end g.ending = ap (λ (line : Line). line.ending) same ∙ head_of o.ending (line_end g.ending) _ _ ends in
    let front : items_of (before_halts l) ≡ without_halts x = ap items_of same ∙ head_of (items_of (before_halts o)) (without_halts x) _ _ are in
    let all : x ≡ without_halts x ++ l.halts = sym (head_of (items_of l) x _ _ items) ∙ items_split l ∙ ap (λ xs. xs ++ l.halts) front in
    subst (λ (g : SpeltLine). HaltsBehind list (line_end g.ending)) g_is (subst (λ xs. HaltsBehind xs (line_end g.ending)) x_is (l.halts, all, subst (λ e. AreHalts e l.halts) ending_is (halts_are zero l refl)))
behind_at (l ∷ new) (o ∷ old) (x ∷ lists) (g ∷ found) (suc worker) list f before ends are items halts_are at at_f =
    behind_at new old lists found worker list f (tail_of (before_halts l) (before_halts o) _ _ before) (tail_of o.ending (line_end g.ending) _ _ ends) (tail_of (items_of (before_halts o)) (without_halts x) _ _ are) (tail_of (items_of l) x _ _ items)
    (λ w line there. halts_are (suc w) line there) at at_f

pub ends_before : (lines : List Line) → endings (map before_halts lines) ≡ endings lines
ends_before [] = refl
ends_before (l ∷ lines) = ap (λ es. l.ending ∷ es) (ends_before lines)

module _ (claim : Claim) (account : Account) (lists : List (List Made)) (found : List SpeltLine) (stops : List ObjectEntry) (made : map made_in claim.lists ≡ lists) (ends : AreFound found account)
    (are : map items_of (map before_halts account.lines) ≡ map without_halts lists) (journal : journal_of (record_of claim account) stop ≡ stops) where
  stopped_by : (lines : List Line) → endings lines ≡ found_endings found → (by : Option Misuse) → IsStoppedSo found (halt_of stops) by → IsStoppedBy claim (record account { lines = lines }) by
  stopped_by lines same None is = tt
  stopped_by lines same (Some misuse) is = (all_of_found HasEnded lines found same is.0, ap halt_of journal ∙ is.1)

  stopped_so : (lines : List Line) → endings lines ≡ found_endings found → (by : Option Misuse) → IsStoppedBy claim (record account { lines = lines }) by → IsStoppedSo found (halt_of stops) by
  stopped_so lines same None is = tt
  stopped_so lines same (Some misuse) is = (found_of_all HasEnded lines found same is.0, ap halt_of (sym journal) ∙ is.1)

  pub holds : AllHaltsBehind lists found → IsStoppedSo found (halt_of stops) claim.misused → StopHolds claim account
  holds behind stopped =
      let (new, full) = fuller account.lines lists found ends are behind in
      (new, full.before, record { lists = full.items ∙ sym made; halts = full.halts; stopped = stopped_by new (full.same ∙ ends) claim.misused stopped })

  pub held : StopHolds claim account → AllHaltsBehind lists found × IsStoppedSo found (halt_of stops) claim.misused
  held (lines, before, has) =
      let same : endings lines ≡ endings account.lines = sym (ends_before lines) ∙ ap endings before ∙ ends_before account.lines in
      (λ worker list f at at_f. behind_at lines account.lines lists found worker list f before ends are (has.lists ∙ made) has.halts at at_f, stopped_so lines (same ∙ ends) claim.misused has.stopped)
