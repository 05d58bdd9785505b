-- Where all workers' items spell something, the clause `spell` holds of each claim that the text tells.
use Rattle.std.proofs.Common.{◌≡◌, ◌⊎◌, inl, inr, ℕ, zero, suc, ◌<◌, ◌≤◌, Bool, true, false, cond, List, [], ◌∷◌, ◌++◌, map, length, get_or, Option, Some, None, slice_get, refl, sym, ap, ◌∙◌, subst, arith}
use Rattle.std.specs.List.{flat_map}
use Rattle.std.proofs.lemmas.Bool.{false≢true}
use Rattle.std.proofs.lemmas.List.{length-append}
use Rattle.std.proofs.lemmas.List.Elements.{All-head}
use Rattle.std.proofs.lemmas.Option.{none-some, same_Some, slice_get_cases}
use Rattle.script_calls.specs.declared.call.Call.{Call}
use Rattle.script_calls.specs.declared.call.Reply.{Reply}
use Rattle.script_calls.specs.Outcome.{left_by}
use Rattle.script_calls.specs.Runs.{RunsAlong}
use Rattle.sync_model.specs.declared.item.SharedEntry.{SharedEntry}
use Rattle.sync_model.specs.declared.journal.Deed.TheVariants.{Event, Refused, Halt}
use Rattle.sync_model.proofs.Histories.{get_on}
use Rattle.sync_types.specs.declared.end.End.{End}
use Rattle.sync_types.specs.declared.misuse.Misuse.{Misuse}
use Rattle.workload.specs.Plan.{Plan}
use Rattle.run_record.specs.declared.made.Made.{Made}
use Rattle.run_record.specs.declared.made.Made.TheVariants.{Shared, Entered}
use Rattle.run_record.specs.Lines.{AreHalts, IsHalt, IsLineOf, Line, LineEnd, SpeltCall, calls_made, halted, items_of, misused, replies_of, stayed, unfinished, whole}
use Rattle.run_record.specs.Record.{ObjectEntry}
use Rattle.run_cuts.specs.Blind.{AreAlike, HasLineLike, bare}
use Rattle.run_cuts.specs.CallsAlong.{calls_along}
use Rattle.list_checks.specs.SpellLines.{line_end}
use Rattle.list_checks.specs.declared.spell.line.SpeltLine.{SpeltLine}
use Rattle.record_text.specs.Told.{Told}
use Rattle.run_check.specs.declared.told.sketch.Sketch.{Sketch}
use Rattle.run_check.specs.declared.told.sketch.Sketch.TheVariants as sketches
use Rattle.run_check.specs.ToldItems.{Sketched, worker_told}
use Rattle.run_check.specs.ToldLists as told_lists
use Rattle.record_clauses.specs.Account.{Claim, ToldItem, made_in, outcome_by}
use Rattle.record_clauses.specs.Clauses.{IsSpelt}
use Rattle.record_clauses.specs.Lists.{before_halts, calls_told, halts, is_halt, without_halts}
use Rattle.run_check.specs.declared.spelling.SpeltList.{SpeltList}
use Rattle.run_check.specs.declared.spelling.Spelling.{Spelling}
use Rattle.run_check.specs.Items.{told_item, unmarked_item}
use Rattle.run_check.specs.Lists.{AreSpeltTo, IsSpeltList, list_at}
use Rattle.run_check.specs.Tells.{Tells}
use Rattle.run_check.proofs.SpellNothing.{IsBlind}
use Rattle.run_check.proofs.ToldLists.{alike, calls_same, mapped}

-- a list of what there is for each number below n
pub gather : {X : Type 0} (P : ℕ → X → Type 0) (n : ℕ) → ((k : ℕ) → k < n → (x : X) × P k x) → (xs : List X) × (length xs ≡ n) × ((k : ℕ) (x : X) → slice_get xs k ≡ Some x → P k x)
gather {X} P zero each = ([], refl, λ k x at. absurd (none-some x at))
gather {X} P (suc n) each = by (gather P n (λ k below. each k (omega (arith, below)))) (each n (omega arith)) where
  by : (xs : List X) × (length xs ≡ n) × ((k : ℕ) (x : X) → slice_get xs k ≡ Some x → P k x) → (x : X) × P n x → (xs : List X) × (length xs ≡ suc n) × ((k : ℕ) (x : X) → slice_get xs k ≡ Some x → P k x)
  by (xs, count, are) (x, is) = (xs ++ x ∷ [], (let long = length-append xs (x ∷ []) in omega (arith, long, count)), λ k y at. at_place k y (get_on xs x y k at)) where
    at_place : (k : ℕ) (y : X) → (slice_get xs k ≡ Some y) ⊎ ((k ≡ length xs) × (y ≡ x)) → P k y
    at_place k y (inl there) = are k y there
    at_place k y (inr (number, same)) = subst (λ i. P i y) (sym (number ∙ count)) (subst (P n) (sym same) is)

-- lists whose elements are alike, place by place
pub all_same : {X Y Z : Type 0} (f : X → Z) (g : Y → Z) (xs : List X) (ys : List Y) → length xs ≡ length ys → ((k : ℕ) (x : X) (y : Y) → slice_get xs k ≡ Some x → slice_get ys k ≡ Some y → f x ≡ g y) → map f xs ≡ map g ys
all_same f g [] [] count each = refl
all_same f g [] (y ∷ ys) count each = absurd (omega (arith, count))
all_same f g (x ∷ xs) [] count each = absurd (omega (arith, count))
all_same {X} {Y} {Z} f g (x ∷ xs) (y ∷ ys) count each =
    ap (λ (z : Z). z ∷ map f xs) (each 0 x y refl refl) ∙ ap (λ (zs : List Z). g y ∷ zs) (all_same f g xs ys (omega (arith, count)) (λ k a b one other. each (suc k) a b one other))

-- ---- a list without halts has none behind its line

abbrev NoHalts : List Made → Type 0
NoHalts [] = Unit {0}
NoHalts (m ∷ ms) = (is_halt m ≡ false) × NoHalts ms

none_behind : (ms later : List Made) → NoHalts (ms ++ later) → NoHalts later
none_behind [] later none = none
none_behind (m ∷ ms) later none = none_behind ms later none.1

both_none : (ms later : List Made) → NoHalts ms → NoHalts later → NoHalts (ms ++ later)
both_none [] later none also = also
both_none (m ∷ ms) later none also = (none.0, both_none ms later none.1 also)

halt_of : (sketch : Sketch) → is_halt (told_lists.bare sketch) ≡ told_lists.is_halt sketch
halt_of (sketches.Shared call reply place) = refl
halt_of (sketches.Entered object number (Event event reply)) = refl
halt_of (sketches.Entered object number (Refused event misuse)) = refl
halt_of (sketches.Entered object number (Halt misuse)) = refl

none_spelt : (items : List Sketched) → NoHalts (flat_map told_lists.spelt_in items)
none_spelt [] = tt
none_spelt (s ∷ items) = both_none (told_lists.spelt_in s) (flat_map told_lists.spelt_in items) (by (told_lists.is_halt s.sketch) (halt_of s.sketch)) (none_spelt items) where
  by : (b : Bool) → is_halt (told_lists.bare s.sketch) ≡ b → NoHalts (cond b [] (told_lists.bare s.sketch ∷ []))
  by true is = tt
  by false is = (is, tt)

is_one : (misuse : Misuse) (m : Made) → IsHalt misuse m → is_halt m ≡ true
is_one misuse (Shared x) is = absurd is
is_one misuse (Entered object entry) is = ap halts is

no_halts_left : (ending : LineEnd) (halts : List Made) → NoHalts halts → AreHalts ending halts → halts ≡ []
no_halts_left whole halts none are = are
no_halts_left (misused misuse) [] none are = refl
no_halts_left (misused misuse) (m ∷ halts) none are = absurd (false≢true (sym none.0 ∙ is_one misuse m (All-head (IsHalt misuse) m halts are)))
no_halts_left (halted misuse) halts none are = are
no_halts_left unfinished halts none are = are
no_halts_left (stayed stay) halts none are = are

no_halts : (items : List Sketched) (line : Line) → items_of line ≡ flat_map told_lists.spelt_in items → AreHalts line.ending line.halts → line.halts ≡ []
no_halts items line are halts =
    no_halts_left line.ending line.halts
    (none_behind line.last line.halts (none_behind (flat_map (λ s. s.items) line.spelt) (line.last ++ line.halts) (none_behind line.first _ (subst NoHalts (sym are) (none_spelt items))))) halts

none_bare : (halts : List Made) → [] ≡ map bare halts → halts ≡ []
none_bare [] same = refl
none_bare (m ∷ halts) same = absurd cc

-- ---- the lines of a claim

module _ (blind : IsBlind) (told : Told) (found : Spelling) (are : AreSpeltTo told.plan told.items told.plan.workers found) (claim : Claim) (tells : Tells told claim) where
  -- a line of a worker's list, and what was found of it
  pub record OwnLine (worker : ℕ) (line : Line) : Type 0 where
    pub list : List ToldItem
    pub there : slice_get claim.lists worker ≡ Some list
    pub is : IsLineOf claim.plan worker line
    pub runs : RunsAlong (get_or claim.plan.scripts worker []) (calls_made line) line.rest
    pub items : items_of line ≡ without_halts (made_in list)
    pub none : line.halts ≡ []
    pub calls : calls_told list ≡ calls_along line
    pub spelt : SpeltLine
    pub at : slice_get found.lines worker ≡ Some spelt
    pub ending : line.ending ≡ line_end spelt.ending
    pub replies : replies_of line ≡ spelt.replies

  own_line : (worker : ℕ) → worker < told.plan.workers → (line : Line) × OwnLine worker line
  own_line worker below = by_list (are.each worker below) (slice_get_cases claim.lists worker).1 where
    by_like : (one : SpeltList) → list_at found worker one → (spelt : IsSpeltList told.plan told.items worker one) → (list : List ToldItem) → slice_get claim.lists worker ≡ Some list → map (told_item worker) spelt.list ≡ map unmarked_item list
        → HasLineLike told.plan worker spelt.spelling.line (without_halts (made_in list)) → (line : Line) × OwnLine worker line
    by_like one at spelt list there same like =
        let line = spelt.spelling.line in
        let none : line.halts ≡ [] = no_halts spelt.list line spelt.spelling.here.1 spelt.spelling.here.2.halts in
        let runs : RunsAlong (get_or told.plan.scripts worker []) (calls_made like.like) like.like.rest =
        subst (λ (made : List (Call × Reply ℕ)). RunsAlong (get_or told.plan.scripts worker []) made like.like.rest) (sym like.calls) (subst (λ (rest : List Call). RunsAlong (get_or told.plan.scripts worker []) (calls_made line) rest) (sym like.rest) spelt.spelling.here.0) in (
          like.like,
          record {
            list = list;
            there = there;
            is = subst (λ (p : Plan). IsLineOf p worker like.like) (sym tells.plan) like.is;
            runs = subst (λ (p : Plan). RunsAlong (get_or p.scripts worker []) (calls_made like.like) like.like.rest) (sym tells.plan) runs;
            items = like.items_are;
            none = none_bare like.like.halts (sym (ap (map bare) none) ∙ like.halts);
            calls = calls_same worker list spelt.list same ∙ sym spelt.calls ∙ sym spelt.spelling.calls ∙ sym like.along;
            spelt = one.line;
            at = at.0;
            ending = like.ending ∙ spelt.spelling.ending;
            replies = replies_by like.like line like.calls ∙ spelt.spelling.replies;
          },
        )
      where
        seconds : (ps : List (Call × Reply ℕ)) → List (Reply ℕ)
        seconds ps = map (λ p. p.1) ps

        replies_are : (l : Line) → seconds (calls_made l) ≡ replies_of l
        replies_are l = by l.spelt where
          by : (spelt : List SpeltCall) → map (λ (p : Call × Reply ℕ). p.1) (map (λ (s : SpeltCall). (s.call, s.reply)) spelt) ≡ map (λ (s : SpeltCall). s.reply) spelt
          by [] = refl
          by (s ∷ spelt) = ap (λ (rs : List (Reply ℕ)). s.reply ∷ rs) (by spelt)

        replies_by : (l m : Line) → calls_made l ≡ calls_made m → replies_of l ≡ replies_of m
        replies_by l m e = sym (replies_are l) ∙ ap seconds e ∙ replies_are m

    by_list : (one : SpeltList) × list_at found worker one × IsSpeltList told.plan told.items worker one
        → ((list : List ToldItem) × (worker < length claim.lists) × (slice_get claim.lists worker ≡ Some list) × (get_or claim.lists worker list ≡ list)) ⊎ ((length claim.lists ≤ worker) × (slice_get claim.lists worker ≡ None))
        → (line : Line) × OwnLine worker line
    by_list (one, at, spelt) (inr (past, none)) = let count = tells.workers in absurd (omega (arith, past, count, below))
    by_list (one, at, spelt) (inl (list, within, there, read)) =
        let (items, is, same) = mapped (λ (ss : List Sketched). map (told_item worker) ss) (worker_told told.plan told.items worker) (map unmarked_item list) (tells.lists worker list there) in
        let one_list : items ≡ spelt.list = same_Some items spelt.list (sym is ∙ spelt.told) in
        let mine : map (told_item worker) spelt.list ≡ map unmarked_item list = ap (λ (ss : List Sketched). map (told_item worker) ss) (sym one_list) ∙ same in
        let here : AreAlike (items_of spelt.spelling.line) (without_halts (made_in list)) = ap (map bare) spelt.spelling.here.1 ∙ sym (alike worker list spelt.list mine) in
        by_like one at spelt list there mine (blind told.plan worker spelt.spelling.line (without_halts (made_in list)) here spelt.spelling.here.2)

  -- the lines of all workers
  pub own_lines : (lines : List Line) × (length lines ≡ told.plan.workers) × ((worker : ℕ) (line : Line) → slice_get lines worker ≡ Some line → OwnLine worker line)
  own_lines = gather OwnLine told.plan.workers own_line

  module _ (lines : List Line) (count : length lines ≡ told.plan.workers) (own : (worker : ℕ) (line : Line) → slice_get lines worker ≡ Some line → OwnLine worker line) where
    before_alike : (worker : ℕ) (line : Line) → slice_get lines worker ≡ Some line → before_halts line ≡ line
    before_alike worker line at = ap (λ (halts : List Made). record line { halts = halts }) (sym (own worker line at).none)

    before_all : (ls : List Line) → ((k : ℕ) (line : Line) → slice_get ls k ≡ Some line → before_halts line ≡ line) → map before_halts ls ≡ ls
    before_all [] each = refl
    before_all (line ∷ ls) each = ap (λ (l : Line). l ∷ map before_halts ls) (each 0 line refl) ∙ ap (λ (rest : List Line). line ∷ rest) (before_all ls (λ k l at. each (suc k) l at))

    pub are_before : map before_halts lines ≡ lines
    are_before = before_all lines before_alike

    items_are : map items_of lines ≡ map (λ (list : List ToldItem). without_halts (made_in list)) claim.lists
    items_are = all_same items_of (λ (list : List ToldItem). without_halts (made_in list)) lines claim.lists (count ∙ sym tells.workers)
        (λ k line list one other. let o = own k line one in o.items ∙ ap (λ (l : List ToldItem). without_halts (made_in l)) (same_Some o.list list (sym o.there ∙ other)))

    fused : (lists : List (List ToldItem)) → map (λ (list : List ToldItem). without_halts (made_in list)) lists ≡ map without_halts (map made_in lists)
    fused [] = refl
    fused (list ∷ lists) = ap (λ (rest : List (List Made)). without_halts (made_in list) ∷ rest) (fused lists)

    -- the lines are found, and end as they were found to
    pub endings_are : map (λ (line : Line). line.ending) lines ≡ map (λ (line : SpeltLine). line_end line.ending) found.lines
    endings_are = all_same (λ (line : Line). line.ending) (λ (line : SpeltLine). line_end line.ending) lines found.lines (count ∙ sym are.lines)
        (λ k line spelt one other. let o = own k line one in o.ending ∙ ap (λ (l : SpeltLine). line_end l.ending) (same_Some o.spelt spelt (sym o.at ∙ other)))

    pub replies_are_found : map replies_of lines ≡ map (λ (line : SpeltLine). line.replies) found.lines
    replies_are_found = all_same replies_of (λ (line : SpeltLine). line.replies) lines found.lines (count ∙ sym are.lines)
        (λ k line spelt one other. let o = own k line one in o.replies ∙ ap (λ (l : SpeltLine). l.replies) (same_Some o.spelt spelt (sym o.at ∙ other)))

    -- the clause `spell` holds with these lines
    pub are_spelt : length claim.plan.scripts ≡ claim.plan.workers → ((worker i : ℕ) (list : List ToldItem) (x : ToldItem) → slice_get claim.lists worker ≡ Some list → slice_get list i ≡ Some x → is_halt x.made ≡ true → x.call ≡ None)
        → (history : List SharedEntry) (journals : List (List ObjectEntry)) (ends : List End)
        → IsSpelt claim (record { history = history; journals = journals; lines = lines; left = record { replies = map (λ (line : SpeltLine). line.replies) found.lines; ends = ends } })
    are_spelt scripts halts history journals ends = record {
      lines = record {
        count = ap length are_before ∙ count ∙ sym (ap (λ (p : Plan). p.workers) tells.plan) ∙ sym scripts;
        runs = λ worker line at. (own worker line (sym (ap (λ (ls : List Line). slice_get ls worker) are_before) ∙ at)).runs;
        lists = ap (map items_of) are_before ∙ items_are ∙ fused claim.lists;
        replies = ap (map replies_of) are_before ∙ replies_are_found ∙ sym (left claim.misused);
        each = λ worker line at. (own worker line (sym (ap (λ (ls : List Line). slice_get ls worker) are_before) ∙ at)).is;
      };
      told = record {
        calls = λ worker list line there at. let o = own worker line at in ap calls_told (same_Some list o.list (sym there ∙ o.there)) ∙ o.calls;
        halts = halts;
      };
    } where
      left : (misused : Option Misuse) → (left_by (outcome_by misused (record { replies = map (λ (line : SpeltLine). line.replies) found.lines; ends = ends }))).replies ≡ map (λ (line : SpeltLine). line.replies) found.lines
      left None = refl
      left (Some misuse) = refl
