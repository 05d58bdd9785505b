-- That a claim without ranges has one account.
use Rattle.std.proofs.Common.{◌≡◌, ℕ, zero, suc, Bool, true, List, [], ◌∷◌, ◌++◌, map, get_or, Option, None, Some, slice_get, drop, refl, sym, ap, ◌∙◌, subst}
use Rattle.std.specs.Prelude.{All}
use Rattle.std.specs.List.{list_all}
use Rattle.std.proofs.lemmas.Bool.{and_parts}
use Rattle.std.proofs.lemmas.List.{append_cancel_left}
use Rattle.std.proofs.lemmas.Option.{none-some, same_Some, slice_get_within, get_or_from_slice_get}
use Rattle.script_calls.specs.declared.call.Call.{Call}
use Rattle.script_calls.specs.declared.call.Reply.{Reply}
use Rattle.script_calls.specs.declared.outcome.Report.{Report}
use Rattle.script_calls.specs.Outcome.{left_by}
use Rattle.script_calls.specs.Runs.{RunsAlong, passed_over}
use Rattle.script_calls.specs.declared.call.Operation.{Operation}
use Rattle.script_calls.specs.declared.call.Operation.TheVariants as operations
use Rattle.workload.specs.Keys.{keys_in}
use Rattle.sync_types.specs.declared.end.End.{End}
use Rattle.sync_types.specs.declared.misuse.Misuse.{Misuse}
use Rattle.sync_model.specs.declared.item.SharedEntry.{SharedEntry}
use Rattle.sync_model.specs.SharedHistory.{contents_after}
use Rattle.workload.specs.Plan.{Plan}
use Rattle.run_record.specs.declared.made.Made.{Made}
use Rattle.run_record.specs.Explains.{HasEnded, IsAtEnd}
use Rattle.run_record.specs.Lines.{Line, LineEnd, SpeltCall, whole, misused, halted, unfinished, stayed, never, stopped, waits, calls_made, items_of, replies_of, IsLineOf}
use Rattle.run_record.specs.Objects.{contents_of, ends_in}
use Rattle.run_record.specs.Record.{ObjectEntry}
use Rattle.run_cuts.specs.CallCuts.{call_cut, is_told}
use Rattle.run_cuts.specs.LineCuts.{line_cut}
use Rattle.run_cuts.specs.OneLine.{CutsLines, SettlesEach, settled_as, settles_by, with_calls}
use Rattle.run_cuts.specs.StartsCuts.{opening_cut, closing_cut}
use Rattle.record_clauses.specs.declared.clause.Clause.{Clause}
use Rattle.record_clauses.specs.declared.clause.Clause.TheVariants as clause
use Rattle.record_clauses.specs.Account.{Claim, Account, outcome_by, has_no_range}
use Rattle.record_clauses.specs.Clauses.{IsSpelt, IsLegallyPlaced, HasEnds, IsStoppedBy, HasHalts, Holds}
use Rattle.record_clauses.specs.Lists.{before_halts}
use Rattle.record_clauses.proofs.Determined.{same_list, journals_once}
use Rattle.record_clauses.proofs.HaltsAside.{calm_part, cut_at, aside_from}

-- ---- lines, one by one

at_each : {A B : Type 0} (f : A → B) (xs : List A) (n : ℕ) (x : A) → slice_get xs n ≡ Some x → slice_get (map f xs) n ≡ Some (f x)
at_each f [] n x at = absurd (none-some x at)
at_each f (y ∷ xs) zero x at = ap (λ z. Some (f z)) (same_Some y x at)
at_each f (y ∷ xs) (suc n) x at = at_each f xs n x at

from_each : {A B : Type 0} (f : A → B) (xs : List A) (n : ℕ) (y : B) → slice_get (map f xs) n ≡ Some y → (x : A) × (slice_get xs n ≡ Some x) × (f x ≡ y)
from_each f [] n y at = absurd (none-some y at)
from_each f (x ∷ xs) zero y at = (x, refl, same_Some (f x) y at)
from_each f (x ∷ xs) (suc n) y at = from_each f xs n y at

-- lists are one whose elements are told apart by what a function gives
pub same_by : {A B : Type 0} (f : A → B) (xs ys : List A) → map f xs ≡ map f ys → ((n : ℕ) (x y : A) → slice_get xs n ≡ Some x → slice_get ys n ≡ Some y → f x ≡ f y → x ≡ y) → xs ≡ ys
same_by {A} {B} f xs ys same apart = same_list xs ys forth back where
  forth : (n : ℕ) (x : A) → slice_get xs n ≡ Some x → slice_get ys n ≡ Some x
  forth n x at =
      let found = from_each f ys n (f x) (subst (λ (l : List B). slice_get l n ≡ Some (f x)) same (at_each f xs n x at)) in
      subst (λ (z : A). slice_get ys n ≡ Some z) (sym (apart n x found.0 at found.1 (sym found.2))) found.1

  back : (n : ℕ) (y : A) → slice_get ys n ≡ Some y → slice_get xs n ≡ Some y
  back n y at =
      let found = from_each f xs n (f y) (subst (λ (l : List B). slice_get l n ≡ Some (f y)) (sym same) (at_each f ys n y at)) in
      subst (λ (z : A). slice_get xs n ≡ Some z) (apart n found.0 y found.1 at found.2) found.1

all_at : {A : Type 0} (P : A → Type 0) (xs : List A) (n : ℕ) (x : A) → All P xs → slice_get xs n ≡ Some x → P x
all_at P xs n x all at = subst P (get_or_from_slice_get xs n x x at) (all n x (slice_get_within xs n x at))

script_told : (p : Call → Bool) (scripts : List (List Call)) (worker : ℕ) → list_all (λ script. list_all p script) scripts ≡ true → list_all p (get_or scripts worker []) ≡ true
script_told p [] worker is = refl
script_told p (script ∷ scripts) zero is = (and_parts (list_all p script) (list_all (λ s. list_all p s) scripts) is).0
script_told p (script ∷ scripts) (suc worker) is = script_told p scripts worker (and_parts (list_all p script) (list_all (λ s. list_all p s) scripts) is).1

-- lists are cut into lines
abbrev pub ListsAreCut : Type 0
ListsAreCut = (plan : Plan) (worker : ℕ) → CutsLines plan worker (opening_cut plan worker) (closing_cut plan worker) (settles_by plan) (call_cut plan worker)

-- but for a range, a reply that is told is the reply
told_one : (keys : List (List ℕ)) (operation : Operation) (told reply : Reply ℕ) → is_told operation ≡ true → settled_as keys operation told reply → told ≡ reply
told_one keys (operations.Map call) told reply is same = same
told_one keys operations.Range told reply is same = absurd cc
told_one keys (operations.Atomic call) told reply is same = same
told_one keys (operations.Mutex call) told reply is same = same
told_one keys (operations.RwMutex call) told reply is same = same
told_one keys (operations.Cond call) told reply is same = same
told_one keys (operations.WaitGroup call) told reply is same = same
told_one keys operations.Once told reply is same = same
told_one keys operations.OnceFunc told reply is same = same
told_one keys operations.OnceValue told reply is same = same
told_one keys (operations.Pool call) told reply is same = same
told_one keys (operations.Sema call) told reply is same = same
told_one keys (operations.Fly key) told reply is same = same
told_one keys (operations.Var call) told reply is same = same
told_one keys (operations.Composed call) told reply is same = same

-- no call is a range
abbrev no_ranges : List Call → Bool
no_ranges script = list_all (λ call. is_told call.operation) script

none_dropped : (n : ℕ) (script : List Call) → no_ranges script ≡ true → no_ranges (drop n script) ≡ true
none_dropped zero script is = is
none_dropped (suc n) [] is = refl
none_dropped (suc n) (call ∷ script) is = none_dropped n script (and_parts (is_told call.operation) (no_ranges script) is).1

-- so it is of the completed calls, and their replies are those that are told
same_spelt : (plan : Plan) (script : List Call) (told spelt : List SpeltCall) (rest : List Call) → no_ranges script ≡ true → RunsAlong script (map (λ (one : SpeltCall). (one.call, one.reply)) spelt) rest
    → SettlesEach (settles_by plan) told spelt → told ≡ spelt
same_spelt plan script [] spelt rest none runs each = sym each
same_spelt plan script (first ∷ told) [] rest none runs each = absurd each
same_spelt plan script (first ∷ told) (one ∷ spelt) rest none (behind, is, later) (calls, items, settles, each) =
    let parts = and_parts (is_told one.call.operation) (no_ranges behind) (subst (λ (l : List Call). no_ranges l ≡ true) is none) in
    let same : first.reply ≡ one.reply = told_one (keys_in plan.scripts) first.call.operation first.reply one.reply (subst (λ (call : Call). is_told call.operation ≡ true) calls parts.0) settles in
    let more = same_spelt plan (drop (passed_over one.call one.reply) behind) told spelt rest (none_dropped (passed_over one.call one.reply) behind parts.1) later each in
    λ i. (record { call = sym calls i; items = sym items i; reply = same i }) ∷ more i

abbrev pub AllEnded : Account → Type 0
AllEnded account = All (λ line. HasEnded line.ending) account.lines

at_end : (ending : LineEnd) → IsAtEnd ending → HasEnded ending
at_end whole is = tt
at_end (misused misuse) is = tt
at_end (halted misuse) is = tt
at_end unfinished is = is
at_end (stayed never) is = tt
at_end (stayed (stopped misuse)) is = tt
at_end (stayed waits) is = is

module _ (claim : Claim) (cuts : ListsAreCut) (told : has_no_range claim.plan ≡ true) where
  -- a line that has ended is what its items and its script are cut into
  cut_of : (worker : ℕ) (line : Line) → RunsAlong (get_or claim.plan.scripts worker []) (calls_made line) line.rest → HasEnded line.ending → IsLineOf claim.plan worker line
      → line_cut (opening_cut claim.plan worker) (closing_cut claim.plan worker) (call_cut claim.plan worker) 0 (get_or claim.plan.scripts worker []) (items_of line) ≡ Some line
  cut_of worker line runs ended is =
      let script = get_or claim.plan.scripts worker [] in
      let found = (cuts claim.plan worker).is_cut script line runs ended is in
      let spelt = same_spelt claim.plan script found.0.spelt line.spelt line.rest (script_told (λ call. is_told call.operation) claim.plan.scripts worker told) runs found.2 in
      let same : found.0 ≡ line = ap (λ (calls : List SpeltCall). with_calls found.0 calls) spelt ∙ found.3 in
      found.1 ∙ ap Some same

  pub lines_once : (one other : Account) → IsSpelt claim one → IsSpelt claim other → AllEnded one → AllEnded other → map before_halts one.lines ≡ map before_halts other.lines
  lines_once one other first second ended also = same_by items_of (map before_halts one.lines) (map before_halts other.lines) (first.lines.lists ∙ sym second.lines.lists) apart where
    has_ended : (account : Account) → AllEnded account → (n : ℕ) (line : Line) → slice_get (map before_halts account.lines) n ≡ Some line → HasEnded line.ending
    has_ended account all n line at =
        let from = aside_from account.lines n line at in
        subst (λ (l : Line). HasEnded l.ending) from.2 (all_at (λ (l : Line). HasEnded l.ending) account.lines n from.0 all from.1)

    apart : (n : ℕ) (x y : Line) → slice_get (map before_halts one.lines) n ≡ Some x → slice_get (map before_halts other.lines) n ≡ Some y → items_of x ≡ items_of y → x ≡ y
    apart n x y at_x at_y same =
        let cut_x = cut_of n x (first.lines.runs n x at_x) (has_ended one ended n x at_x) (first.lines.each n x at_x) in
        let cut_y = cut_of n y (second.lines.runs n y at_y) (has_ended other also n y at_y) (second.lines.each n y at_y) in
        same_Some x y (sym cut_x
        ∙ ap (λ (items : List Made). line_cut (opening_cut claim.plan n) (closing_cut claim.plan n) (call_cut claim.plan n) 0 (get_or claim.plan.scripts n []) items) same ∙ cut_y)

  -- ---- the account

  all_ended : (account : Account) (misused : Option Misuse) → HasEnds claim account misused → IsStoppedBy claim account misused → AllEnded account
  all_ended account None ends stops = λ k d within. at_end (get_or account.lines k d).ending (ends.0 k d within)
  all_ended account (Some misuse) ends stops = stops.0

  -- the same line, with the same halts
  with_halts : (x y : Line) → before_halts x ≡ before_halts y → items_of x ≡ items_of y → x ≡ y
  with_halts x y aside items =
      let calm : calm_part x ≡ calm_part y = ap (λ (l : Line). calm_part l) aside in
      let both : calm_part x ++ x.halts ≡ calm_part x ++ y.halts =
      sym (cut_at x x.halts) ∙ items ∙ cut_at y y.halts ∙ ap (λ (l : List Made). l ++ y.halts) (sym calm) in
      let halts : x.halts ≡ y.halts = append_cancel_left (calm_part x) x.halts y.halts both in
      ap (λ (h : List Made). let l : Line = record x { halts = h } in l) halts ∙ ap (λ (l : Line). let m : Line = record l { halts = y.halts } in m) aside

  full_lines : (one other : Account) → HasHalts claim one → HasHalts claim other → map before_halts one.lines ≡ map before_halts other.lines → one.lines ≡ other.lines
  full_lines one other first second aside = same_by items_of one.lines other.lines (first.lists ∙ sym second.lists) apart where
    apart : (n : ℕ) (x y : Line) → slice_get one.lines n ≡ Some x → slice_get other.lines n ≡ Some y → items_of x ≡ items_of y → x ≡ y
    apart n x y at_x at_y same =
        let here = subst (λ (l : List Line). slice_get l n ≡ Some (before_halts x)) aside (at_each before_halts one.lines n x at_x) in
        with_halts x y (same_Some (before_halts x) (before_halts y) (sym here ∙ at_each before_halts other.lines n y at_y)) same

  left_back : (misused : Option Misuse) (left : Report) → left_by (outcome_by misused left) ≡ left
  left_back None left = refl
  left_back (Some misuse) left = refl

  same_ends : (one other : Account) → one.history ≡ other.history → (misused : Option Misuse) → HasEnds claim one misused → HasEnds claim other misused → one.left.ends ≡ other.left.ends
  same_ends one other history None first second =
      first.1 ∙ ap (λ (h : List SharedEntry). ends_in claim.plan (contents_after (contents_of claim.plan) h)) history ∙ sym second.1
  same_ends one other history (Some misuse) first second = first ∙ sym second

  same_replies : (one other : Account) → IsSpelt claim one → IsSpelt claim other → map before_halts one.lines ≡ map before_halts other.lines → one.left.replies ≡ other.left.replies
  same_replies one other first second aside =
      let mine = first.lines.replies ∙ ap (λ (left : Report). left.replies) (left_back claim.misused one.left) in
      let theirs = second.lines.replies ∙ ap (λ (left : Report). left.replies) (left_back claim.misused other.left) in
      sym mine ∙ ap (λ (lines : List Line). map replies_of lines) aside ∙ theirs

  same_left : (one other : Report) → one.replies ≡ other.replies → one.ends ≡ other.ends → one ≡ other
  same_left one other replies ends =
      ap (λ (rs : List (List (Reply ℕ))). let l : Report = record { replies = rs; ends = one.ends } in l) replies ∙ ap (λ (es : List End). let l : Report = record { replies = other.replies; ends = es } in l) ends

  same_account : (one other : Account) → one.history ≡ other.history → one.journals ≡ other.journals → one.lines ≡ other.lines → one.left ≡ other.left → one ≡ other
  same_account one other history journals lines left =
      ap (λ (h : List SharedEntry). let a : Account = record { history = h; journals = one.journals; lines = one.lines; left = one.left } in a) history
      ∙ ap (λ (js : List (List ObjectEntry)). let a : Account = record { history = other.history; journals = js; lines = one.lines; left = one.left } in a) journals
      ∙ ap (λ (ls : List Line). let a : Account = record { history = other.history; journals = other.journals; lines = ls; left = one.left } in a) lines
      ∙ ap (λ (l : Report). let a : Account = record { history = other.history; journals = other.journals; lines = other.lines; left = l } in a) left

  pub one_account : (one other : Account) → (IsLegallyPlaced claim one → IsLegallyPlaced claim other → one.history ≡ other.history) → ((c : Clause) → Holds claim one c) → ((c : Clause) → Holds claim other c) → one ≡ other
  one_account one other legal first second =
      let history = legal (first clause.Legal) (second clause.Legal) in
      let aside = lines_once one other (first clause.Spell) (second clause.Spell) (all_ended one claim.misused (first clause.End) (first clause.Stop).stopped) (all_ended other claim.misused (second clause.End) (second clause.Stop).stopped) in
      same_account one other history (journals_once claim one other (first clause.Machine) (second clause.Machine)) (full_lines one other (first clause.Stop) (second clause.Stop) aside)
      (same_left one.left other.left (same_replies one other (first clause.Spell) (second clause.Spell) aside) (same_ends one other history claim.misused (first clause.End) (second clause.End)))
