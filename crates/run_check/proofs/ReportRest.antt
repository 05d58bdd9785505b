-- What is left of bytes behind the lines of a report, one after the other.
use Rattle.std.proofs.Common.{◌≡◌, ℕ, zero, suc, ◌+◌, List, [], ◌∷◌, ◌++◌, ◌<◌, ◌≤◌, Bool, false, ◌&&◌, true, length, get_or, drop, refl, sym, ap, ◌∙◌, add-one, append_assoc, arith, Option, Some, None}
use Rattle.std.specs.Borrow.{Bor}
use Rattle.std.specs.List.{list_all}
use Rattle.std.proofs.Math.Seq.{drop-cons}
use Rattle.std.proofs.Common.{inl, inr}
use Rattle.std.proofs.Math.Dec.{ltb}
use Rattle.std.proofs.lemmas.Bool.{cases_lt, eqb-true, lt-ltb, ltb-true}
use Rattle.script_calls.specs.Runs.{passed_over}
use Rattle.script_calls.specs.declared.call.Call.{Call}
use Rattle.script_calls.specs.declared.call.Reply.{Reply}
use Rattle.workload.specs.Plan.{Plan, is_valid}
use Rattle.workload_text.specs.ReportLines.{completed_line}
use Rattle.run_report.specs.ReportText.{calls_text, workers_text}
use Rattle.run_check.specs.Rest.{IsRest}

-- what is left behind all is what is left behind what is still to come
pub record Goes (bytes whole rest text : List ℕ) : Type 0 where
  pub forth : (left : List ℕ) → bytes ≡ whole ++ left → rest ≡ text ++ left
  pub back : (left : List ℕ) → rest ≡ text ++ left → bytes ≡ whole ++ left

pub begins : (bytes whole : List ℕ) → Goes bytes whole bytes whole
begins bytes whole = record { forth = λ left is. is; back = λ left is. is }

pub same_behind : (front xs ys : List ℕ) → front ++ xs ≡ front ++ ys → xs ≡ ys
same_behind [] xs ys e = e
same_behind (x ∷ front) xs ys e = same_behind front xs ys (let rest : front ++ xs ≡ front ++ ys = cc in rest)

-- behind one more piece
pub goes_on : (bytes whole rest text piece later : List ℕ) (next : List ℕ) → text ≡ piece ++ later → rest ≡ piece ++ next → Goes bytes whole rest text → Goes bytes whole next later
goes_on bytes whole rest text piece later next is cut goes = record {
  forth = λ left all. same_behind piece next (later ++ left) (sym cut ∙ goes.forth left all ∙ ap (λ t. t ++ left) is ∙ append_assoc piece later left);
  back = λ left more. goes.back left (cut ∙ ap (λ r. piece ++ r) more ∙ sym (append_assoc piece later left) ∙ ap (λ t. t ++ left) (sym is));
}

-- a piece that doesn't come next
pub goes_wrong : (bytes whole rest text piece later : List ℕ) → text ≡ piece ++ later → ((left : List ℕ) → rest ≡ piece ++ left → ⊥) → Goes bytes whole rest text → (left : List ℕ) → bytes ≡ whole ++ left → ⊥
goes_wrong bytes whole rest text piece later is none goes left all = none (later ++ left) (goes.forth left all ∙ ap (λ t. t ++ left) is ∙ append_assoc piece later left)

-- nothing is to come
pub goes_end : (bytes whole rest text : List ℕ) → text ≡ [] → Goes bytes whole rest text → bytes ≡ whole ++ rest
goes_end bytes whole rest text none goes = goes.back rest (ap (λ t. t ++ rest) (sym none))

pub alone : (bytes text rest : List ℕ) → bytes ≡ text ++ rest → rest ≡ [] → bytes ≡ text
alone bytes text rest is none = is ∙ ap (λ r. text ++ r) none ∙ right text where
  right : (xs : List ℕ) → xs ++ [] ≡ xs
  right [] = refl
  right (x ∷ xs) = ap (λ ys. x ∷ ys) (right xs)

pub nothing_behind : (xs : List ℕ) → xs ++ [] ≡ xs
nothing_behind [] = refl
nothing_behind (x ∷ xs) = ap (λ ys. x ∷ ys) (nothing_behind xs)

-- one text behind another
pub rest_after : (bytes first rest second : List ℕ) (result : Option (Bor (List ℕ))) → bytes ≡ first ++ rest → IsRest rest second result → IsRest bytes (first ++ second) result
rest_after bytes first rest second None cut none = λ left is. none left (same_behind first rest (second ++ left) (sym cut ∙ is ∙ append_assoc first second left))
rest_after bytes first rest second (Some left) cut is = cut ∙ ap (λ r. first ++ r) is ∙ sym (append_assoc first second left.now)

-- ---- the lines

-- no replies are left
pub workers_none : (plan : Plan) (worker : ℕ) (scripts : List (List Call)) (replies : List (List (Reply ℕ))) → replies ≡ [] → workers_text plan worker scripts replies ≡ []
workers_none plan worker scripts replies e = ap (workers_text plan worker scripts) e ∙ none scripts
  where
    none : (ss : List (List Call)) → workers_text plan worker ss [] ≡ []
    none [] = refl
    none (s ∷ ss) = refl

drop_at : {X : Type 0} (xs : List X) (i : ℕ) (x : X) → i < length xs → x ≡ get_or xs i x → drop i xs ≡ x ∷ drop (i + 1) xs
drop_at xs i x lt e = drop-cons xs i x lt ∙ ap (λ y. y ∷ drop (suc i) xs) (sym e) ∙ ap (λ n. x ∷ drop n xs) (sym (add-one i))

pub drop_item : {X : Type 0} (xs : List X) (i : ℕ) (d : X) → i < length xs → drop i xs ≡ get_or xs i d ∷ drop (i + 1) xs
drop_item xs i d lt = drop-cons xs i d lt ∙ ap (λ n. get_or xs i d ∷ drop n xs) (sym (add-one i))

-- what is left behind so many calls that are passed over
abbrev pub GoesOver : Type 0
GoesOver = (script : List Call) (place passes : ℕ) → drop passes (drop (place + 1) script) ≡ drop (place + 1 + passes) script

-- one more call: its line, and those from the next place on
pub calls_next : (plan : Plan) (worker place i : ℕ) (script : List Call) (replies : List (Reply ℕ)) (call : Call) (reply : Reply ℕ) (after : ℕ) → GoesOver
    → ltb place (length script) ≡ true → call ≡ get_or script place call → i < length replies → reply ≡ get_or replies i reply → after ≡ place + 1 + passed_over call reply
    → calls_text plan worker place (drop place script) (drop i replies) ≡ completed_line plan worker place call reply ++ calls_text plan worker after (drop after script) (drop (i + 1) replies)
calls_next plan worker place i script replies call reply after over some call_is below reply_is is =
    let line : List ℕ = completed_line plan worker place call reply in
    let passes : ℕ = passed_over call reply in
    ap (λ (cs : List Call). calls_text plan worker place cs (drop i replies)) (drop_at script place call (ltb-true place (length script) some) call_is)
    ∙ ap (λ (rs : List (Reply ℕ)). calls_text plan worker place (call ∷ drop (place + 1) script) rs) (drop_at replies i reply below reply_is)
    ∙ ap (λ (cs : List Call). line ++ calls_text plan worker (place + 1 + passes) cs (drop (i + 1) replies)) (over script place passes)
    ∙ ap (λ (n : ℕ). line ++ calls_text plan worker n (drop n script) (drop (i + 1) replies)) (sym is)

-- one more worker
pub workers_next : (plan : Plan) (i : ℕ) (replies : List (List (Reply ℕ))) (completed : List (Reply ℕ))
    → i < length plan.scripts → ltb i (length replies) ≡ true → completed ≡ get_or replies i completed
    → workers_text plan i (drop i plan.scripts) (drop i replies) ≡ calls_text plan i 0 (get_or plan.scripts i []) completed ++ workers_text plan (i + 1) (drop (i + 1) plan.scripts) (drop (i + 1) replies)
workers_next plan i replies completed below some same =
    ap (λ (ss : List (List Call)). workers_text plan i ss (drop i replies)) (drop_item plan.scripts i [] below)
    ∙ ap (λ (rs : List (List (Reply ℕ))). workers_text plan i (get_or plan.scripts i [] ∷ drop (i + 1) plan.scripts) rs) (drop_at replies i completed (ltb-true i (length replies) some) same)

and_left : (a b : Bool) → (a && b) ≡ true → a ≡ true
and_left true b e = refl
and_left false b e = e

and_right : (a b : Bool) → (a && b) ≡ true → b ≡ true
and_right true b e = e
and_right false b e = absurd cc

-- what each item of a list passes, the one at an index does
pub all_at : {X : Type 0} (p : X → Bool) (xs : List X) (i : ℕ) (x : X) → list_all p xs ≡ true → i < length xs → x ≡ get_or xs i x → p x ≡ true
all_at p [] i x all lt e = absurd (omega arith)
all_at p (y ∷ xs) zero x all lt e = ap p e ∙ and_left (p y) (list_all p xs) all
all_at p (y ∷ xs) (suc i) x all lt e = all_at p xs i x (and_right (p y) (list_all p xs) all) (omega arith) e

true_false : true ≡ false → ⊥
true_false e = cc

-- an index that isn't below
pub not_below : (i n : ℕ) → ltb i n ≡ false → n ≤ i
not_below i n e =
    elim (cases_lt i n) [
      | inl lt ↦ absurd (true_false (sym (lt-ltb i n lt) ∙ e))
      | inr le ↦ le
    ]

-- there is a script for each worker
pub scripts_are : (plan : Plan) → is_valid plan ≡ true → length plan.scripts ≡ plan.workers
scripts_are plan e = eqb-true (length plan.scripts) plan.workers (and_left _ _ e)
