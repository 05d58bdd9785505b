-- The lines of a report, one after the other.
use Rattle.std.proofs.Common.{◌≡◌, ℕ, zero, suc, ◌+◌, List, [], ◌∷◌, ◌++◌, ◌<◌, ◌≤◌, Bool, false, ◌&&◌, true, length, get_or, drop, refl, sym, ap, ◌∙◌, add-one, arith}
use Rattle.std.specs.List.{list_all}
use Rattle.std.proofs.Math.Seq.{drop-cons}
use Rattle.script_calls.specs.Runs.{passed_over}
use Rattle.script_calls.specs.declared.call.Call.{Call}
use Rattle.script_calls.specs.declared.call.Reply.{Reply}
use Rattle.std.proofs.Common.{inl, inr}
use Rattle.std.proofs.Math.Dec.{ltb}
use Rattle.std.proofs.lemmas.Bool.{eqb-true, lt-ltb, ltb-true, cases_lt}
use Rattle.workload.specs.Plan.{Plan, is_valid}
use Rattle.workload_text.specs.ReportLines.{completed_line}
use Rattle.run_report.specs.ReportText.{calls_text, completed_in, workers_text, completed_in_all}

-- no replies are left
pub workers_none : (plan : Plan) (worker : ℕ) (scripts : List (List Call)) (replies : List (List (Reply ℕ))) → replies ≡ [] → workers_text plan worker scripts replies ≡ []
workers_none plan worker scripts replies e = ap (workers_text plan worker scripts) e ∙ none scripts
  where
    none : (ss : List (List Call)) → workers_text plan worker ss [] ≡ []
    none [] = refl
    none (s ∷ ss) = refl

-- an item and those behind it
drop_at : {X : Type 0} (xs : List X) (i : ℕ) (x : X) → i < length xs → x ≡ get_or xs i x → drop i xs ≡ x ∷ drop (i + 1) xs
drop_at xs i x lt e = drop-cons xs i x lt ∙ ap (λ y. y ∷ drop (suc i) xs) (sym e) ∙ ap (λ n. x ∷ drop n xs) (sym (add-one i))

pub drop_item : {X : Type 0} (xs : List X) (i : ℕ) (d : X) → i < length xs → drop i xs ≡ get_or xs i d ∷ drop (i + 1) xs
drop_item xs i d lt = drop-cons xs i d lt ∙ ap (λ n. get_or xs i d ∷ drop n xs) (sym (add-one i))

-- The next reply is to the call at this place of the script
pub record Completes (script : List Call) (replies : List (Reply ℕ)) (place i : ℕ) (call : Call) (reply : Reply ℕ) : Type 0 where
  pub stands : drop place script ≡ call ∷ drop (place + 1) script
  pub over : drop (passed_over call reply) (drop (place + 1) script) ≡ drop (place + 1 + passed_over call reply) script
  pub answered : drop i replies ≡ reply ∷ drop (i + 1) replies

-- what is left behind so many calls that are passed over
abbrev pub GoesOver : Type 0
GoesOver = (script : List Call) (place passes : ℕ) → drop passes (drop (place + 1) script) ≡ drop (place + 1 + passes) script

pub completes : (script : List Call) (replies : List (Reply ℕ)) (place i : ℕ) (call : Call) (reply : Reply ℕ) → GoesOver
    → ltb place (length script) ≡ true → call ≡ get_or script place call → i < length replies → reply ≡ get_or replies i reply → Completes script replies place i call reply
completes script replies place i call reply over some is below answered = record {
  stands = drop_at script place call (ltb-true place (length script) some) is;
  over = over script place (passed_over call reply);
  answered = drop_at replies i reply below answered;
}

-- one more call: its line, and those from the next place on
pub calls_next : (plan : Plan) (worker place i : ℕ) (script : List Call) (replies : List (Reply ℕ)) (call : Call) (reply : Reply ℕ) (after : ℕ)
    → Completes script replies place i call reply → after ≡ place + 1 + passed_over call reply
    → calls_text plan worker place (drop place script) (drop i replies) ≡ completed_line plan worker place call reply ++ calls_text plan worker after (drop after script) (drop (i + 1) replies)
calls_next plan worker place i script replies call reply after here is =
    let line : List ℕ = completed_line plan worker place call reply in
    let passes : ℕ = passed_over call reply in
    ap (λ (cs : List Call). calls_text plan worker place cs (drop i replies)) here.stands
    ∙ ap (λ (rs : List (Reply ℕ)). calls_text plan worker place (call ∷ drop (place + 1) script) rs) here.answered
    ∙ ap (λ (cs : List Call). line ++ calls_text plan worker (place + 1 + passes) cs (drop (i + 1) replies)) here.over
    ∙ ap (λ (n : ℕ). line ++ calls_text plan worker n (drop n script) (drop (i + 1) replies)) (sym is)

-- one more worker
pub workers_next : (plan : Plan) (i : ℕ) (replies : List (List (Reply ℕ))) (completed : List (Reply ℕ))
    → i < length plan.scripts → ltb i (length replies) ≡ true → completed ≡ get_or replies i completed
    → workers_text plan i (drop i plan.scripts) (drop i replies) ≡ calls_text plan i 0 (get_or plan.scripts i []) completed ++ workers_text plan (i + 1) (drop (i + 1) plan.scripts) (drop (i + 1) replies)
workers_next plan i replies completed below some same =
    ap (λ (ss : List (List Call)). workers_text plan i ss (drop i replies)) (drop_item plan.scripts i [] below)
    ∙ ap (λ (rs : List (List (Reply ℕ))). workers_text plan i (get_or plan.scripts i [] ∷ drop (i + 1) plan.scripts) rs) (drop_at replies i completed (ltb-true i (length replies) some) same)

pub calls_one_line : (place i : ℕ) (script : List Call) (replies : List (Reply ℕ)) (call : Call) (reply : Reply ℕ) (after : ℕ)
    → Completes script replies place i call reply → after ≡ place + 1 + passed_over call reply
    → completed_in (drop place script) (drop i replies) ≡ suc (completed_in (drop after script) (drop (i + 1) replies))
calls_one_line place i script replies call reply after here is =
    ap (λ (cs : List Call). completed_in cs (drop i replies)) here.stands
    ∙ ap (λ (rs : List (Reply ℕ)). completed_in (call ∷ drop (place + 1) script) rs) here.answered
    ∙ ap (λ (cs : List Call). suc (completed_in cs (drop (i + 1) replies))) here.over
    ∙ ap (λ (n : ℕ). suc (completed_in (drop n script) (drop (i + 1) replies))) (sym is)

pub workers_no_lines : (scripts : List (List Call)) (replies : List (List (Reply ℕ))) → replies ≡ [] → completed_in_all scripts replies ≡ 0
workers_no_lines scripts replies e = ap (completed_in_all scripts) e ∙ none scripts
  where
    none : (ss : List (List Call)) → completed_in_all ss [] ≡ 0
    none [] = refl
    none (s ∷ ss) = refl

pub workers_more_lines : (i : ℕ) (scripts : List (List Call)) (replies : List (List (Reply ℕ))) (completed : List (Reply ℕ))
    → i < length scripts → ltb i (length replies) ≡ true → completed ≡ get_or replies i completed
    → completed_in_all (drop i scripts) (drop i replies) ≡ completed_in (get_or scripts i []) completed + completed_in_all (drop (i + 1) scripts) (drop (i + 1) replies)
workers_more_lines i scripts replies completed below some same =
    ap (λ (ss : List (List Call)). completed_in_all ss (drop i replies)) (drop_item scripts i [] below)
    ∙ ap (λ (rs : List (List (Reply ℕ))). completed_in_all (get_or scripts i [] ∷ drop (i + 1) scripts) rs) (drop_at replies i completed (ltb-true i (length replies) some) same)

and_left : (a b : Bool) → (a && b) ≡ true → a ≡ true
and_left true b e = refl
and_left false b e = e

and_right : (a b : Bool) → (a && b) ≡ true → b ≡ true
and_right true b e = e
and_right false b e = absurd cc

-- what each item of a list passes, the one at an index does
pub all_at : {X : Type 0} (p : X → Bool) (xs : List X) (i : ℕ) (x : X) → list_all p xs ≡ true → i < length xs → x ≡ get_or xs i x → p x ≡ true
all_at p [] i x all lt e = absurd (omega arith)
all_at p (y ∷ xs) zero x all lt e = ap p e ∙ and_left (p y) (list_all p xs) all
all_at p (y ∷ xs) (suc i) x all lt e = all_at p xs i x (and_right (p y) (list_all p xs) all) (omega arith) e

true_false : true ≡ false → ⊥
true_false e = cc

-- an index that isn't below
pub not_below : (i n : ℕ) → ltb i n ≡ false → n ≤ i
not_below i n e =
    elim (cases_lt i n) [
      | inl lt ↦ absurd (true_false (sym (lt-ltb i n lt) ∙ e))
      | inr le ↦ le
    ]

-- there is a script for each worker
pub scripts_are : (plan : Plan) → is_valid plan ≡ true → length plan.scripts ≡ plan.workers
scripts_are plan e = eqb-true (length plan.scripts) plan.workers (and_left _ _ e)
