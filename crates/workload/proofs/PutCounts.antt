-- How many puts there are.
use Rattle.std.proofs.Common.{◌≡◌, ℕ, suc, ◌+◌, ◌<◌, ◌≤◌, List, [], ◌∷◌, drop, length, get_or, sym, ap, ◌∙◌, arith}
use Rattle.std.specs.Prelude.{count_by, sum_by}
use Rattle.std.proofs.lemmas.List.Sums.{count_by-le-length, sum_by-cons}
use Rattle.std.proofs.Math.Seq.{drop-cons}
use Rattle.script_calls.specs.declared.call.Call.{Call}
use Rattle.workload.specs.Puts.{is_put_at, puts_at}

-- no more than calls
few_puts : (place : ℕ) (scripts : List (List Call)) → puts_at place scripts ≤ sum_by length scripts
few_puts place [] = omega arith
few_puts place (script ∷ scripts) =
    omega (arith, few_puts place scripts, count_by-le-length (is_put_at place) script, sum_by-cons (count_by (is_put_at place)) script scripts, sum_by-cons (length {A = Call}) script scripts)

-- those of one script, and of the later ones
pub one_script : (place i : ℕ) (scripts : List (List Call)) (script : List Call) → i < length scripts → script ≡ get_or scripts i script
    → puts_at place (drop i scripts) ≡ count_by (is_put_at place) script + puts_at place (drop (suc i) scripts)
one_script place i scripts script below is =
    ap (puts_at place) (drop-cons scripts i script below ∙ ap (λ (s : List Call). s ∷ drop (suc i) scripts) (sym is)) ∙ sum_by-cons (count_by (is_put_at place)) script (drop (suc i) scripts)

-- what was counted, and the next script's puts
pub counted : (place i puts : ℕ) (scripts : List (List Call)) (script : List Call) → i < length scripts → script ≡ get_or scripts i script
    → puts + puts_at place (drop i scripts) ≡ puts_at place scripts → puts + count_by (is_put_at place) script ≤ sum_by length scripts
counted place i puts scripts script below is so_far = omega (arith, one_script place i scripts script below is, so_far, few_puts place scripts)

pub counted_all : (place puts rest : ℕ) (scripts : List (List Call)) → puts + rest ≡ puts_at place scripts → puts ≤ sum_by length scripts
counted_all place puts rest scripts so_far = omega (arith, so_far, few_puts place scripts)
