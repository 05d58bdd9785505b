-- No two workloads are read from the same bytes.
use Rattle.std.proofs.Common.{◌≡◌, ℕ, ◌≤◌, true, false, List, [], ◌∷◌, Option, Some, None, refl, sym, ap, subst, ◌∙◌, arith}
use Rattle.std.specs.Prelude.{MatchOption}
use Rattle.std.specs.Fmt.{decimal}
use Rattle.std.proofs.lemmas.Fmt.{decimal_injective}
use Rattle.workload.specs.declared.limits.TheConstants.{MAX_WORKERS}
use Rattle.workload.specs.declared.keyword.Dialect.{Dialect}
use Rattle.workload.specs.declared.line.Line.{Line}
use Rattle.workload.specs.declared.line.Line.TheVariants as lines
use Rattle.workload.specs.Plan.{Plan}
use Rattle.workload.specs.Lines.{lines_of, words_of, is_significant}
use Rattle.workload.specs.Draft.{Draft, started, with_line}
use Rattle.workload.specs.Reads.{IsRead, ReadsIn}
use Rattle.workload.proofs.SameLine.{same_line}
use Rattle.workload.proofs.Says.{Says, IsSaid, SaysOn, is_said, on_says}

-- a draft has at most 32 workers
abbrev pub IsSmall : Option Draft → Type 0
IsSmall draft = MatchOption draft (Unit {0}) (λ d. d.plan.workers ≤ MAX_WORKERS)

one_word : (x y : List ℕ) (a b : List ℕ) → a ∷ x ∷ [] ≡ b ∷ y ∷ [] → x ≡ y
one_word x y a b e = cc

pub some_is : {X : Type 0} (x y : X) → Some x ≡ Some y → x ≡ y
some_is x y e = cc

pub line_small : (d : Draft) (line : Line) → d.plan.workers ≤ MAX_WORKERS → (with_line d line).plan.workers ≤ MAX_WORKERS
line_small d (lines.Object o to) h = h
line_small d (lines.Dormant w) h = h
line_small d (lines.Worker w) h = h
line_small d (lines.Schedule ts) h = h
line_small d (lines.Call n r c) h = h

says_small : (before : Option Draft) (words : List (List ℕ)) (after : Option Draft) → IsSmall before → Says before words after → IsSmall after
says_small None words after small h = subst IsSmall (sym h.4) h.2
says_small (Some d) words after small h = subst IsSmall (sym h.3) (line_small d h.0 small)

same_words : (before : Option Draft) (words : List (List ℕ)) (a b : Option Draft) → IsSmall before → Says before words a → Says before words b → a ≡ b
same_words None words a b small h k =
    let workers = decimal_injective h.0 k.0 (omega (arith, h.2)) (omega (arith, k.2)) (one_word (decimal h.0) (decimal k.0) _ _ (sym h.3 ∙ k.3)) in
    h.4 ∙ ap (λ (n : ℕ). Some (started n)) workers ∙ sym k.4
same_words (Some d) words a b small h k =
    h.3 ∙ ap (λ (l : Line). Some (with_line d l)) (same_line d h.0 k.0 small h.1 k.1 (sym h.2 ∙ k.2)) ∙ sym k.3

said_small : (before : Option Draft) (line : List ℕ) (after : Option Draft) → IsSmall before → IsSaid before line after → IsSmall after
said_small before line after small h =
    elim (is_significant (words_of line)) as (λ b. is_significant (words_of line) ≡ b → IsSmall after) [
      | true ↦ λ t. says_small before (words_of line) after small (h.says t)
      | false ↦ λ f. subst IsSmall (sym (h.silent f)) small
    ] refl

-- a line makes one draft
same_said : (before : Option Draft) (line : List ℕ) (a b : Option Draft) → IsSmall before → IsSaid before line a → IsSaid before line b → a ≡ b
same_said before line a b small h k =
    elim (is_significant (words_of line)) as (λ t. is_significant (words_of line) ≡ t → a ≡ b) [
      | true ↦ λ t. same_words before (words_of line) a b small (h.says t) (k.says t)
      | false ↦ λ f. h.silent f ∙ sym (k.silent f)
    ] refl

-- lines say one plan
pub same_saying : (lines : List (List ℕ)) (before : Option Draft) (p q : Plan) → IsSmall before → SaysOn lines before p → SaysOn lines before q → p ≡ q
same_saying [] None p q small h k = absurd h
same_saying [] (Some d) p q small h k = h ∙ sym k
same_saying (line ∷ lines) before p q small h k =
    let after = same_said before line h.0 k.0 small h.1 k.1 in
    same_saying lines h.0 p q (said_small before line h.0 small h.1) h.2 (subst (λ (d : Option Draft). SaysOn lines d q) (sym after) k.2)

-- the same of a line of a dialect
pub read_small : (dialect : Dialect) (before : Option Draft) (line : List ℕ) (after : Option Draft) → IsSmall before → IsRead dialect before line after → IsSmall after
read_small dialect before line after small h = said_small before line after small (is_said dialect before line after h)

pub same_read : (dialect : Dialect) (before : Option Draft) (line : List ℕ) (a b : Option Draft) → IsSmall before → IsRead dialect before line a → IsRead dialect before line b → a ≡ b
same_read dialect before line a b small h k = same_said before line a b small (is_said dialect before line a h) (is_said dialect before line b k)

pub one_reading : (dialect : Dialect) (bytes : List ℕ) (p q : Plan) → ReadsIn dialect bytes p → ReadsIn dialect bytes q → p ≡ q
one_reading dialect bytes p q h k = same_saying (lines_of bytes) None p q tt (on_says dialect (lines_of bytes) None p h.lines) (on_says dialect (lines_of bytes) None q k.lines)
