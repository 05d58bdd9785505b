-- Reading line by line.
use Rattle.std.proofs.Common.{◌≡◌, ◌↔◌, ℕ, ◌+◌, true, List, ◌∷◌, Option, Some, None, refl, sym, ap, subst, ◌∙◌, inl, inr}
use Rattle.std.specs.Prelude.{Result, Ok, Err}
use Rattle.workload.specs.declared.fault.LineFault.{LineFault}
use Rattle.workload.specs.declared.fault.LineFault.TheVariants as line_faults
use Rattle.workload.specs.declared.reason.Reason.{Reason}
use Rattle.workload.specs.declared.keyword.Dialect.{Dialect}
use Rattle.workload.specs.declared.keyword.Keyword.{Keyword}
use Rattle.workload.specs.declared.line.Line.{Line}
use Rattle.workload.specs.KeywordWords.{keyword_word, keyword_at}
use Rattle.workload.specs.Dialect.{knows, keyword_in}
use Rattle.workload.specs.Words.{keyword_of}
use Rattle.workload.specs.Draft.{Draft}
use Rattle.workload.specs.Plan.{Plan}
use Rattle.workload.specs.Checks.{checks_of, line_checks}
use Rattle.workload_text.specs.LineResult.{IsFault, IsLineOf, IsLine}
use Rattle.workload.specs.Reads.{IsRead, ReadsOn, FirstFault, IsFirstFault, fault_at}

-- what the lines that are left are read as, all lines are
pub record Goes (dialect : Dialect) (all : List (List ℕ)) (draft : Option Draft) (lines : List (List ℕ)) (next : ℕ) : Type 0 where
  pub reads : (plan : Plan) → ReadsOn dialect lines draft plan → ReadsOn dialect all None plan
  pub faults : (line : ℕ) (reason : Reason) → FirstFault dialect lines draft next line reason → FirstFault dialect all None 1 line reason

pub goes_start : (dialect : Dialect) (all : List (List ℕ)) → Goes dialect all None all 1
goes_start dialect all = record { reads = λ plan h. h; faults = λ line reason h. h }

-- one line is read
pub goes_on : (dialect : Dialect) (all : List (List ℕ)) (before after : Option Draft) (line : List ℕ) (lines : List (List ℕ)) (next : ℕ) → Goes dialect all before (line ∷ lines) next → IsRead dialect before line after → Goes dialect all after lines (next + 1)
goes_on dialect all before after line lines next h read = record {
  reads = λ plan k. h.reads plan (after, read, k);
  faults = λ at reason k. h.faults at reason (inr (after, read, k));
}

-- one line is refused
pub goes_wrong : (dialect : Dialect) (all : List (List ℕ)) (before : Option Draft) (line : List ℕ) (lines : List (List ℕ)) (next : ℕ) (fault : LineFault) → Goes dialect all before (line ∷ lines) next → IsFault (checks_of dialect before line) fault → IsFirstFault dialect all (fault_at next fault)
goes_wrong dialect all before line lines next line_faults.Memory h wrong = tt
goes_wrong dialect all before line lines next (line_faults.Refused reason) h wrong = h.faults next reason (inl (refl, wrong))

-- a line of the keyword that the word is
pub line_of_keyword : ((w : List ℕ) (k : Keyword) → keyword_at w ≡ Some k → w ≡ keyword_word k) → ((dialect : Dialect) (w : List ℕ) (k : Keyword) → keyword_in dialect w ≡ Some k ↔ (keyword_at w ≡ Some k) × (knows dialect k ≡ true))
    → (dialect : Dialect) (d : Draft) (word : List ℕ) (k : Keyword) (arguments : List (List ℕ)) (result : Result Line LineFault) → keyword_in dialect word ≡ Some k → IsLineOf d k arguments result → IsLine dialect d word arguments result
line_of_keyword spelled known dialect d word k arguments (Ok line) is h =
    let found = (known dialect word k).0 is in
    (h.0, ap (λ (w : List ℕ). w ∷ arguments) (spelled word k found.0 ∙ ap keyword_word (sym h.1)) ∙ ap (λ (ws : List (List ℕ)). keyword_word (keyword_of line) ∷ ws) (sym h.2), ap (knows dialect) h.1 ∙ found.1)
line_of_keyword spelled known dialect d word k arguments (Err fault) is h = subst (λ (o : Option Keyword). IsFault (line_checks d o arguments) fault) (sym is) h
