-- What the lines of a text say, whatever dialect it is of.
use Rattle.std.proofs.Common.{◌≡◌, ℕ, ◌<◌, ◌≤◌, true, false, List, [], ◌∷◌, Option, Some, None}
use Rattle.workload.specs.declared.keyword.Dialect.{Dialect}
use Rattle.workload.specs.declared.limits.TheConstants.{MAX_WORKERS}
use Rattle.workload.specs.declared.line.Line.{Line}
use Rattle.workload.specs.Draft.{Draft, started, with_line, may_follow}
use Rattle.workload.specs.Lines.{words_of, is_short, is_clean, is_significant}
use Rattle.workload.specs.Plan.{Plan}
use Rattle.workload.specs.Reads.{Continues, IsRead, ReadsOn}
use Rattle.workload.specs.Words.{spelled, first_spelled}

-- what words that say something make of the draft so far
abbrev pub Says : Option Draft → List (List ℕ) → Option Draft → Type 0
Says None words after = (workers : ℕ) × (0 < workers) × (workers ≤ MAX_WORKERS) × (words ≡ first_spelled workers) × (after ≡ Some (started workers))
Says (Some draft) words after = (line : Line) × (may_follow draft line ≡ true) × (words ≡ spelled line) × (after ≡ Some (with_line draft line))

-- what a line makes of it
pub record IsSaid (before : Option Draft) (line : List ℕ) (after : Option Draft) : Type 0 where
  pub short : is_short line ≡ true
  pub clean : is_clean line ≡ true
  pub silent : is_significant (words_of line) ≡ false → after ≡ before
  pub says : is_significant (words_of line) ≡ true → Says before (words_of line) after

-- the lines make the plan of the draft so far
abbrev pub SaysOn : List (List ℕ) → Option Draft → Plan → Type 0
SaysOn [] None plan = ⊥
SaysOn [] (Some draft) plan = plan ≡ draft.plan
SaysOn (line ∷ lines) before plan = (after : Option Draft) × IsSaid before line after × SaysOn lines after plan

-- lines of a dialect say what they are read as
says : (dialect : Dialect) (before : Option Draft) (words : List (List ℕ)) (after : Option Draft) → Continues dialect before words after → Says before words after
says dialect None words after h = h
says dialect (Some d) words after h = (h.0, h.1, h.2, h.3)

pub is_said : (dialect : Dialect) (before : Option Draft) (line : List ℕ) (after : Option Draft) → IsRead dialect before line after → IsSaid before line after
is_said dialect before line after h = record { short = h.short; clean = h.clean; silent = h.silent; says = λ speaks. says dialect before (words_of line) after (h.continues speaks) }

pub on_says : (dialect : Dialect) (texts : List (List ℕ)) (before : Option Draft) (plan : Plan) → ReadsOn dialect texts before plan → SaysOn texts before plan
on_says dialect [] None plan h = h
on_says dialect [] (Some d) plan h = h
on_says dialect (text ∷ texts) before plan h = (h.0, is_said dialect before text h.0 h.1, on_says dialect texts h.0 plan h.2)
