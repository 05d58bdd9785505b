use Rattle.std.proofs.Common.{rules, ◌≡◌, true, codes, Option, sym, subst}
use Rattle.sync_types.specs.declared.misuse.Misuse.{Misuse}
use Rattle.record_text.specs.Reading.{IsRead}
use Rattle.record_text.specs.Told.{outcome_line}
use Rattle.record_text.proofs.LineLemmas.{no_beginning}
use Rattle.record_text.proofs.line_reading.read_outcome.Goals as goal

pub returns-in_err-word : goal.returns-in_err-word
returns-in_err-word c =
    let done : codes "outcome done" ≡ c.args.line.now → ⊥ = search rules in
    subst (λ (read : Option (Option Misuse)). IsRead (λ misused. true) outcome_line c.args.line.now read) (sym c.from_residual.ensures) (no_beginning c.args.line.now done c.in_err-word.ensures)
