-- A line behind the line `record`.
use Rattle.std.proofs.Common.{◌≡◌, ℕ, ◌≤◌, true, false, List, ◌++◌, drop, length, codes, Option, Some, None, refl, sym, ap, ◌∙◌}
use Rattle.sync_types.specs.declared.misuse.Misuse.{Misuse}
use Rattle.std.proofs.lemmas.Bool.{false≢true, leb-true, le-leb}
use Rattle.workload.specs.Plan.{Plan}
use Rattle.record_text.specs.declared.item_line.ItemLine.{ItemLine}
use Rattle.record_text.specs.declared.limits.TheConstants.{MAX_ITEMS, MAX_RECORD_LINE}
use Rattle.record_text.specs.EventWords.{misuse_word}
use Rattle.record_text.specs.ItemLines.{IsItemLine, is_item, item_words, spaced}
use Rattle.record_text.specs.Reading.{IsNone}
use Rattle.record_text.specs.RecordLines.{IsNoRecordLine}
use Rattle.record_text.specs.Refused.{IsNoOutcome}
use Rattle.record_text.specs.Told.{is_short_line, outcome_line}

-- a line of neither beginning is none
pub no_beginning : (line : List ℕ) → (codes "outcome done" ≡ line → ⊥) → ((word : List ℕ) → line ≡ codes "outcome misused " ++ word → ⊥) → IsNone (λ (misused : Option Misuse). true) outcome_line line
no_beginning line done none None fits is = done is
no_beginning line done none (Some misuse) fits is = none (misuse_word misuse) (sym is)

-- nor is one whose last word names no misuse
pub no_misuse : (line word : List ℕ) → (codes "outcome done" ≡ line → ⊥) → line ≡ codes "outcome misused " ++ word → IsNone (λ (misuse : Misuse). true) misuse_word word → IsNone (λ (misused : Option Misuse). true) outcome_line line
no_misuse line word done cut none None fits is = done is
no_misuse line word done cut none (Some misuse) fits is = none misuse refl (ap (drop 16) (is ∙ cut))

no_outcome : (text : List ℕ) → IsNone (λ misused. true) outcome_line text → IsNoOutcome text
no_outcome text none misused is = none misused refl is

pub too_many : (plan : Plan) (text : List ℕ) (taken : ℕ) → IsNone (λ misused. true) outcome_line text → MAX_ITEMS ≤ taken → IsNoRecordLine plan text taken
too_many plan text taken none many = (no_outcome text none, λ item is. many)

pub too_long : (plan : Plan) (text : List ℕ) (taken : ℕ) → IsNone (λ misused. true) outcome_line text → is_short_line text ≡ false → IsNoRecordLine plan text taken
too_long plan text taken none long = (no_outcome text none, λ item is. absurd (false≢true (sym long ∙ le-leb (length text) MAX_RECORD_LINE is.short)))

pub no_item : (plan : Plan) (text : List ℕ) (taken : ℕ) → IsNone (λ misused. true) outcome_line text → IsNone (is_item plan) (item_words plan) (spaced text) → IsNoRecordLine plan text taken
no_item plan text taken none bad = (no_outcome text none, λ item is. absurd (bad item is.fits is.words))

pub an_item : (plan : Plan) (text : List ℕ) (taken : ℕ) (item : ItemLine) → is_short_line text ≡ true → is_item plan item ≡ true → item_words plan item ≡ spaced text → IsItemLine plan text item
an_item plan text taken item short fits words = record { short = leb-true (length text) MAX_RECORD_LINE short; fits = fits; words = words }
