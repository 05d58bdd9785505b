-- The lines of a report within a record's text.
use Rattle.std.proofs.Common.{◌≡◌, ℕ, ◌+◌, ◌≤◌, Bool, true, false, ◌&&◌, List, [], ◌∷◌, ◌++◌, length, drop, refl, sym, ap, ◌∙◌, inl, inr}
use Rattle.std.specs.List.{list_all}
use Rattle.std.proofs.Math.Seq.{drop_at}
use Rattle.workload.specs.Lines.{lines_of}
use Rattle.record_text.specs.declared.limits.TheConstants.{MAX_RECORD}
use Rattle.record_text.specs.Refused.{FirstLong}
use Rattle.record_text.specs.Told.{is_short_line}
use Rattle.scheduled_record.specs.Pushed.{Gains, has_place}
use Rattle.scheduled_record.proofs.Gaining.{and_true, and_false, gains_both, has_place_where, placed}

-- of some lines one is long
pub long_lines : (lines : List (List ℕ)) (next line : ℕ) → FirstLong lines next line → list_all is_short_line lines ≡ false
long_lines [] next line long = absurd long
long_lines (text ∷ texts) next line (inl here) = ap (λ b. b && list_all is_short_line texts) here.0
long_lines (text ∷ texts) next line (inr later) = and_false (is_short_line text) (list_all is_short_line texts) (long_lines texts (next + 1) line later.1)

-- what stands behind the lines before the report is the report
report_behind : (mid new report : List ℕ) (start : ℕ) → start ≡ length mid → Gains mid new report true true → drop start new ≡ report
report_behind mid new report start at gains = ap (drop start) (gains.gained refl) ∙ drop_at mid report start (sym at)

-- where the lines before the report and the report fit, all fits exactly where the report's lines are short
pub all_gained : (old mid new lines report text : List ℕ) (short fits : Bool) (start : ℕ) → Gains old mid lines short true → Gains mid new report true true → start ≡ length mid → text ≡ new
    → fits ≡ list_all is_short_line (lines_of (drop start text)) → Gains old new (lines ++ report) (short && list_all is_short_line (lines_of report)) fits
all_gained old mid new lines report text short fits start first second at is fit =
    let both = gains_both old mid new lines report short true true first second in
    let place = placed old (lines ++ report) (short && true) (sym both.is) in
    let shorts : list_all is_short_line (lines_of (drop start text)) ≡ list_all is_short_line (lines_of report) = ap (λ t. list_all is_short_line (lines_of (drop start t))) is ∙ ap (λ t. list_all is_short_line (lines_of t)) (report_behind mid new report start at second) in
    let yes : short ≡ true = (and_true short true place.1).0 in
    record {
      is = fit ∙ shorts ∙ sym (has_place_of old (lines ++ report) (list_all is_short_line (lines_of report)) place.0) ∙ ap (λ b. has_place old (lines ++ report) (b && list_all is_short_line (lines_of report))) (sym yes);
      gained = λ _. both.gained refl;
    }
  where
    has_place_of : (text piece : List ℕ) (b : Bool) → length text + length piece ≤ MAX_RECORD → has_place text piece b ≡ b
    has_place_of text piece true le = has_place_where text piece true le refl
    has_place_of text piece false le = and_false _ false refl
