-- What a report with races shows.
use Rattle.std.proofs.Common.{◌≡◌, ◌<◌, ℕ, arith, List, [], ◌∷◌, ◌++◌, length, map, refl, sym, ap, ap₂, ◌∙◌, append_assoc, append-nil}
use Rattle.std.specs.Prelude.{codes, slice_get}
use Rattle.std.specs.Fmt.{decimal}
use Rattle.std.proofs.lemmas.Fmt.{decimal_digit}
use Rattle.std.specs.List.{flat_map}
use Rattle.std.proofs.lemmas.Grind.{flat_map-append}
use Rattle.std.proofs.lemmas.List.Concat.{flat_map-cons}
use Rattle.std.proofs.lemmas.List.Folds.{flat_map-map}
use Rattle.script_calls.specs.declared.outcome.Outcome.TheVariants as outcomes
use Rattle.script_calls.specs.declared.outcome.Report.{Report}
use Rattle.sync_types.specs.declared.end.End.{End}
use Rattle.workload.specs.Canonical.{behind_spaces, name_of}
use Rattle.workload.specs.Plan.{Plan}
use Rattle.workload_text.specs.ReportLines.{end_line}
use Rattle.run_report.specs.ReportText.{ends_text, report_text}
use Rattle.race_clocks.specs.declared.race.Race.{Race}
use Rattle.step_runner.specs.declared.ends.VariableEnd.{VariableEnd}
use Rattle.race_clocks.specs.RaceText.{count_line, place_text, race_line, races_text}
use Rattle.race_clocks.specs.Variables.{variable_end, with_variables}

-- pieces that are equal one by one make one text
same_pieces : {X : Type 0} (f g : X → List ℕ) → ((x : X) → f x ≡ g x) → (xs : List X) → flat_map f xs ≡ flat_map g xs
same_pieces f g same [] = refl
same_pieces f g same (x ∷ xs) = flat_map-cons f x xs ∙ ap₂ (λ (a b : List ℕ). a ++ b) (same x) (same_pieces f g same xs) ∙ sym (flat_map-cons g x xs)

-- words behind spaces, and what stands behind them
two_words : (a b z : List ℕ) → behind_spaces (a ∷ b ∷ []) ++ z ≡ 32 ∷ (a ++ (32 ∷ (b ++ z)))
two_words a b z = ap (λ (t : List ℕ). 32 ∷ t) (append_assoc a (32 ∷ (b ++ [])) z ∙ ap (λ (t : List ℕ). a ++ (32 ∷ (t ++ z))) (append-nil b))

three_words : (a x y z : List ℕ) → behind_spaces (a ∷ x ∷ y ∷ []) ++ z ≡ 32 ∷ (a ++ (32 ∷ (x ++ (32 ∷ (y ++ z)))))
three_words a x y z =
    ap (λ (t : List ℕ). 32 ∷ t)
    (append_assoc a (32 ∷ (x ++ (32 ∷ (y ++ [])))) z ∙ ap (λ (t : List ℕ). a ++ (32 ∷ t)) (append_assoc x (32 ∷ (y ++ [])) z ∙ ap (λ (t : List ℕ). x ++ (32 ∷ (t ++ z))) (append-nil y)))

-- texts that are put together one by one
three : (w d i z : List ℕ) → ((w ++ d) ++ i) ++ z ≡ w ++ (d ++ (i ++ z))
three w d i z = append_assoc (w ++ d) i z ∙ append_assoc w d (i ++ z)

five : (p a s b z : List ℕ) → (p ++ a ++ s ++ b ++ z) ≡ p ++ (a ++ (s ++ (b ++ z)))
five p a s b z = simp append_assoc

eleven : (p a s w d i t v e j z : List ℕ) → (p ++ a ++ s ++ w ++ d ++ i ++ t ++ v ++ e ++ j ++ z) ≡ p ++ (a ++ (s ++ (w ++ (d ++ (i ++ (t ++ (v ++ (e ++ (j ++ z)))))))))
eleven p a s w d i t v e j z = simp append_assoc

module _ (plan : Plan) where
  abbrev told : Race → List ℕ
  told race =
      codes "race " ++ name_of (slice_get plan.objects race.variable)
      ++ codes " " ++ decimal race.first.worker ++ codes "." ++ decimal race.first.index ++ codes " " ++ decimal race.second.worker ++ codes "." ++ decimal race.second.index ++ codes "\n"

  race_told : (race : Race) → race_line plan race ≡ told race
  race_told race =
      let a = name_of (slice_get plan.objects race.variable) in
      let w = decimal race.first.worker in
      let i = decimal race.first.index in
      let v = decimal race.second.worker in
      let j = decimal race.second.index in
      ap (λ (t : List ℕ). codes "race" ++ t)
      (three_words a (place_text race.first) (place_text race.second) (codes "\n")
      ∙ ap (λ (t : List ℕ). 32 ∷ (a ++ (32 ∷ t))) (three w (codes ".") i (32 ∷ (place_text race.second ++ codes "\n")))
      ∙ ap (λ (t : List ℕ). 32 ∷ (a ++ (32 ∷ (w ++ (codes "." ++ (i ++ (32 ∷ t))))))) (three v (codes ".") j (codes "\n")))
      ∙ sym (eleven (codes "race ") a (codes " ") w (codes ".") i (codes " ") v (codes ".") j (codes "\n"))

  count_told : (races : List Race) → count_line races ≡ codes "races " ++ decimal (length races) ++ codes "\n"
  count_told races = ap (λ (n : List ℕ). codes "races " ++ n ++ codes "\n") (append-nil (decimal (length races)))

  pub races_told : (races : List Race) → races_text plan races ≡ flat_map told races ++ (codes "races " ++ decimal (length races) ++ codes "\n")
  races_told races = ap₂ (λ (a b : List ℕ). a ++ b) (same_pieces (race_line plan) told race_told races) (count_told races)

  abbrev held : VariableEnd → List ℕ
  held variable = codes "end " ++ name_of (slice_get plan.objects variable.object) ++ codes " " ++ decimal variable.value ++ codes "\n"

  end_told : (variable : VariableEnd) → end_line plan (variable_end variable) ≡ held variable
  end_told variable =
      let a = name_of (slice_get plan.objects variable.object) in
      ap (λ (t : List ℕ). codes "end" ++ t) (two_words a (decimal variable.value) (codes "\n"))
      ∙ sym (five (codes "end ") a (codes " ") (decimal variable.value) (codes "\n"))

  ends_told : (ends : List End) (variables : List VariableEnd) → ends_text plan (ends ++ map variable_end variables) ≡ ends_text plan ends ++ flat_map held variables
  ends_told ends variables =
      flat_map-append (end_line plan) ends (map variable_end variables)
      ∙ ap (λ (t : List ℕ). ends_text plan ends ++ t) (flat_map-map (end_line plan) variable_end variables ∙ same_pieces (λ v. end_line plan (variable_end v)) held end_told variables)

  pub variables_told : (left : Report) (variables : List VariableEnd) → report_text plan (with_variables variables (outcomes.Done left)) ≡ report_text plan (outcomes.Done left) ++ flat_map held variables
  variables_told left variables = rw (ends_told left.ends variables) (sym (append_assoc _ (ends_text plan left.ends) (flat_map held variables)))

-- without variables nothing is added
pub no_variables : (left : Report) → left ≡ record left { ends = left.ends ++ [] }
no_variables left = ap (λ (ends : List End). record left { ends = ends }) (sym (append-nil left.ends))

-- without races there are 0
pub no_races : (plan : Plan) → races_text plan [] ≡ codes "races 0\n"
no_races plan =
    let low : 0 < 10 = omega arith in
    count_told plan [] ∙ ap (λ (n : List ℕ). codes "races " ++ n ++ codes "\n") (decimal_digit 0 low)
