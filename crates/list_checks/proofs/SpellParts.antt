-- Parts that were found, put together.
use Rattle.std.proofs.Common.{◌≡◌, ℕ, ◌≤◌, List, [], length, drop, Ok, Err, Result, refl, sym, ap, ◌∙◌, arith}
use Rattle.std.specs.List.{slice_range}
use Rattle.sync_model.specs.declared.answer.Answer.TheVariants.{Done, Halted}
use Rattle.run_record.specs.declared.made.Made.{Made}
use Rattle.run_cuts.specs.Cuts.{Beginning, whole, wrong, Cutter, behind, by_beginning, read_beginning, returns_cut}
use Rattle.list_checks.specs.SpellFound.{IsFound}
use Rattle.list_checks.specs.declared.spell.spelt.Spelt.{Spelt}
use Rattle.list_checks.specs.declared.spell.spelt.Stop.{Stop}
use Rattle.list_checks.specs.declared.spell.spelt.Stop.TheVariants as stop
use Rattle.list_checks.proofs.SpellLists.{joined, nothing}
use Rattle.list_checks.proofs.SpellStages.{behind_nothing}

abbrev pub spelt_at : {O : Type 0} → ℕ → O → Spelt O
spelt_at end outcome = record { end = end; outcome = outcome }

-- what was found behind a place stands behind what is before it
pub later : {O : Type 0} (list : List Made) (from at : ℕ) (all beginning : Beginning O) (found : Result (Spelt O) Stop)
    → from ≤ at → all ≡ behind (slice_range list from at) beginning → IsFound list at beginning found → IsFound list from all found
later list from at all beginning (Ok spelt) along is found = record {
  is = is ∙ ap (behind (slice_range list from at)) found.is ∙ ap (λ (items : List Made). whole items (Done (Ok spelt.outcome)) (drop spelt.end list)) (joined list from at spelt.end along found.ends.0);
  ends = (omega (arith, along, found.ends.0), found.ends.1);
}
later list from at all beginning (Err (stop.Misused end misuse)) along is found = record {
  is = is ∙ ap (behind (slice_range list from at)) found.is ∙ ap (λ (items : List Made). whole items (Done (Err misuse)) (drop end list)) (joined list from at end along found.ends.0);
  ends = (omega (arith, along, found.ends.0), found.ends.1);
}
later list from at all beginning (Err (stop.Halted end misuse)) along is found = record {
  is = is ∙ ap (behind (slice_range list from at)) found.is ∙ ap (λ (items : List Made). whole items (Halted misuse) (drop end list)) (joined list from at end along found.ends.0);
  ends = (omega (arith, along, found.ends.0), found.ends.1);
}
later list from at all beginning (Err stop.Within) along is found = record { is = is ∙ ap (behind (slice_range list from at)) found.is; ends = tt }
later list from at all beginning (Err stop.Wrong) along is found = record { is = is ∙ ap (behind (slice_range list from at)) found.is; ends = tt }

module _ {O P : Type 0} (list : List Made) (from : ℕ) where
  -- a part that was found, and the next one behind it
  pub then_found : (first : Beginning O) (next : O → Cutter P) (spelt : Spelt O) (found : Result (Spelt P) Stop)
      → IsFound list from first (Ok spelt) → IsFound list spelt.end (next spelt.outcome (drop spelt.end list)) found → IsFound list from (by_beginning next first) found
  then_found first next spelt found before behind_it =
      later list from spelt.end (by_beginning next first) (next spelt.outcome (drop spelt.end list)) found before.ends.0 (ap (by_beginning next) before.is) behind_it

  -- nothing comes behind a part that isn't done
  pub then_stopped : (first : Beginning O) (next : O → Cutter P) (stopped : Stop) → IsFound list from first (Err stopped) → IsFound list from (by_beginning next first) (Err stopped)
  then_stopped first next (stop.Misused end misuse) found = record { is = ap (by_beginning next) found.is; ends = found.ends }
  then_stopped first next (stop.Halted end misuse) found = record { is = ap (by_beginning next) found.is; ends = found.ends }
  then_stopped first next stop.Within found = record { is = ap (by_beginning next) found.is; ends = tt }
  then_stopped first next stop.Wrong found = record { is = ap (by_beginning next) found.is; ends = tt }

  -- a part whose outcome is read
  pub read_found : (first : Beginning O) (f : O → P) (spelt : Spelt O) → IsFound list from first (Ok spelt) → IsFound list from (read_beginning f first) (Ok (spelt_at spelt.end (f spelt.outcome)))
  read_found first f spelt found = record { is = ap (read_beginning f) found.is; ends = found.ends }

  pub read_stopped : (first : Beginning O) (f : O → P) (stopped : Stop) → IsFound list from first (Err stopped) → IsFound list from (read_beginning f first) (Err stopped)
  read_stopped first f (stop.Misused end misuse) found = record { is = ap (read_beginning f) found.is; ends = found.ends }
  read_stopped first f (stop.Halted end misuse) found = record { is = ap (read_beginning f) found.is; ends = found.ends }
  read_stopped first f stop.Within found = record { is = ap (read_beginning f) found.is; ends = tt }
  read_stopped first f stop.Wrong found = record { is = ap (read_beginning f) found.is; ends = tt }

-- nothing is made
pub returned : {O : Type 0} (list : List Made) (from : ℕ) (outcome : O) → from ≤ length list → IsFound list from (returns_cut outcome (drop from list)) (Ok (spelt_at from outcome))
returned list from outcome within_it = record { is = ap (λ (items : List Made). whole items (Done (Ok outcome)) (drop from list)) (sym (nothing list from)); ends = (omega arith, within_it) }

-- nothing is there
pub never_found : {O : Type 0} (list : List Made) (from : ℕ) → IsFound {O = O} list from wrong (Err stop.Wrong)
never_found list from = record { is = refl; ends = tt }

-- with nothing before it
pub behind_none : {O : Type 0} (list : List Made) (from : ℕ) (beginning : Beginning O) (found : Result (Spelt O) Stop) → IsFound list from beginning found → IsFound list from (behind [] beginning) found
behind_none list from beginning found is = record { is = behind_nothing beginning ∙ is.is; ends = is.ends }
