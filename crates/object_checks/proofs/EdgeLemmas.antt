-- The journals of all objects keep the edge law.
use Rattle.std.proofs.Common.{◌≡◌, ◌⊎◌, inl, inr, ℕ, ◌+◌, ◌<◌, ◌≤◌, List, [], length, get_or, sym, subst, ap, arith}
use Rattle.std.proofs.Math.Nat.{eq-or-lt_of_le}
use Rattle.std.proofs.lemmas.Bool.Decides.{leb_tells}
use Rattle.std.proofs.lemmas.List.{get_or_past}
use Rattle.sync_model.specs.Journal.{KeepsEdges}
use Rattle.run_record.specs.Edges.{frees, takes}
use Rattle.object_checks.specs.declared.journals.row.Row.{Row}
use Rattle.object_checks.specs.JournalItems.{HaveFronts, entries_in_row, journals_in}
use Rattle.object_checks.specs.JournalParts.{KeepAllEdges}
use Rattle.object_checks.proofs.Lifting.{none_keep}
use Rattle.object_checks.proofs.JournalsIn.{mapped}

module _ (rows : List (List Row)) where
  -- those of the first n objects
  abbrev pub EdgesTo : ℕ → Type 0
  EdgesTo n = (object : ℕ) → object < n → KeepsEdges frees takes (entries_in_row (get_or rows object []))

  pub edges_more : (n : ℕ) → KeepsEdges frees takes (entries_in_row (get_or rows n [])) → EdgesTo n → EdgesTo (n + 1)
  edges_more n keeps so_far object below = by (eq-or-lt_of_le {n = object} {m = n} (omega (arith, below))) where
    by : (object ≡ n) ⊎ (object < n) → KeepsEdges frees takes (entries_in_row (get_or rows object []))
    by (inl same) = subst (λ o. KeepsEdges frees takes (entries_in_row (get_or rows o []))) (sym same) keeps
    by (inr before) = so_far object before

  pub edges_all : (n : ℕ) → length rows ≤ n → EdgesTo n → KeepAllEdges (journals_in rows)
  edges_all n all so_far object = subst (KeepsEdges frees takes) (sym (mapped rows object)) (elim (leb_tells n object) [
    | inl past ↦ (let beyond = past.1 in none_keep (entries_in_row (get_or rows object [])) (ap entries_in_row (get_or_past rows object [] (omega (arith, all, beyond)))))
    | inr before ↦ so_far object before.1
  ])

  pub edge_at : (n : ℕ) → KeepAllEdges (journals_in rows) → KeepsEdges frees takes (entries_in_row (get_or rows n []))
  edge_at n all = subst (KeepsEdges frees takes) (mapped rows n) (all n)

-- where the fronts of the first journals fit, and there are no others
pub no_rows : (journals : List (List Row)) (n object : ℕ) → length journals ≤ n → ((k : ℕ) → k < n → HaveFronts (get_or journals k [])) → HaveFronts (get_or journals object [])
no_rows journals n object all fits = elim (leb_tells n object) [
  | inl past ↦ (let beyond = past.1 in subst HaveFronts (sym (get_or_past journals object [] (omega (arith, all, beyond)))) (λ i row at. absurd cc))
  | inr before ↦ fits object before.1
]
