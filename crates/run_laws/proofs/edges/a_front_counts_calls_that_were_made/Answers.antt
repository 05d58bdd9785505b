use Rattle.std.proofs.Common.{◌≡◌, ◌⊎◌, inl, inr, ◌<◌, ◌≤◌, length, get_or, Some, None, slice_get, arith}
use Rattle.std.proofs.lemmas.Option.{slice_get_cases}
use Rattle.sync_model.specs.declared.item.Item.{Item}
use Rattle.run_record.specs.Record.{calls_of}
use Rattle.run_laws.proofs.edges.a_front_counts_calls_that_were_made.Goals as goal

pub returns : goal.returns
returns c plan r worker i other known made lawful at below = by_case (slice_get_cases (calls_of r other) known).1 where
  by_case : ((x : Item) × (known < length (calls_of r other)) × (slice_get (calls_of r other) known ≡ Some x) × (get_or (calls_of r other) known x ≡ x)) ⊎ ((length (calls_of r other) ≤ known) × (slice_get (calls_of r other) known ≡ None))
      → (call : Item) × (slice_get (calls_of r other) known ≡ Some call)
  by_case (inl there) = (there.0, there.2)
  by_case (inr past) = let made_all = lawful.fronts.made worker i other made at in absurd (omega (arith, past.0, made_all, below))
