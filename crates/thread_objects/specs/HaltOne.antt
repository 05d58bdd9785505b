-- What a halt enters in an object's journal.
use Rattle.std.specs.Prelude.{◌≡◌, List, [], ◌∷◌, ◌++◌}
use Rattle.sync_model.specs.declared.journal.Deed.TheVariants.{Halt}
use Rattle.sync_types.specs.declared.misuse.Misuse.{Misuse}
use Rattle.sync_model.specs.Front.{Front, SameCounts, Later}
use Rattle.sync_model.specs.Journal.{front_at}
use Rattle.run_record.specs.Record.{ObjectEntry}

-- one entry more, which halts the object by this misuse, between these two fronts of its caller. It knows the calls that it knew, and the entry has a number past those before it
pub record Halts (misuse : Misuse) (from to : Front) (old new : List ObjectEntry) : Type 0 where
  pub entry : ObjectEntry
  pub own : new ≡ old ++ entry ∷ []
  pub deed : entry.deed ≡ Halt misuse
  pub known : front_at entry ≡ to
  pub same : SameCounts to from
  pub later : Later to from
