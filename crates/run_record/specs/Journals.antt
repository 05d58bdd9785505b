-- When a journal is one of an object.
use Rattle.std.specs.Prelude.{◌≡◌, ℕ, Bool, true, List, map, All, None}
use Rattle.sync_model.specs.declared.journal.Deed.TheVariants.{Halt}
use Rattle.sync_model.specs.declared.journal.Entry.{Entry}
use Rattle.sync_types.specs.declared.misuse.Misuse.{Misuse}
use Rattle.sync_model.specs.Journal.{Follows, KeepsEdges}
use Rattle.run_record.specs.declared.entered.ObjectEvent.{ObjectEvent}
use Rattle.run_record.specs.declared.entered.ObjectReply.{ObjectReply}
use Rattle.run_record.specs.Parts.{lifted}
use Rattle.run_record.specs.Record.{ObjectEntry}

module _ {S E R : Type 0} (event : E → ObjectEvent) (reply : R → ObjectReply) where
  -- the entries are all of one kind, follow its machine from this state, and keep the edge law
  abbrev pub FollowsFrom : (S → ℕ → E → S × R) → (E → R → Bool) → (E → R → Bool) → S → List ObjectEntry → Type 0
  FollowsFrom next frees takes start journal =
      (own : List (Entry E R)) × (journal ≡ map (lifted event reply) own) × Follows next true start None own × KeepsEdges frees takes own

-- Stop is halted, and nothing else is done on it
abbrev pub IsStops : List ObjectEntry → Type 0
IsStops journal = All (λ entry. (misuse : Misuse) × (entry.deed ≡ Halt misuse)) journal
