-- A halt, as an entry of whatever kind.
use Rattle.std.proofs.Common.{◌≡◌, List, [], ◌∷◌, ◌++◌, map, ap, ◌∙◌}
use Rattle.std.proofs.lemmas.List.{map-append}
use Rattle.sync_model.specs.declared.journal.Deed.{Deed}
use Rattle.sync_model.specs.declared.journal.Deed.TheVariants.{Halt}
use Rattle.sync_model.specs.declared.journal.Entry.{Entry}
use Rattle.sync_types.specs.declared.misuse.Misuse.{Misuse}
use Rattle.sync_model.specs.Front.{Front, SameCounts, Later}
use Rattle.sync_model.specs.Journal.{front_at}
use Rattle.ruled_object.specs.declared.pass.Pass.{Pass}
use Rattle.ruled_object.specs.Passes.{own_by}
use Rattle.run_record.specs.declared.entered.ObjectEvent.{ObjectEvent}
use Rattle.run_record.specs.declared.entered.ObjectReply.{ObjectReply}
use Rattle.run_record.specs.Parts.{lifted, lifted_deed}
use Rattle.thread_objects.specs.HaltOne.{Halts}
use Rattle.thread_objects.specs.Own.{own_as}

module _ {S N E R : Type 0} (event : E → ObjectEvent) (reply : R → ObjectReply) where
  pub halted_as : (misuse : Misuse) (from to : Front) (old new : Pass S N E R) (e : Entry E R) → own_by new ≡ own_by old ++ e ∷ [] → e.deed ≡ Halt misuse → front_at e ≡ to → SameCounts to from → Later to from → Halts misuse from to (own_as event reply old) (own_as event reply new)
  halted_as misuse from to old new e own deed known same later = record {
    entry = lifted event reply e;
    own = ap (λ (xs : List (Entry E R)). map (lifted event reply) xs) own ∙ map-append (lifted event reply) _ (e ∷ []);
    deed = ap (λ (d : Deed E R). lifted_deed event reply d) deed;
    known = known;
    same = same;
    later = later;
  }
