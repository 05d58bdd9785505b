-- Columns of whatever kind: what their passes tell of the object's journal.
use Rattle.std.proofs.Common.{◌≡◌, ℕ, [], Option, refl, ap}
use Rattle.std.proofs.lemmas.Option.{none-some}
use Rattle.sync_types.specs.declared.misuse.Misuse.{Misuse}
use Rattle.thread_objects.specs.declared.column.AnyColumn.{AnyColumn}
use Rattle.thread_objects.specs.declared.column.AnyColumn.TheVariants as columns
use Rattle.thread_objects.specs.declared.object.AnyObject.{AnyObject}
use Rattle.thread_objects.specs.declared.object.AnyObject.TheVariants as objects
use Rattle.thread_objects.specs.declared.pass.AnyPass.{AnyPass}
use Rattle.thread_objects.specs.declared.pass.AnyPass.TheVariants as passes
use Rattle.thread_objects.specs.ByKind.{own_of, passes_in}
use Rattle.thread_objects.specs.Columns.{IsColumnOf, IsFirstHalt, IsJournalAt, IsUntouched, JournalOf}
use Rattle.thread_objects.specs.Passes.{owns_of}
use Rattle.thread_objects.specs.StopKind.{stop}
use Rattle.thread_objects.proofs.ColumnLists.{got_same}
use Rattle.thread_objects.proofs.ColumnLemmas.{IsTold, none_lifted, none_made, told_of}
use Rattle.thread_objects.proofs.StopColumns.{stops_told}

module _ {N H : Type 0} where
  -- nobody made an entry
  pub nothing_made : (object : AnyObject N H) (column : AnyColumn N) → IsUntouched object column → (worker : ℕ) → owns_of (passes_in column) worker ≡ []
  nothing_made objects.Shared (columns.None n) untouched worker = ap (λ (p : AnyPass N). own_of p) (got_same n worker passes.None)
  nothing_made object (columns.None n) untouched worker = search
  nothing_made object column untouched worker = search (none_made, none_lifted)

  -- the object's journal, of which the first halt is known
  pub history_of : (at : H → N → Type 0) (home : H) (workers : ℕ) (first : Option Misuse) (object : AnyObject N H) (column : AnyColumn N) → IsColumnOf at home workers workers object column → IsFirstHalt object column first → IsTold (IsJournalAt object) first (passes_in column)
  history_of at home workers first objects.Shared (columns.None n) seated history = record {
    journal = [];
    of = refl;
    times = λ i j x y before first second. absurd (none-some x first);
    halted = history.1;
    parts = λ worker. ap (λ (p : AnyPass N). own_of p) (got_same n worker passes.None);
  }
  history_of at home workers first (objects.Stop o) (columns.Stop ps) seated history = stops_told passes.Stop (λ pass. refl) ps.items first seated.1 (told_of (JournalOf stop o) first passes.Stop ps.items stop o history (λ pass. refl) (λ journal follows. follows))
  history_of at home workers first object (columns.None n) seated history = absurd seated
  history_of at home workers first object column seated history = search told_of
