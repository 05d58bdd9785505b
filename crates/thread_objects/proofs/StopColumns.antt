-- Stop: its workers do nothing on it but halt it.
use Rattle.std.proofs.Common.{◌≡◌, ◌⊎◌, inl, inr, ℕ, ◌<◌, ◌≤◌, List, [], ◌∷◌, ◌++◌, length, map, get_or, Option, Some, None, slice_get, sym, subst}
use Rattle.std.specs.Global.{Vec}
use Rattle.std.proofs.lemmas.List.Elements.{All-nil, All-same, All-push}
use Rattle.std.proofs.lemmas.Option.{slice_get_cases}
use Rattle.sync_model.specs.declared.journal.Deed.TheVariants.{Halt}
use Rattle.sync_model.specs.declared.journal.Entry.{Entry}
use Rattle.sync_types.specs.declared.misuse.Misuse.{Misuse}
use Rattle.sync_model.specs.Front.{Front}
use Rattle.sync_model.specs.Journal.{by}
use Rattle.ruled_object.specs.declared.object.Object.{Object}
use Rattle.ruled_object.specs.declared.pass.Pass.{Pass}
use Rattle.ruled_object.specs.Gathered.{SameOwn}
use Rattle.run_record.specs.Journals.{IsStops}
use Rattle.run_record.specs.Parts.{lifted}
use Rattle.run_record.specs.Record.{ObjectEntry}
use Rattle.thread_objects.specs.declared.column.AnyColumn.{AnyColumn}
use Rattle.thread_objects.specs.declared.column.AnyColumn.TheVariants as columns
use Rattle.thread_objects.specs.declared.object.AnyObject.{AnyObject}
use Rattle.thread_objects.specs.declared.object.AnyObject.TheVariants as objects
use Rattle.thread_objects.specs.declared.pass.AnyPass.{AnyPass}
use Rattle.thread_objects.specs.declared.pass.AnyPass.TheVariants as passes
use Rattle.thread_objects.specs.declared.parts.stop.NoEvent.{NoEvent}
use Rattle.thread_objects.specs.declared.parts.stop.StopCore.{StopCore}
use Rattle.thread_objects.specs.Columns.{AreHalting, AreParts, IsColumnOf}
use Rattle.thread_objects.specs.HaltOne.{Halts}
use Rattle.thread_objects.specs.ByKind.{own_of}
use Rattle.thread_objects.specs.Own.{own_as}
use Rattle.thread_objects.specs.Passes.{owns_of, IsSeatAt}
use Rattle.thread_objects.specs.Seats.{IsSeat}
use Rattle.thread_objects.specs.Stop.{StopBegins, stop_stands, no_event, no_reply}
use Rattle.thread_objects.proofs.ColumnLists.{added_at, all_by}
use Rattle.thread_objects.proofs.ColumnLemmas.{IsTold, owns_at, owns_past}

abbrev IsHalted : ObjectEntry → Type 0
IsHalted entry = (misuse : Misuse) × (entry.deed ≡ Halt misuse)

-- one halt more
pub halts_more : (misuse : Misuse) (from to : Front) (old new : List ObjectEntry) → IsStops old → Halts misuse from to old new → IsStops new
halts_more misuse from to old new stops halts = All-same IsHalted new (old ++ halts.entry ∷ []) halts.own (All-push IsHalted old halts.entry stops (misuse, halts.deed))

module _ {N H : Type 0} (at : H → N → Type 0) (home : H) (workers worker : ℕ) (o : Object StopCore N (Unit {0}) NoEvent NoEvent H) where
  abbrev Seat : Pass (Unit {0}) N NoEvent NoEvent → Type 0
  Seat p = IsSeat StopBegins tt stop_stands at home workers worker o p × IsStops (own_as no_event no_reply p)

  pub seat_from : (object : AnyObject N H) (pass : AnyPass N) (p : Pass (Unit {0}) N NoEvent NoEvent) → object ≡ objects.Stop o → pass ≡ passes.Stop p → IsSeatAt at home workers worker object pass → Seat p
  seat_from object pass p is pass_is seat = subst (λ (x : AnyPass N). IsSeatAt at home workers worker (objects.Stop o) x) pass_is (subst (λ (x : AnyObject N H). IsSeatAt at home workers worker x pass) is seat)

  pub seat_to : (object : AnyObject N H) (p : Pass (Unit {0}) N NoEvent NoEvent) → object ≡ objects.Stop o → Seat p → IsSeatAt at home workers worker object (passes.Stop p)
  seat_to object p is seat = subst (λ (x : AnyObject N H). IsSeatAt at home workers worker x (passes.Stop p)) (sym is) seat

module _ {N H : Type 0} (at : H → N → Type 0) (home : H) (workers count : ℕ) (o : Object StopCore N (Unit {0}) NoEvent NoEvent H) where
  abbrev Column : Vec (Pass (Unit {0}) N NoEvent NoEvent) → Type 0
  Column ps = IsColumnOf at home workers count (objects.Stop o) (columns.Stop ps)

  pub column_from : (object : AnyObject N H) (column : AnyColumn N) (ps : Vec (Pass (Unit {0}) N NoEvent NoEvent)) → object ≡ objects.Stop o → column ≡ columns.Stop ps → IsColumnOf at home workers count object column → Column ps
  column_from object column ps is column_is seated = subst (λ (x : AnyColumn N). IsColumnOf at home workers count (objects.Stop o) x) column_is (subst (λ (x : AnyObject N H). IsColumnOf at home workers count x column) is seated)

  pub column_to : (object : AnyObject N H) (ps : Vec (Pass (Unit {0}) N NoEvent NoEvent)) → object ≡ objects.Stop o → Column ps → IsColumnOf at home workers count object (columns.Stop ps)
  column_to object ps is seated = subst (λ (x : AnyObject N H). IsColumnOf at home workers count x (columns.Stop ps)) (sym is) seated

module _ {N : Type 0} where
  pub halting_with : (old new : List (Pass (Unit {0}) N NoEvent NoEvent)) (last : Pass (Unit {0}) N NoEvent NoEvent) → new ≡ old ++ last ∷ [] → AreHalting old → IsStops (own_as no_event no_reply last) → AreHalting new
  halting_with old new last is all one worker pass here = by_case (added_at old last pass worker (subst (λ (xs : List (Pass (Unit {0}) N NoEvent NoEvent)). slice_get xs worker ≡ Some pass) is here)) where
    by_case : (slice_get old worker ≡ Some pass) ⊎ ((worker ≡ length old) × (last ≡ pass)) → IsStops (own_as no_event no_reply pass)
    by_case (inl before) = all worker pass before
    by_case (inr behind) = subst (λ (p : Pass (Unit {0}) N NoEvent NoEvent). IsStops (own_as no_event no_reply p)) behind.1 one

  pub halting_same : (old new : List (Pass (Unit {0}) N NoEvent NoEvent)) → SameOwn old new → AreHalting old → AreHalting new
  halting_same old new same all worker pass here = let was = same worker pass here in
      subst (λ (own : List (Entry NoEvent NoEvent)). IsStops (map (lifted no_event no_reply) own)) (sym was.2) (all worker was.0 was.1)

  -- where each worker's entries are halts, all are
  pub stops_of : (pass_as : Pass (Unit {0}) N NoEvent NoEvent → AnyPass N) → ((pass : Pass (Unit {0}) N NoEvent NoEvent) → own_of (pass_as pass) ≡ own_as no_event no_reply pass) → (ps : List (Pass (Unit {0}) N NoEvent NoEvent)) (journal : List ObjectEntry) → AreHalting ps → AreParts journal (map pass_as ps) → IsStops journal
  stops_of pass_as same ps journal all parts = all_by IsHalted journal (λ c. All-same IsHalted (by c journal) (owns_of (map pass_as ps) c) (sym (parts c)) (by_case c (slice_get_cases ps c).1)) where
    by_case : (c : ℕ) → ((x : Pass (Unit {0}) N NoEvent NoEvent) × (c < length ps) × (slice_get ps c ≡ Some x) × (get_or ps c x ≡ x)) ⊎ ((length ps ≤ c) × (slice_get ps c ≡ None)) → IsStops (owns_of (map pass_as ps) c)
    by_case c (inl (x, within, some, is)) = All-same IsHalted (owns_of (map pass_as ps) c) (own_as no_event no_reply x) (owns_at no_event no_reply pass_as same ps c x some) (all c x some)
    by_case c (inr (past, none)) = All-same IsHalted (owns_of (map pass_as ps) c) [] (owns_past no_event no_reply pass_as same ps c none) (All-nil IsHalted)

  -- and so its journal is one of Stop
  pub stops_told : (pass_as : Pass (Unit {0}) N NoEvent NoEvent → AnyPass N) → ((pass : Pass (Unit {0}) N NoEvent NoEvent) → own_of (pass_as pass) ≡ own_as no_event no_reply pass) → (ps : List (Pass (Unit {0}) N NoEvent NoEvent)) (first : Option Misuse) {is : List ObjectEntry → Type 0} → AreHalting ps → IsTold is first (map pass_as ps) → IsTold IsStops first (map pass_as ps)
  stops_told pass_as same ps first all told = record { journal = told.journal; of = stops_of pass_as same ps told.journal all told.parts; times = told.times; halted = told.halted; parts = told.parts }
