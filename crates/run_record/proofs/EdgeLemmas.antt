-- What an edge makes known.
use Rattle.std.proofs.Common.{◌≡◌, ℕ, ◌<◌, true, false, List, length, take, Some, slice_get, slice_index, subst, arith}
use Rattle.std.proofs.lemmas.Bool.{false≢true}
use Rattle.std.proofs.lemmas.Option.{slice_get_within, get_or_from_slice_get}
use Rattle.sync_model.specs.declared.item.Item.{Item}
use Rattle.sync_model.specs.declared.journal.Deed.TheVariants.{Halt}
use Rattle.sync_types.specs.declared.misuse.Misuse.{Misuse}
use Rattle.sync_model.specs.Journal.{is_such}
use Rattle.workload.specs.Plan.{Plan}
use Rattle.run_record.specs.declared.made.Made.TheVariants.{Shared, Entered}
use Rattle.run_record.specs.Edges.{frees, takes}
use Rattle.run_record.specs.Explains.{IsRecordOf}
use Rattle.run_record.specs.Journals.{IsStops}
use Rattle.run_record.specs.Record.{Record, ObjectEntry, stop, journal_of, list_of, shared_in}
use Rattle.run_record.proofs.ListLemmas.{shared_before}
use Rattle.run_record.proofs.ObjectJournals.{Keeps, nothing, of_kind, of_part, of_starts}
use Rattle.run_record.proofs.NumberLemmas.{each_journal}

no_halt : (x : ObjectEntry) → (misuse : Misuse) × (x.deed ≡ Halt misuse) → is_such frees x.deed ≡ true → ⊥
no_halt x halt is = halts (subst (λ d. is_such frees d ≡ true) halt.1 is) where
  halts : false ≡ true → ⊥
  halts e = false≢true e

of_stop : (journal : List ObjectEntry) → IsStops journal → Keeps journal
of_stop journal stops i j x y before at_x at_y is_x is_y =
    let halt : (misuse : Misuse) × (x.deed ≡ Halt misuse) = subst (λ (e : ObjectEntry). (misuse : Misuse) × (e.deed ≡ Halt misuse)) (get_or_from_slice_get journal i x x at_x) (stops i x (slice_get_within journal i x at_x)) in
    absurd (no_halt x halt is_x)

module _ (plan : Plan) (r : Record) (lawful : IsRecordOf plan r) where
  pub of_object : (object : ℕ) → Keeps (journal_of r object)
  of_object object = each_journal plan r lawful Keeps nothing (λ stops. of_stop (journal_of r stop) stops) (λ place kind journal is. of_kind plan place kind journal is) of_part of_starts object

  -- a call that stands before a releasing entry of its worker is counted by the front of each call behind an entry that acquires later
  pub counted : (giver taker i j k l object m n : ℕ) (known call : Item) (first second : ObjectEntry)
      → slice_get (list_of r giver) i ≡ Some (Shared known) → i < j → slice_get (list_of r giver) j ≡ Some (Entered object first)
      → slice_get (list_of r taker) k ≡ Some (Entered object second) → k < l → slice_get (list_of r taker) l ≡ Some (Shared call)
      → m < n → slice_get (journal_of r object) m ≡ Some first → slice_get (journal_of r object) n ≡ Some second
      → is_such frees first.deed ≡ true → is_such takes second.deed ≡ true
      → length (shared_in (take i (list_of r giver))) < slice_index call.front giver
  counted giver taker i j k l object m n known call first second at_known earlier at_first at_second later at_call before in_first in_second gives takes_in =
      let counts = shared_before (list_of r giver) i j known earlier at_known in
      let own = lawful.fronts.own giver j (Entered object first) at_first in
      let edge = of_object object m n first second before in_first in_second gives takes_in giver in
      let rises = lawful.fronts.rises taker k l (Entered object second) (Shared call) later at_second at_call giver in
      omega (arith, counts, own, edge, rises)
