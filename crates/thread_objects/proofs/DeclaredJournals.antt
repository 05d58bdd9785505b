-- The journal of an object that is as the workload declares it.
use Rattle.std.proofs.Common.{◌≡◌, ℕ, Bool, List, subst}
use Rattle.workload.specs.declared.object.ObjectKind.{ObjectKind}
use Rattle.workload.specs.declared.object.ObjectKind.TheVariants as kinds
use Rattle.workload.specs.Plan.{Plan}
use Rattle.workload.specs.Puts.{puts_at}
use Rattle.run_record.specs.declared.entered.ObjectEvent.{ObjectEvent}
use Rattle.run_record.specs.declared.entered.ObjectReply.{ObjectReply}
use Rattle.run_record.specs.Calls.{IsJournalOf}
use Rattle.run_record.specs.Journals.{FollowsFrom, IsStops}
use Rattle.run_record.specs.PoolKind.{IsPartJournal}
use Rattle.run_record.specs.Record.{ObjectEntry}
use Rattle.run_record.specs.StartsKind.{IsStartsJournal}
use Rattle.thread_objects.specs.declared.object.AnyObject.{AnyObject}
use Rattle.thread_objects.specs.declared.object.AnyObject.TheVariants as objects
use Rattle.thread_objects.specs.AsDeclared.{IsDeclared, IsPartOf, IsStartsOf, IsStopOf}
use Rattle.thread_objects.specs.Columns.{IsJournalAt}

module _ {S E R : Type 0} (event : E → ObjectEvent) (reply : R → ObjectReply) (next : S → ℕ → E → S × R) (frees takes : E → R → Bool) where
  begun_so : (start so : S) (journal : List ObjectEntry) → FollowsFrom event reply next frees takes start journal → start ≡ so → FollowsFrom event reply next frees takes so journal
  begun_so start so journal follows is = subst (λ s. FollowsFrom event reply next frees takes s journal) is follows

module _ {N H : Type 0} (at : H → N → Type 0) (home : H) (plan : Plan) (place : ℕ) (journal : List ObjectEntry) where
  pub of_stop : (workers : ℕ) (object : AnyObject N H) → IsStopOf at home workers object → IsJournalAt object journal → IsStops journal
  of_stop workers (objects.Stop o) declared is = is
  of_stop workers object declared is = absurd declared

  pub of_declared : (kind : ObjectKind) (object : AnyObject N H) → IsDeclared at home plan place kind object → IsJournalAt object journal → IsJournalOf plan place kind journal
  of_declared kinds.Map objects.Shared declared is = is
  of_declared kind objects.Shared declared is = search
  of_declared kind object declared is = search begun_so

  pub of_part : (object : AnyObject N H) → IsPartOf at home plan place object → IsJournalAt object journal → IsPartJournal (puts_at place plan.scripts) journal
  of_part (objects.PoolPart o) is follows = begun_so _ _ _ _ _ _ _ journal follows is.begun
  of_part object is follows = absurd is

module _ {N H : Type 0} (at : H → N → Type 0) (home : H) (plan : Plan) (journal : List ObjectEntry) where
  pub of_starts : (object : AnyObject N H) → IsStartsOf at home plan object → IsJournalAt object journal → IsStartsJournal plan.dormant journal
  of_starts (objects.Starts o) is follows = begun_so _ _ _ _ _ _ _ journal follows is.begun
  of_starts object is follows = absurd is
