-- All passes of one object, in order of worker, and its journal.
use Rattle.std.specs.Global.{Vec}
use Rattle.std.specs.Prelude.{◌≡◌, ℕ, ◌≤◌, Bool, true, List, [], length, MatchOption, Option, Some, None, slice_get, vec_capacity}
use Rattle.sync_model.specs.declared.journal.Entry.{Entry}
use Rattle.sync_types.specs.declared.misuse.Misuse.{Misuse}
use Rattle.sync_model.specs.Journal.{by, halt_of}
use Rattle.ruled_object.specs.declared.object.Object.{Object}
use Rattle.ruled_object.specs.declared.pass.Pass.{Pass}
use Rattle.ruled_object.specs.Gathered.{IsWhole}
use Rattle.ruled_object.specs.Passes.{number_of, own_by, callers_of, start_of, IsHomeOf}
use Rattle.call_loop.specs.Between.{IsBetween}
use Rattle.run_record.specs.Journals.{FollowsFrom, IsStops}
use Rattle.run_record.specs.Record.{ObjectEntry}
use Rattle.thread_objects.specs.declared.column.AnyColumn.{AnyColumn}
use Rattle.thread_objects.specs.declared.column.AnyColumn.TheVariants as columns
use Rattle.thread_objects.specs.declared.object.AnyObject.{AnyObject}
use Rattle.thread_objects.specs.declared.pass.AnyPass.{AnyPass}
use Rattle.thread_objects.specs.declared.parts.stop.NoEvent.{NoEvent}
use Rattle.thread_objects.specs.ByKind.{of_object}
use Rattle.thread_objects.specs.EachKind.{Kind, own_in}
use Rattle.thread_objects.specs.Passes.{owns_of}
use Rattle.thread_objects.specs.StopKind.{stop}

-- The object of so many workers began as such ones may, and its notes are of this home. These are the passes of its first workers, in order, each between two calls.
pub record AreSeated {M N S E R H W : Type 0} (begins : ℕ → S → Type 0) (out : W) (move : W → E → R → W) (at : H → N → Type 0) (home : H) (workers count : ℕ) (object : Object M N S E R H) (passes : List (Pass S N E R)) : Type 0 where
  pub begun : begins (callers_of object) (start_of object)
  pub callers : callers_of object ≡ workers
  pub homed : IsHomeOf at object home
  pub sized : length passes ≡ count
  pub each : (worker : ℕ) (pass : Pass S N E R) → slice_get passes worker ≡ Some pass → IsBetween out move object pass × (number_of pass ≡ worker)

module _ {S N E R : Type 0} where
  -- nobody whose pass is here made an entry
  abbrev pub AreUntouched : List (Pass S N E R) → Type 0
  AreUntouched passes = (worker : ℕ) (pass : Pass S N E R) → slice_get passes worker ≡ Some pass → own_by pass ≡ []

  -- The workers of these passes made a history of this machine from this state, with nobody else. This is the misuse of its first halt, if there is one.
  pub record IsHistoryOf (next : S → ℕ → E → S × R) (frees takes : E → R → Bool) (start : S) (first : Option Misuse) (passes : List (Pass S N E R)) : Type 0 where
    pub journal : List (Entry E R)
    pub whole : IsWhole next true frees takes start journal passes
    pub halted : first ≡ halt_of journal

-- The same of an object of this kind, which it names: so whoever has it knows which kind it is.
pub record IsHistoryIn {M N S E R H W : Type 0} (kind : Kind S E R W) (object : Object M N S E R H) (first : Option Misuse) (passes : List (Pass S N E R)) : Type 0 where
  pub of : IsHistoryOf kind.next kind.frees kind.takes (start_of object) first passes

-- those whose pass is here did nothing on Stop but halt it
abbrev pub AreHalting : {N : Type 0} → List (Pass (Unit {0}) N NoEvent NoEvent) → Type 0
AreHalting {N} passes = (worker : ℕ) (pass : Pass (Unit {0}) N NoEvent NoEvent) → slice_get passes worker ≡ Some pass → IsStops (own_in stop pass)

-- nobody has a pass here
abbrev pub HasNone : {N : Type 0} → AnyColumn N → Type 0
HasNone (columns.None n) = Unit {0}
HasNone column = ⊥

-- so many workers have no pass here
abbrev pub AreNone : {N : Type 0} → ℕ → AnyColumn N → Type 0
AreNone count (columns.None n) = n ≡ count
AreNone count column = ⊥

module _ {N H : Type 0} (at : H → N → Type 0) (home : H) (workers count : ℕ) where
  -- these are the passes of the first workers to an object of this kind, with room for those of all, in memory that is taken
  abbrev pub ColumnOf : {M S E R W : Type 0} → Kind S E R W → Object M N S E R H → Vec (Pass S N E R) → Type 0
  ColumnOf kind object passes = AreSeated kind.begins kind.out kind.stands at home workers count object passes.items × (workers ≤ vec_capacity passes)

  -- These are the passes of the object's first workers, so many of all. There is room for all, in memory that is taken.
  abbrev pub IsColumnOf : AnyObject N H → AnyColumn N → Type 0
  IsColumnOf object column = of_object (record {
    shared = AreNone count column;
    stop = λ o. MatchOption (stop.column column) ⊥ (λ ps. ColumnOf stop o ps × AreHalting ps.items);
    each = λ kind o. MatchOption (kind.column column) ⊥ (λ ps. ColumnOf kind o ps);
  }) object

-- nobody whose pass is in the object's column made an entry
abbrev pub IsUntouched : {N H : Type 0} → AnyObject N H → AnyColumn N → Type 0
IsUntouched object column = of_object (record {
  shared = HasNone column;
  stop = λ o. MatchOption (stop.column column) ⊥ (λ ps. AreUntouched ps.items);
  each = λ kind o. MatchOption (kind.column column) ⊥ (λ ps. AreUntouched ps.items);
}) object

-- the misuse of the object's first halt, if there is one, by the passes of all workers. A map and an atomic are never halted
abbrev pub IsFirstHalt : {N H : Type 0} → AnyObject N H → AnyColumn N → Option Misuse → Type 0
IsFirstHalt object column first = of_object (record {
  shared = HasNone column × (first ≡ None);
  stop = λ o. MatchOption (stop.column column) ⊥ (λ ps. IsHistoryIn stop o first ps.items);
  each = λ kind o. MatchOption (kind.column column) ⊥ (λ ps. IsHistoryIn kind o first ps.items);
}) object

-- the entries follow the machine of an object of this kind from the state in which the object began, and keep the edge law
abbrev pub JournalOf : {M N S E R H W : Type 0} → Kind S E R W → Object M N S E R H → List ObjectEntry → Type 0
JournalOf kind object journal = FollowsFrom kind.event kind.reply kind.next kind.frees kind.takes (start_of object) journal

-- the journal is one of the object: it follows the machine from the state in which the object began, and keeps the edge law
abbrev pub IsJournalAt : {N H : Type 0} → AnyObject N H → List ObjectEntry → Type 0
IsJournalAt object journal = of_object (record { shared = journal ≡ []; stop = λ o. IsStops journal; each = λ kind o. JournalOf kind o journal }) object

-- each worker's entries in the journal are those of its pass, and nobody else has any
abbrev pub AreParts : {N : Type 0} → List ObjectEntry → List (AnyPass N) → Type 0
AreParts journal all = (worker : ℕ) → owns_of all worker ≡ by worker journal
