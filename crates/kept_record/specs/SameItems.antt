-- Records of the same items, whatever they know.
use Rattle.std.specs.Prelude.{◌≡◌, ℕ, map}
use Rattle.sync_model.specs.Journal.{by}
use Rattle.run_record.specs.Record.{Record, journal_of, list_of, entries_in}
use Rattle.kept_record.specs.Acts.{bare_made, told}

-- the record has the same items as another, whatever fronts, places, marks and numbers of entries they have: each worker's list asks and answers alike, what was done on each object, and by whom, is the same, and each entry stands in its caller's list
pub record HasSameItems (r other : Record) : Type 0 where
  pub lists : (worker : ℕ) → map (bare_made worker) (list_of other worker) ≡ map (bare_made worker) (list_of r worker)
  pub journals : (object : ℕ) → map told (journal_of other object) ≡ map told (journal_of r object)
  pub once : (worker object : ℕ) → entries_in object (list_of other worker) ≡ by worker (journal_of other object)
