-- What contracts see of a shared table.
use Rattle.std.specs.Prelude.{ℕ, List}
use Rattle.sync_types.specs.declared.atomic_object.AtomicKind.{AtomicKind}
use Rattle.sync_model.specs.SharedHistory.{Contents}
use Rattle.shared_table.specs.declared.table.SharedTable.{SharedTable}
use Rattle.table_rule.specs.Layout.{callers_of}
use Rattle.table_words.specs.Seats.{begin_of}
use Rattle.table_rule.specs.Shape.{start_of}

-- the types of the atomics, by number
abbrev pub kinds_of : SharedTable → List AtomicKind
kinds_of table = (begin_of table.words).kinds

-- how many maps there are
abbrev pub maps_of : SharedTable → ℕ
maps_of table = (begin_of table.words).maps

-- how many callers there are
abbrev pub caller_count : SharedTable → ℕ
caller_count table = callers_of (begin_of table.words)

-- what the maps and atomics contain at the start
abbrev pub first_of : SharedTable → Contents
first_of table = start_of (begin_of table.words)

-- what the hash of a key is made with
abbrev pub seed_of : SharedTable → ℕ
seed_of table = (begin_of table.words).seed
