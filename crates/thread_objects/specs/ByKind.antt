-- The lists of all kinds, for each enum: of objects, of passes and of columns. A kind is a line in each, and in no other definition.
use Rattle.std.specs.Global.{Vec}
use Rattle.std.specs.Prelude.{ℕ, List, [], map, replicate}
use Rattle.ruled_object.specs.declared.object.Object.{Object}
use Rattle.ruled_object.specs.declared.pass.Pass.{Pass}
use Rattle.run_record.specs.Record.{ObjectEntry}
use Rattle.thread_objects.specs.declared.column.AnyColumn.{AnyColumn}
use Rattle.thread_objects.specs.declared.column.AnyColumn.TheVariants as columns
use Rattle.thread_objects.specs.declared.object.AnyObject.{AnyObject}
use Rattle.thread_objects.specs.declared.object.AnyObject.TheVariants as objects
use Rattle.thread_objects.specs.declared.pass.AnyPass.{AnyPass}
use Rattle.thread_objects.specs.declared.pass.AnyPass.TheVariants as passes
use Rattle.thread_objects.specs.declared.parts.stop.NoEvent.{NoEvent}
use Rattle.thread_objects.specs.declared.parts.stop.StopCore.{StopCore}
use Rattle.thread_objects.specs.CondKind.{cond}
use Rattle.thread_objects.specs.EachKind.{Kind, own_in}
use Rattle.thread_objects.specs.FlightKind.{flight}
use Rattle.thread_objects.specs.MutexKind.{mutex}
use Rattle.thread_objects.specs.OnceFuncKind.{once_func}
use Rattle.thread_objects.specs.OnceKind.{once}
use Rattle.thread_objects.specs.OnceValueKind.{once_value}
use Rattle.thread_objects.specs.PoolPartKind.{pool_part}
use Rattle.thread_objects.specs.RwMutexKind.{rw_mutex}
use Rattle.thread_objects.specs.SemaKind.{sema}
use Rattle.thread_objects.specs.StartsKind.{starts}
use Rattle.thread_objects.specs.StopKind.{stop}
use Rattle.thread_objects.specs.WaitGroupKind.{wait_group}

-- A fact on objects of whatever kind: what it is of a map, an atomic or a pool, of Stop, and of an object of any other kind, by what is the kind's own.
pub record Fact (N H : Type 0) : Type 1 where
  pub shared : Type 0
  pub stop : Object StopCore N (Unit {0}) NoEvent NoEvent H → Type 0
  pub each : {M S E R W : Type 0} → Kind S E R W → Object M N S E R H → Type 0

-- the fact holds of the object
abbrev pub of_object : {N H : Type 0} → Fact N H → AnyObject N H → Type 0
of_object fact objects.Shared = fact.shared
of_object fact (objects.Stop o) = fact.stop o
of_object fact (objects.Mutex o) = fact.each mutex o
of_object fact (objects.RwMutex o) = fact.each rw_mutex o
of_object fact (objects.Cond o) = fact.each cond o
of_object fact (objects.WaitGroup o) = fact.each wait_group o
of_object fact (objects.Once o) = fact.each once o
of_object fact (objects.OnceFunc o) = fact.each once_func o
of_object fact (objects.OnceValue o) = fact.each once_value o
of_object fact (objects.Sema o) = fact.each sema o
of_object fact (objects.Flight o) = fact.each flight o
of_object fact (objects.PoolPart o) = fact.each pool_part o
of_object fact (objects.Starts o) = fact.each starts o

-- the entries that a pass's worker made
abbrev pub own_of : {N : Type 0} → AnyPass N → List ObjectEntry
own_of passes.None = []
own_of (passes.Stop p) = own_in stop p
own_of (passes.Mutex p) = own_in mutex p
own_of (passes.RwMutex p) = own_in rw_mutex p
own_of (passes.Cond p) = own_in cond p
own_of (passes.WaitGroup p) = own_in wait_group p
own_of (passes.Once p) = own_in once p
own_of (passes.OnceFunc p) = own_in once_func p
own_of (passes.OnceValue p) = own_in once_value p
own_of (passes.Sema p) = own_in sema p
own_of (passes.Flight p) = own_in flight p
own_of (passes.PoolPart p) = own_in pool_part p
own_of (passes.Starts p) = own_in starts p

-- the passes that are in a column
abbrev pub passes_in : {N : Type 0} → AnyColumn N → List (AnyPass N)
passes_in (columns.None count) = replicate count passes.None
passes_in (columns.Stop ps) = map passes.Stop ps.items
passes_in (columns.Mutex ps) = map passes.Mutex ps.items
passes_in (columns.RwMutex ps) = map passes.RwMutex ps.items
passes_in (columns.Cond ps) = map passes.Cond ps.items
passes_in (columns.WaitGroup ps) = map passes.WaitGroup ps.items
passes_in (columns.Once ps) = map passes.Once ps.items
passes_in (columns.OnceFunc ps) = map passes.OnceFunc ps.items
passes_in (columns.OnceValue ps) = map passes.OnceValue ps.items
passes_in (columns.Sema ps) = map passes.Sema ps.items
passes_in (columns.Flight ps) = map passes.Flight ps.items
passes_in (columns.PoolPart ps) = map passes.PoolPart ps.items
passes_in (columns.Starts ps) = map passes.Starts ps.items

-- A fact on columns of whatever kind: what it is where so many workers have no pass, and of the passes to an object of any kind, by what is the kind's own.
pub record ColumnFact (N : Type 0) : Type 1 where
  pub none : ℕ → Type 0
  pub each : {S E R W : Type 0} → Kind S E R W → Vec (Pass S N E R) → Type 0

-- the fact holds of the column
abbrev pub of_column : {N : Type 0} → ColumnFact N → AnyColumn N → Type 0
of_column fact (columns.None count) = fact.none count
of_column fact (columns.Stop ps) = fact.each stop ps
of_column fact (columns.Mutex ps) = fact.each mutex ps
of_column fact (columns.RwMutex ps) = fact.each rw_mutex ps
of_column fact (columns.Cond ps) = fact.each cond ps
of_column fact (columns.WaitGroup ps) = fact.each wait_group ps
of_column fact (columns.Once ps) = fact.each once ps
of_column fact (columns.OnceFunc ps) = fact.each once_func ps
of_column fact (columns.OnceValue ps) = fact.each once_value ps
of_column fact (columns.Sema ps) = fact.each sema ps
of_column fact (columns.Flight ps) = fact.each flight ps
of_column fact (columns.PoolPart ps) = fact.each pool_part ps
of_column fact (columns.Starts ps) = fact.each starts ps
