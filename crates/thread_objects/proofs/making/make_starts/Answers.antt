use Rattle.thread_objects.specs.declared.column.AnyColumn.TheVariants as columns
use Rattle.thread_objects.specs.declared.object.AnyObject.TheVariants as objects
use Rattle.thread_objects.proofs.Histories.{nothing_made}
use Rattle.thread_objects.proofs.making.make_starts.Goals as goal

pub returns-clause-untouched : goal.returns-clause-untouched
returns-clause-untouched g c = nothing_made (objects.Starts c.in_ok-object.object) (columns.Starts c.in_ok-object.passes) c.in_ok-object.ensures.untouched
