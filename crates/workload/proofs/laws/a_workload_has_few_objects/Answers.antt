use Rattle.workload.proofs.CanonicalFollows.{few_objects}
use Rattle.workload.proofs.laws.a_workload_has_few_objects.Goals as goal

pub returns : goal.returns
returns c plan readable = few_objects plan.objects readable.objects
