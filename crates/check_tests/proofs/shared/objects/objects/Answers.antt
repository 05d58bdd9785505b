use Rattle.std.proofs.Common.{rules}
use Rattle.check_tests.proofs.StartObjects.{no_key}
use Rattle.check_tests.proofs.shared.objects.objects.Goals as goal

pub returns-clause-empty : goal.returns-clause-empty
returns-clause-empty c = no_key (record { maps = c.push.new.self.items; numbers = c.push-2.new.self.items }) (search rules)
