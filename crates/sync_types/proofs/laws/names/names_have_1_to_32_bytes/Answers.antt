use Rattle.std.proofs.Common.{arith}
use Rattle.sync_types.proofs.Names.{all_bytes}
use Rattle.sync_types.proofs.laws.names.names_have_1_to_32_bytes.Goals as goal

pub returns-clause-every : goal.returns-clause-every
returns-clause-every c first rest begins all short = let rest_is = all_bytes rest all in grind arith
