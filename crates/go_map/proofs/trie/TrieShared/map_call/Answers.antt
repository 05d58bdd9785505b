use Rattle.std.proofs.Common.{sym, subst}
use Rattle.sync_model.specs.Shared.{values_of}
use Rattle.table_rule.specs.Values.{HasSmallValues}
use Rattle.go_map.proofs.Values.{small_each}
use Rattle.go_map.proofs.trie.TrieShared.map_call.Goals as goal

pub change_map-requires-clause-values : goal.change_map-requires-clause-values
change_map-requires-clause-values g c = subst HasSmallValues (sym c.in-Store.call-is) (small_each (values_of c.args.call) c.requires.call.values)
