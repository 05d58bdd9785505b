use Rattle.sync_types.specs.declared.map_object.MapCall.TheVariants.{Store}
use Rattle.sync_types.specs.declared.map_object.MapReply.TheVariants.{Done}
use Rattle.table_tests.proofs.AllCallers.{still_held}
use Rattle.table_tests.proofs.maps.maps.ends.store.Goals as goal

pub returns : goal.returns
returns g c =
    let table = c.args.map.now.table.now in
    let makes = c.store.ensures.called in
    (makes.0 table c.requires.0, still_held table c.args.map.now.number 0 (Store c.args.key c.args.value) Done c.args.caller.now.note c.store.new.caller.note makes c.requires.1)
