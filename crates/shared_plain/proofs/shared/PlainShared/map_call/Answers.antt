use Rattle.shared_plain.specs.Plains.{kinds_of, maps_of}
use Rattle.ruled_object.specs.Passes.{start_of}
use Rattle.shared_plain.proofs.Fitting.{map_call_fits}
use Rattle.shared_plain.proofs.shared.PlainShared.map_call.Goals as goal

pub event-answered-requires-clause-fits : goal.event-answered-requires-clause-fits
event-answered-requires-clause-fits g c =
    let plain = c.args.self.now in
    map_call_fits (start_of plain.object) (maps_of plain) plain.keys (kinds_of plain) c.args.map c.args.call plain.begun c.requires.map c.requires.call
