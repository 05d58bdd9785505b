use Rattle.std.proofs.Common.{subst, sym, ◌<◌}
use Rattle.std.specs.FinMap.{empty}
use Rattle.std.proofs.lemmas.List.{length-replicate}
use Rattle.sync_model.specs.SharedHistory.{first_contents}
use Rattle.sync_model.proofs.SharedUses.{finds_its_store}
use Rattle.sync_model.proofs.laws.callers.store_then_load.Goals as goal

pub returns-clause-finds : goal.returns-clause-finds
returns-clause-finds g c =
    finds_its_store (first_contents (g.S.Shared.maps c.args.shared.now) (g.S.Shared.kinds c.args.shared.now)) c.args.map c.args.key c.args.value c.map_call-2.result
    (subst (λ n. c.args.map < n) (sym (length-replicate (g.S.Shared.maps c.args.shared.now) empty)) c.requires.map)
    c.map_call.ensures.called c.merge.ensures.own c.map_call-2.ensures.called
