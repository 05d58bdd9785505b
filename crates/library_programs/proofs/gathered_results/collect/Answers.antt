use Rattle.std.proofs.Common.{◌≡◌, Some, slice_get, subst, refl}
use Rattle.std.specs.Option.{ForSome}
use Rattle.sync_types.specs.declared.map_object.MapCall.TheVariants.{Load}
use Rattle.sync_types.specs.declared.map_object.MapReply.TheVariants.{Done, Found}
use Rattle.sync_model.specs.Journal.{Begins}
use Rattle.ruled_object.specs.Passes.{seen_by}
use Rattle.go_map.specs.Maps.{MakesCall}
use Rattle.library_programs.proofs.gathered_results.collect.Goals as goal

pub returns : goal.returns
returns g c =
    let first = c.args.map.now in
    let mid = c.wait.new.self in
    let last = c.get.new.self in
    let waited = rw c.in-Done-Ok.field-0-is at c.in-Done-Ok.ensures in
    let load = subst (λ m. MakesCall m.now.table 0 (Load c.args.number) (Found c.get.result) mid.caller.note last.caller.note) c.wait.ensures.made.map c.get.ensures.made.made in
    record {
      load = load.1.item;
      answers = load.1.is_reply;
      finds = λ value i before after handed seen history calls lawful are_told are.
          c.what_was_stored_before_is_found_after.ensures first.map.now.table c.args.number value Done (Found c.get.result) before.caller.note handed.stored mid.caller.note last.caller.note handed.told.entry.front
          first.map.now.one handed.is handed.stores handed.told.tells
          (waited.told refl i handed.told.entry (subst (λ p. slice_get (seen_by p) i ≡ Some handed.told.entry) c.get.ensures.made.member seen) handed.told.is_such)
          load history calls lawful
          (subst (λ own. ForSome own (λ holding. Begins (calls holding.number) holding.items)) handed.own are_told) are;
    }
