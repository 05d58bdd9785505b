use Rattle.std.proofs.Common.{Some}
use Rattle.std.proofs.lemmas.List.Elements.{All-pop}
use Rattle.sync_model.specs.Shared.{IsCallerAt}
use Rattle.shared_table.specs.Notes.{own_by, IsNoteOf}
use Rattle.table_tests.proofs.maps.atomics.pair.Pair.new.Goals as goal

pub returns : goal.returns
returns c =
    let P = IsCallerAt IsNoteOf own_by c.in_ok-table.table in
    let second = All-pop P c.in_ok-table.callers.items c.pop.new.self.items (Some c.in-Some.second) c.in-Some.ensures.items c.in_ok-table.ensures.each in
    let first = All-pop P c.pop.new.self.items c.pop-2.new.self.items (Some c.in-Some-pop.first) c.in-Some-pop.ensures.items second.0 in
    record { types = c.in_ok-table.ensures.table.0; is_first = first.1; is_second = second.1 }
