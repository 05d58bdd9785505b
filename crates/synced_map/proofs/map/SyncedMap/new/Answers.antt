use Rattle.std.proofs.Common.{◌<◌, ◌++◌, [], ◌∷◌, All, arith, sym, subst}
use Rattle.std.proofs.lemmas.List.Elements.{All-pop, All-push}
use Rattle.std.proofs.lemmas.Option.{slice_get-get_or}
use Rattle.sync_model.specs.Shared.{IsCallerAt}
use Rattle.shared_table.specs.Notes.{own_by, IsNoteOf}
use Rattle.synced_map.proofs.map.SyncedMap.new.Goals as goal

pub invariant_of-map : goal.invariant_of-map
invariant_of-map c = record {
  one = subst (λ n. 0 < n) (sym c.in_ok-table.ensures.table.1) (omega arith);
  mutex_home = c.in_ok-mutex.ensures.mutex.2 _ c.copies-for_mutex.ensures.copies.0;
  group_home = c.in_ok-group.ensures.group.2 _ c.copies-for_mutex.ensures.copies.1;
}

pub returns-clause-callers : goal.returns-clause-callers
returns-clause-callers c =
    let P = IsCallerAt IsNoteOf own_by c.in_ok-table.table in
    let rest = (All-pop P c.in_ok-table.callers.items c.pop.new.self.items c.pop.result c.pop.ensures.items c.in_ok-table.ensures.each).0 in
    subst (λ xs. All P xs) (sym c.in_ok-push.ensures.items) (All-push P c.pop.new.self.items c.copies-for_mutex.new.caller rest c.copies-for_mutex.ensures.caller)

pub returns-clause-locks : goal.returns-clause-locks
returns-clause-locks c = λ k d below. (c.in_ok-mutex.ensures.passes.all.each k _ (slice_get-get_or _ k d below)).0

pub returns-clause-members : goal.returns-clause-members
returns-clause-members c = λ k d below. (c.in_ok-group.ensures.passes.all.each k _ (slice_get-get_or _ k d below)).0
