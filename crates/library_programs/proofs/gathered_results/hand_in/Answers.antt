use Rattle.std.proofs.Common.{rules, ◌≡◌, true, refl, subst}
use Rattle.sync_types.specs.declared.map_object.MapCall.TheVariants.{Store}
use Rattle.wait_cores.specs.GroupEdges.{group_releases}
use Rattle.shared_table.specs.Notes.{counts_by, IsNoteOf}
use Rattle.synced_map.specs.SyncedCalls.{CallsIf}
use Rattle.synced_map.specs.Telling.{Tells}
use Rattle.library_programs.proofs.gathered_results.hand_in.Goals as goal

pub returns : goal.returns
returns g c = λ is_true.
    let mid = c.store-stored.new.self in
    let is : c.store-stored.result ≡ true = search (rules, c.if-not-stored.false) in
    let stored = (subst (λ b. CallsIf (Store c.args.number c.args.value) c.args.map.now b mid) is c.store-stored.ensures).1 in
    let done = rw c.in-Done-Ok.field-0-is at c.in-Done-Ok.ensures in
    record {
      stored = mid.caller.note;
      is = subst (λ m. IsNoteOf m.now.table mid.caller.note) stored.map mid.is.0;
      stores = stored.made;
      told = subst (λ p. Tells group_releases (counts_by mid.caller.note) p c.done.new.self.group_pass) stored.member (done.tells refl);
      own = c.done.ensures.made.own;
    }
