use Rattle.std.proofs.Common.{◌<◌, get_or, length, sym, subst, arith}
use Rattle.std.proofs.lemmas.Option.{slice_get-get_or}
use Rattle.sync_model.specs.Shared.{IsHeldBy}
use Rattle.shared_table.specs.Notes.{own_by, IsNoteOf}
use Rattle.shared_table.specs.Tables.{caller_count}
use Rattle.table_tests.proofs.AllCallers.{all_still}
use Rattle.table_tests.proofs.maps.maps.ends.store_all.Goals as goal

pub store-requires : goal.store-requires
store-requires g c =
    let callers = c.loop-key.callers in
    let all = c.loop-key.invariant.all in
    let some = c.requires.some in
    let below : 0 < length callers = omega arith in
    let caller = get_or callers 0 c.index-callers-0.result in
    subst (λ table. IsNoteOf table caller.note × IsHeldBy 0 (own_by caller.note)) (sym c.at-map.ensures.0) (c.loop-key.invariant.each 0 caller (slice_get-get_or callers 0 c.index-callers-0.result below))

pub returns-then-not-store : goal.returns-then-not-store
returns-then-not-store g c =
    all_still c.args.table.now c.loop-key.callers (caller_count c.args.table.now) 0 (record { note = c.store.new.caller.note }) c.loop-key.invariant
    (subst (λ table. IsNoteOf table c.store.new.caller.note × IsHeldBy 0 (own_by c.store.new.caller.note)) c.at-map.ensures.0 c.store.ensures)

pub loop-key-preserved : goal.loop-key-preserved
loop-key-preserved g c =
    all_still c.args.table.now c.loop-key.callers (caller_count c.args.table.now) 0 (record { note = c.store.new.caller.note }) c.loop-key.invariant
    (subst (λ table. IsNoteOf table c.store.new.caller.note × IsHeldBy 0 (own_by c.store.new.caller.note)) c.at-map.ensures.0 c.store.ensures)
