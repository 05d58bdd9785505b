use Rattle.std.proofs.Common.{◌≡◌, ◌<◌, true, false, length, refl, arith}
use Rattle.std.proofs.lemmas.Option.{slice_get_read}
use Rattle.list_checks.specs.SpellLines.{is_shared}
use Rattle.list_checks.proofs.SpellLines.{a_shared, an_entry}
use Rattle.list_checks.proofs.spell.line.shared_between.Goals as goal

pub loop-index-preserved-then-not-is_shared : goal.loop-index-preserved-then-not-is_shared
loop-index-preserved-then-not-is_shared c =
    let inside : c.loop-index.index < length c.args.items.now = omega arith in
    let there = slice_get_read c.args.items.now (length c.args.items.now) c.loop-index.index c.index-items-index.result refl inside c.index-items-index.is in
    let along = c.loop-index.invariant.from in
    let entry : is_shared c.index-items-index.result ≡ false = cc in
    let same = an_entry c.args.items.now c.args.from c.loop-index.index c.index-items-index.result there along entry in
    let so = c.loop-index.invariant.count in
    let few = c.loop-index.invariant.few in
    record { from = omega (arith, along); count = omega (arith, same, so); few = omega (arith, few) }

pub loop-index-preserved : goal.loop-index-preserved
loop-index-preserved c =
    let inside : c.loop-index.index < length c.args.items.now = omega arith in
    let there = slice_get_read c.args.items.now (length c.args.items.now) c.loop-index.index c.index-items-index.result refl inside c.index-items-index.is in
    let along = c.loop-index.invariant.from in
    let shared : is_shared c.index-items-index.result ≡ true = cc in
    let more = a_shared c.args.items.now c.args.from c.loop-index.index c.index-items-index.result there along shared in
    let so = c.loop-index.invariant.count in
    let few = c.loop-index.invariant.few in
    record { from = omega (arith, along); count = omega (arith, more, so); few = omega (arith, few) }
