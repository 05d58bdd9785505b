use Rattle.std.proofs.Common.{◌≡◌, ◌∙◌, ◌<◌, false, length, refl, sym, arith}
use Rattle.std.proofs.lemmas.Option.{slice_get_read}
use Rattle.run_cuts.specs.LineCuts.{is_halt}
use Rattle.list_checks.proofs.SpellLines.{no_halt}
use Rattle.list_checks.proofs.spell.line.are_halts.Goals as goal

pub returns-then-not-is_halt : goal.returns-then-not-is_halt
returns-then-not-is_halt c =
    let inside : c.loop-index.index < length c.args.items.now = omega arith in
    let there = slice_get_read c.args.items.now (length c.args.items.now) c.loop-index.index c.index-items-index.result refl inside c.index-items-index.is in
    let no : is_halt c.args.misuse c.index-items-index.result ≡ false = cc in
    sym (c.loop-index.invariant ∙ no_halt c.args.misuse c.args.items.now c.loop-index.index c.index-items-index.result there no)
