use Rattle.std.proofs.Common.{◌≡◌, true, length, refl}
use Rattle.std.proofs.lemmas.Option.{slice_get_read}
use Rattle.list_checks.specs.SpellFound.{is_begun}
use Rattle.list_checks.proofs.SpellCalls.{on_ok}
use Rattle.list_checks.proofs.SpellRanges.{cursor_found}
use Rattle.list_checks.proofs.spell.range.spell_cursor.Goals as goal

pub returns-then-begins : goal.returns-then-begins
returns-then-begins c =
    let there = slice_get_read c.args.items.now (length c.args.items.now) c.args.from c.in-Some.first.now refl c.in-Some.ensures.lookup.3.0 c.in-Some.ensures.lookup.1 in
    let begun : is_begun c.args.map c.in-Some.first.now ≡ true = cc in
    on_ok c.spell_steps.result (λ found steps. cursor_found c.args.map c.args.begin c.args.items.now c.args.from c.in-Some.first.now there found begun steps) c.spell_steps.ensures
