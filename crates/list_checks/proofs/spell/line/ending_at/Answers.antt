use Rattle.list_checks.proofs.SpellLines.{not_all_read}
use Rattle.list_checks.proofs.spell.line.ending_at.Goals as goal

pub returns-then-end-items : goal.returns-then-end-items
returns-then-end-items c = not_all_read c.args.items.now c.args.end c.args.ending c.if-end-items.true
