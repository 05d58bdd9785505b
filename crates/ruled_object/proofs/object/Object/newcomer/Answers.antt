use Rattle.std.proofs.Common.{rules, ◌≡◌, sym, subst}
use Rattle.atomic_table.specs.Table.{Enters}
use Rattle.ruled_object.specs.Rule.{Kept}
use Rattle.ruled_object.specs.Steps.{blank}
use Rattle.ruled_object.proofs.Steps.{comes}
use Rattle.ruled_object.proofs.object.Object.newcomer.Goals as goal

pub load_new_seat-requires : goal.load_new_seat-requires
load_new_seat-requires g c =
    let m = g.M.Machine in
    let n = g.N.Note in
    let begin = c.args.self.now.table.shared.key in
    (search rules, subst (λ slots. Enters (Kept m.next m.HALTS m.frees m.takes n.front n.at g.M.Worded.tells g.M.Worded.means begin) slots 0 (λ _ w. w ≡ blank)) (sym c.args.self.now.sized.1) (comes m.next m.HALTS m.frees m.takes n.front n.at g.M.Worded.tells g.M.Worded.means begin))
