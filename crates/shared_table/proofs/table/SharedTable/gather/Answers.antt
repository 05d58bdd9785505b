use Rattle.std.proofs.Common.{◌<◌, get_or, length, subst, arith}
use Rattle.std.proofs.lemmas.Option.{slice_get-get_or}
use Rattle.shared_table.specs.Settling.{AreSameCallers, Gathered}
use Rattle.shared_table.proofs.Settles.{only_own, same_list, nothing_gathered}
use Rattle.shared_table.proofs.table.SharedTable.gather.Goals as goal

pub seat_like-all-requires : goal.seat_like-all-requires
seat_like-all-requires c =
    let callers = c.args.callers.now in
    let some_caller = c.args.self.now.made.some in
    let count = c.requires.all in
    let below : 0 < length callers = omega arith in
    (c.requires.each 0 _ (slice_get-get_or callers 0 c.index-callers-0.result below)).0

pub bring_all-requires-clause-all : goal.bring_all-requires-clause-all
bring_all-requires-clause-all c =
    let callers = c.args.callers.now in
    let some_caller = c.args.self.now.made.some in
    let count = c.requires.all in
    let below : 0 < length callers = omega arith in
    let first = get_or callers 0 c.index-callers-0.result in
    let is = c.requires.each 0 first (slice_get-get_or callers 0 c.index-callers-0.result below) in
    (c.seat_like-all.ensures.seat.0, nothing_gathered c.args.self.now _ first.note c.seat_like-all.result.me is.0 (only_own first.note 0 is.0.few is.1).2 c.seat_like-all.ensures.seat.1)

pub returns-clause-gathered : goal.returns-clause-gathered
returns-clause-gathered c =
    let list = same_list c.args.callers.now c.index-callers-0.result c.seat_like-all.new.note c.seat_like-all.ensures.note in
    subst (λ l. Gathered c.args.self.now l (length l) c.bring_all.new.all.me) list c.bring_all.ensures.all.1

pub returns-clause-callers : goal.returns-clause-callers
returns-clause-callers c =
    let list = same_list c.args.callers.now c.index-callers-0.result c.seat_like-all.new.note c.seat_like-all.ensures.note in
    subst (λ l. AreSameCallers l c.bring_all.new.callers) list c.bring_all.ensures.callers
