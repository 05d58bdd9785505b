use Rattle.table_words.proofs.Operated.{may_step, may_exchange}
use Rattle.table_words.proofs.words.TableWords.operate_as.Goals as goal

pub load-requires : goal.load-requires
load-requires g c = let may = may_step c.args.self.now c.args.seat.now.id c.args.seat.now.me g.O.Operation.atomic c.args.atomic g.O.Operation.call g.O.Timed.time c.args.step _ c.history_laws.ensures c.requires.free c.requires.told c.requires.operation c.in-Load.is in (c.requires.table, may.0, may.1)

pub swap-requires : goal.swap-requires
swap-requires g c = let may = may_step c.args.self.now c.args.seat.now.id c.args.seat.now.me g.O.Operation.atomic c.args.atomic g.O.Operation.call g.O.Timed.time c.args.step _ c.history_laws.ensures c.requires.free c.requires.told c.requires.operation c.in-Swap.is in (c.requires.table, may.0, may.1)

pub fetch_add-requires : goal.fetch_add-requires
fetch_add-requires g c = let may = may_step c.args.self.now c.args.seat.now.id c.args.seat.now.me g.O.Operation.atomic c.args.atomic g.O.Operation.call g.O.Timed.time c.args.step _ c.history_laws.ensures c.requires.free c.requires.told c.requires.operation c.in-Add.is in (c.requires.table, may.0, may.1)

pub fetch_and-requires : goal.fetch_and-requires
fetch_and-requires g c = let may = may_step c.args.self.now c.args.seat.now.id c.args.seat.now.me g.O.Operation.atomic c.args.atomic g.O.Operation.call g.O.Timed.time c.args.step _ c.history_laws.ensures c.requires.free c.requires.told c.requires.operation c.in-And.is in (c.requires.table, may.0, may.1)

pub fetch_or-requires : goal.fetch_or-requires
fetch_or-requires g c = let may = may_step c.args.self.now c.args.seat.now.id c.args.seat.now.me g.O.Operation.atomic c.args.atomic g.O.Operation.call g.O.Timed.time c.args.step _ c.history_laws.ensures c.requires.free c.requires.told c.requires.operation c.in-Or.is in (c.requires.table, may.0, may.1)

pub compare_exchange-requires : goal.compare_exchange-requires
compare_exchange-requires g c =
    let may = may_exchange c.args.self.now c.args.seat.now.id c.args.seat.now.me g.O.Operation.atomic c.args.atomic g.O.Operation.call g.O.Timed.time c.in-CompareExchange.old c.in-CompareExchange.new
    (may_step c.args.self.now c.args.seat.now.id c.args.seat.now.me g.O.Operation.atomic c.args.atomic g.O.Operation.call g.O.Timed.time c.args.step _ c.history_laws.ensures c.requires.free c.requires.told c.requires.operation c.in-CompareExchange.is) in
    (c.requires.table, may.0, may.1)
