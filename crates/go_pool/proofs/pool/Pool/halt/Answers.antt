use Rattle.std.proofs.Common.{◌≡◌, ◌<◌, refl, sym, ◌∙◌, arith, le_refl}
use Rattle.go_pool.proofs.FirstHalts.{halt_by, none_halted, halted_on, all_halted, later_so}
use Rattle.go_pool.proofs.Seats.{seat_numbers}
use Rattle.go_pool.proofs.pool.Pool.halt.Goals as goal

pub loop-part-init : goal.loop-part-init
loop-part-init g c =
    let first = g.N.Note.front c.args.note.now in record {
      is = c.requires.pass;
      same = (refl, refl);
      keeps = record { home = λ home here. here; kept = refl; rises = ((λ k. omega arith), le_refl first.time) };
      halted = none_halted c.args.self.now c.args.misuse first c.args.pass.now;
    }

pub halt_part-requires-clause-pass : goal.halt_part-requires-clause-pass
halt_part-requires-clause-pass g c = c.loop-part.invariant.is

pub loop-part-preserved : goal.loop-part-preserved
loop-part-preserved g c =
    let pool = c.args.self.now in
    let old = c.args.pass.now in
    let front = g.N.Note.front in
    let halts = c.halt_part.ensures in record {
      is = halts.pass.0;
      same = (halts.pass.1.0 ∙ c.loop-part.invariant.same.0, halts.pass.1.1 ∙ c.loop-part.invariant.same.1);
      keeps = c.notes_are_kept.ensures c.args.note.now c.loop-part.note c.halt_part.new.note c.loop-part.invariant.keeps halts.note;
      halted = halted_on pool c.args.misuse (front c.args.note.now) (front c.loop-part.note) (front c.halt_part.new.note) c.loop-part.part old c.loop-part.pass c.halt_part.new.pass (seat_numbers pool old c.requires.pass c.loop-part.part) c.loop-part.invariant.halted halts.entry halts.later.1 halts.no_edge;
    }

pub returns-clause-pass : goal.returns-clause-pass
returns-clause-pass g c = (c.loop-part.invariant.is, c.loop-part.invariant.same)

pub returns-clause-entry : goal.returns-clause-entry
returns-clause-entry g c =
    let pool = c.args.self.now in
    let old = c.args.pass.now in
    let from = g.N.Note.front c.args.note.now in
    let to = g.N.Note.front c.loop-part.note in
    let so = c.loop-part.invariant.halted in
    let end : c.loop-part.part ≡ pool.callers = (let past = c.loop-part-test.false in let most = c.loop-part.auto.part-end in omega arith) in (
      record (halt_by old.number c.args.misuse from) { time = to.time },
      all_halted pool c.args.misuse from c.loop-part.part old c.loop-part.pass to so (c.requires.pass.seats.count ∙ pool.are.count) end,
      refl,
      λ i. record { counts = sym so.same i; time = to.time },
    )

pub returns-clause-later : goal.returns-clause-later
returns-clause-later g c =
    let pool = c.args.self.now in
    let some : 0 < c.loop-part.part = (let past = c.loop-part-test.false in let few = pool.few.0 in omega arith) in (
      c.loop-part.invariant.keeps.rises.0,
      later_so pool c.args.misuse (g.N.Note.front c.args.note.now) c.loop-part.part c.args.pass.now c.loop-part.pass (g.N.Note.front c.loop-part.note) c.loop-part.invariant.halted some,
    )

pub returns-clause-note : goal.returns-clause-note
returns-clause-note g c = c.loop-part.invariant.keeps

pub returns-clause-no_edge : goal.returns-clause-no_edge
returns-clause-no_edge g c = c.loop-part.invariant.halted.same
