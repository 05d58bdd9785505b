use Rattle.std.proofs.Common.{Bool, List, sym, ◌∙◌, subst}
use Rattle.ruled_object.specs.declared.pass.Pass.{Pass}
use Rattle.ruled_object.specs.Gathered.{IsWhole, SameOwn}
use Rattle.ruled_object.specs.Passes.{start_of}
use Rattle.call_loop.specs.Between.{AreAllBetween}
use Rattle.thread_objects.specs.Columns.{AreSeated}
use Rattle.thread_objects.proofs.ColumnLists.{written}
use Rattle.thread_objects.proofs.ColumnLemmas.{all_of, seated_again, same_own}
use Rattle.thread_objects.proofs.seated.first_of.Goals as goal

pub first_halt-requires : goal.first_halt-requires
first_halt-requires g c = subst (AreAllBetween g.P.Protocol.out g.P.Protocol.stands c.args.object.now) (sym c.deref_mut.ensures.value) (all_of g.P.Protocol.begins g.P.Protocol.out g.P.Protocol.stands g.N.Note.at c.args._crew.now.home.now c.args._crew.now.workers c.args.object.now c.args.passes.now.items c.requires.seated)

pub returns-clause-seated : goal.returns-clause-seated
returns-clause-seated g c =
    let at = AreSeated g.P.Protocol.begins g.P.Protocol.out g.P.Protocol.stands g.N.Note.at c.args._crew.now.home.now c.args._crew.now.workers c.args._crew.now.workers c.args.object.now in
    subst at (sym (written c.first_halt.new.passes _ c.args.passes.now.len (sym c.deref_mut.ensures.len ∙ sym c.first_halt.ensures.passes.1.count)))
    (seated_again g.P.Protocol.begins g.P.Protocol.out g.P.Protocol.stands g.N.Note.at c.args._crew.now.home.now c.args._crew.now.workers c.args.object.now c.args.passes.now.items c.first_halt.new.passes c.requires.seated c.first_halt.ensures.passes.0)

pub returns-clause-owns : goal.returns-clause-owns
returns-clause-owns g c =
    let h = c.first_halt.ensures.history in
    let value = c.deref_mut.ensures.value in
    subst (SameOwn c.args.passes.now.items) (sym (written c.first_halt.new.passes _ c.args.passes.now.len (sym c.deref_mut.ensures.len ∙ sym c.first_halt.ensures.passes.1.count)))
    (subst (λ (old : List (Pass g.row.P-State.Denot g.row.N.Denot g.row.P-Event.Denot g.row.P-Reply.Denot)). SameOwn old c.first_halt.new.passes) value
    (same_own g.P.Machine.next g.P.Machine.HALTS g.P.Machine.frees g.P.Machine.takes _ c.deref_mut.result.now c.first_halt.new.passes h.0 c.first_halt.ensures.passes.1.count h.2 h.3.whole))

pub returns-clause-history : goal.returns-clause-history
returns-clause-history g c = let h = c.first_halt.ensures.history in
    record {
      journal = h.0;
      whole = subst (λ (halts : Bool). IsWhole g.P.Machine.next halts g.P.Machine.frees g.P.Machine.takes (start_of c.args.object.now) h.0 c.args.passes.now.items) c.requires.halts
          (subst (λ (old : List (Pass g.row.P-State.Denot g.row.N.Denot g.row.P-Event.Denot g.row.P-Reply.Denot)). IsWhole g.P.Machine.next g.P.Machine.HALTS g.P.Machine.frees g.P.Machine.takes (start_of c.args.object.now) h.0 old) c.deref_mut.ensures.value h.2);
      halted = h.1;
    }
