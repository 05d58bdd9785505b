use Rattle.std.proofs.Common.{◌≡◌, ℕ, ◌+◌, [], ◌∷◌, ◌++◌, refl, sym, ◌∙◌, subst, arith}
use Rattle.go_pool.specs.Pools.{AreNew}
use Rattle.go_pool.specs.Tables.{IsSquare}
use Rattle.go_pool.proofs.Making.{MadeSo, none_made, made_on, made_square, new_passes, written}
use Rattle.go_pool.proofs.pool.Pool.new.Goals as goal

pub loop-number-init : goal.loop-number-init
loop-number-init g c = record {
  note = λ home is. is;
  made = subst (λ l. MadeSo g.N.Note.at c.args.note c.args.callers c.args.room c.args.calls 0 l c.in_ok-passes.passes.items) (sym c.in_ok-parts.ensures.items)
      (subst (λ l. MadeSo g.N.Note.at c.args.note c.args.callers c.args.room c.args.calls 0 [] l) (sym c.in_ok-passes.ensures.items) (none_made g.N.Note.at c.args.note c.args.callers c.args.room c.args.calls));
}

pub loop-number-preserved : goal.loop-number-preserved
loop-number-preserved g c =
    let k = c.loop-number.number in
    let made = made_on g.N.Note.at c.args.note c.args.callers c.args.room c.args.calls k c.loop-number.parts.items c.loop-number.passes.items c.in_ok-part.part (record { number = k; left = c.args.calls; parts = c.in_ok-part.column }) c.loop-number.invariant.made
    (record { callers_are = c.in_ok-part.ensures.part.0; begun = c.in_ok-part.ensures.part.1; homed = λ home is. c.in_ok-part.ensures.home home (c.loop-number.invariant.note home is) })
    (record { number = refl; left = refl; new = c.in_ok-part.ensures.passes }) in record {
      note = λ home is. c.in_ok-part.ensures.note home (c.loop-number.invariant.note home is);
      made = subst (λ l. MadeSo g.N.Note.at c.args.note c.args.callers c.args.room c.args.calls (k + 1) l c.push-in-loop-number.new.self.items) (sym c.in_ok-push.ensures.items)
          (subst (λ l. MadeSo g.N.Note.at c.args.note c.args.callers c.args.room c.args.calls (k + 1) (c.loop-number.parts.items ++ c.in_ok-part.part ∷ []) l) (sym c.in_ok-push-2.ensures.items) made);
    }

pub transpose-requires : goal.transpose-requires
transpose-requires g c =
    let end : c.loop-number.number ≡ c.args.callers = (let past = c.loop-number-test.false in let most = c.loop-number.auto.number-end in omega arith) in
    let so = subst (λ (k : ℕ). MadeSo g.N.Note.at c.args.note c.args.callers c.args.room c.args.calls k c.loop-number.parts.items c.loop-number.passes.items) end c.loop-number.invariant.made in
    record { square = subst (λ l. IsSquare l) (sym c.deref_mut.ensures.value) (made_square g.N.Note.at c.args.note c.args.callers c.args.room c.args.calls c.loop-number.parts.items c.loop-number.passes.items so) }

pub returns-clause-passes : goal.returns-clause-passes
returns-clause-passes g c =
    let end : c.loop-number.number ≡ c.args.callers = (let past = c.loop-number-test.false in let most = c.loop-number.auto.number-end in omega arith) in
    let so = subst (λ (k : ℕ). MadeSo g.N.Note.at c.args.note c.args.callers c.args.room c.args.calls k c.loop-number.parts.items c.loop-number.passes.items) end c.loop-number.invariant.made in
    let rows = subst (λ l. MadeSo g.N.Note.at c.args.note c.args.callers c.args.room c.args.calls c.args.callers c.loop-number.parts.items l) (sym c.deref_mut.ensures.value) so in
    subst (AreNew _ c.args.calls) (sym (written c.transpose.new.passes _ c.loop-number.passes.len (sym c.deref_mut.ensures.len ∙ sym c.transpose.ensures.rows.count)))
    (new_passes g.N.Note.at c.args.note c.args.calls _ c.deref_mut.result.now c.transpose.new.passes rows c.transpose.ensures.rows c.transpose.ensures.cells)
