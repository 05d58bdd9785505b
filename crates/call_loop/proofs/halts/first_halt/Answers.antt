use Rattle.std.proofs.Common.{ap, ◌∙◌}
use Rattle.ruled_object.specs.Standing.{stand_by}
use Rattle.call_loop.proofs.halts.first_halt.Goals as goal

pub first_halt-requires : goal.first_halt-requires
first_halt-requires g c = record { count = c.requires.count; each = λ i pass at. ((c.requires.each i pass at).0.of, (c.requires.each i pass at).1) }

pub returns-clause-passes : goal.returns-clause-passes
returns-clause-passes g c =
    let p = g.P.Protocol in
    let all = c.first_halt.ensures.passes in (
      record {
        count = all.0.count;
        each = λ i pass at.
            let same = c.first_halt.ensures.own i pass at in
            (record { of = (all.0.each i pass at).0; stands = ap (λ own. stand_by p.out p.stands own) same.2 ∙ (c.requires.each i same.0 same.1).0.stands }, (all.0.each i pass at).1);
      },
      all.1,
    )
