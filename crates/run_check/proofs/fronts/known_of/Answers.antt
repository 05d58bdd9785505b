use Rattle.std.proofs.Common.{length, refl, sym, ap, ◌∙◌, arith}
use Rattle.std.proofs.lemmas.Bool.{false≢true}
use Rattle.std.proofs.lemmas.Option.{same_Some, slice_get_read}
use Rattle.run_check.specs.Fronts.{behind_line, standing}
use Rattle.run_check.proofs.FrontOrder.{all_known, fails, few, line_next, none_known, one_known_more, passed_over}
use Rattle.run_check.proofs.fronts.known_of.Goals as goal

pub loop-index-init : goal.loop-index-init
loop-index-init c = none_known c.args.workers c.args.items.now c.in_ok-known.known.items c.in_ok-known.ensures

pub loop-index-preserved-then-worker-len : goal.loop-index-preserved-then-worker-len
loop-index-preserved-then-worker-len c =
    let items = c.args.items.now in
    let index = c.loop-index.index in
    let line = c.index-items-index.result in
    let next = line_next items index line c.loop-index-test.true c.index-items-index.is in
    let count = c.loop-index.invariant.count in
    let past = c.if-worker-len.true in
    let long = c.len.ensures in
    passed_over c.args.workers items index c.loop-index.known.items c.loop-index.invariant line next (omega (arith, past, long, count))

pub returns-then-not-may_stand : goal.returns-then-not-may_stand
returns-then-not-may_stand c =
    let items = c.args.items.now in
    let index = c.loop-index.index in
    let line = c.index-items-index.result in
    let known = c.loop-index.known.items in
    let next = line_next items index line c.loop-index-test.true c.index-items-index.is in
    let short = c.if-worker-len.false in
    let long = c.len.ensures in
    let at = slice_get_read known (length known) line.worker c.index.result.now refl (omega (arith, short, long)) c.index.ensures in
    fails c.args.workers items index known c.loop-index.invariant line next c.index.result.now at
    (λ may. absurd (false≢true (sym c.if-not-may_stand.true ∙ c.may_stand.ensures.1 may)))

pub behind_line-requires : goal.behind_line-requires
behind_line-requires c =
    let items = c.args.items.now in
    let index = c.loop-index.index in
    let line = c.index-items-index.result in
    let known = c.loop-index.known.items in
    let next = line_next items index line c.loop-index-test.true c.index-items-index.is in
    let short = c.if-worker-len.false in
    let long = c.len.ensures in
    let at = slice_get_read known (length known) line.worker c.index-in-loop-index.result.now refl (omega (arith, short, long)) c.index-in-loop-index.ensures in
    let calls = few c.args.workers items index known c.loop-index.invariant line next c.index-in-loop-index.result.now at in
    omega (arith, calls, c)

pub loop-index-preserved : goal.loop-index-preserved
loop-index-preserved c =
    let items = c.args.items.now in
    let index = c.loop-index.index in
    let line = c.index-items-index.result in
    let known = c.loop-index.known.items in
    let next = line_next items index line c.loop-index-test.true c.index-items-index.is in
    let short = c.if-worker-len.false in
    let long = c.len.ensures in
    let at = slice_get_read known (length known) line.worker c.index.result.now refl (omega (arith, short, long)) c.index.ensures in
    let again = slice_get_read known (length known) line.worker c.index-in-loop-index.result.now refl (omega (arith, short, long)) c.index-in-loop-index.ensures in
    one_known_more c.args.workers items index known c.loop-index.invariant line next c.index.result.now at (c.may_stand.ensures.0 c.if-not-may_stand.false) c.behind_line.result
    (c.behind_line.ensures ∙ ap (λ one. behind_line (standing one) line) (same_Some c.index-in-loop-index.result.now c.index.result.now (sym again ∙ at)))

pub returns : goal.returns
returns c = all_known c.args.workers c.args.items.now c.loop-index.index c.loop-index.known.items (omega (arith, c.loop-index-test.false)) c.loop-index.invariant
