use Rattle.std.proofs.Common.{◌≡◌, ℕ, ◌+◌, ◌-◌, ◌<◌, ◌≤◌, Bool, cond, List, length, get_or, Some, slice_get, refl, sym, ap, ◌∙◌, subst, arith}
use Rattle.std.proofs.lemmas.Option.{same_Some, slice_get-get_or}
use Rattle.workload.specs.declared.object.ObjectKind.{ObjectKind}
use Rattle.workload.specs.declared.object.ObjectLine.{ObjectLine}
use Rattle.workload.specs.declared.object.ObjectWord.TheVariants as words
use Rattle.run_record.specs.Objects.{first_part, is_pool}
use Rattle.thread_objects.specs.Desks.{IsObjectAt}
use Rattle.thread_objects.specs.Kinds.{HasWord}
use Rattle.run_record.specs.Halts.{halted_at}
use Rattle.thread_runner.proofs.HaltLemmas.{halts_as, halts_declared, no_pool, pool_halted}
use Rattle.thread_runner.proofs.halting.halt_declared.Goals as goal

-- of one more pool all parts are objects of the run
all_within : (first workers count : ℕ) → 0 < workers → ((part : ℕ) → part < workers → first + part < count) → first + workers ≤ count
all_within first workers count some within = let last = within (workers - 1) (omega (arith, some)) in omega (arith, last, some)

-- the line that was read stands at its place
line_here : (lines declared : List ObjectLine) (place : ℕ) (d : ObjectLine) → lines ≡ declared → place < length declared → slice_get declared place ≡ Some (get_or lines place d)
line_here lines declared place d same below = slice_get-get_or declared place d below ∙ ap (λ (l : List ObjectLine). Some (get_or l place d)) (sym same)

pub halt_parts-requires-clause-parts : goal.halt_parts-requires-clause-parts
halt_parts-requires-clause-parts g c = λ part below.
    let plan = c.args.workload.now in
    let here = get_or c.objects-lines.result.now c.args.place c.index-lines-place.result in
    let at = line_here c.objects-lines.result.now plan.objects c.args.place c.index-lines-place.result c.objects-lines.ensures.objects c.requires.place in
    let found = c.objects_are_of_their_kinds.ensures.parts c.args.worker.now.at.home.now plan c.args.objects.now c.args.place part c.requires.declared (here, at, c.in-Pool.is) (omega (arith, below, c.requires.workers)) in
    subst (λ (n : ℕ). IsObjectAt (HasWord words.Pool) c.args.objects.now (n + part)) (sym c.requires.first) found.1

pub halt_parts-requires-clause-room : goal.halt_parts-requires-clause-room
halt_parts-requires-clause-room g c =
    let plan = c.args.workload.now in
    let here = get_or c.objects-lines.result.now c.args.place c.index-lines-place.result in
    let at = line_here c.objects-lines.result.now plan.objects c.args.place c.index-lines-place.result c.objects-lines.ensures.objects c.requires.place in
    let within = all_within (first_part plan c.args.place) plan.workers _ (omega (arith, c.workers-workers.ensures.readable.some_workers)) (λ part below. c.parts_have_numbers_of_their_own.ensures.within plan c.args.place part here at c.in-Pool.is below) in
    omega (arith, within, c.requires.first, c.requires.workers, c.requires.declared.count)

pub returns-in-Pool-clause-next : goal.returns-in-Pool-clause-next
returns-in-Pool-clause-next g c =
    let plan = c.args.workload.now in
    let here = get_or c.objects-lines.result.now c.args.place c.index-lines-place.result in
    let at = line_here c.objects-lines.result.now plan.objects c.args.place c.index-lines-place.result c.objects-lines.ensures.objects c.requires.place in
    let parts : cond (is_pool here.kind) plan.workers 0 ≡ plan.workers = ap (λ (k : ObjectKind). cond (is_pool k) plan.workers 0) c.in-Pool.is in
    omega (arith, parts, c.parts_have_numbers_of_their_own.ensures.follow plan c.args.place here at, c.requires.first, c.workers-workers.ensures.workers)

pub returns-in-Pool-clause-halted : goal.returns-in-Pool-clause-halted
returns-in-Pool-clause-halted g c = λ line found.
    let plan = c.args.workload.now in
    let here = get_or c.objects-lines.result.now c.args.place c.index-lines-place.result in
    let at = line_here c.objects-lines.result.now plan.objects c.args.place c.index-lines-place.result c.objects-lines.ensures.objects c.requires.place in
    let same : line ≡ here = same_Some line here (sym found ∙ at) in
    halts_as c.args.misuse _ (halted_at plan c.args.place line.kind) _ _ (pool_halted plan c.args.place c.args.first c.args.worker.now.workers line.kind (ap (λ (l : ObjectLine). l.kind) same ∙ c.in-Pool.is) c.requires.first c.requires.workers) c.halt_parts.ensures.halted

pub returns-in_default-clause-next : goal.returns-in_default-clause-next
returns-in_default-clause-next g c =
    let plan = c.args.workload.now in
    let here = get_or c.objects-lines.result.now c.args.place c.index-lines-place.result in
    let at = line_here c.objects-lines.result.now plan.objects c.args.place c.index-lines-place.result c.objects-lines.ensures.objects c.requires.place in
    let none : cond (is_pool here.kind) plan.workers 0 ≡ 0 = ap (λ (b : Bool). cond b plan.workers 0) (no_pool here.kind c.in_default.not-Pool) in
    omega (arith, none, c.parts_have_numbers_of_their_own.ensures.follow plan c.args.place here at, c.requires.first)

pub returns-in_default-clause-halted : goal.returns-in_default-clause-halted
returns-in_default-clause-halted g c = λ line found.
    let plan = c.args.workload.now in
    let home = c.args.worker.now.at.home.now in
    let place = c.args.place in
    let here = get_or c.objects-lines.result.now place c.index-lines-place.result in
    let at = line_here c.objects-lines.result.now plan.objects place c.index-lines-place.result c.objects-lines.ensures.objects c.requires.place in
    let same : here ≡ line = same_Some here line (sym at ∙ found) in
    let object = c.objects_are_of_their_kinds.ensures.kind home plan c.args.objects.now place here.kind c.requires.declared (here, at, refl) in
    let is = halts_declared g.N.Note.at home plan place here.kind object.0 c.in_default.not-Pool (c.requires.declared.each place here object.0 at object.1) in
    halts_as c.args.misuse _ (halted_at plan place line.kind) _ _ (is ∙ ap (λ (l : ObjectLine). halted_at plan place l.kind) same) (c.halt_at.ensures.halted object.0 object.1)
