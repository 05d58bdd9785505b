use Rattle.std.proofs.Common.{◌≡◌, ℕ, ◌+◌, ◌<◌, true, cond, List, [], length, Some, slice_get, slice_index, refl, ap, sym, subst, ◌∙◌, arith}
use Rattle.std.proofs.lemmas.List.{length_push}
use Rattle.std.proofs.lemmas.Option.{slice_get_read, slice_get_within}
use Rattle.run_record.specs.Objects.{is_map, is_atomic, is_pool}
use Rattle.workload.specs.declared.object.ObjectLine.{ObjectLine}
use Rattle.workload.specs.Readable.{may_declare}
use Rattle.thread_runner.specs.Sites.{AreNumbers}
use Rattle.thread_runner.proofs.Numbers.{few_maps, few_atomics, few_pools, one_more, numbered, same_number, number_of}
use Rattle.thread_runner.proofs.site.numbers_of.Goals as goal

pub next_number-requires-clause-maps : goal.next_number-requires-clause-maps
next_number-requires-clause-maps c =
    let declared = subst (λ (os : List ObjectLine). may_declare [] os ≡ true) (sym c.objects-object-items.ensures.objects) c.workers-workers.ensures.readable.objects in
    omega (arith, few_maps c.objects-object-items.result.now c.loop-object.object-index declared, c.loop-object.invariant.maps)

pub next_number-requires-clause-atomics : goal.next_number-requires-clause-atomics
next_number-requires-clause-atomics c =
    let declared = subst (λ (os : List ObjectLine). may_declare [] os ≡ true) (sym c.objects-object-items.ensures.objects) c.workers-workers.ensures.readable.objects in
    omega (arith, few_atomics c.objects-object-items.result.now c.loop-object.object-index declared, c.loop-object.invariant.atomics)

pub next_number-requires-clause-pools : goal.next_number-requires-clause-pools
next_number-requires-clause-pools c =
    let declared = subst (λ (os : List ObjectLine). may_declare [] os ≡ true) (sym c.objects-object-items.ensures.objects) c.workers-workers.ensures.readable.objects in
    omega (arith, few_pools c.objects-object-items.result.now c.loop-object.object-index declared, c.loop-object.invariant.pools)

pub loop-object-preserved : goal.loop-object-preserved
loop-object-preserved c =
    let objects = c.objects-object-items.result.now in
    let i = c.loop-object.object-index in
    let at : slice_get objects i ≡ Some c.object-item.result = slice_get_read objects (length objects) i c.object-item.result refl c.loop-object-test.true c.object-item.is in
    let given = c.next_number.ensures.number ∙ same_number objects i _ _ _ c.object-item.result.kind c.loop-object.invariant.maps c.loop-object.invariant.atomics c.loop-object.invariant.pools in
    let items = c.in_ok-push.ensures.items in
    record {
      maps = c.next_number.ensures.maps ∙ ap (λ (n : ℕ). n + cond (is_map c.object-item.result.kind) 1 0) c.loop-object.invariant.maps ∙ sym (one_more is_map objects i c.object-item.result at);
      atomics = c.next_number.ensures.atomics ∙ ap (λ (n : ℕ). n + cond (is_atomic c.object-item.result.kind) 1 0) c.loop-object.invariant.atomics ∙ sym (one_more is_atomic objects i c.object-item.result at);
      pools = c.next_number.ensures.pools ∙ ap (λ (n : ℕ). n + cond (is_pool c.object-item.result.kind) 1 0) c.loop-object.invariant.pools ∙ sym (one_more is_pool objects i c.object-item.result at);
      count = ap (λ (l : List ℕ). length l) items ∙ length_push _ _ ∙ ap (λ (n : ℕ). n + 1) c.loop-object.invariant.count;
      each = subst (λ (l : List ℕ). (place : ℕ) (object : ObjectLine) → place < i + 1 → slice_get objects place ≡ Some object → slice_index l place ≡ number_of objects place object) (sym items)
          (numbered objects i c.object-item.result c.loop-object.numbers.items c.next_number.result at c.loop-object.invariant.count given c.loop-object.invariant.each);
    }

pub returns : goal.returns
returns c =
    let objects = c.objects-object-items.result.now in
    let whole : length objects ≡ c.loop-object.object-index = omega arith in
    subst (λ (os : List ObjectLine). AreNumbers os c.loop-object.numbers.items) c.objects-object-items.ensures.objects (record {
      count = c.loop-object.invariant.count ∙ sym whole;
      each = λ place object found. c.loop-object.invariant.each place object (omega (arith, slice_get_within objects place object found)) found;
    })
