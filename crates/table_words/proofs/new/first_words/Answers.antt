use Rattle.std.proofs.Common.{rules, ◌≡◌, ◌+◌, ◌*◌, set, replicate, sum, ap, ◌∙◌, subst, arith}
use Rattle.table_rule.specs.Layout.{root_word, first_root, size_of}
use Rattle.table_words.proofs.FirstWords.{HasRoots, no_roots, root_on, all_roots}
use Rattle.table_words.proofs.new.first_words.Goals as goal

pub loop-map-init : goal.loop-map-init
loop-map-init c =
    let k = c.args.begin.now in
    let units = c.units_of-units.ensures ∙ ap sum c.as_slice.ensures in
    let atomics = c.layout-layout.ensures.atomics in
    let maps = c.layout-layout.ensures.maps in
    let start = c.first_room.ensures in
    let size : c.first_room.result + 128 * c.units_of-units.result ≡ size_of k = omega arith in
    record {
      wide = c.in_ok-words.ensures.len ∙ size;
      roots = no_roots k c.in_ok-words.words.items (c.in_ok-words.ensures.items_if_clones_equal (λ y e. e) ∙ ap (λ n. replicate n 0) size);
    }

pub index_mut-requires : goal.index_mut-requires
index_mut-requires c =
    let wide = c.loop-map.invariant.wide in
    let inside = c.loop-map-test.true in
    let atomics = c.layout-layout.ensures.atomics in
    let root = c.root_word.ensures in
    omega arith

pub loop-map-preserved : goal.loop-map-preserved
loop-map-preserved c =
    let k = c.args.begin.now in
    let n = c.loop-map.map in
    let atomics = c.layout-layout.ensures.atomics in
    let maps = c.layout-layout.ensures.maps in
    let at : root_word k n ≡ c.root_word.result = (let e = c.root_word.ensures in omega arith) in
    let root : first_root k n ≡ c.first_root.result = (let e = c.first_root.ensures in omega arith) in
    record {
      wide = search rules;
      roots = subst (λ r. HasRoots k (n + 1) (set c.loop-map.words.items c.root_word.result r)) root
          (subst (λ i. HasRoots k (n + 1) (set c.loop-map.words.items i (first_root k n))) at (root_on k n c.loop-map.words.items c.loop-map.invariant.roots c.loop-map-test.true));
    }

pub returns : goal.returns
returns c =
    let ended = c.loop-map-test.false in
    let least = c.loop-map.auto.map-end in
    let k = c.args.begin.now in
    let same : c.loop-map.map ≡ k.maps = omega arith in
    all_roots k c.loop-map.words.items (subst (λ n. HasRoots k n c.loop-map.words.items) same c.loop-map.invariant.roots)
