-- The words of a table contain what its maps and atomics contain after all of the history.
use Rattle.std.proofs.Common.{◌≡◌, ℕ, zero, suc, ◌+◌, ◌^◌, ◌<◌, ◌≤◌, ◌==◌, Bool, true, false, cond, eq-eqb, List, [], ◌∷◌, map, length, get_or, Option, Some, None, slice_get, slice_index, refl, sym, ap, ◌∙◌, arith, inl, inr}
use Rattle.std.specs.Prelude.{IsTrue, All}
use Rattle.std.specs.Cmp.{nat_cmp_total}
use Rattle.std.specs.FinMap.{empty, find, get-from_entries, same_map, nat_cmp-IsAntisymmetric}
use Rattle.std.specs.List.{enumerate_from, range_with_len}
use Rattle.std.specs.Ordering.{nat_cmp}
use Rattle.std.proofs.lemmas.Bool.{eqb-true, cases_lt}
use Rattle.std.proofs.lemmas.List.{same_lists, length-map, length-replicate, get_or_default}
use Rattle.std.proofs.lemmas.List.FromFn.{get_or-map-range_with_len, length-range_with_len, length-enumerate_from}
use Rattle.std.proofs.lemmas.List.Elements.{All-head, All-tail}
use Rattle.std.proofs.lemmas.Option.{none-some, same_Some}
use Rattle.sync_types.specs.declared.atomic_object.AtomicKind.{AtomicKind}
use Rattle.sync_types.specs.declared.atomic_object.AtomicKind.TheVariants as kinds
use Rattle.sync_types.specs.declared.atomic_object.Number.TheVariants.{Bool as Truth}
use Rattle.sync_model.specs.declared.item.SharedEntry.{SharedEntry}
use Rattle.sync_types.specs.SequentialAtomic.{zero_of, kind_of}
use Rattle.sync_model.specs.SharedHistory.{Contents, map_at, value_at, contents_after}
use Rattle.sync_types.specs.WordLayout.{number_in}
use Rattle.trie_nodes.specs.declared.slot.Slot.{Slot}
use Rattle.trie_nodes.specs.declared.slot.Slot.TheVariants.{Empty, Node, Entry}
use Rattle.trie_nodes.specs.Nodes.{slot_at, stands_for, Shows}
use Rattle.trie_nodes.specs.Paths.{nibble, route}
use Rattle.trie_nodes.specs.Walks.{ShowsMap, ArePairsOf}
use Rattle.table_words.specs.EndWords.{root_in, pairs_in, map_in, number_of, contents_in, IsTableRow}
use Rattle.table_rule.specs.declared.begin.Begin.{Begin}
use Rattle.table_words.specs.EndLaws.{EndLaws}
use Rattle.sync_model.specs.EndsOfHistory.{HasKeysBelow}
use Rattle.table_words.specs.Laws.{HistoryLaws}
use Rattle.table_rule.specs.Layout.{IsBegin}
use Rattle.table_rule.specs.Shape.{Shape, start_of, held_at, till, time, IsBelow, Fine}
use Rattle.table_words.proofs.KeyBounds.{not_tied}
use Rattle.table_words.proofs.Lists.{item_there}

-- what a slot shows, it shows of what is the same
shows_same : (words : List ℕ) (seed level key : ℕ) (below other : ℕ → Type 0) (held same : Option ℕ) (slot : Slot) → ((node : ℕ) → below node → other node) → held ≡ same → Shows words seed below level key held slot → Shows words seed other level key same slot
shows_same words seed level key below other held same Empty to is shown = sym is ∙ shown
shows_same words seed level key below other held same (Node node) to is shown = (shown.0, to node shown.1)
shows_same words seed level key below other held same (Entry entry) to is shown = (shown.0, sym is ∙ shown.1)

-- whether it is the node that is there
abbrev is_there : Option ℕ → ℕ → Bool
is_there None node = false
is_there (Some place) node = place == node

there_to : (o : Option ℕ) (node : ℕ) → IsTrue (is_there o node) → o ≡ Some node
there_to None node is = absurd (let e : false ≡ true = is in (cc))
there_to (Some place) node is = ap (λ n. Some n) (eqb-true place node is)

there_from : (o : Option ℕ) (node : ℕ) → o ≡ Some node → IsTrue (is_there o node)
there_from None node is = absurd (none-some node is)
there_from (Some place) node is = eq-eqb place node (same_Some place node is)

-- a list by number
numbered : {A B : Type 0} (f : ℕ × A → B) (xs : List A) (i : ℕ) (x : A) (d : B) → slice_get xs i ≡ Some x → get_or (map f (enumerate_from 0 xs)) i d ≡ f (i, x)
numbered {A} {B} f xs i x d at = from 0 xs i at ∙ (let e : 0 + i ≡ i = omega arith in ap (λ n. f (n, x)) e)
  where
    from : (n : ℕ) (xs : List A) (i : ℕ) → slice_get xs i ≡ Some x → get_or (map f (enumerate_from n xs)) i d ≡ f (n + i, x)
    from n [] i at = absurd (none-some x at)
    from n (y ∷ xs) zero at = let e : n ≡ n + zero = omega arith in λ j. f (e j, same_Some y x at j)
    from n (y ∷ xs) (suc i) at = from (n + 1) xs i at ∙ (let e : n + 1 + i ≡ n + suc i = omega arith in ap (λ m. f (m, x)) e)

-- a key that is too large isn't found
too_large : (q : ℕ) (pairs : List (ℕ × ℕ)) → All (λ pair. pair.0 < 2 ^ 32) pairs → 2 ^ 32 ≤ q → find nat_cmp q pairs ≡ None
too_large q [] all past = refl
too_large q (pair ∷ pairs) all past =
    let fits = All-head (λ (pair : ℕ × ℕ). pair.0 < 2 ^ 32) pair pairs all in
    ap (λ (b : Bool). cond b (Some pair.1) (find nat_cmp q pairs)) (not_tied (nat_cmp q pair.0) q pair.0 refl (λ same. omega arith)) ∙ too_large q pairs (All-tail (λ (pair : ℕ × ℕ). pair.0 < 2 ^ 32) pair pairs all) past

module _ (k : Begin) (laws : HistoryLaws) (ending : EndLaws) (sh : Shape) (log : List SharedEntry) (ws : List ℕ) (begin : IsBegin k) (fine : Fine k sh log ws) (keys : HasKeysBelow (2 ^ 32) (contents_after (start_of k) log)) where
  abbrev after : Contents
  after = contents_after (start_of k) log

  module _ (m : ℕ) (inside : m < k.maps) where
    abbrev root : ℕ
    root = root_in k.kinds ws m

    abbrev held : ℕ → Option ℕ
    held key = value_at (contents_after (start_of k) log) m key

    -- a reachable node's slot shows what its keys have
    reachable : (level node key : ℕ) → level < 8 → key < 2 ^ 32 → sh.node_at m (route k.seed level key) ≡ Some node
        → Shows ws k.seed (λ below. sh.node_at m (route k.seed (suc level) key) ≡ Some below) level key (value_at (contents_after (start_of k) log) m key) (slot_at ws node (nibble key k.seed level))
    reachable level node key fits key_fits at =
        let node_is = fine.live m (route k.seed level key) node at in
        let shows = (fine.slots node level key node_is.0 fits key_fits node_is.2).shows in
        let at_end : held_at k log (time sh log node) (sh.map_of node) key ≡ value_at (contents_after (start_of k) log) m key =
        (λ i. held_at k log (till (node_is.3 i) (length log)) (node_is.1 i) key) ∙ ap (λ (contents : Contents). value_at contents m key) (laws.contents_all (start_of k) log (length log) (omega arith)) in
        shows_same ws k.seed level key (IsBelow k sh log ws node level key) (λ below. sh.node_at m (route k.seed (suc level) key) ≡ Some below) (held_at k log (time sh log node) (sh.map_of node) key) (value_at (contents_after (start_of k) log) m key) (slot_at ws node (nibble key k.seed level))
        (λ below is. sym (λ i. sh.node_at ((is.1 ∙ node_is.1) i) (is.2 i)) ∙ fine.there below is.0 (is.3 ∙ node_is.3)) at_end shows

    in_order : ShowsMap ws k.seed held (sh.node_at m)
    in_order = record {
      shows = reachable;
      keys = λ level node key entry fits key_fits at is.
          let node_is = fine.live m (route k.seed level key) node at in
          (fine.leaves entry ((fine.slots node level key node_is.0 fits key_fits node_is.2).entry entry is)).is_key;
    }

    root_there : sh.node_at m [] ≡ Some root
    root_there = fine.roots m inside

    all_pairs : ArePairsOf held (pairs_in k.kinds ws m)
    all_pairs = ending.walks ws k.seed root held (sh.node_at m) begin.seed root_there in_order

    -- a lookup finds what a walk finds
    looked_up : (key : ℕ) → key < 2 ^ 32 → stands_for ws k.seed 0 root key ≡ held key
    looked_up key fits = ending.stands ws k.seed key (held key) (λ level node. is_there (sh.node_at m (route k.seed level key)) node)
        (λ level node level_fits is.
        shows_same ws k.seed level key (λ below. sh.node_at m (route k.seed (suc level) key) ≡ Some below) (λ below. IsTrue (is_there (sh.node_at m (route k.seed (suc level) key)) below)) (held key) (held key) (slot_at ws node (nibble key k.seed level))
        (λ below. there_from (sh.node_at m (route k.seed (suc level) key)) below) refl (reachable level node key level_fits fits (there_to (sh.node_at m (route k.seed level key)) node is)))
        0 root (omega arith) (there_from (sh.node_at m []) root root_there)

    pub map_is : map_in k.kinds ws m ≡ map_at (contents_after (start_of k) log) m
    map_is = same_map nat_cmp_total nat_cmp-IsAntisymmetric (map_in k.kinds ws m) (map_at after m) (λ q. get-from_entries nat_cmp_total (pairs_in k.kinds ws m) q ∙ elim (cases_lt q (2 ^ 32)) [
      | inl fits ↦ all_pairs.found q fits
      | inr past ↦ too_large q (pairs_in k.kinds ws m) all_pairs.keys past ∙ sym (absent q past (value_at after m q) refl)
    ])
      where
        absent : (q : ℕ) → 2 ^ 32 ≤ q → (o : Option ℕ) → value_at after m q ≡ o → o ≡ None
        absent q past None is = refl
        absent q past (Some v) is = absurd (let fits = keys m q v is in omega arith)

  pub row_is : IsTableRow k.kinds ws k.maps k.seed
  row_is = record {
    numbers = λ a kind at. (fine.numbers a kind at).0;
    roots = λ m inside. let node = fine.live m [] (root_in k.kinds ws m) (fine.roots m inside) in let within = (fine.nodes (root_in k.kinds ws m) node.0).within in let objects = begin.objects in let units = begin.units in omega arith;
    pairs = λ m inside. let all = all_pairs m inside in record {
      found = λ key fits. all.found key fits ∙ sym (looked_up m inside key fits);
      keys = all.keys;
      once = all.once;
    };
  }

  maps_are : map (map_in k.kinds ws) (range_with_len 0 k.maps) ≡ (contents_after (start_of k) log).maps
  maps_are =
      let f = map_in k.kinds ws in
      let long = length-map (range_with_len 0 k.maps) f ∙ length-range_with_len 0 k.maps in
      let many = ending.maps_long (start_of k) log ∙ length-replicate k.maps empty in
      same_lists (map f (range_with_len 0 k.maps)) (contents_after (start_of k) log).maps (long ∙ sym many)
      (λ m d below. let inside : m < k.maps = omega arith in
      get_or-map-range_with_len f 0 k.maps m m d inside (omega arith) ∙ map_is m inside ∙ get_or_default (contents_after (start_of k) log).maps m empty d (omega arith))

  numbers_are : map (number_of k.kinds ws) (enumerate_from 0 k.kinds) ≡ (contents_after (start_of k) log).numbers
  numbers_are =
      let f = number_of k.kinds ws in
      let long = length-map (enumerate_from 0 k.kinds) f ∙ length-enumerate_from 0 k.kinds in
      let many = laws.numbers_long (start_of k) log ∙ length-map k.kinds zero_of in
      same_lists (map f (enumerate_from 0 k.kinds)) (contents_after (start_of k) log).numbers (long ∙ sym many) (λ a d below.
      let inside : a < length k.kinds = omega arith in
      let kind = item_there k.kinds a inside in
      numbered f k.kinds a kind.0 d kind.1 ∙ sym (fine.numbers a kind.0 kind.1).1 ∙ get_or_default (contents_after (start_of k) log).numbers a (Truth false) d (omega arith))

  pub contents_are : contents_in k.kinds ws k.maps ≡ contents_after (start_of k) log
  contents_are = λ i. record { maps = maps_are i; numbers = numbers_are i }

-- an atomic's number is of its type
kind_of_number : (kind : AtomicKind) (word : ℕ) → kind_of (number_in kind word) ≡ kind
kind_of_number kinds.Int32 word = refl
kind_of_number kinds.Int64 word = refl
kind_of_number kinds.Uint32 word = refl
kind_of_number kinds.Uint64 word = refl
kind_of_number kinds.Bool word = refl

kinds_from : (all : List AtomicKind) (ws : List ℕ) (n : ℕ) (kinds : List AtomicKind) → map kind_of (map (number_of all ws) (enumerate_from n kinds)) ≡ kinds
kinds_from all ws n [] = refl
kinds_from all ws n (kind ∷ kinds) = λ i. kind_of_number kind (slice_index ws (1 + n)) i ∷ kinds_from all ws (n + 1) kinds i

pub kinds_are : (kinds : List AtomicKind) (ws : List ℕ) (maps : ℕ) → map kind_of (contents_in kinds ws maps).numbers ≡ kinds
kinds_are kinds ws maps = kinds_from kinds ws 0 kinds

pub maps_many : (kinds : List AtomicKind) (ws : List ℕ) (maps : ℕ) → length (contents_in kinds ws maps).maps ≡ maps
maps_many kinds ws maps = length-map (range_with_len 0 maps) (map_in kinds ws) ∙ length-range_with_len 0 maps
