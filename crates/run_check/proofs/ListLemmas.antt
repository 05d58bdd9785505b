-- A worker's list, line by line.
use Rattle.std.proofs.Common.{◌≡◌, ℕ, zero, suc, ◌+◌, ◌^◌, ◌<◌, ◌≤◌, ℤ, Bool, true, false, cond, ◌==◌, List, [], ◌∷◌, ◌++◌, length, map, get_or, drop, Option, Some, None, refl, sym, ap, ◌∙◌, subst, arith, append_assoc, add-one}
use Rattle.std.proofs.Math.Seq.{drop-cons}
use Rattle.std.proofs.lemmas.Bool.{eq-eqb}
use Rattle.std.proofs.lemmas.List.{append-nil}
use Rattle.std.specs.List.{filter, flat_map}
use Rattle.workload.specs.Plan.{Plan}
use Rattle.record_text.specs.declared.item_line.ItemLine.{ItemLine}
use Rattle.record_text.specs.declared.item_line.Said.{Said}
use Rattle.record_text.specs.declared.item_line.Said.TheVariants as said
use Rattle.record_text.specs.Told.{items_of}
use Rattle.run_check.specs.declared.told.along.Along.{Along}
use Rattle.run_check.specs.declared.told.lists.ToldList.{ToldList}
use Rattle.run_check.specs.declared.told.sketch.Sketch.{Sketch}
use Rattle.run_check.specs.ToldItems.{Kept, Sketched, along_behind, along_start, keep_list, keep_said, list_told, sketch_told, sketched_before}
use Rattle.run_check.specs.ToldLists.{AreParts, bare, behind_items, call_in, entry_at, parts_with, shared_at, spelt_in}

-- how many calls stand before grows by one at most
pub along_grows : (along : Along) (s : Said) (i : ℕ) → along.calls ≤ i → (along_behind along s).calls ≤ i + 1
along_grows along (said.Call place reply) i few = omega (arith, few)
along_grows along (said.Begin reach) i few = omega (arith, few)
along_grows along (said.Next reach shown) i few = omega (arith, few)
along_grows along (said.Entered object number event answer) i few = omega (arith, few)

-- the next line is the worker's, or another's
pub mine : (items : List ItemLine) (i worker : ℕ) (line : ItemLine) → drop i items ≡ line ∷ drop (i + 1) items → line.worker ≡ worker → items_of (drop i items) worker ≡ line ∷ items_of (drop (i + 1) items) worker
mine items i worker line next is =
    ap (λ (ls : List ItemLine). items_of ls worker) next ∙ ap (λ b. cond b (line ∷ items_of (drop (i + 1) items) worker) (items_of (drop (i + 1) items) worker)) (eq-eqb line.worker worker is)

pub other : (items : List ItemLine) (i worker : ℕ) (line : ItemLine) → drop i items ≡ line ∷ drop (i + 1) items → (line.worker == worker) ≡ false → items_of (drop i items) worker ≡ items_of (drop (i + 1) items) worker
other items i worker line next is_not =
    ap (λ (ls : List ItemLine). items_of ls worker) next ∙ ap (λ b. cond b (line ∷ items_of (drop (i + 1) items) worker) (items_of (drop (i + 1) items) worker)) is_not

-- the line at a place, before those behind it
pub line_next : (items : List ItemLine) (i : ℕ) (line : ItemLine) → i < length items → line ≡ get_or items i line → drop i items ≡ line ∷ drop (i + 1) items
line_next items i line below is = drop-cons items i line below ∙ ap (λ (l : ItemLine). l ∷ drop (suc i) items) (sym is) ∙ ap (λ n. line ∷ drop n items) (sym (add-one i))

flat_more : {X Y : Type 0} (f : X → List Y) (xs : List X) (x : X) → flat_map f (xs ++ x ∷ []) ≡ flat_map f xs ++ f x
flat_more f [] x = append-nil (f x)
flat_more f (y ∷ xs) x = ap (λ ys. f y ++ ys) (flat_more f xs x) ∙ sym (append_assoc (f y) (flat_map f xs) (f x))

map_more : {X Y : Type 0} (f : X → Y) (xs : List X) (x : X) → map f (xs ++ x ∷ []) ≡ map f xs ++ f x ∷ []
map_more f [] x = refl
map_more f (y ∷ xs) x = ap (λ ys. f y ∷ ys) (map_more f xs x)

pub one_item_more : (list : List Sketched) (s : Sketched) (old new : ToldList) → AreParts list old → new ≡ parts_with old s → AreParts (list ++ s ∷ []) new
one_item_more list s old new parts is = subst (AreParts (list ++ s ∷ [])) (sym is) (record {
  calls = ap (λ cs. cs ++ call_in s) parts.calls ∙ sym (flat_more call_in list s);
  spelt = ap (λ ms. ms ++ spelt_in s) parts.spelt ∙ sym (flat_more spelt_in list s);
  all = ap (λ ms. ms ++ bare s.sketch ∷ []) parts.all ∙ sym (map_more (λ (t : Sketched). bare t.sketch) list s);
  shared = ap (λ xs. xs ++ shared_at s.front s.sketch) parts.shared ∙ sym (flat_more (λ (t : Sketched). shared_at t.front t.sketch) list s);
  entries = ap (λ xs. xs ++ entry_at s.front s.sketch) parts.entries ∙ sym (flat_more (λ (t : Sketched). entry_at t.front t.sketch) list s);
})

module _ (plan : Plan) (kept : Kept) (worker : ℕ) (items : List ItemLine) where
  -- the lines before the i-th say these items
  pub record ListTo (i : ℕ) (along : Along) (told : ToldList) : Type 0 where
    pub list : List Sketched
    pub parts : AreParts list told
    pub few : along.calls ≤ i
    pub so_far : list_told plan kept worker along_start (items_of items worker) ≡ behind_items list (list_told plan kept worker along (items_of (drop i items) worker))

  pub none_told : (told : ToldList) → AreParts [] told → ListTo 0 along_start told
  none_told told parts = record { list = []; parts = parts; few = omega arith; so_far = by (list_told plan kept worker along_start (items_of items worker)) } where
    by : (found : Option (List Sketched)) → found ≡ behind_items [] found
    by None = refl
    by (Some list) = refl

  module _ (i : ℕ) (along : Along) (told : ToldList) (to : ListTo i along told) (line : ItemLine) (next : drop i items ≡ line ∷ drop (i + 1) items) where
    pub passed_over : (line.worker == worker) ≡ false → ListTo (i + 1) along told
    passed_over is_not = record {
      list = to.list;
      parts = to.parts;
      few = let few = to.few in omega (arith, few);
      so_far = to.so_far ∙ ap (λ (ls : List ItemLine). behind_items to.list (list_told plan kept worker along ls)) (other items i worker line next is_not);
    }

    here : line.worker ≡ worker → list_told plan kept worker along (items_of (drop i items) worker)
        ≡ sketched_before line (sketch_told plan kept worker along line.index line.said) (list_told plan kept worker (along_behind along line.said) (items_of (drop (i + 1) items) worker))
    here is = ap (list_told plan kept worker along) (mine items i worker line next is)

    pub says_none : line.worker ≡ worker → sketch_told plan kept worker along line.index line.said ≡ None → list_told plan kept worker along_start (items_of items worker) ≡ None
    says_none is none =
        to.so_far ∙ ap (behind_items to.list) (here is ∙ ap (λ (s : Option Sketch). sketched_before line s (list_told plan kept worker (along_behind along line.said) (items_of (drop (i + 1) items) worker))) none)

    pub says : line.worker ≡ worker → (sketch : Sketch) → sketch_told plan kept worker along line.index line.said ≡ Some sketch
        → (new : ToldList) → new ≡ parts_with told (record { index = line.index; front = line.front; sketch = sketch }) → ListTo (i + 1) (along_behind along line.said) new
    says is sketch found new parts = record {
      list = to.list ++ record { index = line.index; front = line.front; sketch = sketch } ∷ [];
      parts = one_item_more to.list (record { index = line.index; front = line.front; sketch = sketch }) told new to.parts parts;
      few = along_grows along line.said i to.few;
      so_far = to.so_far ∙ ap (behind_items to.list) (here is ∙ ap (λ (s : Option Sketch). sketched_before line s later) found) ∙ by later;
    } where
      later : Option (List Sketched)
      later = list_told plan kept worker (along_behind along line.said) (items_of (drop (i + 1) items) worker)

      by : (more : Option (List Sketched)) → behind_items to.list (sketched_before line (Some sketch) more) ≡ behind_items (to.list ++ record { index = line.index; front = line.front; sketch = sketch } ∷ []) more
      by None = refl
      by (Some more) = ap Some (sym (append_assoc to.list (record { index = line.index; front = line.front; sketch = sketch } ∷ []) more))

  pub all_told : (i : ℕ) (along : Along) (told : ToldList) → ListTo i along told → drop i items ≡ [] → (list : List Sketched) × (list_told plan kept worker along_start (items_of items worker) ≡ Some list) × AreParts list told
  all_told i along told to none =
      (to.list, to.so_far ∙ ap (λ (ls : List ItemLine). behind_items to.list (list_told plan kept worker along (items_of ls worker))) none ∙ ap Some (append-nil to.list), to.parts)

-- what a worker's lines tell of onces, up to the i-th of all
pub record KeptTo (first : Kept) (worker : ℕ) (items : List ItemLine) (i : ℕ) (along : Along) (kept : Kept) : Type 0 where
  pub few : along.calls ≤ i
  pub so_far : keep_list first along_start (items_of items worker) ≡ keep_list kept along (items_of (drop i items) worker)

module _ (first : Kept) (worker : ℕ) (items : List ItemLine) where
  pub none_kept : KeptTo first worker items 0 along_start first
  none_kept = record { few = omega arith; so_far = refl }

  module _ (i : ℕ) (along : Along) (kept : Kept) (to : KeptTo first worker items i along kept) (line : ItemLine) (next : drop i items ≡ line ∷ drop (i + 1) items) where
    pub not_kept : (line.worker == worker) ≡ false → KeptTo first worker items (i + 1) along kept
    not_kept is_not = record {
      few = let few = to.few in omega (arith, few);
      so_far = to.so_far ∙ ap (keep_list kept along) (other items i worker line next is_not);
    }

    pub one_kept : line.worker ≡ worker → (new : Kept) → new ≡ keep_said kept along.sum line.said → KeptTo first worker items (i + 1) (along_behind along line.said) new
    one_kept is new keeps = record {
      few = along_grows along line.said i to.few;
      so_far = to.so_far ∙ ap (keep_list kept along) (mine items i worker line next is)
          ∙ ap (λ (k : Kept). keep_list k (along_behind along line.said) (items_of (drop (i + 1) items) worker)) (sym keeps);
    }

  pub all_kept : (i : ℕ) (along : Along) (kept : Kept) → KeptTo first worker items i along kept → drop i items ≡ [] → kept ≡ keep_list first along_start (items_of items worker)
  all_kept i along kept to none = sym (to.so_far ∙ ap (λ (ls : List ItemLine). keep_list kept along (items_of ls worker)) none)
