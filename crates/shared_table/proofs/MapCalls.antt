-- A writer's way down to its key, and what its call leaves.
use Rattle.std.proofs.Common.{◌≡◌, ℕ, suc, ◌<◌, Bool, true, false, MatchBool, List, [], ◌∷◌, ◌++◌, length, Option, Some, None, refl, sym, ap, ◌∙◌, subst}
use Rattle.atomic_table.specs.Table.{Me}
use Rattle.sync_model.specs.declared.item.SharedCall.TheVariants as calls
use Rattle.sync_model.specs.declared.item.SharedReply.TheVariants as replies
use Rattle.sync_types.specs.declared.map_object.MapCall.{MapCall}
use Rattle.sync_types.specs.declared.map_object.MapCall.TheVariants.{Clear}
use Rattle.sync_types.specs.declared.map_object.MapReply.{MapReply}
use Rattle.sync_types.specs.declared.map_object.MapReply.TheVariants.{Done}
use Rattle.sync_model.specs.Shared.{Called, cost_of}
use Rattle.table_rule.specs.declared.begin.Begin.{Begin}
use Rattle.shared_table.specs.declared.map_call.Reached.{Reached}
use Rattle.shared_table.specs.declared.map_call.Reached.TheVariants.{Answered, Stands}
use Rattle.table_rule.specs.declared.view.CutNode.{CutNode}
use Rattle.table_rule.specs.declared.view.Gate.TheVariants.{Outside, Inside, Closed}
use Rattle.table_rule.specs.declared.view.Leaf.{Leaf}
use Rattle.table_rule.specs.declared.view.Lock.{Lock}
use Rattle.table_rule.specs.declared.view.View.{View}
use Rattle.table_rule.specs.declared.view.Walk.{Walk}
use Rattle.sync_types.specs.KeyCalls.{is_key_entry, key_reply}
use Rattle.trie_nodes.specs.declared.slot.Slot.TheVariants.{Empty, Node, Entry}
use Rattle.table_rule.specs.Clearing.{Clears}
use Rattle.table_rule.specs.Pruning.{having_cut}
use Rattle.shared_table.specs.MapCalls.{AnswersAndPrunes, MadeLocked, MakesAndPrunes, IsWriting, IsEnd, IsReached}
use Rattle.table_rule.specs.Shape.{start_of}
use Rattle.table_rule.specs.Views.{with_item, paid, called_view, view_state}
use Rattle.table_rule.specs.Walking.{standing, walk_at, given_by, HasWords, Answers, FindsIn, Settles, IsFree, OnWay, AtEntry}
use Rattle.table_rule.specs.Writing.{holding}
use Rattle.shared_table.proofs.Walks.{IsAt}
use Rattle.shared_table.proofs.Seeing.{looks_still}

module _ (k : Begin) (first : Me (Unit {0}) View) (m key : ℕ) (writing : IsWriting k first m) where
  pub on_way : (me : Me (Unit {0}) View) (node level : ℕ) → IsAt first m key me node level → OnWay k me (walk_at m key node level (length me.0.seen))
  on_way me node level at = subst (λ (u : View). OnWay k (u, me.1) (walk_at m key node level (length u.seen))) (sym at.view)
      record { live = writing.live; begin = writing.begin; some = writing.some; walk = refl; leaf = writing.leaf; since = refl }

  pub words_there : (me : Me (Unit {0}) View) (node level : ℕ) → IsAt first m key me node level → HasWords me.0 node 18
  words_there me node level at = subst (λ (u : View). HasWords u node 18) (sym at.view) at.words

  module _ (call : MapCall ℕ) (me after : Me (Unit {0}) View) (node level : ℕ) (at : IsAt first m key me node level) (same : after.1 ≡ me.1) where
    abbrev walk : View → Walk
    walk u = walk_at m key node level (length u.seen)

    abbrev here : View
    here = standing first.0 (Some (walk_at m key node level (length first.0.seen))) first.0.leaf

    pub goes_on : (below : ℕ) → FindsIn call (walk_at m key node level (length me.0.seen)) (Node below) me.0 after.0 → IsAt first m key after below (suc level) × (suc level < 8)
    goes_on below found = let f : FindsIn call (walk here) (Node below) here after.0 = subst (λ (u : View). FindsIn call (walk u) (Node below) u after.0) at.view found in (record { slots = same ∙ at.slots; view = f.0; words = f.1 }, f.2)

    -- what is found settles where the way ends
    ends : (held : Option ℕ) (leaf : Option Leaf) (last : View) → level < 8 → last ≡ standing after.0 after.0.walk None → (end : Reached) → IsEnd call held node level end → Settles call (walk here) held leaf here after.0 → IsReached call m key end first.0 last
    ends held leaf last below last_is (Answered reply) end settles = of_answer (is_key_entry call held) end.0 settles
      where
        of_answer : (b : Bool) → b ≡ false → MatchBool b (after.0 ≡ standing here here.walk leaf) (Answers m call (key_reply call held) 0 leaf here after.0) → Answers m call reply 0 None first.0 last
        of_answer true e a = absurd (let f : true ≡ false = e in (cc))
        of_answer false e a =
            let whole : last ≡ standing after.0 None None = last_is ∙ ap (λ w. standing after.0 w None) (ap (λ (u : View). u.walk) a.is) in record {
              item = a.item;
              time = a.time;
              seen = a.seen;
              is = whole ∙ ap (λ (u : View). standing u None None) a.is;
              called = subst (λ (z : MapReply × View). Called (start_of first.0.begin) (calls.Map m call) (replies.Map z.0) (cost_of call) (view_state first.0) (view_state z.1)) (λ i. (sym end.1 i, sym last_is i)) a.called;
              looks = looks_still after.0 last None None after.0.lock after.0.upper after.0.gate after.0.spot after.0.cut whole a.looks;
            }
    ends held leaf last below last_is (Stands n l) end settles = of_entry (is_key_entry call held) end.0 settles
      where
        of_entry : (b : Bool) → b ≡ true → MatchBool b (after.0 ≡ standing here here.walk leaf) (Answers m call (key_reply call held) 0 leaf here after.0) → IsReached call m key (Stands n l) first.0 last
        of_entry false e a = absurd (let f : false ≡ true = e in (cc))
        of_entry true e a = (
          last_is ∙ ap (λ (u : View). standing u u.walk None) a ∙ (λ i. standing first.0 (Some (walk_at m key (sym end.1 i) (sym end.2 i) (length first.0.seen))) None),
          subst (λ p. HasWords first.0 p 18) (sym end.1) at.words,
          subst (λ i. i < 8) (sym end.2) below,
        )

    pub ends_empty : level < 8 → (end : Reached) → IsEnd call None node level end → FindsIn call (walk_at m key node level (length me.0.seen)) Empty me.0 after.0 → IsReached call m key end first.0 after.0
    ends_empty below end is found =
        let f : FindsIn call (walk here) Empty here after.0 = subst (λ (u : View). FindsIn call (walk u) Empty u after.0) at.view found in
        ends None first.0.leaf after.0 below (no_leaf_after f) end is f
      where
        no_leaf_after : Settles call (walk here) None first.0.leaf here after.0 → after.0 ≡ standing after.0 after.0.walk None
        no_leaf_after f = by_entry (is_key_entry call None) f
          where
            by_entry : (b : Bool) → MatchBool b (after.0 ≡ standing here here.walk first.0.leaf) (Answers m call (key_reply call None) 0 first.0.leaf here after.0) → after.0 ≡ standing after.0 after.0.walk None
            by_entry true e = (λ i. standing after.0 after.0.walk ((ap (λ (u : View). u.leaf) e ∙ writing.leaf) i))
            by_entry false a = (λ i. standing after.0 after.0.walk ((ap (λ (u : View). u.leaf) a.is ∙ writing.leaf) i))

    abbrev pub KnowsThere : ℕ → Type 0
    KnowsThere place = FindsIn call (walk_at m key node level (length me.0.seen)) (Entry place) me.0 after.0

    found_here : (place : ℕ) → KnowsThere place → FindsIn call (walk here) (Entry place) here after.0
    found_here place found = subst (λ (u : View). FindsIn call (walk u) (Entry place) u after.0) at.view found

    facts : (l : Leaf) → Settles call (walk here) (given_by l key) (Some l) here after.0 → (after.0.live ≡ true) × (after.0.leaf ≡ Some l) × (after.0.begin ≡ first.0.begin)
    facts l f = by_entry (is_key_entry call (given_by l key)) f
      where
        by_entry : (b : Bool) → MatchBool b (after.0 ≡ standing here here.walk (Some l)) (Answers m call (key_reply call (given_by l key)) 0 (Some l) here after.0) → (after.0.live ≡ true) × (after.0.leaf ≡ Some l) × (after.0.begin ≡ first.0.begin)
        by_entry true e = (ap (λ (u : View). u.live) e ∙ writing.live, ap (λ (u : View). u.leaf) e, ap (λ (u : View). u.begin) e)
        by_entry false a = (ap (λ (u : View). u.live) a.is ∙ writing.live, ap (λ (u : View). u.leaf) a.is, ap (λ (u : View). u.begin) a.is)

    pub at_entry : (place : ℕ) → KnowsThere place → AtEntry after place × HasWords after.0 place 2 × (after.0.begin ≡ k)
    at_entry place found =
        let f = found_here place found in
        let t = facts f.0 f.4 in (
          record { live = t.0; entry = f.0; is = t.1; place_is = f.1 },
          subst (λ (b : Begin). HasWords (record first.0 { begin = b }) place 2) (sym t.2) f.3,
          t.2 ∙ writing.begin,
        )

    pub ends_entry : level < 8 → (place : ℕ) (held : Option ℕ) (last : View) → KnowsThere place → last ≡ standing after.0 after.0.walk None → ((l : Leaf) → after.0.leaf ≡ Some l → held ≡ given_by l key) → (end : Reached) → IsEnd call held node level end → IsReached call m key end first.0 last
    ends_entry below place held last found left gives end is =
        let f = found_here place found in
        let t = facts f.0 f.4 in
        let held_is = gives f.0 t.1 in
        ends held (Some f.0) last below left end is (subst (λ h. Settles call (walk here) h (Some f.0) here after.0) (sym held_is) f.4)

-- a writer that stands somewhere else is one still
pub writing_on : (k : Begin) (first me : Me (Unit {0}) View) (m : ℕ) (walk : Option Walk) → IsWriting k first m → me ≡ (standing first.0 walk None, first.1) → IsWriting k me m
writing_on k first me m walk w is = subst (λ z. IsWriting k z m) (sym is) record { live = w.live; begin = w.begin; some = w.some; few = w.few; gate = w.gate; leaf = refl; lock = w.lock; upper = w.upper }

-- and its call is as if it had stood nowhere
pub answers_on : (m : ℕ) (call : MapCall ℕ) (reply : MapReply) (words : ℕ) (v u w : View) (walk : Option Walk) → u ≡ standing v walk None → AnswersAndPrunes m call reply words u w → AnswersAndPrunes m call reply words v w
answers_on m call reply words v u w walk is (cut, a) = let b = subst (λ z. Answers m call reply words None (having_cut z cut) w) is a in (cut, record { item = b.item; time = b.time; seen = b.seen; is = b.is; called = b.called; looks = b.looks })

-- a call that was answered on its way cut off no node
pub answers_alone : (m : ℕ) (call : MapCall ℕ) (reply : MapReply) (words : ℕ) (v w : View) → Answers m call reply words None v w → AnswersAndPrunes m call reply words v w
answers_alone m call reply words v w a = ([], record { item = a.item; time = a.time; seen = a.seen; is = a.is; called = a.called; looks = a.looks })

-- a call under a lock, from before the lock was taken until it was given back
pub made_there : (m : ℕ) (call : MapCall ℕ) (key node level : ℕ) (reply : MapReply) (words : ℕ) (v u x y : View) (l : Lock) (cut : List CutNode) → v.lock ≡ None → v.upper ≡ None → u ≡ holding v v.gate (Some l) None
    → MadeLocked m call key node level reply words u x → y ≡ having_cut (standing (holding x x.gate None None) None None) cut → AnswersAndPrunes m call reply words v y
made_there m call key node level reply words v u x y l cut free alone took made left =
    let makes = (subst (λ (z : View). MadeLocked m call key node level reply words z x) took made).makes in (
      cut,
      record {
        item = makes.item;
        time = makes.time;
        seen = makes.seen;
        is = left ∙ ap (λ (z : View). having_cut (standing (holding z z.gate None None) None None) cut) makes.is
            ∙ (λ i. record (called_view v (paid (cost_of call) words (with_item v.owns makes.item makes.time)) makes.seen makes.time) { walk = None; leaf = None; lock = sym free i; upper = sym alone i; cut = cut ++ v.cut });
        called = subst (λ (z : View). Called (start_of v.begin) (calls.Map m call) (replies.Map reply) (cost_of call) (view_state v) (view_state z)) (sym left) makes.called;
        looks = looks_still x y None None None None x.gate x.spot (cut ++ x.cut) left makes.looks;
      },
    )

-- a call inside the gate, between coming in and going out
pub made_between : (k : Begin) (m : ℕ) (call : MapCall ℕ) (reply : MapReply) (words : ℕ) (first : Me (Unit {0}) View) (inside before after : View) → IsFree k first → inside ≡ holding first.0 (Inside m) None None → AnswersAndPrunes m call reply words inside before → after ≡ holding before Outside None None → MakesAndPrunes m call reply words first.0 after
made_between k m call reply words first inside before after free came (cut, made) went =
    let a = subst (λ z. Answers m call reply words None (having_cut z cut) before) came made in
    let idle = free.idle in
    let v = having_cut first.0 cut in (
      cut,
      record {
        item = a.item;
        time = a.time;
        seen = a.seen;
        is = went ∙ ap (λ z. holding z Outside None None) a.is ∙ (λ i. record (called_view v (paid (cost_of call) words (with_item v.owns a.item a.time)) a.seen a.time) { walk = sym idle.walk i; leaf = sym idle.leaf i; gate = sym idle.gate i; lock = sym idle.lock i; upper = sym idle.upper i });
        called = subst (λ z. Called (start_of v.begin) (calls.Map m call) (replies.Map reply) (cost_of call) (view_state v) (view_state z)) (sym went) a.called;
        looks = looks_still before after before.walk before.leaf None None Outside before.spot before.cut went a.looks;
      },
    )

-- a seat that knows no entry stands where it stands
pub stands_first : (me : Me (Unit {0}) View) → me.0.leaf ≡ None → me ≡ (standing me.0 me.0.walk None, me.1)
stands_first me none_known = ap (λ o. (standing me.0 me.0.walk o, me.1)) none_known

-- a clear, between closing the gate and opening it
pub clears_between : (k : Begin) (m : ℕ) (first closed alone before after : Me (Unit {0}) View) → IsFree k first → (closed.1 ≡ first.1) × (closed.0 ≡ holding first.0 (Closed m false) None None) → (alone.1 ≡ closed.1) × (alone.0 ≡ holding closed.0 (Closed m true) None None)
    → Clears m alone before → (after.1 ≡ before.1) × (after.0 ≡ holding before.0 Outside None None) → Clears m first after
clears_between k m first closed alone before after free shut known cleared opened =
    let idle = free.idle in
    let alone_is : alone ≡ (holding first.0 (Closed m true) None None, first.1) = (λ i. ((known.1 ∙ ap (λ v. holding v (Closed m true) None None) shut.1) i, (known.0 ∙ shut.0) i)) in
    let t = subst (λ z. Clears m z before) alone_is cleared in
    let d = t.1.0 in
    let made = t.1.2 in (
      opened.0 ∙ t.0,
      (
        d,
        record { map = t.1.1.map; top = t.1.1.top; entry = t.1.1.entry; before = ap (λ (v : View). v.seen) opened.1 ∙ t.1.1.before },
        record {
          item = made.item;
          time = made.time;
          seen = made.seen;
          is = opened.1 ∙ ap (λ z. holding z Outside None None) made.is
              ∙ (λ i. record (called_view (having_cut first.0 (d ∷ [])) (paid (cost_of {K = ℕ} Clear) 18 (with_item first.0.owns made.item made.time)) made.seen made.time) { gate = sym idle.gate i; lock = sym idle.lock i; upper = sym idle.upper i });
          called = subst (λ z. Called (start_of first.0.begin) (calls.Map m Clear) (replies.Map Done) (cost_of {K = ℕ} Clear) (view_state first.0) (view_state z)) (sym opened.1) made.called;
          looks = looks_still before.0 after.0 before.0.walk before.0.leaf None None Outside before.0.spot before.0.cut opened.1 made.looks;
        },
      ),
    )
