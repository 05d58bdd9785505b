-- A cursor begins, and its seat is taken in by its caller's and let go again.
use Rattle.std.proofs.Common.{◌≡◌, ℕ, ◌<◌, true, List, [], ◌∷◌, length, set, Some, slice_index, refl, sym, ap, ◌∙◌, subst, arith, le_refl, None}
use Rattle.std.proofs.lemmas.List.{append-nil, set-get_or}
use Rattle.std.proofs.lemmas.Option.{none-some, same_Some, slice_get_within}
use mathlib.Core.Option.{some}
use lib.ListN.{get_elem?}
use Rattle.atomic_table.proofs.Lists.{set_else}
use Rattle.table_words.proofs.Unused.{taken_in}
use Rattle.atomic_table.specs.Table.{Me, keeps, Allows, Splits, Joins}
use Rattle.sync_model.specs.declared.item.SharedCall.TheVariants as calls
use Rattle.sync_model.specs.declared.item.SharedReply.TheVariants as replies
use Rattle.table_rule.specs.declared.begin.Begin.{Begin}
use Rattle.table_rule.specs.declared.view.Gate.TheVariants.{Outside}
use Rattle.table_rule.specs.declared.view.Own.{Own}
use Rattle.table_rule.specs.declared.view.Spot.{Spot}
use Rattle.table_rule.specs.declared.view.View.{View}
use Rattle.table_rule.specs.Cursors.{first_spot, Sweeps, BeginsCursor, mounted, unmounted, cursor_seat}
use Rattle.table_words.specs.Laws.{HistoryLaws}
use Rattle.table_rule.specs.Layout.{root_word, callers_of}
use Rattle.table_rule.specs.Ledger.{Fits}
use Rattle.table_rule.specs.Owed.{Stands, Suits}
use Rattle.table_rule.specs.Rule.{Kept}
use Rattle.table_words.specs.SweepLaws.{SweepLaws}
use Rattle.table_rule.specs.Views.{made_by, spent}
use Rattle.table_words.proofs.CursorSteps.{has_words}
use Rattle.table_words.proofs.Ledgers.{longer}
use Rattle.table_words.proofs.Lists.{each_after}
use Rattle.table_words.proofs.Moves.{with_views}
use Rattle.table_words.proofs.Seats.{divided, fits_copied, suits_copied, timely_copied}
use Rattle.table_words.proofs.Sweeping.{stands_first}
use Rattle.table_words.proofs.Swept.{view_after, kept_swept, sweeps}
use Rattle.table_words.proofs.Timing.{timely_nowhere}
use Rattle.table_words.proofs.Quiet.{allows_told}
use Rattle.table_rule.specs.Order.{IsTimely}
use Rattle.table_rule.specs.Walking.{told_at}

-- a seat reads a map's root word, and begins a cursor there
begins_now : (k : Begin) → HistoryLaws → SweepLaws → (id : ℕ) (me : Me (Unit {0}) View) (m : ℕ) → me.0.live ≡ true → me.0.begin ≡ k → 0 < length me.0.owns → me.0.walk ≡ None → m < k.maps → Allows (Kept k) 0 id me (root_word k m) (λ n. n) (BeginsCursor m me.0.time me)
begins_now k laws sweep id me m live begin some_owns nowhere below = by_owns me.0.owns refl
  where
    by_owns : (owns : List Own) → me.0.owns ≡ owns → Allows (Kept k) 0 id me (root_word k m) (λ n. n) (BeginsCursor m me.0.time me)
    by_owns [] e = let none_there = ap length e in absurd (omega arith)
    by_owns (own ∷ owns) is = λ s r one at_me bounded.
        let v = me.0 in
        let root = slice_index s.words (root_word k m) in
        let fits = r.fits id v at_me live in
        let node = r.fine.live m [] root (r.fine.roots m below) in
        let from = longer v.seen r.log fits.seen in
        let knows = laws.known r.calls r.calls v.front (length v.seen) (length r.log) (λ c. ([], sym (append-nil (r.calls c)))) from fits.front in
        let spot : Spot = first_spot (length own.items) m (length r.log) v.front root in
        let first = stands_first k sweep r.shape r.log s.words r.fine r.calls (length own.items) m root v.front (r.fine.roots m below) knows in
        let stands : (z : Spot) → Some spot ≡ Some z → Stands k r.shape r.log r.calls z = (λ z at. subst (Stands k r.shape r.log r.calls) (same_Some spot z at) first) in
        let leaves = (r.suits id v at_me live).leaf in
        let u = view_after k laws s r id v at_me live own owns is nowhere (calls.Begin m) replies.Begun refl refl from (λ b next. absurd (cc)) (λ b n y shown at begun next reply. absurd (cc)) v.leaf leaves (Some spot) stands in (
          u,
          keeps,
          tt,
          subst (λ ws. Kept k record { words = ws; homes = s.homes; views = set s.views id u }) (sym (set-get_or s.words (root_word k m) 0))
              (kept_swept k laws s r id v at_me live own owns is nowhere (calls.Begin m) replies.Begun refl refl from (λ b next. absurd (cc)) (λ b n y shown at begun next reply. absurd (cc)) v.leaf leaves (Some spot) stands),
          (
            refl,
            has_words k v root 18 r.begin begin (r.fine.nodes root node.0).within (omega arith),
            (
              length r.log,
              subst (λ (l : List Own). Sweeps (calls.Begin m) replies.Begun (Some (first_spot (made_by l) m (length r.log) v.front root)) v.leaf v u) (sym is)
                  (sweeps k laws s r id v at_me live own owns is nowhere (calls.Begin m) replies.Begun refl refl from (λ b next. absurd (cc)) (λ b n y shown at begun next reply. absurd (cc)) v.leaf leaves (Some spot) stands begin),
            ),
          ),
        )

-- the same, where it is told its caller's number at that step
pub begins_cursor : (k : Begin) → HistoryLaws → SweepLaws → (id : ℕ) (me : Me (Unit {0}) View) (m before : ℕ) → me.0.live ≡ true → me.0.begin ≡ k → 0 < length me.0.owns → me.0.walk ≡ None → m < k.maps → Allows (Kept k) 0 id me (root_word k m) (λ n. n) (BeginsCursor m before me)
begins_cursor k laws sweep id me m before live begin some_owns nowhere below = allows_told k id me (root_word k m) (λ n. n) (BeginsCursor m before me) before live nowhere (begins_now k laws sweep id (told_at before me) m live begin some_owns nowhere below)

-- a caller's seat takes in its cursor's
pub mounts : (k : Begin) (id : ℕ) (v : View) (other : ℕ) (w : View) (before : ℕ) → v.live ≡ true → w.live ≡ true → length w.owns ≡ 0 → v.walk ≡ None → Joins (Kept k) id v other w (mounted before v w) spent
mounts k id v other w before live live_it nobody nowhere s r at_me apart at_it = with_views k s r r.ordered.clock (le_refl r.ordered.clock) r.claim (set (set s.views id (mounted before v w)) other spent)
    (taken_in k r.shape s.views id other v w (mounted before v w) spent at_me at_w apart live (λ i mine. (mine, λ n own at. let inside = slice_get_within w.owns n own at in absurd (omega arith))))
    (each_after (λ j u. u.live ≡ true → Fits (callers_of k) r.log r.calls r.claim j u) (set s.views id (mounted before v w)) other spent (λ alive. absurd (cc))
    (λ j u not_it at. each_after (λ j u. u.live ≡ true → Fits (callers_of k) r.log r.calls r.claim j u) s.views id (mounted before v w) (λ alive. fits_mounted) (λ j u not_me at. r.fits j u at) j u at))
    (each_after (λ j u. u.live ≡ true → IsTimely r.shape r.log r.ordered.entry_times r.ordered.times r.ordered.clock u) (set s.views id (mounted before v w)) other spent (λ alive. absurd (cc))
    (λ j u not_it at. each_after (λ j u. u.live ≡ true → IsTimely r.shape r.log r.ordered.entry_times r.ordered.times r.ordered.clock u) s.views id (mounted before v w)
    (λ alive. timely_nowhere r.shape r.log r.ordered.entry_times r.ordered.times r.ordered.clock (mounted before v w) (r.ordered.seats id v at_me live).owns nowhere) (λ j u not_me at. r.ordered.seats j u at) j u at))
    (each_after (λ j u. u.live ≡ true → Suits k r.shape r.log r.calls s.words u) (set s.views id (mounted before v w)) other spent (λ alive. absurd (cc))
    (λ j u not_it at. each_after (λ j u. u.live ≡ true → Suits k r.shape r.log r.calls s.words u) s.views id (mounted before v w) (λ alive. suits_mounted) (λ j u not_me at. r.suits j u at) j u at))
  where
    at_w : get_elem? s.views other ≡ some w
    at_w = sym (set_else s.views id other (mounted before v w) apart) ∙ at_it

    fits_mounted : Fits (callers_of k) r.log r.calls r.claim id (mounted before v w)
    fits_mounted = let f = r.fits id v at_me live in record { seen = f.seen; heard = f.heard; long = f.long; front = f.front; owns = f.owns }

    suits_mounted : Suits k r.shape r.log r.calls s.words (mounted before v w)
    suits_mounted = let u = r.suits id v at_me live in record {
      begin = u.begin;
      walk = u.walk;
      steady = u.steady;
      leaf = u.leaf;
      spot = (r.suits other w at_w live_it).spot;
      cut = u.cut;
      room = u.room;
      gate = u.gate;
      only = u.only;
      holder = u.holder;
      closer = u.closer;
      lock = u.lock;
      upper = u.upper;
      nobody = u.nobody;
    }

-- and lets it go again
pub unmounts : (k : Begin) (id : ℕ) (v : View) → v.live ≡ true → v.gate ≡ Outside → Splits (Kept k) id v (unmounted v) (cursor_seat v)
unmounts k id v live outside s r at_me =
    let f = r.fits id v at_me live in
    let u = r.suits id v at_me live in
    divided k s r id v at_me (unmounted v) (cursor_seat v) r.claim (λ d j other is. is)
    record { seen = f.seen; heard = f.heard; long = f.long; front = f.front; owns = f.owns }
    (fits_copied k s r id v at_me live (length (set s.views id (unmounted v))))
    live
    live
    (λ i left right. left)
    record {
      begin = u.begin;
      walk = u.walk;
      steady = u.steady;
      leaf = u.leaf;
      spot = λ z at. absurd (none-some z at);
      cut = u.cut;
      room = u.room;
      gate = u.gate;
      only = u.only;
      holder = u.holder;
      closer = u.closer;
      lock = u.lock;
      upper = u.upper;
      nobody = u.nobody;
    }
    (suits_copied k s r id v at_me live outside)
    (let t = r.ordered.seats id v at_me live in record { owns = t.owns; told = t.told; since = t.since })
    (timely_copied k s r id v at_me live)
