-- A call on a map that is no entry is placed, and its seat stands nowhere.
use Rattle.std.proofs.Common.{◌≡◌, ℕ, ◌≤◌, true, false, List, [], ◌∷◌, ◌++◌, length, set, Option, Some, None, refl, sym, ap, ◌∙◌, ◌+◌, slice_get}
use Rattle.std.proofs.lemmas.Option.{none-some}
use mathlib.Core.Option.{some}
use lib.ListN.{get_elem?}
use Rattle.sync_model.specs.declared.item.Item.{Item}
use Rattle.sync_model.specs.declared.item.SharedCall.TheVariants as calls
use Rattle.sync_model.specs.declared.item.SharedReply.TheVariants as replies
use Rattle.sync_types.specs.declared.map_object.MapCall.{MapCall}
use Rattle.sync_types.specs.declared.map_object.MapReply.{MapReply}
use Rattle.sync_model.specs.SharedHistory.{contents_at, IsReply, is_entry}
use Rattle.sync_model.specs.Shared.{cost_of}
use Rattle.table_rule.specs.declared.begin.Begin.{Begin}
use Rattle.table_rule.specs.declared.view.Leaf.{Leaf}
use Rattle.table_rule.specs.declared.view.Own.{Own}
use Rattle.table_rule.specs.declared.view.View.{View}
use Rattle.table_words.specs.Laws.{HistoryLaws}
use Rattle.table_rule.specs.Owed.{IsLeaf}
use Rattle.table_rule.specs.Rule.{TableState, Kept}
use Rattle.table_rule.specs.Shape.{start_of}
use Rattle.table_rule.specs.Views.{called_view, with_item, paid, MayPay}
use Rattle.table_rule.specs.Walking.{standing, Answers}
use Rattle.table_words.proofs.Ledgers.{MayPlace}
use Rattle.table_words.proofs.Placing.{placed_item, paid_first, call_number}
use Rattle.table_words.proofs.Placing as placing

-- a call that is no entry is placed, and its seat stands nowhere
module _ (k : Begin) (laws : HistoryLaws) (s : TableState) (r : Kept k s) (id : ℕ) (v : View) (at_me : get_elem? s.views id ≡ some v) (live : v.live ≡ true) (own : Own) (owns : List Own) (is : v.owns ≡ own ∷ owns)
    (m : ℕ) (call : MapCall ℕ) (pays : MayPay (cost_of call) own) (reply : MapReply) (place : ℕ) (from : length v.seen ≤ place) (to : place ≤ length r.log) (fresh : (n later : ℕ) → place ≤ n → slice_get r.ordered.entry_times n ≡ Some later → v.time + 2 ≤ later)
    (is_reply : IsReply (calls.Map m call) (replies.Map reply) (contents_at (start_of k) r.log place)) (quiet : false ≡ is_entry (calls.Map m call) (contents_at (start_of k) r.log place))
    (leaf : Option Leaf) (leaves : (l : Leaf) → leaf ≡ Some l → IsLeaf r.shape s.words l) where
  abbrev pub item : Item
  item = placed_item (calls.Map m call) (replies.Map reply) place v.front

  pub may : MayPlace k laws r.log r.calls v own item
  may = record {
    from = from;
    to = to;
    last = λ entry. absurd (let e : false ≡ true = entry in (cc));
    front = refl;
    reply = is_reply;
    entry = quiet;
    begun = λ b next. absurd (cc);
    shows = λ b n y shown at begin next reply. absurd (cc);
  }

  abbrev pub view_after : View
  view_after = placing.view_after k laws s r id v at_me live own owns is (calls.Map m call) (replies.Map reply) place may fresh (cost_of call) pays None refl (λ w at. absurd (none-some w at)) (λ w at inside. absurd (none-some w at)) leaf leaves v.spot (r.suits id v at_me live).spot

  pub kept_quiet : Kept k record { words = s.words; homes = s.homes; views = set s.views id view_after }
  kept_quiet = placing.kept_placed k laws s r id v at_me live own owns is (calls.Map m call) (replies.Map reply) place may fresh (cost_of call) pays None refl (λ w at. absurd (none-some w at)) (λ w at inside. absurd (none-some w at)) leaf leaves v.spot (r.suits id v at_me live).spot

  pub answers : v.begin ≡ k → Answers m call reply 0 leaf v view_after
  answers begin = record {
    item = item;
    time = call_number k s r v place;
    seen = r.log;
    is = ap (λ l. standing (called_view v l r.log (call_number k s r v place)) None leaf)
        (sym (paid_first (cost_of call) (record own { items = own.items ++ item ∷ []; times = own.times ++ call_number k s r v place ∷ [] }) owns) ∙ ap (λ l. paid (cost_of call) 0 (with_item l item (call_number k s r v place))) (sym is));
    called = placing.is_called k laws s r id v at_me live own owns is (calls.Map m call) (replies.Map reply) place may fresh (cost_of call) pays None refl (λ w at. absurd (none-some w at)) (λ w at inside. absurd (none-some w at)) leaf leaves v.spot (r.suits id v at_me live).spot begin;
    looks = placing.looks_then k laws s r id v at_me live own owns is (calls.Map m call) (replies.Map reply) place may fresh (cost_of call) pays None refl (λ w at. absurd (none-some w at)) (λ w at inside. absurd (none-some w at)) leaf leaves v.spot (r.suits id v at_me live).spot begin;
  }
