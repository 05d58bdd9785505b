-- Any step of a caller keeps the rule, where it keeps each of the three parts.
use Rattle.std.proofs.Common.{◌≡◌, ◌≢◌, ℕ, ◌+◌, ◌<◌, ◌≤◌, ◌^◌, true, List, [], set, Some, slice_get, sym, ap, ◌∙◌, arith}
use mathlib.Core.Option.{some}
use lib.ListN.{get_elem?}
use Rattle.sync_model.specs.declared.item.SharedEntry.{SharedEntry}
use Rattle.sync_model.specs.declared.item.Item.{Item}
use Rattle.sync_model.specs.SharedCalls.{Lawful, Grows}
use Rattle.sync_model.specs.SharedHistory.{contents_after}
use Rattle.table_rule.specs.declared.begin.Begin.{Begin}
use Rattle.table_rule.specs.declared.view.Own.{Own}
use Rattle.table_rule.specs.declared.view.View.{View}
use Rattle.table_rule.specs.Gates.{Gated}
use Rattle.table_words.specs.Laws.{HistoryLaws}
use Rattle.sync_model.specs.EndsOfHistory.{HasKeysBelow}
use Rattle.table_rule.specs.Layout.{callers_of}
use Rattle.table_rule.specs.Ledger.{Fits}
use Rattle.table_rule.specs.Order.{IsTimely}
use Rattle.table_rule.specs.Owed.{Suits}
use Rattle.table_rule.specs.Rule.{TableState, Kept}
use Rattle.table_rule.specs.Shape.{Shape, start_of, Fine}
use Rattle.table_rule.specs.Unused.{IsUnused}
use Rattle.table_rule.specs.Values.{AreInRange}
use Rattle.table_words.proofs.Frames.{Later, Apart, suits_on, fits_on}
use Rattle.table_words.proofs.Lists.{each_after}
use Rattle.table_words.proofs.Timing.{GoesOn, timely_on}
use Rattle.table_words.proofs.Unused.{LeavesUnused, was_unused, no_word}

-- what a step of caller c leads to, and that it keeps each part
pub record Keeps (k : Begin) (s : TableState) (r : Kept k s) (id c : ℕ) (words : List ℕ) (w : View) : Type 0 where
  pub log : List SharedEntry
  pub calls : ℕ → List Item
  pub shape : Shape
  pub mine : r.claim c ≡ id
  pub lawful : Lawful (start_of k) log calls
  pub none_else : (d : ℕ) → callers_of k ≤ d → calls d ≡ []
  pub keys : HasKeysBelow (2 ^ 32) (contents_after (start_of k) log)
  pub values : AreInRange log
  pub fine : Fine k shape log words
  pub gates : (m : ℕ) → m < k.maps → Gated k shape words m
  pub later : Later r.shape shape r.log log s.words words
  pub apart : Apart k c r.shape shape s.words words
  pub grows : Grows r.calls calls
  pub others : (d : ℕ) → d ≢ c → calls d ≡ r.calls d
  pub fits : Fits (callers_of k) log calls r.claim id w
  pub goes : GoesOn r.shape r.log r.calls s.views r.ordered shape log calls c w
  pub suits : Suits k shape log calls words w
  -- the view that the seat had, and that the step writes no word that nothing uses
  pub old : View
  pub at_old : get_elem? s.views id ≡ some old
  pub live : w.live ≡ true
  pub leaves : LeavesUnused k shape s.views id old.owns w s.words words

-- no other seat stands for a caller of this one
pub away : (k : Begin) (s : TableState) (r : Kept k s) (id c : ℕ) → r.claim c ≡ id → (j : ℕ) (u : View) → j ≢ id → get_elem? s.views j ≡ some u → u.live ≡ true
    → (i : ℕ) (own : Own) → slice_get u.owns i ≡ Some own → u.number + i ≢ c
away k s r id c mine j u other at live i own owned is = let o = (r.fits j u at live).owns i own owned in other (sym o.claimed ∙ ap r.claim is ∙ mine)

pub moves : (k : Begin) → HistoryLaws → (s : TableState) (r : Kept k s) (id c : ℕ) (words : List ℕ) (w : View) → Keeps k s r id c words w → Kept k record { words = words; homes = s.homes; views = set s.views id w }
moves k laws s r id c words w step = record {
  log = step.log;
  calls = step.calls;
  claim = r.claim;
  shape = step.shape;
  begin = r.begin;
  lawful = step.lawful;
  none_else = step.none_else;
  keys = step.keys;
  values = step.values;
  fine = step.fine;
  gates = step.gates;
  unused = λ i u. step.leaves.same i u ∙ r.unused i (was_unused k step.shape s.views id step.old w step.at_old step.live r.shape step.later.node step.later.entry i (step.leaves.drafts i u) u);
  fits = each_after (λ j u. u.live ≡ true → Fits (callers_of k) step.log step.calls r.claim j u) s.views id w (λ live. step.fits)
      (λ j u other at live. fits_on k r.shape step.shape r.log step.log s.words words step.later laws r.calls step.calls step.grows (callers_of k) c r.claim r.claim j u
      (λ d is. (is, step.others d (λ e. other (sym is ∙ ap r.claim e ∙ step.mine)))) (r.fits j u at live));
  ordered = let g = step.goes in record {
    entry_times = g.entry_times;
    times = g.times;
    clock = g.clock;
    order = g.order;
    apart = g.apart;
    entered = g.entered;
    called = g.called;
    seats = each_after (λ j u. u.live ≡ true → IsTimely step.shape step.log g.entry_times g.times g.clock u) s.views id w (λ live. g.mine)
        (λ j u other at live. timely_on k r.shape step.shape r.log step.log s.words words step.later r.calls step.calls s.views r.ordered c w g u (λ x is. ((r.suits j u at live).walk x is).node) (away k s r id c step.mine j u other at live) (r.ordered.seats j u at live));
  };
  suits = each_after (λ j u. u.live ≡ true → Suits k step.shape step.log step.calls words u) s.views id w (λ live. step.suits)
      (λ j u other at live. suits_on k r.shape step.shape r.log step.log s.words words step.later laws r.calls step.calls step.grows c step.apart u (away k s r id c step.mine j u other at live) (r.suits j u at live));
}

-- no word changes, and the history and the shape stay: what is owed to the seats is all that there is to show. The clock may go on
pub with_views : (k : Begin) (s : TableState) (r : Kept k s) (clock : ℕ) → r.ordered.clock ≤ clock → (claim : ℕ → ℕ) (views : List View) → ((i : ℕ) → IsUnused k r.shape views i → IsUnused k r.shape s.views i)
    → ((j : ℕ) (u : View) → get_elem? views j ≡ some u → u.live ≡ true → Fits (callers_of k) r.log r.calls claim j u)
    → ((j : ℕ) (u : View) → get_elem? views j ≡ some u → u.live ≡ true → IsTimely r.shape r.log r.ordered.entry_times r.ordered.times clock u)
    → ((j : ℕ) (u : View) → get_elem? views j ≡ some u → u.live ≡ true → Suits k r.shape r.log r.calls s.words u) → Kept k record { words = s.words; homes = s.homes; views = views }
with_views k s r clock more claim views unused fits timely suits = record {
  log = r.log;
  calls = r.calls;
  claim = claim;
  shape = r.shape;
  begin = r.begin;
  lawful = r.lawful;
  none_else = r.none_else;
  keys = r.keys;
  values = r.values;
  fine = r.fine;
  gates = r.gates;
  unused = λ i u. r.unused i (unused i u);
  fits = fits;
  ordered = let o = r.ordered in record {
    entry_times = o.entry_times;
    times = o.times;
    clock = clock;
    order = o.order;
    apart = o.apart;
    entered = λ n t at. let up = o.entered n t at in omega arith;
    called = λ c j t at. let up = o.called c j t at in omega arith;
    seats = timely;
  };
  suits = suits;
}

-- what is so of a seat's numbers stays so as the clock goes on
pub timely_later : (sh : Shape) (log : List SharedEntry) (entry_times : List ℕ) (times : ℕ → List ℕ) (clock then : ℕ) (u : View) → clock ≤ then → IsTimely sh log entry_times times clock u → IsTimely sh log entry_times times then u
timely_later sh log entry_times times clock then u more t = record { owns = t.owns; told = λ w is. let told = t.told w is in omega arith; since = t.since }

-- one seat alone goes elsewhere
pub with_view : (k : Begin) (s : TableState) (r : Kept k s) (clock : ℕ) → r.ordered.clock ≤ clock → (id : ℕ) (v w : View) → get_elem? s.views id ≡ some v → w.live ≡ true → w.owns ≡ v.owns → Fits (callers_of k) r.log r.calls r.claim id w
    → IsTimely r.shape r.log r.ordered.entry_times r.ordered.times clock w → Suits k r.shape r.log r.calls s.words w → Kept k record { words = s.words; homes = s.homes; views = set s.views id w }
with_view k s r clock more id v w at_me live owns fits timely suits = with_views k s r clock more r.claim (set s.views id w)
    (λ i u. was_unused k r.shape s.views id v w at_me live r.shape (λ p is. is) (λ p is. is) i ((no_word k r.shape s.views id v w at_me live owns s.words).drafts i u) u)
    (each_after (λ j u. u.live ≡ true → Fits (callers_of k) r.log r.calls r.claim j u) s.views id w (λ live. fits) (λ j u other at. r.fits j u at))
    (each_after (λ j u. u.live ≡ true → IsTimely r.shape r.log r.ordered.entry_times r.ordered.times clock u) s.views id w (λ live. timely)
    (λ j u other at live. timely_later r.shape r.log r.ordered.entry_times r.ordered.times r.ordered.clock clock u more (r.ordered.seats j u at live)))
    (each_after (λ j u. u.live ≡ true → Suits k r.shape r.log r.calls s.words u) s.views id w (λ live. suits) (λ j u other at. r.suits j u at))
