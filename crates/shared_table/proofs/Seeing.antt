-- A seat that has seen the whole history has seen it wherever it stands, and whatever it holds.
use Rattle.std.proofs.Common.{◌≡◌, List, Option, None, sym, ap, subst}
use Rattle.table_rule.specs.declared.view.CutNode.{CutNode}
use Rattle.table_rule.specs.declared.view.Gate.{Gate}
use Rattle.table_rule.specs.declared.view.Leaf.{Leaf}
use Rattle.table_rule.specs.declared.view.Lock.{Lock}
use Rattle.table_rule.specs.declared.view.Spot.{Spot}
use Rattle.table_rule.specs.declared.view.View.{View}
use Rattle.table_rule.specs.declared.view.Walk.{Walk}
use Rattle.table_rule.specs.Views.{Looks}

module _ (v w : View) (walk : Option Walk) (leaf : Option Leaf) (lock upper : Option Lock) (gate : Gate) (spot : Option Spot) (cut : List CutNode) where
  abbrev elsewhere : View → View
  elsewhere u = record u { walk = walk; leaf = leaf; lock = lock; upper = upper; gate = gate; spot = spot; cut = cut }

  pub looks_still : w ≡ elsewhere v → Looks v v → Looks w w
  looks_still is looks = subst (λ (u : View). Looks u u) (sym is) there
    where
      there : Looks (elsewhere v) (elsewhere v)
      there = record {
        log = looks.log;
        calls = looks.calls;
        is = ap elsewhere looks.is;
        seen = looks.seen;
        heard = looks.heard;
        lawful = looks.lawful;
        entry_times = looks.entry_times;
        times = looks.times;
        order = looks.order;
        none_else = looks.none_else;
        owned = looks.owned;
        made = looks.made;
        long = looks.long;
        values = looks.values;
      }
