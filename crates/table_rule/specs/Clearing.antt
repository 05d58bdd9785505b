-- A seat that clears a map: how it stands to the map's gate, and what its steps tell.
use Rattle.std.specs.Prelude.{◌≡◌, ℕ, ◌^◌, ◌<◌, ◌==◌, Bool, true, false, [], ◌∷◌, ◌++◌, length, None, MatchBool}
use Rattle.atomic_table.specs.Table.{Me}
use Rattle.sync_types.specs.declared.map_object.MapCall.TheVariants.{Clear}
use Rattle.sync_types.specs.declared.map_object.MapReply.TheVariants.{Done}
use Rattle.sync_model.specs.declared.item.SharedEntry.{SharedEntry}
use Rattle.table_rule.specs.declared.begin.Begin.{Begin}
use Rattle.table_rule.specs.declared.view.CutNode.{CutNode}
use Rattle.table_rule.specs.declared.view.Gate.TheVariants.{Closed}
use Rattle.table_rule.specs.declared.view.View.{View}
use Rattle.table_rule.specs.Making.{MadeCall}
use Rattle.table_rule.specs.Pruning.{having_cut}
use Rattle.table_rule.specs.Views.{at_time}
use Rattle.table_rule.specs.Writing.{holding}

-- a seat has closed the gate of a map; it knows that no writer is inside, or doesn't know. It stands nowhere, and holds no lock
pub record HasClosed (k : Begin) (me : Me (Unit {0}) View) (m : ℕ) (alone : Bool) : Type 0 where
  pub live : me.0.live ≡ true
  pub begin : me.0.begin ≡ k
  pub some : 0 < length me.0.owns
  pub walk : me.0.walk ≡ None
  pub leaf : me.0.leaf ≡ None
  pub lock : me.0.lock ≡ None
  pub upper : me.0.upper ≡ None
  pub gate : me.0.gate ≡ Closed m alone
  pub spot : me.0.spot ≡ None

-- a seat tried to close the gate of a map, and has closed it where the gate's word was still this. It was told the number of its caller's last event. Writers may be inside
abbrev pub TriedClose : ℕ → ℕ → Bool → Me (Unit {0}) View → Me (Unit {0}) View → Type 0
TriedClose m time as_before before after = (after.1 ≡ before.1) × MatchBool as_before (after.0 ≡ holding (at_time before.0 time) (Closed m false) None None) (after.0 ≡ before.0)

abbrev pub Closes : ℕ → ℕ → ℕ → Me (Unit {0}) View → ℕ → Me (Unit {0}) View → Type 0
Closes m time old before found after = TriedClose m time (found == old) before after

-- a seat looked at the gate that it has closed. Where the word counts no writer, it knows that none is inside
abbrev pub SeesAlone : ℕ → Bool → Me (Unit {0}) View → Me (Unit {0}) View → Type 0
SeesAlone m alone before after = (after.1 ≡ before.1) × MatchBool alone (after.0 ≡ holding before.0 (Closed m true) None None) (after.0 ≡ before.0)

abbrev pub LooksInside : ℕ → Me (Unit {0}) View → ℕ → Me (Unit {0}) View → Type 0
LooksInside m before found after = SeesAlone m (found == 2 ^ 32) before after

-- a root of a map was cleared just before the last entry of the history that the seat has seen
pub record IsCleared (m : ℕ) (v : View) (d : CutNode) : Type 0 where
  pub map : d.map ≡ m
  pub top : d.level ≡ 0
  pub entry : SharedEntry
  pub before : v.seen ≡ d.before ++ entry ∷ []

-- a seat wrote a new empty root, which placed its call. It used the root's 18 words, and has cut off the old root
abbrev pub Clears : ℕ → Me (Unit {0}) View → Me (Unit {0}) View → Type 0
Clears m before after = (after.1 ≡ before.1) × ((d : CutNode) × IsCleared m after.0 d × MadeCall m Clear Done 18 (having_cut before.0 (d ∷ [])) after.0)
