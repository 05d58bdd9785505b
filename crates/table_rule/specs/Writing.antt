-- A seat that writes: what it holds, and what its steps tell.
use Rattle.std.specs.Prelude.{◌≡◌, ℕ, ◌+◌, ◌*◌, ◌<◌, ◌≤◌, ◌==◌, Bool, true, false, List, [], ◌∷◌, ◌++◌, length, Option, Some, None, MatchBool, slice_get}
use Rattle.atomic_table.specs.Table.{Me}
use Rattle.table_rule.specs.declared.begin.Begin.{Begin}
use Rattle.table_rule.specs.declared.view.Gate.{Gate}
use Rattle.table_rule.specs.declared.view.Gate.TheVariants.{Outside, Inside}
use Rattle.table_rule.specs.declared.view.Lock.{Lock}
use Rattle.table_rule.specs.declared.view.Own.{Own}
use Rattle.table_rule.specs.declared.view.View.{View}
use Rattle.table_rule.specs.declared.view.Walk.{Walk}
use Rattle.trie_nodes.specs.Layout.{unit_words}
use Rattle.table_rule.specs.Layout.{size_of}
use Rattle.table_rule.specs.Views.{at_time}
use Rattle.table_rule.specs.Walking.{standing}

-- the view of a seat that stands to a gate so, and holds these locks
abbrev pub holding : View → Gate → Option Lock → Option Lock → View
holding v gate lock upper = record v { gate = gate; lock = lock; upper = upper }

-- the lock of the node where a seat stands, of which nothing was read
abbrev pub lock_at : Walk → ℕ → Lock
lock_at w up = record { node = w.node; up = up; key = w.key; level = w.level; found = None; empty = 0; dead = false }

-- a seat of a caller that is counted as a writer stands at a node on its way, and holds no lock
pub record IsWriter (k : Begin) (me : Me (Unit {0}) View) (w : Walk) : Type 0 where
  pub live : me.0.live ≡ true
  pub begin : me.0.begin ≡ k
  pub some : 0 < length me.0.owns
  pub walk : me.0.walk ≡ Some w
  pub gate : me.0.gate ≡ Inside w.map
  pub lock : me.0.lock ≡ None
  pub upper : me.0.upper ≡ None

-- a seat tried the lock of a node, and holds it where it was free
abbrev pub TriedLock : Walk → Bool → Me (Unit {0}) View → Me (Unit {0}) View → Type 0
TriedLock w free before after = (after.1 ≡ before.1) × MatchBool free ((up : ℕ) × (after.0 ≡ holding before.0 before.0.gate (Some (lock_at w up)) None)) (after.0 ≡ before.0)

abbrev pub TriesLock : Walk → Me (Unit {0}) View → ℕ → Me (Unit {0}) View → Type 0
TriesLock w before found after = TriedLock w (found == 0) before after

-- a seat holds this lock, and no other
pub record Holds (k : Begin) (me : Me (Unit {0}) View) (l : Lock) : Type 0 where
  pub live : me.0.live ≡ true
  pub begin : me.0.begin ≡ k
  pub some : 0 < length me.0.owns
  pub lock : me.0.lock ≡ Some l
  pub upper : me.0.upper ≡ None
  pub living : l.dead ≡ false

-- a seat gave a lock back, and stands nowhere
abbrev pub Unlocks : Me (Unit {0}) View → ℕ → Me (Unit {0}) View → Type 0
Unlocks before found after = (after.1 ≡ before.1) × (after.0 ≡ standing (holding before.0 before.0.gate None None) None None)

-- a seat tried to come in as a writer of a map, and is inside where the gate's word was still this. It was told the number of its caller's last event
abbrev pub CameIn : ℕ → ℕ → Bool → Me (Unit {0}) View → Me (Unit {0}) View → Type 0
CameIn m time as_before before after = (after.1 ≡ before.1) × MatchBool as_before (after.0 ≡ holding (at_time before.0 time) (Inside m) None None) (after.0 ≡ before.0)

abbrev pub ComesIn : ℕ → ℕ → ℕ → Me (Unit {0}) View → ℕ → Me (Unit {0}) View → Type 0
ComesIn m time old before found after = CameIn m time (found == old) before after

-- a writer of a map between two walks: it holds no lock
pub record IsInside (k : Begin) (me : Me (Unit {0}) View) (m : ℕ) : Type 0 where
  pub live : me.0.live ≡ true
  pub begin : me.0.begin ≡ k
  pub some : 0 < length me.0.owns
  pub few : length me.0.owns ≤ 1
  pub gate : me.0.gate ≡ Inside m
  pub lock : me.0.lock ≡ None
  pub upper : me.0.upper ≡ None

-- the room of a seat's first caller lies within the table
abbrev pub HasRoomWithin : View → Type 0
HasRoomWithin v = (own : Own) → slice_get v.owns 0 ≡ Some own → own.next + unit_words * own.spare ≤ size_of v.begin

-- a seat went out
abbrev pub GoesOut : Me (Unit {0}) View → ℕ → Me (Unit {0}) View → Type 0
GoesOut before found after = (after.1 ≡ before.1) × (after.0 ≡ holding before.0 Outside None None) × HasRoomWithin before.0

-- one more word in the room of the first caller
abbrev pub with_word : List Own → ℕ → List Own
with_word [] x = []
with_word (own ∷ owns) x = record own { draft = own.draft ++ x ∷ [] } ∷ owns

abbrev pub drafted : View → ℕ → View
drafted v x = record v { owns = with_word v.owns x }

-- a seat wrote the next word of its own room
abbrev pub Drafts : ℕ → Me (Unit {0}) View → ℕ → Me (Unit {0}) View → Type 0
Drafts x before found after = (after.1 ≡ before.1) × (after.0 ≡ drafted before.0 x)

-- the first caller of a seat has this room, and has written so many words of it
pub record HasDraft (k : Begin) (me : Me (Unit {0}) View) (own : Own) (owns : List Own) (next written : ℕ) : Type 0 where
  pub live : me.0.live ≡ true
  pub owns_are : me.0.owns ≡ own ∷ owns
  pub next_is : own.next ≡ next
  pub written_is : length own.draft ≡ written
  pub room : written < unit_words * own.spare
  pub within : next + unit_words * own.spare ≤ size_of k
