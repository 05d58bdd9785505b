-- The law of a shared history's callers: that the history and the callers' own lists of calls explain each other. The Go memory model asks that all atomic operations behave as though executed in some sequentially consistent order: that is the order of places. What happens before a call through locks and the other objects is what its front counts: a front is a vector clock, for each caller the number of its shared calls that are known.
use Rattle.std.specs.Prelude.{◌≡◌, ◌≢◌, ℕ, ◌+◌, ◌^◌, ◌<◌, ◌≤◌, true, cond, List, [], ◌∷◌, ◌++◌, length, Option, Some, None, slice_get, slice_index}
use Rattle.sync_model.specs.declared.item.SharedCall.TheVariants.{Begin, Next}
use Rattle.sync_model.specs.declared.item.SharedReply.TheVariants.{Shown}
use Rattle.sync_model.specs.declared.item.SharedEntry.{SharedEntry}
use Rattle.sync_model.specs.declared.item.Item.{Item}
use Rattle.sync_model.specs.Front.{AtLeast}
use Rattle.sync_model.specs.Journal.{Begins}
use Rattle.sync_model.specs.SharedHistory.{Contents, value_at, contents_at, IsReply, is_entry, IsLegal, entries_by, marked_in}

-- how much of the history lies before all that comes after the call: an entry itself is part of it
abbrev pub bound : Item → ℕ
bound x = cond x.entry (x.place + 1) x.place

-- all calls that the front counts were made, and lie within the first n entries: whoever knows this front is placed at n or later
pub record Knows (calls : ℕ → List Item) (front : List ℕ) (n : ℕ) : Type 0 where
  pub made : (c : ℕ) → slice_index front c ≤ length (calls c)
  pub within : (c j : ℕ) (x : Item) → j < slice_index front c → slice_get (calls c) j ≡ Some x → bound x ≤ n

-- each caller's later list begins with its earlier one
abbrev pub Grows : (ℕ → List Item) → (ℕ → List Item) → Type 0
Grows calls new = (c : ℕ) → Begins (new c) (calls c)

-- number i of these calls is a step of the cursor that call number b began, and it showed this pair, or none
pub record IsStep (items : List Item) (b i : ℕ) (x : Item) (shown : Option (ℕ × ℕ)) : Type 0 where
  pub at : slice_get items i ≡ Some x
  pub call : x.call ≡ Next b
  pub reply : x.reply ≡ Shown shown

-- no step before number i of the cursor that call number b began showed this key
abbrev pub IsUnshown : List Item → ℕ → ℕ → ℕ → Type 0
IsUnshown items b i key = (j : ℕ) (x : Item) (value : ℕ) → j < i → IsStep items b j x (Some (key, value)) → ⊥

-- the key of the map had this value, or none, at some moment: after all that the front knows of, and at the reach or before it
pub record WasSo (start : Contents) (history : List SharedEntry) (calls : ℕ → List Item) (front : List ℕ) (reach m key : ℕ) (value : Option ℕ) : Type 0 where
  pub moment : ℕ
  pub knows : Knows calls front moment
  pub within : moment ≤ reach
  pub is : value_at (contents_at start history moment) m key ≡ value

module _ (start : Contents) (history : List SharedEntry) (calls : ℕ → List Item) where
  -- what step number i of a cursor of caller c over map m may show: a key that no earlier step showed, with a value that the key had at some moment since the cursor began; or none, where each key that no earlier step showed was absent at such a moment
  abbrev pub MayShow : ℕ → ℕ → ℕ → List ℕ → ℕ → ℕ → Option (ℕ × ℕ) → Type 0
  MayShow c b m front i reach (Some (key, value)) = IsUnshown (calls c) b i key × WasSo start history calls front reach m key (Some value)
  MayShow c b m front i reach None = (key : ℕ) → key < 2 ^ 32 → IsUnshown (calls c) b i key → WasSo start history calls front reach m key None

  -- the Range law, of the cursor that call number b of caller c began over map m at this front. Go's sync.Map says of Range: no key will be visited more than once, and it may reflect any mapping for a key from any point during the call
  abbrev pub KeepsRange : ℕ → ℕ → ℕ → List ℕ → Type 0
  KeepsRange c b m front = (i : ℕ) (x : Item) (shown : Option (ℕ × ℕ)) → IsStep (calls c) b i x shown → MayShow c b m front i x.place shown

  -- number j of caller c's calls is sound
  pub record IsSound (c j : ℕ) (x : Item) : Type 0 where
    -- its place is a length of the history
    pub place : x.place ≤ length history
    -- it is answered as by the objects for one thread, after the first `place` entries
    pub reply : IsReply x.call x.reply (contents_at start history x.place)
    -- it is an entry exactly where it would be one there
    pub entry : x.entry ≡ is_entry x.call (contents_at start history x.place)
    -- it lies behind all calls that its caller knew
    pub knows : Knows calls x.front x.place
    -- its caller knew all its own earlier calls
    pub own : slice_index x.front c ≡ j
    -- a cursor's step follows the call that began the cursor
    pub begun : (b : ℕ) → x.call ≡ Next b → (y : Item) × (m : ℕ) × (b < j) × (slice_get (calls c) b ≡ Some y) × (y.call ≡ Begin m)

  -- the law of a history and its callers' own lists of calls
  pub record Lawful : Type 0 where
    pub legal : IsLegal start history
    -- each entry of the history stands in exactly one caller's list, once, with its number as its place; and nothing else there calls itself an entry
    pub marked : (c : ℕ) → marked_in c (calls c) ≡ entries_by c history
    pub sound : (c j : ℕ) (x : Item) → slice_get (calls c) j ≡ Some x → IsSound c j x
    -- no caller forgets what it knew
    pub rises : (c i j : ℕ) (x y : Item) → i < j → slice_get (calls c) i ≡ Some x → slice_get (calls c) j ≡ Some y → AtLeast y.front x.front
    pub ranges : (c b m : ℕ) (x : Item) → slice_get (calls c) b ≡ Some x → x.call ≡ Begin m → KeepsRange c b m x.front

  -- what the next call of caller c may be
  pub record MayCall (c : ℕ) (x : Item) : Type 0 where
    pub sound : IsSound c (length (calls c)) x
    -- an entry comes last
    pub last : x.entry ≡ true → x.place ≡ length history
    pub rises : (j : ℕ) (y : Item) → slice_get (calls c) j ≡ Some y → AtLeast x.front y.front
    pub shows : (b m : ℕ) (y : Item) (shown : Option (ℕ × ℕ)) → slice_get (calls c) b ≡ Some y → y.call ≡ Begin m → x.call ≡ Next b → x.reply ≡ Shown shown
        → MayShow c b m y.front (length (calls c)) x.place shown

-- caller c made one more call, and no other did
pub record AddsCall (calls : ℕ → List Item) (c : ℕ) (x : Item) (new : ℕ → List Item) : Type 0 where
  pub mine : new c ≡ calls c ++ x ∷ []
  pub others : (d : ℕ) → d ≢ c → new d ≡ calls d
