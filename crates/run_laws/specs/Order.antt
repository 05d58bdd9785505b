-- The one order of all that a record has: by numbers, and of equal numbers by workers.
use Rattle.std.specs.Prelude.{◌≡◌, ◌⊎◌, ℕ, ◌<◌, true, false, List, [], ◌∷◌, take, Some, slice_get}
use Rattle.sync_model.specs.declared.item.Item.{Item}
use Rattle.run_record.specs.declared.made.Made.{Made}
use Rattle.run_record.specs.declared.made.Made.TheVariants.{Shared, Entered}
use Rattle.run_record.specs.InOneOrder.{InOneOrder, number_behind}
use Rattle.run_record.specs.Record.{Record, ObjectEntry, journal_of, list_of}

-- an item of a record: what a worker made, at a place in its list
pub record ItemOf (r : Record) : Type 0 where
  pub worker : ℕ
  pub place : ℕ
  pub made : Made
  pub at : slice_get (list_of r worker) place ≡ Some made

-- a call lies before another one by the shared history: its place is the lower one, or the same one and the other call is the entry there, while it is none itself
abbrev pub IsBefore : Item → Item → Type 0
IsBefore x y = (x.place < y.place) ⊎ ((x.place ≡ y.place) × (x.entry ≡ false) × (y.entry ≡ true))

module _ (r : Record) where
  -- they are one item
  abbrev pub IsSame : ItemOf r → ItemOf r → Type 0
  IsSame e f = (e.worker ≡ f.worker) × (e.place ≡ f.place)

  -- one worker made both, and its list has the first one before the second
  abbrev pub InList : ItemOf r → ItemOf r → Type 0
  InList e f = (e.worker ≡ f.worker) × (e.place < f.place)

  -- both are events of one object, whose journal has the first one before the second
  pub record InJournal (e f : ItemOf r) : Type 0 where
    pub object : ℕ
    pub earlier : ℕ
    pub later : ℕ
    pub before : earlier < later
    pub one : ObjectEntry
    pub other : ObjectEntry
    pub first : e.made ≡ Entered object one
    pub second : f.made ≡ Entered object other
    pub first_at : slice_get (journal_of r object) earlier ≡ Some one
    pub second_at : slice_get (journal_of r object) later ≡ Some other

  -- both are calls on maps and atomics, of which the shared history has the first one before the second
  pub record InHistory (e f : ItemOf r) : Type 0 where
    pub one : Item
    pub other : Item
    pub first : e.made ≡ Shared one
    pub second : f.made ≡ Shared other
    pub before : IsBefore one other

  -- a step from an item to a later one, along a list, a journal or the history
  abbrev pub Step : ItemOf r → ItemOf r → Type 0
  Step e f = InList e f ⊎ (InJournal e f ⊎ InHistory e f)

  -- steps lead from the first item to the last, over these in between: the first one happened before the last
  abbrev pub Leads : ItemOf r → List (ItemOf r) → ItemOf r → Type 0
  Leads e [] f = Step e f
  Leads e (next ∷ between) f = Step e next × Leads next between f

module _ (r : Record) (order : InOneOrder r) where
  -- the number of an item
  abbrev pub time_of : ItemOf r → ℕ
  time_of e = number_behind (order.times e.worker) (take e.place (list_of r e.worker)) e.made

  -- the order: of two items the one with the lower number is first, and of equal numbers that of the worker with the lower number
  abbrev pub First : ItemOf r → ItemOf r → Type 0
  First e f = (time_of e < time_of f) ⊎ ((time_of e ≡ time_of f) × (e.worker < f.worker))
