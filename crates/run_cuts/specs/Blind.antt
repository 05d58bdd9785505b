-- What a spelling looks at of an item: of a call on a map or an atomic the call and its reply, and of an entry its object and its deed. It doesn't look at places and marks, at what workers know, at who made an entry, or at numbers of entries.
use Rattle.std.specs.Prelude.{◌≡◌, ℕ, false, List, [], map}
use Rattle.protocols.specs.Spelling.{CallAnswer}
use Rattle.workload.specs.Plan.{Plan}
use Rattle.run_record.specs.declared.made.Made.{Made}
use Rattle.run_record.specs.declared.made.Made.TheVariants.{Shared, Entered}
use Rattle.run_record.specs.Lines.{Line, IsLineOf, calls_made, items_of}
use Rattle.run_record.specs.Parts.{Part}
use Rattle.run_cuts.specs.CallsAlong.{calls_along}

-- the item, all else of it blanked
abbrev pub bare : Made → Made
bare (Shared x) = Shared (record { call = x.call; reply = x.reply; place = 0; entry = false; front = [] })
bare (Entered object entry) = Entered object (record { caller = 0; deed = entry.deed; front = []; knew = 0; time = 0 })

-- the items are those, but for what a spelling doesn't look at
abbrev pub AreAlike : List Made → List Made → Type 0
AreAlike items others = map bare items ≡ map bare others

-- whatever spells the part, items that are alike spell it too, and it answers the same by them
abbrev pub Blind : {O : Type 0} → Part O → Type 0
Blind {O} part = (items others : List Made) (answer : CallAnswer O) → AreAlike items others → part items answer → part others answer

-- A line of these items like another: the same calls with the same replies, with what stands before, between and behind them
pub record HasLineLike (plan : Plan) (worker : ℕ) (line : Line) (items : List Made) : Type 0 where
  pub like : Line
  pub is : IsLineOf plan worker like
  pub items_are : items_of like ≡ items
  pub ending : like.ending ≡ line.ending
  pub rest : like.rest ≡ line.rest
  pub calls : calls_made like ≡ calls_made line
  pub along : calls_along like ≡ calls_along line
  pub halts : AreAlike line.halts like.halts
