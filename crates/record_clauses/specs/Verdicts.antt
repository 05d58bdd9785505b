-- Which verdict a claim comes to: the first clause that fails.
use Rattle.std.specs.Prelude.{◌≡◌, ℕ, ◌+◌, ◌≤◌}
use Rattle.record_clauses.specs.declared.clause.Clause.{Clause}
use Rattle.record_clauses.specs.declared.clause.Clause.TheVariants.{Spell, Legal, Front, Range, Machine, Edge, End, Stop, Report}
use Rattle.record_clauses.specs.declared.clause.Verdict.{Verdict}
use Rattle.record_clauses.specs.declared.clause.Verdict.TheVariants.{Yes, No}
use Rattle.record_clauses.specs.Account.{Claim, Account}
use Rattle.record_clauses.specs.Clauses.{Holds}

-- the place of a clause in the order in which they are asked
abbrev pub place_of : Clause → ℕ
place_of Spell = 0
place_of Legal = 1
place_of Front = 2
place_of Range = 3
place_of Machine = 4
place_of Edge = 5
place_of End = 6
place_of Stop = 7
place_of Report = 8

module _ (claim : Claim) where
  -- of some account all clauses up to this one hold
  abbrev pub UpTo : Clause → Type 0
  UpTo clause = (account : Account) × ((earlier : Clause) → place_of earlier ≤ place_of clause → Holds claim account earlier)

  -- and up to the one before it, if there is one
  abbrev pub Before : Clause → Type 0
  Before clause = (earlier : Clause) → place_of earlier + 1 ≡ place_of clause → UpTo earlier

  -- Of some account all clauses hold; or this is the first one that fails: all before it hold of some account, and of none they hold together with it
  abbrev pub ComesTo : Verdict → Type 0
  ComesTo Yes = (account : Account) × ((clause : Clause) → Holds claim account clause)
  ComesTo (No clause) = Before clause × (UpTo clause → ⊥)
