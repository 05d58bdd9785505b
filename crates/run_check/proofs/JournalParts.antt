-- The clauses before `machine` don't speak of journals: of an account with other ones they hold too.
use Rattle.std.proofs.Common.{◌≡◌, ◌≤◌, List, refl, arith}
use Rattle.run_record.specs.Record.{ObjectEntry}
use Rattle.record_clauses.specs.declared.clause.Clause.{Clause}
use Rattle.record_clauses.specs.declared.clause.Clause.TheVariants.{Spell, Legal, Front, Range, Machine, Edge, End, Stop, Report}
use Rattle.record_clauses.specs.Account.{Account, Claim}
use Rattle.record_clauses.specs.Clauses.{HasJournals, Holds}
use Rattle.record_clauses.specs.Verdicts.{UpTo, place_of}

module _ (claim : Claim) (account : Account) where
  abbrev pub with_journals : List (List ObjectEntry) → Account
  with_journals journals = record { history = account.history; journals = journals; lines = account.lines; left = account.left }

  pub holds_with : (journals : List (List ObjectEntry)) (clause : Clause) → place_of clause ≤ 3 → Holds claim account clause → Holds claim (with_journals journals) clause
  holds_with journals Spell early is = record {
    lines = record { count = is.lines.count; runs = is.lines.runs; lists = is.lines.lists; replies = is.lines.replies; each = is.lines.each };
    told = record { calls = is.told.calls; halts = is.told.halts };
  }
  holds_with journals Legal early is = is
  holds_with journals Front early is = record { calls = is.calls; items = record { rises = is.items.rises; own = is.items.own; made = is.items.made } }
  holds_with journals Range early is = record { begun = is.begun; shown = is.shown }
  holds_with journals Machine early is = absurd (omega (arith, early))
  holds_with journals Edge early is = absurd (omega (arith, early))
  holds_with journals End early is = absurd (omega (arith, early))
  holds_with journals Stop early is = absurd (omega (arith, early))
  holds_with journals Report early is = absurd (omega (arith, early))

module _ (claim : Claim) (account : Account) where
  -- with `machine` all clauses up to it hold, and with `edge` those up to it
  pub with_machine : ((clause : Clause) → place_of clause ≤ 3 → Holds claim account clause) → Holds claim account Machine → (clause : Clause) → place_of clause ≤ 4 → Holds claim account clause
  with_machine before is Spell within = before Spell (omega arith)
  with_machine before is Legal within = before Legal (omega arith)
  with_machine before is Front within = before Front (omega arith)
  with_machine before is Range within = before Range (omega arith)
  with_machine before is Machine within = is
  with_machine before is Edge within = absurd (omega (arith, within))
  with_machine before is End within = absurd (omega (arith, within))
  with_machine before is Stop within = absurd (omega (arith, within))
  with_machine before is Report within = absurd (omega (arith, within))

  pub with_edge : ((clause : Clause) → place_of clause ≤ 4 → Holds claim account clause) → Holds claim account Edge → (clause : Clause) → place_of clause ≤ 5 → Holds claim account clause
  with_edge before is Spell within = before Spell (omega arith)
  with_edge before is Legal within = before Legal (omega arith)
  with_edge before is Front within = before Front (omega arith)
  with_edge before is Range within = before Range (omega arith)
  with_edge before is Machine within = before Machine (omega arith)
  with_edge before is Edge within = is
  with_edge before is End within = absurd (omega (arith, within))
  with_edge before is Stop within = absurd (omega (arith, within))
  with_edge before is Report within = absurd (omega (arith, within))

-- up to `range` an account has any journals; so `machine` holds of some account, where it holds of one with these
pub up_to_machine : (claim : Claim) (journals : List (List ObjectEntry)) → UpTo claim Range → ((account : Account) → account.journals ≡ journals → HasJournals claim account) → UpTo claim Machine
up_to_machine claim journals (account, holds) has =
    let other = with_journals claim account journals in
    (other, with_machine claim other (λ clause early. holds_with claim account journals clause early (holds clause early)) (has other refl))
