-- What holds of each item of a part.
use Rattle.std.proofs.Common.{ℕ, List, [], ◌∷◌, map, Ok, Err, sym, subst}
use Rattle.sync_model.specs.declared.answer.Answer.TheVariants.{Done, Halted}
use Rattle.sync_model.specs.declared.journal.Entry.{Entry}
use Rattle.protocols.specs.Spelling.{CallAnswer}
use Rattle.protocols.specs.declared.step.Step.{Step}
use Rattle.run_record.specs.declared.entered.ObjectEvent.{ObjectEvent}
use Rattle.run_record.specs.declared.entered.ObjectReply.{ObjectReply}
use Rattle.run_record.specs.declared.made.Made.{Made}
use Rattle.run_record.specs.declared.made.Made.TheVariants.{Entered}
use Rattle.run_record.specs.Parts.{Part, GoesOn, returns, never, and_then, read_as, lifted, stages}
use Rattle.run_record.proofs.CallParts.{GoesThrough}
use Rattle.run_record.proofs.Having.{Each, each_both}

module _ (P : Made → Type 0) where
  abbrev pub EachOf : {O : Type 0} → Part O → Type 0
  EachOf {O} part = (items : List Made) (answer : CallAnswer O) → part items answer → Each P items

  module _ {O : Type 0} where
    by_returns : (outcome : O) → EachOf (returns outcome)
    by_returns outcome items answer is = subst (Each P) (sym is.0) tt

    by_never : EachOf (never {O = O})
    by_never items answer is = absurd is

  module _ {O Q : Type 0} where
    by_later : (next : O → Part Q) (given : CallAnswer O) (later : List Made) (answer : CallAnswer Q) → ((outcome : O) → EachOf (next outcome)) → GoesOn next given later answer → Each P later
    by_later next (Done (Ok outcome)) later answer each goes = each outcome later answer goes
    by_later next (Done (Err misuse)) later answer each goes = subst (Each P) (sym goes.0) tt
    by_later next (Halted misuse) later answer each goes = subst (Each P) (sym goes.0) tt

    by_then : (first : Part O) (next : O → Part Q) → EachOf first → ((outcome : O) → EachOf (next outcome)) → EachOf (and_then first next)
    by_then first next one each items answer (xs, ys, given, is, made, goes) = subst (Each P) (sym is) (each_both P xs ys (one xs given made) (by_later next given ys answer each goes))

    by_read : (f : O → Q) (part : Part O) → EachOf part → EachOf (read_as f part)
    by_read f part one items answer (given, made, is) = one items given made

  pub through : GoesThrough (λ O part. EachOf part)
  through = record {
    returned = λ O outcome. by_returns outcome;
    none = λ O. by_never;
    behind = λ O Q first next one later. by_then first next one later;
    read = λ O Q f part one. by_read f part one;
  }

  module _ {E R : Type 0} (event : E → ObjectEvent) (reply : R → ObjectReply) (object : ℕ) where
    pub of_entries : ((entry : Entry E R) → P (Entered object (lifted event reply entry))) → (entries : List (Entry E R)) → Each P (map (λ entry. Entered object (lifted event reply entry)) entries)
    of_entries each [] = tt
    of_entries each (entry ∷ entries) = (each entry, of_entries each entries)

    pub of_stages : {G O : Type 0} (event_of : G → ℕ → E) (meaning : G → R → Step G O) (from : G) → ((entry : Entry E R) → P (Entered object (lifted event reply entry))) → EachOf (stages event reply event_of meaning object from)
    of_stages event_of meaning from each items answer (entries, is, spelt) = subst (Each P) (sym is) (of_entries each entries)
