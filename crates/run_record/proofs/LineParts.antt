-- What holds of each item of what stands before a script, and behind its completed calls.
use Rattle.std.proofs.Common.{◌≡◌, ℕ, Bool, true, false, List, [], ◌∷◌, ◌++◌, refl, sym, subst}
use Rattle.std.specs.Prelude.{Ok, Err}
use Rattle.sync_model.specs.declared.answer.Answer.TheVariants.{Done, Halted}
use Rattle.script_calls.specs.declared.call.Call.{Call}
use Rattle.script_calls.specs.declared.call.Reply.{Reply}
use Rattle.protocols.specs.Spelling.{CallAnswer}
use Rattle.workload.specs.Plan.{Plan}
use Rattle.run_record.specs.declared.made.Made.{Made}
use Rattle.run_record.specs.Calls.{SpellsCall}
use Rattle.run_record.specs.Lines.{SpeltCall, never, stopped, waits, LineEnd, whole, misused, halted, unfinished, stayed, Line, OpensBy, EndsBy, IsLineOf}
use Rattle.run_record.specs.Record.{shared_in}
use Rattle.run_record.specs.StartsKind.{opening, closing}
use Rattle.run_record.proofs.AskLemmas.{Asks, by_opening, none_asked}
use Rattle.run_record.proofs.Having.{Each, each_left}

module _ (P : Made → Type 0) (plan : Plan) (worker : ℕ) where
  module _ (opened : (items : List Made) (answer : CallAnswer Bool) → opening plan worker items answer → Each P items) where
    pub each_first : (ending : LineEnd) (spelt : List SpeltCall) (first : List Made) → OpensBy plan worker ending spelt first → Each P first
    each_first whole spelt first opens = opened first (Done (Ok true)) opens
    each_first (misused misuse) spelt first opens = opened first (Done (Ok true)) opens
    each_first (halted misuse) spelt first opens = opened first (Done (Ok true)) opens
    each_first unfinished spelt first opens = opened first (Done (Ok true)) opens
    each_first (stayed never) spelt first opens = opened first (Done (Ok false)) opens.1
    each_first (stayed (stopped misuse)) spelt first opens = opened first (Halted misuse) opens.1
    each_first (stayed waits) spelt first (none, (later, answer, some, opens)) = each_left P first later (opened (first ++ later) answer opens)

  module _ (closed : (items : List Made) (answer : CallAnswer (Unit {0})) → closing plan worker items answer → Each P items) (before : ℕ) where
    pub each_last : (ending : LineEnd) (rest : List Call) (last : List Made)
        → ((call : Call) (behind : List Call) → rest ≡ call ∷ behind → (items : List Made) (answer : CallAnswer (Reply ℕ)) → SpellsCall plan worker before call items answer → Each P items)
        → EndsBy plan worker before ending rest last → Each P last
    each_last whole rest last called ends = closed last (Done (Ok tt)) ends.1
    each_last (misused misuse) [] last called closes = closed last (Done (Err misuse)) closes
    each_last (misused misuse) (call ∷ rest) last called spelt = called call rest refl last (Done (Err misuse)) spelt
    each_last (halted misuse) [] last called closes = closed last (Halted misuse) closes
    each_last (halted misuse) (call ∷ rest) last called spelt = called call rest refl last (Halted misuse) spelt
    each_last unfinished [] last called (later, answer, some, closes) = each_left P last later (closed (last ++ later) answer closes)
    each_last unfinished (call ∷ rest) last called (later, answer, spelt) = each_left P last later (called call rest refl (last ++ later) answer spelt)
    each_last (stayed stay) rest last called none = subst (Each P) (sym none) tt

-- so no call on a map or an atomic stands before a script
pub none_shared_first : (plan : Plan) (worker : ℕ) (line : Line) → IsLineOf plan worker line → shared_in line.first ≡ []
none_shared_first plan worker line is = none_asked line.first (each_first (Asks (λ call. ⊥)) plan worker (by_opening (λ call. ⊥) plan worker) line.ending line.spelt line.first is.opens)
