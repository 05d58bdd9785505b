use Rattle.std.proofs.Common.{List, sym, subst, ◌∙◌}
use Rattle.std.proofs.lemmas.Bool.{false≢true}
use Rattle.sync_model.specs.Journal.{halt_of}
use Rattle.run_record.specs.declared.made.Made.{Made}
use Rattle.list_checks.specs.declared.spell.line.SpeltLine.{SpeltLine}
use Rattle.object_checks.specs.JournalItems.{entries_in_row}
use Rattle.run_check.specs.Found.{AllHaltsBehind, IsStoppedSo}
use Rattle.run_check.proofs.StopStage.{stop_stage}
use Rattle.run_check.proofs.stops.stop_holds.Goals as goal

pub returns-then-are_behind : goal.returns-then-are_behind
returns-then-are_behind c told found claim is misused lists lines journal up =
    let stops = entries_in_row c.args.stops.now in
    let both = stop_stage c.a_spelling_is_blind.ensures.lines told found claim is stops journal c.args.misused misused up in
    let behind = subst (λ (ls : List SpeltLine). AllHaltsBehind found.all ls) (sym lines) (subst (λ (ms : List (List Made)). AllHaltsBehind ms c.args.lines.now) (sym lists) (c.are_behind.ensures.0 c.if-are_behind.true)) in (
      λ yes_. both.0 (behind, subst (λ (ls : List SpeltLine). IsStoppedSo ls (halt_of stops) c.args.misused) (sym lines) (c.is_stopped.ensures.0 yes_)),
      λ end. c.is_stopped.ensures.1 (subst (λ (ls : List SpeltLine). IsStoppedSo ls (halt_of stops) c.args.misused) lines (both.1 end).1),
    )

pub returns-else-are_behind : goal.returns-else-are_behind
returns-else-are_behind c told found claim is misused lists lines journal up =
    let stops = entries_in_row c.args.stops.now in
    let both = stop_stage c.a_spelling_is_blind.ensures.lines told found claim is stops journal c.args.misused misused up in (
      λ yes_. absurd (false≢true (sym c.if-are_behind.false ∙ yes_)),
      λ end. c.are_behind.ensures.1 (subst (λ (ls : List SpeltLine). AllHaltsBehind c.args.lists.now ls) lines (subst (λ (ms : List (List Made)). AllHaltsBehind ms found.lines) lists (both.1 end).0)),
    )
