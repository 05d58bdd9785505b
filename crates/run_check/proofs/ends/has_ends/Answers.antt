use Rattle.std.proofs.Common.{List, Option, None, refl, sym, subst}
use Rattle.sync_types.specs.declared.misuse.Misuse.{Misuse}
use Rattle.list_checks.specs.declared.spell.line.SpeltLine.{SpeltLine}
use Rattle.run_check.proofs.EndStage.{EndSo, end_stage}
use Rattle.run_check.proofs.ends.has_ends.Goals as goal

pub returns-in-None : goal.returns-in-None
returns-in-None c told found claim is misused lines up =
    let both = end_stage c.a_spelling_is_blind.ensures.lines told found claim is c.args.misused misused up in (
      λ yes_. both.0 (subst (λ (m : Option Misuse). EndSo found.lines m) (sym c.in-None.is) (subst (λ (ls : List SpeltLine). EndSo ls None) (sym lines) (c.are_at_end.ensures.0 yes_))),
      λ end. c.are_at_end.ensures.1 (subst (λ (ls : List SpeltLine). EndSo ls None) lines (subst (λ (m : Option Misuse). EndSo found.lines m) c.in-None.is (both.1 end))),
    )

pub returns-in-Some : goal.returns-in-Some
returns-in-Some c told found claim is misused lines up =
    let both = end_stage c.a_spelling_is_blind.ensures.lines told found claim is c.args.misused misused up in
    (λ yes_. both.0 (subst (λ (m : Option Misuse). EndSo found.lines m) (sym c.in-Some.is) tt), λ end. refl)
