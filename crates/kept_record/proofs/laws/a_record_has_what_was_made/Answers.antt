use Rattle.std.proofs.Common.{List, map, sym, ap, ◌∙◌, subst}
use Rattle.run_record.specs.declared.made.Made.{Made}
use Rattle.kept_record.specs.Acts.{deeds_on, told}
use Rattle.kept_record.specs.Alike.{AreAlike}
use Rattle.kept_record.specs.Keeping.{made_by, opened, account_of}
use Rattle.kept_record.proofs.Keeps.{keeps}
use Rattle.kept_record.proofs.Told.{lists_like, bare_deeds}
use Rattle.kept_record.proofs.Within.{list_is, journal_is, same_acts}
use Rattle.kept_record.proofs.laws.a_record_has_what_was_made.Goals as goal

pub returns-clause-acts : goal.returns-clause-acts
returns-clause-acts c plan acts = same_acts (opened plan) acts

pub returns-clause-lists : goal.returns-clause-lists
returns-clause-lists c plan acts worker all = list_is plan (account_of plan acts) (keeps plan acts all).within worker

pub returns-clause-journals : goal.returns-clause-journals
returns-clause-journals c plan acts object all = journal_is plan (account_of plan acts) (keeps plan acts all).within object

pub returns-clause-alike : goal.returns-clause-alike
returns-clause-alike c plan acts worker all =
    subst (λ (l : List Made). AreAlike (made_by worker acts) l) (sym (list_is plan (account_of plan acts) (keeps plan acts all).within worker)) (lists_like worker acts (account_of plan acts).acts (sym (same_acts (opened plan) acts)))

pub returns-clause-deeds : goal.returns-clause-deeds
returns-clause-deeds c plan acts object all =
    ap (map told) (journal_is plan (account_of plan acts) (keeps plan acts all).within object) ∙ ((keeps plan acts all).tells object
    ∙ (sym (bare_deeds object (account_of plan acts).acts) ∙ (ap (deeds_on object) (same_acts (opened plan) acts) ∙ bare_deeds object acts)))
