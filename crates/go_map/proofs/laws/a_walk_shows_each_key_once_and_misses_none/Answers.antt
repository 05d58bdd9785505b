use Rattle.std.proofs.Common.{sym, ap, ◌∙◌, subst, Some, None, slice_get}
use Rattle.sync_model.specs.SharedCalls.{IsStep}
use Rattle.shared_table.specs.Notes.{seen_by}
use Rattle.shared_table.specs.Tables.{first_of}
use Rattle.go_map.proofs.laws.a_walk_shows_each_key_once_and_misses_none.Goals as goal

pub returns-clause-once : goal.returns-clause-once
returns-clause-once c table m b i j key value other note x y law first second =
    let mine = sym (law.lawful.mine law.holding law.own) in
    c.a_range_shows_each_key_once_and_misses_none.ensures.once (first_of table) (seen_by note) law.lawful.calls law.holding.number b i j key value other x y law.lawful.lawful
    (subst (λ items. IsStep items b i x (Some (key, value))) mine first) (subst (λ items. IsStep items b j y (Some (key, other))) mine second)

pub returns-clause-shown : goal.returns-clause-shown
returns-clause-shown c table m b i key value note x law step =
    let mine = sym (law.lawful.mine law.holding law.own) in
    c.a_range_shows_each_key_once_and_misses_none.ensures.shown (first_of table) (seen_by note) law.lawful.calls law.holding.number b i m key value law.begin x law.lawful.lawful
    (ap (λ items. slice_get items b) (sym mine) ∙ law.at) law.call (subst (λ items. IsStep items b i x (Some (key, value))) mine step)

pub returns-clause-misses_none : goal.returns-clause-misses_none
returns-clause-misses_none c table m b i key note x law step fits stood =
    let mine = sym (law.lawful.mine law.holding law.own) in
    let shown = c.a_range_shows_each_key_once_and_misses_none.ensures.misses_none (first_of table) (seen_by note) law.lawful.calls law.holding.number b i m key law.begin x law.lawful.lawful
    (ap (λ items. slice_get items b) (sym mine) ∙ law.at) law.call (subst (λ items. IsStep items b i x None) mine step) fits stood in
    (shown.0, shown.1, shown.2, shown.3, subst (λ items. IsStep items b shown.0 shown.1 (Some (key, shown.2))) (sym mine) shown.4)
