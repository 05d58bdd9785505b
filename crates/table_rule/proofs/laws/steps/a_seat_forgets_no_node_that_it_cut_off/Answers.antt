use Rattle.std.proofs.Common.{◌≡◌, ℕ, suc, List, [], ◌∷◌, ◌++◌, length, slice_index, ap, arith, length-append}
use Rattle.table_rule.specs.declared.view.View.{View}
use Rattle.table_rule.proofs.laws.steps.a_seat_forgets_no_node_that_it_cut_off.Goals as goal

pub returns-clause-cuts_off : goal.returns-clause-cuts_off
returns-clause-cuts_off c = λ l u before after locked above told. let cut = told.1 l u locked above in (cut.0, cut.1.node, cut.1.seen, ap (λ (ws : List ℕ). slice_index ws 0) cut.1.words, ap (λ (v : View). v.cut) cut.2)

pub returns-clause-publishes : goal.returns-clause-publishes
returns-clause-publishes c = λ m call words l before after locked told. ap (λ (v : View). v.cut) (told.1 l locked).is

pub returns-clause-clears : goal.returns-clause-clears
returns-clause-clears c = λ m before after told.
    let d = told.1.0 in
    let is = told.1.1 in
    (d, is.top, is.map, one_more d.before is.entry after.0.seen is.before, (is.entry ∷ [], is.before), ap (λ (v : View). v.cut) told.1.2.is)
  where
    one_more : {A : Type 0} → (xs : List A) (x : A) (ys : List A) → ys ≡ xs ++ x ∷ [] → suc (length xs) ≡ length ys
    one_more xs x ys e = let long = length-append xs (x ∷ []) in let same = ap length e in omega arith

pub returns-clause-operates : goal.returns-clause-operates
returns-clause-operates c = λ a time found call kind before after at told. ap (λ (v : View). v.cut) (told.1 kind at).1.is

pub returns-clause-goes_up : goal.returns-clause-goes_up
returns-clause-goes_up c = λ z found before after stands told. ap (λ (v : View). v.cut) (told.1 z stands)

pub returns-clause-shows_none : goal.returns-clause-shows_none
returns-clause-shows_none c = λ z found before after stands told. ap (λ (v : View). v.cut) (told.1 z stands).is
