use Rattle.std.proofs.Common.{◌≡◌, ◌∙◌, ◌++◌, map, take, drop, length, false, sym, rules, ap, arith}
use Rattle.std.specs.List.{list_any}
use Rattle.std.proofs.lemmas.Grind.{common_steps}
use Rattle.wait_cores.specs.GroupMachine.{GroupState, is_waiting, released}
use Rattle.wait_cores.proofs.GroupLemmas.{nobody_released, none_in_released}
use Rattle.wait_cores.proofs.group.GroupCore.release_all.Goals as goal

pub returns-then-not-self : goal.returns-then-not-self
returns-then-not-self c =
    let none : list_any is_waiting c.self.inside.places.items ≡ false = sym c.self.invariant ∙ c.if-not-self.true in
    sym c.self.view_is ∙ ap (λ ps. record { counter = c.self.inside.counter; places = ps }) (sym (nobody_released c.self.inside.places.items none)) ∙ ap (λ (s : GroupState). record s { places = map released s.places }) c.self.view_is

pub invariant_of-self : goal.invariant_of-self
invariant_of-self c =
    let places = c.self.inside.places in
    let all : c.release.new.places ≡ map released places.items = search rules in
    let long : places.len ≡ length places.items = search rules in
    let whole : take places.len (c.release.new.places ++ drop (length c.release.new.places) places.items) ≡ map released places.items = grind (arith, common_steps) in
    sym (ap (list_any is_waiting) whole ∙ none_in_released places.items)
