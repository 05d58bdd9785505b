use Rattle.std.proofs.Common.{◌≡◌, false, cond, Some, ◌∷◌, ◌++◌, [], length, sym, ap, ◌∙◌}
use Rattle.std.specs.Prelude.{is_some}
use Rattle.std.specs.Str.{bytes_eq}
use Rattle.std.specs.List.{list_any}
use Rattle.std.specs.FinMap.{get, get-insert}
use Rattle.std.specs.Cmp.Lexicographic.{nat_list_cmp_total}
use Rattle.std.proofs.lemmas.Map.Text.{is_eq-slice_cmp}
use Rattle.workload.specs.Keys.{number_in}
use Rattle.workload.proofs.KeyNumbers.{there, number_push}
use Rattle.workload.proofs.CallNumbers.{added_before, old_number, new_number}
use Rattle.workload.proofs.keys.Keys.insert.Goals as goal

-- the name is there, with the number that was found
found : (c : goal.In-Some) → number_in c.self.inside.names c.args.name.now ≡ Some c.in-Some.number
found c = sym (c.self.invariant c.args.name.now) ∙ ap (get c.self.inside.numbers) (sym c.as_bytes-name.ensures.bytes) ∙ sym c.get.ensures ∙ c.in-Some.is

-- the name isn't there
absent : (c : goal.In_ok-push) → list_any (bytes_eq c.args.name.now) c.self.inside.names ≡ false
absent c = there c.self.inside.numbers c.self.inside.names c.args.name.now false c.self.invariant (ap (λ n. is_some (get c.self.inside.numbers n)) (sym c.as_bytes-name.ensures.bytes) ∙ ap is_some (sym c.get.ensures ∙ c.in_default.is))

pub returns-in-Some-clause-keys : goal.returns-in-Some-clause-keys
returns-in-Some-clause-keys c = rw (← c.self.view_is) (added_before c.self.inside.names c.args.name.now c.in-Some.number (found c))

pub returns-in-Some-clause-number : goal.returns-in-Some-clause-number
returns-in-Some-clause-number c = λ later. rw (← c.self.view_is) (old_number c.self.inside.names later c.args.name.now c.in-Some.number (found c))

pub invariant_of-result : goal.invariant_of-result
invariant_of-result c = λ name.
    let names = c.self.inside.names in
    rw (c.in_ok-push.ensures.ok, c.in_ok-from_bytes.ensures, c.in_ok-insert.ensures.ok, c.as_bytes-name.ensures.bytes, c.len-number.ensures)
    (get-insert nat_list_cmp_total c.self.inside.numbers c.args.name.now (length names) name
    ∙ ap (λ b. cond b (Some (length names)) (get c.self.inside.numbers name)) (is_eq-slice_cmp name c.args.name.now)
    ∙ ap (λ o. cond (bytes_eq name c.args.name.now) (Some (length names)) o) (c.self.invariant name)
    ∙ number_push names c.args.name.now name (absent c))

pub returns-clause-keys : goal.returns-clause-keys
returns-clause-keys c =
    let names = c.self.inside.names in
    rw (← c.self.view_is, c.in_ok-push.ensures.ok, c.in_ok-from_bytes.ensures, c.as_bytes-name.ensures.bytes)
    (sym (ap (λ b. cond b names (names ++ c.args.name.now ∷ [])) (absent c)))

pub returns-clause-number : goal.returns-clause-number
returns-clause-number c = λ later. rw (← c.self.view_is) (c.len-number.ensures ∙ new_number c.self.inside.names later c.args.name.now (absent c))
