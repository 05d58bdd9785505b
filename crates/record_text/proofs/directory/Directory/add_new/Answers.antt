use Rattle.std.proofs.Common.{cond, Some, length, ap, ◌∙◌}
use Rattle.std.specs.Str.{bytes_eq}
use Rattle.std.specs.FinMap.{get, get-insert}
use Rattle.std.specs.Cmp.Lexicographic.{nat_list_cmp_total}
use Rattle.std.proofs.lemmas.Map.Text.{is_eq-slice_cmp}
use Rattle.record_text.proofs.DirectoryLemmas.{push_new}
use Rattle.record_text.proofs.directory.Directory.add_new.Goals as goal

pub invariant_of-result : goal.invariant_of-result
invariant_of-result c = λ q.
    let names = c.self.inside.names in
    let word = c.args.word.now in
    rw (c.in_ok-push.ensures.ok, c.from_vec-word.ensures, c.in_ok-from_slice.ensures.items, c.in_ok-insert.ensures.ok, c.len.ensures)
    (get-insert nat_list_cmp_total c.self.inside.numbers word (length names) q
    ∙ ap (λ b. cond b (Some (length names)) (get c.self.inside.numbers q)) (is_eq-slice_cmp q word)
    ∙ ap (λ o. cond (bytes_eq q word) (Some (length names)) o) (c.self.invariant q)
    ∙ push_new names (record { word = word; kind = c.args.kind }) q (rw (← c.self.view_is) at c.requires))
