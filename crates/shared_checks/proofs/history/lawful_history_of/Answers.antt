use Rattle.std.proofs.Common.{◌≡◌, List, sym, ◌∙◌, subst}
use Rattle.std.proofs.lemmas.Bool.{false≢true}
use Rattle.sync_model.specs.declared.item.SharedEntry.{SharedEntry}
use Rattle.shared_checks.specs.Calls.{calls_in}
use Rattle.shared_checks.specs.Parts.{ArePlaced, AreEntries}
use Rattle.shared_checks.specs.Placing.{contents_of}
use Rattle.shared_checks.proofs.PartLemmas.{same_entries, history_of_placed}
use Rattle.shared_checks.proofs.history.lawful_history_of.Goals as goal

pub returns-then-branch : goal.returns-then-branch
returns-then-branch c =
    let entries : AreEntries c.in-Some.history.items (calls_in c.args.lists.now) = rw c.in-Some.is at c.in_ok-history.ensures in
    let read : c.deref-2.result.now ≡ c.in-Some.history.items = c.deref-2.ensures.value in
    history_of_placed (contents_of c.args.objects) c.in-Some.history.items (calls_in c.args.lists.now) entries
    (subst (λ (h : List SharedEntry). ArePlaced (contents_of c.args.objects) h (calls_in c.args.lists.now)) read (c.in_ok-are_placed.ensures.0 c.if-branch.true))

pub returns : goal.returns
returns c = λ other lawful.
    let entries : AreEntries c.in-Some.history.items (calls_in c.args.lists.now) = rw c.in-Some.is at c.in_ok-history.ensures in
    let read : c.deref-2.result.now ≡ c.in-Some.history.items = c.deref-2.ensures.value in
    let same : other ≡ c.deref-2.result.now = same_entries other c.in-Some.history.items (calls_in c.args.lists.now) lawful.entries entries ∙ sym read in
    false≢true (sym c.if-branch.false ∙ c.in_ok-are_placed.ensures.1 (subst (λ (h : List SharedEntry). ArePlaced (contents_of c.args.objects) h (calls_in c.args.lists.now)) same lawful.placed))
