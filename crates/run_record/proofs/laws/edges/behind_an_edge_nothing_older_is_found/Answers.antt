use Rattle.std.proofs.Common.{◌≡◌, ◌⊎◌, inl, inr, ℕ, ◌<◌, ◌≤◌, Bool, true, List, ◌∷◌, ◌++◌, length, get_or, Some, slice_get, sym, ap, ◌∙◌, subst}
use Rattle.std.proofs.lemmas.Bool.{false≢true, cases_lt, eq-eqb}
use Rattle.std.proofs.Common.{refl, ◌==◌, ◌&&◌}
use Rattle.sync_model.specs.declared.item.SharedCall.TheVariants.{Map}
use Rattle.sync_model.specs.declared.item.SharedEntry.{SharedEntry}
use Rattle.sync_types.specs.declared.map_object.MapCall.TheVariants.{Store}
use Rattle.sync_model.specs.SharedLaws.{is_on_key, LeaveKey}
use Rattle.run_record.specs.Objects.{contents_of}
use Rattle.run_record.specs.Record.{calls_of}
use Rattle.run_record.proofs.ListLemmas.{between_at}
use Rattle.run_record.proofs.laws.edges.behind_an_edge_nothing_older_is_found.Goals as goal

on_key : (m key value : ℕ) → is_on_key m key (Map m (Store key value)) ≡ true
on_key m key value = ap (λ (b : Bool). b && (key == key)) (eq-eqb m m refl) ∙ eq-eqb key key refl

-- the store isn't among the entries that leave the key
not_between : (m key value : ℕ) (between : List SharedEntry) (e : SharedEntry) → LeaveKey m key between → e.call ≡ Map m (Store key value) → (q : ℕ) × (q < length between) × (get_or between q e ≡ e) → ⊥
not_between m key value between e leave stores (q, within, is) =
    false≢true (sym (leave q e within) ∙ (ap (λ (x : SharedEntry). is_on_key m key x.call) is ∙ (ap (is_on_key m key) stores ∙ on_key m key value)))

pub returns : goal.returns
returns c plan r giver taker i j m key value store load earlier between later entry lawful at_store at_load stores known history at_between leave =
    let start = contents_of plan in
    let marked = c.each_entry_is_a_call.ensures.store start r.history (calls_of r) giver i m key value store lawful.shared at_store stores in
    let there = c.each_entry_is_a_call.ensures.entry start r.history (calls_of r) giver i store lawful.shared at_store marked in
    let before = c.a_call_lies_behind_what_its_caller_knew.ensures.below start r.history (calls_of r) taker giver i j store load lawful.shared at_store at_load known marked in
    let listed : slice_get (earlier ++ entry ∷ (between ++ later)) store.place ≡ Some there.0 = subst (λ (h : List SharedEntry). slice_get h store.place ≡ Some there.0) history there.1 in
    by_place (cases_lt (length earlier) store.place) (λ behind. not_between m key value between there.0 leave (there.3 ∙ stores)
    (between_at earlier between later entry there.0 store.place listed behind (subst (λ (n : ℕ). store.place < n) at_between before)))
  where
    by_place : (length earlier < store.place) ⊎ (store.place ≤ length earlier) → (length earlier < store.place → ⊥) → store.place ≤ length earlier
    by_place (inl behind) none = absurd (none behind)
    by_place (inr least) none = least
