-- What the loads of a `waitfor` find.
use Rattle.std.proofs.Common.{◌≡◌, ◌≢◌, ◌↔◌, ℕ, zero, suc, Bool, true, false, List, [], ◌∷◌, ◌++◌, Some, slice_get, refl, sym, ap, ◌∙◌, subst, append_assoc}
use Rattle.std.specs.List.{AllByRecursion, flat_map}
use Rattle.std.proofs.lemmas.Bool.{false≢true, true≢false}
use Rattle.std.proofs.lemmas.Option.{none-some, same_Some}
use Rattle.sync_types.specs.declared.atomic_object.Number.{Number}
use Rattle.sync_types.specs.SequentialAtomic.{is_same}
use Rattle.sync_model.specs.declared.item.Item.{Item}
use Rattle.sync_model.specs.declared.item.SharedCall.{SharedCall}
use Rattle.sync_model.specs.SharedHistory.{IsReply, contents_at}
use Rattle.workload.specs.Plan.{Plan}
use Rattle.run_record.specs.declared.made.Made.{Made}
use Rattle.run_record.specs.declared.made.Made.TheVariants.{Shared}
use Rattle.run_record.specs.Explains.{IsRecordOf}
use Rattle.run_record.specs.Objects.{contents_of}
use Rattle.run_record.specs.Record.{Record, list_of}
use Rattle.run_record.specs.Rounds.{IsLoadOf, finds, shows_number, Round, round_items, IsRound}
use Rattle.run_laws.specs.WaitedFor.{held_at}
use Rattle.run_laws.proofs.IfEqual.{same_number}
use Rattle.run_laws.proofs.Replied.{replied}

-- by one Bool: what a load found, and what the atomic holds
pub found_where : (found same : Bool) (A : Type 0) → found ≡ same → (same ≡ true) ↔ A → (found ≡ true) ↔ A
found_where found same A is where_same = (λ yes. where_same.0 (sym is ∙ yes), λ holds. is ∙ where_same.1 holds)

pub not_where : (met : Bool) (A B : Type 0) → (met ≡ true) ↔ A → (met ≡ false → B) → (met ≡ false) ↔ (B × (A → ⊥))
not_where true A B holds all = (λ no. absurd (true≢false no), λ both. absurd (both.1 (holds.0 refl)))
not_where false A B holds all = (λ no. (all refl, λ yes. false≢true (holds.1 yes)), λ both. refl)

module _ (plan : Plan) (r : Record) (lawful : IsRecordOf plan r) (worker a : ℕ) (value : Number) where
  -- a load finds what the atomic holds
  pub found_by : (earlier later : List Made) (x : Item) → list_of r worker ≡ earlier ++ (Shared x ∷ later) → IsLoadOf a x → finds value x ≡ is_same (held_at plan r a x) value
  found_by earlier later x whole loads =
      let there = contents_at (contents_of plan) r.history x.place in
      let right = subst (λ (c : SharedCall). IsReply c x.reply there) loads.1 (replied plan r lawful worker earlier later (Shared x ∷ []) whole x refl) in
      ap (shows_number value) right

  pub where_found : (earlier later : List Made) (x : Item) → list_of r worker ≡ earlier ++ (Shared x ∷ later) → IsLoadOf a x → (finds value x ≡ true) ↔ (held_at plan r a x ≡ value)
  where_found earlier later x whole loads =
      found_where (finds value x) (is_same (held_at plan r a x) value) (held_at plan r a x ≡ value) (found_by earlier later x whole loads) (same_number (held_at plan r a x) value)

  module _ (cond mutex : ℕ) where
    -- the load of a round finds another number
    pub rounds_miss : (rounds : List Round) (earlier later : List Made) → list_of r worker ≡ earlier ++ (flat_map round_items rounds ++ later) → AllByRecursion (IsRound cond mutex a value) rounds
        → (n : ℕ) (round : Round) → slice_get rounds n ≡ Some round → held_at plan r a round.look ≢ value
    rounds_miss [] earlier later whole each n round at = absurd (none-some round at)
    rounds_miss (first ∷ rounds) earlier later whole each zero round at =
        let behind = first.waited ++ (flat_map round_items rounds ++ later) in
        let one : list_of r worker ≡ earlier ++ (Shared first.look ∷ behind) = whole ∙ ap (λ (l : List Made). earlier ++ l) (append_assoc (round_items first) (flat_map round_items rounds) later) in
        subst (λ (x : Round). held_at plan r a x.look ≢ value) (same_Some first round at) (λ is. false≢true (sym each.0.misses ∙ (where_found earlier behind first.look one each.0.loads).1 is))
    rounds_miss (first ∷ rounds) earlier later whole each (suc n) round at =
        rounds_miss rounds (earlier ++ round_items first) later
        (whole ∙ (ap (λ (l : List Made). earlier ++ l) (append_assoc (round_items first) (flat_map round_items rounds) later) ∙ sym (append_assoc earlier (round_items first) (flat_map round_items rounds ++ later))))
        each.1 n round at
