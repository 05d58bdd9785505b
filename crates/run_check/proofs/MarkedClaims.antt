-- Claims that a text tells differ in their marks alone. So with marks of its calls there is one, and there is one with each.
use Rattle.std.proofs.Common.{◌≡◌, ℕ, suc, List, [], ◌∷◌, map, length, Option, Some, slice_get, refl, sym, ap, ◌∙◌, arith}
use Rattle.std.proofs.lemmas.Option.{same_Some}
use Rattle.sync_types.specs.declared.misuse.Misuse.{Misuse}
use Rattle.sync_model.specs.declared.item.Item.{Item}
use Rattle.shared_checks.specs.Marks.{unmarked}
use Rattle.workload.specs.Plan.{Plan}
use Rattle.run_record.specs.Record.{shared_in}
use Rattle.run_record.specs.declared.made.Made.{Made}
use Rattle.run_record.specs.declared.made.Made.TheVariants.{Shared, Entered}
use Rattle.record_text.specs.Told.{Told}
use Rattle.record_clauses.specs.Account.{Claim, ToldItem, made_in}
use Rattle.run_check.specs.Items.{unmarked_item, unmarked_made}
use Rattle.run_check.specs.Tells.{Tells}

-- ---- with the same calls the items are the same

one_made : (one other : Made) → unmarked_made one ≡ unmarked_made other → (ones others : List Made) → shared_in (one ∷ ones) ≡ shared_in (other ∷ others) → (one ≡ other) × (shared_in ones ≡ shared_in others)
one_made (Shared x) (Shared y) same ones others calls =
    let first : x ≡ y = cc in
    let later : shared_in ones ≡ shared_in others = cc in
    (ap Shared first, later)
one_made (Shared x) (Entered object entry) same ones others calls = absurd cc
one_made (Entered object entry) (Shared y) same ones others calls = absurd cc
one_made (Entered object entry) (Entered other_object other_entry) same ones others calls = (same, calls)

pub one_list : (list others : List ToldItem) → map unmarked_item list ≡ map unmarked_item others → shared_in (made_in list) ≡ shared_in (made_in others) → list ≡ others
one_list [] [] same calls = refl
one_list [] (y ∷ others) same calls = absurd cc
one_list (x ∷ list) [] same calls = absurd cc
one_list (x ∷ list) (y ∷ others) same calls =
    let first : unmarked_item x ≡ unmarked_item y = cc in
    let rest : map unmarked_item list ≡ map unmarked_item others = cc in
    let (made, later) = one_made x.made y.made (ap (λ (t : ToldItem). t.made) first) (made_in list) (made_in others) calls in
    ap (λ (m : Made). record { made = m; call = x.call; number = x.number } ∷ list) made
    ∙ ap (λ (c : Option ℕ). record { made = y.made; call = c; number = x.number } ∷ list) (ap (λ (t : ToldItem). t.call) first)
    ∙ ap (λ (n : ℕ). record { made = y.made; call = y.call; number = n } ∷ list) (ap (λ (t : ToldItem). t.number) first)
    ∙ ap (λ (xs : List ToldItem). y ∷ xs) (one_list list others rest later)

-- ---- a list with these calls

-- an item, and the calls that are left, where the next one is this item's
abbrev pub with_call : Made → List Item → Made × List Item
with_call (Shared x) [] = (Shared x, [])
with_call (Shared x) (y ∷ ys) = (Shared y, ys)
with_call (Entered object entry) ys = (Entered object entry, ys)

abbrev pub with_calls : List ToldItem → List Item → List ToldItem
with_calls [] ys = []
with_calls (x ∷ list) ys = record { made = (with_call x.made ys).0; call = x.call; number = x.number } ∷ with_calls list (with_call x.made ys).1

call_fits : (made : Made) (later : List Made) (ys : List Item) → map unmarked (shared_in (made ∷ later)) ≡ map unmarked ys
    → (unmarked_made (with_call made ys).0 ≡ unmarked_made made) × (map unmarked (shared_in later) ≡ map unmarked (with_call made ys).1) × ((rest : List Made) → shared_in rest ≡ (with_call made ys).1 → shared_in ((with_call made ys).0 ∷ rest) ≡ ys)
call_fits (Shared x) later [] same = absurd cc
call_fits (Shared x) later (y ∷ ys) same =
    let first : unmarked x ≡ unmarked y = cc in
    let rest : map unmarked (shared_in later) ≡ map unmarked ys = cc in
    (ap Shared (sym first), rest, λ more e. ap (λ (zs : List Item). y ∷ zs) e)
call_fits (Entered object entry) later ys same = (refl, same, λ more e. e)

none_left : (ys : List Item) → [] ≡ map unmarked ys → [] ≡ ys
none_left [] same = refl
none_left (y ∷ ys) same = absurd cc

pub calls_fit : (list : List ToldItem) (ys : List Item) → map unmarked (shared_in (made_in list)) ≡ map unmarked ys
    → (map unmarked_item (with_calls list ys) ≡ map unmarked_item list) × (shared_in (made_in (with_calls list ys)) ≡ ys)
calls_fit [] ys same = (refl, none_left ys same)
calls_fit (x ∷ list) ys same =
    let (made, later, back) = call_fits x.made (made_in list) ys same in
    let (items, calls) = calls_fit list (with_call x.made ys).1 later in (
      ap (λ (m : Made). record { made = m; call = x.call; number = x.number } ∷ map unmarked_item (with_calls list (with_call x.made ys).1)) made
          ∙ ap (λ (xs : List ToldItem). unmarked_item x ∷ xs) items,
      back (made_in (with_calls list (with_call x.made ys).1)) calls,
    )

-- ---- the claim

same_lists : {X : Type 0} (xs ys : List X) → length xs ≡ length ys → ((k : ℕ) (x y : X) → slice_get xs k ≡ Some x → slice_get ys k ≡ Some y → x ≡ y) → xs ≡ ys
same_lists [] [] count each = refl
same_lists [] (y ∷ ys) count each = absurd (omega (arith, count))
same_lists (x ∷ xs) [] count each = absurd (omega (arith, count))
same_lists {X} (x ∷ xs) (y ∷ ys) count each =
    ap (λ (z : X). z ∷ xs) (each 0 x y refl refl) ∙ ap (λ (zs : List X). y ∷ zs) (same_lists xs ys (omega (arith, count)) (λ k a b one other. each (suc k) a b one other))

pub one_claim : (told : Told) (one other : Claim) → Tells told one → Tells told other
    → ((worker : ℕ) (list others : List ToldItem) → slice_get one.lists worker ≡ Some list → slice_get other.lists worker ≡ Some others → shared_in (made_in list) ≡ shared_in (made_in others))
    → one ≡ other
one_claim told one other tells also calls =
    ap (λ (p : Plan). record { plan = p; misused = one.misused; lists = one.lists; report = one.report }) (tells.plan ∙ sym also.plan)
    ∙ ap (λ (m : Option Misuse). record { plan = other.plan; misused = m; lists = one.lists; report = one.report }) (tells.misused ∙ sym also.misused)
    ∙ ap (λ (ls : List (List ToldItem)). record { plan = other.plan; misused = other.misused; lists = ls; report = one.report })
    (same_lists one.lists other.lists (tells.workers ∙ sym also.workers)
    (λ worker list others at there. one_list list others (same_Some (map unmarked_item list) (map unmarked_item others) (sym (tells.lists worker list at) ∙ also.lists worker others there)) (calls worker list others at there)))
    ∙ ap (λ (bytes : List ℕ). record { plan = other.plan; misused = other.misused; lists = other.lists; report = bytes }) (tells.report ∙ sym also.report)
