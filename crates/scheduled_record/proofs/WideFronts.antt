-- The items that are told of a run have a front with a number for each worker.
use Rattle.std.proofs.Common.{◌≡◌, ℕ, suc, ◌≤◌, ◌==◌, ◌&&◌, Bool, true, false, cond, nat_le, List, [], ◌∷◌, flat_map, length, Option, Some, None, slice_get, refl, ap, ◌∙◌, le-leb, eqb-true, eq-eqb, arith}
use Rattle.std.specs.List.{AllByRecursion, list_all}
use Rattle.std.specs.Option.{option_to_list, option_map}
use Rattle.std.proofs.lemmas.List.Folds.{list_all-append}
use Rattle.run_record.specs.declared.made.Made.{Made}
use Rattle.run_record.specs.declared.made.Made.TheVariants.{Shared, Entered}
use Rattle.run_record.specs.Record.{front_of}
use Rattle.record_text.specs.declared.item_line.ItemLine.{ItemLine}
use Rattle.record_text.specs.declared.item_line.Said.{Said}
use Rattle.record_text.specs.Written.{front_in, made_said}
use Rattle.kept_record.specs.Keeping.{Act, made_by}
use Rattle.scheduled_record.specs.ToldItems.{ToldAct, told_with, number_of, line_in}
use Rattle.scheduled_record.proofs.Gaining.{and_true}

-- what each item of each worker's list is, each act makes
pub each_act : (P : Made → Type 0) (acts : List Act) → ((worker i : ℕ) (x : Made) → slice_get (made_by worker acts) i ≡ Some x → P x) → AllByRecursion (λ (act : Act). P act.made) acts
each_act P [] all = tt
each_act P (act ∷ acts) all = (all act.worker 0 act.made here, each_act P acts later) where
  here : slice_get (cond (act.worker == act.worker) (act.made ∷ made_by act.worker acts) (made_by act.worker acts)) 0 ≡ Some act.made
  here = ap (λ (b : Bool). slice_get (cond b (act.made ∷ made_by act.worker acts) (made_by act.worker acts)) 0) (eq-eqb act.worker act.worker refl)

  later : (worker i : ℕ) (x : Made) → slice_get (made_by worker acts) i ≡ Some x → P x
  later worker i x at = chosen (act.worker == worker) refl where
    chosen : (b : Bool) → (act.worker == worker) ≡ b → P x
    chosen true is = all worker (suc i) x (ap (λ (b : Bool). slice_get (cond b (act.made ∷ made_by worker acts) (made_by worker acts)) (suc i)) is ∙ at)
    chosen false is = all worker i x (ap (λ (b : Bool). slice_get (cond b (act.made ∷ made_by worker acts) (made_by worker acts)) i) is ∙ at)

-- the front of an item's line has a number for each worker
abbrev pub is_wide : ℕ → ItemLine → Bool
is_wide workers item = length item.front == workers

pub same_front : (made : Made) → front_in made ≡ front_of made
same_front (Shared x) = refl
same_front (Entered object entry) = refl

wide_line : (workers : ℕ) (t : ToldAct) → length (front_of t.act.made) ≡ workers → list_all (is_wide workers) (line_in t) ≡ true
wide_line workers t wide = said_so (made_said (number_of t.act.made) t.act.made) where
  said_so : (said : Option Said) → list_all (is_wide workers) (option_to_list (option_map (λ (s : Said). record { worker = t.act.worker; index = t.index; front = front_in t.act.made; said = s }) said)) ≡ true
  said_so None = refl
  said_so (Some s) = ap (λ (b : Bool). b && true) (eq-eqb (length (front_in t.act.made)) workers (ap length (same_front t.act.made) ∙ wide))

pub wide_lines : (workers : ℕ) (told : List ToldAct) (acts : List Act) → AllByRecursion (λ (act : Act). length (front_of act.made) ≡ workers) acts → list_all (is_wide workers) (flat_map line_in (told_with told acts)) ≡ true
wide_lines workers [] acts all = refl
wide_lines workers (t ∷ told) [] all = refl
wide_lines workers (t ∷ told) (act ∷ acts) all =
    let one : ToldAct = record { index = t.index; act = act } in
    list_all-append (is_wide workers) (line_in one) (flat_map line_in (told_with told acts))
    ∙ (ap (λ (b : Bool). b && list_all (is_wide workers) (flat_map line_in (told_with told acts))) (wide_line workers one all.0) ∙ wide_lines workers told acts all.1)

-- with few workers no front has many numbers
pub few_where_wide : (workers most : ℕ) (items : List ItemLine) → workers ≤ most → list_all (is_wide workers) items ≡ true → list_all (λ (item : ItemLine). nat_le (length item.front) most) items ≡ true
few_where_wide workers most [] le all = refl
few_where_wide workers most (item ∷ items) le all =
    let both = and_true (is_wide workers item) (list_all (is_wide workers) items) all in
    let long : length item.front ≡ workers = eqb-true (length item.front) workers both.0 in
    ap (λ (b : Bool). b && list_all (λ (item : ItemLine). nat_le (length item.front) most) items) (le-leb (length item.front) most (omega (arith, long, le))) ∙ few_where_wide workers most items le both.1
