-- The items that are told of a run that is done are in range, where their numbers have 64 bits.
use Rattle.std.proofs.Common.{◌≡◌, ℕ, suc, ◌==◌, ◌&&◌, Bool, true, false, cond, List, [], ◌∷◌, flat_map, length, Option, Some, None, slice_get, refl, sym, ap, ◌∙◌, eq-eqb}
use Rattle.std.specs.List.{AllByRecursion, list_all}
use Rattle.std.specs.Option.{option_to_list, option_map}
use Rattle.std.proofs.lemmas.List.Folds.{list_all-append}
use Rattle.std.proofs.lemmas.Option.{same_Some}
use Rattle.workload.specs.Plan.{Plan}
use Rattle.run_record.specs.Record.{front_of}
use Rattle.record_text.specs.declared.item_line.ItemLine.{ItemLine}
use Rattle.record_text.specs.declared.item_line.Said.{Said}
use Rattle.record_text.specs.ItemLines.{is_item}
use Rattle.record_text.specs.LawfulItems.{has_numbers}
use Rattle.record_text.specs.Numbers.{has_64_bits, is_front}
use Rattle.record_text.specs.Written.{front_in, item_line, made_said}
use Rattle.scheduled_record.specs.ToldItems.{ToldAct, told_by, number_of, line_in, is_in_64_bits}
use Rattle.scheduled_record.proofs.Gaining.{and_true}
use Rattle.scheduled_record.proofs.WideFronts.{same_front}

-- what each of each worker's is, all are
pub each_told : (P : ToldAct → Type 0) (told : List ToldAct) → ((worker i : ℕ) (t : ToldAct) → slice_get (told_by worker told) i ≡ Some t → P t) → AllByRecursion P told
each_told P [] all = tt
each_told P (t ∷ told) all = (all t.act.worker 0 t here, each_told P told later) where
  here : slice_get (cond (t.act.worker == t.act.worker) (t ∷ told_by t.act.worker told) (told_by t.act.worker told)) 0 ≡ Some t
  here = ap (λ (b : Bool). slice_get (cond b (t ∷ told_by t.act.worker told) (told_by t.act.worker told)) 0) (eq-eqb t.act.worker t.act.worker refl)

  later : (worker i : ℕ) (u : ToldAct) → slice_get (told_by worker told) i ≡ Some u → P u
  later worker i u at = chosen (t.act.worker == worker) refl where
    chosen : (b : Bool) → (t.act.worker == worker) ≡ b → P u
    chosen true is = all worker (suc i) u (ap (λ (b : Bool). slice_get (cond b (t ∷ told_by worker told) (told_by worker told)) (suc i)) is ∙ at)
    chosen false is = all worker i u (ap (λ (b : Bool). slice_get (cond b (t ∷ told_by worker told) (told_by worker told)) i) is ∙ at)

pub each_true : {A : Type 0} (p : A → Bool) (xs : List A) → list_all p xs ≡ true → AllByRecursion (λ (x : A). p x ≡ true) xs
each_true p [] all = tt
each_true p (x ∷ xs) all = let both = and_true (p x) (list_all p xs) all in (both.0, each_true p xs both.1)

-- the line of an item, where it has one, which is in range where its numbers have 64 bits
abbrev pub HasLine : Plan → ℕ → ToldAct → Type 0
HasLine plan worker t = (line : ItemLine) × (item_line worker t.index (number_of t.act.made) t.act.made ≡ Some line) × (has_numbers line.said ≡ true → is_item plan line ≡ true)

pub one_in_range : (plan : Plan) (worker : ℕ) (t : ToldAct) → line_in t ≡ option_to_list (item_line worker t.index (number_of t.act.made) t.act.made) → length (front_of t.act.made) ≡ plan.workers
    → (is_front plan.workers (front_in t.act.made) ≡ true → HasLine plan worker t) → list_all is_in_64_bits (line_in t) ≡ true → list_all (is_item plan) (line_in t) ≡ true
one_in_range plan worker t line_is wide given fit =
    ap (list_all (is_item plan)) line_is ∙ said_so (made_said (number_of t.act.made) t.act.made) given (ap (list_all is_in_64_bits) (sym line_is) ∙ fit) where
      build : Said → ItemLine
      build s = record { worker = worker; index = t.index; front = front_in t.act.made; said = s }

      long : length (front_in t.act.made) ≡ plan.workers
      long = ap length (same_front t.act.made) ∙ wide

      said_so : (said : Option Said) → (is_front plan.workers (front_in t.act.made) ≡ true → (line : ItemLine) × (option_map build said ≡ Some line) × (has_numbers line.said ≡ true → is_item plan line ≡ true))
          → list_all is_in_64_bits (option_to_list (option_map build said)) ≡ true → list_all (is_item plan) (option_to_list (option_map build said)) ≡ true
      said_so None given fit = refl
      said_so (Some s) given fit =
          let numbers = and_true (has_numbers s) (list_all has_64_bits (front_in t.act.made)) (and_true (is_in_64_bits (build s)) true fit).0 in
          let front : is_front plan.workers (front_in t.act.made) ≡ true = ap (λ (b : Bool). b && list_all has_64_bits (front_in t.act.made)) (eq-eqb (length (front_in t.act.made)) plan.workers long) ∙ numbers.1 in
          let found = given front in
          let same : build s ≡ found.0 = same_Some (build s) found.0 found.1 in
          ap (λ (b : Bool). b && true) (ap (is_item plan) same ∙ found.2 (ap (λ (line : ItemLine). has_numbers line.said) (sym same) ∙ numbers.0))

-- all lines
pub all_in_range : (plan : Plan) (told : List ToldAct) → AllByRecursion (λ (t : ToldAct). list_all is_in_64_bits (line_in t) ≡ true → list_all (is_item plan) (line_in t) ≡ true) told
    → list_all is_in_64_bits (flat_map line_in told) ≡ true → list_all (is_item plan) (flat_map line_in told) ≡ true
all_in_range plan [] all fit = refl
all_in_range plan (t ∷ told) all fit =
    let fits = and_true (list_all is_in_64_bits (line_in t)) (list_all is_in_64_bits (flat_map line_in told)) (sym (list_all-append is_in_64_bits (line_in t) (flat_map line_in told)) ∙ fit) in
    list_all-append (is_item plan) (line_in t) (flat_map line_in told)
    ∙ (ap (λ (b : Bool). b && list_all (is_item plan) (flat_map line_in told)) (all.0 fits.0) ∙ all_in_range plan told all.1 fits.1)
