-- Halts stand behind a list just where they do behind one that is alike, of which places, fronts, workers and marks are not told.
use Rattle.std.proofs.Common.{◌≡◌, ◌⊎◌, inl, inr, ℕ, ◌<◌, ◌≤◌, Bool, true, false, cond, List, [], ◌∷◌, ◌++◌, map, length, get_or, slice_get, Option, Some, None, refl, sym, ap, ◌∙◌, subst, arith}
use Rattle.std.specs.Option.{option_map}
use Rattle.std.specs.Prelude.{All}
use Rattle.std.proofs.lemmas.List.Elements.{All-cons, All-head, All-nil, All-tail}
use Rattle.std.proofs.lemmas.Option.{same_Some, slice_get_cases, slice_get-map, slice_get_within}
use Rattle.sync_types.specs.declared.misuse.Misuse.{Misuse}
use Rattle.run_record.specs.declared.made.Made.{Made}
use Rattle.run_record.specs.declared.made.Made.TheVariants.{Shared, Entered}
use Rattle.run_record.specs.Lines.{AreHalts, IsHalt, LineEnd, halted, misused, stayed, unfinished, whole}
use Rattle.run_cuts.specs.Blind.{AreAlike, bare}
use Rattle.list_checks.specs.SpellLines.{line_end}
use Rattle.record_text.specs.Told.{Told}
use Rattle.run_check.specs.ToldItems.{Sketched, worker_told}
use Rattle.run_check.specs.ToldLists as told_lists
use Rattle.record_clauses.specs.Account.{Claim, ToldItem, made_in}
use Rattle.record_clauses.specs.Lists.{is_halt, without_halts}
use Rattle.run_check.specs.declared.spelling.SpeltList.{SpeltList}
use Rattle.run_check.specs.declared.spelling.Spelling.{Spelling}
use Rattle.run_check.specs.Found.{AllHaltsBehind, HaltsBehind}
use Rattle.run_check.specs.Items.{told_item, unmarked_item}
use Rattle.run_check.specs.Lists.{AreSpeltTo, IsSpeltList, list_at}
use Rattle.run_check.specs.Tells.{Tells}
use Rattle.run_check.proofs.HaltsLast.{are_halts, only_halts}
use Rattle.run_check.proofs.ToldLists.{bare_same, mapped}

-- ---- one list

halt_bare : (m : Made) → is_halt (bare m) ≡ is_halt m
halt_bare (Shared x) = refl
halt_bare (Entered object entry) = refl

halt_alike : (x y : Made) → bare x ≡ bare y → is_halt x ≡ is_halt y
halt_alike x y same = sym (halt_bare x) ∙ ap is_halt same ∙ halt_bare y

to_bare : (misuse : Misuse) (x : Made) → IsHalt misuse x → IsHalt misuse (bare x)
to_bare misuse (Shared x) is = is
to_bare misuse (Entered object entry) is = is

from_bare : (misuse : Misuse) (x : Made) → IsHalt misuse (bare x) → IsHalt misuse x
from_bare misuse (Shared x) is = is
from_bare misuse (Entered object entry) is = is

all_alike : (misuse : Misuse) (xs ys : List Made) → AreAlike xs ys → All (IsHalt misuse) xs → All (IsHalt misuse) ys
all_alike misuse xs [] same all = All-nil (IsHalt misuse)
all_alike misuse [] (y ∷ ys) same all = absurd cc
all_alike misuse (x ∷ xs) (y ∷ ys) same all =
    let first : bare x ≡ bare y = cc in
    let rest : map bare xs ≡ map bare ys = cc in
    All-cons (IsHalt misuse) y ys (from_bare misuse y (subst (IsHalt misuse) first (to_bare misuse x (All-head (IsHalt misuse) x xs all)))) (all_alike misuse xs ys rest (All-tail (IsHalt misuse) x xs all))

none_alike : (xs ys : List Made) → AreAlike xs ys → xs ≡ [] → ys ≡ []
none_alike xs [] same none = refl
none_alike [] (y ∷ ys) same none = absurd cc
none_alike (x ∷ xs) (y ∷ ys) same none = absurd cc

halts_alike : (ending : LineEnd) (xs ys : List Made) → AreAlike xs ys → AreHalts ending xs → AreHalts ending ys
halts_alike (misused misuse) xs ys same are = all_alike misuse xs ys same are
halts_alike whole xs ys same are = none_alike xs ys same are
halts_alike (halted misuse) xs ys same are = none_alike xs ys same are
halts_alike unfinished xs ys same are = none_alike xs ys same are
halts_alike (stayed stay) xs ys same are = none_alike xs ys same are

pub behind_alike : (ending : LineEnd) (xs ys : List Made) → AreAlike xs ys → HaltsBehind xs ending → HaltsBehind ys ending
behind_alike ending [] [] same behind = behind
behind_alike ending [] (y ∷ ys) same behind = absurd cc
behind_alike ending (x ∷ xs) [] same behind = absurd cc
behind_alike ending (x ∷ xs) (y ∷ ys) same (later, is, are) = by (is_halt x) refl (λ back. behind_alike ending xs ys rest (later, back, are)) where
  first : bare x ≡ bare y
  first = cc

  rest : map bare xs ≡ map bare ys
  rest = cc

  by : (b : Bool) → is_halt x ≡ b → (xs ≡ without_halts xs ++ later → HaltsBehind ys ending) → HaltsBehind (y ∷ ys) ending
  by true halt next =
      let all : x ∷ xs ≡ later = only_halts (x ∷ xs) later halt is in
      let halts = halts_alike ending (x ∷ xs) (y ∷ ys) same (subst (AreHalts ending) (sym all) are) in
      (y ∷ ys, ap (λ (ms : List Made). ms ++ (y ∷ ys)) (sym (are_halts ending (y ∷ ys) halts)), halts)
  by false halt next =
      let cut : x ∷ xs ≡ x ∷ (without_halts xs ++ later) = is ∙ ap (λ (b : Bool). cond b (without_halts xs) (x ∷ without_halts xs) ++ later) halt in
      let (more, split, halts) = next (let back : xs ≡ without_halts xs ++ later = cc in back) in
      let none : is_halt y ≡ false = sym (halt_alike x y first) ∙ halt in
      (more, ap (λ (ms : List Made). y ∷ ms) split ∙ ap (λ (b : Bool). cond b (without_halts ys) (y ∷ without_halts ys) ++ more) (sym none), halts)

-- ---- the lists of a claim, and those that the text's lines say

all_bare : (worker : ℕ) (list : List ToldItem) (items : List Sketched) → map (told_item worker) items ≡ map unmarked_item list → AreAlike (made_in list) (map (λ (s : Sketched). told_lists.bare s.sketch) items)
all_bare worker [] [] same = refl
all_bare worker [] (s ∷ items) same = absurd cc
all_bare worker (x ∷ list) [] same = absurd cc
all_bare worker (x ∷ list) (s ∷ items) same =
    let first : told_item worker s ≡ unmarked_item x = cc in
    let rest : map (told_item worker) items ≡ map unmarked_item list = cc in
    ap (λ (m : Made). m ∷ map bare (made_in list)) (bare_same worker x s first) ∙ ap (λ (ms : List Made). bare (told_lists.bare s.sketch) ∷ ms) (all_bare worker list items rest)

module _ (told : Told) (found : Spelling) (are : AreSpeltTo told.plan told.items told.plan.workers found) (claim : Claim) (tells : Tells told claim) where
  list_alike : (worker : ℕ) (list : List ToldItem) (all : List Made) → slice_get claim.lists worker ≡ Some list → slice_get found.all worker ≡ Some all → AreAlike (made_in list) all
  list_alike worker list all at there = by (are.each worker (let count = are.all in let within = slice_get_within found.all worker all there in omega (arith, count, within))) where
    by : (one : SpeltList) × list_at found worker one × IsSpeltList told.plan told.items worker one → AreAlike (made_in list) all
    by (one, at_one, spelt) =
        let (items, is, same) = mapped (λ (ss : List Sketched). map (told_item worker) ss) (worker_told told.plan told.items worker) (map unmarked_item list) (tells.lists worker list at) in
        let one_list : items ≡ spelt.list = same_Some items spelt.list (sym is ∙ spelt.told) in
        let mine : map (told_item worker) spelt.list ≡ map unmarked_item list = ap (λ (ss : List Sketched). map (told_item worker) ss) (sym one_list) ∙ same in
        let whole_is : map (λ (s : Sketched). told_lists.bare s.sketch) spelt.list ≡ all = sym spelt.parts.all ∙ same_Some one.told.all all (sym at_one.1 ∙ there) in
        subst (λ (ms : List Made). AreAlike (made_in list) ms) whole_is (all_bare worker list spelt.list mine)

  pub behind_told : AllHaltsBehind found.all found.lines → AllHaltsBehind (map made_in claim.lists) found.lines
  behind_told behind worker made line at at_line =
      let (list, there, same) = mapped made_in (slice_get claim.lists worker) made (sym (slice_get-map made_in claim.lists worker) ∙ at) in
      by list there same (slice_get_cases found.all worker).1
    where
      by : (list : List ToldItem) → slice_get claim.lists worker ≡ Some list → made_in list ≡ made
          → ((all : List Made) × (worker < length found.all) × (slice_get found.all worker ≡ Some all) × (get_or found.all worker all ≡ all)) ⊎ ((length found.all ≤ worker) × (slice_get found.all worker ≡ None)) → HaltsBehind made (line_end line.ending)
      by list there same (inl (all, within, at_all, read)) =
          subst (λ (ms : List Made). HaltsBehind ms (line_end line.ending)) same (behind_alike (line_end line.ending) all (made_in list) (sym (list_alike worker list all there at_all)) (behind worker all line at_all at_line))
      by list there same (inr (past, none)) = let count = are.all in let long = are.lines in let within = slice_get_within found.lines worker line at_line in absurd (omega (arith, past, count, long, within))

  pub behind_found : AllHaltsBehind (map made_in claim.lists) found.lines → AllHaltsBehind found.all found.lines
  behind_found behind worker all line at at_line = by (slice_get_cases claim.lists worker).1 where
    by : ((list : List ToldItem) × (worker < length claim.lists) × (slice_get claim.lists worker ≡ Some list) × (get_or claim.lists worker list ≡ list)) ⊎ ((length claim.lists ≤ worker) × (slice_get claim.lists worker ≡ None)) → HaltsBehind all (line_end line.ending)
    by (inl (list, within, there, read)) =
        let made : slice_get (map made_in claim.lists) worker ≡ Some (made_in list) = slice_get-map made_in claim.lists worker ∙ ap (λ (o : Option (List ToldItem)). option_map made_in o) there in
        behind_alike (line_end line.ending) (made_in list) all (list_alike worker list all there at) (behind worker (made_in list) line made at_line)
    by (inr (past, none)) = let count = tells.workers in let long = are.lines in let within = slice_get_within found.lines worker line at_line in absurd (omega (arith, past, count, long, within))
