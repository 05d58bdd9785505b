-- Each call lies behind all that its worker knew, and its worker knew its own earlier calls.
use Rattle.std.proofs.Common.{◌≡◌, ℕ, zero, suc, ◌+◌, ◌<◌, ◌≤◌, List, [], ◌∷◌, ◌++◌, length, Some, slice_get, slice_index, refl, sym, ap, ◌∙◌, subst, append-nil, arith}
use Rattle.std.proofs.lemmas.List.{length-append}
use Rattle.std.proofs.lemmas.Option.{none-some}
use Rattle.sync_model.specs.declared.item.Item.{Item}
use Rattle.sync_model.specs.Front.{AtLeast}
use Rattle.sync_model.specs.Journal.{Begins}
use Rattle.sync_model.specs.SharedCalls.{bound, Knows, Grows}
use Rattle.workload.specs.Plan.{Plan}
use Rattle.run_record.specs.declared.made.Made.{Made}
use Rattle.run_record.specs.declared.made.Made.TheVariants.{Shared, Entered}
use Rattle.run_record.specs.Record.{ObjectEntry}
use Rattle.kept_record.specs.Acts.{IsActOf}
use Rattle.kept_record.specs.Keeping.{Act, Account, entered, placed, known_by, with_made, with_act, opened}
use Rattle.kept_record.proofs.Counts.{Counts}
use Rattle.kept_record.proofs.Fronts.{less_still}
use Rattle.kept_record.proofs.History.{calls_by, IsHistory}
use Rattle.kept_record.proofs.Induction.{calls_cases, calls_behind}
use Rattle.kept_record.proofs.ListLemmas.{each_more, pair_more}
use Rattle.kept_record.proofs.Numbers.{Numbered}
use Rattle.kept_record.proofs.Rising.{known_more}

abbrev pub all_calls : Account → ℕ → List Item
all_calls kept c = calls_by c kept

pub record Knowing (plan : Plan) (kept : Account) : Type 0 where
  pub knows : (c j : ℕ) (x : Item) → slice_get (calls_by c kept) j ≡ Some x → Knows (all_calls kept) x.front x.place
  pub own : (c j : ℕ) (x : Item) → c < plan.workers → slice_get (calls_by c kept) j ≡ Some x → slice_index x.front c ≡ j
  pub above : (c j : ℕ) (x : Item) → slice_get (calls_by c kept) j ≡ Some x → AtLeast (known_by c kept) x.front
  pub rises : (c i j : ℕ) (x y : Item) → i < j → slice_get (calls_by c kept) i ≡ Some x → slice_get (calls_by c kept) j ≡ Some y → AtLeast y.front x.front

-- what stands at a place of a list stands there still, where more stand behind it
still_there : {A : Type 0} (xs more : List A) (i : ℕ) (x : A) → i < length xs → slice_get (xs ++ more) i ≡ Some x → slice_get xs i ≡ Some x
still_there [] more i x within at = absurd (omega arith)
still_there (y ∷ xs) more zero x within at = at
still_there (y ∷ xs) more (suc i) x within at = still_there xs more i x (omega arith) at

pub knows_more : (calls new : ℕ → List Item) (front : List ℕ) (n : ℕ) → Grows calls new → Knows calls front n → Knows new front n
knows_more calls new front n grows was = record { made = made; within = within } where
  made : (c : ℕ) → slice_index front c ≤ length (new c)
  made c = let long : length (calls c ++ (grows c).0) ≡ length (calls c) + length (grows c).0 = length-append (calls c) (grows c).0 in let few : slice_index front c ≤ length (calls c) = was.made c in
      subst (λ (l : List Item). slice_index front c ≤ length l) (sym (grows c).1) (subst (λ (k : ℕ). slice_index front c ≤ k) (sym long) (let more : slice_index front c ≤ length (calls c) + length (grows c).0 = omega arith in more))

  within : (c j : ℕ) (x : Item) → j < slice_index front c → slice_get (new c) j ≡ Some x → bound x ≤ n
  within c j x less at = let few : slice_index front c ≤ length (calls c) = was.made c in let there : j < length (calls c) = omega arith in
      was.within c j x less (still_there (calls c) (grows c).0 j x there (ap (λ (l : List Item). slice_get l j) (sym (grows c).1) ∙ at))

-- ---- one call more

module _ (plan : Plan) (kept : Account) (worker : ℕ) (asked : Item) (of : IsActOf plan (record { worker = worker; made = Shared asked })) (rows : Numbered plan kept) (counts : Counts plan kept) (history : IsHistory plan kept) (now : Knowing plan kept) where
  abbrev x : Item
  x = placed worker asked kept

  abbrev next : Account
  next = with_made worker (Shared asked) kept

  grows : Grows (all_calls kept) (all_calls next)
  grows c = calls_cases (λ (l : List Item). Begins l (calls_by c kept)) c worker x kept.acts (λ same. (x ∷ [], refl)) (λ apart. ([], sym (append-nil (calls_by c kept))))

  here : Knows (all_calls kept) x.front x.place
  here = record { made = λ c. counts.known worker c; within = λ c j y less at. (history.places c j y at).bound }

  still : (c j : ℕ) (y : Item) → slice_get (calls_by c kept) j ≡ Some y → Knows (all_calls next) y.front y.place
  still c j y at = knows_more (all_calls kept) (all_calls next) y.front y.place grows (now.knows c j y at)

  more : (w : ℕ) → AtLeast (known_by w next) (known_by w kept)
  more = known_more plan kept worker (Shared asked) of rows

  above_still : (c j : ℕ) (y : Item) → slice_get (calls_by c kept) j ≡ Some y → AtLeast (known_by c next) y.front
  above_still c j y at = less_still (known_by c next) (known_by c kept) y.front (more c) (now.above c j y at)

  pub call_knows : Knowing plan (with_made worker (Shared asked) kept)
  call_knows = record {
    knows = λ c. calls_cases (λ (l : List Item). (j : ℕ) (y : Item) → slice_get l j ≡ Some y → Knows (all_calls next) y.front y.place) c worker x kept.acts
        (λ same. each_more (λ (j : ℕ) (y : Item). Knows (all_calls next) y.front y.place) (calls_by c kept) x (still c) (knows_more (all_calls kept) (all_calls next) x.front x.place grows here)) (λ apart. still c);
    own = λ c j y within. calls_cases (λ (l : List Item). slice_get l j ≡ Some y → slice_index y.front c ≡ j) c worker x kept.acts
        (λ same. each_more (λ (n : ℕ) (z : Item). slice_index z.front c ≡ n) (calls_by c kept) x (λ n z at. now.own c n z within at)
        (subst (λ (k : ℕ). slice_index x.front k ≡ length (calls_by k kept)) same (counts.own worker of.worker)) j y) (λ apart. now.own c j y within);
    above = λ c. calls_cases (λ (l : List Item). (j : ℕ) (y : Item) → slice_get l j ≡ Some y → AtLeast (known_by c next) y.front) c worker x kept.acts
        (λ same. each_more (λ (j : ℕ) (y : Item). AtLeast (known_by c next) y.front) (calls_by c kept) x (above_still c) (subst (λ (k : ℕ). AtLeast (known_by k next) x.front) same (more worker))) (λ apart. above_still c);
    rises = λ c. calls_cases (λ (l : List Item). (i j : ℕ) (y z : Item) → i < j → slice_get l i ≡ Some y → slice_get l j ≡ Some z → AtLeast z.front y.front) c worker x kept.acts
        (λ same. pair_more (λ (y z : Item). AtLeast z.front y.front) (calls_by c kept) x (now.rises c) (λ j y at. subst (λ (k : ℕ). AtLeast (known_by k kept) y.front) (sym same) (now.above c j y at))) (λ apart. now.rises c);
  }

-- ---- an entry

module _ (plan : Plan) (kept : Account) (worker object : ℕ) (entry : ObjectEntry) (of : IsActOf plan (record { worker = worker; made = Entered object entry })) (rows : Numbered plan kept) (now : Knowing plan kept) where
  abbrev behind : Account
  behind = with_made worker (Entered object entry) kept

  same : (c : ℕ) → calls_by c behind ≡ calls_by c kept
  same c = calls_behind c worker object (entered worker object entry kept) kept.acts

  was_at : (c j : ℕ) (x : Item) → slice_get (calls_by c behind) j ≡ Some x → slice_get (calls_by c kept) j ≡ Some x
  was_at c j x at = ap (λ (l : List Item). slice_get l j) (sym (same c)) ∙ at

  pub entry_knows : Knowing plan (with_made worker (Entered object entry) kept)
  entry_knows = record {
    knows = λ c j x at. knows_more (all_calls kept) (all_calls behind) x.front x.place (λ d. ([], same d ∙ sym (append-nil (calls_by d kept)))) (now.knows c j x (was_at c j x at));
    own = λ c j x within at. now.own c j x within (was_at c j x at);
    above = λ c j x at. less_still (known_by c behind) (known_by c kept) x.front (known_more plan kept worker (Entered object entry) of rows c) (now.above c j x (was_at c j x at));
    rises = λ c i j x y before at_x at_y. now.rises c i j x y before (was_at c i x at_x) (was_at c j y at_y);
  }

pub begins : (plan : Plan) → Knowing plan (opened plan)
begins plan = record {
  knows = λ c j x at. absurd (none-some x at);
  own = λ c j x within at. absurd (none-some x at);
  above = λ c j x at. absurd (none-some x at);
  rises = λ c i j x y before at_x at_y. absurd (none-some x at_x);
}

made_step : (plan : Plan) (kept : Account) (worker : ℕ) (made : Made) → IsActOf plan (record { worker = worker; made = made }) → Numbered plan kept → Counts plan kept → IsHistory plan kept → Knowing plan kept → Knowing plan (with_made worker made kept)
made_step plan kept worker (Shared x) of rows counts history now = call_knows plan kept worker x of rows counts history now
made_step plan kept worker (Entered object entry) of rows counts history now = entry_knows plan kept worker object entry of rows now

pub step : (plan : Plan) (kept : Account) (act : Act) → IsActOf plan act → Numbered plan kept → Counts plan kept → IsHistory plan kept → Knowing plan kept → Knowing plan (with_act kept act)
step plan kept act of rows counts history now = made_step plan kept act.worker act.made (record { worker = of.worker; object = of.object }) rows counts history now
