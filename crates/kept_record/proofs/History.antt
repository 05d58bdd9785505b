-- What is kept of the history: its entries are the calls that are marked, each at its place, and the contents are those after it.
use Rattle.std.proofs.Common.{◌≡◌, ◌≢◌, ℕ, suc, ◌+◌, ◌≤◌, ◌==◌, Bool, true, false, cond, List, [], ◌∷◌, ◌++◌, length, take, Some, slice_get, refl, sym, ap, ◌∙◌, subst, append-nil, arith}
use Rattle.std.proofs.lemmas.Bool.{eq-eqb, ne_eqb}
use Rattle.std.proofs.lemmas.List.{length-append, take-append-le}
use Rattle.std.proofs.lemmas.Option.{none-some}
use Rattle.std.proofs.Math.Seq.{take-append_seam}
use Rattle.sync_model.specs.declared.item.Item.{Item}
use Rattle.sync_model.specs.declared.item.SharedEntry.{SharedEntry}
use Rattle.sync_model.specs.SharedCalls.{bound}
use Rattle.sync_model.specs.SharedHistory.{Contents, contents_after, contents_at, is_entry, shared_after, entries_from, entries_by, entry_of, marked_in, history_with}
use Rattle.workload.specs.Plan.{Plan}
use Rattle.run_record.specs.declared.made.Made.{Made}
use Rattle.run_record.specs.declared.made.Made.TheVariants.{Shared, Entered}
use Rattle.run_record.specs.Objects.{contents_of}
use Rattle.run_record.specs.Record.{shared_in}
use Rattle.kept_record.specs.Keeping.{Act, Account, made_by, entered, placed, with_made, with_act, opened}
use Rattle.kept_record.proofs.Induction.{calls_cases, calls_behind}
use Rattle.kept_record.proofs.ListLemmas.{each_more}

abbrev pub calls_by : ℕ → Account → List Item
calls_by c kept = shared_in (made_by c kept.acts)

-- a call as the history has it at its place
pub record IsPlaced (start : Contents) (history : List SharedEntry) (x : Item) : Type 0 where
  pub place : x.place ≤ length history
  pub entry : x.entry ≡ is_entry x.call (contents_at start history x.place)
  pub bound : bound x ≤ length history

pub record IsHistory (plan : Plan) (kept : Account) : Type 0 where
  pub contents : kept.contents ≡ contents_after (contents_of plan) kept.history
  pub marked : (c : ℕ) → marked_in c (calls_by c kept) ≡ entries_by c kept.history
  pub places : (c j : ℕ) (x : Item) → slice_get (calls_by c kept) j ≡ Some x → IsPlaced (contents_of plan) kept.history x

-- ---- lists with one more

contents_more : (start : Contents) (history : List SharedEntry) (entry : SharedEntry) → contents_after start (history ++ entry ∷ []) ≡ shared_after entry.call (contents_after start history)
contents_more start [] entry = refl
contents_more start (first ∷ history) entry = contents_more (shared_after first.call start) history entry

pub contents_still : (start : Contents) (history more : List SharedEntry) (n : ℕ) → n ≤ length history → contents_at start (history ++ more) n ≡ contents_at start history n
contents_still start history more n within = ap (contents_after start) (take-append-le n history more within)

marked_more : (c : ℕ) (calls : List Item) (x : Item) → marked_in c (calls ++ x ∷ []) ≡ marked_in c calls ++ cond x.entry ((x.place, entry_of c x) ∷ []) []
marked_more c [] x = refl
marked_more c (y ∷ calls) x = chosen y.entry (marked_in c (calls ++ x ∷ [])) (marked_in c calls) (marked_more c calls x) where
  chosen : (b : Bool) (left right : List (ℕ × SharedEntry)) → left ≡ right ++ cond x.entry ((x.place, entry_of c x) ∷ []) []
      → cond b ((y.place, entry_of c y) ∷ left) left ≡ cond b ((y.place, entry_of c y) ∷ right) right ++ cond x.entry ((x.place, entry_of c x) ∷ []) []
  chosen true left right is = ap (λ (l : List (ℕ × SharedEntry)). (y.place, entry_of c y) ∷ l) is
  chosen false left right is = is

entries_more : (n c : ℕ) (history : List SharedEntry) (entry : SharedEntry) → entries_from n c (history ++ entry ∷ []) ≡ entries_from n c history ++ cond (entry.caller == c) ((n + length history, entry) ∷ []) []
entries_more n c [] entry = let same : n ≡ n + 0 = omega arith in ap (λ (k : ℕ). cond (entry.caller == c) ((k, entry) ∷ []) []) same
entries_more n c (first ∷ history) entry =
    let same : n + 1 + length history ≡ n + suc (length history) = omega arith in
    chosen (first.caller == c) (entries_from (n + 1) c (history ++ entry ∷ [])) (entries_from (n + 1) c history)
    (entries_more (n + 1) c history entry ∙ ap (λ (k : ℕ). entries_from (n + 1) c history ++ cond (entry.caller == c) ((k, entry) ∷ []) []) same) where
      abbrev_last : List (ℕ × SharedEntry)
      abbrev_last = cond (entry.caller == c) ((n + suc (length history), entry) ∷ []) []

      chosen : (b : Bool) (left right : List (ℕ × SharedEntry)) → left ≡ right ++ abbrev_last → cond b ((n, first) ∷ left) left ≡ cond b ((n, first) ∷ right) right ++ abbrev_last
      chosen true left right is = ap (λ (l : List (ℕ × SharedEntry)). (n, first) ∷ l) is
      chosen false left right is = is

entries_with : (c worker : ℕ) (x : Item) (history : List SharedEntry) (b : Bool) → x.entry ≡ b → entries_by c (history_with history worker x) ≡ entries_by c history ++ cond b (cond (worker == c) ((length history, entry_of worker x) ∷ []) []) []
entries_with c worker x history true is =
    let first : 0 + length history ≡ length history = omega arith in
    ap (λ (b : Bool). entries_by c (cond b (history ++ entry_of worker x ∷ []) history)) is ∙ (entries_more 0 c history (entry_of worker x) ∙ ap (λ (k : ℕ). entries_by c history ++ cond (worker == c) ((k, entry_of worker x) ∷ []) []) first)
entries_with c worker x history false is = ap (λ (b : Bool). entries_by c (cond b (history ++ entry_of worker x ∷ []) history)) is ∙ sym (append-nil (entries_by c history))

-- the history grows at its end
pub with_begins : (history : List SharedEntry) (worker : ℕ) (x : Item) → (more : List SharedEntry) × (history_with history worker x ≡ history ++ more)
with_begins history worker x = chosen x.entry where
  chosen : (b : Bool) → (more : List SharedEntry) × (cond b (history ++ entry_of worker x ∷ []) history ≡ history ++ more)
  chosen true = (entry_of worker x ∷ [], refl)
  chosen false = ([], sym (append-nil history))

placed_still : (start : Contents) (history more : List SharedEntry) (x : Item) → IsPlaced start history x → IsPlaced start (history ++ more) x
placed_still start history more x was = let long : length (history ++ more) ≡ length history + length more = length-append history more in record {
  place = let less : x.place ≤ length history = was.place in omega arith;
  entry = was.entry ∙ ap (is_entry x.call) (sym (contents_still start history more x.place was.place));
  bound = let less : bound x ≤ length history = was.bound in omega arith;
}

-- ---- one call more

module _ (plan : Plan) (kept : Account) (worker : ℕ) (asked : Item) (now : IsHistory plan kept) where
  abbrev x : Item
  x = placed worker asked kept

  abbrev next : Account
  next = with_made worker (Shared asked) kept

  abbrev start : Contents
  start = contents_of plan

  pub at_place : contents_at start kept.history (length kept.history) ≡ kept.contents
  at_place = ap (contents_after start) (take_whole kept.history) ∙ sym now.contents where
    take_whole : (history : List SharedEntry) → take (length history) history ≡ history
    take_whole history = ap (take (length history)) (sym (append-nil history)) ∙ take-append_seam history []

  -- the call at its place, before it is added to the history
  here : IsPlaced start next.history x
  here = chosen x.entry refl where
    placed_at : (more : List SharedEntry) → next.history ≡ kept.history ++ more → bound x ≤ length kept.history + length more → IsPlaced start next.history x
    placed_at more is within = subst (λ (h : List SharedEntry). IsPlaced start h x) (sym is) (let long : length (kept.history ++ more) ≡ length kept.history + length more = length-append kept.history more in record {
      place = let first : length kept.history ≤ length kept.history + length more = omega arith in subst (λ (n : ℕ). length kept.history ≤ n) (sym long) first;
      entry = ap (is_entry asked.call) (sym (contents_still start kept.history more (length kept.history) (same (length kept.history)) ∙ at_place));
      bound = subst (λ (n : ℕ). bound x ≤ n) (sym long) within;
    }) where
      same : (n : ℕ) → n ≤ n
      same n = omega arith

    chosen : (b : Bool) → x.entry ≡ b → IsPlaced start next.history x
    chosen true is = placed_at (entry_of worker x ∷ []) (ap (λ (b : Bool). cond b (kept.history ++ entry_of worker x ∷ []) kept.history) is) (subst (λ (b : Bool). cond b (length kept.history + 1) (length kept.history) ≤ length kept.history + 1) (sym is) (same (length kept.history + 1))) where
      same : (n : ℕ) → n ≤ n
      same n = omega arith
    chosen false is = placed_at [] (ap (λ (b : Bool). cond b (kept.history ++ entry_of worker x ∷ []) kept.history) is ∙ sym (append-nil kept.history))
        (subst (λ (b : Bool). cond b (length kept.history + 1) (length kept.history) ≤ length kept.history + 0) (sym is) (same (length kept.history))) where
          same : (n : ℕ) → n ≤ n + 0
          same n = omega arith

  still : (c j : ℕ) (y : Item) → slice_get (calls_by c kept) j ≡ Some y → IsPlaced start next.history y
  still c j y at = let grown = with_begins kept.history worker x in subst (λ (h : List SharedEntry). IsPlaced start h y) (sym grown.1) (placed_still start kept.history grown.0 y (now.places c j y at))

  marks : (c : ℕ) → marked_in c (calls_by c next) ≡ entries_by c next.history
  marks c = calls_cases (λ (l : List Item). marked_in c l ≡ entries_by c next.history) c worker x kept.acts own other where
    mine : worker ≡ c → (b : Bool) → x.entry ≡ b → cond {A = List (ℕ × SharedEntry)} x.entry ((x.place, entry_of c x) ∷ []) [] ≡ cond b (cond (worker == c) ((length kept.history, entry_of worker x) ∷ []) []) []
    mine same true is = ap (λ (b : Bool). cond {A = List (ℕ × SharedEntry)} b ((x.place, entry_of c x) ∷ []) []) is ∙ (ap (λ (w : ℕ). let l : List (ℕ × SharedEntry) = (length kept.history, entry_of w x) ∷ [] in l) (sym same)
        ∙ ap (λ (b : Bool). cond {A = List (ℕ × SharedEntry)} b ((length kept.history, entry_of worker x) ∷ []) []) (sym (eq-eqb worker c same)))
    mine same false is = ap (λ (b : Bool). cond {A = List (ℕ × SharedEntry)} b ((x.place, entry_of c x) ∷ []) []) is

    own : worker ≡ c → marked_in c (calls_by c kept ++ x ∷ []) ≡ entries_by c next.history
    own same = marked_more c (calls_by c kept) x ∙ (ap (λ (l : List (ℕ × SharedEntry)). l ++ cond x.entry ((x.place, entry_of c x) ∷ []) []) (now.marked c)
        ∙ (ap (λ (l : List (ℕ × SharedEntry)). entries_by c kept.history ++ l) (mine same x.entry refl) ∙ sym (entries_with c worker x kept.history x.entry refl)))

    nothing : worker ≢ c → (b : Bool) → [] ≡ cond {A = List (ℕ × SharedEntry)} b (cond (worker == c) ((length kept.history, entry_of worker x) ∷ []) []) []
    nothing apart true = ap (λ (b : Bool). cond {A = List (ℕ × SharedEntry)} b ((length kept.history, entry_of worker x) ∷ []) []) (sym (ne_eqb worker c apart))
    nothing apart false = refl

    other : worker ≢ c → marked_in c (calls_by c kept) ≡ entries_by c next.history
    other apart = now.marked c ∙ (sym (append-nil (entries_by c kept.history)) ∙ (ap (λ (l : List (ℕ × SharedEntry)). entries_by c kept.history ++ l) (nothing apart x.entry) ∙ sym (entries_with c worker x kept.history x.entry refl)))

  contents_next : next.contents ≡ contents_after start next.history
  contents_next = chosen x.entry where
    chosen : (b : Bool) → cond b (shared_after asked.call kept.contents) kept.contents ≡ contents_after start (cond b (kept.history ++ entry_of worker x ∷ []) kept.history)
    chosen true = ap (shared_after asked.call) now.contents ∙ sym (contents_more start kept.history (entry_of worker x))
    chosen false = now.contents

  pub call_history : IsHistory plan (with_made worker (Shared asked) kept)
  call_history = record {
    contents = contents_next;
    marked = marks;
    places = λ c. calls_cases (λ (l : List Item). (j : ℕ) (y : Item) → slice_get l j ≡ Some y → IsPlaced start next.history y) c worker x kept.acts
        (λ same. each_more (λ (j : ℕ) (y : Item). IsPlaced start next.history y) (calls_by c kept) x (still c) here) (λ apart. still c);
  }

pub begins : (plan : Plan) → IsHistory plan (opened plan)
begins plan = record { contents = refl; marked = λ c. refl; places = λ c j x at. absurd (none-some x at) }

made_step : (plan : Plan) (kept : Account) (worker : ℕ) (made : Made) → IsHistory plan kept → IsHistory plan (with_made worker made kept)
made_step plan kept worker (Shared x) now = call_history plan kept worker x now
made_step plan kept worker (Entered object entry) now = record {
  contents = now.contents;
  marked = λ c. ap (marked_in c) (calls_behind c worker object (entered worker object entry kept) kept.acts) ∙ now.marked c;
  places = λ c j x at. now.places c j x (ap (λ (l : List Item). slice_get l j) (sym (calls_behind c worker object (entered worker object entry kept) kept.acts)) ∙ at);
}

pub step : (plan : Plan) (kept : Account) (act : Act) → IsHistory plan kept → IsHistory plan (with_act kept act)
step plan kept act now = made_step plan kept act.worker act.made now
