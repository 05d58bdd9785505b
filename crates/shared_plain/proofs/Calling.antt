-- One entry more of a journal is one shared call more of its caller.
use Rattle.std.proofs.Common.{◌≡◌, ℕ, zero, suc, ◌+◌, ◌<◌, ◌≤◌, Bool, true, false, cond, eqb, eq-eqb, List, [], ◌∷◌, ◌++◌, length, length-append, take, slice_get, Option, Some, None, refl, sym, ap, ◌∙◌, subst, append_assoc, arith}
use Rattle.std.proofs.lemmas.List.{append_cancel_right}
use Rattle.std.specs.Prelude.{IsSome}
use Rattle.ruled_object.specs.Notes.{held_by}
use Rattle.shared_plain.specs.declared.mark.Mark.{Mark}
use Rattle.shared_plain.specs.Marks.{holding, own_by}
use Rattle.sync_types.specs.declared.misuse.Misuse.{Misuse}
use Rattle.sync_model.specs.declared.journal.Deed.TheVariants.{Event as Did}
use Rattle.sync_model.specs.declared.item.Item.{Item}
use Rattle.sync_model.specs.Journal.{by, halt_next, halt_after, state_next, state_after, Right, Follows}
use Rattle.sync_model.specs.Shared.{CallerState, Called}
use Rattle.sync_model.specs.SharedCalls.{bound}
use Rattle.sync_model.specs.SharedHistory.{contents_after, contents_at, entry_of, IsReply, is_entry}
use Rattle.shared_plain.specs.declared.event.Event.{Event}
use Rattle.shared_plain.specs.declared.event.Answered.{Answered}
use Rattle.shared_plain.specs.Counting.{counted_by}
use Rattle.shared_plain.specs.PlainMachine.{Holdings, contents_of, call_of, next}
use Rattle.shared_plain.specs.PlainHistory.{Step, call_in, entered, history_of, front_of, item_at, listed, items_from, items_by, timed, times_by}
use Rattle.shared_plain.proofs.Histories.{Unseen, a_call, is_history}
use Rattle.shared_plain.proofs.Items.{Made, history-append, items-append, marks}
use Rattle.shared_plain.proofs.Numbers.{times-append, kept_times}
use Rattle.shared_plain.proofs.Passing.{by-append, rises, kept_items, take_front}

-- the last entry of a journal is right after those before it
pub record Last (halts : Bool) (s : Holdings) (h : Option Misuse) (front : List Step) (x : Step) : Type 0 where
  pub before : Follows next halts s h front
  pub right : Right next halts (state_after next s front) (halt_after h front) x.caller x.deed

pub last_right : (halts : Bool) (s : Holdings) (h : Option Misuse) (front : List Step) (x : Step) → Follows next halts s h (front ++ x ∷ []) → Last halts s h front x
last_right halts s h [] x follows = record { before = tt; right = follows.0 }
last_right halts s h (y ∷ ys) x follows =
    let rest = last_right halts (state_next next s y.caller y.deed) (halt_next h y.deed) ys x follows.1 in record { before = (follows.0, rest.before); right = rest.right }

at_length : {A : Type 0} (xs : List A) (x : A) (ys : List A) → slice_get (xs ++ x ∷ ys) (length xs) ≡ Some x
at_length [] x ys = refl
at_length (y ∷ zs) x ys = at_length zs x ys

module _ (n c : ℕ) where
  bounded_one : (before : List Step) (x : Step) (found : Option Made) (later : List Item) (whole : ℕ) → length (history_of before ++ entered x.caller found []) ≤ whole → ((j : ℕ) (y : Item) → slice_get later j ≡ Some y → bound y ≤ whole)
      → (j : ℕ) (y : Item) → slice_get (listed n c before x found later) j ≡ Some y → bound y ≤ whole
  bounded_one before x None later whole fits rest j y at_j = rest j y at_j
  bounded_one before x (Some did) later whole fits rest j y at_j = by_caller (eqb x.caller c) at_j
    where
      here : (e : Bool) → length (history_of before ++ cond e (record { caller = x.caller; call = did.0; reply = did.1.reply } ∷ []) []) ≤ whole → cond e (length (history_of before) + 1) (length (history_of before)) ≤ whole
      here true fits = omega (arith, length-append (history_of before) (record { caller = x.caller; call = did.0; reply = did.1.reply } ∷ []))
      here false fits = omega (arith, length-append (history_of before) [])

      first : (k : ℕ) → slice_get (item_at n before x.knew did ∷ later) k ≡ Some y → bound y ≤ whole
      first zero e = let same : item_at n before x.knew did ≡ y = (cc) in subst (λ (z : Item). bound z ≤ whole) same (here did.1.entry fits)
      first (suc k) e = rest k y e

      by_caller : (b : Bool) → slice_get (cond b (item_at n before x.knew did ∷ later) later) j ≡ Some y → bound y ≤ whole
      by_caller true e = first j e
      by_caller false e = rest j y e

  -- a caller's calls in a journal lie within its history
  pub bounded : (before xs : List Step) (j : ℕ) (y : Item) → slice_get (items_from n c before xs) j ≡ Some y → bound y ≤ length (history_of (before ++ xs))
  bounded before [] j y at_j = (cc)
  bounded before (x ∷ xs) j y at_j =
      let same : (before ++ x ∷ []) ++ xs ≡ before ++ (x ∷ xs) = append_assoc before (x ∷ []) xs in
      let all = ap (λ (l : List Step). length (history_of l)) same in
      let split = ap length (history-append (before ++ x ∷ []) xs) in
      let one = ap length (history-append before (x ∷ [])) in
      let whole : ℕ = length (history_of (before ++ (x ∷ xs))) in
      bounded_one before x (call_in x.deed) (items_from n c (before ++ x ∷ []) xs) whole (omega (arith, length-append (history_of (before ++ x ∷ [])) (history_of xs)))
      (λ k z at_k. subst (λ (l : List Step). bound z ≤ length (history_of l)) same (bounded (before ++ x ∷ []) xs k z at_k)) j y at_j

abbrev pub state_at : ℕ → ℕ → ℕ → ℕ → List Step → CallerState
state_at n c spare time seen = record { own = Some (record { number = c; items = items_by n c seen; times = times_by c seen; spare = spare }); front = front_of n seen; time = time; seen = history_of seen }

-- the entry of a journal that a caller made
pub record Adds (start : Holdings) (c : ℕ) (event : Event) (answered : Answered) (seen between : List Step) (e : Step) : Type 0 where
  pub caller : e.caller ≡ c
  pub knew : e.knew ≡ length seen
  pub deed : e.deed ≡ Did event (Some answered)
  pub same : by c (seen ++ between) ≡ by c seen
  pub follows : Follows next false start None ((seen ++ between) ++ e ∷ [])

pub called : Unseen → (start : Holdings) (n c : ℕ) (event : Event) (answered : Answered) (seen between : List Step) (e : Step) (spare left time cost : ℕ) → c < n → left + cost ≡ spare → time < e.time → Adds start c event answered seen between e
    → Called (contents_of start) (call_of event) answered.reply cost (state_at n c spare time seen) (state_at n c left e.time ((seen ++ between) ++ e ∷ []))
called unseen start n c event answered seen between e spare left time cost below spent later adds =
    let front : List Step = seen ++ between in
    let whole : List Step = front ++ e ∷ [] in
    let made : Made = (call_of event, answered) in
    let item : Item = record { call = call_of event; reply = answered.reply; place = length (history_of front); entry = answered.entry; front = front_of n seen } in
    let did : call_in e.deed ≡ Some made = ap call_in adds.deed in
    let last = last_right false start None front e adds.follows in
    let before = is_history unseen false start None front last.before in
    let all = is_history unseen false start None whole adds.follows in
    let was = a_call (state_after next start front) e.caller false (halt_after None front) e.deed made did last.right in
    let history : history_of whole ≡ history_of front ++ entered c (Some made) [] = history-append front (e ∷ []) ∙ (λ i. history_of front ++ entered (adds.caller i) (did i) []) in
    let longer : history_of front ≡ history_of seen ++ history_of between = history-append seen between in
    let known : take e.knew front ≡ seen = ap (λ (k : ℕ). take k front) adds.knew ∙ take_front seen between in
    let items : items_by n c whole ≡ items_by n c seen ++ item ∷ [] =
    items-append n c [] front (e ∷ []) ∙ ((λ i. items_by n c front ++ listed n c front e (did i) []) ∙ (ap (λ (b : Bool). items_by n c front ++ cond b (item_at n front e.knew made ∷ []) []) (eq-eqb e.caller c adds.caller)
    ∙ ((λ i. kept_items n c seen front (between, refl) adds.same i ++ record { call = call_of event; reply = answered.reply; place = length (history_of front); entry = answered.entry; front = front_of n (known i) } ∷ [])))) in
    let times : times_by c whole ≡ times_by c seen ++ e.time ∷ [] =
    times-append c front (e ∷ []) ∙ ((λ i. times_by c front ++ timed c e (did i) []) ∙ (ap (λ (b : Bool). times_by c front ++ cond b (e.time ∷ []) []) (eq-eqb e.caller c adds.caller)
    ∙ ap (λ l. l ++ e.time ∷ []) (kept_times c seen front (between, refl) adds.same))) in
    let at_place : contents_at (contents_of start) (history_of whole) (length (history_of front)) ≡ contents_of (state_after next start front) =
    ap (λ l. contents_after (contents_of start) (take (length (history_of front)) l)) history ∙ (ap (contents_after (contents_of start)) (take_front (history_of front) (entered c (Some made) [])) ∙ sym before.contents) in
    let one = ap length history in let two = ap length longer in record {
      was = record { number = c; items = items_by n c seen; times = times_by c seen; spare = spare };
      becomes = record { number = c; items = items_by n c whole; times = times_by c whole; spare = left };
      item = item;
      own_old = refl;
      own_new = refl;
      number = refl;
      items = items;
      spare = spent;
      is_call = refl;
      is_reply = refl;
      is_front = refl;
      counted = counted_by n c whole below;
      time = e.time;
      times = times;
      past = later;
      reached = omega arith;
      rises = rises n seen whole (between ++ e ∷ [], append_assoc seen between (e ∷ []));
      begins = (history_of between ++ entered c (Some made) [], history ∙ (ap (λ l. l ++ entered c (Some made) []) longer ∙ append_assoc (history_of seen) (history_of between) (entered c (Some made) [])));
      from = omega (arith, length-append (history_of seen) (history_of between));
      to = omega (arith, length-append (history_of front) (entered c (Some made) []));
      after = λ j x at_j. let inside = bounded n c [] seen j x at_j in omega (arith, length-append (history_of seen) (history_of between));
      legal = all.legal;
      answer = subst (λ s. IsReply (call_of event) answered.reply s) (sym at_place) was.reply;
      entry = was.entry ∙ ap (is_entry (call_of event)) (sym at_place);
      marked = λ is. ap (λ l. slice_get l (length (history_of front))) (history ∙ ap (λ (b : Bool). history_of front ++ cond b (entry_of c item ∷ []) []) is) ∙ at_length (history_of front) (entry_of c item) [];
      mine = marks n c [] whole;
    }

-- a caller has seen of itself, up to its new entry, what it had seen
pub adds_same : (c : ℕ) (seen between : List Step) (e : Step) (own_new own_old : List Step) → own_new ≡ own_old ++ e ∷ [] → own_new ≡ by c ((seen ++ between) ++ e ∷ []) → e.caller ≡ c → own_old ≡ by c seen → by c (seen ++ between) ≡ by c seen
adds_same c seen between e own_new own_old mine all caller had =
    let one : by c ((seen ++ between) ++ e ∷ []) ≡ by c (seen ++ between) ++ e ∷ [] = by-append c (seen ++ between) (e ∷ []) ∙ ap (λ (b : Bool). by c (seen ++ between) ++ cond b (e ∷ []) []) (eq-eqb e.caller c caller) in
    append_cancel_right (by c (seen ++ between)) own_old (e ∷ []) (sym one ∙ (sym all ∙ mine)) ∙ had

-- a note that is somebody's holds entries
pub held_there : (mark : Mark) → IsSome (own_by mark) → (own : List Step) × (held_by mark.pass ≡ Some own)
held_there mark some_own = by_held (held_by mark.pass) refl some_own
  where
    by_held : (found : Option (List Step)) → held_by mark.pass ≡ found → IsSome (holding mark found) → (own : List Step) × (held_by mark.pass ≡ Some own)
    by_held None is none = (cc)
    by_held (Some own) is there = (own, is)

pub unanswered : (r : Option Answered) (a : Answered) → None ≡ r → r ≡ Some a → ⊥
unanswered r a none is = let e : None ≡ Some a = none ∙ is in (cc)
