-- The law of a shared history and of its callers goes on, call by call, with where the cursors stand.
use Rattle.std.proofs.Common.{◌≡◌, ◌≢◌, ℕ, zero, suc, ◌+◌, ◌<◌, ◌≤◌, ◌⊎◌, inl, inr, Bool, true, false, cond, eqb, eq-eqb, List, [], ◌∷◌, ◌++◌, length, length-append, slice_get, Option, Some, None, refl, sym, ap, ◌∙◌, subst, le_refl, arith}
use Rattle.std.proofs.lemmas.List.{append-nil}
use Rattle.std.proofs.lemmas.Option.{slice_get_within}
use Rattle.std.proofs.lemmas.Bool.{cases_lt, eqb-true}
use mathlib.Core.Logic.{dite}
use native.Mathlib.Decide.{ℕ_discrete}
use Rattle.sync_model.specs.declared.item.SharedCall.{SharedCall}
use Rattle.sync_model.specs.declared.item.SharedCall.TheVariants.{Map, Begin, Next, Atomic}
use Rattle.sync_model.specs.declared.item.SharedReply.{SharedReply}
use Rattle.sync_model.specs.declared.item.SharedReply.TheVariants as replies
use Rattle.sync_model.specs.declared.item.SharedEntry.{SharedEntry}
use Rattle.sync_model.specs.declared.item.Item.{Item}
use Rattle.sync_model.specs.Front.{AtLeast}
use Rattle.sync_model.specs.SharedHistory.{Contents, value_at, contents_at, entry_of, history_with}
use Rattle.sync_model.specs.SharedCalls.{Knows, Grows, IsStep, IsUnshown, WasSo, MayShow, IsSound, Lawful, MayCall, AddsCall}
use Rattle.shared_plain.specs.Staying.{spot_one_more}
use Rattle.shared_plain.specs.Walks.{spot_shown, spot_next, spot_of, StandsAt}
use Rattle.shared_plain.proofs.FirstCallers.{within, at_last}
use Rattle.shared_plain.proofs.Steps.{some_is}

-- the laws of shared histories on which this stands
pub record Laws : Type 0 where
  pub first : (start : Contents) → Lawful start [] (λ caller. [])
  pub more : (start : Contents) (history : List SharedEntry) (calls new : ℕ → List Item) (c : ℕ) (x : Item) → AddsCall calls c x new → Lawful start history calls → MayCall start history calls c x → Lawful start (history_with history c x) new
  pub same : (start : Contents) (history : List SharedEntry) (calls other : ℕ → List Item) → ((c : ℕ) → other c ≡ calls c) → Lawful start history calls → Lawful start history other
  pub grows : (calls new : ℕ → List Item) (c : ℕ) (x : Item) → AddsCall calls c x new → Grows calls new
  pub known : (calls new : ℕ → List Item) (front : List ℕ) (n m : ℕ) → Grows calls new → n ≤ m → Knows calls front n → Knows new front m
  pub was_so : (calls new : ℕ → List Item) (start : Contents) (history later : List SharedEntry) (front : List ℕ) (reach m key : ℕ) (value : Option ℕ)
      → Grows calls new → reach ≤ length history → WasSo start history calls front reach m key value → WasSo start (history ++ later) new front reach m key value

-- a step of the cursor that call number b began showed this key
pub record IsShown (items : List Item) (b key : ℕ) : Type 0 where
  pub number : ℕ
  pub item : Item
  pub value : ℕ
  pub is : IsStep items b number item (Some (key, value))

module _ (start : Contents) (history : List SharedEntry) (calls : ℕ → List Item) where
  -- the law holds, and a cursor has passed a key only if it showed it or the key was absent at some moment
  pub record Walks : Type 0 where
    pub lawful : Lawful start history calls
    pub below : (c b j key value : ℕ) (x : Item) → IsStep (calls c) b j x (Some (key, value)) → key < spot_of b (calls c)
    pub passed : (c b m key : ℕ) (y : Item) → slice_get (calls c) b ≡ Some y → y.call ≡ Begin m → key < spot_of b (calls c) → IsShown (calls c) b key ⊎ WasSo start history calls y.front (length history) m key None

  -- a step of a cursor asks from where the cursor stands, and shows the least key from there on
  pub record Steps (c : ℕ) (x : Item) (b : ℕ) : Type 0 where
    pub map : ℕ
    pub from : ℕ
    pub at : StandsAt (calls c) map b from
    pub shown : (key value : ℕ) → x.reply ≡ replies.Shown (Some (key, value)) → (from ≤ key) × (value_at (contents_at start history (length history)) map key ≡ Some value) × ((other : ℕ) → from ≤ other → other < key → value_at (contents_at start history (length history)) map other ≡ None)
    pub none : x.reply ≡ replies.Shown None → (key : ℕ) → from ≤ key → value_at (contents_at start history (length history)) map key ≡ None

  -- what the next call of caller c is
  pub record Goes (c : ℕ) (x : Item) : Type 0 where
    pub sound : IsSound start history calls c (length (calls c)) x
    pub place : x.place ≡ length history
    pub rises : (j : ℕ) (y : Item) → slice_get (calls c) j ≡ Some y → AtLeast x.front y.front
    pub steps : (b : ℕ) → x.call ≡ Next b → Steps c x b
    -- no call steps a cursor that isn't begun
    pub fresh : spot_of (length (calls c)) (calls c) ≡ 0

same_begin : (m n : ℕ) (one other : SharedCall) → one ≡ Begin m → other ≡ Begin n → one ≡ other → m ≡ n
same_begin m n one other is_m is_n same = let e : Begin m ≡ Begin n = sym is_m ∙ (same ∙ is_n) in (cc)

grows_self : (calls : ℕ → List Item) → Grows calls calls
grows_self calls c = ([], sym (append-nil (calls c)))

pub with_is : (history : List SharedEntry) (c : ℕ) (x : Item) → history_with history c x ≡ history ++ cond x.entry (entry_of c x ∷ []) []
with_is history c x = by_entry x.entry
  where
    by_entry : (b : Bool) → cond b (history ++ entry_of c x ∷ []) history ≡ history ++ cond b (entry_of c x ∷ []) []
    by_entry true = refl
    by_entry false = sym (append-nil history)

module _ (laws : Laws) (start : Contents) (history : List SharedEntry) (calls : ℕ → List Item) (walks : Walks start history calls) (c : ℕ) (x : Item) (goes : Goes start history calls c x) where
  -- what is so at the end of the history
  now_so : (d b m key : ℕ) (y : Item) (value : Option ℕ) → slice_get (calls d) b ≡ Some y → value_at (contents_at start history (length history)) m key ≡ value → WasSo start history calls y.front (length history) m key value
  now_so d b m key y value at is =
      let sound = walks.lawful.sound d b y at in record {
        moment = length history;
        knows = laws.known calls calls y.front y.place (length history) (grows_self calls) sound.place sound.knows;
        within = le_refl (length history);
        is = is;
      }

  -- the Range law's part of the next call
  shows : (b m : ℕ) (y : Item) (shown : Option (ℕ × ℕ)) → slice_get (calls c) b ≡ Some y → y.call ≡ Begin m → x.call ≡ Next b → x.reply ≡ replies.Shown shown → MayShow start history calls c b m y.front (length (calls c)) x.place shown
  shows b m y shown at is_begin is_next reply = by_shown shown reply
    where
      steps : Steps start history calls c x b
      steps = goes.steps b is_next

      is_map : steps.map ≡ m
      is_map = same_begin steps.map m steps.at.begin.call y.call steps.at.call is_begin (ap (λ (z : Item). z.call) (some_is steps.at.begin y (sym steps.at.at ∙ at)))

      reached : (key : ℕ) (value : Option ℕ) → WasSo start history calls y.front (length history) m key value → WasSo start history calls y.front x.place m key value
      reached key value so = subst (λ r. WasSo start history calls y.front r m key value) (sym goes.place) so

      unshown : (key : ℕ) → steps.from ≤ key → IsUnshown (calls c) b (length (calls c)) key
      unshown key least j z value early step = let less = walks.below c b j key value z step in let spot = steps.at.spot in omega arith

      absent : (key : ℕ) → IsUnshown (calls c) b (length (calls c)) key → IsShown (calls c) b key ⊎ WasSo start history calls y.front (length history) m key None → WasSo start history calls y.front x.place m key None
      absent key never (inl was) = absurd (never was.number was.item was.value (slice_get_within (calls c) was.number was.item was.is.at) was.is)
      absent key never (inr so) = reached key None so

      by_place : (key : ℕ) → x.reply ≡ replies.Shown None → IsUnshown (calls c) b (length (calls c)) key → (key < steps.from) ⊎ (steps.from ≤ key) → WasSo start history calls y.front x.place m key None
      by_place key reply never (inl less) = absent key never (walks.passed c b m key y at is_begin (subst (λ k. key < k) (sym steps.at.spot) less))
      by_place key reply never (inr least) = reached key None (now_so c b m key y None at (ap (λ k. value_at (contents_at start history (length history)) k key) (sym is_map) ∙ steps.none reply key least))

      by_shown : (shown : Option (ℕ × ℕ)) → x.reply ≡ replies.Shown shown → MayShow start history calls c b m y.front (length (calls c)) x.place shown
      by_shown (Some (key, value)) reply =
          let fact = steps.shown key value reply in
          (unshown key fact.0, reached key (Some value) (now_so c b m key y (Some value) at (ap (λ k. value_at (contents_at start history (length history)) k key) (sym is_map) ∙ fact.1)))
      by_shown None reply = λ key small never. by_place key reply never (cases_lt key steps.from)

  pub may_call : MayCall start history calls c x
  may_call = record { sound = goes.sound; last = λ _. goes.place; rises = goes.rises; shows = shows }

  -- a step moves its cursor on
  at_step : (b : ℕ) (found : Bool) → eqb b b ≡ found → (reply : SharedReply) (spot : ℕ) → cond found (spot_shown reply spot) spot ≡ spot_shown reply spot
  at_step b true is reply spot = refl
  at_step b false is reply spot = let f : true ≡ false = sym (eq-eqb b b refl) ∙ is in (cc)

  -- how one more call moves a cursor: it stays, or the call is its step and shows a key at which it stood or a greater one
  record Moves (b : ℕ) : Type 0 where
    key : ℕ
    value : ℕ
    call : x.call ≡ Next b
    reply : x.reply ≡ replies.Shown (Some (key, value))
    spot : spot_next b x.call x.reply (spot_of b (calls c)) ≡ key + 1

  moves : (b : ℕ) → (spot_next b x.call x.reply (spot_of b (calls c)) ≡ spot_of b (calls c)) ⊎ Moves b
  moves b = by_call x.call refl
    where
      spot : ℕ
      spot = spot_of b (calls c)

      by_reply : x.call ≡ Next b → (reply : SharedReply) → x.reply ≡ reply → (spot_next b x.call x.reply spot ≡ spot) ⊎ Moves b
      by_reply is (replies.Map r) reply = inl ((λ i. spot_next b (is i) (reply i) spot) ∙ at_step b (eqb b b) refl (replies.Map r) spot)
      by_reply is replies.Begun reply = inl ((λ i. spot_next b (is i) (reply i) spot) ∙ at_step b (eqb b b) refl replies.Begun spot)
      by_reply is (replies.Shown None) reply = inl ((λ i. spot_next b (is i) (reply i) spot) ∙ at_step b (eqb b b) refl (replies.Shown None) spot)
      by_reply is (replies.Shown (Some (key, value))) reply = inr (record { key = key; value = value; call = is; reply = reply; spot = (λ i. spot_next b (is i) (reply i) spot) ∙ at_step b (eqb b b) refl (replies.Shown (Some (key, value))) spot })
      by_reply is (replies.Atomic r) reply = inl ((λ i. spot_next b (is i) (reply i) spot) ∙ at_step b (eqb b b) refl (replies.Atomic r) spot)

      by_number : (d : ℕ) → x.call ≡ Next d → (e : Bool) → eqb d b ≡ e → (spot_next b x.call x.reply spot ≡ spot) ⊎ Moves b
      by_number d is true same = by_reply (is ∙ ap (λ (k : ℕ). Next k) (eqb-true d b same)) x.reply refl
      by_number d is false other = inl (ap (λ k. spot_next b k x.reply spot) is ∙ ap (λ (t : Bool). cond t (spot_shown x.reply spot) spot) other)

      by_call : (call : SharedCall) → x.call ≡ call → (spot_next b x.call x.reply spot ≡ spot) ⊎ Moves b
      by_call (Map m call) is = inl (ap (λ k. spot_next b k x.reply spot) is)
      by_call (Begin m) is = inl (ap (λ k. spot_next b k x.reply spot) is)
      by_call (Next d) is = by_number d is (eqb d b) refl
      by_call (Atomic a call) is = inl (ap (λ k. spot_next b k x.reply spot) is)

  -- where the cursor stands after the call
  moved_on : (b : ℕ) → spot_of b (calls c ++ x ∷ []) ≡ spot_next b x.call x.reply (spot_of b (calls c))
  moved_on b = spot_one_more b 0 (calls c) x

  forward : (b : ℕ) → spot_of b (calls c) ≤ spot_of b (calls c ++ x ∷ [])
  forward b = by_move (moves b)
    where
      by_move : (spot_next b x.call x.reply (spot_of b (calls c)) ≡ spot_of b (calls c)) ⊎ Moves b → spot_of b (calls c) ≤ spot_of b (calls c ++ x ∷ [])
      by_move (inl same) = let on = moved_on b in omega arith
      by_move (inr move) =
          let on = moved_on b in let steps = goes.steps b move.call in let least = (steps.shown move.key move.value move.reply).0 in let stood = steps.at.spot in let now = move.spot in omega arith

  -- item j of a list with one more
  split_at : (j : ℕ) (y : Item) → slice_get (calls c ++ x ∷ []) j ≡ Some y → (slice_get (calls c) j ≡ Some y) ⊎ ((j ≡ length (calls c)) × (x ≡ y))
  split_at j y at = go (calls c) j at
    where
      go : (items : List Item) (k : ℕ) → slice_get (items ++ x ∷ []) k ≡ Some y → (slice_get items k ≡ Some y) ⊎ ((k ≡ length items) × (x ≡ y))
      go [] zero e = inr (refl, some_is x y e)
      go [] (suc k) e = (cc)
      go (z ∷ zs) zero e = inl e
      go (z ∷ zs) (suc k) e = on (go zs k e)
        where
          on : (slice_get zs k ≡ Some y) ⊎ ((k ≡ length zs) × (x ≡ y)) → (slice_get zs k ≡ Some y) ⊎ ((suc k ≡ suc (length zs)) × (x ≡ y))
          on (inl there) = inl there
          on (inr last) = inr (ap suc last.0, last.1)

  shown_on : (b key : ℕ) → IsShown (calls c) b key → IsShown (calls c ++ x ∷ []) b key
  shown_on b key was = record { number = was.number; item = was.item; value = was.value; is = record { at = within (calls c) (x ∷ []) was.number was.item was.is.at; call = was.is.call; reply = was.is.reply } }

  below_mine : (b j key value : ℕ) (y : Item) → IsStep (calls c ++ x ∷ []) b j y (Some (key, value)) → key < spot_of b (calls c ++ x ∷ [])
  below_mine b j key value y step = by_place (split_at j y step.at)
    where
      last : x.call ≡ Next b → x.reply ≡ replies.Shown (Some (key, value)) → key < spot_of b (calls c ++ x ∷ [])
      last call reply =
          let spot = spot_of b (calls c) in
          let now : spot_next b x.call x.reply spot ≡ key + 1 = (λ i. spot_next b (call i) (reply i) spot) ∙ at_step b (eqb b b) refl (replies.Shown (Some (key, value))) spot in
          let on = moved_on b in omega arith

      by_place : (slice_get (calls c) j ≡ Some y) ⊎ ((j ≡ length (calls c)) × (x ≡ y)) → key < spot_of b (calls c ++ x ∷ [])
      by_place (inl there) = let less = walks.below c b j key value y (record { at = there; call = step.call; reply = step.reply }) in let on = forward b in omega arith
      by_place (inr end) = last (ap (λ (z : Item). z.call) end.1 ∙ step.call) (ap (λ (z : Item). z.reply) end.1 ∙ step.reply)

  passed_mine : (b m key : ℕ) (y : Item) → slice_get (calls c ++ x ∷ []) b ≡ Some y → y.call ≡ Begin m → key < spot_of b (calls c ++ x ∷ [])
      → IsShown (calls c ++ x ∷ []) b key ⊎ WasSo start history calls y.front (length history) m key None
  passed_mine b m key y at is_begin less = by_place (split_at b y at)
    where
      older : slice_get (calls c) b ≡ Some y → IsShown (calls c) b key ⊎ WasSo start history calls y.front (length history) m key None → IsShown (calls c ++ x ∷ []) b key ⊎ WasSo start history calls y.front (length history) m key None
      older there (inl was) = inl (shown_on b key was)
      older there (inr so) = inr so

      newer : slice_get (calls c) b ≡ Some y → (move : Moves b) → spot_of b (calls c) ≤ key → (e : Bool) → eqb key move.key ≡ e → IsShown (calls c ++ x ∷ []) b key ⊎ WasSo start history calls y.front (length history) m key None
      newer there move least true same =
          let k : move.key ≡ key = sym (eqb-true key move.key same) in
          inl (record { number = length (calls c); item = x; value = move.value; is = record { at = at_last (calls c) x; call = move.call; reply = move.reply ∙ ap (λ (z : ℕ). replies.Shown (Some (z, move.value))) k } })
      newer there move least false other =
          let steps = goes.steps b move.call in
          let fact = steps.shown move.key move.value move.reply in
          let is_map : steps.map ≡ m = same_begin steps.map m steps.at.begin.call y.call steps.at.call is_begin (ap (λ (z : Item). z.call) (some_is steps.at.begin y (sym steps.at.at ∙ there))) in
          let apart : key ≢ move.key = λ e. (let f : true ≡ false = sym (eq-eqb key move.key e) ∙ other in (cc)) in
          let on = moved_on b in let now = move.spot in let stood = steps.at.spot in
          inr (now_so c b m key y None there (ap (λ k. value_at (contents_at start history (length history)) k key) (sym is_map) ∙ fact.2 key (omega arith) (omega arith)))

      by_move : slice_get (calls c) b ≡ Some y → (spot_of b (calls c) ≤ key) → (spot_next b x.call x.reply (spot_of b (calls c)) ≡ spot_of b (calls c)) ⊎ Moves b → IsShown (calls c ++ x ∷ []) b key ⊎ WasSo start history calls y.front (length history) m key None
      by_move there least (inl same) = let on = moved_on b in absurd (omega arith)
      by_move there least (inr move) = newer there move least (eqb key move.key) refl

      by_spot : slice_get (calls c) b ≡ Some y → (key < spot_of b (calls c)) ⊎ (spot_of b (calls c) ≤ key) → IsShown (calls c ++ x ∷ []) b key ⊎ WasSo start history calls y.front (length history) m key None
      by_spot there (inl old) = older there (walks.passed c b m key y there is_begin old)
      by_spot there (inr least) = by_move there least (moves b)

      begun : b ≡ length (calls c) → x ≡ y → key < 0
      begun place same =
          let still : spot_next b x.call x.reply (spot_of b (calls c)) ≡ spot_of b (calls c) = ap (λ k. spot_next b k x.reply (spot_of b (calls c))) (ap (λ (z : Item). z.call) same ∙ is_begin) in
          let none : spot_of b (calls c) ≡ 0 = ap (λ k. spot_of k (calls c)) place ∙ goes.fresh in let on = moved_on b in omega arith

      by_place : (slice_get (calls c) b ≡ Some y) ⊎ ((b ≡ length (calls c)) × (x ≡ y)) → IsShown (calls c ++ x ∷ []) b key ⊎ WasSo start history calls y.front (length history) m key None
      by_place (inl there) = by_spot there (cases_lt key (spot_of b (calls c)))
      by_place (inr end) = absurd (let none = begun end.0 end.1 in omega arith)

  -- one more call
  pub walks_on : (new : ℕ → List Item) → AddsCall calls c x new → Walks start (history_with history c x) new
  walks_on new adds = record {
    lawful = laws.more start history calls new c x adds walks.lawful may_call;
    below = λ d b j key value y step. by_below d b j key value y step;
    passed = λ d b m key y at is_begin less. later d b m key y (dite (ℕ_discrete d c)
        (λ is. let mine : new d ≡ calls c ++ x ∷ [] = ap new is ∙ adds.mine in subst (λ l. IsShown l b key ⊎ WasSo start history calls y.front (length history) m key None) (sym mine) (passed_mine b m key y (ap (λ l. slice_get l b) (sym mine) ∙ at) is_begin (subst (λ l. key < spot_of b l) mine less)))
        (λ ne. let kept = adds.others d ne in subst (λ l. IsShown l b key ⊎ WasSo start history calls y.front (length history) m key None) (sym kept) (walks.passed d b m key y (ap (λ l. slice_get l b) (sym kept) ∙ at) is_begin (subst (λ l. key < spot_of b l) kept less))));
  }
    where
      by_below : (d b j key value : ℕ) (y : Item) → IsStep (new d) b j y (Some (key, value)) → key < spot_of b (new d)
      by_below d b j key value y step = dite (ℕ_discrete d c)
          (λ same. let mine : new d ≡ calls c ++ x ∷ [] = ap new same ∙ adds.mine in subst (λ l. key < spot_of b l) (sym mine) (below_mine b j key value y (subst (λ l. IsStep l b j y (Some (key, value))) mine step)))
          (λ ne. let kept = adds.others d ne in subst (λ l. key < spot_of b l) (sym kept) (walks.below d b j key value y (subst (λ l. IsStep l b j y (Some (key, value))) kept step)))

      longer : List SharedEntry
      longer = history ++ cond x.entry (entry_of c x ∷ []) []

      lasting : (m key : ℕ) (y : Item) → WasSo start history calls y.front (length history) m key None → WasSo start (history_with history c x) new y.front (length (history_with history c x)) m key None
      lasting m key y so =
          let kept = laws.was_so calls new start history (cond x.entry (entry_of c x ∷ []) []) y.front (length history) m key None (laws.grows calls new c x adds) (le_refl (length history)) so in
          let more = kept.within in
          subst (λ h. WasSo start h new y.front (length h) m key None) (sym (with_is history c x))
          (record { moment = kept.moment; knows = kept.knows; within = omega (arith, length-append history (cond x.entry (entry_of c x ∷ []) [])); is = kept.is })

      later : (d b m key : ℕ) (y : Item) → IsShown (new d) b key ⊎ WasSo start history calls y.front (length history) m key None → IsShown (new d) b key ⊎ WasSo start (history_with history c x) new y.front (length (history_with history c x)) m key None
      later d b m key y (inl was) = inl was
      later d b m key y (inr so) = inr (lasting m key y so)
