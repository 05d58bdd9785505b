-- What a turn hands on and takes in, by one of its items; and a last edge by one channel.
use Rattle.std.proofs.Common.{◌≡◌, ◌⊎◌, inl, inr, ℕ, ◌<◌, Bool, true, false, ◌==◌, ◌&&◌, ◌||◌, List, [], ◌∷◌, ◌++◌, Some, slice_get, refl, sym, ap, ◌∙◌, append_assoc}
use Rattle.std.proofs.lemmas.Bool.{false≢true, or_cases, and_from, eq-eqb}
use Rattle.std.proofs.lemmas.List.{append-nil}
use Rattle.std.proofs.Math.Bool.{or-true}
use Rattle.workload.specs.Plan.{Plan}
use Rattle.step_runner.specs.declared.trace.TraceItem.{TraceItem}
use Rattle.step_runner.specs.declared.turns.item.Deed.{Deed}
use Rattle.step_runner.specs.declared.turns.item.Item.{Item}
use Rattle.race_clocks.specs.Channels.{Channel, gives, takes, is_replaced, some_item, hands_on, takes_in, sets}
use Rattle.race_clocks.specs.HappensBefore.{done_before, Before}
use Rattle.race_clocks.specs.Rows.{item, Makes, earlier_of}
use Rattle.race_clocks.proofs.Order.{handed_before}

-- the item on the object, of which a test is so
pub here : (place : ℕ) (b : Bool) → b ≡ true → ((place == place) && b) ≡ true
here place b is = and_from (place == place) b (eq-eqb place place refl) is

module _ (test : List Item → Item → Bool) where
  pub some_at : (earlier front : List Item) (it : Item) (back : List Item) → test (earlier ++ front) it ≡ true → some_item test earlier (front ++ it ∷ back) ≡ true
  some_at earlier [] it back is = ap (λ b. b || some_item test (earlier ++ it ∷ []) back) (ap (λ xs. test xs it) (sym (append-nil earlier)) ∙ is)
  some_at earlier (x ∷ front) it back is = ap (λ b. test earlier x || b) (some_at (earlier ++ x ∷ []) front it back (ap (λ xs. test xs it) (append_assoc earlier (x ∷ []) front) ∙ is)) ∙ or-true (test earlier x)

  -- and the item that passes
  pub record Found (earlier made : List Item) : Type 0 where
    pub front : List Item
    pub it : Item
    pub back : List Item
    pub is_made : made ≡ front ++ it ∷ back
    pub passes : test (earlier ++ front) it ≡ true

  pub found : (earlier made : List Item) → some_item test earlier made ≡ true → Found earlier made
  found earlier [] is = absurd (false≢true is)
  found earlier (x ∷ made) is = by (found (earlier ++ x ∷ []) made) (or_cases (test earlier x) (some_item test (earlier ++ x ∷ []) made) is) where
    further : Found (earlier ++ x ∷ []) made → Found earlier (x ∷ made)
    further f = record { front = x ∷ f.front; it = f.it; back = f.back; is_made = ap (λ xs. x ∷ xs) f.is_made; passes = ap (λ xs. test xs f.it) (sym (append_assoc earlier (x ∷ []) f.front)) ∙ f.passes }

    by : (some_item test (earlier ++ x ∷ []) made ≡ true → Found (earlier ++ x ∷ []) made) → (test earlier x ≡ true) ⊎ (some_item test (earlier ++ x ∷ []) made ≡ true) → Found earlier (x ∷ made)
    by rest (inl e) = record { front = []; it = x; back = made; is_made = refl; passes = ap (λ xs. test xs x) (append-nil earlier) ∙ e }
    by rest (inr e) = further (rest e)

module _ (plan : Plan) (trace : List TraceItem) where
  module _ (i place caller : ℕ) (deed : Deed) (m : Makes trace i place caller deed) (channel : Channel) where
    pub hands_at : gives plan (earlier_of trace i place caller deed m) (item place caller deed) channel ≡ true → hands_on plan (done_before trace i) m.turn channel ≡ true
    hands_at is = ap (λ made. some_item (λ before it. gives plan before it channel) (done_before trace i) made) m.made ∙ some_at (λ before it. gives plan before it channel) (done_before trace i) m.front (item place caller deed) m.back is

    pub takes_at : takes plan (earlier_of trace i place caller deed m) (item place caller deed) m.turn.call channel ≡ true → takes_in plan (done_before trace i) m.turn channel ≡ true
    takes_at is = ap (λ made. some_item (λ before it. takes plan before it m.turn.call channel) (done_before trace i) made) m.made ∙ some_at (λ before it. takes plan before it m.turn.call channel) (done_before trace i) m.front (item place caller deed) m.back is

  -- no turn between sets the channel
  abbrev pub Kept : Channel → ℕ → ℕ → Type 0
  Kept channel i j = (k : ℕ) (x : TraceItem) → i < k → k < j → slice_get trace k ≡ Some x → sets plan (done_before trace k) x channel ≡ false

  -- a channel that is not replaced is kept
  pub not_replaced : (channel : Channel) (i j : ℕ) → is_replaced channel ≡ false → Kept channel i j
  not_replaced channel i j not = λ k x after before at. ap (λ b. b && hands_on plan (done_before trace k) x channel) not

  module _ (i j o w p v : ℕ) (d e : Deed) (earlier : i < j) (one : Makes trace i o w d) (two : Makes trace j p v e) (channel : Channel) where
    pub met : Kept channel i j → gives plan (earlier_of trace i o w d one) (item o w d) channel ≡ true → takes plan (earlier_of trace j p v e two) (item p v e) two.turn.call channel ≡ true → Before plan trace i j
    met kept give take = handed_before plan trace channel i j (record {
      taker = two.turn;
      at = two.at;
      takes = takes_at j p v e two channel take;
      stands = record { giver = one.turn; at = one.at; earlier = earlier; gives = hands_at i o w d one channel give; kept = kept };
    })
