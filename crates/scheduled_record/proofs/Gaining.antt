-- A text that is made piece by piece within a limit.
use Rattle.std.proofs.Common.{◌≡◌, ℕ, ◌+◌, ◌<◌, ◌≤◌, Bool, true, false, ◌&&◌, nat_le, List, [], ◌∷◌, ◌++◌, length, drop, get_or, add-one, refl, sym, ap, ◌∙◌, arith, append_assoc, append-nil, length-append, le-leb, leb-true}
use Rattle.std.proofs.Math.Seq.{drop-cons}
use Rattle.std.proofs.lemmas.Bool.{false≢true}
use Rattle.record_text.specs.declared.limits.TheConstants.{MAX_RECORD}
use Rattle.scheduled_record.specs.Pushed.{Gains, has_place}

-- ---- what fits

fits : (text piece : List ℕ) → length text + length piece ≤ MAX_RECORD → nat_le (length text + length piece) MAX_RECORD ≡ true
fits text piece le = le-leb (length text + length piece) MAX_RECORD le

pub and_true : (a b : Bool) → (a && b) ≡ true → (a ≡ true) × (b ≡ true)
and_true true b e = (refl, e)
and_true false b e = absurd (false≢true e)

pub and_false : (a b : Bool) → b ≡ false → (a && b) ≡ false
and_false true b e = e
and_false false b e = refl

pub not_true : (b : Bool) → (b ≡ true → ⊥) → b ≡ false
not_true true h = absurd (h refl)
not_true false h = refl

-- a piece that has a place: both together keep the limit, and the lines are short
pub placed : (text piece : List ℕ) (short : Bool) → has_place text piece short ≡ true → (length text + length piece ≤ MAX_RECORD) × (short ≡ true)
placed text piece short e =
    let both = and_true (nat_le (length text + length piece) MAX_RECORD) short e in
    (leb-true (length text + length piece) MAX_RECORD both.0, both.1)

pub has_place_where : (text piece : List ℕ) (short : Bool) → length text + length piece ≤ MAX_RECORD → short ≡ true → has_place text piece short ≡ true
has_place_where text piece short le is = ap (λ b. b && short) (fits text piece le) ∙ is

-- ---- two pieces

-- behind a piece that fits, the next one fits there exactly where both fit
together : (old mid piece next : List ℕ) (short more : Bool) → has_place old piece short ≡ true → mid ≡ old ++ piece → has_place mid next more ≡ has_place old (piece ++ next) (short && more)
together old mid piece next short more here is =
    let long : length mid + length next ≡ length old + length (piece ++ next) = omega (arith, ap length is, length-append old piece, length-append piece next) in
    let both = placed old piece short here in
    ap (λ n. nat_le n MAX_RECORD && more) long ∙ ap (λ b. nat_le (length old + length (piece ++ next)) MAX_RECORD && (b && more)) (sym both.1)

pub gains_both : (old mid new piece next : List ℕ) (short more all : Bool) → Gains old mid piece short true → Gains mid new next more all → Gains old new (piece ++ next) (short && more) all
gains_both old mid new piece next short more all first second =
    let mid_is : mid ≡ old ++ piece = first.gained refl in
    record {
      is = second.is ∙ together old mid piece next short more (sym first.is) mid_is;
      gained = λ yes. second.gained yes ∙ ap (λ t. t ++ next) mid_is ∙ append_assoc old piece next;
    }

-- ---- many

-- one more of a list
pub item_at : {X : Type 0} (xs : List X) (i : ℕ) (d : X) → i < length xs → drop i xs ≡ get_or xs i d ∷ drop (i + 1) xs
item_at xs i d below = drop-cons xs i d below ∙ ap (λ (n : ℕ). get_or xs i d ∷ drop n xs) (sym (add-one i))

pub item_next : {X : Type 0} (xs : List X) (i : ℕ) (x : X) → i < length xs → x ≡ get_or xs i x → drop i xs ≡ x ∷ drop (i + 1) xs
item_next {X} xs i x below is = item_at xs i x below ∙ ap (λ (y : X). y ∷ drop (i + 1) xs) (sym is)

-- of a whole text this is left, with its lines short or not; what was made so far keeps the limit
pub record Going (old now whole left : List ℕ) (all rest : Bool) : Type 0 where
  pub text : now ++ left ≡ old ++ whole
  pub short : all ≡ rest
  pub kept : length now ≤ MAX_RECORD

-- a piece that doesn't fit
pub goes_wrong : (old now new whole left piece after other : List ℕ) (all rest short more fits : Bool) → fits ≡ false → left ≡ piece ++ after → rest ≡ (short && more) → Gains now new piece short fits → Going old now whole left all rest → Gains old other whole all false
goes_wrong old now new whole left piece after other all rest short more fits no_ cut is gains goes = record {
  is = sym (not_true _ (λ yes.
      let both = placed old whole all yes in
      let long : length now + length (piece ++ after) ≡ length old + length whole = omega (arith, ap length (ap (λ t. now ++ t) (sym cut) ∙ goes.text), length-append now (piece ++ after), length-append old whole) in
      let fit : length now + length piece ≤ MAX_RECORD = omega (arith, both.0, long, length-append piece after) in
      let shorts : (short && more) ≡ true = sym is ∙ sym goes.short ∙ both.1 in
      false≢true (sym no_ ∙ gains.is ∙ has_place_where now piece short fit (and_true short more shorts).0)));
  gained = λ yes. absurd (false≢true yes);
}

-- nothing is left
pub goes_end : (old now whole left : List ℕ) (all rest : Bool) → left ≡ [] → rest ≡ true → Going old now whole left all rest → Gains old now whole all true
goes_end old now whole left all rest none is goes =
    let now_is : now ≡ old ++ whole = sym (append-nil now) ∙ ap (λ t. now ++ t) (sym none) ∙ goes.text in
    record {
      is = sym (has_place_where old whole all (omega (arith, goes.kept, ap length now_is, length-append old whole)) (goes.short ∙ is));
      gained = λ yes. now_is;
    }

-- what fits keeps the limit
pub keeps_limit : (old new piece : List ℕ) (short : Bool) → Gains old new piece short true → length new ≤ MAX_RECORD
keeps_limit old new piece short gains =
    let both = placed old piece short (sym gains.is) in
    omega (arith, both.0, ap length (gains.gained refl), length-append old piece)
