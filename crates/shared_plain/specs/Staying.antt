-- A cursor stands as it stood after any other call of its caller.
use Rattle.std.specs.Prelude.{◌≡◌, ◌≢◌, ℕ, zero, suc, Bool, true, false, ◌==◌, cond, List, [], ◌∷◌, ◌++◌, Some, slice_get}
use mathlib.Core.Path.{refl, ap, ◌∙◌}
use Rattle.sync_model.specs.declared.item.SharedCall.{SharedCall}
use Rattle.sync_model.specs.declared.item.SharedCall.TheVariants.{Map, Begin, Next, Atomic}
use Rattle.sync_model.specs.declared.item.SharedReply.{SharedReply}
use Rattle.sync_model.specs.declared.item.Item.{Item}
use Rattle.shared_plain.specs.declared.cursor.Cursor.{Cursor}
use Rattle.shared_plain.specs.declared.plain.Plain.{Plain}
use Rattle.shared_plain.specs.CursorsStand.{Stands}
use Rattle.shared_plain.specs.Walks.{spot_shown, spot_next, spot_from, spot_of}
use Rattle.std.proofs.Common.{eqb-true}

within : {A : Type 0} (xs ys : List A) (i : ℕ) (x : A) → slice_get xs i ≡ Some x → slice_get (xs ++ ys) i ≡ Some x
within [] ys i x is = (cc)
within (y ∷ xs) ys zero x is = is
within (y ∷ xs) ys (suc i) x is = within xs ys i x is

pub spot_one_more : (b spot : ℕ) (xs : List Item) (x : Item) → spot_from b spot (xs ++ x ∷ []) ≡ spot_next b x.call x.reply (spot_from b spot xs)
spot_one_more b spot [] x = refl
spot_one_more b spot (y ∷ ys) x = spot_one_more b (spot_next b y.call y.reply spot) ys x

module _ (b spot : ℕ) (reply : SharedReply) where
  by_number : (d : ℕ) → (d ≢ b) → (e : Bool) → (d == b) ≡ e → cond e (spot_shown reply spot) spot ≡ spot
  by_number d other true is = absurd (other (eqb-true d b is))
  by_number d other false is = refl

  -- another call doesn't move it
  pub stands_still : (call : SharedCall) → call ≢ Next b → spot_next b call reply spot ≡ spot
  stands_still (Map m call) other = refl
  stands_still (Begin m) other = refl
  stands_still (Next d) other = by_number d (λ is. other (ap (λ (k : ℕ). Next k) is)) (d == b) refl
  stands_still (Atomic a call) other = refl

pub stays : (plain : Plain) (cursor : Cursor) (m b : ℕ) (items : List Item) (item : Item) → item.call ≢ Next b → Stands plain cursor m b items → Stands plain cursor m b (items ++ item ∷ [])
stays plain cursor m b items item other stands = record {
  is_map = stands.is_map;
  is_begin = stands.is_begin;
  there = stands.there;
  at = record {
    begin = stands.at.begin;
    at = within items (item ∷ []) b stands.at.begin stands.at.at;
    call = stands.at.call;
    spot = spot_one_more b 0 items item ∙ (stands_still b (spot_of b items) item.reply item.call other ∙ stands.at.spot);
  };
}
