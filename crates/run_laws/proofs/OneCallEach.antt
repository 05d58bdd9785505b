-- A history of callers that each make at most one call on a map or an atomic, and know of none before it.
use Rattle.std.proofs.Common.{◌≡◌, ℕ, ◌≤◌, Bool, true, false, List, length, Some, slice_get, slice_index, sym, ap, ◌∙◌, arith}
use Rattle.std.proofs.lemmas.Bool.{false≢true}
use Rattle.sync_model.specs.declared.item.Item.{Item}
use Rattle.sync_model.specs.declared.item.SharedCall.{SharedCall}
use Rattle.sync_model.specs.declared.item.SharedCall.TheVariants as shared
use Rattle.sync_model.specs.declared.item.SharedEntry.{SharedEntry}
use Rattle.sync_model.specs.SharedCalls.{IsSound, Lawful}
use Rattle.sync_model.specs.SharedHistory.{Contents, contents_at, IsReply, is_entry, IsLegal, entries_by, marked_in}
use Rattle.run_laws.specs.Examples.{none_known}
use Rattle.run_laws.proofs.SmallRecords.{none_at}

-- whether it is a cursor's
abbrev pub is_cursors : SharedCall → Bool
is_cursors (shared.Map m call) = false
is_cursors (shared.Begin m) = true
is_cursors (shared.Next begin) = true
is_cursors (shared.Atomic a call) = false

-- what has to be seen of a call
pub record IsFirst (start : Contents) (history : List SharedEntry) (j : ℕ) (x : Item) : Type 0 where
  pub alone : j ≡ 0
  pub knows : x.front ≡ none_known
  pub plain : is_cursors x.call ≡ false
  pub place : x.place ≤ length history
  pub reply : IsReply x.call x.reply (contents_at start history x.place)
  pub entry : x.entry ≡ is_entry x.call (contents_at start history x.place)

module _ (start : Contents) (history : List SharedEntry) (calls : ℕ → List Item) (first : (c j : ℕ) (x : Item) → slice_get (calls c) j ≡ Some x → IsFirst start history j x) where
  none_before : (c j other : ℕ) (x : Item) → slice_get (calls c) j ≡ Some x → slice_index x.front other ≡ 0
  none_before c j other x at = ap (λ (l : List ℕ). slice_index l other) (first c j x at).knows ∙ none_at other

  sound : (c j : ℕ) (x : Item) → slice_get (calls c) j ≡ Some x → IsSound start history calls c j x
  sound c j x at = record {
    place = (first c j x at).place;
    reply = (first c j x at).reply;
    entry = (first c j x at).entry;
    knows = record {
      made = λ d. omega (arith, none_before c j d x at);
      within = λ d i y before is. absurd (omega (arith, before, none_before c j d x at));
    };
    own = none_before c j c x at ∙ sym (first c j x at).alone;
    begun = λ b is. absurd (false≢true (sym (first c j x at).plain ∙ ap is_cursors is));
  }

  pub one_each : IsLegal start history → ((c : ℕ) → marked_in c (calls c) ≡ entries_by c history) → Lawful start history calls
  one_each legal marked = record {
    legal = legal;
    marked = marked;
    sound = sound;
    rises = λ c i j x y before at_x at_y. absurd (omega (arith, before, (first c i x at_x).alone, (first c j y at_y).alone));
    ranges = λ c b m x at is. absurd (false≢true (sym (first c b x at).plain ∙ ap is_cursors is));
  }
