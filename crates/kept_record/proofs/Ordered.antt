-- The numbers of all that is made rise along each journal, along the history and along what each worker makes: each is how much was made before.
use Rattle.std.proofs.Common.{◌≡◌, ◌≢◌, ℕ, zero, suc, ◌+◌, ◌<◌, ◌≤◌, ◌==◌, Bool, true, false, cond, List, [], ◌∷◌, ◌++◌, length, Some, slice_get, refl, sym, ap, ◌∙◌, subst, arith}
use Rattle.std.proofs.lemmas.Bool.{eq-eqb, ne_eqb, false≢true}
use Rattle.std.proofs.lemmas.List.{length-append}
use Rattle.std.proofs.lemmas.Option.{none-some, same_Some, slice_get_within}
use Rattle.sync_model.specs.declared.item.Item.{Item}
use Rattle.sync_model.specs.declared.item.SharedEntry.{SharedEntry}
use Rattle.sync_model.specs.Journal.{TimesRise}
use Rattle.sync_model.specs.SharedHistory.{entry_of}
use Rattle.sync_model.specs.SharedOrder.{IsAmong, InOrder}
use Rattle.workload.specs.Plan.{Plan}
use Rattle.run_record.specs.declared.made.Made.{Made}
use Rattle.run_record.specs.declared.made.Made.TheVariants.{Shared, Entered}
use Rattle.run_record.specs.InOneOrder.{NumbersRise}
use Rattle.run_record.specs.Record.{ObjectEntry, shared_in}
use Rattle.kept_record.specs.Keeping.{Act, Account, made_by, entries_on, entered, placed, with_made, with_act, opened}
use Rattle.kept_record.proofs.History.{IsHistory, calls_by}
use Rattle.kept_record.proofs.Induction.{list_cases, calls_cases, calls_behind, journal_cases, journal_behind}
use Rattle.kept_record.proofs.ListLemmas.{each_more, pair_more}

-- the numbers rise from item to item, from the least one on, and stay below a number
abbrev pub RiseTo : ℕ → List Made → List ℕ → ℕ → Type 0
RiseTo least [] [] past = least ≤ past
RiseTo least [] (time ∷ times) past = ⊥
RiseTo least (Shared x ∷ list) [] past = ⊥
RiseTo least (Shared x ∷ list) (time ∷ times) past = (least ≤ time) × RiseTo (time + 1) list times past
RiseTo least (Entered object entry ∷ list) times past = (least ≤ entry.time) × RiseTo (entry.time + 1) list times past

pub numbers_rise : (least : ℕ) (list : List Made) (times : List ℕ) (past : ℕ) → RiseTo least list times past → NumbersRise least list times
numbers_rise least [] [] past rise = tt
numbers_rise least [] (time ∷ times) past rise = absurd rise
numbers_rise least (Shared x ∷ list) [] past rise = absurd rise
numbers_rise least (Shared x ∷ list) (time ∷ times) past rise = (rise.0, numbers_rise (time + 1) list times past rise.1)
numbers_rise least (Entered object entry ∷ list) times past rise = (rise.0, numbers_rise (entry.time + 1) list times past rise.1)

rise_on : (least : ℕ) (list : List Made) (times : List ℕ) (past more : ℕ) → past ≤ more → RiseTo least list times past → RiseTo least list times more
rise_on least [] [] past more less rise = omega (arith, less, rise)
rise_on least [] (time ∷ times) past more less rise = absurd rise
rise_on least (Shared x ∷ list) [] past more less rise = absurd rise
rise_on least (Shared x ∷ list) (time ∷ times) past more less rise = (rise.0, rise_on (time + 1) list times past more less rise.1)
rise_on least (Entered object entry ∷ list) times past more less rise = (rise.0, rise_on (entry.time + 1) list times past more less rise.1)

-- one item more, with the number that is past all others
call_last : (least : ℕ) (list : List Made) (times : List ℕ) (past : ℕ) (y : Item) → RiseTo least list times past → RiseTo least (list ++ Shared y ∷ []) (times ++ past ∷ []) (past + 1)
call_last least [] [] past y rise = (rise, omega arith)
call_last least [] (time ∷ times) past y rise = absurd rise
call_last least (Shared x ∷ list) [] past y rise = absurd rise
call_last least (Shared x ∷ list) (time ∷ times) past y rise = (rise.0, call_last (time + 1) list times past y rise.1)
call_last least (Entered object entry ∷ list) times past y rise = (rise.0, call_last (entry.time + 1) list times past y rise.1)

entry_last : (least : ℕ) (list : List Made) (times : List ℕ) (object : ℕ) (y : ObjectEntry) → RiseTo least list times y.time → RiseTo least (list ++ Entered object y ∷ []) times (y.time + 1)
entry_last least [] [] object y rise = (rise, omega arith)
entry_last least [] (time ∷ times) object y rise = absurd rise
entry_last least (Shared x ∷ list) [] object y rise = absurd rise
entry_last least (Shared x ∷ list) (time ∷ times) object y rise = (rise.0, entry_last (time + 1) list times object y rise.1)
entry_last least (Entered other entry ∷ list) times object y rise = (rise.0, entry_last (entry.time + 1) list times object y rise.1)

module _ {A : Type 0} where
  -- what stood there stands there still
  still_at : (xs : List A) (y : A) (i : ℕ) (x : A) → slice_get xs i ≡ Some x → slice_get (xs ++ y ∷ []) i ≡ Some x
  still_at [] y i x at = absurd (none-some x at)
  still_at (z ∷ xs) y zero x at = at
  still_at (z ∷ xs) y (suc i) x at = still_at xs y i x at

  last_at : (xs : List A) (y : A) → slice_get (xs ++ y ∷ []) (length xs) ≡ Some y
  last_at [] y = refl
  last_at (z ∷ xs) y = last_at xs y

-- of two lists that are as long as each other
both_more : (Q : Item → ℕ → Type 0) (xs : List Item) (times : List ℕ) (x : Item) (n : ℕ) → length times ≡ length xs → ((j time : ℕ) (y : Item) → slice_get xs j ≡ Some y → slice_get times j ≡ Some time → Q y time) → Q x n
    → (j time : ℕ) (y : Item) → slice_get (xs ++ x ∷ []) j ≡ Some y → slice_get (times ++ n ∷ []) j ≡ Some time → Q y time
both_more Q [] [] x n long each last zero time y at is = subst (λ (z : Item). Q z time) (same_Some x y at) (subst (Q x) (same_Some n time is) last)
both_more Q [] [] x n long each last (suc j) time y at is = absurd (none-some y at)
both_more Q [] (t ∷ times) x n long each last j time y at is = absurd (omega (arith, long))
both_more Q (z ∷ xs) [] x n long each last j time y at is = absurd (omega (arith, long))
both_more Q (z ∷ xs) (t ∷ times) x n long each last zero time y at is = each 0 time y at is
both_more Q (z ∷ xs) (t ∷ times) x n long each last (suc j) time y at is = both_more Q xs times x n (omega (arith, long)) (λ i t y at is. each (suc i) t y at is) last j time y at is

pub record IsOrdered (kept : Account) : Type 0 where
  pub before : (o i : ℕ) (x : ObjectEntry) → slice_get (entries_on o kept.acts) i ≡ Some x → x.time < length kept.acts
  pub journals : (o : ℕ) → TimesRise (entries_on o kept.acts)
  pub entry_times : List ℕ
  pub times : ℕ → List ℕ
  pub entered : (n time : ℕ) → slice_get entry_times n ≡ Some time → time < length kept.acts
  pub called : (w j time : ℕ) → slice_get (times w) j ≡ Some time → time < length kept.acts
  pub history : InOrder kept.history (λ w. calls_by w kept) entry_times times
  pub lists : (w : ℕ) → RiseTo 0 (made_by w kept.acts) (times w) (length kept.acts)

long : (acts : List Act) (act : Act) → length (acts ++ act ∷ []) ≡ length acts + 1
long acts act = length-append acts (act ∷ [])

less_long : (acts : List Act) (act : Act) (n : ℕ) → n < length acts → n < length (acts ++ act ∷ [])
less_long acts act n less = subst (λ (k : ℕ). n < k) (sym (long acts act)) (let more : n < length acts + 1 = omega arith in more)

last_long : (acts : List Act) (act : Act) → length acts < length (acts ++ act ∷ [])
last_long acts act = subst (λ (k : ℕ). length acts < k) (sym (long acts act)) (let more : length acts < length acts + 1 = omega arith in more)

-- ---- one call more

-- a list of numbers with this one more, or without it
abbrev with_number : Bool → List ℕ → ℕ → List ℕ
with_number b numbers n = cond b (numbers ++ n ∷ []) numbers

below_more : (b : Bool) (numbers : List ℕ) (n more : ℕ) → n < more → ((i time : ℕ) → slice_get numbers i ≡ Some time → time < more) → (i time : ℕ) → slice_get (with_number b numbers n) i ≡ Some time → time < more
below_more true numbers n more less each i time at = each_more (λ (i : ℕ) (time : ℕ). time < more) numbers n each less i time at
below_more false numbers n more less each i time at = each i time at

rise_more : (b : Bool) (numbers : List ℕ) (n : ℕ) → ((i j x y : ℕ) → i < j → slice_get numbers i ≡ Some x → slice_get numbers j ≡ Some y → x < y) → ((i time : ℕ) → slice_get numbers i ≡ Some time → time < n)
    → (i j x y : ℕ) → i < j → slice_get (with_number b numbers n) i ≡ Some x → slice_get (with_number b numbers n) j ≡ Some y → x < y
rise_more true numbers n rise below i j x y before at_x at_y = pair_more (λ (x y : ℕ). x < y) numbers n rise below i j x y before at_x at_y
rise_more false numbers n rise below i j x y before at_x at_y = rise i j x y before at_x at_y

as_long : (b : Bool) (numbers : List ℕ) (n : ℕ) (history : List SharedEntry) (entry : SharedEntry) → length numbers ≡ length history → length (with_number b numbers n) ≡ length (cond b (history ++ entry ∷ []) history)
as_long true numbers n history entry same = omega (arith, length-append numbers (n ∷ []), length-append history (entry ∷ []), same)
as_long false numbers n history entry same = same

module _ (numbers : List ℕ) (n : ℕ) (below : (i time : ℕ) → slice_get numbers i ≡ Some time → time < n) where
  -- a call that has its number among the others has it among one more
  among_still : (b : Bool) (y : Item) (time : ℕ) → y.place ≤ length numbers → time < n → IsAmong numbers y time → IsAmong (with_number b numbers n) y time
  among_still false y time within less among = among
  among_still true y time within less among = record {
    past = λ i earlier before at. each_more (λ (i : ℕ) (earlier : ℕ). i < y.place → earlier < time) numbers n (λ i earlier at before. among.past i earlier before at) (λ before. absurd (omega (arith, before, within))) i earlier at before;
    is = λ is_entry. still_at numbers n y.place time (among.is is_entry);
    before = λ none i later behind at. each_more (λ (i : ℕ) (later : ℕ). y.place ≤ i → time < later) numbers n (λ i later at behind. among.before none i later behind at) (λ behind. less) i later at behind;
  }

  -- and the one more, which stands at their end
  among_last : (b : Bool) (x : Item) → x.entry ≡ b → x.place ≡ length numbers → IsAmong (with_number b numbers n) x n
  among_last true x is end = record {
    past = λ i earlier before at. each_more (λ (i : ℕ) (earlier : ℕ). i < x.place → earlier < n) numbers n (λ i earlier at before. below i earlier at) (λ before. absurd (omega (arith, before, end))) i earlier at before;
    is = λ is_entry. ap (λ (k : ℕ). slice_get (numbers ++ n ∷ []) k) end ∙ last_at numbers n;
    before = λ none. absurd (false≢true (sym none ∙ is));
  }
  among_last false x is end = record {
    past = λ i earlier before at. below i earlier at;
    is = λ is_entry. absurd (false≢true (sym is ∙ is_entry));
    before = λ none i later behind at. let within = slice_get_within numbers i later at in absurd (omega (arith, within, behind, end));
  }

module _ (plan : Plan) (kept : Account) (worker : ℕ) (asked : Item) (history : IsHistory plan kept) (now : IsOrdered kept) where
  abbrev x : Item
  x = placed worker asked kept

  abbrev act : Act
  act = record { worker = worker; made = Shared x }

  abbrev next : Account
  next = with_made worker (Shared asked) kept

  abbrev n : ℕ
  n = length kept.acts

  abbrev times : ℕ → List ℕ
  times w = with_number (worker == w) (now.times w) n

  -- a worker's numbers and calls, by whether the call is its own
  numbers_cases : (P : List ℕ → List Item → Type 0) (w : ℕ) → P (now.times w ++ n ∷ []) (calls_by w kept ++ x ∷ []) → P (now.times w) (calls_by w kept) → P (times w) (calls_by w next)
  numbers_cases P w own other = calls_cases (λ (l : List Item). P (times w) l) w worker x kept.acts
      (λ same. subst (λ (b : Bool). P (with_number b (now.times w) n) (calls_by w kept ++ x ∷ [])) (sym (eq-eqb worker w same)) own)
      (λ apart. subst (λ (b : Bool). P (with_number b (now.times w) n) (calls_by w kept)) (sym (ne_eqb worker w apart)) other)

  here : x.place ≡ length now.entry_times
  here = sym now.history.entries

  still : (w j time : ℕ) (y : Item) → slice_get (calls_by w kept) j ≡ Some y → slice_get (now.times w) j ≡ Some time → IsAmong (with_number x.entry now.entry_times n) y time
  still w j time y at is = among_still now.entry_times n now.entered x.entry y time (omega (arith, (history.places w j y at).place, now.history.entries)) (now.called w j time is) (now.history.among w j time y at is)

  call_step : IsOrdered next
  call_step = record {
    before = λ o i y at. less_long kept.acts act y.time (now.before o i y (ap (λ (l : List ObjectEntry). slice_get l i) (sym (journal_behind o worker x kept.acts)) ∙ at));
    journals = λ o. subst (λ (l : List ObjectEntry). TimesRise l) (sym (journal_behind o worker x kept.acts)) (now.journals o);
    entry_times = with_number x.entry now.entry_times n;
    times = times;
    entered = below_more x.entry now.entry_times n (length (kept.acts ++ act ∷ [])) (last_long kept.acts act) (λ i time at. less_long kept.acts act time (now.entered i time at));
    called = λ w. below_more (worker == w) (now.times w) n (length (kept.acts ++ act ∷ [])) (last_long kept.acts act) (λ i time at. less_long kept.acts act time (now.called w i time at));
    history = record {
      entries = as_long x.entry now.entry_times n kept.history (entry_of worker x) now.history.entries;
      rise = rise_more x.entry now.entry_times n now.history.rise now.entered;
      all = λ w. numbers_cases (λ (ts : List ℕ) (l : List Item). length ts ≡ length l) w (omega (arith, length-append (now.times w) (n ∷ []), length-append (calls_by w kept) (x ∷ []), now.history.all w)) (now.history.all w);
      among = λ w. numbers_cases (λ (ts : List ℕ) (l : List Item). (j time : ℕ) (y : Item) → slice_get l j ≡ Some y → slice_get ts j ≡ Some time → IsAmong (with_number x.entry now.entry_times n) y time) w
          (both_more (λ (y : Item) (time : ℕ). IsAmong (with_number x.entry now.entry_times n) y time) (calls_by w kept) (now.times w) x n (now.history.all w) (still w) (among_last now.entry_times n now.entered x.entry x refl here))
          (still w);
    };
    lists = λ w. subst (λ (k : ℕ). RiseTo 0 (made_by w (kept.acts ++ act ∷ [])) (times w) k) (sym (long kept.acts act)) (list_cases (λ (l : List Made). RiseTo 0 l (times w) (n + 1)) w worker (Shared x) kept.acts
        (λ same. subst (λ (b : Bool). RiseTo 0 (made_by w kept.acts ++ Shared x ∷ []) (with_number b (now.times w) n) (n + 1)) (sym (eq-eqb worker w same)) (call_last 0 (made_by w kept.acts) (now.times w) n x (now.lists w)))
        (λ apart. subst (λ (b : Bool). RiseTo 0 (made_by w kept.acts) (with_number b (now.times w) n) (n + 1)) (sym (ne_eqb worker w apart)) (rise_on 0 (made_by w kept.acts) (now.times w) n (n + 1) (omega arith) (now.lists w))));
  }

-- ---- one entry more

module _ (kept : Account) (worker object : ℕ) (asked : ObjectEntry) (now : IsOrdered kept) where
  abbrev this : ObjectEntry
  this = entered worker object asked kept

  abbrev entering : Act
  entering = record { worker = worker; made = Entered object this }

  same_calls : (w : ℕ) → calls_by w (with_made worker (Entered object asked) kept) ≡ calls_by w kept
  same_calls w = calls_behind w worker object this kept.acts

  entry_step : IsOrdered (with_made worker (Entered object asked) kept)
  entry_step = record {
    before = λ o. journal_cases (λ (l : List ObjectEntry). (i : ℕ) (y : ObjectEntry) → slice_get l i ≡ Some y → y.time < length (kept.acts ++ entering ∷ [])) o worker object this kept.acts
        (λ same. each_more (λ (i : ℕ) (y : ObjectEntry). y.time < length (kept.acts ++ entering ∷ [])) (entries_on o kept.acts) this (λ i y at. less_long kept.acts entering y.time (now.before o i y at)) (last_long kept.acts entering))
        (λ apart i y at. less_long kept.acts entering y.time (now.before o i y at));
    journals = λ o. journal_cases (λ (l : List ObjectEntry). TimesRise l) o worker object this kept.acts
        (λ same. pair_more (λ (y z : ObjectEntry). y.time < z.time) (entries_on o kept.acts) this (now.journals o) (λ i y at. now.before o i y at)) (λ apart. now.journals o);
    entry_times = now.entry_times;
    times = now.times;
    entered = λ i time at. less_long kept.acts entering time (now.entered i time at);
    called = λ w i time at. less_long kept.acts entering time (now.called w i time at);
    history = record {
      entries = now.history.entries;
      rise = now.history.rise;
      all = λ w. now.history.all w ∙ sym (ap (λ (l : List Item). length l) (same_calls w));
      among = λ w j time y at is. now.history.among w j time y (ap (λ (l : List Item). slice_get l j) (sym (same_calls w)) ∙ at) is;
    };
    lists = λ w. subst (λ (k : ℕ). RiseTo 0 (made_by w (kept.acts ++ entering ∷ [])) (now.times w) k) (sym (long kept.acts entering)) (list_cases (λ (l : List Made). RiseTo 0 l (now.times w) (length kept.acts + 1)) w worker (Entered object this) kept.acts
        (λ same. entry_last 0 (made_by w kept.acts) (now.times w) object this (now.lists w))
        (λ apart. rise_on 0 (made_by w kept.acts) (now.times w) (length kept.acts) (length kept.acts + 1) (omega arith) (now.lists w)));
  }

made_step : (plan : Plan) (kept : Account) (worker : ℕ) (made : Made) → IsHistory plan kept → IsOrdered kept → IsOrdered (with_made worker made kept)
made_step plan kept worker (Shared x) history now = call_step plan kept worker x history now
made_step plan kept worker (Entered object entry) history now = entry_step kept worker object entry now

pub begins : (plan : Plan) → IsOrdered (opened plan)
begins plan = record {
  before = λ o i x at. absurd (none-some x at);
  journals = λ o i j x y before at_x at_y. absurd (none-some x at_x);
  entry_times = [];
  times = λ w. [];
  entered = λ i time at. absurd (none-some time at);
  called = λ w i time at. absurd (none-some time at);
  history = record { entries = refl; rise = λ i j x y before at_x at_y. absurd (none-some x at_x); all = λ w. refl; among = λ w j time x at is. absurd (none-some x at) };
  lists = λ w. omega arith;
}

pub step : (plan : Plan) (kept : Account) (act : Act) → IsHistory plan kept → IsOrdered kept → IsOrdered (with_act kept act)
step plan kept act history now = made_step plan kept act.worker act.made history now
