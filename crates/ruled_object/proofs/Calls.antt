-- What a call adds to the history.
use Rattle.std.proofs.Common.{◌≡◌, ℕ, zero, suc, ◌+◌, ◌<◌, Bool, List, [], ◌∷◌, ◌++◌, length, Option, Some, None, IfSome, IfNone, refl, sym, ap, ◌∙◌, subst, arith}
use mathlib.Core.Option.{some}
use lib.ListN.{get_elem?}
use Rattle.atomic_table.specs.Table.{rest}
use Rattle.sync_types.specs.declared.misuse.Misuse.{Misuse}
use Rattle.sync_model.specs.Front.{Front}
use Rattle.sync_model.specs.declared.journal.Deed.{Deed}
use Rattle.sync_model.specs.declared.journal.Entry.{Entry}
use Rattle.sync_model.specs.Note.{SameHome}
use Rattle.sync_model.specs.Journal.{halt_of, halt_next, by, state_next, state_after, Right, Follows, KeepsEdges, TimesRise}
use Rattle.ruled_object.specs.declared.cell.Cell.{Cell}
use Rattle.ruled_object.specs.declared.object.Object.{Object}
use Rattle.ruled_object.specs.declared.pass.Pass.{Pass}
use Rattle.ruled_object.specs.declared.rule.Begin.{Begin}
use Rattle.ruled_object.specs.declared.view.Own.{Own}
use Rattle.ruled_object.specs.declared.view.View.{View}
use Rattle.ruled_object.specs.Cells.{Acts}
use Rattle.ruled_object.specs.Passes.{capped, own_of, own_by, turns_of, Adds, IsPassOf, seen_by}
use Rattle.ruled_object.specs.Steps.{Sat, on_first, taken, one_turn, more_turns, counted, added, gave, Learns, MayAdd, TakesRest}
use Rattle.ruled_object.proofs.Journals.{by_here, halt_snoc, covers_more, covers_snoc, before_snoc, times_snoc, edges_snoc, state_snoc, follows_snoc}
use Rattle.ruled_object.proofs.Steps.{length-on_first}

module _ {E R : Type 0} where
  -- the entry that a caller makes
  abbrev pub entry : ℕ → Deed E R → Front → ℕ → Entry E R
  entry caller deed front knew = record { caller = caller; deed = deed; front = front.counts; knew = knew; time = front.time }

  -- what a seat has of its first caller, where that is changed
  pub own_on_first : (change : Own E R → Own E R) (owns : List (Own E R)) → 0 < length owns → own_of (on_first change owns) ≡ change (own_of owns)
  own_on_first change [] some_own = absurd (omega arith)
  own_on_first change (own ∷ owns) some_own = refl

  -- turns change no entry, and nobody for whom the seat stands
  pub sized_turns : (n : ℕ) (owns : List (Own E R)) → length (more_turns n owns) ≡ length owns
  sized_turns zero owns = refl
  sized_turns (suc n) owns = length-on_first one_turn (more_turns n owns) ∙ sized_turns n owns

  same_entries : (n : ℕ) (owns : List (Own E R)) → 0 < length owns → (own_of (more_turns n owns)).entries ≡ (own_of owns).entries
  same_entries zero owns some_own = refl
  same_entries (suc n) owns some_own = ap (λ (o : Own E R). o.entries) (own_on_first one_turn (more_turns n owns) (subst (λ (k : ℕ). 0 < k) (sym (sized_turns n owns)) some_own)) ∙ same_entries n owns some_own

  pub own_is : (owns : List (Own E R)) → 0 < length owns → get_elem? owns 0 ≡ some (own_of owns)
  own_is [] some_own = absurd (omega arith)
  own_is (own ∷ owns) some_own = refl

-- what follows where there is something, and where there is nothing
pub where_some : {A : Type 0} {P Q : A → Type 0} (o : Option A) → ((x : A) → P x → Q x) → IfSome o P → IfSome o Q
where_some None f p = tt
where_some (Some x) f p = f x p

pub where_none : {A P Q : Type 0} (o : Option A) → (P → Q) → IfNone o P → IfNone o Q
where_none None f p = f p
where_none (Some x) f p = tt

module _ {S N E R : Type 0} where
  -- one cell lies in the slot
  pub one_cell : (m : Sat S N E R) (a b : Cell S N) → m.1 ≡ (0, Some a) ∷ [] → m.1 ≡ (0, Some b) ∷ [] → a ≡ b
  one_cell m a b x y = let both : ◌≡◌ {A = ℕ × Option (Cell S N)} (0, Some a) (0, Some b) = (let e = sym x ∙ y in (cc)) in let slots : Some a ≡ Some b = ap (λ z. z.1) both in (cc)

  -- what the slot taken last is, the cell is
  pub holds : (m : Sat S N E R) (slot : Option (Cell S N)) (cell old : Cell S N) → m.1 ≡ (0, slot) ∷ rest m.1 → slot ≡ Some cell → m.1 ≡ (0, Some old) ∷ [] → m.1 ≡ (0, Some cell) ∷ []
  holds m slot cell old value is held = value ∙ (λ i. (0, is i) ∷ rest (held i))

  -- the seat has one slot, whatever lies in it
  pub holds_new : (m : Sat S N E R) (new old : Cell S N) → m.1 ≡ (0, Some old) ∷ [] → (0, Some new) ∷ rest m.1 ≡ (0, Some new) ∷ []
  holds_new m new old held = ap (λ slots. (0, Some new) ∷ rest slots) held

-- the pass after its seat gave the word back with an entry, and took turns before
pub still_its : {M N S E R H : Type 0} (object : Object M N S E R H) (old now : Pass S N E R) (journal : List (Entry E R)) (turns : ℕ) (v : View E R) (e : Entry E R) → IsPassOf object old → now.seat.table_id ≡ object.table.shared.table_id → now.number ≡ old.number
    → turns_of now ≡ capped (own_of v.owns).turns → v ≡ counted turns (taken old.seat.me.0 journal) → now.seat.me ≡ (gave v (Some e), []) → IsPassOf object now
still_its {M} {N} {S} {E} {R} {H} object old now journal turns v e is table number counts view me =
    let one : length v.owns ≡ 1 = ap (λ (u : View E R). length u.owns) view ∙ (sized_turns turns old.seat.me.0.owns ∙ is.one) in let some_own : 0 < length v.owns = omega arith in
    let owns : now.seat.me.0.owns ≡ on_first (added e) v.owns = ap (λ (m : Sat S N E R). m.0.owns) me in record {
      table = table;
      caller = subst (λ (k : ℕ). k < object.table.shared.key.callers) (sym number) is.caller;
      number = ap (λ (m : Sat S N E R). m.0.number) me ∙ (ap (λ (u : View E R). u.number) view ∙ (is.number ∙ sym number));
      one = ap (λ (xs : List (Own E R)). length xs) owns ∙ (length-on_first (added e) v.owns ∙ one);
      turn = ap (λ (m : Sat S N E R). m.0.stage) me;
      empty = ap (λ (m : Sat S N E R). m.1) me;
      turns = counts ∙ ap (λ (o : Own E R). capped o.turns) (sym (ap own_of owns ∙ own_on_first (added e) v.owns some_own));
    }

module _ {S N E R H : Type 0} (next : S → ℕ → E → S × R) (halts : Bool) (frees takes : E → R → Bool) (front : N → Front) (at : H → N → Type 0) (tells : S → ℕ) (means : S → ℕ → S) (begin : Begin S N) where
  -- what was learned with the turn is so of the cell that the seat then has
  pub learned : (word : ℕ) (m n : Sat S N E R) (cell : Cell S N) (took : TakesRest next halts frees takes front at tells means begin word m n) → n.1 ≡ (0, Some cell) ∷ [] → Learns next halts frees takes front at tells means begin m.0 took.0 word cell
  learned word m n cell took held = subst (λ c. Learns next halts frees takes front at tells means begin m.0 took.0 word c) (one_cell n took.1 cell (ap (λ x. x.1) took.2) held) took.3

  -- a deed that is right at the cell that was learned may be added
  pub may_add : (v : View E R) (journal : List (Entry E R)) (word : ℕ) (old : Cell S N) (left : ℕ) (new : Cell S N) (caller : ℕ) (deed : Deed E R) (known : Front) → Learns next halts frees takes front at tells means begin v journal word old
      → Acts next halts frees takes front tells means caller deed known word old left new → SameHome at old.note new.note → v.number ≡ caller
      → MayAdd next halts frees takes front at tells means begin (taken v journal) (entry caller deed known (length v.seen)) left new
  may_add v journal word old left new caller deed known learns acts same number =
      let e : Entry E R = entry caller deed known (length v.seen) in let lies = learns.lies in
      let state : means new.state left ≡ state_after next begin.state (journal ++ e ∷ []) = acts.state ∙ (ap (λ (s : S). state_next next s caller deed) lies.state ∙ sym (state_snoc next begin.state journal e)) in record {
        caller = sym number;
        right = subst (λ (z : S × Option Misuse). Right next halts z.0 z.1 caller deed) (λ i. (lies.state i, lies.halted i)) acts.right;
        edge = λ take. covers_more frees known.counts (front old.note).counts journal (acts.taken take) lies.knows;
        later = λ i x is. let p = lies.past i x is in let a = acts.later in omega arith;
        lies = record {
          state = state;
          told = acts.told ∙ ap tells state;
          halted = acts.halted ∙ (ap (λ (h : Option Misuse). halt_next h deed) lies.halted ∙ sym (halt_snoc None journal e));
          home = λ home is. same home (lies.home home is);
          knows = covers_snoc frees (front new.note).counts journal e (covers_more frees (front new.note).counts (front old.note).counts journal acts.more lies.knows) acts.left;
          past = let a = acts.later in let b = acts.clock in before_snoc (suc (front old.note).time) (suc (front new.note).time) journal e lies.past (omega arith) (omega arith);
        };
      }

  -- how many turns the seat has taken doesn't matter for it
  pub may_counted : (v : View E R) (turns : ℕ) (e : Entry E R) (word : ℕ) (cell : Cell S N) → MayAdd next halts frees takes front at tells means begin v e word cell → MayAdd next halts frees takes front at tells means begin (counted turns v) e word cell
  may_counted v turns e word cell may = record { caller = may.caller; right = may.right; edge = may.edge; later = may.later; lies = may.lies }

  -- what the pass then says
  pub adds : (old new : Pass S N E R) (journal : List (Entry E R)) (word : ℕ) (cell : Cell S N) (after : ℕ) (left : Cell S N) (turns : ℕ) (deed : Deed E R) (known : Front) → Learns next halts frees takes front at tells means begin old.seat.me.0 journal word cell
      → MayAdd next halts frees takes front at tells means begin (taken old.seat.me.0 journal) (entry old.number deed known (length old.seat.me.0.seen)) after left → 0 < length old.seat.me.0.owns
      → new.seat.me ≡ (gave (counted turns (taken old.seat.me.0 journal)) (Some (entry old.number deed known (length old.seat.me.0.seen))), [])
      → Adds next halts frees takes begin.state old (entry old.number deed known (length old.seat.me.0.seen)) new
  adds old new journal word cell after left turns deed known learns may some_own is =
      let v : View E R = old.seat.me.0 in let e : Entry E R = entry old.number deed known (length v.seen) in
      let seen : seen_by new ≡ journal ++ e ∷ [] = ap (λ (m : Sat S N E R). m.0.seen) is in
      let owns : new.seat.me.0.owns ≡ on_first (added e) (more_turns turns v.owns) = ap (λ (m : Sat S N E R). m.0.owns) is in
      let own = learns.owns 0 (own_of v.owns) (own_is v.owns some_own) in
      let still_some = subst (λ (k : ℕ). 0 < k) (sym (sized_turns turns v.owns)) some_own in
      let mine : own_by new ≡ own_by old ++ e ∷ [] = ap (λ (o : Own E R). o.entries) (ap own_of owns ∙ own_on_first (added e) (more_turns turns v.owns) still_some) ∙ ap (λ (z : List (Entry E R)). z ++ e ∷ []) (same_entries turns v.owns some_own) in
      let same : old.number ≡ v.number = may.caller in
      let number : v.number + 0 ≡ old.number = omega arith in
      let before : journal ≡ v.seen ++ learns.seen.0 = learns.seen.1 in record {
        between = learns.seen.0;
        history = seen ∙ ap (λ (z : List (Entry E R)). z ++ e ∷ []) before;
        mine = mine;
        all = mine ∙ (ap (λ (z : List (Entry E R)). z ++ e ∷ []) (own.1 ∙ ap (λ (c : ℕ). by c journal) number) ∙ (sym (by_here old.number journal e refl) ∙ ap (by old.number) (sym seen)));
        caller = refl;
        knew = refl;
        right = subst (λ (z : List (Entry E R)). Right next halts (state_after next begin.state z) (halt_of z) old.number deed) before may.right;
        follows = subst (Follows next halts begin.state None) (sym seen) (follows_snoc next halts begin.state None journal e learns.lawful.follows may.right);
        edges = subst (KeepsEdges frees takes) (sym seen) (edges_snoc frees takes journal e learns.lawful.edges may.edge);
        times = subst TimesRise (sym seen) (times_snoc journal e learns.lawful.times may.later);
      }

  -- What a caller that took the word comes to by a deed that is right at the cell: its entry may be added, and a pass whose seat then gave the word back shows it.
  pub record Places (pass : Pass S N E R) (deed : Deed E R) (known : Front) (v : View E R) (after : ℕ) (left : Cell S N) : Type 0 where
    pub may : MayAdd next halts frees takes front at tells means begin v (entry pass.number deed known v.knew) after left
    pub shows : (now : Pass S N E R) → now.seat.me ≡ (gave v (Some (entry pass.number deed known v.knew)), []) → Adds next halts frees takes begin.state pass (entry pass.number deed known (length pass.seat.me.0.seen)) now

  pub places : (pass : Pass S N E R) (word : ℕ) (n : Sat S N E R) (took : TakesRest next halts frees takes front at tells means begin word pass.seat.me n) (old : Cell S N) (did deed : Deed E R) (known : Front) (v : View E R) (turns after : ℕ) (left : Cell S N)
      → n.1 ≡ (0, Some old) ∷ [] → Acts next halts frees takes front tells means pass.number did known word old after left → SameHome at old.note left.note → deed ≡ did → pass.seat.me.0.number ≡ pass.number → length pass.seat.me.0.owns ≡ 1
      → v ≡ counted turns (taken pass.seat.me.0 took.0) → Places pass deed known v after left
  places pass word n took old did deed known v turns after left held acts same is number one view =
      let learns = learned word pass.seat.me n old took held in
      let right = subst (λ (d : Deed E R). Acts next halts frees takes front tells means pass.number d known word old after left) (sym is) acts in
      let may = may_add pass.seat.me.0 took.0 word old after left pass.number deed known learns right same number in
      let e : Entry E R = entry pass.number deed known (length pass.seat.me.0.seen) in record {
        may = subst (λ (w : View E R). MayAdd next halts frees takes front at tells means begin w (entry pass.number deed known w.knew) after left) (sym view) (may_counted (taken pass.seat.me.0 took.0) turns e after left may);
        shows = λ now gives. adds pass now took.0 word old after left turns deed known learns may (omega arith) (subst (λ (w : View E R). now.seat.me ≡ (gave w (Some (entry pass.number deed known w.knew)), [])) view gives);
      }
