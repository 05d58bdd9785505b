-- A copy and a look keep the rule of an object's table.
use Rattle.sync_model.specs.Front.{Front}
use Rattle.std.proofs.Common.{◌≡◌, ℕ, zero, suc, length, ◌<◌, Bool, ⊎_elim, List, [], ◌∷◌, ◌++◌, get_or, set, Option, refl, sym, ap, ◌∙◌, subst, arith}
use mathlib.Core.Option.{some, some-ne-none, some-injective}
use lib.ListN.{get_elem?}
use lib.Seq.{set-get_or}
use Rattle.atomic_table.specs.Table.{State, Allows, Splits}
use Rattle.atomic_table.specs.Table as table
use Rattle.atomic_table.proofs.Lists.{at_snoc, at_longer, set_here, set_else, set_again}
use Rattle.ruled_object.specs.declared.cell.Cell.{Cell}
use Rattle.ruled_object.specs.declared.rule.Begin.{Begin}
use Rattle.ruled_object.specs.declared.view.Stage.TheVariants.{Idle}
use Rattle.ruled_object.specs.declared.view.View.{View}
use Rattle.ruled_object.specs.Looks.{copied, looked, LooksAt, Says}
use Rattle.ruled_object.specs.Rule.{HasWord, IsHeld, AtStage, Fits, Kept}
use Rattle.ruled_object.specs.Steps.{Sat}
use Rattle.ruled_object.proofs.Journals.{begins_all}
use Rattle.ruled_object.proofs.Steps.{each_after, word_is, not_both}

there : {A : Type 0} (xs : List A) (i : ℕ) (x : A) → get_elem? xs i ≡ some x → i < length xs
there [] i x e = absurd (some-ne-none x (sym e))
there (y ∷ ys) zero x e = omega arith
there (y ∷ ys) (suc i) x e = let h = there ys i x e in omega arith

module _ {S N E R H : Type 0} (next : S → ℕ → E → S × R) (halts : Bool) (frees takes : E → R → Bool) (front : N → Front) (at : H → N → Type 0) (tells : S → ℕ) (means : S → ℕ → S) (begin : Begin S N) where
  abbrev St : Type 0
  St = State (Option (Cell S N)) (View E R)

  abbrev Rule : St → Type 0
  Rule = Kept next halts frees takes front at tells means begin

  abbrev word_of : St → ℕ
  word_of s = get_or s.words 0 0

  abbrev V : Type 0
  V = View E R

  -- a new seat has seen what another has
  pub copies : (id : ℕ) (v : V) → Splits Rule id v v (copied v)
  copies id v s r at_me =
      let f = r.each id v at_me in
      let more : Rule record { words = s.words; homes = s.homes; views = s.views ++ copied v ∷ [] } = record {
        journal = r.journal;
        holder = r.holder;
        claim = r.claim;
        turn = r.turn;
        turns = r.turns;
        wide = r.wide;
        lawful = r.lawful;
        each = λ j u e. ⊎_elim (r.each j u)
            (λ (t : copied v ≡ u). subst (Fits begin.callers r.journal (word_of s) r.turn s.homes r.holder r.claim r.turns j) t
            record { seen = f.seen; heard = λ i xs is. absurd (some-ne-none xs (sym is)); owns = λ i xs is. absurd (some-ne-none xs (sym is)); stage = tt })
            (at_snoc s.views (copied v) u j e);
        counted = r.counted;
        free = r.free;
        busy = λ ne. let b = r.busy ne in (b.0, at_longer s.views (copied v ∷ []) r.holder b.0 b.1, b.2, b.3);
      } in
      subst (λ (vs : List V). Rule record { words = s.words; homes = s.homes; views = vs ++ copied v ∷ [] }) (sym (set_again s.views id v at_me)) more

  -- a seat that has the word is the one that has it
  its : (s : St) (r : Rule s) (j : ℕ) (u : V) → get_elem? s.views j ≡ some u → HasWord u.stage → (j ≡ r.holder) × IsHeld (word_of s)
  its s r j u e h = word_is begin.callers r.journal (word_of s) r.turn r.holder s.homes j u.seen u.stage (r.each j u e).stage h

  -- what the word says at any moment
  says : (s : St) (r : Rule s) → Says next tells begin.state (word_of s) r.journal s.views
  says s r = record {
    told = λ free. (r.free free).1.2.told;
    free = λ free j u e h. not_both (word_of s) free (its s r j u e h).1;
    held = λ held. let b = r.busy held in (r.holder, (b.0, b.1, b.2, b.3, λ j u e h. (its s r j u e h).0));
  }

  -- a seat without the word sees the history
  pub looks : (id : ℕ) (me : Sat S N E R) → me.0.stage ≡ Idle → Allows Rule 1 id me 0 (λ n. n) (LooksAt next halts frees takes front at tells means begin me)
  looks id me idle s r one at_me _ =
      let v : V = me.0 in let w : V = looked v r.journal in let f = r.each id v at_me in
      let after : Rule record { words = s.words; homes = s.homes; views = set s.views id w } = record {
        journal = r.journal;
        holder = r.holder;
        claim = r.claim;
        turn = r.turn;
        turns = r.turns;
        wide = r.wide;
        lawful = r.lawful;
        each = each_after (Fits begin.callers r.journal (word_of s) r.turn s.homes r.holder r.claim r.turns) s.views id w
            record { seen = begins_all r.journal; heard = λ i xs is. absurd (some-ne-none xs (sym is)); owns = f.owns; stage = subst (AtStage r.journal (word_of s) r.turn s.homes r.holder id r.journal) (sym idle) tt }
            (λ j u other e. r.each j u e);
        counted = r.counted;
        free = r.free;
        busy = λ ne. let b = r.busy ne in (
          b.0,
          set_else s.views id r.holder w (λ is. let same = some-injective b.0 v (sym b.1 ∙ (ap (get_elem? s.views) is ∙ at_me)) in absurd (subst HasWord (ap (λ (x : V). x.stage) same ∙ idle) b.2)) ∙ b.1,
          b.2,
          b.3,
        );
      } in (
        w,
        table.keeps,
        tt,
        subst (λ (ws : List ℕ). Rule record { words = ws; homes = s.homes; views = set s.views id w }) (sym (set-get_or s.words 0 0)) after,
        (
          r.journal,
          refl,
          record { seen = f.seen; heard = f.heard; owns = λ i xs e. let o = f.owns i xs e in (o.0, o.2); lawful = r.lawful },
          (set s.views id w, (id, set_here s.views id w (there s.views id v at_me)), says record { words = s.words; homes = s.homes; views = set s.views id w } after),
        ),
      )
