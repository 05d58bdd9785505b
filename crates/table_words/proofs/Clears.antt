-- A table's own seats may make the steps of a call that clears a map.
use Rattle.std.proofs.Common.{◌≡◌, ℕ, ◌+◌, ◌^◌, ◌<◌, ◌==◌, true, false, sym, subst, arith}
use prog.Atomic.{either}
use Rattle.atomic_table.specs.Table.{Me}
use Rattle.table_rule.specs.declared.begin.Begin.{Begin}
use Rattle.table_words.specs.declared.words.TableWords.{TableWords}
use Rattle.table_rule.specs.declared.view.View.{View}
use Rattle.table_rule.specs.Clearing.{HasClosed, Closes, LooksInside, Clears as ClearsMap}
use Rattle.table_words.specs.Laws.{HistoryLaws}
use Rattle.table_rule.specs.Layout.{root_word, gate_word}
use Rattle.table_rule.specs.Making.{HasUnit}
use Rattle.table_rule.specs.Walking.{IsFree}
use Rattle.table_rule.specs.Writing.{GoesOut}
use Rattle.table_words.proofs.Cleared.{clears}
use Rattle.table_words.proofs.Closing.{closes, looks_inside, opens}
use Rattle.table_words.proofs.Stepping.{May, may}

module _ (table : TableWords) (id : ℕ) (me : Me (Unit {0}) View) (word : ℕ) (laws : HistoryLaws) where
  abbrev key : Begin
  key = table.table.shared.key

  -- the seat may change the word so
  abbrev pub MayChange : (ℕ → ℕ) → (ℕ → Me (Unit {0}) View → Type 0) → Type 0
  MayChange = May table id me word

  pub may_close : (m told before old : ℕ) → IsFree table.table.shared.key me → m < table.table.shared.key.maps → old < 2 ^ 32 → told ≡ m → word ≡ gate_word table.table.shared.key m → MayChange (λ n. either (n == old) (old + 2 ^ 32) n) (Closes told before old me)
  may_close m told before old free below small same is = subst (λ n. MayChange (λ n. either (n == old) (old + 2 ^ 32) n) (Closes n before old me)) (sym same) (may table id me word (gate_word key m) (λ n. either (n == old) (old + 2 ^ 32) n) (Closes m before old me) (sym is) (omega arith) (closes key laws id me m before old free below small))

  pub may_look_inside : (m told : ℕ) → HasClosed table.table.shared.key me m false → m < table.table.shared.key.maps → told ≡ m → word ≡ gate_word table.table.shared.key m → MayChange (λ n. n) (LooksInside told me)
  may_look_inside m told has below same is = subst (λ n. MayChange (λ n. n) (LooksInside n me)) (sym same) (may table id me word (gate_word key m) (λ n. n) (LooksInside m me) (sym is) (omega arith) (looks_inside key laws id me m has))

  pub may_open : (m : ℕ) → HasClosed table.table.shared.key me m true → m < table.table.shared.key.maps → word ≡ gate_word table.table.shared.key m → MayChange (λ n. 0) (λ found. GoesOut me 0)
  may_open m has below is = may table id me word (gate_word key m) (λ n. 0) (λ found. GoesOut me 0) (sym is) (omega arith) (opens key laws id me m has)

  pub may_clear : (m told next : ℕ) → HasClosed table.table.shared.key me m true → HasUnit me.0.owns next → m < table.table.shared.key.maps → told ≡ m → word ≡ root_word table.table.shared.key m → MayChange (λ n. next) (λ found. ClearsMap told me)
  may_clear m told next has unit below same is = subst (λ n. MayChange (λ n. next) (λ found. ClearsMap n me)) (sym same) (may table id me word (root_word key m) (λ n. next) (λ found. ClearsMap m me) (sym is) (omega arith) (clears key laws id me m next has unit))
