-- A table's own seats may make operations on atomics.
use Rattle.std.proofs.Common.{◌≡◌, ℕ, ◌+◌, ◌<◌, ◌==◌, Bool, true, false, cond, Some, slice_get, refl, sym, subst, arith}
use Rattle.std.proofs.lemmas.Option.{slice_get_within}
use prog.Atomic.{either}
use Rattle.atomic_table.specs.Table.{Me, Allows}
use Rattle.sync_types.specs.declared.atomic_object.AtomicCall.{AtomicCall}
use Rattle.sync_types.specs.declared.atomic_object.AtomicKind.{AtomicKind}
use Rattle.table_rule.specs.declared.view.View.{View}
use Rattle.table_words.specs.declared.words.TableWords.{TableWords}
use Rattle.table_rule.specs.declared.word_step.WordStep.{WordStep}
use Rattle.table_rule.specs.declared.word_step.WordStep.TheVariants.{CompareExchange}
use Rattle.table_words.specs.Laws.{HistoryLaws}
use Rattle.table_rule.specs.Operations.{IsOperation, Operates}
use Rattle.table_rule.specs.Rule.{Kept}
use Rattle.table_rule.specs.Walking.{IsFree}
use Rattle.table_rule.specs.WordSteps.{word_after}
use Rattle.table_words.proofs.Operating.{operates}

either_is : (b : Bool) (x y : ℕ) → cond b x y ≡ either b x y
either_is true x y = refl
either_is false x y = refl

module _ (table : TableWords) (id : ℕ) (me : Me (Unit {0}) View) (a atomic : ℕ) (call : AtomicCall) (before : ℕ) where
  -- the atomic's word is one of the table, of which the seat may make this
  abbrev pub MayOperate : (ℕ → ℕ) → Type 0
  MayOperate f = (1 + atomic < table.table.shared.table_id.words) × Allows (Kept table.table.shared.key) table.table.shared.table_id.slots id me (1 + atomic) f (Operates a call before me)

  may_operate : (f : ℕ → ℕ) (kind : AtomicKind) → HistoryLaws → IsFree table.table.shared.key me → a ≡ atomic → slice_get table.table.shared.key.kinds atomic ≡ Some kind → IsOperation kind call f → MayOperate f
  may_operate f kind laws free same at is =
      let k = table.table.shared.key in
      let below = slice_get_within k.kinds atomic kind at in
      let sized = table.sized.0 in (
        omega arith,
        subst (λ slots. Allows (Kept k) slots id me (1 + atomic) f (Operates a call before me)) (sym table.sized.1)
            (subst (λ n. Allows (Kept k) 0 id me (1 + atomic) f (Operates n call before me)) (sym same) (operates k laws id me atomic kind call before f free.live free.begin free.some free.idle.walk at is)),
      )

  -- the same, by the step that an arm of a match makes
  pub may_step : (step now : WordStep) → HistoryLaws → IsFree table.table.shared.key me → a ≡ atomic → (kind : AtomicKind) × (slice_get table.table.shared.key.kinds atomic ≡ Some kind) × IsOperation kind call (word_after step) → step ≡ now → MayOperate (word_after now)
  may_step step now laws free same on arm = may_operate (word_after now) on.0 laws free same on.1 (subst (λ z. IsOperation on.0 call (word_after z)) arm on.2)

  -- a compare-exchange, as the table has it
  pub may_exchange : (old new : ℕ) → MayOperate (word_after (CompareExchange old new)) → MayOperate (λ n. either (n == old) new n)
  may_exchange old new may = let same : word_after (CompareExchange old new) ≡ (λ n. either (n == old) new n) = (λ i n. either_is (n == old) new n i) in subst MayOperate same may
