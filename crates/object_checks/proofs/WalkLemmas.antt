-- The parts of a workload's pools one by one, and all its objects together.
use Rattle.std.proofs.Common.{◌≡◌, ◌⊎◌, inl, inr, ℕ, zero, suc, ◌+◌, ◌<◌, ◌≤◌, Bool, true, false, cond, List, [], ◌∷◌, ◌++◌, length, get_or, Some, slice_get, refl, sym, ap, ◌∙◌, subst, arith}
use Rattle.std.specs.Prelude.{◌&&◌, not, is_some}
use Rattle.std.proofs.Math.Nat.{eq-or-lt_of_le}
use Rattle.std.proofs.lemmas.List.{length-map, get_or_default}
use Rattle.std.proofs.lemmas.Option.{none-some, same_Some, slice_get_within, slice_get-get_or}
use Rattle.sync_types.specs.Name.{is_name}
use Rattle.workload.specs.declared.object.ObjectKind.{ObjectKind}
use Rattle.workload.specs.declared.object.ObjectKind.TheVariants as kinds
use Rattle.workload.specs.declared.object.ObjectKind.TheVariants.{Pool}
use Rattle.workload.specs.declared.object.ObjectLine.{ObjectLine}
use Rattle.workload.specs.Draft.{declared_from, is_kind}
use Rattle.workload.specs.Plan.{Plan, refers}
use Rattle.workload.specs.Puts.{puts_at}
use Rattle.workload.specs.Readable.{may_join, may_declare}
use Rattle.run_record.specs.Journals.{IsStops}
use Rattle.run_record.specs.Objects.{first_part, is_pool, object_count, starts_number}
use Rattle.run_record.specs.Record.{ObjectEntry, stop}
use Rattle.object_checks.specs.declared.journals.row.Row.{Row}
use Rattle.object_checks.specs.JournalItems.{entries_in_row, journals_in}
use Rattle.object_checks.specs.JournalParts.{journal_at, IsMachinePart, DeclaredFollow, PartsFollow, PoolFollows, StartsFollow, FollowMachines}
use Rattle.object_checks.proofs.JournalsIn.{mapped}

-- the kinds that a workload declares are in range
first : (a b : Bool) → (a && b) ≡ true → a ≡ true
first true b is = refl
first false b is = is

second : (a b : Bool) → (a && b) ≡ true → b ≡ true
second true b is = is
second false b is = absurd cc

joins : (others : List ObjectLine) (o : ObjectLine) → may_join others o ≡ true → is_kind o.kind ≡ true
joins others o is = first (is_kind o.kind) _ (second (refers others o.kind) _ (second (not (is_some (declared_from 0 o.name others))) _ (second (is_name o.name) _ is)))

pub kind_fits : (others objects : List ObjectLine) → may_declare others objects ≡ true → (place : ℕ) (o : ObjectLine) → slice_get objects place ≡ Some o → is_kind o.kind ≡ true
kind_fits others [] may place o here = absurd (none-some o here)
kind_fits others (x ∷ objects) may zero o here = subst (λ (y : ObjectLine). is_kind y.kind ≡ true) (same_Some x o here) (joins others x (first (may_join others x) _ may))
kind_fits others (x ∷ objects) may (suc place) o here = kind_fits (others ++ x ∷ []) objects (second (may_join others x) _ may) place o here

-- a kind that is no pool
pub no_pool : (kind : ObjectKind) → (kind ≡ Pool → ⊥) → is_pool kind ≡ false
no_pool kinds.Map other = refl
no_pool kinds.Var other = refl
no_pool (kinds.Atomic type) other = refl
no_pool kinds.Mutex other = refl
no_pool kinds.RwMutex other = refl
no_pool (kinds.Cond mutex) other = refl
no_pool (kinds.WaitGroup start) other = refl
no_pool (kinds.Once atomic delta) other = refl
no_pool (kinds.OnceFunc code) other = refl
no_pool (kinds.OnceValue value) other = refl
no_pool (kinds.Sema size) other = refl
no_pool (kinds.Flight atomic delta) other = refl
no_pool kinds.Pool other = absurd (other refl)

-- ---- the parts of one pool
module _ (room start : ℕ) (rows : List (List Row)) where
  pub part_more : (n : ℕ) → IsMachinePart room (entries_in_row (get_or rows (start + n) [])) → PoolFollows room start n (journals_in rows) → PoolFollows room start (n + 1) (journals_in rows)
  part_more n follows so_far part below = by (eq-or-lt_of_le {n = part} {m = n} (omega (arith, below))) where
    by : (part ≡ n) ⊎ (part < n) → IsMachinePart room (journal_at (journals_in rows) (start + part))
    by (inl same) = subst (λ p. IsMachinePart room (journal_at (journals_in rows) (start + p))) (sym same) (subst (IsMachinePart room) (sym (mapped rows (start + n))) follows)
    by (inr before) = so_far part before

  pub part_at : (n workers : ℕ) → n < workers → PoolFollows room start workers (journals_in rows) → IsMachinePart room (entries_in_row (get_or rows (start + n) []))
  part_at n workers inside follow = subst (IsMachinePart room) (mapped rows (start + n)) (follow n inside)

pub pool_same : (rows : List (List Row)) (room r start s workers w : ℕ) → room ≡ r → start ≡ s → workers ≡ w → PoolFollows room start workers (journals_in rows) → PoolFollows r s w (journals_in rows)
pool_same rows room r start s workers w same_room same_start same_workers follow =
    subst (λ x. PoolFollows r s x (journals_in rows)) same_workers (subst (λ x. PoolFollows r x workers (journals_in rows)) same_start (subst (λ x. PoolFollows x start workers (journals_in rows)) same_room follow))

-- ---- the parts of all pools
module _ (plan : Plan) (rows : List (List Row)) where
  -- of the objects before a place
  abbrev pub PoolsTo : ℕ → Type 0
  PoolsTo n = (place part : ℕ) (object : ObjectLine) → place < n → slice_get plan.objects place ≡ Some object → object.kind ≡ Pool → part < plan.workers
      → IsMachinePart (puts_at place plan.scripts) (journal_at (journals_in rows) (first_part plan place + part))

  module _ (n : ℕ) (object : ObjectLine) (at : slice_get plan.objects n ≡ Some object) where
    pub other_kind : (object.kind ≡ Pool → ⊥) → PoolsTo n → PoolsTo (n + 1)
    other_kind not_pool so_far place part other below there pool inside = by (eq-or-lt_of_le {n = place} {m = n} (omega (arith, below))) where
      by : (place ≡ n) ⊎ (place < n) → IsMachinePart (puts_at place plan.scripts) (journal_at (journals_in rows) (first_part plan place + part))
      by (inl same) = absurd (not_pool (ap (λ (o : ObjectLine). o.kind) (same_Some object other (sym at ∙ ap (slice_get plan.objects) (sym same) ∙ there)) ∙ pool))
      by (inr before) = so_far place part other before there pool inside

    pub pool_more : PoolFollows (puts_at n plan.scripts) (first_part plan n) plan.workers (journals_in rows) → PoolsTo n → PoolsTo (n + 1)
    pool_more follow so_far place part other below there pool inside = by (eq-or-lt_of_le {n = place} {m = n} (omega (arith, below))) where
      by : (place ≡ n) ⊎ (place < n) → IsMachinePart (puts_at place plan.scripts) (journal_at (journals_in rows) (first_part plan place + part))
      by (inl same) = subst (λ p. IsMachinePart (puts_at p plan.scripts) (journal_at (journals_in rows) (first_part plan p + part))) (sym same) (follow part inside)
      by (inr before) = so_far place part other before there pool inside

    pub its_pool : object.kind ≡ Pool → PartsFollow plan (journals_in rows) → PoolFollows (puts_at n plan.scripts) (first_part plan n) plan.workers (journals_in rows)
    its_pool pool follow part inside = follow n part object at pool inside

  pub pools_all : (n : ℕ) → length plan.objects ≤ n → PoolsTo n → PartsFollow plan (journals_in rows)
  pools_all n all so_far place part object at pool inside = let within = slice_get_within plan.objects place object at in so_far place part object (omega (arith, within, all)) at pool inside

-- ---- numbers
pub starts_past : (plan : Plan) → length plan.objects < starts_number plan
starts_past plan = omega arith

module _ (plan : Plan) (n : ℕ) (object : ObjectLine)
    (follow : first_part plan (n + 1) ≡ first_part plan n + cond (is_pool object.kind) plan.workers 0) where
  pub next_pool : object.kind ≡ Pool → first_part plan (n + 1) ≡ first_part plan n + plan.workers
  next_pool pool = follow ∙ ap (λ k. first_part plan n + cond (is_pool k) plan.workers 0) pool

  pub next_other : (object.kind ≡ Pool → ⊥) → first_part plan (n + 1) ≡ first_part plan n
  next_other other = let same = follow ∙ ap (λ b. first_part plan n + cond b plan.workers 0) (no_pool object.kind other) in omega (arith, same)

-- ---- all of them
pub line_at : (objects lines : List ObjectLine) → lines ≡ objects → (place : ℕ) (d : ObjectLine) → place < length lines → slice_get objects place ≡ Some (get_or lines place d)
line_at objects lines same place d inside = subst (λ (l : List ObjectLine). slice_get l place ≡ Some (get_or lines place d)) same (slice_get-get_or lines place d inside)

-- the journal of Stop stands first
pub stops_first : (plan : Plan) (rows : List (List Row)) → length rows ≡ object_count plan → (row : List Row) → row ≡ get_or rows 0 row → (read : List Row) → read ≡ row → entries_in_row read ≡ journal_at (journals_in rows) stop
stops_first plan rows count row is read same = ap entries_in_row (same ∙ is ∙ get_or_default rows 0 row [] (omega (arith, count))) ∙ sym (mapped rows 0)

pub all_follow : (plan : Plan) (rows : List (List Row)) → length rows ≡ object_count plan → (stops : List ObjectEntry) → stops ≡ journal_at (journals_in rows) stop → IsStops stops
    → (workers : ℕ) → workers ≡ plan.workers → (objects : List ObjectLine) → objects ≡ plan.objects → DeclaredFollow workers objects (journals_in rows) → PartsFollow plan (journals_in rows) → StartsFollow plan (journals_in rows) → FollowMachines plan (journals_in rows)
all_follow plan rows count stops same halts workers same_workers objects same_objects declared parts starts = record {
  objects = length-map rows entries_in_row ∙ count;
  stops = subst IsStops same halts;
  declared = subst (λ w. DeclaredFollow w plan.objects (journals_in rows)) same_workers (subst (λ (o : List ObjectLine). DeclaredFollow workers o (journals_in rows)) same_objects declared);
  parts = parts;
  starts = starts;
}
