-- The parts of a new pool and the passes to them.
use Rattle.std.proofs.Common.{◌≡◌, ◌⊎◌, inl, inr, ℕ, zero, suc, ◌+◌, ◌<◌, true, List, [], ◌∷◌, ◌++◌, length, take, Option, Some, None, refl, sym, ap, ◌∙◌, subst, arith}
use Rattle.std.specs.List.{slice_get}
use Rattle.std.specs.Option.{option_map_or}
use Rattle.std.proofs.lemmas.List.{length-append}
use Rattle.std.proofs.Math.Seq.{take-append_seam}
use Rattle.std.proofs.lemmas.Option.{slice_get_within}
use Rattle.sync_model.specs.Journal.{by, Follows, KeepsEdges, TimesRise}
use Rattle.pool_core.specs.Edges.{pool_releases, pool_acquires}
use Rattle.ruled_object.specs.Growth as growth
use Rattle.pool_core.specs.declared.pool_event.PoolEvent.{PoolEvent}
use Rattle.pool_core.specs.declared.pool_event.PoolReply.{PoolReply}
use Rattle.pool_core.specs.PartMachine.{PartState, part_start, part_next}
use Rattle.protocols.specs.PoolStages.{pool_stands}
use Rattle.ruled_object.specs.declared.object.Object.{Object}
use Rattle.ruled_object.specs.Passes as object
use Rattle.call_loop.specs.Between.{AreNewBetween}
use Rattle.go_pool.specs.declared.pass.PoolPass.{PoolPass}
use Rattle.go_pool.specs.declared.pool.Pool.{Pool}
use Rattle.go_pool.specs.Parts.{PartPass, PartJournal, AreParts, AreOfHome, pass_at, cell}
use Rattle.go_pool.specs.Pools.{AreNew, IsPassOf, number_of}
use Rattle.go_pool.specs.Tables.{IsSquare, KeepsRows}
use Rattle.go_pool.proofs.FirstHalts.{cell_found, cell_of}
use Rattle.go_pool.proofs.TableSteps.{there}

module _ {A : Type 0} where
  pushed : (xs : List A) (x y : A) (i : ℕ) → slice_get (xs ++ x ∷ []) i ≡ Some y → (slice_get xs i ≡ Some y) ⊎ ((i ≡ length xs) × (x ≡ y))
  pushed [] x y zero is = inr (refl, (cc))
  pushed [] x y (suc i) is = cc
  pushed (z ∷ xs) x y zero is = inl is
  pushed (z ∷ xs) x y (suc i) is = elim (pushed xs x y i is) [
    | inl found ↦ inl found
    | inr last ↦ inr (ap suc last.0, last.1)
  ]

-- a whole list that was written over
pub written : {A : Type 0} (xs zs : List A) (n : ℕ) → n ≡ length xs → take n (xs ++ zs) ≡ xs
written xs zs n is = ap (λ (k : ℕ). take k (xs ++ zs)) is ∙ take-append_seam xs zs

module _ {M N H : Type 0} (at : H → N → Type 0) (note : N) (callers room calls : ℕ) where
  -- a part as it begins
  pub record IsNewPart (o : Object M N (PartState ℕ) (PoolEvent ℕ) (PoolReply ℕ) H) : Type 0 where
    pub callers_are : object.callers_of o ≡ callers
    pub begun : object.start_of o ≡ part_start room
    pub homed : (home : H) → at home note → object.IsHomeOf at o home

  -- all passes to a part, in the row that stands for it
  pub record IsNewRow (part : ℕ) (o : Object M N (PartState ℕ) (PoolEvent ℕ) (PoolReply ℕ) H) (row : PoolPass N) : Type 0 where
    pub number : row.number ≡ part
    pub left : row.left ≡ calls
    pub new : AreNewBetween tt pool_stands o 0 row.parts.items

  -- so many parts were made
  pub record MadeSo (count : ℕ) (parts : List (Object M N (PartState ℕ) (PoolEvent ℕ) (PoolReply ℕ) H)) (rows : List (PoolPass N)) : Type 0 where
    pub parts_count : length parts ≡ count
    pub rows_count : length rows ≡ count
    pub each : (part : ℕ) (o : Object M N (PartState ℕ) (PoolEvent ℕ) (PoolReply ℕ) H) → slice_get parts part ≡ Some o → IsNewPart o
    pub rows_are : (part : ℕ) (o : Object M N (PartState ℕ) (PoolEvent ℕ) (PoolReply ℕ) H) (row : PoolPass N) → slice_get parts part ≡ Some o → slice_get rows part ≡ Some row → IsNewRow part o row

  pub none_made : MadeSo 0 [] []
  none_made = record { parts_count = refl; rows_count = refl; each = λ part o is. cc; rows_are = λ part o row is at_row. cc }

  pub made_on : (count : ℕ) (parts : List (Object M N (PartState ℕ) (PoolEvent ℕ) (PoolReply ℕ) H)) (rows : List (PoolPass N)) (o : Object M N (PartState ℕ) (PoolEvent ℕ) (PoolReply ℕ) H) (row : PoolPass N) → MadeSo count parts rows → IsNewPart o → IsNewRow count o row
      → MadeSo (count + 1) (parts ++ o ∷ []) (rows ++ row ∷ [])
  made_on count parts rows o row so part_is row_is = record {
    parts_count = length-append parts (o ∷ []) ∙ ap (λ (k : ℕ). k + 1) so.parts_count;
    rows_count = length-append rows (row ∷ []) ∙ ap (λ (k : ℕ). k + 1) so.rows_count;
    each = λ part one at_one. elim (pushed parts o one part at_one) [
      | inl found ↦ so.each part one found
      | inr last ↦ subst (λ (z : Object M N (PartState ℕ) (PoolEvent ℕ) (PoolReply ℕ) H). IsNewPart z) last.1 part_is
    ];
    rows_are = λ part one other at_one at_row. elim (pushed parts o one part at_one) [
      | inl found ↦ elim (pushed rows row other part at_row) [
        | inl here ↦ so.rows_are part one other found here
        | inr last ↦ absurd (let w = slice_get_within parts part one found in let e = last.0 in let p = so.parts_count in let r = so.rows_count in omega arith)
      ]
      | inr last ↦ elim (pushed rows row other part at_row) [
        | inl here ↦ absurd (let w = slice_get_within rows part other here in let e = last.0 in let p = so.parts_count in let r = so.rows_count in omega arith)
        | inr end ↦
            subst (λ (k : ℕ). IsNewRow k one other) (sym (last.0 ∙ so.parts_count))
            (subst (λ (z : PoolPass N). IsNewRow count one z) end.1 (subst (λ (z : Object M N (PartState ℕ) (PoolEvent ℕ) (PoolReply ℕ) H). IsNewRow count z row) last.1 row_is))
      ]
    ];
  }

  pub made_square : (parts : List (Object M N (PartState ℕ) (PoolEvent ℕ) (PoolReply ℕ) H)) (rows : List (PoolPass N)) → MadeSo callers parts rows → IsSquare rows
  made_square parts rows so part row at_row =
      let o = there parts part (let w = slice_get_within rows part row at_row in let p = so.parts_count in let r = so.rows_count in omega arith) in
      (so.rows_are part o.0 row o.1 at_row).new.all.count ∙ ((so.each part o.0 o.1).callers_are ∙ sym so.rows_count)

  pub made_parts : (parts : List (Object M N (PartState ℕ) (PoolEvent ℕ) (PoolReply ℕ) H)) (rows : List (PoolPass N)) → MadeSo callers parts rows → AreParts callers room parts
  made_parts parts rows so = record { count = so.parts_count; callers_are = λ part o is. (so.each part o is).callers_are; begun = λ part o is. (so.each part o is).begun }

  pub made_homes : (parts : List (Object M N (PartState ℕ) (PoolEvent ℕ) (PoolReply ℕ) H)) (rows : List (PoolPass N)) (home : H) → at home note → MadeSo callers parts rows → AreOfHome at parts home
  made_homes parts rows home is so = λ part o found. (so.each part o found).homed home is

-- ---- all passes of a new pool

-- nothing was seen, so all that is shown is lawful
unseen_lawful : {N : Type 0} {start : PartState ℕ} (p : PartPass N) → object.seen_by p ≡ [] → object.own_by p ≡ [] → growth.IsLawful part_next true pool_releases pool_acquires start p
unseen_lawful {N} {start} p seen own = record {
  own = own ∙ sym (ap (by (object.number_of p)) seen);
  follows = subst (λ (l : PartJournal). Follows part_next true start None l) (sym seen) tt;
  edges = subst (λ (l : PartJournal). KeepsEdges pool_releases pool_acquires l) (sym seen) (λ i j x y before at_x at_y frees takes. cc);
  times = subst (λ (l : PartJournal). TimesRise l) (sym seen) (λ i j x y before at_x at_y. cc);
}

module _ {N H : Type 0} (at : H → N → Type 0) (note : N) (calls : ℕ) (pool : Pool N H) where
  -- nobody did anything at a part
  nothing : (what : PartPass N → PartJournal) (o : Option (PartPass N)) → ((p : PartPass N) → o ≡ Some p → what p ≡ []) → option_map_or what o [] ≡ []
  nothing what None each = refl
  nothing what (Some p) each = each p refl

  pub new_passes : (rows passes : List (PoolPass N)) → MadeSo at note pool.callers pool.room calls pool.callers pool.parts.items rows → KeepsRows rows passes → ((i j : ℕ) → cell passes i j ≡ cell rows j i) → AreNew pool calls passes
  new_passes rows passes so kept turned = record {
    all = record { count = kept.count ∙ so.rows_count; each = λ i pass at_pass. (is_pass i pass at_pass, numbered i pass at_pass) };
    left = λ i pass at_pass. let row = row_at i pass at_pass in (kept.each i row.0 pass row.1 at_pass).1 ∙ (row_of i row.0 row.1).left;
    seen = λ i part pass at_pass. nothing object.seen_by (pass_at part pass) (λ p at_p. let f = found i part pass p at_pass at_p in (row_of part f.0 f.1).new.seen i p f.2);
    own = λ i part pass at_pass. nothing object.own_by (pass_at part pass) (λ p at_p. let f = found i part pass p at_pass at_p in (row_of part f.0 f.1).new.own i p f.2);
  } where
    row_at : (i : ℕ) (pass : PoolPass N) → slice_get passes i ≡ Some pass → (row : PoolPass N) × (slice_get rows i ≡ Some row)
    row_at i pass at_pass = there rows i (let w = slice_get_within passes i pass at_pass in let c = kept.count in omega arith)

    object_at : (part : ℕ) (row : PoolPass N) → slice_get rows part ≡ Some row → part < length pool.parts.items
    object_at part row at_row = let w = slice_get_within rows part row at_row in let p = so.parts_count in let r = so.rows_count in omega arith

    row_of : (part : ℕ) (row : PoolPass N) (at_row : slice_get rows part ≡ Some row) → IsNewRow at note pool.callers pool.room calls part (there pool.parts.items part (object_at part row at_row)).0 row
    row_of part row at_row = so.rows_are part (there pool.parts.items part (object_at part row at_row)).0 row (there pool.parts.items part (object_at part row at_row)).1 at_row

    found : (i part : ℕ) (pass : PoolPass N) (p : PartPass N) → slice_get passes i ≡ Some pass → pass_at part pass ≡ Some p → (row : PoolPass N) × (slice_get rows part ≡ Some row) × (pass_at i row ≡ Some p)
    found i part pass p at_pass at_p = cell_found rows part i p (sym (turned i part) ∙ (cell_of passes i part pass at_pass ∙ at_p))

    numbered : (i : ℕ) (pass : PoolPass N) → slice_get passes i ≡ Some pass → number_of pass ≡ i
    numbered i pass at_pass = let row = row_at i pass at_pass in (kept.each i row.0 pass row.1 at_pass).0 ∙ (row_of i row.0 row.1).number

    is_pass : (i : ℕ) (pass : PoolPass N) → slice_get passes i ≡ Some pass → IsPassOf pool pass
    is_pass i pass at_pass =
        let row = row_at i pass at_pass in
        let o = there pool.parts.items i (object_at i row.0 row.1) in record {
          caller = subst (λ (n : ℕ). n < pool.callers) (sym (numbered i pass at_pass)) (let w = slice_get_within rows i row.0 row.1 in let r = so.rows_count in omega arith);
          seats = record {
            count = (kept.each i row.0 pass row.1 at_pass).2 ∙ ((row_of i row.0 row.1).new.all.count ∙ ((so.each i o.0 o.1).callers_are ∙ sym so.parts_count));
            each = λ part one p at_one at_p.
                let f = found i part pass p at_pass at_p in
                let here = (so.rows_are part one f.0 at_one f.1).new.all.each i p f.2 in
                (here.0.of, here.1 ∙ sym (numbered i pass at_pass));
          };
          lawful = λ part p at_p.
              let f = found i part pass p at_pass at_p in
              let row = row_of part f.0 f.1 in
              unseen_lawful p (row.new.seen i p f.2) (row.new.own i p f.2);
        }
