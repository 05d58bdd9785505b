use Rattle.std.proofs.Common.{◌≡◌, ℕ, ℤ, pos, negsuc, ◌^◌, true, Ok, sym, ap, ◌∙◌, subst, to_z, of_z, rules}
use Rattle.std.specs.Int.{w64}
use Rattle.std.specs.Prelude.{FitsSigned}
use Rattle.std.proofs.lemmas.Bool.{lt-ltb}
use Rattle.std.proofs.lemmas.Option.{IfSome_then}
use Rattle.sync_types.specs.declared.atomic_object.AtomicCall.TheVariants.{Add}
use Rattle.sync_types.specs.declared.atomic_object.AtomicKind.TheVariants.{Int64}
use Rattle.sync_types.specs.declared.atomic_object.Number.TheVariants as numbers
use Rattle.sync_types.specs.SequentialAtomic.{is_atomic_call, is_signed}
use Rattle.sync_model.specs.declared.answer.Answer.TheVariants.{Done}
use Rattle.protocols.specs.Spelling.{CallAnswer}
use Rattle.run_record.specs.AtomicKind.{adds}
use Rattle.thread_objects.specs.Working.{Desk, Works}
use Rattle.thread_objects.proofs.Finding.{atomic_has}
use Rattle.thread_objects.proofs.parts.int64.add_at.Goals as goal

-- an int64 takes an amount that fits it
takes_amount : (delta amount : ℤ) → FitsSigned w64 delta → amount ≡ delta → is_atomic_call Int64 (Add (numbers.Int64 amount)) ≡ true
takes_amount (pos n) amount fits is = ap (λ (z : ℤ). is_signed (2 ^ 63) z) is ∙ lt-ltb n (2 ^ 63) fits.sfits
takes_amount (negsuc n) amount fits is = ap (λ (z : ℤ). is_signed (2 ^ 63) z) is ∙ lt-ltb n (2 ^ 63) fits.sfits

-- the same add, by other names of its numbers
adds_as : (m n : ℕ) (amount delta : ℤ) (old new : Desk) (answer : CallAnswer ℤ) → n ≡ m → delta ≡ amount → Works (adds n delta) old answer new → Works (adds m amount) old answer new
adds_as m n amount delta old new answer at same works = subst (λ (k : ℕ). Works (adds k amount) old answer new) at (subst (λ (d : ℤ). Works (adds n d) old answer new) same works)

pub bounds-catalog-place : goal.bounds-catalog-place
bounds-catalog-place g c = c.requires.atomics.within c.args.place Int64 c.requires.place

pub add_int64-requires-clause-call : goal.add_int64-requires-clause-call
add_int64-requires-clause-call g c =
    let fits : to_z w64 (of_z w64 c.args.delta) ≡ c.args.delta = search rules in
    atomic_has c.args.catalog.now.workload.now (g.S.Shared.kinds c.args.catalog.now.shared.now) c.args.catalog.now.numbers.now c.args.place Int64 _ c.requires.atomics c.requires.place (takes_amount c.args.delta (to_z w64 (of_z w64 c.args.delta)) c.ranges.delta fits)

pub returns-clause-called : goal.returns-clause-called
returns-clause-called g c = record { home = c.add_int64.ensures.home; spends = c.add_int64.ensures.spends; calls = c.add_int64.ensures.calls c.args.catalog.now.workload.now (sym c.requires.atomics.all) }

pub returns-clause-works : goal.returns-clause-works
returns-clause-works g c =
    let fits : to_z w64 (of_z w64 c.args.delta) ≡ c.args.delta = search rules in
    let at = c.requires.atomics.number c.args.place Int64 c.requires.place in
    IfSome_then c.add_int64.result c.add_int64.ensures.works (λ sum works owns. adds_as _ _ c.args.delta _ _ _ (Done (Ok sum)) at fits (works owns))

pub offset_bounds-catalog-place : goal.offset_bounds-catalog-place
offset_bounds-catalog-place g c = let within = c.requires.atomics.within c.args.place Int64 c.requires.place in search rules
