-- What a set number is to each channel, and which channels of the code stand for which.
use Rattle.std.proofs.Common.{◌≡◌, ℕ, ◌<◌, Bool, true, false, cond, List, [], Option, Some, None, refl, sym, ap, ◌∙◌, max, arith}
use Rattle.std.specs.Prelude.{◌==◌, ◌&&◌}
use Rattle.std.specs.FinMap.{get, insert, get-insert}
use Rattle.std.specs.Str.{bytes_eq}
use Rattle.std.proofs.lemmas.Bool.{eqb-true, eq-eqb, false≢true}
use Rattle.std.proofs.lemmas.Cmp.{nat_list_cmp_total}
use Rattle.std.proofs.lemmas.Map.Text.{is_eq-slice_cmp}
use Rattle.std.proofs.lemmas.Slice.Eq.{bytes_eq-Decides}
use Rattle.race_clocks.specs.Channels as all
use Rattle.race_clocks.specs.Handing.{is_for, is_each}
use Rattle.race_clocks.specs.Numbering.{keys_at, later, number_of, number_at, IsPut, IsPutIn, IsInserted, IsSetAt, is_replacing}
use Rattle.race_clocks.specs.Places.{at}
use Rattle.race_clocks.specs.Seen.{Named}
use Rattle.race_clocks.specs.declared.channel.Channel.{Channel}
use Rattle.race_clocks.specs.declared.channel.Channel.TheVariants as channels
use Rattle.race_clocks.specs.declared.tables.Tables.{Tables}

no_way : {A : Type 0} → false ≡ true → A
no_way e = absurd (false≢true e)

both_true : (a b : Bool) → (a && b) ≡ true → (a ≡ true) × (b ≡ true)
both_true true b is = (refl, is)
both_true false b is = no_way is

both_so : (a b : Bool) → a ≡ true → b ≡ true → (a && b) ≡ true
both_so a b first second = ap (λ x. x && b) first ∙ second

same_bytes : (a b : List ℕ) → bytes_eq a b ≡ true → a ≡ b
same_bytes a b is = (bytes_eq-Decides a b).0 is

bytes_same : (a : List ℕ) → bytes_eq a a ≡ true
bytes_same a = (bytes_eq-Decides a a).1 refl

-- ---- which stands for which

-- the one for which it stands
abbrev pub of : Channel → all.Channel
of (channels.MutexUnlock m) = all.MutexUnlock m
of (channels.WriterUnlock m) = all.WriterUnlock m
of (channels.ReaderUnlock m) = all.ReaderUnlock m
of (channels.Notice m n) = all.Notice m n
of (channels.Lowering m) = all.Lowering m
of (channels.FunctionEnd m) = all.FunctionEnd m
of (channels.PutItem m n) = all.PutItem m n
of (channels.Start m) = all.Start m
of (channels.Atomic m) = all.Atomic m
of (channels.MapKey m n) = all.MapKey m n
of (channels.EachKey m) = all.MapKey m []

pub replaced_for : (c : all.Channel) (d : Channel) → is_for c d ≡ true → all.is_replaced c ≡ is_replacing d
replaced_for (all.MutexUnlock m1) (channels.MutexUnlock m2) is = refl
replaced_for (all.MutexUnlock m1) (channels.WriterUnlock m2) is = no_way is
replaced_for (all.MutexUnlock m1) (channels.ReaderUnlock m2) is = no_way is
replaced_for (all.MutexUnlock m1) (channels.Notice m2 n2) is = no_way is
replaced_for (all.MutexUnlock m1) (channels.Lowering m2) is = no_way is
replaced_for (all.MutexUnlock m1) (channels.FunctionEnd m2) is = no_way is
replaced_for (all.MutexUnlock m1) (channels.PutItem m2 n2) is = no_way is
replaced_for (all.MutexUnlock m1) (channels.Start m2) is = no_way is
replaced_for (all.MutexUnlock m1) (channels.Atomic m2) is = no_way is
replaced_for (all.MutexUnlock m1) (channels.MapKey m2 n2) is = no_way is
replaced_for (all.MutexUnlock m1) (channels.EachKey m2) is = no_way is
replaced_for (all.WriterUnlock m1) (channels.MutexUnlock m2) is = no_way is
replaced_for (all.WriterUnlock m1) (channels.WriterUnlock m2) is = refl
replaced_for (all.WriterUnlock m1) (channels.ReaderUnlock m2) is = no_way is
replaced_for (all.WriterUnlock m1) (channels.Notice m2 n2) is = no_way is
replaced_for (all.WriterUnlock m1) (channels.Lowering m2) is = no_way is
replaced_for (all.WriterUnlock m1) (channels.FunctionEnd m2) is = no_way is
replaced_for (all.WriterUnlock m1) (channels.PutItem m2 n2) is = no_way is
replaced_for (all.WriterUnlock m1) (channels.Start m2) is = no_way is
replaced_for (all.WriterUnlock m1) (channels.Atomic m2) is = no_way is
replaced_for (all.WriterUnlock m1) (channels.MapKey m2 n2) is = no_way is
replaced_for (all.WriterUnlock m1) (channels.EachKey m2) is = no_way is
replaced_for (all.ReaderUnlock m1) (channels.MutexUnlock m2) is = no_way is
replaced_for (all.ReaderUnlock m1) (channels.WriterUnlock m2) is = no_way is
replaced_for (all.ReaderUnlock m1) (channels.ReaderUnlock m2) is = refl
replaced_for (all.ReaderUnlock m1) (channels.Notice m2 n2) is = no_way is
replaced_for (all.ReaderUnlock m1) (channels.Lowering m2) is = no_way is
replaced_for (all.ReaderUnlock m1) (channels.FunctionEnd m2) is = no_way is
replaced_for (all.ReaderUnlock m1) (channels.PutItem m2 n2) is = no_way is
replaced_for (all.ReaderUnlock m1) (channels.Start m2) is = no_way is
replaced_for (all.ReaderUnlock m1) (channels.Atomic m2) is = no_way is
replaced_for (all.ReaderUnlock m1) (channels.MapKey m2 n2) is = no_way is
replaced_for (all.ReaderUnlock m1) (channels.EachKey m2) is = no_way is
replaced_for (all.Notice m1 n1) (channels.MutexUnlock m2) is = no_way is
replaced_for (all.Notice m1 n1) (channels.WriterUnlock m2) is = no_way is
replaced_for (all.Notice m1 n1) (channels.ReaderUnlock m2) is = no_way is
replaced_for (all.Notice m1 n1) (channels.Notice m2 n2) is = refl
replaced_for (all.Notice m1 n1) (channels.Lowering m2) is = no_way is
replaced_for (all.Notice m1 n1) (channels.FunctionEnd m2) is = no_way is
replaced_for (all.Notice m1 n1) (channels.PutItem m2 n2) is = no_way is
replaced_for (all.Notice m1 n1) (channels.Start m2) is = no_way is
replaced_for (all.Notice m1 n1) (channels.Atomic m2) is = no_way is
replaced_for (all.Notice m1 n1) (channels.MapKey m2 n2) is = no_way is
replaced_for (all.Notice m1 n1) (channels.EachKey m2) is = no_way is
replaced_for (all.Lowering m1) (channels.MutexUnlock m2) is = no_way is
replaced_for (all.Lowering m1) (channels.WriterUnlock m2) is = no_way is
replaced_for (all.Lowering m1) (channels.ReaderUnlock m2) is = no_way is
replaced_for (all.Lowering m1) (channels.Notice m2 n2) is = no_way is
replaced_for (all.Lowering m1) (channels.Lowering m2) is = refl
replaced_for (all.Lowering m1) (channels.FunctionEnd m2) is = no_way is
replaced_for (all.Lowering m1) (channels.PutItem m2 n2) is = no_way is
replaced_for (all.Lowering m1) (channels.Start m2) is = no_way is
replaced_for (all.Lowering m1) (channels.Atomic m2) is = no_way is
replaced_for (all.Lowering m1) (channels.MapKey m2 n2) is = no_way is
replaced_for (all.Lowering m1) (channels.EachKey m2) is = no_way is
replaced_for (all.FunctionEnd m1) (channels.MutexUnlock m2) is = no_way is
replaced_for (all.FunctionEnd m1) (channels.WriterUnlock m2) is = no_way is
replaced_for (all.FunctionEnd m1) (channels.ReaderUnlock m2) is = no_way is
replaced_for (all.FunctionEnd m1) (channels.Notice m2 n2) is = no_way is
replaced_for (all.FunctionEnd m1) (channels.Lowering m2) is = no_way is
replaced_for (all.FunctionEnd m1) (channels.FunctionEnd m2) is = refl
replaced_for (all.FunctionEnd m1) (channels.PutItem m2 n2) is = no_way is
replaced_for (all.FunctionEnd m1) (channels.Start m2) is = no_way is
replaced_for (all.FunctionEnd m1) (channels.Atomic m2) is = no_way is
replaced_for (all.FunctionEnd m1) (channels.MapKey m2 n2) is = no_way is
replaced_for (all.FunctionEnd m1) (channels.EachKey m2) is = no_way is
replaced_for (all.PutItem m1 n1) (channels.MutexUnlock m2) is = no_way is
replaced_for (all.PutItem m1 n1) (channels.WriterUnlock m2) is = no_way is
replaced_for (all.PutItem m1 n1) (channels.ReaderUnlock m2) is = no_way is
replaced_for (all.PutItem m1 n1) (channels.Notice m2 n2) is = no_way is
replaced_for (all.PutItem m1 n1) (channels.Lowering m2) is = no_way is
replaced_for (all.PutItem m1 n1) (channels.FunctionEnd m2) is = no_way is
replaced_for (all.PutItem m1 n1) (channels.PutItem m2 n2) is = refl
replaced_for (all.PutItem m1 n1) (channels.Start m2) is = no_way is
replaced_for (all.PutItem m1 n1) (channels.Atomic m2) is = no_way is
replaced_for (all.PutItem m1 n1) (channels.MapKey m2 n2) is = no_way is
replaced_for (all.PutItem m1 n1) (channels.EachKey m2) is = no_way is
replaced_for (all.Start m1) (channels.MutexUnlock m2) is = no_way is
replaced_for (all.Start m1) (channels.WriterUnlock m2) is = no_way is
replaced_for (all.Start m1) (channels.ReaderUnlock m2) is = no_way is
replaced_for (all.Start m1) (channels.Notice m2 n2) is = no_way is
replaced_for (all.Start m1) (channels.Lowering m2) is = no_way is
replaced_for (all.Start m1) (channels.FunctionEnd m2) is = no_way is
replaced_for (all.Start m1) (channels.PutItem m2 n2) is = no_way is
replaced_for (all.Start m1) (channels.Start m2) is = refl
replaced_for (all.Start m1) (channels.Atomic m2) is = no_way is
replaced_for (all.Start m1) (channels.MapKey m2 n2) is = no_way is
replaced_for (all.Start m1) (channels.EachKey m2) is = no_way is
replaced_for (all.Atomic m1) (channels.MutexUnlock m2) is = no_way is
replaced_for (all.Atomic m1) (channels.WriterUnlock m2) is = no_way is
replaced_for (all.Atomic m1) (channels.ReaderUnlock m2) is = no_way is
replaced_for (all.Atomic m1) (channels.Notice m2 n2) is = no_way is
replaced_for (all.Atomic m1) (channels.Lowering m2) is = no_way is
replaced_for (all.Atomic m1) (channels.FunctionEnd m2) is = no_way is
replaced_for (all.Atomic m1) (channels.PutItem m2 n2) is = no_way is
replaced_for (all.Atomic m1) (channels.Start m2) is = no_way is
replaced_for (all.Atomic m1) (channels.Atomic m2) is = refl
replaced_for (all.Atomic m1) (channels.MapKey m2 n2) is = no_way is
replaced_for (all.Atomic m1) (channels.EachKey m2) is = no_way is
replaced_for (all.MapKey m1 n1) (channels.MutexUnlock m2) is = no_way is
replaced_for (all.MapKey m1 n1) (channels.WriterUnlock m2) is = no_way is
replaced_for (all.MapKey m1 n1) (channels.ReaderUnlock m2) is = no_way is
replaced_for (all.MapKey m1 n1) (channels.Notice m2 n2) is = no_way is
replaced_for (all.MapKey m1 n1) (channels.Lowering m2) is = no_way is
replaced_for (all.MapKey m1 n1) (channels.FunctionEnd m2) is = no_way is
replaced_for (all.MapKey m1 n1) (channels.PutItem m2 n2) is = no_way is
replaced_for (all.MapKey m1 n1) (channels.Start m2) is = no_way is
replaced_for (all.MapKey m1 n1) (channels.Atomic m2) is = no_way is
replaced_for (all.MapKey m1 n1) (channels.MapKey m2 n2) is = refl
replaced_for (all.MapKey m1 n1) (channels.EachKey m2) is = refl

pub is_of : (c : all.Channel) (d : Channel) → is_for c d ≡ true → is_each d ≡ false → c ≡ of d
is_of (all.MutexUnlock m1) (channels.MutexUnlock m2) is one = ap (λ x. all.MutexUnlock x) (sym (eqb-true m2 m1 is))
is_of (all.MutexUnlock m1) (channels.WriterUnlock m2) is one = no_way is
is_of (all.MutexUnlock m1) (channels.ReaderUnlock m2) is one = no_way is
is_of (all.MutexUnlock m1) (channels.Notice m2 n2) is one = no_way is
is_of (all.MutexUnlock m1) (channels.Lowering m2) is one = no_way is
is_of (all.MutexUnlock m1) (channels.FunctionEnd m2) is one = no_way is
is_of (all.MutexUnlock m1) (channels.PutItem m2 n2) is one = no_way is
is_of (all.MutexUnlock m1) (channels.Start m2) is one = no_way is
is_of (all.MutexUnlock m1) (channels.Atomic m2) is one = no_way is
is_of (all.MutexUnlock m1) (channels.MapKey m2 n2) is one = no_way is
is_of (all.MutexUnlock m1) (channels.EachKey m2) is one = no_way (sym one)
is_of (all.WriterUnlock m1) (channels.MutexUnlock m2) is one = no_way is
is_of (all.WriterUnlock m1) (channels.WriterUnlock m2) is one = ap (λ x. all.WriterUnlock x) (sym (eqb-true m2 m1 is))
is_of (all.WriterUnlock m1) (channels.ReaderUnlock m2) is one = no_way is
is_of (all.WriterUnlock m1) (channels.Notice m2 n2) is one = no_way is
is_of (all.WriterUnlock m1) (channels.Lowering m2) is one = no_way is
is_of (all.WriterUnlock m1) (channels.FunctionEnd m2) is one = no_way is
is_of (all.WriterUnlock m1) (channels.PutItem m2 n2) is one = no_way is
is_of (all.WriterUnlock m1) (channels.Start m2) is one = no_way is
is_of (all.WriterUnlock m1) (channels.Atomic m2) is one = no_way is
is_of (all.WriterUnlock m1) (channels.MapKey m2 n2) is one = no_way is
is_of (all.WriterUnlock m1) (channels.EachKey m2) is one = no_way (sym one)
is_of (all.ReaderUnlock m1) (channels.MutexUnlock m2) is one = no_way is
is_of (all.ReaderUnlock m1) (channels.WriterUnlock m2) is one = no_way is
is_of (all.ReaderUnlock m1) (channels.ReaderUnlock m2) is one = ap (λ x. all.ReaderUnlock x) (sym (eqb-true m2 m1 is))
is_of (all.ReaderUnlock m1) (channels.Notice m2 n2) is one = no_way is
is_of (all.ReaderUnlock m1) (channels.Lowering m2) is one = no_way is
is_of (all.ReaderUnlock m1) (channels.FunctionEnd m2) is one = no_way is
is_of (all.ReaderUnlock m1) (channels.PutItem m2 n2) is one = no_way is
is_of (all.ReaderUnlock m1) (channels.Start m2) is one = no_way is
is_of (all.ReaderUnlock m1) (channels.Atomic m2) is one = no_way is
is_of (all.ReaderUnlock m1) (channels.MapKey m2 n2) is one = no_way is
is_of (all.ReaderUnlock m1) (channels.EachKey m2) is one = no_way (sym one)
is_of (all.Notice m1 n1) (channels.MutexUnlock m2) is one = no_way is
is_of (all.Notice m1 n1) (channels.WriterUnlock m2) is one = no_way is
is_of (all.Notice m1 n1) (channels.ReaderUnlock m2) is one = no_way is
is_of (all.Notice m1 n1) (channels.Notice m2 n2) is one = let both = both_true (m2 == m1) (n2 == n1) is in ap (λ x. all.Notice x n1) (sym (eqb-true m2 m1 both.0)) ∙ ap (λ x. all.Notice m2 x) (sym (eqb-true n2 n1 both.1))
is_of (all.Notice m1 n1) (channels.Lowering m2) is one = no_way is
is_of (all.Notice m1 n1) (channels.FunctionEnd m2) is one = no_way is
is_of (all.Notice m1 n1) (channels.PutItem m2 n2) is one = no_way is
is_of (all.Notice m1 n1) (channels.Start m2) is one = no_way is
is_of (all.Notice m1 n1) (channels.Atomic m2) is one = no_way is
is_of (all.Notice m1 n1) (channels.MapKey m2 n2) is one = no_way is
is_of (all.Notice m1 n1) (channels.EachKey m2) is one = no_way (sym one)
is_of (all.Lowering m1) (channels.MutexUnlock m2) is one = no_way is
is_of (all.Lowering m1) (channels.WriterUnlock m2) is one = no_way is
is_of (all.Lowering m1) (channels.ReaderUnlock m2) is one = no_way is
is_of (all.Lowering m1) (channels.Notice m2 n2) is one = no_way is
is_of (all.Lowering m1) (channels.Lowering m2) is one = ap (λ x. all.Lowering x) (sym (eqb-true m2 m1 is))
is_of (all.Lowering m1) (channels.FunctionEnd m2) is one = no_way is
is_of (all.Lowering m1) (channels.PutItem m2 n2) is one = no_way is
is_of (all.Lowering m1) (channels.Start m2) is one = no_way is
is_of (all.Lowering m1) (channels.Atomic m2) is one = no_way is
is_of (all.Lowering m1) (channels.MapKey m2 n2) is one = no_way is
is_of (all.Lowering m1) (channels.EachKey m2) is one = no_way (sym one)
is_of (all.FunctionEnd m1) (channels.MutexUnlock m2) is one = no_way is
is_of (all.FunctionEnd m1) (channels.WriterUnlock m2) is one = no_way is
is_of (all.FunctionEnd m1) (channels.ReaderUnlock m2) is one = no_way is
is_of (all.FunctionEnd m1) (channels.Notice m2 n2) is one = no_way is
is_of (all.FunctionEnd m1) (channels.Lowering m2) is one = no_way is
is_of (all.FunctionEnd m1) (channels.FunctionEnd m2) is one = ap (λ x. all.FunctionEnd x) (sym (eqb-true m2 m1 is))
is_of (all.FunctionEnd m1) (channels.PutItem m2 n2) is one = no_way is
is_of (all.FunctionEnd m1) (channels.Start m2) is one = no_way is
is_of (all.FunctionEnd m1) (channels.Atomic m2) is one = no_way is
is_of (all.FunctionEnd m1) (channels.MapKey m2 n2) is one = no_way is
is_of (all.FunctionEnd m1) (channels.EachKey m2) is one = no_way (sym one)
is_of (all.PutItem m1 n1) (channels.MutexUnlock m2) is one = no_way is
is_of (all.PutItem m1 n1) (channels.WriterUnlock m2) is one = no_way is
is_of (all.PutItem m1 n1) (channels.ReaderUnlock m2) is one = no_way is
is_of (all.PutItem m1 n1) (channels.Notice m2 n2) is one = no_way is
is_of (all.PutItem m1 n1) (channels.Lowering m2) is one = no_way is
is_of (all.PutItem m1 n1) (channels.FunctionEnd m2) is one = no_way is
is_of (all.PutItem m1 n1) (channels.PutItem m2 n2) is one = let both = both_true (m2 == m1) (n2 == n1) is in ap (λ x. all.PutItem x n1) (sym (eqb-true m2 m1 both.0)) ∙ ap (λ x. all.PutItem m2 x) (sym (eqb-true n2 n1 both.1))
is_of (all.PutItem m1 n1) (channels.Start m2) is one = no_way is
is_of (all.PutItem m1 n1) (channels.Atomic m2) is one = no_way is
is_of (all.PutItem m1 n1) (channels.MapKey m2 n2) is one = no_way is
is_of (all.PutItem m1 n1) (channels.EachKey m2) is one = no_way (sym one)
is_of (all.Start m1) (channels.MutexUnlock m2) is one = no_way is
is_of (all.Start m1) (channels.WriterUnlock m2) is one = no_way is
is_of (all.Start m1) (channels.ReaderUnlock m2) is one = no_way is
is_of (all.Start m1) (channels.Notice m2 n2) is one = no_way is
is_of (all.Start m1) (channels.Lowering m2) is one = no_way is
is_of (all.Start m1) (channels.FunctionEnd m2) is one = no_way is
is_of (all.Start m1) (channels.PutItem m2 n2) is one = no_way is
is_of (all.Start m1) (channels.Start m2) is one = ap (λ x. all.Start x) (sym (eqb-true m2 m1 is))
is_of (all.Start m1) (channels.Atomic m2) is one = no_way is
is_of (all.Start m1) (channels.MapKey m2 n2) is one = no_way is
is_of (all.Start m1) (channels.EachKey m2) is one = no_way (sym one)
is_of (all.Atomic m1) (channels.MutexUnlock m2) is one = no_way is
is_of (all.Atomic m1) (channels.WriterUnlock m2) is one = no_way is
is_of (all.Atomic m1) (channels.ReaderUnlock m2) is one = no_way is
is_of (all.Atomic m1) (channels.Notice m2 n2) is one = no_way is
is_of (all.Atomic m1) (channels.Lowering m2) is one = no_way is
is_of (all.Atomic m1) (channels.FunctionEnd m2) is one = no_way is
is_of (all.Atomic m1) (channels.PutItem m2 n2) is one = no_way is
is_of (all.Atomic m1) (channels.Start m2) is one = no_way is
is_of (all.Atomic m1) (channels.Atomic m2) is one = ap (λ x. all.Atomic x) (sym (eqb-true m2 m1 is))
is_of (all.Atomic m1) (channels.MapKey m2 n2) is one = no_way is
is_of (all.Atomic m1) (channels.EachKey m2) is one = no_way (sym one)
is_of (all.MapKey m1 n1) (channels.MutexUnlock m2) is one = no_way is
is_of (all.MapKey m1 n1) (channels.WriterUnlock m2) is one = no_way is
is_of (all.MapKey m1 n1) (channels.ReaderUnlock m2) is one = no_way is
is_of (all.MapKey m1 n1) (channels.Notice m2 n2) is one = no_way is
is_of (all.MapKey m1 n1) (channels.Lowering m2) is one = no_way is
is_of (all.MapKey m1 n1) (channels.FunctionEnd m2) is one = no_way is
is_of (all.MapKey m1 n1) (channels.PutItem m2 n2) is one = no_way is
is_of (all.MapKey m1 n1) (channels.Start m2) is one = no_way is
is_of (all.MapKey m1 n1) (channels.Atomic m2) is one = no_way is
is_of (all.MapKey m1 n1) (channels.MapKey m2 n2) is one = let both = both_true (m2 == m1) (bytes_eq n1 n2) is in ap (λ x. all.MapKey x n1) (sym (eqb-true m2 m1 both.0)) ∙ ap (λ x. all.MapKey m2 x) (same_bytes n1 n2 both.1)
is_of (all.MapKey m1 n1) (channels.EachKey m2) is one = no_way (sym one)

pub stands_for : (d : Channel) → is_each d ≡ false → is_for (of d) d ≡ true
stands_for (channels.MutexUnlock m) one = eq-eqb m m refl
stands_for (channels.WriterUnlock m) one = eq-eqb m m refl
stands_for (channels.ReaderUnlock m) one = eq-eqb m m refl
stands_for (channels.Notice m n) one = both_so (m == m) (n == n) (eq-eqb m m refl) (eq-eqb n n refl)
stands_for (channels.Lowering m) one = eq-eqb m m refl
stands_for (channels.FunctionEnd m) one = eq-eqb m m refl
stands_for (channels.PutItem m n) one = both_so (m == m) (n == n) (eq-eqb m m refl) (eq-eqb n n refl)
stands_for (channels.Start m) one = eq-eqb m m refl
stands_for (channels.Atomic m) one = eq-eqb m m refl
stands_for (channels.MapKey m n) one = both_so (m == m) (bytes_eq n n) (eq-eqb m m refl) (bytes_same n)
stands_for (channels.EachKey m) one = eq-eqb m m refl

pub number_by : (t : Tables) (d : Channel) → is_each d ≡ false → number_of t (of d) ≡ number_at t d
number_by t (channels.MutexUnlock m) one = refl
number_by t (channels.WriterUnlock m) one = refl
number_by t (channels.ReaderUnlock m) one = refl
number_by t (channels.Notice m n) one = refl
number_by t (channels.Lowering m) one = refl
number_by t (channels.FunctionEnd m) one = refl
number_by t (channels.PutItem m n) one = refl
number_by t (channels.Start m) one = refl
number_by t (channels.Atomic m) one = refl
number_by t (channels.MapKey m n) one = refl
number_by t (channels.EachKey m) one = no_way (sym one)

pub not_each : (d : Channel) → is_replacing d ≡ false → is_each d ≡ false
not_each (channels.MutexUnlock m) is = refl
not_each (channels.WriterUnlock m) is = refl
not_each (channels.ReaderUnlock m) is = refl
not_each (channels.Notice m n) is = refl
not_each (channels.Lowering m) is = refl
not_each (channels.FunctionEnd m) is = refl
not_each (channels.PutItem m n) is = refl
not_each (channels.Start m) is = refl
not_each (channels.Atomic m) is = refl
not_each (channels.MapKey m n) is = refl
not_each (channels.EachKey m) is = no_way (sym is)

pub each_none : (t : Tables) (d : Channel) → is_each d ≡ true → number_at t d ≡ None
each_none t (channels.MutexUnlock m) is = no_way is
each_none t (channels.WriterUnlock m) is = no_way is
each_none t (channels.ReaderUnlock m) is = no_way is
each_none t (channels.Notice m n) is = no_way is
each_none t (channels.Lowering m) is = no_way is
each_none t (channels.FunctionEnd m) is = no_way is
each_none t (channels.PutItem m n) is = no_way is
each_none t (channels.Start m) is = no_way is
each_none t (channels.Atomic m) is = no_way is
each_none t (channels.MapKey m n) is = no_way is
each_none t (channels.EachKey m) is = refl

-- ---- what is set

module _ (v : ℕ) (old new : Tables) where
  abbrev IsSetBy : Channel → all.Channel → Type 0
  IsSetBy d c = number_of new c ≡ cond (is_for c d) (Some v) (number_of old c)

  set_mutexes : (m : ℕ) → new ≡ record old { mutexes = new.mutexes } → IsPut m v old.mutexes new.mutexes → (c : all.Channel) → IsSetBy (channels.MutexUnlock m) c
  set_mutexes m is put (all.MutexUnlock m1) = put m1
  set_mutexes m is put (all.WriterUnlock m1) = ap (λ (t : Tables). number_of t (all.WriterUnlock m1)) is
  set_mutexes m is put (all.ReaderUnlock m1) = ap (λ (t : Tables). number_of t (all.ReaderUnlock m1)) is
  set_mutexes m is put (all.Notice m1 n1) = ap (λ (t : Tables). number_of t (all.Notice m1 n1)) is
  set_mutexes m is put (all.Lowering m1) = ap (λ (t : Tables). number_of t (all.Lowering m1)) is
  set_mutexes m is put (all.FunctionEnd m1) = ap (λ (t : Tables). number_of t (all.FunctionEnd m1)) is
  set_mutexes m is put (all.PutItem m1 n1) = ap (λ (t : Tables). number_of t (all.PutItem m1 n1)) is
  set_mutexes m is put (all.Start m1) = ap (λ (t : Tables). number_of t (all.Start m1)) is
  set_mutexes m is put (all.Atomic m1) = ap (λ (t : Tables). number_of t (all.Atomic m1)) is
  set_mutexes m is put (all.MapKey m1 n1) = ap (λ (t : Tables). number_of t (all.MapKey m1 n1)) is

  set_writers : (m : ℕ) → new ≡ record old { writers = new.writers } → IsPut m v old.writers new.writers → (c : all.Channel) → IsSetBy (channels.WriterUnlock m) c
  set_writers m is put (all.MutexUnlock m1) = ap (λ (t : Tables). number_of t (all.MutexUnlock m1)) is
  set_writers m is put (all.WriterUnlock m1) = put m1
  set_writers m is put (all.ReaderUnlock m1) = ap (λ (t : Tables). number_of t (all.ReaderUnlock m1)) is
  set_writers m is put (all.Notice m1 n1) = ap (λ (t : Tables). number_of t (all.Notice m1 n1)) is
  set_writers m is put (all.Lowering m1) = ap (λ (t : Tables). number_of t (all.Lowering m1)) is
  set_writers m is put (all.FunctionEnd m1) = ap (λ (t : Tables). number_of t (all.FunctionEnd m1)) is
  set_writers m is put (all.PutItem m1 n1) = ap (λ (t : Tables). number_of t (all.PutItem m1 n1)) is
  set_writers m is put (all.Start m1) = ap (λ (t : Tables). number_of t (all.Start m1)) is
  set_writers m is put (all.Atomic m1) = ap (λ (t : Tables). number_of t (all.Atomic m1)) is
  set_writers m is put (all.MapKey m1 n1) = ap (λ (t : Tables). number_of t (all.MapKey m1 n1)) is

  set_readers : (m : ℕ) → new ≡ record old { readers = new.readers } → IsPut m v old.readers new.readers → (c : all.Channel) → IsSetBy (channels.ReaderUnlock m) c
  set_readers m is put (all.MutexUnlock m1) = ap (λ (t : Tables). number_of t (all.MutexUnlock m1)) is
  set_readers m is put (all.WriterUnlock m1) = ap (λ (t : Tables). number_of t (all.WriterUnlock m1)) is
  set_readers m is put (all.ReaderUnlock m1) = put m1
  set_readers m is put (all.Notice m1 n1) = ap (λ (t : Tables). number_of t (all.Notice m1 n1)) is
  set_readers m is put (all.Lowering m1) = ap (λ (t : Tables). number_of t (all.Lowering m1)) is
  set_readers m is put (all.FunctionEnd m1) = ap (λ (t : Tables). number_of t (all.FunctionEnd m1)) is
  set_readers m is put (all.PutItem m1 n1) = ap (λ (t : Tables). number_of t (all.PutItem m1 n1)) is
  set_readers m is put (all.Start m1) = ap (λ (t : Tables). number_of t (all.Start m1)) is
  set_readers m is put (all.Atomic m1) = ap (λ (t : Tables). number_of t (all.Atomic m1)) is
  set_readers m is put (all.MapKey m1 n1) = ap (λ (t : Tables). number_of t (all.MapKey m1 n1)) is

  set_notices : (m n : ℕ) → new ≡ record old { notices = new.notices } → IsPutIn m n v old.notices new.notices → (c : all.Channel) → IsSetBy (channels.Notice m n) c
  set_notices m n is put (all.MutexUnlock m1) = ap (λ (t : Tables). number_of t (all.MutexUnlock m1)) is
  set_notices m n is put (all.WriterUnlock m1) = ap (λ (t : Tables). number_of t (all.WriterUnlock m1)) is
  set_notices m n is put (all.ReaderUnlock m1) = ap (λ (t : Tables). number_of t (all.ReaderUnlock m1)) is
  set_notices m n is put (all.Notice m1 n1) = put m1 n1
  set_notices m n is put (all.Lowering m1) = ap (λ (t : Tables). number_of t (all.Lowering m1)) is
  set_notices m n is put (all.FunctionEnd m1) = ap (λ (t : Tables). number_of t (all.FunctionEnd m1)) is
  set_notices m n is put (all.PutItem m1 n1) = ap (λ (t : Tables). number_of t (all.PutItem m1 n1)) is
  set_notices m n is put (all.Start m1) = ap (λ (t : Tables). number_of t (all.Start m1)) is
  set_notices m n is put (all.Atomic m1) = ap (λ (t : Tables). number_of t (all.Atomic m1)) is
  set_notices m n is put (all.MapKey m1 n1) = ap (λ (t : Tables). number_of t (all.MapKey m1 n1)) is

  set_groups : (m : ℕ) → new ≡ record old { groups = new.groups } → IsPut m v old.groups new.groups → (c : all.Channel) → IsSetBy (channels.Lowering m) c
  set_groups m is put (all.MutexUnlock m1) = ap (λ (t : Tables). number_of t (all.MutexUnlock m1)) is
  set_groups m is put (all.WriterUnlock m1) = ap (λ (t : Tables). number_of t (all.WriterUnlock m1)) is
  set_groups m is put (all.ReaderUnlock m1) = ap (λ (t : Tables). number_of t (all.ReaderUnlock m1)) is
  set_groups m is put (all.Notice m1 n1) = ap (λ (t : Tables). number_of t (all.Notice m1 n1)) is
  set_groups m is put (all.Lowering m1) = put m1
  set_groups m is put (all.FunctionEnd m1) = ap (λ (t : Tables). number_of t (all.FunctionEnd m1)) is
  set_groups m is put (all.PutItem m1 n1) = ap (λ (t : Tables). number_of t (all.PutItem m1 n1)) is
  set_groups m is put (all.Start m1) = ap (λ (t : Tables). number_of t (all.Start m1)) is
  set_groups m is put (all.Atomic m1) = ap (λ (t : Tables). number_of t (all.Atomic m1)) is
  set_groups m is put (all.MapKey m1 n1) = ap (λ (t : Tables). number_of t (all.MapKey m1 n1)) is

  set_onces : (m : ℕ) → new ≡ record old { onces = new.onces } → IsPut m v old.onces new.onces → (c : all.Channel) → IsSetBy (channels.FunctionEnd m) c
  set_onces m is put (all.MutexUnlock m1) = ap (λ (t : Tables). number_of t (all.MutexUnlock m1)) is
  set_onces m is put (all.WriterUnlock m1) = ap (λ (t : Tables). number_of t (all.WriterUnlock m1)) is
  set_onces m is put (all.ReaderUnlock m1) = ap (λ (t : Tables). number_of t (all.ReaderUnlock m1)) is
  set_onces m is put (all.Notice m1 n1) = ap (λ (t : Tables). number_of t (all.Notice m1 n1)) is
  set_onces m is put (all.Lowering m1) = ap (λ (t : Tables). number_of t (all.Lowering m1)) is
  set_onces m is put (all.FunctionEnd m1) = put m1
  set_onces m is put (all.PutItem m1 n1) = ap (λ (t : Tables). number_of t (all.PutItem m1 n1)) is
  set_onces m is put (all.Start m1) = ap (λ (t : Tables). number_of t (all.Start m1)) is
  set_onces m is put (all.Atomic m1) = ap (λ (t : Tables). number_of t (all.Atomic m1)) is
  set_onces m is put (all.MapKey m1 n1) = ap (λ (t : Tables). number_of t (all.MapKey m1 n1)) is

  set_puts : (m n : ℕ) → new ≡ record old { puts = new.puts } → IsPutIn m n v old.puts new.puts → (c : all.Channel) → IsSetBy (channels.PutItem m n) c
  set_puts m n is put (all.MutexUnlock m1) = ap (λ (t : Tables). number_of t (all.MutexUnlock m1)) is
  set_puts m n is put (all.WriterUnlock m1) = ap (λ (t : Tables). number_of t (all.WriterUnlock m1)) is
  set_puts m n is put (all.ReaderUnlock m1) = ap (λ (t : Tables). number_of t (all.ReaderUnlock m1)) is
  set_puts m n is put (all.Notice m1 n1) = ap (λ (t : Tables). number_of t (all.Notice m1 n1)) is
  set_puts m n is put (all.Lowering m1) = ap (λ (t : Tables). number_of t (all.Lowering m1)) is
  set_puts m n is put (all.FunctionEnd m1) = ap (λ (t : Tables). number_of t (all.FunctionEnd m1)) is
  set_puts m n is put (all.PutItem m1 n1) = put m1 n1
  set_puts m n is put (all.Start m1) = ap (λ (t : Tables). number_of t (all.Start m1)) is
  set_puts m n is put (all.Atomic m1) = ap (λ (t : Tables). number_of t (all.Atomic m1)) is
  set_puts m n is put (all.MapKey m1 n1) = ap (λ (t : Tables). number_of t (all.MapKey m1 n1)) is

  set_starts : (m : ℕ) → new ≡ record old { starts = new.starts } → IsPut m v old.starts new.starts → (c : all.Channel) → IsSetBy (channels.Start m) c
  set_starts m is put (all.MutexUnlock m1) = ap (λ (t : Tables). number_of t (all.MutexUnlock m1)) is
  set_starts m is put (all.WriterUnlock m1) = ap (λ (t : Tables). number_of t (all.WriterUnlock m1)) is
  set_starts m is put (all.ReaderUnlock m1) = ap (λ (t : Tables). number_of t (all.ReaderUnlock m1)) is
  set_starts m is put (all.Notice m1 n1) = ap (λ (t : Tables). number_of t (all.Notice m1 n1)) is
  set_starts m is put (all.Lowering m1) = ap (λ (t : Tables). number_of t (all.Lowering m1)) is
  set_starts m is put (all.FunctionEnd m1) = ap (λ (t : Tables). number_of t (all.FunctionEnd m1)) is
  set_starts m is put (all.PutItem m1 n1) = ap (λ (t : Tables). number_of t (all.PutItem m1 n1)) is
  set_starts m is put (all.Start m1) = put m1
  set_starts m is put (all.Atomic m1) = ap (λ (t : Tables). number_of t (all.Atomic m1)) is
  set_starts m is put (all.MapKey m1 n1) = ap (λ (t : Tables). number_of t (all.MapKey m1 n1)) is

  set_atomics : (m : ℕ) → new ≡ record old { atomics = new.atomics } → IsPut m v old.atomics new.atomics → (c : all.Channel) → IsSetBy (channels.Atomic m) c
  set_atomics m is put (all.MutexUnlock m1) = ap (λ (t : Tables). number_of t (all.MutexUnlock m1)) is
  set_atomics m is put (all.WriterUnlock m1) = ap (λ (t : Tables). number_of t (all.WriterUnlock m1)) is
  set_atomics m is put (all.ReaderUnlock m1) = ap (λ (t : Tables). number_of t (all.ReaderUnlock m1)) is
  set_atomics m is put (all.Notice m1 n1) = ap (λ (t : Tables). number_of t (all.Notice m1 n1)) is
  set_atomics m is put (all.Lowering m1) = ap (λ (t : Tables). number_of t (all.Lowering m1)) is
  set_atomics m is put (all.FunctionEnd m1) = ap (λ (t : Tables). number_of t (all.FunctionEnd m1)) is
  set_atomics m is put (all.PutItem m1 n1) = ap (λ (t : Tables). number_of t (all.PutItem m1 n1)) is
  set_atomics m is put (all.Start m1) = ap (λ (t : Tables). number_of t (all.Start m1)) is
  set_atomics m is put (all.Atomic m1) = put m1
  set_atomics m is put (all.MapKey m1 n1) = ap (λ (t : Tables). number_of t (all.MapKey m1 n1)) is

  -- the number is above all that there are
  module _ (below : (c : all.Channel) (number : ℕ) → number_of old c ≡ Some number → number < v) where
    above_own : (own : Option ℕ) (clear : Option ℕ) → ((number : ℕ) → later own clear ≡ Some number → number < v) → later (Some v) clear ≡ Some v
    above_own own None less = refl
    above_own None (Some b) less = let under = less b refl in ap Some (omega (arith, under))
    above_own (Some a) (Some b) less = let under = less (max a b) refl in ap Some (omega (arith, under))

    above_clear : (own : Option ℕ) (clear : Option ℕ) → ((number : ℕ) → later own clear ≡ Some number → number < v) → later own (Some v) ≡ Some v
    above_clear None clear less = refl
    above_clear (Some a) None less = let under = less a refl in ap Some (omega (arith, under))
    above_clear (Some a) (Some b) less = let under = less (max a b) refl in ap Some (omega (arith, under))

    by_key : (b : Bool) (own clear : Option ℕ) → ((number : ℕ) → later own clear ≡ Some number → number < v) → later (cond b (Some v) own) clear ≡ cond b (Some v) (later own clear)
    by_key true own clear less = above_own own clear less
    by_key false own clear less = refl

    by_map : (m q : ℕ) (key k : List ℕ) (same : Bool) → (m == q) ≡ same
        → later (get (cond same (insert (keys_at old.keys m) key v) (keys_at old.keys q)) k) (at old.clears q) ≡ cond (same && bytes_eq k key) (Some v) (later (get (keys_at old.keys q) k) (at old.clears q))
    by_map m q key k false apart = refl
    by_map m q key k true same =
        ap (λ own. later own (at old.clears q)) (get-insert nat_list_cmp_total (keys_at old.keys m) key v k ∙ ap (λ b. cond b (Some v) (get (keys_at old.keys m) k)) (is_eq-slice_cmp k key) ∙ ap (λ x. cond (bytes_eq k key) (Some v) (get (keys_at old.keys x) k)) (eqb-true m q same))
        ∙ by_key (bytes_eq k key) (get (keys_at old.keys q) k) (at old.clears q) (λ number is. below (all.MapKey q k) number is)

    by_clear : (m q : ℕ) (k : List ℕ) (same : Bool) → (m == q) ≡ same
        → later (get (keys_at old.keys q) k) (cond same (Some v) (at old.clears q)) ≡ cond same (Some v) (later (get (keys_at old.keys q) k) (at old.clears q))
    by_clear m q k false apart = refl
    by_clear m q k true same = above_clear (get (keys_at old.keys q) k) (at old.clears q) (λ number is. below (all.MapKey q k) number is)

    set_key : (m : ℕ) (key : List ℕ) → new ≡ record old { keys = new.keys } → IsInserted m key v old.keys new.keys → (c : all.Channel) → IsSetBy (channels.MapKey m key) c
    set_key m key is put (all.MutexUnlock m1) = ap (λ (t : Tables). number_of t (all.MutexUnlock m1)) is
    set_key m key is put (all.WriterUnlock m1) = ap (λ (t : Tables). number_of t (all.WriterUnlock m1)) is
    set_key m key is put (all.ReaderUnlock m1) = ap (λ (t : Tables). number_of t (all.ReaderUnlock m1)) is
    set_key m key is put (all.Notice m1 n1) = ap (λ (t : Tables). number_of t (all.Notice m1 n1)) is
    set_key m key is put (all.Lowering m1) = ap (λ (t : Tables). number_of t (all.Lowering m1)) is
    set_key m key is put (all.FunctionEnd m1) = ap (λ (t : Tables). number_of t (all.FunctionEnd m1)) is
    set_key m key is put (all.PutItem m1 n1) = ap (λ (t : Tables). number_of t (all.PutItem m1 n1)) is
    set_key m key is put (all.Start m1) = ap (λ (t : Tables). number_of t (all.Start m1)) is
    set_key m key is put (all.Atomic m1) = ap (λ (t : Tables). number_of t (all.Atomic m1)) is
    set_key m key is put (all.MapKey m1 n1) =
        ap (λ (t : Tables). later (get (keys_at new.keys m1) n1) (at t.clears m1)) is
        ∙ ap (λ (keys : Named). later (get keys n1) (at old.clears m1)) (put m1)
        ∙ by_map m m1 key n1 (m == m1) refl

    set_each : (m : ℕ) → new ≡ record old { clears = new.clears } → IsPut m v old.clears new.clears → (c : all.Channel) → IsSetBy (channels.EachKey m) c
    set_each m is put (all.MutexUnlock m1) = ap (λ (t : Tables). number_of t (all.MutexUnlock m1)) is
    set_each m is put (all.WriterUnlock m1) = ap (λ (t : Tables). number_of t (all.WriterUnlock m1)) is
    set_each m is put (all.ReaderUnlock m1) = ap (λ (t : Tables). number_of t (all.ReaderUnlock m1)) is
    set_each m is put (all.Notice m1 n1) = ap (λ (t : Tables). number_of t (all.Notice m1 n1)) is
    set_each m is put (all.Lowering m1) = ap (λ (t : Tables). number_of t (all.Lowering m1)) is
    set_each m is put (all.FunctionEnd m1) = ap (λ (t : Tables). number_of t (all.FunctionEnd m1)) is
    set_each m is put (all.PutItem m1 n1) = ap (λ (t : Tables). number_of t (all.PutItem m1 n1)) is
    set_each m is put (all.Start m1) = ap (λ (t : Tables). number_of t (all.Start m1)) is
    set_each m is put (all.Atomic m1) = ap (λ (t : Tables). number_of t (all.Atomic m1)) is
    set_each m is put (all.MapKey m1 n1) =
        ap (λ (t : Tables). later (get (keys_at t.keys m1) n1) (at new.clears m1)) is
        ∙ ap (λ (clear : Option ℕ). later (get (keys_at old.keys m1) n1) clear) (put m1)
        ∙ by_clear m m1 n1 (m == m1) refl

    pub set_is : (d : Channel) → IsSetAt d v old new → (c : all.Channel) → IsSetBy d c
    set_is (channels.MutexUnlock m) set c = set_mutexes m set.0 set.1 c
    set_is (channels.WriterUnlock m) set c = set_writers m set.0 set.1 c
    set_is (channels.ReaderUnlock m) set c = set_readers m set.0 set.1 c
    set_is (channels.Notice m n) set c = set_notices m n set.0 set.1 c
    set_is (channels.Lowering m) set c = set_groups m set.0 set.1 c
    set_is (channels.FunctionEnd m) set c = set_onces m set.0 set.1 c
    set_is (channels.PutItem m n) set c = set_puts m n set.0 set.1 c
    set_is (channels.Start m) set c = set_starts m set.0 set.1 c
    set_is (channels.Atomic m) set c = set_atomics m set.0 set.1 c
    set_is (channels.MapKey m n) set c = set_key m n set.0 set.1 c
    set_is (channels.EachKey m) set c = set_each m set.0 set.1 c
