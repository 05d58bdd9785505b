-- The lines of a record as they are written, piece by piece.
use Rattle.std.proofs.Common.{◌≡◌, ℕ, ◌≤◌, true, List, [], ◌∷◌, ◌++◌, map, length, slice_get, codes, Option, Some, None, refl, sym, ap, ◌∙◌, arith, append_assoc, length-append}
use Rattle.std.specs.Fmt.{decimal}
use Rattle.std.specs.List.{AllByRecursion, flat_map, join_with_byte, list_all}
use Rattle.std.specs.Option.{option_map_or}
use Rattle.std.specs.Prelude.{nat_le, ◌&&◌}
use Rattle.std.proofs.lemmas.Bool.{false≢true, leb-true}
use Rattle.std.proofs.lemmas.Fmt.{length-decimal-le}
use Rattle.std.proofs.lemmas.List.{append-nil}
use Rattle.sync_types.specs.Name.{is_letter, is_name, is_name_byte}
use Rattle.sync_types.specs.declared.name.TheConstants.{MAX_NAME}
use Rattle.workload.specs.declared.object.ObjectLine.{ObjectLine}
use Rattle.workload.specs.Canonical.{behind_spaces}
use Rattle.workload.specs.Plan.{Plan}
use Rattle.workload.specs.Readable.{IsReadable}
use Rattle.record_text.specs.declared.directory.Named.{Named}
use Rattle.record_text.specs.declared.event.JournalKind.TheVariants as kinds
use Rattle.record_text.specs.ItemLines.{object_word}
use Rattle.record_text.specs.Journals.{named_in, named_object, named_parts}
use Rattle.record_text.specs.Numbers.{front_word}
use Rattle.record_text.proofs.Decimals.{both}
use Rattle.record_text.proofs.OwnWords.{Anything, IsNamed, IsPart, all_parts, any, are_declared, each_at, each_both, each_mapped, each_mono}
use Rattle.record_text.specs.WrittenLines.{behind_commas}

-- words joined are the first one, and the others behind spaces
pub joined_words : (word : List ℕ) (words : List (List ℕ)) → join_with_byte 32 (word ∷ words) ≡ word ++ behind_spaces words
joined_words word [] = sym (append-nil word)
joined_words word (next ∷ words) = ap (λ (rest : List ℕ). word ++ 32 ∷ rest) (joined_words next words)

-- a front is its first number, and the others behind commas
pub front_joined : (first : ℕ) (rest : List ℕ) → front_word (first ∷ rest) ≡ decimal first ++ behind_commas rest
front_joined first [] = sym (append-nil (decimal first))
front_joined first (next ∷ rest) = ap (λ (text : List ℕ). decimal first ++ 44 ∷ text) (front_joined next rest)

-- the first number was added, and the others
pub front_added : (old middle new : List ℕ) (first : ℕ) (rest front : List ℕ) → front ≡ first ∷ rest → middle ≡ old ++ decimal first → new ≡ middle ++ behind_commas rest → new ≡ old ++ front_word front
front_added old middle new first rest front is begun added =
    added
    ∙ ap (λ (text : List ℕ). text ++ behind_commas rest) begun
    ∙ append_assoc old (decimal first) (behind_commas rest)
    ∙ ap (λ (text : List ℕ). old ++ text) (sym (front_joined first rest) ∙ ap front_word (sym is))

-- ---- the word of an object is short

abbrev HasShort : Named → Type 0
HasShort named = length named.word ≤ 53

pub name_short : (name : List ℕ) → is_name name ≡ true → length name ≤ 32
name_short [] h = absurd (false≢true h)
name_short (first ∷ rest) h =
    let parts = both (nat_le (length (first ∷ rest)) MAX_NAME && is_letter first) (list_all is_name_byte rest) h in
    leb-true (length (first ∷ rest)) MAX_NAME (both (nat_le (length (first ∷ rest)) MAX_NAME) (is_letter first) parts.0).0

object_short : (o : ObjectLine) → IsNamed o → HasShort (named_object o)
object_short o is = let short = name_short o.name is in omega (arith, short)

part_short : (x : Named) → IsPart Anything x → HasShort x
part_short x (o, part, is, low, named, sort) =
    let name = name_short o.name named in
    let digits = length-decimal-le 20 part (omega arith) (omega (arith, low)) low in
    let long = ap length is in
    let whole = length-append o.name (33 ∷ decimal part) in
    omega (arith, name, digits, long, whole)

all_short : (plan : Plan) → IsReadable plan → AllByRecursion HasShort (named_in plan)
all_short plan readable =
    let names = (are_declared [] plan.objects readable.objects).names in (
      omega arith,
      each_both HasShort (map named_object plan.objects ++ flat_map (named_parts plan.workers) plan.objects) (record { word = codes "!starts"; kind = kinds.Starts } ∷ [])
          (each_both HasShort (map named_object plan.objects) (flat_map (named_parts plan.workers) plan.objects)
          (each_mapped named_object HasShort plan.objects (each_mono IsNamed (λ (o : ObjectLine). HasShort (named_object o)) object_short plan.objects names))
          (each_mono (IsPart Anything) HasShort part_short (flat_map (named_parts plan.workers) plan.objects) (all_parts Anything plan.workers plan.objects readable.few_workers names (any plan.objects))))
          (omega arith, tt),
    )

pub short_word : (plan : Plan) (object : ℕ) → IsReadable plan → length (object_word plan object) ≤ 53
short_word plan object readable = by (slice_get (named_in plan) object) refl where
  by : (o : Option Named) → slice_get (named_in plan) object ≡ o → length (option_map_or (λ (x : Named). x.word) o []) ≤ 53
  by None at = omega arith
  by (Some named) at = each_at HasShort (named_in plan) object named (all_short plan readable) at
