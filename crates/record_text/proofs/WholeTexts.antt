-- The text of a record, as it is written, tells what was written.
use Rattle.std.proofs.Common.{◌≡◌, ◌≢◌, ℕ, ◌≤◌, Bool, true, false, not, eqb, List, [], ◌∷◌, ◌++◌, map, length, Option, Some, None, refl, sym, ap, ◌∙◌, subst, arith, append_assoc}
use Rattle.std.specs.List.{AllByRecursion, join_with_byte, list_all, onto_first}
use Rattle.std.proofs.lemmas.Bool.{eqb-true, false≢true, ltb-true, ne_eqb}
use Rattle.std.proofs.lemmas.List.{length-map}
use Rattle.std.proofs.lemmas.List.Folds.{list_all-append}
use Rattle.std.proofs.lemmas.Slice.Eq.{bytes_eq-Decides}
use Rattle.sync_types.specs.declared.misuse.Misuse.{Misuse}
use Rattle.sync_types.specs.declared.misuse.Misuse.TheVariants.{UnlockOfUnlockedMutex, RUnlockOfUnlockedRwMutex, UnlockOfUnlockedRwMutex, NegativeWaitGroupCounter, WaitGroupReused, SemaphoreOverReleased}
use Rattle.workload.specs.declared.keyword.Dialect.TheVariants.{Plain}
use Rattle.workload.specs.declared.line.Line.{Line}
use Rattle.workload.specs.declared.line.Line.TheVariants as lines
use Rattle.workload.specs.Canonical.{canonical, lines_text, text_line}
use Rattle.workload.specs.Dialect.{has_unrecorded}
use Rattle.workload.specs.Draft.{Draft}
use Rattle.workload.specs.Lines.{is_significant, lines_of, words_of}
use Rattle.workload.specs.Plan.{Plan}
use Rattle.workload.specs.Readable.{IsReadable}
use Rattle.workload.specs.Reads.{Continues, IsRead, Reads, ReadsOn}
use Rattle.workload.specs.Words.{first_spelled, spelled}
use Rattle.record_text.specs.declared.item_line.ItemLine.{ItemLine}
use Rattle.record_text.specs.declared.limits.TheConstants.{MAX_ITEMS, MAX_RECORD}
use Rattle.record_text.specs.ItemLines.{is_item, item_text, item_words}
use Rattle.record_text.specs.Told.{IsTold, are_before, is_record_line, is_short_line, joined, outcome_line, record_line}
use Rattle.record_text.specs.WrittenLines.{record_lines, record_text}
use Rattle.record_text.proofs.Decimals.{both, pair}
use Rattle.record_text.proofs.ItemTexts.{Solid, is_solid, item_solid, lines_are, readable_solid}
use Rattle.record_text.proofs.OwnWords.{each_both}
use Rattle.record_text.proofs.WalkLemmas.{other, ten}

-- ---- texts that end with a line feed

-- what stands behind the text begins a new line, and its lines are the text
record IsEnded (text : List ℕ) : Type 0 where
  pub apart : (rest : List ℕ) → lines_of (text ++ rest) ≡ lines_of text ++ lines_of rest
  pub joins : joined (lines_of text) ≡ text

-- there is a first line
abbrev IsSome : List (List ℕ) → Type 0
IsSome lines = (first : List ℕ) × (more : List (List ℕ)) × (lines ≡ first ∷ more)

onto_some : (byte : ℕ) (lines : List (List ℕ)) → IsSome lines → IsSome (onto_first byte lines)
onto_some byte lines (first, more, is) = (byte ∷ first, more, ap (onto_first byte) is)

onto_apart : (byte : ℕ) (lines rest : List (List ℕ)) → IsSome lines → onto_first byte (lines ++ rest) ≡ onto_first byte lines ++ rest
onto_apart byte lines rest (first, more, is) = ap (λ ls. onto_first byte (ls ++ rest)) is ∙ ap (λ ls. onto_first byte ls ++ rest) (sym is)

onto_joined : (byte : ℕ) (lines : List (List ℕ)) → IsSome lines → joined (onto_first byte lines) ≡ byte ∷ joined lines
onto_joined byte lines (first, more, is) = ap (λ ls. joined (onto_first byte ls)) is ∙ ap (λ ls. byte ∷ joined ls) (sym is)

differs : (byte : ℕ) → eqb byte 10 ≡ false → byte ≢ 10
differs byte is same = false≢true (sym is ∙ ap (λ b. eqb b 10) same)

-- a byte more in front
byte_some : (byte : ℕ) (text : List ℕ) → IsSome (lines_of text) → IsSome (lines_of (byte ∷ text))
byte_some byte text some = by (eqb byte 10) refl where
  by : (b : Bool) → eqb byte 10 ≡ b → IsSome (lines_of (byte ∷ text))
  by true is = ([], lines_of text, ten byte text (eqb-true byte 10 is))
  by false is = subst IsSome (sym (other byte text (differs byte is))) (onto_some byte (lines_of text) some)

byte_ended : (byte : ℕ) (text : List ℕ) → IsSome (lines_of text) → IsEnded text → IsEnded (byte ∷ text)
byte_ended byte text some is_ended = by (eqb byte 10) refl where
  by : (b : Bool) → eqb byte 10 ≡ b → IsEnded (byte ∷ text)
  by true is =
      let feed = eqb-true byte 10 is in
      record {
        apart = λ rest. ten byte (text ++ rest) feed ∙ ap (λ (ls : List (List ℕ)). [] ∷ ls) (is_ended.apart rest) ∙ ap (λ (ls : List (List ℕ)). ls ++ lines_of rest) (sym (ten byte text feed));
        joins = ap joined (ten byte text feed) ∙ ap (λ (bs : List ℕ). 10 ∷ bs) is_ended.joins ∙ ap (λ (b : ℕ). b ∷ text) (sym feed);
      }
  by false is =
      let plain = differs byte is in
      record {
        apart = λ rest. other byte (text ++ rest) plain ∙ ap (onto_first byte) (is_ended.apart rest) ∙ onto_apart byte (lines_of text) (lines_of rest) some ∙ ap (λ (ls : List (List ℕ)). ls ++ lines_of rest) (sym (other byte text plain));
        joins = ap joined (other byte text plain) ∙ onto_joined byte (lines_of text) some ∙ ap (λ (bs : List ℕ). byte ∷ bs) is_ended.joins;
      }

-- a line with its line feed
some_line : (line : List ℕ) → IsSome (lines_of (line ++ 10 ∷ []))
some_line [] = ([], [], refl)
some_line (byte ∷ line) = byte_some byte (line ++ 10 ∷ []) (some_line line)

line_ended : (line : List ℕ) → IsEnded (line ++ 10 ∷ [])
line_ended [] = record { apart = λ rest. refl; joins = refl }
line_ended (byte ∷ line) = byte_ended byte (line ++ 10 ∷ []) (some_line line) (line_ended line)

joined_both : (lines more : List (List ℕ)) → joined (lines ++ more) ≡ joined lines ++ joined more
joined_both [] more = refl
joined_both (line ∷ lines) more = ap (λ (bs : List ℕ). (line ++ 10 ∷ []) ++ bs) (joined_both lines more) ∙ sym (append_assoc (line ++ 10 ∷ []) (joined lines) (joined more))

-- two such texts
both_ended : (text more : List ℕ) → IsEnded text → IsEnded more → IsEnded (text ++ more)
both_ended text more first second = record {
  apart = λ rest.
      ap lines_of (append_assoc text more rest)
      ∙ first.apart (more ++ rest)
      ∙ ap (λ (ls : List (List ℕ)). lines_of text ++ ls) (second.apart rest)
      ∙ sym (append_assoc (lines_of text) (lines_of more) (lines_of rest))
      ∙ ap (λ (ls : List (List ℕ)). ls ++ lines_of rest) (sym (first.apart more));
  joins =
      ap joined (first.apart more)
      ∙ joined_both (lines_of text) (lines_of more)
      ∙ ap (λ (bs : List ℕ). bs ++ joined (lines_of more)) first.joins
      ∙ ap (λ (bs : List ℕ). text ++ bs) second.joins;
}

lines_ended : (spelt : List Line) → IsEnded (lines_text spelt)
lines_ended [] = record { apart = λ rest. refl; joins = refl }
lines_ended (line ∷ spelt) = both_ended (text_line (spelled line)) (lines_text spelt) (line_ended (join_with_byte 32 (spelled line))) (lines_ended spelt)

canonical_ended : (plan : Plan) → IsEnded (canonical plan)
canonical_ended plan = both_ended (text_line (first_spelled plan.workers)) _ (line_ended (join_with_byte 32 (first_spelled plan.workers))) (lines_ended _)

-- ---- lines without a line feed

abbrev is_plain : ℕ → Bool
is_plain byte = not (eqb byte 10)

abbrev IsPlain : List ℕ → Type 0
IsPlain line = list_all is_plain line ≡ true

not_ten : (byte : ℕ) → is_plain byte ≡ true → byte ≢ 10
not_ten byte h same = false≢true (sym (ap is_plain same) ∙ h)

plain_line : (line rest : List ℕ) → IsPlain line → lines_of (line ++ 10 ∷ rest) ≡ line ∷ lines_of rest
plain_line [] rest h = refl
plain_line (byte ∷ line) rest h =
    let parts = both (is_plain byte) (list_all is_plain line) h in
    other byte (line ++ 10 ∷ rest) (not_ten byte parts.0) ∙ ap (onto_first byte) (plain_line line rest parts.1)

-- such lines are cut again
plain_lines : (lines : List (List ℕ)) (rest : List ℕ) → AllByRecursion IsPlain lines → lines_of (joined lines ++ rest) ≡ lines ++ lines_of rest
plain_lines [] rest each = refl
plain_lines (line ∷ lines) rest each =
    ap lines_of (append_assoc (line ++ 10 ∷ []) (joined lines) rest ∙ append_assoc line (10 ∷ []) (joined lines ++ rest))
    ∙ plain_line line (joined lines ++ rest) each.0
    ∙ ap (λ (ls : List (List ℕ)). line ∷ ls) (plain_lines lines rest each.1)

plain_both : (xs ys : List ℕ) → IsPlain xs → IsPlain ys → IsPlain (xs ++ ys)
plain_both xs ys h k = list_all-append is_plain xs ys ∙ pair (list_all is_plain xs) (list_all is_plain ys) h k

solid_plain : (word : List ℕ) → Solid word → IsPlain word
solid_plain [] h = refl
solid_plain (byte ∷ word) h =
    let parts = both (is_solid byte) (list_all is_solid word) h in
    pair (is_plain byte) (list_all is_plain word) (ap not (ne_eqb byte 10 (λ same. absurd (let greater = ltb-true 32 byte parts.0 in omega (arith, greater, same))))) (solid_plain word parts.1)

words_plain : (words : List (List ℕ)) → AllByRecursion Solid words → IsPlain (join_with_byte 32 words)
words_plain [] each = refl
words_plain (word ∷ []) each = solid_plain word each.0
words_plain (word ∷ (next ∷ words)) each = plain_both word (32 ∷ join_with_byte 32 (next ∷ words)) (solid_plain word each.0) (words_plain (next ∷ words) each.1)

items_plain : (plan : Plan) (items : List ItemLine) → IsReadable plan → list_all (is_item plan) items ≡ true → AllByRecursion IsPlain (map (item_text plan) items)
items_plain plan [] readable fits = tt
items_plain plan (item ∷ items) readable fits =
    let here = both (is_item plan item) (list_all (is_item plan) items) fits in
    (words_plain (item_words plan item) (item_solid plan item (readable_solid plan readable) here.0), items_plain plan items readable here.1)

outcome_plain : (misused : Option Misuse) → IsPlain (outcome_line misused)
outcome_plain None = refl
outcome_plain (Some UnlockOfUnlockedMutex) = refl
outcome_plain (Some RUnlockOfUnlockedRwMutex) = refl
outcome_plain (Some UnlockOfUnlockedRwMutex) = refl
outcome_plain (Some NegativeWaitGroupCounter) = refl
outcome_plain (Some WaitGroupReused) = refl
outcome_plain (Some SemaphoreOverReleased) = refl

record_plain : (plan : Plan) (items : List ItemLine) (misused : Option Misuse) → IsReadable plan → list_all (is_item plan) items ≡ true → AllByRecursion IsPlain (record_lines plan items misused)
record_plain plan items misused readable fits = (refl, each_both IsPlain (map (item_text plan) items) (outcome_line misused ∷ []) (items_plain plan items readable fits) (outcome_plain misused, tt))

-- ---- no line of a workload's text is `record`

record_words : words_of record_line ≡ record_line ∷ []
record_words = refl

no_spelling : (line : Line) → spelled line ≡ record_line ∷ [] → ⊥
no_spelling (lines.Object object reference) e = absurd cc
no_spelling (lines.Dormant worker) e = absurd cc
no_spelling (lines.Worker worker) e = absurd cc
no_spelling (lines.Schedule turns) e = false≢true (ap (λ (ws : List (List ℕ)). first_length ws) e) where
  first_length : List (List ℕ) → Bool
  first_length [] = true
  first_length (word ∷ words) = eqb (length word) 6
no_spelling (lines.Call name second call) e = absurd cc

goes_on : (before after : Option Draft) → Continues Plain before (words_of record_line) after → ⊥
goes_on None after (workers, some, few, is, made) = absurd cc
goes_on (Some draft) after (line, may, is, made, known) = no_spelling line (sym is)

no_record : (before after : Option Draft) (line : List ℕ) → IsRead Plain before line after → is_record_line line ≡ false
no_record before after line read = by (is_record_line line) refl where
  by : (b : Bool) → is_record_line line ≡ b → b ≡ false
  by false is = refl
  by true is =
      let same = (bytes_eq-Decides line record_line).0 is in
      absurd (goes_on before after (subst (λ (l : List ℕ). Continues Plain before (words_of l) after) same (read.continues (ap (λ (l : List ℕ). is_significant (words_of l)) same))))

before_record : (texts : List (List ℕ)) (before : Option Draft) (plan : Plan) → ReadsOn Plain texts before plan → are_before texts ≡ true
before_record [] before plan reads = refl
before_record (line ∷ texts) before plan (after, read, rest) =
    pair (not (is_record_line line)) (are_before texts) (ap not (no_record before after line read)) (before_record texts after plan rest)

-- ---- the whole text

pub tells : ((plan : Plan) → IsReadable plan → has_unrecorded plan ≡ false → Reads (canonical plan) plan)
    → (plan : Plan) (items : List ItemLine) (misused : Option Misuse) (report : List ℕ) → IsReadable plan → has_unrecorded plan ≡ false
    → list_all (is_item plan) items ≡ true → list_all is_short_line (map (item_text plan) items) ≡ true → length items ≤ MAX_ITEMS
    → list_all is_short_line (lines_of report) ≡ true → length (record_text plan items misused report) ≤ MAX_RECORD
    → IsTold (record_text plan items misused report) (record { plan = plan; items = items; misused = misused; report = lines_of report })
tells reads plan items misused report readable none fits short few told_short within =
    let ended = canonical_ended plan in
    let workload = reads plan readable none in
    let texts = map (item_text plan) items in
    record {
      fits = within;
      before = lines_of (canonical plan);
      behind = texts ++ outcome_line misused ∷ lines_of report;
      lines =
          ended.apart (joined (record_lines plan items misused) ++ report)
          ∙ ap (λ (ls : List (List ℕ)). lines_of (canonical plan) ++ ls) (plain_lines (record_lines plan items misused) report (record_plain plan items misused readable fits))
          ∙ ap (λ (ls : List (List ℕ)). lines_of (canonical plan) ++ record_line ∷ ls) (append_assoc texts (outcome_line misused ∷ []) (lines_of report));
      first = before_record (lines_of (canonical plan)) None plan workload.lines;
      workload = subst (λ (bs : List ℕ). Reads bs plan) (sym ended.joins) workload;
      says = record {
        items = texts;
        are = refl;
        each = lines_are plan items readable fits short;
        few = subst (λ (n : ℕ). n ≤ MAX_ITEMS) (sym (length-map items (item_text plan))) few;
        short = told_short;
      };
    }
