-- A claim without what lines leave out of its items. All clauses hold of it, where they hold of the claim.
use Rattle.std.proofs.Common.{◌≡◌, ◌↔◌, ℕ, ◌+◌, Bool, true, false, cond, ◌==◌, List, [], ◌∷◌, map, get_or, Option, Some, slice_get, refl, sym, ap, ◌∙◌, subst}
use Rattle.std.proofs.Math.ListN.{get_or-map}
use Rattle.std.proofs.lemmas.Option.{slice_get-map}
use Rattle.run_record.specs.declared.made.Made.{Made}
use Rattle.run_record.specs.declared.made.Made.TheVariants.{Shared, Entered}
use Rattle.run_record.specs.Explains.{Agrees, AreLines, Explains, IsRecordOf}
use Rattle.run_record.specs.Lines.{Line}
use Rattle.run_record.specs.Record.{ObjectEntry, Record, journal_of}
use Rattle.record_clauses.specs.declared.clause.Clause.{Clause}
use Rattle.record_clauses.specs.declared.clause.Clause.TheVariants.{Spell, Legal, Front, Range, Machine, Edge, End, Stop, Report}
use Rattle.record_clauses.specs.Account.{Account, Claim, ToldItem, made_in, outcome_of, record_of}
use Rattle.record_clauses.specs.Clauses.{HasEdges, HasEnds, HasFronts, HasHalts, HasJournals, HasRanges, Holds, IsLegallyPlaced, IsSpelt, IsStoppedBy, TellsCalls, TellsNumbers}
use Rattle.record_clauses.specs.Journals.{numbered_by, numbered_from}
use Rattle.record_clauses.specs.Lists.{calls_told, is_halt, numbered, numbered_in}
use Rattle.run_check.specs.Completeness.{plain_entry, plain_made, plain_record}
use Rattle.run_check.proofs.SpellNothing.{IsBlind}
use Rattle.run_check.proofs.ToldLists.{mapped}
use Rattle.run_check.proofs.ToldPlain.{AreAlong, plain_explains}

-- what is used of the crates below: what the clauses are, part by part
abbrev pub LawfulParts : Type 0
LawfulParts = (claim : Claim) (account : Account)
    → (IsLegallyPlaced claim account × HasFronts claim account × HasRanges claim account × HasJournals claim account × HasEdges claim account ↔ IsRecordOf claim.plan (record_of claim account) × TellsNumbers claim account)

abbrev pub LineParts : Type 0
LineParts = (claim : Claim) (account : Account)
    → (IsSpelt claim account × HasHalts claim account ↔ AreLines claim.plan (record_of claim account) (outcome_of claim account) account.lines × TellsCalls claim account × IsStoppedBy claim account claim.misused)

abbrev pub EndParts : Type 0
EndParts = (claim : Claim) (account : Account)
    → (HasEnds claim account claim.misused × IsStoppedBy claim account claim.misused ↔ Agrees claim.plan (record_of claim account) account.lines (outcome_of claim account))

-- the number of an item that is no entry isn't said
abbrev pub plain_number : ℕ → Made → ℕ
plain_number number (Shared x) = 0
plain_number number (Entered object entry) = number

abbrev pub plain_item : ToldItem → ToldItem
plain_item x = record { made = plain_made x.made; call = x.call; number = plain_number x.number x.made }

abbrev pub plain_claim : Claim → Claim
plain_claim claim = record { plan = claim.plan; misused = claim.misused; lists = map (map plain_item) claim.lists; report = claim.report }

abbrev plain_account : Account → List Line → Account
plain_account account lines = record { history = account.history; journals = map (map plain_entry) account.journals; lines = lines; left = account.left }

-- ---- the record

same_list : (list : List ToldItem) → map plain_made (made_in list) ≡ made_in (map plain_item list)
same_list [] = refl
same_list (x ∷ list) = ap (λ (l : List Made). plain_made x.made ∷ l) (same_list list)

same_lists : (lists : List (List ToldItem)) → map (map plain_made) (map made_in lists) ≡ map made_in (map (map plain_item) lists)
same_lists [] = refl
same_lists (list ∷ lists) = ap (λ (l : List Made). l ∷ map (map plain_made) (map made_in lists)) (same_list list) ∙ ap (λ (ls : List (List Made)). made_in (map plain_item list) ∷ ls) (same_lists lists)

same_record : (claim : Claim) (account : Account) (lines : List Line) → plain_record (record_of claim account) ≡ record_of (plain_claim claim) (plain_account account lines)
same_record claim account lines = ap (λ (lists : List (List Made)). record { history = account.history; journals = map (map plain_entry) account.journals; lists = lists }) (same_lists claim.lists)

-- ---- what is told

plain_halt : (made : Made) → is_halt (plain_made made) ≡ is_halt made
plain_halt (Shared x) = refl
plain_halt (Entered object entry) = refl

plain_calls : (list : List ToldItem) → calls_told (map plain_item list) ≡ calls_told list
plain_calls [] = refl
plain_calls (x ∷ list) =
    ap (λ (b : Bool). cond b (calls_told (map plain_item list)) (x.call ∷ calls_told (map plain_item list))) (plain_halt x.made)
    ∙ ap (λ (calls : List (Option ℕ)). cond (is_halt x.made) calls (x.call ∷ calls)) (plain_calls list)

abbrev plain_pair : ℕ × ObjectEntry → ℕ × ObjectEntry
plain_pair pair = (pair.0, plain_entry pair.1)

plain_numbered : (object number : ℕ) (made : Made) (later : List (ℕ × ObjectEntry)) → numbered object (plain_number number made) (plain_made made) (map plain_pair later) ≡ map plain_pair (numbered object number made later)
plain_numbered object number (Shared x) later = refl
plain_numbered object number (Entered other entry) later = by (other == object) where
  by : (b : Bool) → cond b ((number, plain_entry entry) ∷ map plain_pair later) (map plain_pair later) ≡ map plain_pair (cond b ((number, entry) ∷ later) later)
  by true = refl
  by false = refl

plain_numbers : (object : ℕ) (list : List ToldItem) → numbered_in object (map plain_item list) ≡ map plain_pair (numbered_in object list)
plain_numbers object [] = refl
plain_numbers object (x ∷ list) =
    ap (λ (later : List (ℕ × ObjectEntry)). numbered object (plain_number x.number x.made) (plain_made x.made) later) (plain_numbers object list) ∙ plain_numbered object x.number x.made (numbered_in object list)

plain_by : (n c : ℕ) (journal : List ObjectEntry) → numbered_from n c (map plain_entry journal) ≡ map plain_pair (numbered_from n c journal)
plain_by n c [] = refl
plain_by n c (x ∷ journal) = of (x.caller == c) (plain_by (n + 1) c journal) where
  of : (b : Bool) → numbered_from (n + 1) c (map plain_entry journal) ≡ map plain_pair (numbered_from (n + 1) c journal)
      → cond b ((n, plain_entry x) ∷ numbered_from (n + 1) c (map plain_entry journal)) (numbered_from (n + 1) c (map plain_entry journal)) ≡ map plain_pair (cond b ((n, x) ∷ numbered_from (n + 1) c journal) (numbered_from (n + 1) c journal))
  of true later = ap (λ (l : List (ℕ × ObjectEntry)). (n, plain_entry x) ∷ l) later
  of false later = later

module _ (claim : Claim) (account : Account) where
  tells_calls : (lines : List Line) → AreAlong account.lines lines → TellsCalls claim account → TellsCalls (plain_claim claim) (plain_account account lines)
  tells_calls lines along told = record {
    calls = λ worker list line at_list at_line.
        let (was, there, same) = list_was worker list at_list in
        let (before, behind, like) = along worker line at_line in
        sym (ap calls_told same) ∙ plain_calls was ∙ told.calls worker was before there behind ∙ sym like;
    halts = λ worker i list x at_list at_x is.
        let (was, there, same) = list_was worker list at_list in
        let (item, behind, like) = mapped plain_item (slice_get was i) x (sym (slice_get-map plain_item was i) ∙ ap (λ (l : List ToldItem). slice_get l i) same ∙ at_x) in
        sym (ap (λ (y : ToldItem). y.call) like) ∙ told.halts worker i was item there behind (sym (plain_halt item.made) ∙ ap (λ (y : ToldItem). is_halt y.made) like ∙ is);
  } where
    list_was : (worker : ℕ) (list : List ToldItem) → slice_get (plain_claim claim).lists worker ≡ Some list → (was : List ToldItem) × (slice_get claim.lists worker ≡ Some was) × (map plain_item was ≡ list)
    list_was worker list at = mapped (map plain_item) (slice_get claim.lists worker) list (sym (slice_get-map (map plain_item) claim.lists worker) ∙ at)

  tells_numbers : (lines : List Line) → TellsNumbers claim account → TellsNumbers (plain_claim claim) (plain_account account lines)
  tells_numbers lines told worker object =
      ap (numbered_in object) (get_or-map (map plain_item) claim.lists worker []) ∙ plain_numbers object (get_or claim.lists worker [])
      ∙ ap (map plain_pair) (told worker object)
      ∙ sym (plain_by 0 worker (journal_of (record_of claim account) object)) ∙ sym (ap (numbered_by worker) (get_or-map (map plain_entry) account.journals object []))

module _ (lawful_parts : LawfulParts) (line_parts : LineParts) (end_parts : EndParts) where
  -- the record explains the outcome by its own lines
  pub explained : (claim : Claim) (account : Account) → ((clause : Clause) → Holds claim account clause) → (one : Explains claim.plan (outcome_of claim account) (record_of claim account)) × (one.lines ≡ account.lines)
  explained claim account all = (
    record {
      lines = account.lines;
      are = ((line_parts claim account).0 (all Spell, all Stop)).0;
      lawful = ((lawful_parts claim account).0 (all Legal, all Front, all Range, all Machine, all Edge)).0;
      agrees = (end_parts claim account).0 (all End, ((line_parts claim account).0 (all Spell, all Stop)).2);
    },
    refl,
  )

  module _ (blind : IsBlind) (claim : Claim) (account : Account) (all : (clause : Clause) → Holds claim account clause) where
    alone : (one : Explains claim.plan (outcome_of claim account) (plain_record (record_of claim account))) × AreAlong account.lines one.lines
    alone =
        let (one, same) = explained claim account all in
        let (plain, along) = plain_explains blind claim.plan (outcome_of claim account) (record_of claim account) one in
        (plain, subst (λ (lines : List Line). AreAlong lines plain.lines) same along)

    -- an account of the plain claim
    abbrev plain : Account
    plain = plain_account account alone.0.lines

    same : plain_record (record_of claim account) ≡ record_of (plain_claim claim) plain
    same = same_record claim account alone.0.lines

    told_calls : TellsCalls (plain_claim claim) plain
    told_calls = let spelt : IsSpelt claim account = all Spell in tells_calls claim account alone.0.lines alone.1 spelt.told

    told_numbers : TellsNumbers (plain_claim claim) plain
    told_numbers = let journals : HasJournals claim account = all Machine in tells_numbers claim account alone.0.lines journals.told

    ended : HasEnds (plain_claim claim) plain claim.misused × IsStoppedBy (plain_claim claim) plain claim.misused
    ended = (end_parts (plain_claim claim) plain).1 (subst (λ (r : Record). Agrees claim.plan r alone.0.lines (outcome_of claim account)) same alone.0.agrees)

    spelt_so : IsSpelt (plain_claim claim) plain × HasHalts (plain_claim claim) plain
    spelt_so = (line_parts (plain_claim claim) plain).1 (subst (λ (r : Record). AreLines claim.plan r (outcome_of claim account) alone.0.lines) same alone.0.are, told_calls, ended.1)

    lawful_so : IsLegallyPlaced (plain_claim claim) plain × HasFronts (plain_claim claim) plain × HasRanges (plain_claim claim) plain × HasJournals (plain_claim claim) plain × HasEdges (plain_claim claim) plain
    lawful_so = (lawful_parts (plain_claim claim) plain).1 (subst (IsRecordOf claim.plan) same alone.0.lawful, told_numbers)

    by_clause : (clause : Clause) → Holds (plain_claim claim) plain clause
    by_clause Spell = spelt_so.0
    by_clause Legal = lawful_so.0
    by_clause Front = lawful_so.1
    by_clause Range = lawful_so.2
    by_clause Machine = lawful_so.3
    by_clause Edge = lawful_so.4
    by_clause End = ended.0
    by_clause Stop = spelt_so.1
    by_clause Report = all Report

    -- all clauses hold of the plain claim too
    pub plain_holds : (one : Account) × ((clause : Clause) → Holds (plain_claim claim) one clause)
    plain_holds = (plain, by_clause)
