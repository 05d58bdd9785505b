-- A part is spelt by items that are alike: it looks at no place, mark, front or number.
use Rattle.std.proofs.Common.{◌≡◌, ℕ, List, [], ◌∷◌, ◌++◌, map, Ok, Err, refl, sym, ap, ◌∙◌, subst, ap₂}
use Rattle.sync_model.specs.declared.answer.Answer.TheVariants.{Done, Halted}
use Rattle.sync_model.specs.declared.item.Item.{Item}
use Rattle.sync_model.specs.declared.item.SharedCall.{SharedCall}
use Rattle.sync_model.specs.declared.item.SharedReply.{SharedReply}
use Rattle.sync_model.specs.declared.journal.Deed.{Deed}
use Rattle.sync_model.specs.declared.journal.Entry.{Entry}
use Rattle.protocols.specs.declared.step.Step.{Step}
use Rattle.protocols.specs.Spelling.{CallAnswer, Spells}
use Rattle.run_record.specs.declared.entered.ObjectEvent.{ObjectEvent}
use Rattle.run_record.specs.declared.entered.ObjectReply.{ObjectReply}
use Rattle.run_record.specs.declared.made.Made.{Made}
use Rattle.run_record.specs.declared.made.Made.TheVariants.{Shared, Entered}
use Rattle.run_record.specs.Parts.{Part, returns, never, GoesOn, and_then, read_as, Places, lifted, stages}
use Rattle.kept_record.specs.Alike.{AreAlike}

abbrev pub IsBlind : {O : Type 0} → Part O → Type 0
IsBlind {O} part = (items others : List Made) (answer : CallAnswer O) → AreAlike items others → part items answer → part others answer

pub none_alike : (others : List Made) → AreAlike [] others → others ≡ []
none_alike [] alike = refl
none_alike (made ∷ others) alike = absurd alike

-- where the first list falls into two, so does the second
pub split : (items later others : List Made) → AreAlike (items ++ later) others → (front : List Made) × (rest : List Made) × (others ≡ front ++ rest) × AreAlike items front × AreAlike later rest
split [] later others alike = ([], others, refl, tt, alike)
split (made ∷ items) later [] alike = absurd alike
split (made ∷ items) later (other ∷ others) alike = let rest = split items later others alike.1 in (other ∷ rest.0, rest.1, ap (λ (l : List Made). other ∷ l) rest.2, (alike.0, rest.3), rest.4)

module _ {O : Type 0} where
  pub returns_blind : (outcome : O) → IsBlind (returns outcome)
  returns_blind outcome items others answer alike (none, is) = (none_alike others (subst (λ (l : List Made). AreAlike l others) none alike), is)

  pub never_blind : IsBlind (never {O = O})
  never_blind items others answer alike spelt = absurd spelt

module _ {O P : Type 0} where
  pub read_blind : (f : O → P) (part : Part O) → IsBlind part → IsBlind (read_as f part)
  read_blind f part blind items others answer alike (given, spelt, is) = (given, blind items others given alike spelt, is)

  goes_blind : (next : O → Part P) → ((outcome : O) → IsBlind (next outcome)) → (given : CallAnswer O) (items others : List Made) (answer : CallAnswer P) → AreAlike items others → GoesOn next given items answer → GoesOn next given others answer
  goes_blind next blind (Done (Ok outcome)) items others answer alike goes = blind outcome items others answer alike goes
  goes_blind next blind (Done (Err misuse)) items others answer alike (none, is) = (none_alike others (subst (λ (l : List Made). AreAlike l others) none alike), is)
  goes_blind next blind (Halted misuse) items others answer alike (none, is) = (none_alike others (subst (λ (l : List Made). AreAlike l others) none alike), is)

  pub then_blind : (first : Part O) (next : O → Part P) → IsBlind first → ((outcome : O) → IsBlind (next outcome)) → IsBlind (and_then first next)
  then_blind first next blind each items others answer alike (earlier, later, given, parts, spelt, goes) =
      let cut = split earlier later others (subst (λ (l : List Made). AreAlike l others) parts alike) in
      (cut.0, cut.1, given, cut.2, blind earlier cut.0 given cut.3 spelt, goes_blind next each given later cut.1 answer cut.4 goes)

-- ---- calls on maps and atomics

placed_like : (made : List Item) (others : List Made) → AreAlike (map Shared made) others
    → (told : List Item) × (others ≡ map Shared told) × (map {B = SharedCall × SharedReply} (λ (x : Item). (x.call, x.reply)) told ≡ map {B = SharedCall × SharedReply} (λ (x : Item). (x.call, x.reply)) made)
placed_like [] [] alike = ([], refl, refl)
placed_like [] (other ∷ others) alike = absurd alike
placed_like (x ∷ made) [] alike = absurd alike
placed_like (x ∷ made) (Shared y ∷ others) alike = let rest = placed_like made others alike.1 in
    (y ∷ rest.0, ap (λ (l : List Made). Shared y ∷ l) rest.1, ap₂ (λ (a : SharedCall × SharedReply) (l : List (SharedCall × SharedReply)). a ∷ l) (ap₂ (λ (c : SharedCall) (r : SharedReply). let p : SharedCall × SharedReply = (c, r) in p) (sym alike.0.0) (sym alike.0.1)) rest.2)
placed_like (x ∷ made) (Entered object entry ∷ others) alike = absurd alike.0

pub places_blind : (calls : List (SharedCall × SharedReply)) (items others : List Made) → AreAlike items others → Places calls items → Places calls others
places_blind calls items others alike (made, are, is) = let like = placed_like made others (subst (λ (l : List Made). AreAlike l others) are alike) in (like.0, like.1, like.2 ∙ is)

-- ---- entries

module _ {E R : Type 0} (event : E → ObjectEvent) (reply : R → ObjectReply) (object : ℕ) where
  -- the deeds of entries of one kind
  pub entries_like : (entries : List (Entry E R)) (others : List Made) → AreAlike (map (λ (entry : Entry E R). Entered object (lifted event reply entry)) entries) others
      → (told : List (Entry E R)) × (others ≡ map (λ (entry : Entry E R). Entered object (lifted event reply entry)) told) × (map (λ (entry : Entry E R). entry.deed) told ≡ map (λ (entry : Entry E R). entry.deed) entries)
  entries_like [] [] alike = ([], refl, refl)
  entries_like [] (other ∷ others) alike = absurd alike
  entries_like (entry ∷ entries) [] alike = absurd alike
  entries_like (entry ∷ entries) (Shared x ∷ others) alike = absurd alike.0
  entries_like (entry ∷ entries) (Entered other later ∷ others) alike =
      let rest = entries_like entries others alike.1 in
      let own : Entry E R = record { caller = later.caller; deed = entry.deed; front = later.front; knew = later.knew; time = later.time } in
      (own ∷ rest.0, ap₂ (λ (a : Made) (l : List Made). a ∷ l) (same own refl) rest.1, ap (λ (l : List (Deed E R)). entry.deed ∷ l) rest.2)
    where
      same : (own : Entry E R) → own ≡ record { caller = later.caller; deed = entry.deed; front = later.front; knew = later.knew; time = later.time } → Entered other later ≡ Entered object (lifted event reply own)
      same own is = ap (λ (n : ℕ). Entered n later) (sym alike.0.0)
          ∙ (ap (λ (d : Deed ObjectEvent ObjectReply). Entered object (record { caller = later.caller; deed = d; front = later.front; knew = later.knew; time = later.time })) (sym alike.0.1)
          ∙ ap (λ (e : Entry E R). Entered object (lifted event reply e)) (sym is))

  pub stages_blind : {G O : Type 0} (event_of : G → ℕ → E) (meaning : G → R → Step G O) (stage : G) → IsBlind (stages event reply event_of meaning object stage)
  stages_blind {G} {O} event_of meaning stage items others answer alike (entries, are, spelt) =
      let like = entries_like entries others (subst (λ (l : List Made). AreAlike l others) are alike) in
      (like.0, like.1, subst (λ (deeds : List (Deed E R)). Spells event_of meaning stage deeds answer) (sym like.2) spelt)
