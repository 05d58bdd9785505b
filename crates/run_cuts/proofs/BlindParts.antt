-- That what calls are made of is blind to what a spelling doesn't look at.
use Rattle.std.proofs.Common.{◌≡◌, ◌∙◌, ℕ, suc, List, [], ◌∷◌, ◌++◌, map, length, Option, Some, None, refl, sym, ap, subst}
use Rattle.std.specs.Prelude.{Ok, Err}
use Rattle.sync_model.specs.declared.answer.Answer.TheVariants.{Done, Halted}
use Rattle.sync_model.specs.declared.item.Item.{Item}
use Rattle.sync_model.specs.declared.item.SharedCall.{SharedCall}
use Rattle.sync_model.specs.declared.item.SharedReply.{SharedReply}
use Rattle.sync_model.specs.declared.journal.Deed.{Deed}
use Rattle.sync_model.specs.declared.journal.Entry.{Entry}
use Rattle.protocols.specs.declared.step.Step.{Step}
use Rattle.protocols.specs.Spelling.{CallAnswer, Spells}
use Rattle.run_record.specs.declared.entered.ObjectEvent.{ObjectEvent}
use Rattle.run_record.specs.declared.entered.ObjectReply.{ObjectReply}
use Rattle.run_record.specs.declared.made.Made.{Made}
use Rattle.run_record.specs.declared.made.Made.TheVariants.{Shared, Entered}
use Rattle.run_record.specs.Parts.{GoesOn, Part, Places, and_then, lifted, never, read_as, returns, stages}
use Rattle.run_record.specs.Record.{ObjectEntry, shared_in}
use Rattle.run_cuts.specs.Blind.{AreAlike, Blind, bare}

-- ---- one item

abbrev placed : Made → Option (SharedCall × SharedReply)
placed (Shared x) = Some (x.call, x.reply)
placed (Entered object entry) = None

abbrev entered : Made → Option (ℕ × Deed ObjectEvent ObjectReply)
entered (Shared x) = None
entered (Entered object entry) = Some (object, entry.deed)

of_some : {X : Type 0} {a b : X} → Some a ≡ Some b → a ≡ b
of_some e = cc

abbrev pub both : Item → SharedCall × SharedReply
both x = (x.call, x.reply)

pub record IsPlacedLike (x : Item) (other : Made) : Type 0 where
  pub like : Item
  pub is : other ≡ Shared like
  pub same : both like ≡ both x

pub placed_like : (x : Item) (other : Made) → bare (Shared x) ≡ bare other → IsPlacedLike x other
placed_like x (Shared y) e = record { like = y; is = refl; same = of_some (sym (ap placed e)) }
placed_like x (Entered object entry) e = absurd (none_some (ap entered e)) where
  none_some : {X : Type 0} {a : X} → None ≡ Some a → ⊥
  none_some e = cc

pub record IsEnteredLike (object : ℕ) (entry : ObjectEntry) (other : Made) : Type 0 where
  pub like : ObjectEntry
  pub is : other ≡ Entered object like
  pub same : like.deed ≡ entry.deed

pub entered_like : (object : ℕ) (entry : ObjectEntry) (other : Made) → bare (Entered object entry) ≡ bare other → IsEnteredLike object entry other
entered_like object entry (Shared y) e = absurd (some_none (ap entered e)) where
  some_none : {X : Type 0} {a : X} → Some a ≡ None → ⊥
  some_none e = cc
entered_like object entry (Entered other e') e =
    let same : ◌≡◌ {A = ℕ × Deed ObjectEvent ObjectReply} (object, entry.deed) (other, e'.deed) = of_some (ap entered e) in
    record { like = e'; is = ap (λ (n : ℕ). Entered n e') (sym (ap (λ p. p.0) same)); same = sym (ap (λ p. p.1) same) }

-- ---- lists of items

tail_of : {X : Type 0} (x y : X) (xs ys : List X) → x ∷ xs ≡ y ∷ ys → xs ≡ ys
tail_of x y xs ys e = cc

head_of : {X : Type 0} (x y : X) (xs ys : List X) → x ∷ xs ≡ y ∷ ys → x ≡ y
head_of x y xs ys e = cc

nil_cons : {X : Type 0} {x : X} {xs : List X} → [] ≡ x ∷ xs → ⊥
nil_cons e = cc

cons_nil : {X : Type 0} {x : X} {xs : List X} → x ∷ xs ≡ [] → ⊥
cons_nil e = cc

-- others like no items are none
pub none_like : (items others : List Made) → AreAlike items others → items ≡ [] → others ≡ []
none_like items [] alike none = refl
none_like items (y ∷ others) alike none = absurd (nil_cons (sym (ap (map bare) none) ∙ alike))

pub record IsConsLike (x : Made) (items others : List Made) : Type 0 where
  pub first : Made
  pub later : List Made
  pub is : others ≡ first ∷ later
  pub here : bare x ≡ bare first
  pub behind : AreAlike items later

pub cons_like : (x : Made) (items others : List Made) → AreAlike (x ∷ items) others → IsConsLike x items others
cons_like x items [] alike = absurd (cons_nil alike)
cons_like x items (y ∷ others) alike = record { first = y; later = others; is = refl; here = head_of (bare x) (bare y) (map bare items) (map bare others) alike; behind = tail_of (bare x) (bare y) (map bare items) (map bare others) alike }

-- others like two lists, one behind the other, are two such lists
pub record IsSplitLike (earlier later others : List Made) : Type 0 where
  pub first : List Made
  pub rest : List Made
  pub is : others ≡ first ++ rest
  pub here : AreAlike earlier first
  pub behind : AreAlike later rest

pub split_like : (earlier later others : List Made) → AreAlike (earlier ++ later) others → IsSplitLike earlier later others
split_like [] later others alike = record { first = []; rest = others; is = refl; here = refl; behind = alike }
split_like (x ∷ earlier) later others alike =
    let one = cons_like x (earlier ++ later) others alike in
    let more = split_like earlier later one.later one.behind in
    record {
      first = one.first ∷ more.first;
      rest = more.rest;
      is = one.is ∙ ap (λ (l : List Made). one.first ∷ l) more.is;
      here = ap (λ (l : List Made). bare x ∷ l) more.here ∙ ap (λ (m : Made). m ∷ map bare more.first) one.here;
      behind = more.behind;
    }

pub append_like : (earlier first later rest : List Made) → AreAlike earlier first → AreAlike later rest → AreAlike (earlier ++ later) (first ++ rest)
append_like earlier first later rest here behind = map_append earlier later ∙ ap (λ l. l ++ map bare later) here ∙ ap (λ l. map bare first ++ l) behind ∙ sym (map_append first rest) where
  map_append : (a b : List Made) → map bare (a ++ b) ≡ map bare a ++ map bare b
  map_append [] b = refl
  map_append (x ∷ a) b = ap (λ l. bare x ∷ l) (map_append a b)

pub long_like : (items others : List Made) → AreAlike items others → length others ≡ length items
long_like [] others alike = ap (λ (l : List Made). length l) (none_like [] others alike refl)
long_like (x ∷ items) others alike =
    let one = cons_like x items others alike in
    ap (λ (l : List Made). length l) one.is ∙ ap (λ (n : ℕ). suc n) (long_like items one.later one.behind)

-- they have as many calls on maps and atomics
pub shared_like : (items others : List Made) → AreAlike items others → length (shared_in others) ≡ length (shared_in items)
shared_like [] others alike = ap (λ (l : List Made). length (shared_in l)) (none_like [] others alike refl)
shared_like (Shared x ∷ items) others alike =
    let one = cons_like (Shared x) items others alike in
    let is = placed_like x one.first one.here in
    ap (λ (l : List Made). length (shared_in l)) (one.is ∙ ap (λ (m : Made). m ∷ one.later) is.is) ∙ ap (λ (n : ℕ). suc n) (shared_like items one.later one.behind)
shared_like (Entered object entry ∷ items) others alike =
    let one = cons_like (Entered object entry) items others alike in
    let is = entered_like object entry one.first one.here in
    ap (λ (l : List Made). length (shared_in l)) (one.is ∙ ap (λ (m : Made). m ∷ one.later) is.is) ∙ shared_like items one.later one.behind

-- ---- parts

pub blind_returns : {O : Type 0} (outcome : O) → Blind (returns outcome)
blind_returns outcome items others answer alike (none, is) = (none_like items others alike none, is)

pub blind_never : {O : Type 0} → Blind {O = O} never
blind_never items others answer alike none = none

goes_on : {O P : Type 0} (next : O → Part P) → ((outcome : O) → Blind (next outcome)) → (given : CallAnswer O) (items others : List Made) (answer : CallAnswer P) → AreAlike items others → GoesOn next given items answer → GoesOn next given others answer
goes_on next blind (Done (Ok outcome)) items others answer alike goes = blind outcome items others answer alike goes
goes_on next blind (Done (Err misuse)) items others answer alike (none, is) = (none_like items others alike none, is)
goes_on next blind (Halted misuse) items others answer alike (none, is) = (none_like items others alike none, is)

pub blind_then : {O P : Type 0} (first : Part O) (next : O → Part P) → Blind first → ((outcome : O) → Blind (next outcome)) → Blind (and_then first next)
blind_then first next blind blinds items others answer alike (earlier, later, given, is, one, goes) =
    let parts = split_like earlier later others (sym (ap (map bare) is) ∙ alike) in
    (parts.first, parts.rest, given, parts.is, blind earlier parts.first given parts.here one, goes_on next blinds given later parts.rest answer parts.behind goes)

pub blind_read : {O P : Type 0} (f : O → P) (part : Part O) → Blind part → Blind (read_as f part)
blind_read f part blind items others answer alike (given, is, read) = (given, blind items others given alike is, read)

-- calls on maps and atomics
pub blind_places : (calls : List (SharedCall × SharedReply)) (items others : List Made) → AreAlike items others → Places calls items → Places calls others
blind_places calls items others alike (made, is, are) = by (likes made others (sym (ap (map bare) is) ∙ alike)) where
  likes : (made : List Item) (others : List Made) → AreAlike (map Shared made) others → (new : List Item) × (others ≡ map Shared new) × (map both new ≡ map both made)
  likes [] others alike = ([], none_like [] others alike refl, refl)
  likes (x ∷ made) others alike =
      let one = cons_like (Shared x) (map Shared made) others alike in
      let here = placed_like x one.first one.here in
      let (new, is, same) = likes made one.later one.behind in
      (here.like ∷ new, one.is ∙ ap (λ (m : Made). m ∷ one.later) here.is ∙ ap (λ (l : List Made). Shared here.like ∷ l) is, ap (λ b. b ∷ map both new) here.same ∙ ap (λ l. both x ∷ l) same)

  by : (new : List Item) × (others ≡ map Shared new) × (map both new ≡ map both made) → Places calls others
  by (new, is, same) = (new, is, same ∙ are)

-- entries of an object of one kind
module _ {E R : Type 0} (event : E → ObjectEvent) (reply : R → ObjectReply) (object : ℕ) where
  abbrev pub of_entry : Entry E R → Made
  of_entry entry = Entered object (lifted event reply entry)

  abbrev pub deeds : List (Entry E R) → List (Deed E R)
  deeds entries = map (λ entry. entry.deed) entries

  pub entries_like : (entries : List (Entry E R)) (others : List Made) → AreAlike (map of_entry entries) others → (new : List (Entry E R)) × (others ≡ map of_entry new) × (deeds new ≡ deeds entries)
  entries_like [] others alike = ([], none_like [] others alike refl, refl)
  entries_like (x ∷ entries) others alike =
      let one = cons_like (of_entry x) (map of_entry entries) others alike in
      let here = entered_like object (lifted event reply x) one.first one.here in
      let (new, is, same) = entries_like entries one.later one.behind in
      let like : Entry E R = record { caller = here.like.caller; deed = x.deed; front = here.like.front; knew = here.like.knew; time = here.like.time } in
      let item : one.first ≡ of_entry like = subst (λ (d : Deed ObjectEvent ObjectReply). one.first ≡ Entered object (record here.like { deed = d })) here.same here.is in
      (like ∷ new, subst (λ (l : List Made). others ≡ of_entry like ∷ l) is (subst (λ (m : Made). others ≡ m ∷ one.later) item one.is), ap (λ l. x.deed ∷ l) same)

  pub blind_stages : {G O : Type 0} (event_of : G → ℕ → E) (meaning : G → R → Step G O) (stage : G) → Blind (stages event reply event_of meaning object stage)
  blind_stages event_of meaning stage items others answer alike (entries, is, spells) = by (entries_like entries others (sym (ap (map bare) is) ∙ alike)) where
    by : (new : List (Entry E R)) × (others ≡ map of_entry new) × (deeds new ≡ deeds entries) → stages event reply event_of meaning object stage others answer
    by (new, are, same) = (new, are, subst (λ (ds : List (Deed E R)). Spells event_of meaning stage ds answer) (sym same) spells)
