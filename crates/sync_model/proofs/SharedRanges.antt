-- What a Range shows, and what it can't miss.
use Rattle.std.proofs.Common.{◌≡◌, ◌≢◌, ℕ, zero, suc, ◌^◌, ◌<◌, ◌≤◌, List, Option, Some, None, slice_get, ◌⊎◌, inl, inr, refl, sym, ap, ◌∙◌, subst, arith}
use Rattle.std.proofs.lemmas.Option.{none-some, same_Some}
use Rattle.std.proofs.lemmas.Bool.{cases_eq, cases_lt}
use Rattle.sync_model.specs.declared.item.SharedCall.{SharedCall}
use Rattle.sync_model.specs.declared.item.SharedCall.TheVariants.{Map, Begin, Next, Atomic}
use Rattle.sync_model.specs.declared.item.SharedReply.{SharedReply}
use Rattle.sync_model.specs.declared.item.SharedReply.TheVariants as replies
use Rattle.sync_model.specs.declared.item.SharedEntry.{SharedEntry}
use Rattle.sync_model.specs.declared.item.Item.{Item}
use Rattle.sync_model.specs.SharedHistory.{Contents, value_at, contents_at, IsReply}
use Rattle.sync_model.specs.SharedCalls.{Knows, IsStep, IsUnshown, WasSo, MayShow, Lawful}

-- a step of the cursor with this reply shows the key
abbrev Shows : ℕ → ℕ → SharedCall → SharedReply → Type 0
Shows b key call reply = (value : ℕ) × (call ≡ Next b) × (reply ≡ replies.Shown (Some (key, value)))

-- the key of a shown pair
abbrev key_of : SharedReply → ℕ → ℕ
key_of (replies.Map reply) other = other
key_of replies.Begun other = other
key_of (replies.Shown None) other = other
key_of (replies.Shown (Some (key, value))) other = key
key_of (replies.Atomic reply) other = other

shows_key : (b key k value : ℕ) (call : SharedCall) → call ≡ Next b → Shows b key call (replies.Shown (Some (k, value))) ⊎ (Shows b key call (replies.Shown (Some (k, value))) → ⊥)
shows_key b key k value call is = elim (cases_eq k key) [
  | inl e ↦ inl (value, is, ap (λ n. replies.Shown (Some (n, value))) e)
  | inr ne ↦ inr (λ shows. ne (ap (λ reply. key_of reply key) shows.2))
]

-- whether a step shows the key
shows_or_not : (b key : ℕ) (call : SharedCall) (reply : SharedReply) → Shows b key call reply ⊎ (Shows b key call reply → ⊥)
shows_or_not b key (Map m call) reply = inr (λ shows. let e = shows.1 in absurd cc)
shows_or_not b key (Begin m) reply = inr (λ shows. let e = shows.1 in absurd cc)
shows_or_not b key (Atomic a call) reply = inr (λ shows. let e = shows.1 in absurd cc)
shows_or_not b key (Next begin) (replies.Map reply) = inr (λ shows. let e = shows.2 in absurd cc)
shows_or_not b key (Next begin) replies.Begun = inr (λ shows. let e = shows.2 in absurd cc)
shows_or_not b key (Next begin) (replies.Atomic reply) = inr (λ shows. let e = shows.2 in absurd cc)
shows_or_not b key (Next begin) (replies.Shown None) = inr (λ shows. let e = shows.2 in absurd cc)
shows_or_not b key (Next begin) (replies.Shown (Some (k, value))) = elim (cases_eq begin b) [
  | inl e ↦ shows_key b key k value (Next begin) (ap Next e)
  | inr ne ↦ inr (λ shows. let e : Next begin ≡ Next b = shows.1 in ne cc)
]

-- a step before number i that shows the key
abbrev IsShown : List Item → ℕ → ℕ → ℕ → Type 0
IsShown items b i key = (j : ℕ) × (x : Item) × (value : ℕ) × (j < i) × IsStep items b j x (Some (key, value))

-- it is there, or there is none
search_for : (items : List Item) (b key i : ℕ) → IsShown items b i key ⊎ IsUnshown items b i key
search_for items b key zero = inr (λ j x value below step. omega arith)
search_for items b key (suc i) = by_earlier (search_for items b key i) (slice_get items i) refl
  where
    last_of : (x : Item) → slice_get items i ≡ Some x → IsUnshown items b i key → (Shows b key x.call x.reply ⊎ (Shows b key x.call x.reply → ⊥)) → IsShown items b (suc i) key ⊎ IsUnshown items b (suc i) key
    last_of x at none (inl shows) = inl (i, x, shows.0, omega arith, record { at = at; call = shows.1; reply = shows.2 })
    last_of x at none (inr hidden) = inr (λ j y value below step. elim (cases_lt j i) [
      | inl before ↦ none j y value before step
      | inr after ↦
          let here : j ≡ i = omega arith in
          let same : x ≡ y = same_Some x y (sym at ∙ subst (λ k. slice_get items k ≡ Some y) here step.at) in
          hidden (value, ap (λ (z : Item). z.call) same ∙ step.call, ap (λ (z : Item). z.reply) same ∙ step.reply)
    ])

    by_last : IsUnshown items b i key → (o : Option Item) → slice_get items i ≡ o → IsShown items b (suc i) key ⊎ IsUnshown items b (suc i) key
    by_last none None e = inr (λ j y value below step. elim (cases_lt j i) [
      | inl before ↦ none j y value before step
      | inr after ↦ let here : j ≡ i = omega arith in none-some y (sym e ∙ subst (λ k. slice_get items k ≡ Some y) here step.at)
    ])
    by_last none (Some x) e = last_of x e none (shows_or_not b key x.call x.reply)

    by_earlier : IsShown items b i key ⊎ IsUnshown items b i key → (o : Option Item) → slice_get items i ≡ o → IsShown items b (suc i) key ⊎ IsUnshown items b (suc i) key
    by_earlier (inl (j, x, value, below, step)) o e = inl (j, x, value, omega arith, step)
    by_earlier (inr none) o e = by_last none o e

module _ (start : Contents) (history : List SharedEntry) (calls : ℕ → List Item) (lawful : Lawful start history calls) where
  may_show : (c b i : ℕ) (x : Item) (shown : Option (ℕ × ℕ)) → IsStep (calls c) b i x shown → (begin : Item) × (m : ℕ) × MayShow start history calls c b m begin.front i x.place shown
  may_show c b i x shown step =
      let begun = (lawful.sound c i x step.at).begun b step.call in
      (begun.0, begun.1, lawful.ranges c b begun.1 begun.0 begun.3 begun.4 i x shown step)

  pub no_key_twice : (c b i j key first second : ℕ) (x y : Item) → IsStep (calls c) b i x (Some (key, first)) → IsStep (calls c) b j y (Some (key, second)) → i ≡ j
  no_key_twice c b i j key first second x y one two =
      elim (cases_eq i j) [
        | inl e ↦ e
        | inr ne ↦ elim (cases_lt i j) [
          | inl before ↦ absurd ((may_show c b j y (Some (key, second)) two).2.0 i x first before one)
          | inr after ↦ absurd ((may_show c b i x (Some (key, first)) one).2.0 j y second (omega arith) two)
        ]
      ]

  pub no_key_missed : (c b i m key : ℕ) (begin x : Item) → slice_get (calls c) b ≡ Some begin → begin.call ≡ Begin m → IsStep (calls c) b i x None → key < 2 ^ 32
      → ((n : ℕ) → Knows calls begin.front n → n ≤ x.place → value_at (contents_at start history n) m key ≢ None) → IsShown (calls c) b i key
  no_key_missed c b i m key begin x at is step small stood = elim (search_for (calls c) b key i) [
    | inl shown ↦ shown
    | inr none ↦ let was = lawful.ranges c b m begin at is i x None step key small none in absurd (stood was.moment was.knows was.within was.is)
  ]

  pub only_what_was : (c b i m key value : ℕ) (begin x : Item) → slice_get (calls c) b ≡ Some begin → begin.call ≡ Begin m → IsStep (calls c) b i x (Some (key, value))
      → WasSo start history calls begin.front x.place m key (Some value)
  only_what_was c b i m key value begin x at is step = (lawful.ranges c b m begin at is i x (Some (key, value)) step).1

  pub steps_follow : (c b j : ℕ) (x : Item) → slice_get (calls c) j ≡ Some x → x.call ≡ Next b
      → (begin : Item) × (m : ℕ) × (shown : Option (ℕ × ℕ)) × (b < j) × (slice_get (calls c) b ≡ Some begin) × (begin.call ≡ Begin m) × IsStep (calls c) b j x shown
  steps_follow c b j x at is =
      let begun = (lawful.sound c j x at).begun b is in
      let reply : IsReply (Next b) x.reply (contents_at start history x.place) = subst (λ call. IsReply call x.reply (contents_at start history x.place)) is (lawful.sound c j x at).reply in
      (begun.0, begun.1, reply.0, begun.2, begun.3, begun.4, record { at = at; call = is; reply = reply.1 })
