-- A call of one object, item by item.
use Rattle.std.proofs.Common.{◌≡◌, ℕ, ◌+◌, ◌≤◌, List, [], ◌∷◌, ◌++◌, drop, Some, slice_get, refl, sym, ap, ◌∙◌, append_assoc}
use Rattle.std.specs.List.{slice_range}
use Rattle.sync_model.specs.declared.journal.Deed.{Deed}
use Rattle.protocols.specs.Spelling.{CallAnswer}
use Rattle.run_record.specs.declared.entered.ObjectEvent.{ObjectEvent}
use Rattle.run_record.specs.declared.entered.ObjectReply.{ObjectReply}
use Rattle.run_record.specs.declared.made.Made.{Made}
use Rattle.run_cuts.specs.Cuts.{Beginning, whole, within, wrong, behind, Move, answers_by, goes_to, no_call, by_move, stages_cut}
use Rattle.list_checks.proofs.SpellLists.{at_place, nothing, one_more}

pub behind_both : {O : Type 0} (before next : List Made) (beginning : Beginning O) → behind before (behind next beginning) ≡ behind (before ++ next) beginning
behind_both before next (whole items answer rest) = ap (λ all. whole all answer rest) (sym (append_assoc before next items))
behind_both before next within = refl
behind_both before next wrong = refl

pub behind_nothing : {O : Type 0} (beginning : Beginning O) → behind [] beginning ≡ beginning
behind_nothing (whole items answer rest) = refl
behind_nothing within = refl
behind_nothing wrong = refl

module _ {G O : Type 0} (moves : G → Deed ObjectEvent ObjectReply → Move G O) (object : ℕ) (list : List Made) (from : ℕ) (start : G) where
  -- what was read up to a place leads to this stage
  abbrev pub LeadsTo : ℕ → G → Type 0
  LeadsTo next at = stages_cut moves object start (drop from list) ≡ behind (slice_range list from next) (stages_cut moves object at (drop next list))

  pub begins : LeadsTo from start
  begins = sym (ap (λ items. behind items (stages_cut moves object start (drop from list))) (nothing list from) ∙ behind_nothing (stages_cut moves object start (drop from list)))

  module _ (next : ℕ) (at : G) (item : Made) (there : slice_get list next ≡ Some item) (along : from ≤ next) (leads : LeadsTo next at) where
    -- how it goes on by an item
    abbrev pub Reads : Move G O → Type 0
    Reads m = (rest : List Made) → stages_cut moves object at (item ∷ rest) ≡ by_move moves object item m rest (λ later. stages_cut moves object later rest)

    reads : (m : Move G O) → Reads m → stages_cut moves object start (drop from list) ≡ behind (slice_range list from next) (by_move moves object item m (drop (next + 1) list) (λ later. stages_cut moves object later (drop (next + 1) list)))
    reads m by = leads ∙ ap (behind (slice_range list from next)) (ap (stages_cut moves object at) (at_place list next item there) ∙ by (drop (next + 1) list))

    pub on : (later : G) → Reads (goes_to later) → LeadsTo (next + 1) later
    on later by = reads (goes_to later) by ∙ behind_both (slice_range list from next) (item ∷ []) (stages_cut moves object later (drop (next + 1) list))
        ∙ ap (λ items. behind items (stages_cut moves object later (drop (next + 1) list))) (one_more list from next item there along)

    pub ends : (answer : CallAnswer O) → Reads (answers_by answer) → stages_cut moves object start (drop from list) ≡ whole (slice_range list from (next + 1)) answer (drop (next + 1) list)
    ends answer by = reads (answers_by answer) by ∙ ap (λ items. whole items answer (drop (next + 1) list)) (one_more list from next item there along)

    pub fails : Reads no_call → stages_cut moves object start (drop from list) ≡ wrong
    fails by = reads no_call by
