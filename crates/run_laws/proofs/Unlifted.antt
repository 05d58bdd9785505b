-- A journal of one kind's entries, read back.
use Rattle.std.proofs.Common.{◌≡◌, ℕ, Bool, true, List, [], ◌∷◌, map, None, refl, sym, ap, ◌∙◌, subst}
use Rattle.sync_model.specs.declared.journal.Deed.{Deed}
use Rattle.sync_model.specs.declared.journal.Entry.{Entry}
use Rattle.sync_model.specs.Journal.{Follows, KeepsEdges}
use Rattle.run_record.specs.declared.entered.ObjectEvent.{ObjectEvent}
use Rattle.run_record.specs.declared.entered.ObjectReply.{ObjectReply}
use Rattle.run_record.specs.Journals.{FollowsFrom}
use Rattle.run_record.specs.Parts.{lifted, lifted_deed}
use Rattle.run_record.specs.Record.{ObjectEntry}

module _ {E R : Type 0} (event : E → ObjectEvent) (reply : R → ObjectReply) (back : Deed ObjectEvent ObjectReply → Deed E R) (is_back : (d : Deed E R) → back (lifted_deed event reply d) ≡ d) where
  abbrev pub unlifted : ObjectEntry → Entry E R
  unlifted x = record { caller = x.caller; deed = back x.deed; front = x.front; knew = x.knew; time = x.time }

  one_back : (x : Entry E R) → unlifted (lifted event reply x) ≡ x
  one_back x = ap (λ (d : Deed E R). let e : Entry E R = record { caller = x.caller; deed = d; front = x.front; knew = x.knew; time = x.time } in e) (is_back x.deed)

  all_back : (own : List (Entry E R)) → map unlifted (map (lifted event reply) own) ≡ own
  all_back [] = refl
  all_back (x ∷ own) = ap (λ (y : Entry E R). y ∷ map unlifted (map (lifted event reply) own)) (one_back x) ∙ ap (λ (ys : List (Entry E R)). x ∷ ys) (all_back own)

  -- a journal that follows a machine has the machine's replies
  pub follows_back : {S : Type 0} (next : S → ℕ → E → S × R) (frees takes : E → R → Bool) (start : S) (journal : List ObjectEntry)
      → FollowsFrom event reply next frees takes start journal → Follows next true start None (map unlifted journal)
  follows_back {S} next frees takes start journal follows =
      subst (Follows next true start None) (sym (ap (map unlifted) follows.1 ∙ all_back follows.0)) follows.2

  -- and keeps the edge law
  pub edges_back : {S : Type 0} (next : S → ℕ → E → S × R) (frees takes : E → R → Bool) (start : S) (journal : List ObjectEntry)
      → FollowsFrom event reply next frees takes start journal → KeepsEdges frees takes (map unlifted journal)
  edges_back {S} next frees takes start journal follows =
      subst (KeepsEdges frees takes) (sym (ap (map unlifted) follows.1 ∙ all_back follows.0)) follows.3
