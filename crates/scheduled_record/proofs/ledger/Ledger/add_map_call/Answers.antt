use Rattle.std.proofs.Common.{◌≡◌, ℕ, ◌+◌, ◌<◌, ◌&&◌, Bool, false, cond, List, [], length, Some, sym, ap, ◌∙◌, subst, slice_index_or, slice_set}
use Rattle.std.specs.FinMap.{FinMap, empty}
use Rattle.std.specs.Ordering.{nat_cmp}
use Rattle.sync_types.specs.SequentialMap.{is_map_entry, map_after}
use Rattle.sync_model.specs.declared.item.SharedCall.TheVariants as calls
use Rattle.sync_model.specs.declared.item.SharedReply.TheVariants as answers
use Rattle.sync_model.specs.SharedHistory.{shared_after, is_entry}
use Rattle.record_text.specs.declared.item_line.PlacedReply.{PlacedReply}
use Rattle.record_text.specs.declared.item_line.Said.TheVariants as said
use Rattle.record_text.specs.ItemLines.{is_reply}
use Rattle.kept_record.specs.Keeping.{account_of}
use Rattle.scheduled_record.specs.Ledgers.{known_in}
use Rattle.scheduled_record.specs.ToldItems.{acts_in}
use Rattle.scheduled_record.proofs.LedgerSteps.{called, stays}
use Rattle.scheduled_record.proofs.ledger.Ledger.add_map_call.Goals as goal

pub returns-in_ok-enter_map : goal.returns-in_ok-enter_map
returns-in_ok-enter_map c plan = record {
  stays =
      let placed = c.in_ok-place.ensures.placed in
      stays plan c.args.self.now _ c.args.worker _ c.args.index (known_in c.args.self.now c.args.worker) (Some (said.Call c.args.self.now.history c.map_reply.result)) placed.workers (ap length placed.journals) placed.lines placed.front
      (ap (λ (b : Bool). b && is_reply c.map_reply.result) c.number_fits.ensures ∙ c.map_reply.ensures.fits);
  kept = λ told is right.
      let contents = (account_of plan (acts_in told)).contents in
      let call = calls.Map c.args.map c.args.call.now in
      let enters : c.enters_map-enters.result ≡ is_entry call contents =
      c.enters_map-enters.ensures ∙ ap (λ (maps : List (FinMap nat_cmp ℕ)). is_map_entry c.args.call.now (slice_index_or maps c.args.map empty)) (c.deref.ensures.value ∙ is.maps) in
      called plan told c.args.index c.args.worker (record { call = call; reply = answers.Map c.args.reply; place = 0; entry = false; front = [] }) _ c.args.self.now _
      is (subst (λ (k : ℕ). c.args.worker < k) is.workers c.requires)
      (let placed = c.in_ok-place.ensures.placed in
      record { workers = placed.workers; journals = placed.journals; history = placed.history ∙ ap (λ (b : Bool). cond b (c.args.self.now.history + 1) c.args.self.now.history) enters; lines = placed.lines; front = placed.front })
      (ap (λ (r : PlacedReply). Some (said.Call c.args.self.now.history r)) (sym c.map_reply.ensures.word))
      (c.in_ok-enter_map.ensures
      ∙ (ap (λ (maps : List (FinMap nat_cmp ℕ)). slice_set maps c.args.map (map_after c.args.call.now (slice_index_or maps c.args.map empty))) (c.in_ok-place.ensures.maps ∙ is.maps)
      ∙ ap (λ (b : Bool). (cond b (shared_after call contents) contents).maps) (sym c.if-enters.true ∙ enters)));
}

pub returns-else-enters : goal.returns-else-enters
returns-else-enters c plan = record {
  stays =
      let placed = c.in_ok-place.ensures.placed in
      stays plan c.args.self.now _ c.args.worker _ c.args.index (known_in c.args.self.now c.args.worker) (Some (said.Call c.args.self.now.history c.map_reply.result)) placed.workers (ap length placed.journals) placed.lines placed.front
      (ap (λ (b : Bool). b && is_reply c.map_reply.result) c.number_fits.ensures ∙ c.map_reply.ensures.fits);
  kept = λ told is right.
      let contents = (account_of plan (acts_in told)).contents in
      let call = calls.Map c.args.map c.args.call.now in
      let enters : c.enters_map-enters.result ≡ is_entry call contents =
      c.enters_map-enters.ensures ∙ ap (λ (maps : List (FinMap nat_cmp ℕ)). is_map_entry c.args.call.now (slice_index_or maps c.args.map empty)) (c.deref.ensures.value ∙ is.maps) in
      called plan told c.args.index c.args.worker (record { call = call; reply = answers.Map c.args.reply; place = 0; entry = false; front = [] }) _ c.args.self.now c.place.new.self
      is (subst (λ (k : ℕ). c.args.worker < k) is.workers c.requires)
      (let placed = c.in_ok-place.ensures.placed in
      record { workers = placed.workers; journals = placed.journals; history = placed.history ∙ ap (λ (b : Bool). cond b (c.args.self.now.history + 1) c.args.self.now.history) enters; lines = placed.lines; front = placed.front })
      (ap (λ (r : PlacedReply). Some (said.Call c.args.self.now.history r)) (sym c.map_reply.ensures.word))
      (c.in_ok-place.ensures.maps ∙ (is.maps ∙ ap (λ (b : Bool). (cond b (shared_after call contents) contents).maps) (sym c.if-enters.false ∙ enters)));
}
