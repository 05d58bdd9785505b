-- A look takes the item of one put alone.
use Rattle.std.proofs.Common.{◌≡◌, ℕ, true, sym, ◌∙◌}
use Rattle.std.proofs.lemmas.Bool.{false≢true, eqb-true}
use Rattle.pool_core.specs.declared.pool_event.PoolReply.{PoolReply}
use Rattle.pool_core.specs.declared.pool_event.PoolReply.TheVariants.{Item}
use Rattle.run_record.specs.declared.entered.ObjectEvent.TheVariants as events
use Rattle.step_runner.specs.declared.turns.item.Deed.{Deed}
use Rattle.step_runner.specs.declared.turns.item.Deed.TheVariants as deeds
use Rattle.race_clocks.specs.Seen.{NumberedPool, pool_step, is_item, takes_put}

one_item : (a b : ℕ) (reply : PoolReply ℕ) → is_item a reply ≡ true → is_item b reply ≡ true → a ≡ b
one_item a b (Item number) e f = sym (eqb-true number a e) ∙ eqb-true number b f
one_item a b reply e f = absurd (false≢true e)

pub one_put : (seen : NumberedPool) (caller a b : ℕ) (deed : Deed) → takes_put a seen caller deed ≡ true → takes_put b seen caller deed ≡ true → a ≡ b
one_put seen caller a b (deeds.Entered (events.Pool event) answer) e f = one_item a b (pool_step seen caller event).1 e f
one_put seen caller a b deed e f = absurd (false≢true e)
