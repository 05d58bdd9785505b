use Rattle.std.proofs.Common.{◌∙◌, false, [], ap}
use Rattle.sync_model.specs.declared.item.SharedCall.{SharedCall}
use Rattle.sync_model.specs.declared.item.SharedReply.{SharedReply}
use Rattle.sync_model.specs.declared.journal.Deed.{Deed}
use Rattle.run_record.specs.declared.entered.ObjectEvent.{ObjectEvent}
use Rattle.run_record.specs.declared.entered.ObjectReply.{ObjectReply}
use Rattle.run_record.specs.declared.made.Made.TheVariants.{Shared, Entered}
use Rattle.run_cuts.proofs.BlindCalls.{closing_blind, opening_blind, spells_blind}
use Rattle.run_cuts.proofs.BlindLines.{line_like}
use Rattle.run_cuts.proofs.laws.a_spelling_is_blind.Goals as goal

pub returns-clause-shared : goal.returns-clause-shared
returns-clause-shared c x y call reply =
    ap (λ (of : SharedCall). Shared (record { call = of; reply = x.reply; place = 0; entry = false; front = [] })) call ∙ ap (λ (r : SharedReply). Shared (record { call = y.call; reply = r; place = 0; entry = false; front = [] })) reply

pub returns-clause-entered : goal.returns-clause-entered
returns-clause-entered c object entry other deed = ap (λ (d : Deed ObjectEvent ObjectReply). Entered object (record { caller = 0; deed = d; front = []; knew = 0; time = 0 })) deed

pub returns-clause-calls : goal.returns-clause-calls
returns-clause-calls c plan worker before call = spells_blind plan worker before call

pub returns-clause-before : goal.returns-clause-before
returns-clause-before c plan worker = opening_blind plan worker

pub returns-clause-behind : goal.returns-clause-behind
returns-clause-behind c plan worker = closing_blind plan worker

pub returns-clause-lines : goal.returns-clause-lines
returns-clause-lines c plan worker line items alike is = line_like plan worker line items alike is
