use Rattle.sync_model.specs.declared.item.SharedCall.TheVariants.{Map, Begin, Next}
use Rattle.sync_types.specs.declared.map_object.MapCall.TheVariants.{Clear}
use Rattle.sync_model.proofs.SharedKeys.{reply_is, entry_is, by_key, by_atomic}
use Rattle.sync_model.proofs.laws.shared.each_key_and_each_atomic_goes_by_itself.Goals as goal

pub returns-clause-map : goal.returns-clause-map
returns-clause-map c = λ maps kinds history calls c j m key call x lawful at is on there. by_key maps kinds history calls lawful c j x at m key call is on there

pub returns-clause-clear : goal.returns-clause-clear
returns-clause-clear c = λ start history calls c j m x lawful at is. (reply_is start history calls lawful c j x at (Map m Clear) is, entry_is start history calls lawful c j x at (Map m Clear) is)

pub returns-clause-atomic : goal.returns-clause-atomic
returns-clause-atomic c = λ maps kinds history calls c j a kind call x lawful at is there. by_atomic maps kinds history calls lawful c j x at a kind call is there

pub returns-clause-begin : goal.returns-clause-begin
returns-clause-begin c = λ start history calls c j m x lawful at is. (reply_is start history calls lawful c j x at (Begin m) is, entry_is start history calls lawful c j x at (Begin m) is)

pub returns-clause-next : goal.returns-clause-next
returns-clause-next c = λ start history calls c j b x lawful at is. entry_is start history calls lawful c j x at (Next b) is
