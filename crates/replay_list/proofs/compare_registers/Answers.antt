use Rattle.replay_list.proofs.Laws.{banks_compared}
use Rattle.replay_list.proofs.compare_registers.Goals as goal

pub returns : goal.returns
returns c = banks_compared _ _ _ _ c.new-fresh.ensures c.set_all-next.ensures c.compare_bank-wrong.ensures c.compare_bank.ensures
