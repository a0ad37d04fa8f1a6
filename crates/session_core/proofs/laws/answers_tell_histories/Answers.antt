use Rattle.session_core.proofs.HistoryLemmas.{tell_histories}
use Rattle.session_core.proofs.laws.answers_tell_histories.Goals as goal

pub returns : goal.returns
returns c = tell_histories
