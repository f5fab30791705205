use Rattle.generated_system.proofs.TalkCounts.{talk_counted}
use Rattle.generated_system.proofs.laws.counted_talks.Goals as goal

pub returns : goal.returns
returns c = talk_counted
