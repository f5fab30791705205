use Rattle.exact_parts.specs.declared.taken.Taken.TheVariants.{Got, NeedMore, Bad}
use Rattle.exact_parts.proofs.CallerLemmas.{kept_takes}
use Rattle.system_checkpoint.specs.Parts.{Wide, clock_times}
use Rattle.system_checkpoint.proofs.parts.take_shift.Goals as goal

pub returns-in-Got : goal.returns-in-Got
returns-in-Got c = kept_takes (Wide 0) (clock_times c.args.interval) c.args.bytes.now (Got c.in-Got.value c.in-Got.length) c.in-Got.ensures

pub returns-in-NeedMore : goal.returns-in-NeedMore
returns-in-NeedMore c = kept_takes (Wide 0) (clock_times c.args.interval) c.args.bytes.now NeedMore c.in-NeedMore.ensures

pub returns-in-Bad : goal.returns-in-Bad
returns-in-Bad c = kept_takes (Wide 0) (clock_times c.args.interval) c.args.bytes.now (Bad c.in-Bad.at) c.in-Bad.ensures
