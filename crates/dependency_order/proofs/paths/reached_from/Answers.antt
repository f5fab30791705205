use Rattle.std.proofs.Common.{◌<◌, length, arith}
use Rattle.std.proofs.lemmas.List.Elements.{All-get_or}
use Rattle.dependency_order.proofs.paths.reached_from.Goals as goal

pub spread-requires-clause-from : goal.spread-requires-clause-from
spread-requires-clause-from c = All-get_or (λ s. s < length c.args.links.now) c.args.starts.now c.loop-start.start-index 0 (omega arith) c.requires.starts
