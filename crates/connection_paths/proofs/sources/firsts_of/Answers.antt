use Rattle.std.proofs.Common.{◌<◌, length, arith}
use Rattle.std.proofs.lemmas.List.Elements.{All-get_or}
use Rattle.connection_paths.proofs.sources.firsts_of.Goals as goal

pub first_at-requires : goal.first_at-requires
first_at-requires c = All-get_or (λ k. k < length c.args.firsts.now) c.args.connectors.now c.loop-connector.connector-index 0 (omega arith) c.requires
