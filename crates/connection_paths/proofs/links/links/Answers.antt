use Rattle.std.proofs.Common.{◌<◌, length, ap, ◌∙◌, arith}
use Rattle.std.proofs.lemmas.List.Elements.{All-get_or, All-contains}
use Rattle.std.proofs.lemmas.List.{length-set}
use Rattle.connection_paths.specs.Paths.{IsWithin}
use Rattle.connection_paths.proofs.FirstLemmas.{links_more, links_whole, start_within}
use Rattle.connection_paths.proofs.links.links.Goals as goal

pub first_at-start-requires : goal.first_at-start-requires
first_at-start-requires c = (All-get_or (IsWithin (length c.args.firsts.now)) c.args.connections.now c.loop-connection.connection-index _ (omega arith) c.requires.ends).0

pub first_at-end-requires : goal.first_at-end-requires
first_at-end-requires c = (All-get_or (IsWithin (length c.args.firsts.now)) c.args.connections.now c.loop-connection.connection-index _ (omega arith) c.requires.ends).1

pub push-requires : goal.push-requires
push-requires c =
    start_within c.args.firsts.now c.args.connections.now c.loop-connection.connection-index _ c.loop-connection.links c.first_at-start.result (λ k h. All-contains (IsWithin (length c.args.firsts.now)) c.args.connections.now k c.requires.ends h) c.requires.firsts (omega arith) c.loop-connection.invariant.len c.first_at-start.ensures

pub loop-connection-preserved : goal.loop-connection-preserved
loop-connection-preserved c =
    let within : c.first_at-start.result < length c.loop-connection.links = start_within c.args.firsts.now c.args.connections.now c.loop-connection.connection-index _ c.loop-connection.links c.first_at-start.result (λ k h. All-contains (IsWithin (length c.args.firsts.now)) c.args.connections.now k c.requires.ends h) c.requires.firsts (omega arith) c.loop-connection.invariant.len c.first_at-start.ensures in
    record {
      len = ap length c.in_ok-push.ensures.pushed ∙ length-set c.loop-connection.links c.first_at-start.result _ ∙ c.loop-connection.invariant.len;
      links = links_more c.args.firsts.now c.args.connections.now c.loop-connection.connection-index _ c.loop-connection.links c.push.new.self c.first_at-start.result c.first_at-end.result (omega arith) c.loop-connection.invariant.links c.first_at-start.ensures c.first_at-end.ensures within c.in_ok-push.ensures.pushed;
    }

pub returns-clause-links : goal.returns-clause-links
returns-clause-links c = links_whole c.args.firsts.now c.args.connections.now c.loop-connection.connection-index c.loop-connection.links (omega arith) c.loop-connection.invariant.links
