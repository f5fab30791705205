use Rattle.std.proofs.Common.{◌≡◌, ◌+◌, Some, None, sym, ◌∙◌, subst, arith}
use Rattle.flatten.specs.Fed.{FeedsFrom, FindsFeed}
use Rattle.flatten.specs.Ports.{at_number}
use Rattle.flatten.proofs.FeedLemmas.{AreFedBelow, fed_more, fed_none, fed_past, fed_whole}
use Rattle.flatten.proofs.TableLemmas.{none_under, put_apart, put_here}
use Rattle.flatten.proofs.connectors.FlatTree.feeds.Goals as goal
use Rattle.flatten.proofs.connectors.FlatTree.feeds.Goals.{in-Some+in_ok-feed+in-Some-2+in_ok-insert+in-None-1, in-Some+in_ok-feed+in-Some-2+in_ok-insert+in-Some-1, in-Some+in_ok-feed+in_default-2, in_default}

pub loop-connector-init : goal.loop-connector-init
loop-connector-init c = fed_none c.args.self.now c.args.numbers.now (at_number c.new-feeds.result) (none_under c.new-feeds.result c.new-feeds.ensures.empty)

pub loop-connector-preserved : goal.loop-connector-preserved
loop-connector-preserved c =
    let f = c.args.self.now in
    let i = c.loop-connector.connector in
    let old = c.loop-connector.feeds in
    elim c.match-input_number.branch [
      | in-Some+in_ok-feed+in-Some-2+in_ok-insert+in-Some-1 w ↦
          let n = w.in-Some.input in
          let feed = w.in-Some-2.feed in
          let fed : FeedsFrom f c.args.numbers.now i feed = subst (FindsFeed f c.args.numbers.now i) w.in-Some-2.is w.in_ok-feed.ensures in
          let input = (c.input_number.ensures n).0 w.in-Some.is in
          let new = w.insert.new.self in
          let updates = w.in_ok-insert.ensures.updates in
          subst (λ z. AreFedBelow f c.args.numbers.now (i + 1) (at_number z)) (sym w.feeds-is)
          (fed_more f c.args.numbers.now i n feed (at_number old) (at_number new) input fed (put_here old new n feed updates) (put_apart old new n feed updates) c.loop-connector.invariant)
      | in-Some+in_ok-feed+in-Some-2+in_ok-insert+in-None-1 w ↦
          let n = w.in-Some.input in
          let feed = w.in-Some-2.feed in
          let fed : FeedsFrom f c.args.numbers.now i feed = subst (FindsFeed f c.args.numbers.now i) w.in-Some-2.is w.in_ok-feed.ensures in
          let input = (c.input_number.ensures n).0 w.in-Some.is in
          let new = w.insert.new.self in
          let updates = w.in_ok-insert.ensures.updates in
          subst (λ z. AreFedBelow f c.args.numbers.now (i + 1) (at_number z)) (sym w.feeds-is)
          (fed_more f c.args.numbers.now i n feed (at_number old) (at_number new) input fed (put_here old new n feed updates) (put_apart old new n feed updates) c.loop-connector.invariant)
      | in-Some+in_ok-feed+in_default-2 w ↦
          subst (λ z. AreFedBelow f c.args.numbers.now (i + 1) (at_number z)) (sym w.feeds-is)
          (fed_past f c.args.numbers.now i (at_number old) (λ n g is from. subst (FindsFeed f c.args.numbers.now i) w.in_default-2.is w.in_ok-feed.ensures g from) c.loop-connector.invariant)
      | in_default w ↦
          subst (λ z. AreFedBelow f c.args.numbers.now (i + 1) (at_number z)) (sym w.feeds-is)
          (fed_past f c.args.numbers.now i (at_number old) (λ n g is from. let un : None ≡ Some n = sym w.in_default.is ∙ (c.input_number.ensures n).1 is in absurd (cc)) c.loop-connector.invariant)
    ]

pub returns : goal.returns
returns c =
    let f = c.args.self.now in
    fed_whole f c.args.numbers.now c.requires.indexed c.requires.fitting c.requires.numbers (at_number c.loop-connector.feeds) c.loop-connector.connector (omega arith) c.loop-connector.invariant
