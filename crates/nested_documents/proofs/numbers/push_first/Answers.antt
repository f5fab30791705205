use Rattle.std.proofs.Common.{min, refl}
use Rattle.nested_documents.proofs.RunLemmas.{none_first, part_more}
use Rattle.nested_documents.proofs.numbers.push_first.Goals as goal

pub returns-then-most-eq0 : goal.returns-then-most-eq0
returns-then-most-eq0 c =
    none_first c.args.runs.now.items c.args.one.now.document c.args.one.now.node c.args.one.now.count c.args.most c.if-most-eq0.true

pub returns : goal.returns
returns c =
    part_more c.args.runs.now.items c.push.new.self.items _ c.args.one.now.document c.args.one.now.node (min c.args.one.now.count c.args.most) c.in_ok-push.ensures.items refl refl c.min.ensures
