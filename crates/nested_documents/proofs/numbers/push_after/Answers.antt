use Rattle.std.proofs.Common.{◌+◌, ◌-◌, refl}
use Rattle.nested_documents.proofs.RunLemmas.{none_after, part_more}
use Rattle.nested_documents.proofs.numbers.push_after.Goals as goal

pub returns-then-one-less : goal.returns-then-one-less
returns-then-one-less c =
    none_after c.args.runs.now.items c.args.one.now.document c.args.one.now.node c.args.one.now.count c.args.less c.if-one-less.true

pub returns : goal.returns
returns c =
    part_more c.args.runs.now.items c.push.new.self.items _ c.args.one.now.document (c.args.one.now.node + c.args.less) (c.args.one.now.count - c.args.less) c.in_ok-push.ensures.items refl refl refl
