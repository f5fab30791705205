use Rattle.std.proofs.Common.{refl}
use Rattle.nested_documents.specs.Numbers.{elements_in}
use Rattle.nested_documents.proofs.RunLemmas.{put_run}
use Rattle.nested_documents.proofs.numbers.with_run.Goals as goal

pub returns : goal.returns
returns c =
    put_run c.in_ok-all.all.items c.in_ok-all.back.items c.push.new.self.items c.append.new.self.items _ c.args.document c.args.count c.args.at (elements_in c.args.runs.now)
    c.in_ok-push.ensures.items c.in_ok-append.ensures.items refl refl refl c.in_ok-all.ensures.prefix c.in_ok-all.ensures.back
