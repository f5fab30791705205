use Rattle.std.proofs.Common.{◌-◌, sym, subst}
use Rattle.system_model.specs.declared.plan.Plan.{Plan}
use Rattle.exact_parts.specs.declared.taken.Taken.TheVariants.{Got, NeedMore, Bad}
use Rattle.exact_parts.specs.Field.{Field}
use Rattle.exact_parts.specs.Taking.{Takes}
use Rattle.exact_parts.proofs.CallerLemmas.{kept_takes}
use Rattle.system_checkpoint.specs.First.{PointOf, first_of, plan_of}
use Rattle.system_checkpoint.specs.Parts.{between}
use Rattle.system_checkpoint.proofs.first.take_point.Goals as goal

pub returns-in-Got : goal.returns-in-Got
returns-in-Got c =
    let p = c.args.plan in
    subst (λ (plan : Plan). Takes (PointOf p.resolution p.start p.step p.stop p.limit) c.args.bytes.now (Got (first_of plan c.in-Got.value) c.in-Got.length)) (sym c.requires.plain)
    (kept_takes (Field 8 (between p.start (p.stop - 1))) (first_of (plan_of p.resolution p.start p.step p.stop p.limit)) c.args.bytes.now (Got c.in-Got.value c.in-Got.length) c.in-Got.ensures)

pub returns-in-NeedMore : goal.returns-in-NeedMore
returns-in-NeedMore c =
    let p = c.args.plan in
    kept_takes (Field 8 (between p.start (p.stop - 1))) (first_of (plan_of p.resolution p.start p.step p.stop p.limit)) c.args.bytes.now NeedMore c.in-NeedMore.ensures

pub returns-in-Bad : goal.returns-in-Bad
returns-in-Bad c =
    let p = c.args.plan in
    kept_takes (Field 8 (between p.start (p.stop - 1))) (first_of (plan_of p.resolution p.start p.step p.stop p.limit)) c.args.bytes.now (Bad c.in-Bad.at) c.in-Bad.ensures
