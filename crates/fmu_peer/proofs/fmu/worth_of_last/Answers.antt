use Rattle.std.proofs.Common.{◌-◌, ◌<◌, false, length, refl, sym, ◌∙◌, arith}
use Rattle.fmi_calls.specs.declared.call.Call.TheVariants as C
use Rattle.fmi_calls.specs.declared.call.Grade.TheVariants as G
use Rattle.fmu_peer.proofs.SeveralLemmas.{grade_any, misreply_any, refused_any}
use Rattle.fmu_peer.proofs.fmu.worth_of_last.Goals as goal

pub returns-in-Good : goal.returns-in-Good
returns-in-Good c =
    let lt : c.args.count - 1 < length c.args.calls.now = omega (arith, c.requires.some, c.requires.few) in
    let le : c.args.count - 1 < length c.args.replies.now = omega (arith, lt, c.requires.places) in
    (refl, λ d q. grade_any c.args.shape.now c.args.calls.now c.args.replies.now (c.args.count - 1) (C.Instantiate false false false) d _ q G.Good lt le (sym c.grade.ensures ∙ c.in-Good.is))

pub returns-in-Refused : goal.returns-in-Refused
returns-in-Refused c =
    let lt : c.args.count - 1 < length c.args.calls.now = omega (arith, c.requires.some, c.requires.few) in
    let le : c.args.count - 1 < length c.args.replies.now = omega (arith, lt, c.requires.places) in
    λ d q. refused_any c.args.shape.now c.args.calls.now c.args.replies.now (c.args.count - 1) (C.Instantiate false false false) d _ q c.refusal.result lt le (sym c.grade.ensures ∙ c.in-Refused.is) c.refusal.ensures

pub returns-in-Misreply : goal.returns-in-Misreply
returns-in-Misreply c =
    let lt : c.args.count - 1 < length c.args.calls.now = omega (arith, c.requires.some, c.requires.few) in
    let le : c.args.count - 1 < length c.args.replies.now = omega (arith, lt, c.requires.places) in
    λ d q. misreply_any c.args.shape.now c.args.calls.now c.args.replies.now (c.args.count - 1) (C.Instantiate false false false) d _ q c.misreply.result lt le (sym c.grade.ensures ∙ c.in-Misreply.is) c.misreply.ensures
