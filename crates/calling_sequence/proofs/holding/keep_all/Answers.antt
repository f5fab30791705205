use Rattle.std.proofs.Common.{◌++◌, List, ℕ, ap, arith, length, ◌∙◌}
use Rattle.calling_sequence.specs.Place.{IsStepping}
use Rattle.calling_sequence.proofs.Checkpoints.{keeps_badly, keeps_well, stepped_badly}
use Rattle.system_checkpoint.specs.Spelling.{first_bytes, sized}
use Rattle.calling_sequence.specs.Ends.{header_of}
use Rattle.calling_sequence.proofs.Restoring.{may_be_kept, seats_are}
use Rattle.calling_sequence.proofs.holding.keep_all.Goals as goal

pub returns-in-Err-clause-keeps : goal.returns-in-Err-clause-keeps
returns-in-Err-clause-keeps g c = stepped_badly c.args.experiment.now _ _ c.requires.ready.shapes_are c.in-Err.bad c.in-Err.ensures.stage

pub put_beginning-requires-clause-room : goal.put_beginning-requires-clause-room
put_beginning-requires-clause-room g c =
    let roomy = c.requires.roomy.bytes in
    let none = ap length c.requires.roomy.empty in
    let len = c.args.keeping.now.bytes.ok.0 in
    omega (arith, roomy, none, len)

pub keep_each-requires-clause-may : goal.keep_each-requires-clause-may
keep_each-requires-clause-may g c κs lives = may_be_kept g.L.Peer.view c.args.experiment.now (IsStepping c.args.point) _ c.in-Ok.ensures.ready c.requires.can c.args.point (λ v h. h)

pub returns-in-Err-keep_each-clause-keeps : goal.returns-in-Err-keep_each-clause-keeps
returns-in-Err-keep_each-clause-keeps g c = keeps_badly c.args.experiment.now _ _ _ c.requires.ready.shapes_are c.in-Ok.ensures.stage c.in-Err-keep_each.bad c.in-Err-keep_each.ensures.stage

pub keep_each-requires-clause-room : goal.keep_each-requires-clause-room
keep_each-requires-clause-room g c κs lives =
    let seats = seats_are g.L.Peer.view c.args.experiment.now _ c.in-Ok.ensures.ready.shapes_are in
    let roomy = c.requires.roomy.bytes in
    let none = ap length c.requires.roomy.empty in
    let ok = c.args.keeping.now.bytes.ok.0 in
    let len = c.put_beginning.ensures.len in
    let grown = c.put_beginning.ensures.room in
    omega (arith, seats, roomy, none, ok, len, grown)

pub put_rest-requires-clause-room : goal.put_rest-requires-clause-room
put_rest-requires-clause-room g c =
    let seats = seats_are g.L.Peer.view c.args.experiment.now _ c.in-Ok.ensures.ready.shapes_are in
    let roomy = c.requires.roomy.bytes in
    let none = ap length c.requires.roomy.empty in
    let ok = c.args.keeping.now.bytes.ok.0 in
    let len = c.put_beginning.ensures.len in
    let grown = c.put_beginning.ensures.room in
    let kept = c.in-Ok-keep_each.ensures.len in
    let more = c.in-Ok-keep_each.ensures.room in
    omega (arith, seats, roomy, none, ok, len, grown, kept, more)

pub returns-clause-keeps : goal.returns-clause-keeps
returns-clause-keeps g c =
    let r = c.requires in
    keeps_well c.args.experiment.now _ _ _ r.ready.shapes_are c.in-Ok.ensures.stage c.args.point r.done.0 c.args.buffers.now r.ready.may r.resolution r.begun r.early r.done.1 c.put_rest.ensures.bounds c.in-Ok-keep_each.ensures.stage _ _ _
    (c.put_beginning.ensures.text ∙ ap (λ (l : List ℕ). l ++ (first_bytes c.args.experiment.now.plan c.args.point ++ sized (header_of c.args.experiment.now.system c.args.experiment.now.plan))) r.roomy.empty) c.in-Ok-keep_each.ensures.kept c.put_rest.ensures.text
