use Rattle.std.proofs.Common.{[], ◌++◌, refl, arith, subst, length-append}
use Rattle.host_serving.specs.declared.serving.Next.{Next}
use Rattle.host_serving.specs.declared.serving.ServeEnd.TheVariants.{TooMany}
use Rattle.host_serving.specs.Serving.{Nothing, More, Steps, scene}
use Rattle.host_serving.proofs.ServingLemmas.{counted_not}
use Rattle.host_serving.proofs.ToldLemmas.{served_as_told}
use Rattle.host_serving.proofs.serving.serve.Goals as goal

pub frames-init : goal.frames-init
frames-init g c = ([], refl, Nothing)

pub frames-preserved : goal.frames-preserved
frames-preserved g c =
    let so_far = c.frames.invariant in
    let old = scene (g.I.Source.view c.frames.input) (g.O.Sink.view c.frames.output) (g.M.Peer.view c.frames.machine) in
    let new = scene (g.I.Source.view c.serve_next.new.input) (g.O.Sink.view c.serve_next.new.output) (g.M.Peer.view c.serve_next.new.machine) in
    let on = subst (λ (n : Next). Steps old new n) c.in-Served.is c.serve_next.ensures in
    let count = length-append so_far.0 on.0 in
    (so_far.0 ++ on.0, omega (arith, count, so_far.1, on.1), More so_far.0 on.0 _ _ so_far.2 on.3)

pub returns-in-Ends-clause-served : goal.returns-in-Ends-clause-served
returns-in-Ends-clause-served g c =
    let so_far = c.frames.invariant in
    let old = scene (g.I.Source.view c.frames.input) (g.O.Sink.view c.frames.output) (g.M.Peer.view c.frames.machine) in
    let new = scene (g.I.Source.view c.serve_next.new.input) (g.O.Sink.view c.serve_next.new.output) (g.M.Peer.view c.serve_next.new.machine) in
    let ends = subst (λ (n : Next). Steps old new n) c.in-Ends.is c.serve_next.ensures in
    record {
      served = so_far.0;
      last = old;
      serves = so_far.2;
      counted = counted_not c.in-Ends.end _ ends.0 (omega (arith, so_far.1, c.frames-test.true));
      ends = ends.1;
    }

pub returns-in-Ends-clause-told : goal.returns-in-Ends-clause-told
returns-in-Ends-clause-told g c =
    let old = scene (g.I.Source.view c.args.input.now) (g.O.Sink.view c.args.output.now) (g.M.Peer.view c.args.machine.now) in
    let new = scene (g.I.Source.view c.serve_next.new.input) (g.O.Sink.view c.serve_next.new.output) (g.M.Peer.view c.serve_next.new.machine) in
    served_as_told old new c.in-Ends.end (returns-in-Ends-clause-served g c)

pub returns-clause-served : goal.returns-clause-served
returns-clause-served g c =
    let so_far = c.frames.invariant in
    record { served = so_far.0; last = _; serves = so_far.2; counted = omega (arith, so_far.1, c.frames-test.false); ends = refl }

pub returns-clause-told : goal.returns-clause-told
returns-clause-told g c =
    let old = scene (g.I.Source.view c.args.input.now) (g.O.Sink.view c.args.output.now) (g.M.Peer.view c.args.machine.now) in
    let new = scene (g.I.Source.view c.frames.input) (g.O.Sink.view c.frames.output) (g.M.Peer.view c.frames.machine) in
    served_as_told old new TooMany (returns-clause-served g c)
