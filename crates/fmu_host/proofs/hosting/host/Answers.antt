use Rattle.std.proofs.Common.{refl}
use Rattle.fmu_host.specs.Facts.{WithoutShape, WithShape}
use Rattle.fmu_host.specs.Line.{line_of}
use Rattle.fmu_host.proofs.hosting.host.Goals as goal

pub returns-in-Ok : goal.returns-in-Ok
returns-in-Ok g c = WithShape (line_of c.in-Some.line) c.in-Ok.shape c.in-Some.ensures.ok c.in-Ok.ensures.ok c.host_model.ensures

pub returns-in-Err : goal.returns-in-Err
returns-in-Err g c = WithoutShape (line_of c.in-Some.line) c.in-Some.ensures.ok c.in-Err.ensures.err refl
