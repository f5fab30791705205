use Rattle.std.proofs.Common.{rules, ◌≡◌, ℕ, List, ◌++◌, take, length}
use Rattle.std.proofs.Math.Seq.{take-append_seam}
use Rattle.trace_reading.proofs.cut.after.Goals as goal

prefix_of : (bytes prefix rest : List ℕ) → bytes ≡ prefix ++ rest → take (length prefix) bytes ≡ prefix
prefix_of bytes prefix rest e = rw e (take-append_seam prefix rest)

pub returns-else-eq-clause-exact : goal.returns-else-eq-clause-exact
returns-else-eq-clause-exact c = λ rest e. let f = prefix_of c.args.bytes.now c.args.prefix.now rest e in search rules
