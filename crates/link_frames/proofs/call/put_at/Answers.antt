use Rattle.std.proofs.Common.{◌+◌, ◌-◌, length, arith}
use Rattle.std.proofs.lemmas.Slice.{drop-put_mid}
use Rattle.link_frames.proofs.call.put_at.Goals as goal

pub returns-clause-rest : goal.returns-clause-rest
returns-clause-rest c =
    let a = c.args in
    drop-put_mid a.place (a.place + length a.bytes.now - a.place) a.out.now c.copy_from_slice.new.self (a.place + length a.bytes.now) (omega arith) (omega (arith, c.requires)) (omega arith)
