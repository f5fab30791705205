use Rattle.std.specs.Int.{w64, to_be_bytes}
use Rattle.system_checkpoint.specs.First.{magic}
use Rattle.system_checkpoint.proofs.PutLemmas.{put_after}
use Rattle.system_checkpoint.proofs.putting.put_first.Goals as goal

pub returns-clause-text : goal.returns-clause-text
returns-clause-text c =
    let p = c.args.plan in
    put_after _ _ _ magic _ c.put.ensures.text
    (put_after _ _ _ (to_be_bytes w64 p.resolution) _ c.put_number.ensures.text
    (put_after _ _ _ (to_be_bytes w64 p.start) _ c.put_number-2.ensures.text
    (put_after _ _ _ (to_be_bytes w64 p.step) _ c.put_number-3.ensures.text
    (put_after _ _ _ (to_be_bytes w64 p.stop) _ c.put_number-4.ensures.text
    (put_after _ _ _ (to_be_bytes w64 p.limit) (to_be_bytes w64 c.args.point) c.put_number-5.ensures.text c.put_number-6.ensures.text)))))
