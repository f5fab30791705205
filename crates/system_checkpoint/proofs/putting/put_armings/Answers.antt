use Rattle.std.proofs.Common.{arith, refl}
use Rattle.std.specs.Prelude.{slice_index_or}
use Rattle.system_checkpoint.specs.declared.snapshot.Arming.TheVariants.{NoClock}
use Rattle.system_checkpoint.specs.Spelling.{arming_bytes}
use Rattle.system_checkpoint.proofs.PutLemmas.{next_room}
use Rattle.system_checkpoint.proofs.putting.put_armings.Goals as goal

pub put_arming-requires : goal.put_arming-requires
put_arming-requires c =
    let inv = c.loop-value.invariant in
    let value = slice_index_or c.args.values.now c.loop-value.value-index NoClock in
    let fits = next_room arming_bytes c.args.values.now c.loop-value.value-index value NoClock c.args.out.now.items c.loop-value.out.items _ _ _ refl c.loop-value-test.true inv.text c.args.out.now.ok.0 c.loop-value.out.ok.0 c.requires.room in
    record { room = omega (arith, fits, inv.room) }
