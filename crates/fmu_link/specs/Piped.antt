-- What a peer over a wire tells: no talk and no machine.
use Rattle.std.specs.Prelude.{◌+◌, None, Some}
use Rattle.fmu_peer.specs.View.{View}
use Rattle.fmu_link.specs.declared.instance.Instance.{Instance}
use Rattle.fmu_link.specs.declared.piped.Piped.{Piped}
use Rattle.fmu_link.specs.Wire.{WireView}
use Rattle.fmu_link.specs.Exchange.{LineView}

-- its count is the wire's, and that of the replies that were garbled or cut
abbrev pub view_of : WireView → Instance → View
view_of wire instance = record {
  fixed = record {
    shape = instance.shape;
    origin =
        Some (record {
          host = instance.host;
          name = instance.name;
          directory = instance.directory;
        });
    machine = None;
  };
  phase = instance.phase;
  talk = None;
  state = None;
  faults = wire.faults + instance.bad_replies;
}

abbrev pub piped_view : {W : Type 0} → (W → WireView) → Piped W → View
piped_view view p = view_of (view p.wire) p.instance

abbrev pub line_of : WireView → Instance → LineView
line_of wire instance = record { wire = wire; bad_replies = instance.bad_replies }

abbrev pub line_view : {W : Type 0} → (W → WireView) → Piped W → LineView
line_view view p = line_of (view p.wire) p.instance
