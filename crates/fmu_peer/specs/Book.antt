-- The room of a talk.
use Rattle.std.specs.Prelude.{◌+◌, Bool, true, false, nat_lt, nat_le, length, Option, Some, None}
use Rattle.fmi_calls.specs.declared.phase.InstanceState.{InstanceState}
use Rattle.fmi_calls.specs.declared.phase.InstanceState.TheVariants.{Lost}
use Rattle.fmu_peer.specs.declared.talk_room.TalkRoom.{TalkRoom}

-- whether the next exchange fills the room
abbrev pub fills_next : Option TalkRoom → Bool
fills_next None = false
fills_next (Some t) = nat_le t.room (length t.exchanges.items + 1)

-- whether there is room for an exchange
abbrev pub has_room : Option TalkRoom → Bool
has_room None = true
has_room (Some t) = nat_lt (length t.exchanges.items) t.room

-- the instance may be sent nothing more
abbrev pub is_lost : InstanceState → Bool
is_lost Lost = true
is_lost _ = false
