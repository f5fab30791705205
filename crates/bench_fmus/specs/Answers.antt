-- The answers of a script.
use Rattle.std.specs.Prelude.{ℕ, ◌^◌, Bool, false, nat_le, nat_lt, List, length, slice_get, Option, Some, None, unwrap_or, if◌then◌else◌, Result, Ok, Err}
use Rattle.fmi_calls.specs.declared.call.Reply.{Reply}
use Rattle.fmu_peer.specs.declared.peer.PeerFault.{PeerFault}
use Rattle.fmu_peer.specs.declared.peer.PeerFault.TheVariants.{Failed}
use Rattle.fmu_peer.specs.Machine.{bytes_after_reply}
use Rattle.fmu_peer.specs.declared.talk_room.TalkRoom.{TalkRoom}

-- a reply, or a fault in its place
abbrev pub Answer : Type 0
Answer = Result Reply PeerFault

-- the answer to the call of this number, counted from 0: past the list's end it is `Failed`
abbrev pub answer_at : List Answer → ℕ → Answer
answer_at answers place = unwrap_or (slice_get answers place) (Err Failed)

-- how many bytes follow an answer to Serialize
abbrev pub bytes_after_answer : Answer → ℕ
bytes_after_answer (Ok reply) = bytes_after_reply reply
bytes_after_answer (Err fault) = 0

-- an answer to Serialize: one that tells of more than 2^20 bytes is `Failed`
abbrev pub followed : Answer → Answer
followed answer = if nat_le (bytes_after_answer answer) (2 ^ 20) then answer else Err Failed

-- how many calls there were
abbrev pub calls_in : Option TalkRoom → ℕ
calls_in None = 0
calls_in (Some t) = length t.exchanges.items

-- the talk is kept, in room for more exchanges than there are answers
abbrev pub outlasts : Option TalkRoom → List Answer → Bool
outlasts None answers = false
outlasts (Some t) answers = nat_lt (length answers) t.room
