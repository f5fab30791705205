-- The line on the error sink, and the status.
use Rattle.std.specs.Prelude.{◌≡◌, ◌⊎◌, ℕ, ℤ, ◌+◌, ◌*◌, List, [], ◌∷◌, ◌++◌, length, take, count_by, Option, Some, None, is_some, codes, decimal}
use Rattle.std.specs.Fmt.{signed_decimal}
use Rattle.hex.specs.Hex.{encode_lower}
use Rattle.sim_base.specs.Escape.{escaped}
use Rattle.sim_base.specs.Sink.{SinkView, with_piece, with_fault}
use Rattle.sim_base.specs.declared.numbers.PortId.{PortId}
use Rattle.system_files.specs.Rooms.{room_for}
use Rattle.system_files.specs.declared.named.FileFault.{FileFault}
use Rattle.system_files.specs.declared.named.FileFault.TheVariants.{Unread, Missing, TooBig, Broken}
use Rattle.system_model.specs.Ports.{source_of}
use Rattle.system_model.specs.declared.system.Port.{Port}
use Rattle.system_model.specs.declared.system.System.{System}
use Rattle.doc_tree.specs.Rules.{number}
use Rattle.doc_tree.specs.declared.place.Place.{Place}
use Rattle.doc_tree.specs.declared.place.Place.TheVariants.{Byte, Element}
use Rattle.fmi_calls.specs.KindFacts.{facts_of}
use Rattle.fmi_calls.specs.Kinds.{kind_of, status_of_bad}
use Rattle.fmi_calls.specs.declared.call.Call.{Call}
use Rattle.fmi_calls.specs.declared.call.Status.{Status}
use Rattle.fmi_calls.specs.declared.call.Status.TheVariants as S
use Rattle.link_frames.specs.Reply.{frame_of}
use Rattle.fmu_peer.specs.declared.ended.Why.{Why}
use Rattle.fmu_peer.specs.declared.ended.Why.TheVariants.{Refused, Misreply, Link}
use Rattle.run_program.specs.declared.outcome.Outcome.{Outcome}
use Rattle.run_program.specs.declared.outcome.Outcome.TheVariants.{Words, Memory, File, Start, Ran, Checked, Untold}
use Rattle.run_program.specs.declared.outcome.StartCause.{StartCause}
use Rattle.run_program.specs.declared.outcome.StartCause.TheVariants.{Failed, Unknown}
use Rattle.run_program.specs.declared.outcome.End.{End}
use Rattle.run_program.specs.declared.outcome.End.TheVariants.{Stop, Asked, EventLimit, FixedStep, Range, Held, Bad, WriteFault}

-- a call's name
abbrev pub call_name : Call → List ℕ
call_name call = (facts_of (kind_of call)).name

-- a status' name in FMI 3.0, without the prefix fmi3
abbrev pub status_name : Status → List ℕ
status_name S.Ok = codes "OK"
status_name S.Warning = codes "Warning"
status_name S.Discard = codes "Discard"
status_name S.Error = codes "Error"
status_name S.Fatal = codes "Fatal"

-- ---- the lines

-- numbers of ports, with a space before each
abbrev pub numbers_text : List PortId → List ℕ
numbers_text [] = []
numbers_text (port ∷ ports) = codes " " ++ decimal port.0 ++ numbers_text ports

abbrev pub place_text : Place → List ℕ
place_text (Byte at) = codes "byte " ++ decimal at
place_text (Element path) = path

-- the ports of a loop, each needing the next
abbrev pub loop_text : List PortId → List ℕ
loop_text [] = []
loop_text (port ∷ ports) = codes " ports" ++ numbers_text (port ∷ ports)

-- of a file that wasn't taken
unfoldable pub file_message : List ℕ → FileFault → List ℕ
file_message path Unread = codes "read " ++ escaped path ++ codes "\n"
file_message path Missing = codes "missing " ++ escaped path ++ codes "\n"
file_message path TooBig = codes "big " ++ escaped path ++ codes "\n"
file_message path (Broken rule place ports) =
    codes "refused " ++ decimal (number rule) ++ codes " " ++ escaped path ++ codes " " ++
    place_text place ++ loop_text ports ++ codes "\n"

-- of a component whose peer wasn't started
unfoldable pub start_message : List ℕ → StartCause → List ℕ
start_message component Failed = codes "link " ++ escaped component ++ codes " start\n"
start_message component Unknown = codes "unknown " ++ escaped component ++ codes "\n"

-- of a point whose instants reach their limit
unfoldable pub limit_message : ℕ → List ℕ
limit_message point = codes "limit " ++ decimal point ++ codes "\n"

-- of a step that a component can't make, from a point to an end
unfoldable pub fixed_message : List ℕ → ℕ → ℕ → List ℕ
fixed_message component at end =
    codes "fixed " ++ escaped component ++ codes " " ++ decimal at ++ codes " " ++
    decimal end ++ codes "\n"

-- of a variable of a component on the way to which this value is lost
unfoldable pub range_message : List ℕ → List ℕ → ℤ → List ℕ
range_message component variable x =
    codes "range " ++ escaped component ++ codes " " ++ escaped variable ++ codes " " ++
    signed_decimal x ++ codes "\n"

-- of a component's answer that isn't good
unfoldable pub bad_message : List ℕ → Why → List ℕ
bad_message component (Refused call status) =
    codes "fmu " ++ escaped component ++ codes " " ++ call_name call ++ codes " " ++
    status_name (status_of_bad status) ++ codes "\n"
bad_message component (Misreply call reply) =
    codes "misreply " ++ escaped component ++ codes " " ++ call_name call ++ codes " " ++
    encode_lower (frame_of reply) ++ codes "\n"
bad_message component (Link call fault) =
    codes "link " ++ escaped component ++ codes " " ++ call_name call ++ codes "\n"

-- of a file that holds no checkpoint of the system, which the byte at a place shows, or its end
unfoldable pub checkpoint_message : List ℕ → ℕ → List ℕ
checkpoint_message path at =
    codes "checkpoint " ++ escaped path ++ codes " " ++ decimal at ++ codes "\n"

-- of the end of a run: none at the stop, where a component asked for it, and where the run is held
abbrev pub end_message : End → Option (List ℕ)
end_message Stop = None
end_message Asked = None
end_message (EventLimit point) = Some (limit_message point)
end_message (FixedStep component at end) = Some (fixed_message component at end)
end_message (Range component variable x) = Some (range_message component variable x)
end_message (Bad component why) = Some (bad_message component why)
end_message (Held point) = None
end_message WriteFault = Some (codes "write\n")

-- of an outcome
abbrev pub message : Outcome → Option (List ℕ)
message Words = Some (codes "words\n")
message Memory = Some (codes "memory\n")
message (File path fault) = Some (file_message path fault)
message (Start component fault) = Some (start_message component fault)
message (Ran end) = end_message end
message Checked = None
message Untold = Some (codes "write\n")

-- ---- the size of a system

-- how many ports are fed
abbrev pub feeds_in : System → ℕ
feeds_in system = count_by (λ (port : Port). is_some (source_of port.role)) system.ports

-- the line of a check: how many components, ports and feeds, and how many unresolved names of parameters
unfoldable pub size_text : System → ℕ → List ℕ
size_text system unreached =
    codes "components " ++ decimal (length system.components) ++ codes " ports " ++
    decimal (length system.ports) ++ codes " feeds " ++ decimal (feeds_in system)
    ++ codes " unreached " ++ decimal unreached ++ codes "\n"

-- ---- the run of a generated system

-- the line of its numbers: of its instants, of all exchanges with its FMUs, and of those that were Restore
unfoldable pub summary_text : ℕ → ℕ → ℕ → List ℕ
summary_text instants calls rollbacks =
    codes "instants " ++ decimal instants ++ codes " calls " ++ decimal calls ++
    codes " rollbacks " ++ decimal rollbacks ++ codes "\n"

-- ---- the room for a line

abbrev pub path_room : Place → ℕ
path_room (Byte at) = 0
path_room (Element path) = length path

-- a number has twenty digits at most, and a space stands before it
abbrev pub loop_room : List PortId → ℕ
loop_room ports = 21 * length ports

abbrev pub place_room : FileFault → ℕ
place_room Unread = 0
place_room Missing = 0
place_room TooBig = 0
place_room (Broken rule place ports) = path_room place + loop_room ports

abbrev pub end_room : End → ℕ
end_room Stop = 0
end_room Asked = 0
end_room (EventLimit point) = 0
end_room (FixedStep component at end) = room_for (length component)
end_room (Range component variable x) = room_for (length component + length variable)
end_room (Bad component why) = room_for (length component)
end_room (Held point) = 0
end_room WriteFault = 0

-- so many bytes hold the line of an outcome, where it isn't the same for all
abbrev pub message_room : Outcome → ℕ
message_room Words = 0
message_room Memory = 0
message_room (File path fault) = room_for (length path) + place_room fault
message_room (Start component fault) = room_for (length component)
message_room (Ran end) = end_room end
message_room Checked = 0
message_room Untold = 0

-- ---- the statuses

abbrev pub file_status : FileFault → ℕ
file_status Unread = 3
file_status Missing = 3
file_status TooBig = 3
file_status (Broken rule place ports) = 4

abbrev pub why_status : Why → ℕ
why_status (Refused call status) = 6
why_status (Misreply call reply) = 7
why_status (Link call fault) = 5

abbrev pub end_status : End → ℕ
end_status Stop = 0
end_status Asked = 0
end_status (EventLimit point) = 8
end_status (FixedStep component at end) = 9
end_status (Range component variable x) = 13
end_status (Bad component why) = why_status why
end_status (Held point) = 0
end_status WriteFault = 10

abbrev pub status_of : Outcome → ℕ
status_of Words = 2
status_of Memory = 11
status_of (File path fault) = file_status fault
status_of (Start component fault) = 5
status_of (Ran end) = end_status end
status_of Checked = 0
status_of Untold = 10

-- ---- what is put

-- the put of a line failed, and a prefix of it is there
abbrev pub CutsShort : List ℕ → SinkView → SinkView → Type 0
CutsShort text old new = (n : ℕ) × (new ≡ with_fault old (take n text))

-- the line is put in one piece and this is the status, or its put failed and the status is 10; with no line nothing is put
abbrev pub Reports : Option (List ℕ) → ℕ → ℕ → SinkView → SinkView → Type 0
Reports None wanted status old new = (status ≡ wanted) × (new ≡ old)
Reports (Some text) wanted status old new =
    ((status ≡ wanted) × (new ≡ with_piece old text)) ⊎ ((status ≡ 10) × CutsShort text old new)
