-- How many exchanges a spawner's peers have room for.
use Rattle.std.specs.Prelude.{ℕ, ◌+◌, ◌==◌, List, find, Option, Some, None}
use Rattle.bench_fmus.specs.declared.bench.FailingCall.{FailingCall}

-- up to the call that is to fail, else the same for each peer
abbrev pub room_up_to : Option FailingCall → Option ℕ → Option ℕ
room_up_to None room = room
room_up_to (Some failing) room = Some (failing.call + 1)

-- of the peer that the start with this number gives
abbrev pub room_of : Option ℕ → List FailingCall → ℕ → Option ℕ
room_of room calls start = room_up_to (find (λ (c : FailingCall). c.start == start) calls) room
