-- What an instance of a built-in machine tells.
use Rattle.std.specs.Prelude.{ℕ, ◌≤◌, List, length, map, Some}
use Rattle.std.proofs.lemmas.List.{length-map}
use Rattle.fmi_calls.specs.declared.call.Call.{Call}
use Rattle.fmi_calls.specs.declared.call.Reply.{Reply}
use Rattle.fmu_peer.specs.View.{View}
use Rattle.bench_fmus.specs.declared.built_in.BuiltIn.{BuiltIn}
use Rattle.bench_fmus.specs.BuiltIn.{machine_of}
use Rattle.bench_fmus.specs.Models.{behaviour_of}
use Rattle.bench_fmus.specs.Told.{origin_in, state_in, talk_in}

abbrev pub built_in_view : BuiltIn → View
built_in_view b = record {
  fixed = record {
    shape = b.book.shape;
    origin = Some (origin_in b.origin);
    machine = Some (machine_of (behaviour_of b.model) b.book.shape);
  };
  phase = b.book.phase;
  talk = talk_in b.book.talk;
  state = Some (state_in b.book.shape.variables b.state);
  faults = b.book.faults;
}

-- what the machine answers
abbrev pub built_in_reply : BuiltIn → Call → Reply
built_in_reply b call =
    (machine_of (behaviour_of b.model) b.book.shape).look
    (state_in b.book.shape.variables b.state) call

-- what it answers to a Deserialize of these bytes
abbrev pub built_in_reply_at : BuiltIn → Call → List ℕ → Reply
built_in_reply_at b call bytes =
    (machine_of (behaviour_of b.model) b.book.shape).look_at
    (state_in b.book.shape.variables b.state) call bytes

pub fewer_views : (peers : List BuiltIn) (n : ℕ) → length peers ≤ n →
    length (map built_in_view peers) ≤ n
fewer_views peers n fewer = rw length-map fewer
