-- An FMU behind a link: the calls that were read, the replies that were put, and what ended it (FMI 3.0, 4.2: the functions of Co-Simulation).
use Rattle.std.specs.Prelude.{◌≡◌, ◌≢◌, ◌⊎◌, ℕ, ◌-◌, ◌^◌, ◌<◌, ◌≤◌, true, List, [], ◌∷◌, ◌++◌, length, Result, Ok, Err}
use Rattle.sim_base.specs.Causes.{Rose}
use Rattle.sim_base.specs.Sink.{SinkView, with_piece}
use Rattle.sim_base.specs.Source.{SourceView}
use Rattle.fmi_calls.specs.Permission.{Permitted}
use Rattle.fmi_calls.specs.declared.call.Call.{Call}
use Rattle.fmi_calls.specs.declared.call.Call.TheVariants as C
use Rattle.fmi_calls.specs.declared.call.Content.TheVariants as A
use Rattle.fmi_calls.specs.declared.call.Reply.{Reply}
use Rattle.fmi_calls.specs.declared.call.Reply.TheVariants as R
use Rattle.fmi_calls.specs.Kinds.{kind_of, kind_of_reply}
use Rattle.link_frames.specs.Batch.{IsBatch}
use Rattle.link_frames.specs.Reply.{CanBeTold, IsReplyFrame}
use Rattle.fmu_peer.specs.Many.{AnsweredFirst, Talks, exchanges}
use Rattle.fmu_peer.specs.Talk.{AllGood}
use Rattle.fmu_peer.specs.View.{View, Asked, AskedWith, IsFollowedBy}
use Rattle.host_serving.specs.declared.serving.ServeEnd.{ServeEnd}
use Rattle.host_serving.specs.declared.serving.ServeEnd.TheVariants as E
use Rattle.host_serving.specs.Frames.{EndsBetween, EndsInState, IsBatchOfCalls, IsNoFrame, Takes, TakesCall, TakesWhole}
use Rattle.host_serving.specs.declared.serving.Next.{Next}
use Rattle.host_serving.specs.declared.serving.Next.TheVariants as N

-- what the link and the FMU tell
pub record Scene : Type 0 where
  pub input : SourceView
  pub output : SinkView
  pub machine : View

abbrev pub scene : SourceView → SinkView → View → Scene
scene input output machine = record { input = input; output = output; machine = machine }

-- a call with its reply, and with the bytes that follow the one, and those that follow the other
pub record Served : Type 0 where
  pub call : Call
  pub taken : List ℕ
  pub reply : Reply
  pub given : List ℕ

-- ---- a single call

-- the reply that is put: a good one to an Instantiate that asks for batches says that they are taken
abbrev pub as_sent : Call → Reply → Reply
as_sent (C.Instantiate event_mode early_return true) (R.Done is_warning (A.Instantiate batches)) =
    R.Done is_warning (A.Instantiate true)
as_sent call reply = reply

-- the FMU was asked the call alone, a Deserialize with the bytes that follow it, and gave this reply
abbrev pub IsAsked : View → Call → List ℕ → Reply → View → Type 0
IsAsked old (C.Deserialize length point stop) taken reply new =
    AskedWith old (C.Deserialize length point stop) taken (Ok reply) new
IsAsked old call taken reply new = Asked old call (Ok reply) new

-- these bytes follow the reply: those of a state that of a Serialize, and none any other
abbrev pub IsGiven : View → Call → Reply → List ℕ → Type 0
IsGiven old C.Serialize reply given = IsFollowedBy old reply given
IsGiven old call reply given = given ≡ []

-- the next frame is that of a call which is permitted, and the FMU was asked it alone, with the bytes that follow it, and gave this reply and the bytes that follow that
pub record IsAnswered (old new : Scene) (served : Served) : Type 0 where
  pub read : TakesWhole old.input new.input served.call served.taken
  pub permitted : Permitted old.machine.fixed.shape old.machine.phase served.call
  pub asked : IsAsked old.machine served.call served.taken served.reply new.machine
  pub given : IsGiven old.machine served.call served.reply served.given

-- the bytes that follow a frame are one more piece, and where there are none so is nothing
abbrev pub with_state : SinkView → List ℕ → SinkView
with_state view [] = view
with_state view (byte ∷ bytes) = with_piece view (byte ∷ bytes)

-- and the reply's frame was put, in one piece, and the bytes that follow it in another
pub record ServesOne (old new : Scene) (served : Served) : Type 0 where
  pub answered : IsAnswered old new served
  pub piece : List ℕ
  pub spelled : IsReplyFrame (as_sent served.call served.reply) piece
  pub put : new.output ≡ with_state (with_piece old.output piece) served.given

-- ---- the calls of a batch

-- calls with their replies, as far as both go
abbrev pub served_of : List Call → List Reply → List Served
served_of [] replies = []
served_of (call ∷ calls) [] = []
served_of (call ∷ calls) (reply ∷ replies) =
    record { call = call; taken = []; reply = reply; given = [] } ∷ served_of calls replies

-- the next frame is the batch of these calls
pub record TakesCalls (old new : Scene) (calls : List Call) : Type 0 where
  pub bytes : List ℕ
  pub batch : IsBatchOfCalls calls bytes
  pub takes : Takes old.input new.input bytes

-- the FMU was asked the calls in their order, each of which is permitted in its turn, up to the first whose reply isn't good, and these are the replies
pub record AreAnswered (old new : Scene) (calls : List Call) (replies : List Reply) : Type 0 where
  pub read : TakesCalls old new calls
  pub answered : AnsweredFirst old.machine calls replies (length replies) new.machine

-- and the batch of the replies was put, in one piece
pub record ServesMany (old new : Scene) (calls : List Call) (replies : List Reply) : Type 0 where
  pub answered : AreAnswered old new calls replies
  pub piece : List ℕ
  pub spelled : IsBatch IsReplyFrame kind_of_reply replies piece
  pub put : new.output ≡ with_piece old.output piece

-- the first calls, each permitted in its turn, got good replies, and this one is next
pub record Reaches (old : View) (calls : List Call) (call : Call) (new : View) : Type 0 where
  pub prefix : List Call
  pub left : List Call
  pub replies : List Reply
  pub calls_are : calls ≡ prefix ++ call ∷ left
  pub len : length replies ≡ length prefix
  pub good : AllGood old.fixed.shape (exchanges prefix replies)
  pub talks : Talks old (exchanges prefix replies) new

-- and it isn't permitted
pub record ForbidsOne (old new : View) (calls : List Call) (call : Call) : Type 0 where
  pub reached : Reaches old calls call new
  pub forbidden : Permitted new.fixed.shape new.phase call → ⊥

-- it is permitted, and the FMU failed at it, or answered it by a reply of another kind
pub record LosesOne (old new : View) (calls : List Call) : Type 0 where
  pub call : Call
  pub mid : View
  pub reached : Reaches old calls call mid
  pub permitted : Permitted mid.fixed.shape mid.phase call
  pub lost : Rose mid.faults new.faults ⊎ ((reply : Reply) × Asked mid call (Ok reply) new ×
      (kind_of_reply reply ≢ kind_of call))

-- what ends the serving inside a batch
abbrev pub BreaksItems : List Call → View → View → ServeEnd → Type 0
BreaksItems calls old new (E.NotPermitted call) = ForbidsOne old new calls call
BreaksItems calls old new E.Failed = LosesOne old new calls
BreaksItems calls old new end = ⊥

-- so many calls were answered, by the replies in their places, or this ends the serving
abbrev pub AnswersItems : View → List Call → List Reply → Result ℕ ServeEnd → View → Type 0
AnswersItems old calls places (Ok count) new = AnsweredFirst old calls places count new
AnswersItems old calls places (Err end) new = BreaksItems calls old new end

-- ---- one frame after another

-- the calls of a frame were served: one, which wasn't FreeInstance, or those of a batch
pub data GoesOn (old new : Scene) : List Served → Type 0 where
  Single : (served : Served) → ServesOne old new served → served.call ≢ C.FreeInstance →
      GoesOn old new (served ∷ [])
  Together : (calls : List Call) (replies : List Reply) → ServesMany old new calls replies →
      GoesOn old new (served_of calls replies)

-- the calls of one frame after another were served
pub data Serves (old : Scene) : List Served → Scene → Type 0 where
  Nothing : Serves old [] old
  More : (done more : List Served) (mid new : Scene) → Serves old done mid →
      GoesOn mid new more → Serves old (done ++ more) new

-- output and FMU are as they were
pub record IsStill (old new : Scene) : Type 0 where
  pub output : new.output ≡ old.output
  pub machine : new.machine ≡ old.machine

-- a count of faults rose: that of the input; or of the FMU, to a call that was read; or of the output, at the frame of a reply or after it; or a call got a reply that no frame tells; or a call of a batch got no reply that can be put
pub data LosesLink (old new : Scene) : Type 0 where
  OfInput : Rose old.input.faults new.input.faults → IsStill old new → LosesLink old new
  OfMachine : (call : Call) (taken : List ℕ) → TakesWhole old.input new.input call taken →
      Permitted old.machine.fixed.shape old.machine.phase call →
      Rose old.machine.faults new.machine.faults → new.output ≡ old.output → LosesLink old new
  OfOutput : (served : Served) → IsAnswered old new served →
      Rose old.output.faults new.output.faults → LosesLink old new
  OfReply : (served : Served) → IsAnswered old new served → (CanBeTold served.reply → ⊥) →
      new.output ≡ old.output → LosesLink old new
  OfItem : (calls : List Call) → TakesCalls old new calls →
      LosesOne old.machine new.machine calls → new.output ≡ old.output → LosesLink old new
  OfBatch : (calls : List Call) (replies : List Reply) → AreAnswered old new calls replies →
      Rose old.output.faults new.output.faults → LosesLink old new

-- a call isn't permitted: the next one, or one of the next batch, for which nothing was put
abbrev pub Forbids : Scene → Scene → Call → Type 0
Forbids old new call =
    (TakesCall old.input new.input call ×
    (Permitted old.machine.fixed.shape old.machine.phase call → ⊥) × IsStill old new) ⊎
    ((calls : List Call) × TakesCalls old new calls ×
    ForbidsOne old.machine new.machine calls call × (new.output ≡ old.output))

-- no frame begins so; or the bytes end inside those that follow the frame of a call which is permitted
abbrev pub LacksFrame : Scene → Scene → ℕ → Type 0
LacksFrame old new at =
    IsNoFrame old.input new.input at ⊎
    ((call : Call) × Permitted old.machine.fixed.shape old.machine.phase call ×
    EndsInState old.input new.input call at)

-- what ends the serving, right after the calls that were served
abbrev pub EndsBy : Scene → Scene → ServeEnd → Type 0
EndsBy old new E.Freed =
    (served : Served) × ServesOne old new served × (served.call ≡ C.FreeInstance)
EndsBy old new E.Ended = EndsBetween old.input new.input × IsStill old new
EndsBy old new (E.BadFrame at) = LacksFrame old new at × IsStill old new
EndsBy old new (E.NotPermitted call) = Forbids old new call
EndsBy old new E.Failed = LosesLink old new
EndsBy old new E.TooMany = new ≡ old
EndsBy old new E.Memory = IsStill old new

-- what came of a frame
abbrev pub Steps : Scene → Scene → Next → Type 0
Steps old new (N.Served count) =
    (served : List Served) × (count ≡ length served) × (0 < count) × GoesOn old new served
Steps old new (N.Ends end) = (end ≢ E.TooMany) × EndsBy old new end

-- FreeInstance ends the serving
abbrev pub EndsAfter : Call → Next → Type 0
EndsAfter call (N.Served count) = (count ≡ 1) × (call ≢ C.FreeInstance)
EndsAfter call (N.Ends end) = (end ≡ E.Freed) × (call ≡ C.FreeInstance)

-- what became of a reply: it was put, and the bytes that follow it, and its call may end the serving; or a put failed; or no frame tells it
pub data PutsReply (old new : SinkView) (call : Call) (reply : Reply) (given : List ℕ) : Next →
    Type 0 where
  IsPut : (piece : List ℕ) (next : Next) → IsReplyFrame (as_sent call reply) piece →
      new ≡ with_state (with_piece old piece) given → EndsAfter call next →
      PutsReply old new call reply given next
  PutFails : Rose old.faults new.faults → PutsReply old new call reply given (N.Ends E.Failed)
  Untold : (CanBeTold reply → ⊥) → new ≡ old →
      PutsReply old new call reply given (N.Ends E.Failed)

-- as many calls were served as are counted exactly where they were too many
abbrev pub IsCounted : ServeEnd → ℕ → Type 0
IsCounted E.TooMany count = 2 ^ 64 - 1 ≤ count
IsCounted end count = count < 2 ^ 64 - 1

-- all of it: the calls that were served, and after them what ended it
pub record HasServed (old new : Scene) (end : ServeEnd) : Type 0 where
  pub served : List Served
  pub last : Scene
  pub serves : Serves old served last
  pub counted : IsCounted end (length served)
  pub ends : EndsBy last new end
