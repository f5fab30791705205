-- A call with the worth of its answer.
use Rattle.std.specs.Prelude.{◌≡◌, ℕ, ◌≤◌, List, [], ◌∷◌, ◌++◌, Result, Ok, Err, IfSome}
use Rattle.sim_base.specs.Causes.{Rose}
use Rattle.value_types.specs.declared.shape.Shape.{Shape}
use Rattle.fmi_calls.specs.declared.call.Call.{Call}
use Rattle.fmi_calls.specs.declared.call.Reply.{Reply}
use Rattle.fmi_calls.specs.declared.call.Grade.TheVariants as G
use Rattle.fmi_calls.specs.Worth.{grade_of}
use Rattle.fmi_calls.specs.Kinds.{bad_status_of}
use Rattle.fmu_peer.specs.declared.peer.Exchange.{Exchange}
use Rattle.fmu_peer.specs.declared.peer.PeerFault.{PeerFault}
use Rattle.fmu_peer.specs.declared.ended.Why.{Why}
use Rattle.fmu_peer.specs.declared.ended.Why.TheVariants.{Refused, Misreply, Link}
use Rattle.fmu_peer.specs.Talk as T
use Rattle.fmu_peer.specs.View.{View, Asked, AskedWith, AllGood}

-- the call got a good answer
pub record Answered (old : View) (call : Call) (reply : Reply) (new : View) : Type 0 where
  pub asked : Asked old call (Ok reply) new
  pub good : grade_of old.fixed.shape call reply ≡ G.Good
  pub quiet : new.faults ≡ old.faults
  pub talk_good : AllGood old → AllGood new

-- so did a Deserialize with these bytes
pub record AnsweredWith (old : View) (call : Call) (bytes : List ℕ) (reply : Reply)
    (new : View) : Type 0 where
  pub asked : AskedWith old call bytes (Ok reply) new
  pub good : grade_of old.fixed.shape call reply ≡ G.Good
  pub quiet : new.faults ≡ old.faults
  pub talk_good : AllGood old → AllGood new

-- the answer is this reply, which is good
pub record IsGoodReply (shape : Shape) (call : Call) (answer : Result Reply PeerFault)
    (reply : Reply) : Type 0 where
  pub is : answer ≡ Ok reply
  pub good : grade_of shape call reply ≡ G.Good

abbrev pub IsLink : Why → Type 0
IsLink (Refused call status) = ⊥
IsLink (Misreply call reply) = ⊥
IsLink (Link call fault) = Unit {0}

-- the exchange is why
abbrev pub IsWhy : Shape → Why → Exchange → Type 0
IsWhy shape (Refused call status) e =
    (reply : Reply) × (e.call ≡ call) × (e.result ≡ Ok reply) × (status ≡ bad_status_of reply) ×
    (grade_of shape call reply ≡ G.Refused)
IsWhy shape (Misreply call reply) e =
    (e.call ≡ call) × (e.result ≡ Ok reply) × (grade_of shape call reply ≡ G.Misreply)
IsWhy shape (Link call fault) e = (e.call ≡ call) × (e.result ≡ Err fault)

-- why is the first exchange whose reply isn't good, and the talk ends with it
pub record IsFirstBad (shape : Shape) (why : Why) (talk : List Exchange) : Type 0 where
  pub prefix : List Exchange
  pub last : Exchange
  pub is : talk ≡ prefix ++ last ∷ []
  pub good : T.AllGood shape prefix
  pub bad : IsWhy shape why last

-- the call got this answer, which isn't good
abbrev pub Fails : View → Call → Why → View → Type 0
Fails old call (Refused c status) new =
    (reply : Reply) × (c ≡ call) × (status ≡ bad_status_of reply) ×
    (grade_of old.fixed.shape call reply ≡ G.Refused) × Asked old call (Ok reply) new
Fails old call (Misreply c reply) new =
    (c ≡ call) × (grade_of old.fixed.shape call reply ≡ G.Misreply) × Asked old call (Ok reply) new
Fails old call (Link c fault) new = (c ≡ call) × Asked old call (Err fault) new

pub record Failed (old : View) (call : Call) (why : Why) (new : View) : Type 0 where
  pub fails : Fails old call why new
  pub fixed : new.fixed ≡ old.fixed
  pub later : old.faults ≤ new.faults
  pub rose : IsLink why → Rose old.faults new.faults
  pub quiet : (IsLink why → ⊥) → new.faults ≡ old.faults
  pub bad : AllGood old → IfSome new.talk (IsFirstBad new.fixed.shape why)

-- a Deserialize with these bytes got this answer, which isn't good
abbrev pub FailsWith : View → Call → List ℕ → Why → View → Type 0
FailsWith old call bytes (Refused c status) new =
    (reply : Reply) × (c ≡ call) × (status ≡ bad_status_of reply) ×
    (grade_of old.fixed.shape call reply ≡ G.Refused) × AskedWith old call bytes (Ok reply) new
FailsWith old call bytes (Misreply c reply) new =
    (c ≡ call) × (grade_of old.fixed.shape call reply ≡ G.Misreply) ×
    AskedWith old call bytes (Ok reply) new
FailsWith old call bytes (Link c fault) new = (c ≡ call) × AskedWith old call bytes (Err fault) new

pub record FailedWith (old : View) (call : Call) (bytes : List ℕ) (why : Why)
    (new : View) : Type 0 where
  pub fails : FailsWith old call bytes why new
  pub fixed : new.fixed ≡ old.fixed
  pub later : old.faults ≤ new.faults
  pub rose : IsLink why → Rose old.faults new.faults
  pub quiet : (IsLink why → ⊥) → new.faults ≡ old.faults
  pub bad : AllGood old → IfSome new.talk (IsFirstBad new.fixed.shape why)
