-- Several calls to one instance, asked one after another up to the first whose answer isn't good (FMI 3.0, 2.2.6.2: fmi3Get and fmi3Set take several variables at once).
use Rattle.std.specs.Prelude.{◌≡◌, ◌⊎◌, ℕ, suc, if◌then◌else◌, ◌≤◌, List, [], ◌∷◌, ◌++◌, All, length, take, drop, get_or, ◌-◌, Some, Result, Ok, Err}
use Rattle.value_types.specs.declared.shape.Shape.{Shape}
use Rattle.fmi_calls.specs.declared.call.Call.{Call}
use Rattle.fmi_calls.specs.declared.call.Kind.{Kind}
use Rattle.fmi_calls.specs.declared.call.Kind.TheVariants as K
use Rattle.fmi_calls.specs.Kinds.{kind_of, kind_of_reply}
use Rattle.fmi_calls.specs.KindFacts.{same_kind}
use Rattle.fmi_calls.specs.declared.call.BadStatus.TheVariants as B
use Rattle.fmi_calls.specs.declared.call.Reply.{Reply}
use Rattle.fmi_calls.specs.declared.call.Reply.TheVariants as R
use Rattle.fmi_calls.specs.declared.call.Grade.TheVariants as G
use Rattle.fmi_calls.specs.declared.phase.Phase.{Phase}
use Rattle.fmi_calls.specs.Next.{next_of}
use Rattle.fmi_calls.specs.Permission.{Permitted}
use Rattle.fmi_calls.specs.Worth.{grade_of}
use Rattle.fmu_peer.specs.declared.peer.Exchange.{Exchange}
use Rattle.fmu_peer.specs.declared.peer.PeerFault.{PeerFault}
use Rattle.fmu_peer.specs.declared.ended.Why.{Why}
use Rattle.fmu_peer.specs.Answer.{IsWhy}
use Rattle.fmu_peer.specs.Talk.{AllGood, IsGood, calls_in}
use Rattle.fmu_peer.specs.View.{View, Asked}

-- the instance was asked these calls, each permitted in its turn, and answered so
abbrev pub Talks : View → List Exchange → View → Type 0
Talks old [] new = new ≡ old
Talks old (e ∷ es) new =
    (mid : View) × Permitted old.fixed.shape old.phase e.call ×
    Asked old e.call e.result mid × Talks mid es new

-- each may be asked once those before it got good answers
abbrev pub MayAskAll : Shape → Phase → List Call → Type 0
MayAskAll shape phase [] = Unit {0}
MayAskAll shape phase (c ∷ cs) =
    Permitted shape phase c × ((reply : Reply) → grade_of shape c reply ≡ G.Good →
    MayAskAll shape (next_of shape phase c (Some reply)) cs)

-- from 1 to 64 calls that read variables, or from 1 to 64 that set them
pub record AreOfOneSort (calls : List Call) : Type 0 where
  pub some : 1 ≤ length calls
  pub few : length calls ≤ 64
  pub one : Kind
  pub reads_or_sets : (one ≡ K.Get) ⊎ (one ≡ K.Set)
  pub each : All (λ (call : Call). kind_of call ≡ one) calls

-- calls with their replies
abbrev pub exchanges : List Call → List Reply → List Exchange
exchanges [] rs = []
exchanges (c ∷ cs) [] = []
exchanges (c ∷ cs) (r ∷ rs) = record { call = c; result = Ok r } ∷ exchanges cs rs

-- the first calls, so many, were asked and got these replies, of which all but perhaps the last are good; there are as many as calls, or the last isn't good
pub record AnsweredFirst (old : View) (calls : List Call) (replies : List Reply) (count : ℕ)
    (new : View) : Type 0 where
  pub within : count ≤ length calls
  pub talks : Talks old (exchanges (take count calls) (take count replies)) new
  pub prefix : List Exchange
  pub last : Exchange
  pub is : exchanges (take count calls) (take count replies) ≡ prefix ++ last ∷ []
  pub good : AllGood old.fixed.shape prefix
  pub ends : (count ≡ length calls) ⊎ (IsGood old.fixed.shape last → ⊥)

-- the first calls got good replies, and the one after them this fault; the places of the replies after those are as they were
pub record FaultsAfter (old : View) (calls : List Call) (before after : List Reply)
    (fault : PeerFault) (new : View) : Type 0 where
  pub replies : List Reply
  pub call : Call
  pub left : List Call
  pub prefix : List Call
  pub calls_are : calls ≡ prefix ++ call ∷ left
  pub len : length replies ≡ length prefix
  pub after_is : after ≡ replies ++ drop (length prefix) before
  pub good : AllGood old.fixed.shape (exchanges prefix replies)
  pub talks : Talks old (exchanges prefix replies ++ record { call = call; result = Err fault } ∷ []) new

abbrev pub AskedMany : View → List Call → List Reply → List Reply → Result ℕ PeerFault → View →
    Type 0
AskedMany old calls before after (Ok count) new = AnsweredFirst old calls after count new
AskedMany old calls before after (Err fault) new =
    FaultsAfter old calls before after fault new

-- the reply of this place hasn't come
abbrev pub IsToCome : Reply → Type 0
IsToCome reply = kind_of_reply reply ≡ K.FreeInstance

-- what such a place has
abbrev pub to_come : Reply
to_come = R.Refused K.FreeInstance B.Fatal

-- how many came, from the first on
abbrev pub count_came : List Reply → ℕ
count_came [] = 0
count_came (reply ∷ replies) =
    if same_kind (kind_of_reply reply) K.FreeInstance then 0 else suc (count_came replies)

-- ---- with the worth of the answers

-- a call with its reply, at a place of both lists
abbrev pub answer_at : List Call → List Reply → ℕ → Call → Reply → Exchange
answer_at calls replies i c r =
    record { call = get_or calls i c; result = Ok (get_or replies i r) }

-- the last of so many answers is good, and they are told; or that is why
abbrev pub IsWorthOf : Shape → List Call → List Reply → ℕ → Result ℕ Why → Type 0
IsWorthOf shape calls replies count (Ok told) =
    (told ≡ count) ×
    ((c : Call) (r : Reply) → IsGood shape (answer_at calls replies (count - 1) c r))
IsWorthOf shape calls replies count (Err why) =
    (c : Call) (r : Reply) → IsWhy shape why (answer_at calls replies (count - 1) c r)

-- each call was asked and got its reply, which is good
pub record AnsweredAll (old : View) (calls : List Call) (replies : List Reply)
    (new : View) : Type 0 where
  pub talks : Talks old (exchanges calls replies) new
  pub good : AllGood old.fixed.shape (exchanges calls replies)

-- the calls were asked up to the first whose answer isn't good, and that is why
pub record FailedAfter (old : View) (calls : List Call) (why : Why) (new : View) : Type 0 where
  pub prefix : List Exchange
  pub last : Exchange
  pub left : List Call
  pub calls_are : calls ≡ calls_in (prefix ++ last ∷ []) ++ left
  pub good : AllGood old.fixed.shape prefix
  pub bad : IsWhy old.fixed.shape why last
  pub talks : Talks old (prefix ++ last ∷ []) new
