-- Batches: several calls that read variables, or several that set them, in one frame, and several replies to such calls. The head of a batch tells how many there are.
use Rattle.std.specs.Prelude.{◌≡◌, ◌⊎◌, ℕ, ◌≤◌, ◌<◌, ◌+◌, ◌*◌, take, drop, get_or, ◌-◌, ◌==◌, zero, suc, List, [], ◌∷◌, ◌++◌, All, length, map, slice_index, if◌then◌else◌}
use Rattle.fmi_calls.specs.Kinds.{kind_of, kind_of_reply}
use Rattle.fmi_calls.specs.declared.call.Kind.{Kind}
use Rattle.fmi_calls.specs.declared.call.Kind.TheVariants as K
use Rattle.fmi_calls.specs.declared.call.Reply.{Reply}
use Rattle.link_frames.specs.declared.batch.Side.{Side}
use Rattle.link_frames.specs.declared.batch.Side.TheVariants.{Calls, Replies}
use Rattle.link_frames.specs.declared.call.CallFrame.{CallFrame}
use Rattle.link_frames.specs.declared.head.Head.{Head}
use Rattle.link_frames.specs.declared.layout.Form.{Form}
use Rattle.link_frames.specs.declared.layout.Form.TheVariants.{OfBatch, CallItem, ReplyItem}
use Rattle.link_frames.specs.declared.layout.Items.{Items}
use Rattle.link_frames.specs.declared.layout.Items.TheVariants.{Either, Gets, Sets}
use Rattle.fmi_calls.specs.declared.call.Call.{Call}
use Rattle.link_frames.specs.Call.{CanBeSent, IsCallFrame, frame_with}
use Rattle.link_frames.specs.Head.{head, spelling}
use Rattle.link_frames.specs.Numbers.{Reads}
use Rattle.link_frames.specs.Reply.{IsReplyFrame}
use Rattle.exact_parts.specs.Taking.{After}

-- the head of a batch of so many: kind 19, and the number where a call has its reference and a reply its qualifier
abbrev pub batch_head : ℕ → Head
batch_head count = head 19 0 0 count 0 0

-- the frames of these, each of this kind, one after another
abbrev pub AreFrames : {V : Type 0} → (V → List ℕ → Type 0) → (V → Kind) → Kind → List V →
    List ℕ → Type 0
AreFrames frame kind one [] bytes = bytes ≡ []
AreFrames frame kind one (v ∷ vs) bytes =
    (prefix : List ℕ) × (rest : List ℕ) × (bytes ≡ prefix ++ rest) × frame v prefix ×
    (kind v ≡ one) × AreFrames frame kind one vs rest

-- from 1 to 64 values, all of the kind of Get or all of the kind of Set, and the bytes of their batch
pub record IsBatch {V : Type 0} (frame : V → List ℕ → Type 0) (kind : V → Kind) (values : List V)
    (bytes : List ℕ) : Type 0 where
  pub some : 1 ≤ length values
  pub few : length values ≤ 64
  pub one : Kind
  pub reads_or_sets : (one ≡ K.Get) ⊎ (one ≡ K.Set)
  pub rest : List ℕ
  pub frames : AreFrames frame kind one values rest
  pub spelled : bytes ≡ spelling (batch_head (length values)) ++ rest

-- a number of values, and the bytes of a batch of so many
pub record IsBatchOf {V : Type 0} (frame : V → List ℕ → Type 0) (kind : V → Kind) (count : ℕ)
    (bytes : List ℕ) : Type 0 where
  pub values : List V
  pub count_is : count ≡ length values
  pub batch : IsBatch frame kind values bytes

-- the kind of the first of some calls
abbrev pub kind_of_first : List Call → Kind
kind_of_first [] = K.FreeInstance
kind_of_first (call ∷ calls) = kind_of call

-- from 1 to 64 calls that read variables, or that set them, each of which has a frame
pub record CanBeBatched (calls : List Call) : Type 0 where
  pub some : 1 ≤ length calls
  pub few : length calls ≤ 64
  pub one_kind : All (λ (call : Call). kind_of call ≡ kind_of_first calls) calls
  pub reads_or_sets : (kind_of_first calls ≡ K.Get) ⊎ (kind_of_first calls ≡ K.Set)
  pub can_be_sent : All (λ (call : Call). CanBeSent call 0 0) calls

-- the kind of the first of some replies
abbrev pub kind_of_first_reply : List Reply → Kind
kind_of_first_reply [] = K.FreeInstance
kind_of_first_reply (reply ∷ replies) = kind_of_reply reply

-- from 1 to 64 replies to calls that read variables, or to ones that set them
pub record CanAnswer (replies : List Reply) : Type 0 where
  pub some : 1 ≤ length replies
  pub few : length replies ≤ 64
  pub one_kind : All (λ (reply : Reply). kind_of_reply reply ≡ kind_of_first_reply replies) replies
  pub reads_or_sets : (kind_of_first_reply replies ≡ K.Get) ⊎ (kind_of_first_reply replies ≡ K.Set)

-- the bytes are the head of a batch of so many
pub record IsHeadOf (count : ℕ) (bytes : List ℕ) : Type 0 where
  pub some : 1 ≤ count
  pub few : count ≤ 64
  pub spelled : bytes ≡ spelling (batch_head count)

-- ---- laws

-- the i-th item of a batch has the 24 bytes after the head and the items before it
abbrev pub ItemsStand : {V : Type 0} → (V → List ℕ → Type 0) → (V → Kind) → Type 0
ItemsStand {V} frame kind =
    (values : List V) (bytes : List ℕ) (i : ℕ) (default : V) →
    IsBatch frame kind values bytes → i < length values →
    frame (get_or values i default) (take 24 (drop (24 * (i + 1)) bytes))

-- the bytes of a batch are those of no other
abbrev pub OneBatch : {V : Type 0} → (V → List ℕ → Type 0) → (V → Kind) → Type 0
OneBatch {V} frame kind =
    (values others : List V) (bytes : List ℕ) → IsBatch frame kind values bytes →
    IsBatch frame kind others bytes → values ≡ others

-- no frame of the one sort begins one of the other
abbrev pub AreApart : {V W : Type 0} → (V → List ℕ → Type 0) → (W → List ℕ → Type 0) → Type 0
AreApart {V} {W} frame other =
    (value : V) (w : W) (bytes more : List ℕ) → (frame value bytes → other w (bytes ++ more) → ⊥) ×
    (other w bytes → frame value (bytes ++ more) → ⊥)

-- calls without texts as frames
abbrev pub frames_of : List Call → List CallFrame
frames_of calls = map (λ (call : Call). frame_with call [] []) calls

-- a batch of so many calls
abbrev pub IsCallBatch : ℕ → List ℕ → Type 0
IsCallBatch = IsBatchOf IsCallFrame (λ (frame : CallFrame). kind_of frame.call)

-- of so many replies
abbrev pub IsReplyBatch : ℕ → List ℕ → Type 0
IsReplyBatch = IsBatchOf IsReplyFrame kind_of_reply

-- ---- the parts of a batch, one after another

-- what the items are, by the number of the first one's kind
abbrev pub items_at : ℕ → Items
items_at number = if number == 8 then Gets else Sets

abbrev pub item_form : Side → Items → Form
item_form Calls items = CallItem items
item_form Replies items = ReplyItem items

-- so many items
abbrev pub ItemsOf : Side → Items → ℕ → Unit {0} → List ℕ → Type 0
ItemsOf side items zero v bytes = bytes ≡ []
ItemsOf side items (suc left) v bytes =
    After (Reads (item_form side items) 7 []) (λ (ns : List ℕ). ItemsOf side items left) v bytes

-- the first, and after it the others, which are as it is
abbrev pub FirstOf : Side → ℕ → Unit {0} → List ℕ → Type 0
FirstOf side count =
    After (Reads (item_form side Either) 7 []) (λ (ns : List ℕ).
    ItemsOf side (items_at (slice_index ns 0)) (count - 1))

-- as many as the head tells
abbrev pub CountOf : Side → List ℕ → ℕ → List ℕ → Type 0
CountOf side numbers count bytes =
    (count ≡ slice_index numbers 4) × FirstOf side (slice_index numbers 4) tt bytes

-- the head, and after it the items
abbrev pub BatchParts : Side → ℕ → List ℕ → Type 0
BatchParts side = After (Reads OfBatch 7 []) (CountOf side)
