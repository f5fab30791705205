-- Calls of a batch that are asked one after another.
use Rattle.std.proofs.Common.{◌≡◌, ◌≢◌, ◌⊎◌, inl, inr, ℕ, zero, suc, ◌+◌, ◌-◌, ◌*◌, ◌<◌, ◌≤◌, false, List, [], ◌∷◌, ◌++◌, length, map, take, drop, get_or, set, Ok, refl, sym, ap, subst, ◌∙◌, arith}
use Rattle.std.specs.Prelude.{All}
use Rattle.std.proofs.Math.Seq.{drop-cons}
use Rattle.std.proofs.lemmas.List.{drop-take, get_or-map, length-map, length-set, length-take-le, take-append-drop, take-take, take_more_set}
use Rattle.std.proofs.lemmas.List.Elements.{All-head, All-nil, All-push}
use Rattle.sim_base.specs.Causes.{Rose}
use Rattle.value_types.specs.declared.shape.Shape.{Shape}
use Rattle.fmi_calls.specs.Kinds.{kind_of, kind_of_reply}
use Rattle.fmi_calls.specs.Permission.{Permitted}
use Rattle.fmi_calls.specs.Worth.{grade_of}
use Rattle.fmi_calls.specs.declared.call.Call.{Call}
use Rattle.fmi_calls.specs.declared.call.Call.TheVariants as C
use Rattle.fmi_calls.specs.declared.call.Grade.{Grade}
use Rattle.fmi_calls.specs.declared.call.Grade.TheVariants as G
use Rattle.fmi_calls.specs.declared.call.Kind.{Kind}
use Rattle.fmi_calls.specs.declared.call.Kind.TheVariants as K
use Rattle.fmi_calls.specs.declared.call.Reply.{Reply}
use Rattle.link_frames.specs.declared.call.CallFrame.{CallFrame}
use Rattle.link_frames.specs.Batch.{AreFrames, CanAnswer, IsCallBatch}
use Rattle.link_frames.specs.Call.{IsCallFrame, frame_with}
use Rattle.link_frames.proofs.CallerLemmas.{call_items_stand}
use Rattle.fmu_peer.specs.declared.peer.Exchange.{Exchange}
use Rattle.fmu_peer.specs.Many.{AnsweredFirst, Talks, exchanges}
use Rattle.fmu_peer.specs.Talk.{AllGood, IsGood}
use Rattle.fmu_peer.specs.View.{Asked, View, carries_bytes}
use Rattle.fmu_peer.proofs.ManyLemmas.{all_more, answered_all, answered_first, bad_grade, even, exchanges_set, good_grade, of, talks_push}
use Rattle.host_serving.specs.Frames.{IsBatchOfCalls, IsItem}
use Rattle.host_serving.specs.Serving.{ForbidsOne, LosesOne, Reaches}
use Rattle.host_serving.proofs.ItemLemmas.{fixed_along}
use Rattle.host_serving.proofs.LinkFrames.{same_calls}

-- ---- the calls of a batch

-- a call that reads or sets a variable isn't followed by bytes, and nor is its reply
pub plain_call : (one : Kind) (call : Call) → (one ≡ K.Get) ⊎ (one ≡ K.Set) → kind_of call ≡ one → carries_bytes call ≡ false
plain_call one C.Serialize (inl e) is = absurd (let wrong : K.Serialize ≡ K.Get = is ∙ e in cc)
plain_call one C.Serialize (inr e) is = absurd (let wrong : K.Serialize ≡ K.Set = is ∙ e in cc)
plain_call one (C.Deserialize count point stop) (inl e) is = absurd (let wrong : K.Deserialize ≡ K.Get = is ∙ e in cc)
plain_call one (C.Deserialize count point stop) (inr e) is = absurd (let wrong : K.Deserialize ≡ K.Set = is ∙ e in cc)
plain_call one call sort is = refl

-- a frame to stand where none is
no_frame : CallFrame
no_frame = frame_with C.FreeInstance [] []

-- the call at a place
abbrev pub call_in : List Call → ℕ → Call
call_in calls i = get_or calls i C.FreeInstance

-- there are as many as the batch tells
pub as_many : (count : ℕ) (bytes : List ℕ) (calls : List Call) → IsCallBatch count bytes → IsBatchOfCalls calls bytes → length calls ≡ count
as_many count bytes calls b is =
    let one : calls ≡ map (λ (f : CallFrame). f.call) b.values = same_calls calls (map (λ (f : CallFrame). f.call) b.values) bytes is (record { frames = b.values; is = refl; batch = b.batch }) in
    ap length one ∙ length-map b.values (λ (f : CallFrame). f.call) ∙ sym b.count_is

frames_many : (calls : List Call) (bytes : List ℕ) (is : IsBatchOfCalls calls bytes) → length is.frames ≡ length calls
frames_many calls bytes is = sym (length-map is.frames (λ (f : CallFrame). f.call)) ∙ ap length is.is

-- the 24 bytes of an item, in the bytes of the batch and in the room that begins with them
bytes_in_room : (room : List ℕ) (count i : ℕ) → i < count → take 24 (drop (24 * (i + 1)) (take (24 * (count + 1)) room)) ≡ take 24 (drop (24 * (i + 1)) room)
bytes_in_room room count i lt =
    let k = 24 * (i + 1) in
    let left = 24 * (count + 1) - k in
    let whole : 24 * (count + 1) ≡ k + left = omega (arith, lt) in
    ap (λ (n : ℕ). take 24 (drop k (take n room))) whole ∙ ap (take 24) (drop-take k left room) ∙ take-take 24 left (drop k room) (omega (arith, lt))

-- a frame stands there
item_frame : (room : List ℕ) (count i : ℕ) (calls : List Call) (is : IsBatchOfCalls calls (take (24 * (count + 1)) room)) → length calls ≡ count → i < count →
    IsCallFrame (get_or is.frames i no_frame) (take 24 (drop (24 * (i + 1)) room))
item_frame room count i calls is many lt =
    subst (IsCallFrame (get_or is.frames i no_frame)) (bytes_in_room room count i lt)
    (call_items_stand is.frames (take (24 * (count + 1)) room) i no_frame is.batch (omega (arith, lt, many, frames_many calls (take (24 * (count + 1)) room) is)))

pub is_item : (room : List ℕ) (count i : ℕ) → length room ≡ 1560 → IsCallBatch count (take (24 * (count + 1)) room) → i < count → IsItem room i
is_item room count i size b lt =
    let is : IsBatchOfCalls (map (λ (f : CallFrame). f.call) b.values) (take (24 * (count + 1)) room) = record { frames = b.values; is = refl; batch = b.batch } in
    let few = b.batch.few in
    let count_is = b.count_is in (
      omega (arith, size, few, count_is, lt),
      (
        get_or b.values i no_frame,
        item_frame room count i (map (λ (f : CallFrame). f.call) b.values) is (as_many count (take (24 * (count + 1)) room) (map (λ (f : CallFrame). f.call) b.values) b is) lt,
      ),
    )

-- and it is that of the call
pub item_is : (room : List ℕ) (count i : ℕ) (calls : List Call) (is : IsBatchOfCalls calls (take (24 * (count + 1)) room)) → length calls ≡ count → i < count → (call : Call) →
    ((f : CallFrame) → IsCallFrame f (take 24 (drop (24 * (i + 1)) room)) → call ≡ f.call) → call ≡ call_in calls i
item_is room count i calls is many lt call at =
    at (get_or is.frames i no_frame) (item_frame room count i calls is many lt)
    ∙ sym (get_or-map (λ (f : CallFrame). f.call) is.frames i no_frame C.FreeInstance (omega (arith, lt, many, frames_many calls (take (24 * (count + 1)) room) is)))
    ∙ ap (λ (cs : List Call). call_in cs i) is.is

-- each is of the batch's kind
frames_alike : (one : Kind) (frames : List CallFrame) (bytes : List ℕ) (i : ℕ) → AreFrames IsCallFrame (λ (f : CallFrame). kind_of f.call) one frames bytes → i < length frames → kind_of (call_in (map (λ (f : CallFrame). f.call) frames) i) ≡ one
frames_alike one [] bytes i are lt = absurd (omega (arith, lt))
frames_alike one (f ∷ fs) bytes zero (prefix, rest, both, is, k, more) lt = k
frames_alike one (f ∷ fs) bytes (suc i) (prefix, rest, both, is, k, more) lt = frames_alike one fs rest i more (omega (arith, lt))

pub kind_in : (calls : List Call) (bytes : List ℕ) (i : ℕ) (is : IsBatchOfCalls calls bytes) → i < length calls → kind_of (call_in calls i) ≡ is.batch.one
kind_in calls bytes i is lt =
    subst (λ (cs : List Call). kind_of (call_in cs i) ≡ is.batch.one) is.is (frames_alike is.batch.one is.frames is.batch.rest i is.batch.frames (omega (arith, lt, frames_many calls bytes is)))

-- ---- asked so far

-- the calls before a place got good replies, all of this kind, which stand in their places
pub record AreAnswering (one : Kind) (old now : View) (calls : List Call) (places : List Reply) (i : ℕ) : Type 0 where
  pub talks : Talks old (exchanges (take i calls) (take i places)) now
  pub good : AllGood old.fixed.shape (exchanges (take i calls) (take i places))
  pub kinds : All (λ (reply : Reply). kind_of_reply reply ≡ one) (take i places)

kinds_on : (one : Kind) (places : List Reply) (i : ℕ) (reply : Reply) → i < length places → All (λ (r : Reply). kind_of_reply r ≡ one) (take i places) → kind_of_reply reply ≡ one →
    All (λ (r : Reply). kind_of_reply r ≡ one) (take (i + 1) (set places i reply))
kinds_on one places i reply lt kinds kind =
    subst (All (λ (r : Reply). kind_of_reply r ≡ one)) (sym (take_more_set places i reply lt)) (All-push (λ (r : Reply). kind_of_reply r ≡ one) (take i places) reply kinds kind)

pub none_yet : (one : Kind) (old : View) (calls : List Call) (places : List Reply) → AreAnswering one old old calls places 0
none_yet one old calls places = record { talks = refl; good = All-nil (IsGood old.fixed.shape); kinds = All-nil (λ (reply : Reply). kind_of_reply reply ≡ one) }

module _ (one : Kind) (old now : View) (calls : List Call) (places : List Reply) (i : ℕ) (call : Call) (many : length places ≡ length calls) (lt : i < length calls) (is : call ≡ call_in calls i) (so : AreAnswering one old now calls places i) where
  pub same_fixed : now.fixed ≡ old.fixed
  same_fixed = fixed_along old now (exchanges (take i calls) (take i places)) so.talks

  pub reaches : Reaches old calls call now
  reaches = record {
    prefix = take i calls;
    left = drop (suc i) calls;
    replies = take i places;
    calls_are = sym (take-append-drop i calls) ∙ ap (λ (xs : List Call). take i calls ++ xs) (drop-cons calls i C.FreeInstance lt ∙ ap (λ (c : Call). c ∷ drop (suc i) calls) (sym is));
    len = sym (even calls places i many);
    good = so.good;
    talks = so.talks;
  }

  pub forbids : (Permitted now.fixed.shape now.phase call → ⊥) → ForbidsOne old now calls call
  forbids cannot = record { reached = reaches; forbidden = cannot }

  pub loses_fault : (new : View) → Permitted now.fixed.shape now.phase call → Rose now.faults new.faults → LosesOne old new calls
  loses_fault new may rose = record { call = call; mid = now; reached = reaches; permitted = may; lost = inl rose }

  pub loses_kind : (new : View) (reply : Reply) → Permitted now.fixed.shape now.phase call → Asked now call (Ok reply) new → (kind_of_reply reply ≢ kind_of call) → LosesOne old new calls
  loses_kind new reply may asked other = record { call = call; mid = now; reached = reaches; permitted = may; lost = inr (reply, asked, other) }

  module _ (new : View) (reply : Reply) (may : Permitted now.fixed.shape now.phase call) (asked : Asked now call (Ok reply) new) where
    talks_on : Talks old (exchanges (take (i + 1) calls) (take (i + 1) (set places i reply))) new
    talks_on =
        subst (λ (es : List Exchange). Talks old es new) (sym (exchanges_set calls places i C.FreeInstance reply many lt))
        (subst (λ (c : Call). Talks old (exchanges (take i calls) (take i places) ++ of c reply ∷ []) new) is
        (talks_push old now new (exchanges (take i calls) (take i places)) (of call reply) so.talks may asked))

    module _ (shape : Shape) (worth : Grade) (shape_is : shape ≡ new.fixed.shape) (worth_is : worth ≡ grade_of shape call reply) where
      -- the last answer isn't good
      pub answered_up_to : (worth ≡ G.Refused) ⊎ (worth ≡ G.Misreply) → AnsweredFirst old calls (set places i reply) (i + 1) new
      answered_up_to bad =
          answered_first old new calls places i C.FreeInstance reply many lt talks_on so.good
          (inr (subst (λ (c : Call). IsGood old.fixed.shape (of c reply) → ⊥) is (bad_grade old now new call reply shape worth same_fixed asked shape_is worth_is bad)))

      -- it is
      pub one_more : kind_of_reply reply ≡ one → worth ≡ G.Good → AreAnswering one old new calls (set places i reply) (i + 1)
      one_more kind good = record {
        talks = talks_on;
        good = all_more old.fixed.shape calls places i C.FreeInstance reply many lt so.good
            (subst (λ (c : Call). IsGood old.fixed.shape (of c reply)) is (good_grade old now new call reply shape worth same_fixed asked shape_is worth_is good));
        kinds = kinds_on one places i reply (omega (arith, many, lt)) so.kinds kind;
      }

-- all calls got good replies
pub all_answered : (one : Kind) (old now : View) (calls : List Call) (places : List Reply) (i : ℕ) → length places ≡ length calls → 0 < length calls → i ≡ length calls → AreAnswering one old now calls places i → AnsweredFirst old calls places (length calls) now
all_answered one old now calls places i many some all so =
    answered_all old now calls places C.FreeInstance many some
    (subst (λ (n : ℕ). Talks old (exchanges (take n calls) (take n places)) now) all so.talks)
    (subst (λ (n : ℕ). AllGood old.fixed.shape (exchanges (take n calls) (take n places))) all so.good)

-- replies of one kind can be put in a batch
can_answer : (one : Kind) (replies : List Reply) → (one ≡ K.Get) ⊎ (one ≡ K.Set) → 1 ≤ length replies → length replies ≤ 64 → All (λ (r : Reply). kind_of_reply r ≡ one) replies → CanAnswer replies
can_answer one [] sort some few kinds = absurd (omega (arith, some))
can_answer one (r ∷ rs) sort some few kinds =
    let first : kind_of_reply r ≡ one = All-head (λ (x : Reply). kind_of_reply x ≡ one) r rs kinds in
    record {
      some = some;
      few = few;
      one_kind = subst (λ (k : Kind). All (λ (x : Reply). kind_of_reply x ≡ k) (r ∷ rs)) (sym first) kinds;
      reads_or_sets = elim sort [ inl e ↦ inl (first ∙ e) | inr e ↦ inr (first ∙ e) ];
    }

pub can_put : (one : Kind) (places : List Reply) (i : ℕ) (reply : Reply) → (one ≡ K.Get) ⊎ (one ≡ K.Set) → length places ≤ 64 → i < length places → All (λ (r : Reply). kind_of_reply r ≡ one) (take i places) → kind_of_reply reply ≡ one →
    CanAnswer (take (i + 1) (set places i reply))
can_put one places i reply sort few lt kinds kind =
    let whole = length-set places i reply in
    let size = length-take-le (i + 1) (set places i reply) (omega (arith, whole, lt)) in
    can_answer one (take (i + 1) (set places i reply)) sort (omega (arith, size)) (omega (arith, size, lt, few)) (kinds_on one places i reply lt kinds kind)

pub can_put_all : (one : Kind) (places : List Reply) (i : ℕ) → (one ≡ K.Get) ⊎ (one ≡ K.Set) → 1 ≤ length places → length places ≤ 64 → i ≡ length places → All (λ (r : Reply). kind_of_reply r ≡ one) (take i places) →
    CanAnswer (take (length places) places)
can_put_all one places i sort some few all kinds =
    let size = length-take-le (length places) places (omega arith) in
    can_answer one (take (length places) places) sort (omega (arith, size, some)) (omega (arith, size, few)) (subst (λ (n : ℕ). All (λ (r : Reply). kind_of_reply r ≡ one) (take n places)) all kinds)
