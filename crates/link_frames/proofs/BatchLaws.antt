-- Where the items of a batch stand, that a batch is one of one list, and that no batch begins a single frame.
use Rattle.std.proofs.Common.{◌≡◌, ℕ, zero, suc, ◌+◌, ◌*◌, ◌<◌, ◌≤◌, List, [], ◌∷◌, ◌++◌, length, take, drop, get_or, refl, sym, ap, subst, ◌∙◌, append_assoc, append-nil, arith, inl, inr}
use Rattle.std.specs.Prelude.{◌⊎◌, slice_index}
use Rattle.std.proofs.Math.Seq.{drop-append-add}
use Rattle.std.proofs.lemmas.List.{length-append, nil_from_length, take_at}
use Rattle.fmi_calls.specs.KindFacts.{facts_of}
use Rattle.fmi_calls.specs.Kinds.{kind_of, kind_of_reply}
use Rattle.fmi_calls.specs.declared.call.Call.{Call}
use Rattle.fmi_calls.specs.declared.call.Call.TheVariants as C
use Rattle.fmi_calls.specs.declared.call.Kind.{Kind}
use Rattle.fmi_calls.specs.declared.call.Kind.TheVariants as K
use Rattle.fmi_calls.specs.declared.call.Reply.{Reply}
use Rattle.fmi_calls.specs.declared.call.Reply.TheVariants.{Done, Refused}
use Rattle.link_frames.specs.declared.call.CallFrame.{CallFrame}
use Rattle.link_frames.specs.declared.head.Head.{Head}
use Rattle.link_frames.specs.Batch.{AreApart, AreFrames, IsBatch, IsBatchOf, IsCallBatch, IsReplyBatch, ItemsStand, OneBatch, batch_head}
use Rattle.link_frames.specs.Call.{IsCallFrame, bytes_at, head_of_call, sent}
use Rattle.link_frames.specs.Head.{spelling}
use Rattle.link_frames.specs.Reply.{IsReplyFrame, head_of_reply}
use Rattle.exact_parts.specs.Taking.{AreSingle}
use Rattle.link_frames.proofs.BatchLemmas.{calls_single, replies_single}
use Rattle.link_frames.proofs.CallLemmas.{call_single, frame_length}
use Rattle.link_frames.proofs.HeadLemmas.{head_length, number_in}
use Rattle.link_frames.proofs.ReplyLemmas.{reply_single}

-- ---- the first byte

first_byte : (h : Head) (more : List ℕ) → slice_index (spelling h ++ more) 0 ≡ h.kind
unfolding spelling
first_byte h more = refl

-- bytes that begin with one head begin with no head of another kind
heads_apart : (h k : Head) (a b bytes more : List ℕ) → bytes ≡ spelling h ++ a → bytes ++ more ≡ spelling k ++ b → h.kind ≡ k.kind
heads_apart h k a b bytes more one other =
    let whole : spelling h ++ (a ++ more) ≡ spelling k ++ b = sym (append_assoc (spelling h) a more) ∙ ap (λ (xs : List ℕ). xs ++ more) (sym one) ∙ other in
    sym (first_byte h (a ++ more)) ∙ ap (λ (xs : List ℕ). slice_index xs 0) whole ∙ first_byte k b

kind_of_head : (call : Call) (n t : ℕ) → (head_of_call call n t).kind ≡ (facts_of (kind_of call)).number
kind_of_head call n t = refl

kind_of_reply_head : (reply : Reply) → (head_of_reply reply).kind ≡ (facts_of (kind_of_reply reply)).number
kind_of_reply_head (Done w content) = refl
kind_of_reply_head (Refused kind status) = refl

-- no single frame has the kind of a batch
not_19 : (kind : Kind) (n : ℕ) → n ≡ (facts_of kind).number → n ≡ 19 → ⊥
not_19 kind n is e = (number_in kind).named (sym is ∙ e)

pub call_batches_apart : AreApart IsCallFrame IsCallBatch
call_batches_apart frame count bytes more = (
  λ f b. not_19 (kind_of frame.call) _ (kind_of_head frame.call 0 0) (heads_apart _ (batch_head _) _ _ bytes more f.is_frame.spelled b.batch.spelled),
  λ b f. not_19 (kind_of frame.call) _ (kind_of_head frame.call 0 0) (sym (heads_apart (batch_head _) _ _ _ bytes more b.batch.spelled f.is_frame.spelled)),
)

pub reply_batches_apart : AreApart IsReplyFrame IsReplyBatch
reply_batches_apart reply count bytes more = (
  λ f b. not_19 (kind_of_reply reply) _ (kind_of_reply_head reply) (heads_apart (head_of_reply reply) (batch_head _) [] _ bytes more (f.spelled ∙ sym (append-nil (spelling (head_of_reply reply)))) b.batch.spelled),
  λ b f. not_19 (kind_of_reply reply) _ (kind_of_reply_head reply) (sym (heads_apart (batch_head _) (head_of_reply reply) _ [] bytes more b.batch.spelled (f.spelled ∙ sym (append-nil (spelling (head_of_reply reply)))))),
)

-- ---- items

module _ {V : Type 0} (frame : V → List ℕ → Type 0) (kind : V → Kind) (one : Kind) (long : (v : V) (prefix : List ℕ) → frame v prefix → kind v ≡ one → length prefix ≡ 24) where
  frames_at : (vs : List V) (bytes : List ℕ) (i : ℕ) (d : V) → AreFrames frame kind one vs bytes → i < length vs → frame (get_or vs i d) (take 24 (drop (24 * i) bytes))
  frames_at [] bytes i d are lt = absurd (omega (arith, lt))
  frames_at (v ∷ vs) bytes zero d (prefix, rest, both, is, k, more) lt =
      let size = long v prefix is k in
      subst (frame v) (sym (ap (λ (xs : List ℕ). take 24 xs) both ∙ take_at prefix rest 24 size)) is
  frames_at (v ∷ vs) bytes (suc i) d (prefix, rest, both, is, k, more) lt =
      let size = long v prefix is k in
      let place : 24 * suc i ≡ length prefix + 24 * i = omega (arith, size) in
      let after : drop (24 * suc i) bytes ≡ drop (24 * i) rest = ap (λ (xs : List ℕ). drop (24 * suc i) xs) both ∙ ap (λ (n : ℕ). drop n (prefix ++ rest)) place ∙ drop-append-add prefix rest (24 * i) in
      subst (λ (xs : List ℕ). frame (get_or vs i d) (take 24 xs)) (sym after) (frames_at vs rest i d more (omega (arith, lt)))

  -- each frame has 24 bytes
  frames_long : (vs : List V) (bytes : List ℕ) → AreFrames frame kind one vs bytes → length bytes ≡ 24 * length vs
  frames_long [] bytes none = ap length none
  frames_long (v ∷ vs) bytes (prefix, rest, both, is, k, more) =
      let size = long v prefix is k in
      let whole : length bytes ≡ length prefix + length rest = ap length both ∙ length-append prefix rest in
      let after = frames_long vs rest more in
      omega (arith, size, whole, after)

-- after the head
items_stand : {V : Type 0} (frame : V → List ℕ → Type 0) (kind : V → Kind) (long : (v : V) (prefix : List ℕ) → frame v prefix → (kind v ≡ K.Get) ⊎ (kind v ≡ K.Set) → length prefix ≡ 24) → ItemsStand frame kind
items_stand frame kind long values bytes i d b lt =
    let size = head_length (batch_head (length values)) in
    let place : 24 * (i + 1) ≡ length (spelling (batch_head (length values))) + 24 * i = omega (arith, size) in
    let after : drop (24 * (i + 1)) bytes ≡ drop (24 * i) b.rest = ap (λ (xs : List ℕ). drop (24 * (i + 1)) xs) b.spelled ∙ ap (λ (n : ℕ). drop n (spelling (batch_head (length values)) ++ b.rest)) place
    ∙ drop-append-add (spelling (batch_head (length values))) b.rest (24 * i) in
    subst (λ (xs : List ℕ). frame (get_or values i d) (take 24 xs)) (sym after)
    (frames_at frame kind b.one (λ v prefix is k. long v prefix is (elim b.reads_or_sets [ inl e ↦ inl (k ∙ e) | inr e ↦ inr (k ∙ e) ])) values b.rest i d b.frames lt)

-- calls that read or set variables have no texts
bare : (call : Call) (text : List ℕ) → (kind_of call ≡ K.Get) ⊎ (kind_of call ≡ K.Set) → sent call text ≡ []
bare (C.Instantiate event_mode early_return batches) text (inl e) = absurd (cc)
bare (C.Instantiate event_mode early_return batches) text (inr e) = absurd (cc)
bare call text sort = refl

call_long : (f : CallFrame) (prefix : List ℕ) → IsCallFrame f prefix → (kind_of f.call ≡ K.Get) ⊎ (kind_of f.call ≡ K.Set) → length prefix ≡ 24
call_long f prefix is sort =
    let whole = frame_length f.call (bytes_at f.name prefix) (bytes_at f.token prefix) prefix is.is_frame in
    let name = ap length (bare f.call (bytes_at f.name prefix) sort) in
    let token = ap length (bare f.call (bytes_at f.token prefix) sort) in
    omega (arith, whole, name, token)

reply_long : (reply : Reply) (prefix : List ℕ) → IsReplyFrame reply prefix → (kind_of_reply reply ≡ K.Get) ⊎ (kind_of_reply reply ≡ K.Set) → length prefix ≡ 24
reply_long reply prefix is sort = ap length is.spelled ∙ head_length (head_of_reply reply)

pub call_items_stand : ItemsStand IsCallFrame (λ (f : CallFrame). kind_of f.call)
call_items_stand = items_stand IsCallFrame (λ (f : CallFrame). kind_of f.call) call_long

pub reply_items_stand : ItemsStand IsReplyFrame kind_of_reply
reply_items_stand = items_stand IsReplyFrame kind_of_reply reply_long

-- a batch of so many has as many bytes as its head and so many frames
batch_long : {V : Type 0} (frame : V → List ℕ → Type 0) (kind : V → Kind) (long : (v : V) (prefix : List ℕ) → frame v prefix → (kind v ≡ K.Get) ⊎ (kind v ≡ K.Set) → length prefix ≡ 24)
    (count : ℕ) (bytes : List ℕ) → IsBatchOf frame kind count bytes → length bytes ≡ 24 * (count + 1)
batch_long frame kind long count bytes b =
    let k = b.batch in
    let head = head_length (batch_head (length b.values)) in
    let whole : length bytes ≡ length (spelling (batch_head (length b.values))) + length k.rest = ap length k.spelled ∙ length-append (spelling (batch_head (length b.values))) k.rest in
    let rest = frames_long frame kind k.one (λ v prefix is e. long v prefix is (elim k.reads_or_sets [ inl g ↦ inl (e ∙ g) | inr s ↦ inr (e ∙ s) ])) b.values k.rest k.frames in
    let count_is = b.count_is in
    omega (arith, head, whole, rest, count_is)

pub call_batch_long : (count : ℕ) (bytes : List ℕ) → IsCallBatch count bytes → length bytes ≡ 24 * (count + 1)
call_batch_long = batch_long IsCallFrame (λ (f : CallFrame). kind_of f.call) call_long

pub reply_batch_long : (count : ℕ) (bytes : List ℕ) → IsReplyBatch count bytes → length bytes ≡ 24 * (count + 1)
reply_batch_long = batch_long IsReplyFrame kind_of_reply reply_long

-- ---- one list

cases_le : (m n : ℕ) → (m ≤ n) ⊎ (n ≤ m)
cases_le zero n = inl (omega arith)
cases_le (suc m) zero = inr (omega arith)
cases_le (suc m) (suc n) = elim (cases_le m n) [ inl le ↦ inl (omega (arith, le)) | inr ge ↦ inr (omega (arith, ge)) ]

-- as many frames of single values in the same bytes are those of the same values
frames_one : {V : Type 0} (frame : V → List ℕ → Type 0) (kind : V → Kind) (a b : Kind) → AreSingle frame → (vs ws : List V) (bytes : List ℕ) →
    length vs ≡ length ws → AreFrames frame kind a vs bytes → AreFrames frame kind b ws bytes → vs ≡ ws
frames_one {V} frame kind a b single [] [] bytes len one other = refl
frames_one {V} frame kind a b single [] (w ∷ ws) bytes len one other = absurd (omega (arith, len))
frames_one {V} frame kind a b single (v ∷ vs) [] bytes len one other = absurd (omega (arith, len))
frames_one {V} frame kind a b single (v ∷ vs) (w ∷ ws) bytes len (prefix, rest, both, is, k, more) (first, tail, parts, was, j, others) =
    let same = single_prefix single v w prefix first rest tail is was (sym both ∙ parts) in
    let after = subst (AreFrames frame kind b ws) (sym same.1) others in
    ap (λ (x : V). x ∷ vs) same.0 ∙ ap (λ (xs : List V). w ∷ xs) (frames_one frame kind a b single vs ws rest (omega (arith, len)) more after)
  where
    -- of two frames that begin the same bytes the one begins the other
    split : (xs ys zs ts : List ℕ) → xs ++ ys ≡ zs ++ ts → length xs ≤ length zs → (m : List ℕ) × (zs ≡ xs ++ m) × (ys ≡ m ++ ts)
    split [] ys zs ts e le = (zs, refl, e)
    split (x ∷ xs) ys [] ts e le = absurd (omega (arith, le))
    split (x ∷ xs) ys (z ∷ zs) ts e le =
        let rest = split xs ys zs ts (ap (λ (l : List ℕ). drop 1 l) e) (omega (arith, le)) in
        (rest.0, ap (λ (l : List ℕ). z ∷ l) rest.1 ∙ ap (λ (n : ℕ). n ∷ (xs ++ rest.0)) (sym (ap (λ (l : List ℕ). slice_index l 0) e)), rest.2)

    ends_with : {V : Type 0} (frame : V → List ℕ → Type 0) → AreSingle frame → (v w : V) (prefix first m rest tail : List ℕ) → frame v prefix → frame w first → first ≡ prefix ++ m → rest ≡ m ++ tail → (v ≡ w) × (rest ≡ tail)
    ends_with frame single v w prefix first m rest tail is was longer after =
        let one = single v w prefix m is (subst (frame w) longer was) in
        (one.0, after ∙ ap (λ (l : List ℕ). l ++ tail) (nil_from_length m one.1))

    single_prefix : {V : Type 0} {frame : V → List ℕ → Type 0} → AreSingle frame → (v w : V) (prefix first rest tail : List ℕ) → frame v prefix → frame w first → prefix ++ rest ≡ first ++ tail → (v ≡ w) × (rest ≡ tail)
    single_prefix {V} {frame} single v w prefix first rest tail is was e = elim (cases_le (length prefix) (length first)) [
      | inl le ↦ (let m = split prefix rest first tail e le in ends_with frame single v w prefix first m.0 rest tail is was m.1 m.2)
      | inr ge ↦ (let m = split first tail prefix rest (sym e) ge in let back = ends_with frame single w v first prefix m.0 tail rest was is m.1 m.2 in (sym back.0, sym back.1))
    ]

-- the head tells how many, and after it stand their frames
one_batch : {V : Type 0} (frame : V → List ℕ → Type 0) (kind : V → Kind) → AreSingle frame →
    ((values others : List V) (bytes : List ℕ) → IsBatch frame kind values bytes → IsBatch frame kind others bytes → length values ≡ length others) → OneBatch frame kind
one_batch frame kind single counts values others bytes b c =
    let len = counts values others bytes b c in
    let heads : spelling (batch_head (length values)) ≡ spelling (batch_head (length others)) = ap (λ (n : ℕ). spelling (batch_head n)) len in
    let rests : c.rest ≡ b.rest = same_tail (spelling (batch_head (length others))) c.rest b.rest (sym c.spelled ∙ b.spelled ∙ ap (λ (h : List ℕ). h ++ b.rest) heads) in
    frames_one frame kind b.one c.one single values others b.rest len b.frames (subst (AreFrames frame kind c.one others) rests c.frames)
  where
    same_tail : (xs ys zs : List ℕ) → xs ++ ys ≡ xs ++ zs → ys ≡ zs
    same_tail [] ys zs e = e
    same_tail (x ∷ xs) ys zs e = same_tail xs ys zs (ap (λ (l : List ℕ). drop 1 l) e)

pub one_call_batch : OneBatch IsCallFrame (λ (f : CallFrame). kind_of f.call)
one_call_batch = one_batch IsCallFrame (λ (f : CallFrame). kind_of f.call) call_single (λ values others bytes b c.
    (calls_single (length values) (length others) bytes [] (record { values = values; count_is = refl; batch = b })
    (subst (λ (xs : List ℕ). IsCallBatch (length others) xs) (sym (append-nil bytes)) (record { values = others; count_is = refl; batch = c }))).0)

pub one_reply_batch : OneBatch IsReplyFrame kind_of_reply
one_reply_batch = one_batch IsReplyFrame kind_of_reply reply_single (λ values others bytes b c.
    (replies_single (length values) (length others) bytes [] (record { values = values; count_is = refl; batch = b })
    (subst (λ (xs : List ℕ). IsReplyBatch (length others) xs) (sym (append-nil bytes)) (record { values = others; count_is = refl; batch = c }))).0)

-- ---- the first byte of either

-- a batch begins with 19
pub batch_begins : (count : ℕ) (bytes : List ℕ) → IsCallBatch count bytes → slice_index bytes 0 ≡ 19
batch_begins count bytes b = ap (λ (xs : List ℕ). slice_index xs 0) b.batch.spelled ∙ first_byte (batch_head (length b.values)) b.batch.rest

-- and a single call doesn't
pub call_begins : (frame : CallFrame) (bytes : List ℕ) → IsCallFrame frame bytes → slice_index bytes 0 ≡ 19 → ⊥
call_begins frame bytes is begins =
    not_19 (kind_of frame.call) _ (kind_of_head frame.call 0 0) (sym (ap (λ (xs : List ℕ). slice_index xs 0) is.is_frame.spelled ∙ first_byte _ _) ∙ begins)
