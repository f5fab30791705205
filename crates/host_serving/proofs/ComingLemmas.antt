-- What the bytes of one frame come to: its head, and its texts after it.
use Rattle.std.proofs.Common.{◌≡◌, inl, inr, ℕ, ◌+◌, ◌-◌, ◌*◌, ◌≤◌, ◌<◌, List, [], ◌∷◌, ◌++◌, length, take, append-nil, refl, sym, ap, ◌∙◌, subst, arith, append_assoc, length-append, length-take}
use Rattle.std.proofs.lemmas.Bool.{cases_lt}
use Rattle.std.proofs.lemmas.List.{length-take-le, take-append-le, take-take, take_all, take_at}
use Rattle.std.proofs.Math.Seq.{take-append-add}
use Rattle.std.specs.Prelude.{slice_index}
use Rattle.std.specs.Io.KnownBytes.{IsAtEnd}
use Rattle.sim_base.specs.Source.{SourceView}
use Rattle.link_frames.specs.declared.call.CallFrame.{CallFrame}
use Rattle.link_frames.specs.Batch.{IsCallBatch, IsHeadOf, batch_head}
use Rattle.link_frames.specs.Call.{IsCallFrame}
use Rattle.link_frames.specs.Head.{spelling}
use Rattle.exact_parts.specs.Taking.{Breaks, Gets, IsPrefix}
use Rattle.link_frames.proofs.CallerLemmas.{call_batch_long, call_begins, call_single, head_length, head_tells}
use Rattle.host_serving.specs.Frames.{IsLinkFrame, IsNoFrame, IsRoom, Takes, TakesBatch, TakesCall}
use Rattle.host_serving.proofs.FrameLemmas.{takes_more, written_after}
use Rattle.host_serving.proofs.HeadLemmas.{frame_long, head_begins}
use borrow.Rule.Slice.PartMut.{put_mid}
use Rattle.host_serving.proofs.LinkFrames.{batch_breaks, batch_prefix, call_breaks, call_prefix, first_kept, first_of}

-- ---- the head

-- a frame of no more than a head is all of it
whole_head : (value : CallFrame) (bytes : List ℕ) (size : ℕ) → length bytes ≤ 24 → Gets IsCallFrame bytes value size → take size bytes ≡ bytes
whole_head value bytes size few gets =
    let long = frame_long value (take size bytes) gets.spelled in
    let is = length-take size bytes in
    take_all size bytes (omega (arith, long, is, few, gets.within))

pub head_came : (old new : SourceView) (value : CallFrame) (bytes : List ℕ) (size : ℕ) → length bytes ≤ 24 → Takes old new bytes → Gets IsCallFrame bytes value size → TakesCall old new value.call
head_came old new value bytes size few takes gets =
    record { frame = value; bytes = bytes; spelled = subst (IsCallFrame value) (whole_head value bytes size few gets) gets.spelled; is = refl; takes = takes }

pub broke : (old new : SourceView) (bytes : List ℕ) (at : ℕ) → (slice_index bytes 0 ≡ 19 → ⊥) → Takes old new bytes → Breaks IsCallFrame bytes at → IsNoFrame old new at
broke old new bytes at single takes breaks = inl (record { bytes = bytes; takes = takes; breaks = call_breaks bytes at single breaks })

-- and for a batch
pub batch_broke : (old new : SourceView) (bytes : List ℕ) (at : ℕ) → slice_index bytes 0 ≡ 19 → Takes old new bytes → Breaks IsCallBatch bytes at → IsNoFrame old new at
batch_broke old new bytes at batch takes breaks = inl (record { bytes = bytes; takes = takes; breaks = batch_breaks bytes at batch breaks })

pub cut : (old new : SourceView) (bytes : List ℕ) (at : ℕ) → Takes old new bytes → IsAtEnd new.left → 0 < length bytes → IsPrefix IsLinkFrame bytes → at ≡ length bytes → IsNoFrame old new at
cut old new bytes at takes end some prefix is = inr (record { bytes = bytes; takes = takes; at_end = end; some = some; prefix = prefix; at_is = is })

pub head_cut : (old new : SourceView) (bytes : List ℕ) → Takes old new bytes → IsAtEnd new.left → 0 < length bytes → IsPrefix IsCallFrame bytes → IsNoFrame old new (length bytes)
head_cut old new bytes takes end some prefix = cut old new bytes (length bytes) takes end some (call_prefix bytes prefix) refl

-- ---- the texts

-- the head alone is no frame
no_frame : (first : List ℕ) (value : CallFrame) → IsPrefix IsCallFrame first → IsCallFrame value first → ⊥
no_frame first value prefix is =
    let none = (call_single value prefix.value first prefix.more is prefix.spelled).1 in
    omega (arith, none, prefix.goes_on)

append_nothing : (xs more : List ℕ) → length more ≤ 0 → xs ++ more ≡ xs
append_nothing xs [] none = append-nil xs
append_nothing xs (m ∷ more) none = absurd (omega (arith, none))

-- a frame that stands in the head and the texts is all of them
whole_texts : (value : CallFrame) (first texts : List ℕ) (size room : ℕ) → length first ≡ 24 → IsPrefix IsCallFrame first → IsRoom first room → length texts ≤ room →
    Gets IsCallFrame (first ++ texts) value size → take size (first ++ texts) ≡ first ++ texts
whole_texts value first texts size room long prefix is_room few gets =
    let least = frame_long value (take size (first ++ texts)) gets.spelled in
    let taken = length-take size (first ++ texts) in
    let all = length-append first texts in
    let n = size - 24 in
    let size_is : size ≡ length first + n = omega (arith, least, taken, long) in
    let parts : take size (first ++ texts) ≡ first ++ take n texts = ap (λ m. take m (first ++ texts)) size_is ∙ take-append-add first texts n in
    let is : IsCallFrame value (first ++ take n texts) = subst (IsCallFrame value) parts gets.spelled in
    let count = length-take n texts in
    elim (cases_lt 0 (length (take n texts))) [
      | inl some ↦ take_all size (first ++ texts) (omega (arith, is_room value (take n texts) some is, count, all, few, size_is))
      | inr none ↦ absurd (no_frame first value prefix (subst (IsCallFrame value) (append_nothing first (take n texts) none) is))
    ]

-- what the head and the texts come to
pub texts_came : (old new : SourceView) (value : CallFrame) (first texts bytes : List ℕ) (size room : ℕ) → length first ≡ 24 → IsPrefix IsCallFrame first → IsRoom first room → length texts ≤ room →
    bytes ≡ first ++ texts → Takes old new (first ++ texts) → Gets IsCallFrame bytes value size → TakesCall old new value.call
texts_came old new value first texts bytes size room long prefix is_room few e takes gets =
    let there : Gets IsCallFrame (first ++ texts) value size = subst (λ l. Gets IsCallFrame l value size) e gets in
    record { frame = value; bytes = first ++ texts; spelled = subst (IsCallFrame value) (whole_texts value first texts size room long prefix is_room few there) there.spelled; is = refl; takes = takes }

pub texts_broke : (old new : SourceView) (first texts bytes : List ℕ) (at : ℕ) → length first ≡ 24 → IsPrefix IsCallFrame first → bytes ≡ first ++ texts → Takes old new (first ++ texts) → Breaks IsCallFrame bytes at → IsNoFrame old new at
texts_broke old new first texts bytes at long prefix e takes breaks = broke old new bytes at single (subst (Takes old new) (sym e) takes) breaks
  where
    some : 0 < length first
    some = omega (arith, long)

    single : slice_index bytes 0 ≡ 19 → ⊥
    single is =
        call_begins prefix.value (first ++ prefix.more) prefix.spelled
        (first_kept first prefix.more some ∙ sym (first_kept first texts some) ∙ ap (λ (l : List ℕ). slice_index l 0) (sym e) ∙ is)

-- where the texts aren't whole, the source has ended
pub texts_cut : (old new : SourceView) (first texts bytes : List ℕ) (room : ℕ) → length first ≡ 24 → IsRoom first room → bytes ≡ first ++ texts → Takes old new (first ++ texts) →
    (length texts < room → IsAtEnd new.left) → IsPrefix IsCallFrame bytes → IsNoFrame old new (24 + length texts)
texts_cut old new first texts bytes room long is_room e takes end prefix =
    let there : IsCallFrame prefix.value (first ++ (texts ++ prefix.more)) = subst (IsCallFrame prefix.value) (ap (λ l. l ++ prefix.more) e ∙ append_assoc first texts prefix.more) prefix.spelled in
    let both = length-append texts prefix.more in
    let goes = prefix.goes_on in
    let wanted : room ≡ length (texts ++ prefix.more) = is_room prefix.value (texts ++ prefix.more) (omega (arith, both, goes)) there in
    let all = ap length e ∙ length-append first texts in
    cut old new bytes (24 + length texts) (subst (Takes old new) (sym e) takes) (end (omega (arith, wanted, both, goes))) (omega (arith, all, long)) (call_prefix bytes prefix) (omega (arith, all, long))

-- ---- the calls of a batch

-- the head of a batch tells its count
batch_headed : (count : ℕ) (bytes : List ℕ) → IsCallBatch count bytes → IsHeadOf count (take 24 bytes)
batch_headed count bytes b =
    let some = b.batch.some in
    let few = b.batch.few in
    let count_is = b.count_is in
    record {
      some = omega (arith, some, count_is);
      few = omega (arith, few, count_is);
      spelled = ap (take 24) b.batch.spelled ∙ take_at (spelling (batch_head (length b.values))) b.batch.rest 24 (head_length (batch_head (length b.values))) ∙ ap (λ (n : ℕ). spelling (batch_head n)) (sym count_is);
    }

-- what goes on after a head is a batch of as many
told_count : (count value : ℕ) (bytes more : List ℕ) → IsHeadOf count (take 24 bytes) → 24 ≤ length bytes → IsCallBatch value (bytes ++ more) → value ≡ count
told_count count value bytes more h long b =
    head_tells value count (take 24 bytes) (subst (IsHeadOf value) (take-append-le 24 bytes more long) (batch_headed value (bytes ++ more) b)) h

-- no head of a batch is shorter than 24 bytes
pub no_short_head : (count : ℕ) (bytes : List ℕ) → length bytes < 24 → IsHeadOf count bytes → ⊥
no_short_head count bytes short h = let size = ap length h.spelled ∙ head_length (batch_head count) in omega (arith, size, short)

-- what a head and as many bytes as it asks for come to
pub batch_came : (old new : SourceView) (room bytes : List ℕ) (count value size n : ℕ) → bytes ≡ take n room → n ≤ 24 * (count + 1) → IsHeadOf count (take 24 bytes) → Takes old new bytes → Gets IsCallBatch bytes value size →
    TakesBatch old new room count
batch_came old new room bytes count value size n is few h takes gets =
    let part = take size bytes in
    let long = call_batch_long value part gets.spelled in
    let took = length-take-le size bytes gets.within in
    let prefix : take 24 part ≡ take 24 bytes = take-take 24 size bytes (omega (arith, long, took)) in
    let same : value ≡ count = head_tells value count (take 24 bytes) (subst (IsHeadOf value) prefix (batch_headed value part gets.spelled)) h in
    let cut = ap length is ∙ length-take n room in
    let within = gets.within in
    let whole : n ≡ 24 * (count + 1) = omega (arith, long, took, same, cut, few, within) in
    let all : part ≡ bytes = take_all size bytes (omega (arith, long, took, same, cut, whole)) in
    let there : bytes ≡ take (24 * (count + 1)) room = is ∙ ap (λ (k : ℕ). take k room) whole in
    record {
      spelled = subst (λ (k : ℕ). IsCallBatch k (take (24 * (count + 1)) room)) same (subst (IsCallBatch value) (all ∙ there) gets.spelled);
      takes = subst (Takes old new) there takes;
    }

pub items_broke : (old new : SourceView) (bytes : List ℕ) (count at : ℕ) → IsHeadOf count (take 24 bytes) → Takes old new bytes → Breaks IsCallBatch bytes at → IsNoFrame old new at
items_broke old new bytes count at h takes breaks = batch_broke old new bytes at (sym (first_of bytes 24 (omega arith)) ∙ head_begins count (take 24 bytes) h) takes breaks

-- where the calls aren't whole, the source has ended
pub items_cut : (old new : SourceView) (bytes : List ℕ) (count more : ℕ) → IsHeadOf count (take 24 bytes) → length bytes ≡ 24 + more → (more < 24 * count → IsAtEnd new.left) → Takes old new bytes → IsPrefix IsCallBatch bytes →
    IsNoFrame old new (24 + more)
items_cut old new bytes count more h long end takes prefix =
    let same = told_count count prefix.value bytes prefix.more h (omega (arith, long)) prefix.spelled in
    let whole = call_batch_long prefix.value (bytes ++ prefix.more) prefix.spelled in
    let both = length-append bytes prefix.more in
    let goes = prefix.goes_on in
    cut old new bytes (24 + more) takes (end (omega (arith, same, whole, both, goes, long))) (omega (arith, long)) (batch_prefix bytes prefix) (sym long)

-- a batch has more than a head
pub no_batch_in : (bytes : List ℕ) (value size : ℕ) → length bytes ≤ 24 → Gets IsCallBatch bytes value size → ⊥
no_batch_in bytes value size few gets =
    let long = call_batch_long value (take size bytes) gets.spelled in
    let took = length-take-le size bytes gets.within in
    let some = (batch_headed value (take size bytes) gets.spelled).some in
    let within = gets.within in
    omega (arith, long, took, some, within, few)

-- bytes that begin a batch are its head, or the source ends before that is whole
pub batch_head_cut : (old new : SourceView) (bytes : List ℕ) → 0 < length bytes → length bytes ≤ 24 → (length bytes < 24 → IsAtEnd new.left) → ((calls : ℕ) → IsHeadOf calls bytes → ⊥) → Takes old new bytes → IsPrefix IsCallBatch bytes →
    IsNoFrame old new (length bytes)
batch_head_cut old new bytes some few end none takes prefix = elim (cases_lt (length bytes) 24) [
  | inl short ↦ cut old new bytes (length bytes) takes (end short) some (batch_prefix bytes prefix) refl
  | inr long ↦ absurd (none prefix.value (subst (IsHeadOf prefix.value) (take-append-le 24 bytes prefix.more long ∙ take_all 24 bytes few) (batch_headed prefix.value (bytes ++ prefix.more) prefix.spelled)))
]

-- ---- the room

-- the head of a batch, and so many bytes of its calls
pub record IsFilled (old new : SourceView) (count more : ℕ) (bytes : List ℕ) : Type 0 where
  pub told : IsHeadOf count (take 24 bytes)
  pub long : length bytes ≡ 24 + more
  pub takes : Takes old new bytes

pub filled : (before mid new : SourceView) (room head part bytes : List ℕ) (count size more : ℕ) → take 24 room ≡ head → bytes ≡ take (24 + more) (put_mid 24 size room part) → more ≤ length part → IsHeadOf count head →
    Takes before mid head → Takes mid new (take more part) → IsFilled before new count more bytes
filled before mid new room head part bytes count size more prefix is few told first second =
    let head_long : length head ≡ 24 = ap length told.spelled ∙ head_length (batch_head count) in
    let room_long = sym (ap length prefix) ∙ length-take 24 room in
    let parts : bytes ≡ head ++ take more part = is ∙ written_after room head part size more prefix (omega (arith, head_long, room_long)) few in
    let whole = ap length parts ∙ length-append head (take more part) in
    record {
      told = subst (IsHeadOf count) (sym (ap (take 24) parts ∙ take_at head (take more part) 24 head_long)) told;
      long = omega (arith, whole, head_long, length-take-le more part few);
      takes = subst (Takes before new) (sym parts) (takes_more before mid new head (take more part) first second);
    }
