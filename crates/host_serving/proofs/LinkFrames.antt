-- Frames of single calls and of batches, told apart by their first byte.
use Rattle.std.proofs.Common.{◌≡◌, ℕ, zero, suc, ◌+◌, ◌-◌, ◌*◌, ◌<◌, ◌≤◌, List, [], ◌∷◌, ◌++◌, length, length-append, length-drop, length-take, map, take, drop, refl, sym, ap, subst, ◌∙◌, arith, inl, inr, ◌⊎◌}
use Rattle.std.specs.Prelude.{slice_index}
use Rattle.std.proofs.lemmas.List.{take-take}
use Rattle.link_frames.specs.declared.call.CallFrame.{CallFrame}
use Rattle.fmi_calls.specs.declared.call.Call.{Call}
use Rattle.link_frames.specs.Batch.{IsCallBatch, batch_head}
use Rattle.link_frames.specs.Call.{IsCallFrame}
use Rattle.exact_parts.specs.declared.taken.Taken.{Taken}
use Rattle.exact_parts.specs.declared.taken.Taken.TheVariants.{Got, NeedMore, Bad}
use Rattle.exact_parts.specs.Taking.{AreSingle, Breaks, Gets, IsPrefix}
use Rattle.link_frames.specs.Head.{spelling}
use Rattle.link_frames.proofs.CallerLemmas.{batch_begins, call_batches_apart, call_begins, call_single, calls_single, head_length, one_call_batch}
use Rattle.host_serving.specs.Frames.{IsBatchOfCalls, IsLinkFrame}
use Rattle.host_serving.proofs.HeadLemmas.{frame_long}

-- the first byte of bytes, of a prefix of them, and with more after them
pub first_kept : (bytes more : List ℕ) → 0 < length bytes → slice_index (bytes ++ more) 0 ≡ slice_index bytes 0
first_kept [] more some = absurd (omega (arith, some))
first_kept (x ∷ xs) more some = refl

pub first_of : (bytes : List ℕ) (n : ℕ) → 0 < n → slice_index (take n bytes) 0 ≡ slice_index bytes 0
first_of bytes zero some = absurd (omega (arith, some))
first_of [] (suc n) some = refl
first_of (x ∷ xs) (suc n) some = refl

some_taken : (bytes : List ℕ) (n : ℕ) → 0 < length bytes → 0 < length (take (n + 1) bytes)
some_taken [] n some = absurd (omega (arith, some))
some_taken (x ∷ xs) n some = (let one : n + 1 ≡ suc n = omega arith in subst (λ (k : ℕ). 0 < length (take k (x ∷ xs))) (sym one) (omega arith))

-- ---- prefixes

pub call_prefix : (bytes : List ℕ) → IsPrefix IsCallFrame bytes → IsPrefix IsLinkFrame bytes
call_prefix bytes f = record { value = inl f.value; more = f.more; spelled = f.spelled; goes_on = f.goes_on }

pub batch_prefix : (bytes : List ℕ) → IsPrefix IsCallBatch bytes → IsPrefix IsLinkFrame bytes
batch_prefix bytes f = record { value = inr f.value; more = f.more; spelled = f.spelled; goes_on = f.goes_on }

-- ---- breaks

-- bytes that don't begin as a batch break where they break as a call
pub call_breaks : (bytes : List ℕ) (at : ℕ) → (slice_index bytes 0 ≡ 19 → ⊥) → Breaks IsCallFrame bytes at → Breaks IsLinkFrame bytes at
call_breaks bytes at other b =
    let some : 0 < length bytes = omega (arith, b.within) in
    record {
      within = b.within;
      prefix = call_prefix (take at bytes) b.prefix;
      none = λ begins. by begins.value begins.more begins.spelled some;
    }
  where
    by : (v : CallFrame ⊎ ℕ) (more : List ℕ) → IsLinkFrame v (take (at + 1) bytes ++ more) → 0 < length bytes → ⊥
    by (inl frame) more is some = b.none (record { value = frame; more = more; spelled = is })
    by (inr count) more is some =
        other (sym (first_kept (take (at + 1) bytes) more (some_taken bytes at some) ∙ first_of bytes (at + 1) (omega arith)) ∙ batch_begins count (take (at + 1) bytes ++ more) is)

-- and those that begin as one break where they break as a batch
pub batch_breaks : (bytes : List ℕ) (at : ℕ) → slice_index bytes 0 ≡ 19 → Breaks IsCallBatch bytes at → Breaks IsLinkFrame bytes at
batch_breaks bytes at batch b =
    let some : 0 < length bytes = omega (arith, b.within) in
    record {
      within = b.within;
      prefix = batch_prefix (take at bytes) b.prefix;
      none = λ begins. by begins.value begins.more begins.spelled some;
    }
  where
    by : (v : CallFrame ⊎ ℕ) (more : List ℕ) → IsLinkFrame v (take (at + 1) bytes ++ more) → 0 < length bytes → ⊥
    by (inr count) more is some = b.none (record { value = count; more = more; spelled = is })
    by (inl frame) more is some =
        call_begins frame (take (at + 1) bytes ++ more) is
        ((first_kept (take (at + 1) bytes) more (some_taken bytes at some) ∙ first_of bytes (at + 1) (omega arith)) ∙ batch)

-- ---- one frame at most

-- a frame is of one call or one batch, and none is a proper prefix of another
pub link_single : AreSingle IsLinkFrame
link_single (inl f) (inl g) bytes more is was = let same = call_single f g bytes more is was in (ap (λ (x : CallFrame). inl x) same.0, same.1)
link_single (inr m) (inr n) bytes more is was = let same = calls_single m n bytes more is was in (ap (λ (k : ℕ). inr k) same.0, same.1)
link_single (inl f) (inr n) bytes more is was = absurd ((call_batches_apart f n bytes more).0 is was)
link_single (inr n) (inl f) bytes more is was = absurd ((call_batches_apart f n bytes more).1 is was)

-- each has a head
pub link_long : (frame : CallFrame ⊎ ℕ) (bytes : List ℕ) → IsLinkFrame frame bytes → 24 ≤ length bytes
link_long (inl f) bytes is = frame_long f bytes is
link_long (inr n) bytes is =
    let whole = ap length is.batch.spelled ∙ length-append (spelling (batch_head (length is.values))) is.batch.rest in
    let head = head_length (batch_head (length is.values)) in
    omega (arith, whole, head)

-- a batch of calls is one of so many
pub batch_link : (calls : List Call) (bytes : List ℕ) (b : IsBatchOfCalls calls bytes) → IsLinkFrame (inr (length b.frames)) bytes
batch_link calls bytes b = record { values = b.frames; count_is = refl; batch = b.batch }

-- and of these calls alone
pub same_calls : (calls other : List Call) (bytes : List ℕ) → IsBatchOfCalls calls bytes → IsBatchOfCalls other bytes → calls ≡ other
same_calls calls other bytes a b = sym a.is ∙ ap (λ (fs : List CallFrame). map (λ (f : CallFrame). f.call) fs) (one_call_batch a.frames b.frames bytes a.batch b.batch) ∙ b.is

-- ---- an item of a batch

-- the 24 bytes of an item of a room are those of its frame
pub got_item : (room : List ℕ) (i : ℕ) (f : CallFrame) → 24 * (i + 2) ≤ length room → IsCallFrame f (take 24 (drop (24 * (i + 1)) room)) →
    Gets IsCallFrame (take (24 * (i + 1) + 24 - 24 * (i + 1)) (drop (24 * (i + 1)) room)) f 24
got_item room i f within is =
    let size : 24 * (i + 1) + 24 - 24 * (i + 1) ≡ 24 = omega arith in
    let cut = length-take 24 (drop (24 * (i + 1)) room) in
    let after = length-drop (24 * (i + 1)) room in
    let whole : 24 ≤ length (take 24 (drop (24 * (i + 1)) room)) = omega (arith, cut, after, within) in
    subst (λ (n : ℕ). Gets IsCallFrame (take n (drop (24 * (i + 1)) room)) f 24) (sym size)
    (record { within = whole; spelled = subst (IsCallFrame f) (sym (take-take 24 24 (drop (24 * (i + 1)) room) (omega arith))) is })

pub same_got : (f g : CallFrame) (m n : ℕ) → ◌≡◌ {A = Taken CallFrame} (Got f m) (Got g n) → f ≡ g
same_got f g m n e = cc

pub not_got : (taken : Taken CallFrame) (f : CallFrame) (n : ℕ) → taken ≡ Got f n → (taken ≡ NeedMore) ⊎ ((at : ℕ) × (taken ≡ Bad at)) → ⊥
not_got taken f n got (inl e) = cc
not_got taken f n got (inr e) = let at = e.1 in cc
