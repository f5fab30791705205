-- Numbers that lie in their spans are read at once: what the spans of a place are doesn't depend on the numbers after it.
use Rattle.std.proofs.Common.{◌≡◌, ℕ, zero, suc, ◌≤◌, Bool, true, false, List, [], ◌∷◌, length, take, drop, refl, sym, subst, ◌∙◌, arith}
use Rattle.std.specs.Prelude.{if◌then◌else◌, nat_le, nat_lt}
use Rattle.std.proofs.lemmas.List.{length-drop, length-take, nil_from_length, take-append-drop}
use Rattle.fmi_calls.specs.declared.call.Kind.{Kind}
use Rattle.fmi_calls.specs.declared.call.Kind.TheVariants as K
use Rattle.value_types.specs.declared.values.PortType.{PortType}
use Rattle.exact_parts.specs.declared.field.Spans.{Spans}
use Rattle.link_frames.specs.declared.layout.Form.{Form}
use Rattle.link_frames.specs.declared.layout.Form.TheVariants.{OfCall, OfReply, OfBatch, CallItem, ReplyItem}
use Rattle.exact_parts.specs.Field.{AreBytes, Field, InSpans, number}
use Rattle.link_frames.specs.Layout.{any, between, call_row, done_row, kind_at, plain_reply, row, row_by, status_span, type_at, zero_only}
use Rattle.link_frames.specs.Numbers.{AreInSpans, Reads, numbers_in}
use Rattle.exact_parts.specs.Taking.{After}
use Rattle.exact_parts.proofs.CallerLemmas.{taken_bytes}

-- ---- rows

call_detail : (kind : Kind) (t u : PortType) → (call_row kind t).detail ≡ (call_row kind u).detail
call_detail K.Instantiate t u = refl
call_detail K.EnterInitialization t u = refl
call_detail K.ExitInitialization t u = refl
call_detail K.EnterEvent t u = refl
call_detail K.EnterStep t u = refl
call_detail K.DoStep t u = refl
call_detail K.Update t u = refl
call_detail K.Get t u = refl
call_detail K.Set t u = refl
call_detail K.GetClock t u = refl
call_detail K.SetClock t u = refl
call_detail K.GetInterval t u = refl
call_detail K.GetShift t u = refl
call_detail K.Save t u = refl
call_detail K.Restore t u = refl
call_detail K.Free t u = refl
call_detail K.Terminate t u = refl
call_detail K.FreeInstance t u = refl
call_detail K.Serialize t u = refl
call_detail K.Deserialize t u = refl

call_flags : (kind : Kind) (t : PortType) → (call_row kind t).flags ≡ zero_only
call_flags K.Instantiate t = refl
call_flags K.EnterInitialization t = refl
call_flags K.ExitInitialization t = refl
call_flags K.EnterEvent t = refl
call_flags K.EnterStep t = refl
call_flags K.DoStep t = refl
call_flags K.Update t = refl
call_flags K.Get t = refl
call_flags K.Set t = refl
call_flags K.GetClock t = refl
call_flags K.SetClock t = refl
call_flags K.GetInterval t = refl
call_flags K.GetShift t = refl
call_flags K.Save t = refl
call_flags K.Restore t = refl
call_flags K.Free t = refl
call_flags K.Terminate t = refl
call_flags K.FreeInstance t = refl
call_flags K.Serialize t = refl
call_flags K.Deserialize t = refl

interval_detail : (test : Bool) → (if test then row status_span zero_only (between 0 2) any any else row status_span zero_only (between 0 2) zero_only zero_only).detail ≡ status_span
interval_detail true = refl
interval_detail false = refl

interval_flags : (test : Bool) → (if test then row status_span zero_only (between 0 2) any any else row status_span zero_only (between 0 2) zero_only zero_only).flags ≡ zero_only
interval_flags true = refl
interval_flags false = refl

interval_reference : (test : Bool) → (if test then row status_span zero_only (between 0 2) any any else row status_span zero_only (between 0 2) zero_only zero_only).reference ≡ between 0 2
interval_reference true = refl
interval_reference false = refl

done_detail : (kind : Kind) (f r : ℕ) → (done_row kind f r).detail ≡ status_span
done_detail K.Instantiate f r = refl
done_detail K.EnterInitialization f r = refl
done_detail K.ExitInitialization f r = refl
done_detail K.EnterEvent f r = refl
done_detail K.EnterStep f r = refl
done_detail K.DoStep f r = refl
done_detail K.Update f r = refl
done_detail K.Get f r = refl
done_detail K.Set f r = refl
done_detail K.GetClock f r = refl
done_detail K.SetClock f r = refl
done_detail K.GetInterval f r = interval_detail (nat_lt 0 r)
done_detail K.GetShift f r = refl
done_detail K.Save f r = refl
done_detail K.Restore f r = refl
done_detail K.Free f r = refl
done_detail K.Terminate f r = refl
done_detail K.FreeInstance f r = refl
done_detail K.Serialize f r = refl
done_detail K.Deserialize f r = refl

done_flags : (kind : Kind) (f r g s : ℕ) → (done_row kind f r).flags ≡ (done_row kind g s).flags
done_flags K.Instantiate f r g s = refl
done_flags K.EnterInitialization f r g s = refl
done_flags K.ExitInitialization f r g s = refl
done_flags K.EnterEvent f r g s = refl
done_flags K.EnterStep f r g s = refl
done_flags K.DoStep f r g s = refl
done_flags K.Update f r g s = refl
done_flags K.Get f r g s = refl
done_flags K.Set f r g s = refl
done_flags K.GetClock f r g s = refl
done_flags K.SetClock f r g s = refl
done_flags K.GetInterval f r g s = interval_flags (nat_lt 0 r) ∙ sym (interval_flags (nat_lt 0 s))
done_flags K.GetShift f r g s = refl
done_flags K.Save f r g s = refl
done_flags K.Restore f r g s = refl
done_flags K.Free f r g s = refl
done_flags K.Terminate f r g s = refl
done_flags K.FreeInstance f r g s = refl
done_flags K.Serialize f r g s = refl
done_flags K.Deserialize f r g s = refl

done_reference : (kind : Kind) (f r s : ℕ) → (done_row kind f r).reference ≡ (done_row kind f s).reference
done_reference K.Instantiate f r s = refl
done_reference K.EnterInitialization f r s = refl
done_reference K.ExitInitialization f r s = refl
done_reference K.EnterEvent f r s = refl
done_reference K.EnterStep f r s = refl
done_reference K.DoStep f r s = refl
done_reference K.Update f r s = refl
done_reference K.Get f r s = refl
done_reference K.Set f r s = refl
done_reference K.GetClock f r s = refl
done_reference K.SetClock f r s = refl
done_reference K.GetInterval f r s = interval_reference (nat_lt 0 r) ∙ sym (interval_reference (nat_lt 0 s))
done_reference K.GetShift f r s = refl
done_reference K.Save f r s = refl
done_reference K.Restore f r s = refl
done_reference K.Free f r s = refl
done_reference K.Terminate f r s = refl
done_reference K.FreeInstance f r s = refl
done_reference K.Serialize f r s = refl
done_reference K.Deserialize f r s = refl

reply_detail : (bad : Bool) (kind : Kind) (f r : ℕ) → (if bad then plain_reply else done_row kind f r).detail ≡ status_span
reply_detail true kind f r = refl
reply_detail false kind f r = done_detail kind f r

reply_flags : (bad : Bool) (kind : Kind) (f r g s : ℕ) → (if bad then plain_reply else done_row kind f r).flags ≡ (if bad then plain_reply else done_row kind g s).flags
reply_flags true kind f r g s = refl
reply_flags false kind f r g s = done_flags kind f r g s

reply_reference : (bad : Bool) (kind : Kind) (f r s : ℕ) → (if bad then plain_reply else done_row kind f r).reference ≡ (if bad then plain_reply else done_row kind f s).reference
reply_reference true kind f r s = refl
reply_reference false kind f r s = done_reference kind f r s

detail_same : (form : Form) (kind : Kind) (d f r e g s : ℕ) → (row_by form kind d f r).detail ≡ (row_by form kind e g s).detail
detail_same OfCall kind d f r e g s = call_detail kind (type_at d) (type_at e)
detail_same OfReply kind d f r e g s = reply_detail (nat_le 2 d) kind f r ∙ sym (reply_detail (nat_le 2 e) kind g s)
detail_same OfBatch kind d f r e g s = refl
detail_same (CallItem items) kind d f r e g s = call_detail kind (type_at d) (type_at e)
detail_same (ReplyItem items) kind d f r e g s = reply_detail (nat_le 2 d) kind f r ∙ sym (reply_detail (nat_le 2 e) kind g s)

flags_same : (form : Form) (kind : Kind) (d f r g s : ℕ) → (row_by form kind d f r).flags ≡ (row_by form kind d g s).flags
flags_same OfCall kind d f r g s = refl
flags_same OfReply kind d f r g s = reply_flags (nat_le 2 d) kind f r g s
flags_same OfBatch kind d f r g s = refl
flags_same (CallItem items) kind d f r g s = refl
flags_same (ReplyItem items) kind d f r g s = reply_flags (nat_le 2 d) kind f r g s

reference_same : (form : Form) (kind : Kind) (d f r s : ℕ) → (row_by form kind d f r).reference ≡ (row_by form kind d f s).reference
reference_same OfCall kind d f r s = refl
reference_same OfReply kind d f r s = reply_reference (nat_le 2 d) kind f r s
reference_same OfBatch kind d f r s = refl
reference_same (CallItem items) kind d f r s = refl
reference_same (ReplyItem items) kind d f r s = reply_reference (nat_le 2 d) kind f r s

-- ---- numbers one after another

dropped_bytes : (n : ℕ) (bytes : List ℕ) → AreBytes bytes → AreBytes (drop n bytes)
dropped_bytes zero bytes h = h
dropped_bytes (suc n) [] h = tt
dropped_bytes (suc n) (b ∷ bs) h = dropped_bytes n bs h.1

one : (size : ℕ) (spans : Spans) (bytes : List ℕ) → size ≤ length bytes → AreBytes bytes → InSpans spans (number 0 (take size bytes)) → Field size spans (number 0 (take size bytes)) (take size bytes)
one size spans bytes le small span = record { size_is = omega (arith, length-take size bytes); are_bytes = taken_bytes size bytes small; number = refl; span = span }

both : (size : ℕ) (first : ℕ → List ℕ → Type 0) (next : ℕ → List ℕ → List ℕ → Type 0) (all bytes : List ℕ) → first (number 0 (take size bytes)) (take size bytes) → next (number 0 (take size bytes)) all (drop size bytes) → After first next all bytes
both size first next all bytes is_first is_next = record {
  number = number 0 (take size bytes);
  prefix = take size bytes;
  rest = drop size bytes;
  is_first = is_first;
  is_next = is_next;
  both = sym (take-append-drop size bytes);
}

-- numbers in their spans are read
pub read_at_once : (form : Form) (frame : List ℕ) → length frame ≡ 24 → AreBytes frame → AreInSpans form (numbers_in frame) → Reads form 7 [] (numbers_in frame) frame
read_at_once form frame long small good =
    let b1 = drop 1 frame in
    let b2 = drop 1 b1 in
    let b3 = drop 1 b2 in
    let b4 = drop 1 b3 in
    let b5 = drop 4 b4 in
    let b6 = drop 8 b5 in
    let b7 = drop 8 b6 in
    let l1 : length b1 ≡ 23 = omega (arith, length-drop 1 frame) in
    let l2 : length b2 ≡ 22 = omega (arith, length-drop 1 b1) in
    let l3 : length b3 ≡ 21 = omega (arith, length-drop 1 b2) in
    let l4 : length b4 ≡ 20 = omega (arith, length-drop 1 b3) in
    let l5 : length b5 ≡ 16 = omega (arith, length-drop 4 b4) in
    let l6 : length b6 ≡ 8 = omega (arith, length-drop 8 b5) in
    let l7 : length b7 ≡ 0 = omega (arith, length-drop 8 b6) in
    let s1 = dropped_bytes 1 frame small in
    let s2 = dropped_bytes 1 b1 s1 in
    let s3 = dropped_bytes 1 b2 s2 in
    let s4 = dropped_bytes 1 b3 s3 in
    let s5 = dropped_bytes 4 b4 s4 in
    let s6 = dropped_bytes 8 b5 s5 in
    let kind = number 0 (take 1 frame) in
    let detail = number 0 (take 1 b1) in
    let flags = number 0 (take 1 b2) in
    let nought = number 0 (take 1 b3) in
    let reference = number 0 (take 4 b4) in
    let first = number 0 (take 8 b5) in
    let at_detail : InSpans (row_by form (kind_at kind) 0 0 0).detail detail = subst (λ (s : Spans). InSpans s detail) (detail_same form (kind_at kind) detail flags reference 0 0 0) good.detail in
    let at_flags : InSpans (row_by form (kind_at kind) detail 0 0).flags flags = subst (λ (s : Spans). InSpans s flags) (flags_same form (kind_at kind) detail flags reference 0 0) good.flags in
    let at_reference : InSpans (row_by form (kind_at kind) detail flags 0).reference reference = subst (λ (s : Spans). InSpans s reference) (reference_same form (kind_at kind) detail flags reference 0) good.reference in
    both 1 _ _ (numbers_in frame) frame (one 1 _ frame (omega (arith, long)) small good.kind)
    (both 1 _ _ (numbers_in frame) b1 (one 1 _ b1 (omega (arith, l1)) s1 at_detail)
    (both 1 _ _ (numbers_in frame) b2 (one 1 _ b2 (omega (arith, l2)) s2 at_flags)
    (both 1 _ _ (numbers_in frame) b3 (one 1 _ b3 (omega (arith, l3)) s3 good.zero)
    (both 4 _ _ (numbers_in frame) b4 (one 4 _ b4 (omega (arith, l4)) s4 at_reference)
    (both 8 _ _ (numbers_in frame) b5 (one 8 _ b5 (omega (arith, l5)) s5 good.first)
    (both 8 _ _ (numbers_in frame) b6 (one 8 _ b6 (omega (arith, l6)) s6 good.last)
    (refl, nil_from_length b7 l7)))))))
