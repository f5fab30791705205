-- Calls and their frames.
use Rattle.std.proofs.Common.{◌≡◌, ℕ, zero, suc, ◌+◌, ◌-◌, ◌/◌, ◌%◌, ◌<◌, ◌≤◌, ◌^◌, ℤ, Bool, true, false, eqb, List, [], ◌++◌, length, take, drop, append_assoc, refl, sym, ap, subst, ◌∙◌, arith}
use Rattle.std.specs.Prelude.{IsUtf8, slice_range}
use Rattle.std.specs.declared.ops.Range.{Range}
use Rattle.std.proofs.lemmas.Str.{IsUtf8-nil}
use Rattle.std.proofs.lemmas.List.{append-nil, drop_at, length-append, length-drop, length-take, nil_from_length, take_at}
use Rattle.fmi_calls.specs.KindFacts.{facts_of}
use Rattle.fmi_calls.specs.Kinds.{kind_of}
use Rattle.fmi_calls.specs.declared.call.Call.{Call}
use Rattle.fmi_calls.specs.declared.call.Call.TheVariants as C
use Rattle.fmi_calls.specs.declared.call.Kind.{Kind}
use Rattle.fmi_calls.specs.declared.call.Kind.TheVariants as K
use Rattle.value_types.specs.Values.{word_of}
use Rattle.value_types.specs.declared.values.PortType.{PortType}
use Rattle.link_frames.specs.declared.call.CallFrame.{CallFrame}
use Rattle.link_frames.specs.declared.head.Head.{Head}
use Rattle.link_frames.specs.declared.layout.Form.TheVariants.{OfCall}
use Rattle.link_frames.specs.Call.{CanBeSent, IsFrameOf, bytes_at, IsCallFrame, IsCallNumbers, PartsOf, TextsOf, TokenOf, call_at, call_by, detail_of, first_of, frame_at, frame_with, head_of_call, last_of, name_len, range, reference_of, sent, text_len, token_len, value_at}
use Rattle.exact_parts.specs.Field.{InSpans}
use Rattle.link_frames.specs.Head.{InRange, flag, head, numbers_of, spelling}
use Rattle.link_frames.specs.Layout.{any_reference, between, kind_at, text_max, type_at, words}
use Rattle.link_frames.specs.Numbers.{Reads}
use Rattle.exact_parts.specs.Taking.{AreSingle}
use Rattle.link_frames.specs.Text.{IsText}
use Rattle.exact_parts.proofs.CallerLemmas.{Followed, Same, after_single, made_single}
use Rattle.link_frames.proofs.HeadLemmas.{Allowed, IsHead, head_length, head_reads, head_same, in_any, in_between, in_kinds, in_zero, is_between, is_zero, kind_again, kind_small, kinds_in, number_in, read_head}
use Rattle.link_frames.proofs.HeadLemmas as heads
use Rattle.link_frames.proofs.NumbersLemmas.{reads_single}
use Rattle.link_frames.proofs.TextLemmas.{fill_is_text, text_single}
use Rattle.link_frames.proofs.WordLemmas as types
use Rattle.link_frames.proofs.WordLemmas.{no_clock, type_again, type_in, value_again, valued, word_in}

-- ---- a call is that of its numbers

call_again : (call : Call) (n t : ℕ) → CanBeSent call n t → call_by (kind_of call) (detail_of call) (reference_of call) (first_of call n) (last_of call t) ≡ call
call_again (C.Instantiate true true true) n t h = refl
call_again (C.Instantiate true true false) n t h = refl
call_again (C.Instantiate true false true) n t h = refl
call_again (C.Instantiate true false false) n t h = refl
call_again (C.Instantiate false true true) n t h = refl
call_again (C.Instantiate false true false) n t h = refl
call_again (C.Instantiate false false true) n t h = refl
call_again (C.Instantiate false false false) n t h = refl
call_again (C.EnterInitialization start stop) n t h = refl
call_again C.ExitInitialization n t h = refl
call_again C.EnterEvent n t h = refl
call_again C.EnterStep n t h = refl
call_again (C.DoStep at size) n t h = refl
call_again C.Update n t h = refl
call_again (C.Get kind reference) n t h = ap (λ (k : PortType). C.Get k reference) (type_again kind h)
call_again (C.Set kind reference value) n t h =
    ap (λ (k : PortType). C.Set k reference (value_at k (word_of value))) (type_again kind h.0) ∙ ap (λ (v : ℤ). C.Set kind reference v) (value_again kind value h.1)
call_again (C.GetClock reference) n t h = refl
call_again (C.SetClock reference) n t h = refl
call_again (C.GetInterval reference) n t h = refl
call_again (C.GetShift reference) n t h = refl
call_again C.Save n t h = refl
call_again C.Restore n t h = refl
call_again C.Free n t h = refl
call_again C.Terminate n t h = refl
call_again C.FreeInstance n t h = refl
call_again C.Serialize n t h = refl
call_again (C.Deserialize room point stop) n t h = refl

-- ---- the numbers of a call lie in their spans

flags_in : (a b c : Bool) → InSpans (between 0 7) (flag a 1 + flag b 2 + flag c 4)
flags_in true true true = in_between 0 7 _ (omega arith) (omega arith)
flags_in true true false = in_between 0 7 _ (omega arith) (omega arith)
flags_in true false true = in_between 0 7 _ (omega arith) (omega arith)
flags_in true false false = in_between 0 7 _ (omega arith) (omega arith)
flags_in false true true = in_between 0 7 _ (omega arith) (omega arith)
flags_in false true false = in_between 0 7 _ (omega arith) (omega arith)
flags_in false false true = in_between 0 7 _ (omega arith) (omega arith)
flags_in false false false = in_between 0 7 _ (omega arith) (omega arith)

reference_in : (n : ℕ) → n < 2 ^ 32 → InSpans any_reference n
reference_in n lt = in_between 0 (2 ^ 32 - 1) n (omega arith) (omega (arith, lt))

call_allowed : (call : Call) (n t : ℕ) → CanBeSent call n t → InRange (head_of_call call n t) → Allowed OfCall (kind_of call) (head_of_call call n t)
call_allowed (C.Instantiate event_mode early_return batches) n t h r = record { detail = in_zero; flags = in_zero; reference = flags_in event_mode early_return batches; first = in_between 1 text_max n h.0 h.1; last = in_between 0 text_max t (omega arith) h.2 }
call_allowed (C.EnterInitialization start stop) n t h r = record { detail = in_zero; flags = in_zero; reference = in_zero; first = in_any start r.first; last = in_any stop r.last }
call_allowed C.ExitInitialization n t h r = record { detail = in_zero; flags = in_zero; reference = in_zero; first = in_zero; last = in_zero }
call_allowed C.EnterEvent n t h r = record { detail = in_zero; flags = in_zero; reference = in_zero; first = in_zero; last = in_zero }
call_allowed C.EnterStep n t h r = record { detail = in_zero; flags = in_zero; reference = in_zero; first = in_zero; last = in_zero }
call_allowed (C.DoStep at size) n t h r = record { detail = in_zero; flags = in_zero; reference = in_zero; first = in_any at r.first; last = in_any size r.last }
call_allowed C.Update n t h r = record { detail = in_zero; flags = in_zero; reference = in_zero; first = in_zero; last = in_zero }
call_allowed (C.Get kind reference) n t h r = record { detail = in_between 1 10 _ (type_in kind h).from (type_in kind h).up_to; flags = in_zero; reference = reference_in reference r.reference; first = in_zero; last = in_zero }
call_allowed (C.Set kind reference value) n t h r = record {
  detail = in_between 1 10 _ (type_in kind h.0).from (type_in kind h.0).up_to;
  flags = in_zero;
  reference = reference_in reference r.reference;
  first = subst (λ (k : PortType). InSpans (words k) (word_of value)) (sym (type_again kind h.0)) (word_in kind value h.1);
  last = in_zero;
}
call_allowed (C.GetClock reference) n t h r = record { detail = in_zero; flags = in_zero; reference = reference_in reference r.reference; first = in_zero; last = in_zero }
call_allowed (C.SetClock reference) n t h r = record { detail = in_zero; flags = in_zero; reference = reference_in reference r.reference; first = in_zero; last = in_zero }
call_allowed (C.GetInterval reference) n t h r = record { detail = in_zero; flags = in_zero; reference = reference_in reference r.reference; first = in_zero; last = in_zero }
call_allowed (C.GetShift reference) n t h r = record { detail = in_zero; flags = in_zero; reference = reference_in reference r.reference; first = in_zero; last = in_zero }
call_allowed C.Save n t h r = record { detail = in_zero; flags = in_zero; reference = in_zero; first = in_zero; last = in_zero }
call_allowed C.Restore n t h r = record { detail = in_zero; flags = in_zero; reference = in_zero; first = in_zero; last = in_zero }
call_allowed C.Free n t h r = record { detail = in_zero; flags = in_zero; reference = in_zero; first = in_zero; last = in_zero }
call_allowed C.Terminate n t h r = record { detail = in_zero; flags = in_zero; reference = in_zero; first = in_zero; last = in_zero }
call_allowed C.FreeInstance n t h r = record { detail = in_zero; flags = in_zero; reference = in_zero; first = in_zero; last = in_zero }
call_allowed C.Serialize n t h r = record { detail = in_zero; flags = in_zero; reference = in_zero; first = in_zero; last = in_zero }
call_allowed (C.Deserialize room point stop) n t h r = record { detail = in_zero; flags = in_zero; reference = reference_in room r.reference; first = in_any point r.first; last = in_any stop r.last }

detail_small : (call : Call) (n t : ℕ) → CanBeSent call n t → detail_of call < 256
detail_small (C.Instantiate event_mode early_return batches) n t h = omega arith
detail_small (C.EnterInitialization start stop) n t h = omega arith
detail_small C.ExitInitialization n t h = omega arith
detail_small C.EnterEvent n t h = omega arith
detail_small C.EnterStep n t h = omega arith
detail_small (C.DoStep at size) n t h = omega arith
detail_small C.Update n t h = omega arith
detail_small (C.Get kind reference) n t h = omega (arith, (type_in kind h).up_to)
detail_small (C.Set kind reference value) n t h = omega (arith, (type_in kind h.0).up_to)
detail_small (C.GetClock reference) n t h = omega arith
detail_small (C.SetClock reference) n t h = omega arith
detail_small (C.GetInterval reference) n t h = omega arith
detail_small (C.GetShift reference) n t h = omega arith
detail_small C.Save n t h = omega arith
detail_small C.Restore n t h = omega arith
detail_small C.Free n t h = omega arith
detail_small C.Terminate n t h = omega arith
detail_small C.FreeInstance n t h = omega arith
detail_small C.Serialize n t h = omega arith
detail_small (C.Deserialize room point stop) n t h = omega arith

call_head : (call : Call) (n t : ℕ) → CanBeSent call n t → InRange (head_of_call call n t) → IsHead OfCall (head_of_call call n t)
call_head call n t h r = record {
  kind = in_kinds _ (number_in (kind_of call));
  small = kind_small (kind_of call);
  detail = detail_small call n t h;
  flags = omega arith;
  in_range = r;
  allowed = subst (λ (k : Kind). Allowed OfCall k (head_of_call call n t)) (sym (heads.number_again (kind_of call))) (call_allowed call n t h r);
}

-- ---- numbers in their spans are those of their call

bits_again : (f : ℕ) → f ≤ 7 → flag (eqb (f % 2) 1) 1 + flag (eqb (f / 2 % 2) 1) 2 + flag (eqb (f / 4) 1) 4 ≡ f
bits_again zero h = refl
bits_again (suc zero) h = refl
bits_again (suc (suc zero)) h = refl
bits_again (suc (suc (suc zero))) h = refl
bits_again (suc (suc (suc (suc zero)))) h = refl
bits_again (suc (suc (suc (suc (suc zero))))) h = refl
bits_again (suc (suc (suc (suc (suc (suc zero)))))) h = refl
bits_again (suc (suc (suc (suc (suc (suc (suc zero))))))) h = refl
bits_again (suc (suc (suc (suc (suc (suc (suc (suc f)))))))) h = absurd (omega arith)

-- what a kind's numbers say of its call
record Says (kind : Kind) (d f r a b : ℕ) : Type 0 where
  head_is : head_of_call (call_by kind d r a b) (text_len kind a) (text_len kind b) ≡ head (facts_of kind).number d f r a b
  can_be_sent : CanBeSent (call_by kind d r a b) (text_len kind a) (text_len kind b)

plain_again : (kind : Kind) (d f r a b : ℕ) → InSpans (between 0 0) d → InSpans (between 0 0) f → InSpans (between 0 0) r → InSpans (between 0 0) a → InSpans (between 0 0) b → head (facts_of kind).number 0 0 0 0 0 ≡ head (facts_of kind).number d f r a b
plain_again kind d f r a b hd hf hr ha hb = head_same _ _ _ _ _ _ _ _ _ _ _ _ refl (sym (is_zero d hd)) (sym (is_zero f hf)) (sym (is_zero r hr)) (sym (is_zero a ha)) (sym (is_zero b hb))

says : (kind : Kind) (k d f r a b : ℕ) → Allowed OfCall kind (head k d f r a b) → Says kind d f r a b
says K.Instantiate k d f r a b h = record { head_is = head_same _ 0 0 _ a b _ d f r a b refl (sym (is_zero d h.detail)) (sym (is_zero f h.flags)) (bits_again r (is_between 0 7 r h.reference).up_to) refl refl; can_be_sent = ((is_between 1 text_max a h.first).from, (is_between 1 text_max a h.first).up_to, (is_between 0 text_max b h.last).up_to) }
says K.EnterInitialization k d f r a b h = record { head_is = head_same _ 0 0 0 a b _ d f r a b refl (sym (is_zero d h.detail)) (sym (is_zero f h.flags)) (sym (is_zero r h.reference)) refl refl; can_be_sent = tt }
says K.ExitInitialization k d f r a b h = record { head_is = plain_again K.ExitInitialization d f r a b h.detail h.flags h.reference h.first h.last; can_be_sent = tt }
says K.EnterEvent k d f r a b h = record { head_is = plain_again K.EnterEvent d f r a b h.detail h.flags h.reference h.first h.last; can_be_sent = tt }
says K.EnterStep k d f r a b h = record { head_is = plain_again K.EnterStep d f r a b h.detail h.flags h.reference h.first h.last; can_be_sent = tt }
says K.DoStep k d f r a b h = record { head_is = head_same _ 0 0 0 a b _ d f r a b refl (sym (is_zero d h.detail)) (sym (is_zero f h.flags)) (sym (is_zero r h.reference)) refl refl; can_be_sent = tt }
says K.Update k d f r a b h = record { head_is = plain_again K.Update d f r a b h.detail h.flags h.reference h.first h.last; can_be_sent = tt }
says K.Get k d f r a b h = record { head_is = head_same _ _ 0 r 0 0 _ d f r a b refl (types.number_again d (is_between 1 10 d h.detail).from (is_between 1 10 d h.detail).up_to) (sym (is_zero f h.flags)) refl (sym (is_zero a h.first)) (sym (is_zero b h.last)); can_be_sent = no_clock d (is_between 1 10 d h.detail).from (is_between 1 10 d h.detail).up_to }
says K.Set k d f r a b h = record { head_is = head_same _ _ 0 r _ 0 _ d f r a b refl (types.number_again d (is_between 1 10 d h.detail).from (is_between 1 10 d h.detail).up_to) (sym (is_zero f h.flags)) refl (valued (type_at d) a h.first).is (sym (is_zero b h.last)); can_be_sent = (no_clock d (is_between 1 10 d h.detail).from (is_between 1 10 d h.detail).up_to, (valued (type_at d) a h.first).fits) }
says K.GetClock k d f r a b h = record { head_is = head_same _ 0 0 r 0 0 _ d f r a b refl (sym (is_zero d h.detail)) (sym (is_zero f h.flags)) refl (sym (is_zero a h.first)) (sym (is_zero b h.last)); can_be_sent = tt }
says K.SetClock k d f r a b h = record { head_is = head_same _ 0 0 r 0 0 _ d f r a b refl (sym (is_zero d h.detail)) (sym (is_zero f h.flags)) refl (sym (is_zero a h.first)) (sym (is_zero b h.last)); can_be_sent = tt }
says K.GetInterval k d f r a b h = record { head_is = head_same _ 0 0 r 0 0 _ d f r a b refl (sym (is_zero d h.detail)) (sym (is_zero f h.flags)) refl (sym (is_zero a h.first)) (sym (is_zero b h.last)); can_be_sent = tt }
says K.GetShift k d f r a b h = record { head_is = head_same _ 0 0 r 0 0 _ d f r a b refl (sym (is_zero d h.detail)) (sym (is_zero f h.flags)) refl (sym (is_zero a h.first)) (sym (is_zero b h.last)); can_be_sent = tt }
says K.Save k d f r a b h = record { head_is = plain_again K.Save d f r a b h.detail h.flags h.reference h.first h.last; can_be_sent = tt }
says K.Restore k d f r a b h = record { head_is = plain_again K.Restore d f r a b h.detail h.flags h.reference h.first h.last; can_be_sent = tt }
says K.Free k d f r a b h = record { head_is = plain_again K.Free d f r a b h.detail h.flags h.reference h.first h.last; can_be_sent = tt }
says K.Terminate k d f r a b h = record { head_is = plain_again K.Terminate d f r a b h.detail h.flags h.reference h.first h.last; can_be_sent = tt }
says K.FreeInstance k d f r a b h = record { head_is = plain_again K.FreeInstance d f r a b h.detail h.flags h.reference h.first h.last; can_be_sent = tt }
says K.Serialize k d f r a b h = record { head_is = plain_again K.Serialize d f r a b h.detail h.flags h.reference h.first h.last; can_be_sent = tt }
says K.Deserialize k d f r a b h = record { head_is = head_same _ 0 0 r a b _ d f r a b refl (sym (is_zero d h.detail)) (sym (is_zero f h.flags)) refl refl refl; can_be_sent = tt }

-- the text of a call is sent, where it has the length that the numbers tell
sent_is : (kind : Kind) (d r a b : ℕ) (len : ℕ) (text : List ℕ) → length text ≡ text_len kind len → sent (call_by kind d r a b) text ≡ text
sent_is K.Instantiate d r a b len text e = refl
sent_is K.EnterInitialization d r a b len text e = sym (nil_from_length text e)
sent_is K.ExitInitialization d r a b len text e = sym (nil_from_length text e)
sent_is K.EnterEvent d r a b len text e = sym (nil_from_length text e)
sent_is K.EnterStep d r a b len text e = sym (nil_from_length text e)
sent_is K.DoStep d r a b len text e = sym (nil_from_length text e)
sent_is K.Update d r a b len text e = sym (nil_from_length text e)
sent_is K.Get d r a b len text e = sym (nil_from_length text e)
sent_is K.Set d r a b len text e = sym (nil_from_length text e)
sent_is K.GetClock d r a b len text e = sym (nil_from_length text e)
sent_is K.SetClock d r a b len text e = sym (nil_from_length text e)
sent_is K.GetInterval d r a b len text e = sym (nil_from_length text e)
sent_is K.GetShift d r a b len text e = sym (nil_from_length text e)
sent_is K.Save d r a b len text e = sym (nil_from_length text e)
sent_is K.Restore d r a b len text e = sym (nil_from_length text e)
sent_is K.Free d r a b len text e = sym (nil_from_length text e)
sent_is K.Terminate d r a b len text e = sym (nil_from_length text e)
sent_is K.FreeInstance d r a b len text e = sym (nil_from_length text e)
sent_is K.Serialize d r a b len text e = sym (nil_from_length text e)
sent_is K.Deserialize d r a b len text e = sym (nil_from_length text e)

sent_text : (call : Call) (text : List ℕ) → IsUtf8 text → IsUtf8 (sent call text)
sent_text (C.Instantiate event_mode early_return batches) text h = h
sent_text (C.EnterInitialization start stop) text h = IsUtf8-nil
sent_text C.ExitInitialization text h = IsUtf8-nil
sent_text C.EnterEvent text h = IsUtf8-nil
sent_text C.EnterStep text h = IsUtf8-nil
sent_text (C.DoStep at size) text h = IsUtf8-nil
sent_text C.Update text h = IsUtf8-nil
sent_text (C.Get kind reference) text h = IsUtf8-nil
sent_text (C.Set kind reference value) text h = IsUtf8-nil
sent_text (C.GetClock reference) text h = IsUtf8-nil
sent_text (C.SetClock reference) text h = IsUtf8-nil
sent_text (C.GetInterval reference) text h = IsUtf8-nil
sent_text (C.GetShift reference) text h = IsUtf8-nil
sent_text C.Save text h = IsUtf8-nil
sent_text C.Restore text h = IsUtf8-nil
sent_text C.Free text h = IsUtf8-nil
sent_text C.Terminate text h = IsUtf8-nil
sent_text C.FreeInstance text h = IsUtf8-nil
sent_text C.Serialize text h = IsUtf8-nil
sent_text (C.Deserialize room point stop) text h = IsUtf8-nil

name_length : (call : Call) (name : List ℕ) → length (sent call name) ≡ text_len (kind_of call) (first_of call (length name))
name_length (C.Instantiate event_mode early_return batches) name = refl
name_length (C.EnterInitialization start stop) name = refl
name_length C.ExitInitialization name = refl
name_length C.EnterEvent name = refl
name_length C.EnterStep name = refl
name_length (C.DoStep at size) name = refl
name_length C.Update name = refl
name_length (C.Get kind reference) name = refl
name_length (C.Set kind reference value) name = refl
name_length (C.GetClock reference) name = refl
name_length (C.SetClock reference) name = refl
name_length (C.GetInterval reference) name = refl
name_length (C.GetShift reference) name = refl
name_length C.Save name = refl
name_length C.Restore name = refl
name_length C.Free name = refl
name_length C.Terminate name = refl
name_length C.FreeInstance name = refl
name_length C.Serialize name = refl
name_length (C.Deserialize room point stop) name = refl

token_length : (call : Call) (token : List ℕ) → length (sent call token) ≡ text_len (kind_of call) (last_of call (length token))
token_length (C.Instantiate event_mode early_return batches) token = refl
token_length (C.EnterInitialization start stop) token = refl
token_length C.ExitInitialization token = refl
token_length C.EnterEvent token = refl
token_length C.EnterStep token = refl
token_length (C.DoStep at size) token = refl
token_length C.Update token = refl
token_length (C.Get kind reference) token = refl
token_length (C.Set kind reference value) token = refl
token_length (C.GetClock reference) token = refl
token_length (C.SetClock reference) token = refl
token_length (C.GetInterval reference) token = refl
token_length (C.GetShift reference) token = refl
token_length C.Save token = refl
token_length C.Restore token = refl
token_length C.Free token = refl
token_length C.Terminate token = refl
token_length C.FreeInstance token = refl
token_length C.Serialize token = refl
token_length (C.Deserialize room point stop) token = refl

text_most : (kind : Kind) (k d f r a b : ℕ) → Allowed OfCall kind (head k d f r a b) → (text_len kind a ≤ text_max) × (text_len kind b ≤ text_max)
text_most K.Instantiate k d f r a b h = ((is_between 1 text_max a h.first).up_to, (is_between 0 text_max b h.last).up_to)
text_most K.EnterInitialization k d f r a b h = (omega arith, omega arith)
text_most K.ExitInitialization k d f r a b h = (omega arith, omega arith)
text_most K.EnterEvent k d f r a b h = (omega arith, omega arith)
text_most K.EnterStep k d f r a b h = (omega arith, omega arith)
text_most K.DoStep k d f r a b h = (omega arith, omega arith)
text_most K.Update k d f r a b h = (omega arith, omega arith)
text_most K.Get k d f r a b h = (omega arith, omega arith)
text_most K.Set k d f r a b h = (omega arith, omega arith)
text_most K.GetClock k d f r a b h = (omega arith, omega arith)
text_most K.SetClock k d f r a b h = (omega arith, omega arith)
text_most K.GetInterval k d f r a b h = (omega arith, omega arith)
text_most K.GetShift k d f r a b h = (omega arith, omega arith)
text_most K.Save k d f r a b h = (omega arith, omega arith)
text_most K.Restore k d f r a b h = (omega arith, omega arith)
text_most K.Free k d f r a b h = (omega arith, omega arith)
text_most K.Terminate k d f r a b h = (omega arith, omega arith)
text_most K.FreeInstance k d f r a b h = (omega arith, omega arith)
text_most K.Serialize k d f r a b h = (omega arith, omega arith)
text_most K.Deserialize k d f r a b h = (omega arith, omega arith)

pub call_numbers : (numbers bytes : List ℕ) → Reads OfCall 7 [] numbers bytes → IsCallNumbers numbers
call_numbers numbers bytes reads =
    let r = read_head OfCall numbers bytes reads in
    let h = r.head in
    let most = text_most (kind_at h.kind) h.kind h.detail h.flags h.reference h.first h.last r.is.allowed in
    rw r.all_is (record { reference = r.is.in_range.reference; name = most.0; token = most.1 })

-- ---- what is read is a frame

-- a frame with its texts
record Told (frame : CallFrame) (bytes : List ℕ) : Type 0 where
  name : List ℕ
  token : List ℕ
  is_frame : IsFrameOf frame.call name token bytes
  name_at : frame.name ≡ range 24 (24 + length (sent frame.call name))
  token_at : frame.token ≡ range (24 + length (sent frame.call name)) (24 + length (sent frame.call name) + length (sent frame.call token))

grouped : (a b c x y : List ℕ) → a ≡ b ++ x → x ≡ c ++ y → a ≡ b ++ (c ++ y)
grouped a b c x y e f = e ∙ ap (λ (t : List ℕ). b ++ t) f

frame_of_head : (h : Head) → IsHead OfCall h → (name token bytes : List ℕ) → length name ≡ name_len (numbers_of h) → length token ≡ token_len (numbers_of h) → IsUtf8 name → IsUtf8 token
    → bytes ≡ spelling h ++ (name ++ token) → Told (frame_at (numbers_of h)) bytes
frame_of_head h is name token bytes name_is token_is name_text token_text spelled =
    let kind = kind_at h.kind in
    let call = call_at (numbers_of h) in
    let s = says kind h.kind h.detail h.flags h.reference h.first h.last is.allowed in
    let number : head (facts_of kind).number h.detail h.flags h.reference h.first h.last ≡ h = ap (λ (k : ℕ). head k h.detail h.flags h.reference h.first h.last) (kind_again h.kind (kinds_in h.kind is.kind)) in
    let head_is : head_of_call call (length name) (length token) ≡ h = rw (name_is, token_is) (s.head_is ∙ number) in
    let sent_name : sent call name ≡ name = sent_is kind h.detail h.reference h.first h.last h.first name name_is in
    let sent_token : sent call token ≡ token = sent_is kind h.detail h.reference h.first h.last h.last token token_is in
    let name_len_is : length (sent call name) ≡ name_len (numbers_of h) = ap length sent_name ∙ name_is in
    let token_len_is : length (sent call token) ≡ token_len (numbers_of h) = ap length sent_token ∙ token_is in
    record {
      name = name;
      token = token;
      is_frame = record {
        can_be_sent = rw (name_is, token_is) s.can_be_sent;
        name_text = name_text;
        token_text = token_text;
        in_range = subst InRange (sym head_is) is.in_range;
        spelled = rw (head_is, sent_name, sent_token) spelled;
      };
      name_at = rw name_len_is refl;
      token_at = rw (name_len_is, token_len_is) refl;
    }

parts_frame : (frame : CallFrame) (bytes : List ℕ) → PartsOf frame bytes → Told frame bytes
parts_frame frame bytes p =
    let r = read_head OfCall p.number p.prefix p.is_first in
    let q = p.is_next in
    let last = q.is_next in
    let name_is : length q.prefix ≡ name_len (numbers_of r.head) = q.is_first.size_is ∙ ap name_len r.all_is in
    let token_is : length q.rest ≡ token_len (numbers_of r.head) = last.1.size_is ∙ ap token_len r.all_is in
    let spelled : bytes ≡ spelling r.head ++ (q.prefix ++ q.rest) = grouped bytes p.prefix q.prefix p.rest q.rest p.both q.both ∙ ap (λ (t : List ℕ). t ++ (q.prefix ++ q.rest)) r.spelled in
    let frame_is : frame ≡ frame_at (numbers_of r.head) = last.0 ∙ ap frame_at r.all_is in
    subst (λ (f : CallFrame). Told f bytes) (sym frame_is)
    (frame_of_head r.head r.is q.prefix q.rest bytes name_is token_is q.is_first.text last.1.text spelled)

frame_same : (call call' : Call) (name name' token token' : Range ℕ) → call ≡ call' → name ≡ name' → token ≡ token' → ◌≡◌ {A = CallFrame} (record { call = call; name = name; token = token }) (record { call = call'; name = name'; token = token' })
frame_same call call' name name' token token' e1 e2 e3 = rw (e1, e2, e3) refl

frame_parts : (frame : CallFrame) (bytes : List ℕ) → Told frame bytes → PartsOf frame bytes
frame_parts frame bytes f =
    let i = f.is_frame in
    let n = length f.name in
    let t = length f.token in
    let h = head_of_call frame.call n t in
    let kind_is : kind_at h.kind ≡ kind_of frame.call = heads.number_again (kind_of frame.call) in
    let name_is : length (sent frame.call f.name) ≡ name_len (numbers_of h) = name_length frame.call f.name ∙ ap (λ (k : Kind). text_len k h.first) (sym kind_is) in
    let token_is : length (sent frame.call f.token) ≡ token_len (numbers_of h) = token_length frame.call f.token ∙ ap (λ (k : Kind). text_len k h.last) (sym kind_is) in
    let call_is : frame.call ≡ call_at (numbers_of h) = sym (ap (λ (k : Kind). call_by k h.detail h.reference h.first h.last) kind_is ∙ call_again frame.call n t i.can_be_sent) in
    let name_at : frame.name ≡ range 24 (24 + name_len (numbers_of h)) = f.name_at ∙ ap (λ (x : ℕ). range 24 (24 + x)) name_is in
    let token_at : frame.token ≡ range (24 + name_len (numbers_of h)) (24 + name_len (numbers_of h) + token_len (numbers_of h)) = f.token_at ∙ rw (name_is, token_is) refl in
    record {
      number = numbers_of h;
      prefix = spelling h;
      rest = sent frame.call f.name ++ sent frame.call f.token;
      is_first = head_reads OfCall h (call_head frame.call n t i.can_be_sent i.in_range);
      is_next = record {
        number = tt;
        prefix = sent frame.call f.name;
        rest = sent frame.call f.token;
        is_first = record { size_is = name_is; text = sent_text frame.call f.name i.name_text };
        is_next = (frame_same _ _ _ _ _ _ call_is name_at token_at, record { size_is = token_is; text = sent_text frame.call f.token i.token_text });
        both = refl;
      };
      both = i.spelled;
    }

-- ---- the texts are the bytes at their places

first_part : (a x y : List ℕ) (n m : ℕ) → length a ≡ n → m ≡ n + length x → slice_range (a ++ (x ++ y)) n m ≡ x
first_part a x y n m at to =
    let size : m - n ≡ length x = omega (arith, to) in
    ap (λ (k : ℕ). take k (drop n (a ++ (x ++ y)))) size ∙ ap (λ (t : List ℕ). take (length x) t) (drop_at a (x ++ y) n at) ∙ take_at x y (length x) refl

second_part : (a x y : List ℕ) (n m : ℕ) → length (a ++ x) ≡ n → m ≡ n + length y → slice_range (a ++ (x ++ y)) n m ≡ y
second_part a x y n m at to =
    let group : a ++ (x ++ y) ≡ (a ++ x) ++ (y ++ []) = sym (append_assoc a x y) ∙ ap (λ (t : List ℕ). (a ++ x) ++ t) (sym (append-nil y)) in
    ap (λ (t : List ℕ). slice_range t n m) group ∙ first_part (a ++ x) y [] n m at to

-- with other calls than Instantiate any texts make the same frame
resent : (call : Call) (name token bytes : List ℕ) → IsFrameOf call name token bytes → IsFrameOf call (sent call name) (sent call token) bytes
resent (C.Instantiate event_mode early_return batches) name token bytes h = h
resent (C.EnterInitialization start stop) name token bytes h = record { can_be_sent = h.can_be_sent; name_text = IsUtf8-nil; token_text = IsUtf8-nil; in_range = h.in_range; spelled = h.spelled }
resent C.ExitInitialization name token bytes h = record { can_be_sent = h.can_be_sent; name_text = IsUtf8-nil; token_text = IsUtf8-nil; in_range = h.in_range; spelled = h.spelled }
resent C.EnterEvent name token bytes h = record { can_be_sent = h.can_be_sent; name_text = IsUtf8-nil; token_text = IsUtf8-nil; in_range = h.in_range; spelled = h.spelled }
resent C.EnterStep name token bytes h = record { can_be_sent = h.can_be_sent; name_text = IsUtf8-nil; token_text = IsUtf8-nil; in_range = h.in_range; spelled = h.spelled }
resent (C.DoStep at size) name token bytes h = record { can_be_sent = h.can_be_sent; name_text = IsUtf8-nil; token_text = IsUtf8-nil; in_range = h.in_range; spelled = h.spelled }
resent C.Update name token bytes h = record { can_be_sent = h.can_be_sent; name_text = IsUtf8-nil; token_text = IsUtf8-nil; in_range = h.in_range; spelled = h.spelled }
resent (C.Get kind reference) name token bytes h = record { can_be_sent = h.can_be_sent; name_text = IsUtf8-nil; token_text = IsUtf8-nil; in_range = h.in_range; spelled = h.spelled }
resent (C.Set kind reference value) name token bytes h = record { can_be_sent = h.can_be_sent; name_text = IsUtf8-nil; token_text = IsUtf8-nil; in_range = h.in_range; spelled = h.spelled }
resent (C.GetClock reference) name token bytes h = record { can_be_sent = h.can_be_sent; name_text = IsUtf8-nil; token_text = IsUtf8-nil; in_range = h.in_range; spelled = h.spelled }
resent (C.SetClock reference) name token bytes h = record { can_be_sent = h.can_be_sent; name_text = IsUtf8-nil; token_text = IsUtf8-nil; in_range = h.in_range; spelled = h.spelled }
resent (C.GetInterval reference) name token bytes h = record { can_be_sent = h.can_be_sent; name_text = IsUtf8-nil; token_text = IsUtf8-nil; in_range = h.in_range; spelled = h.spelled }
resent (C.GetShift reference) name token bytes h = record { can_be_sent = h.can_be_sent; name_text = IsUtf8-nil; token_text = IsUtf8-nil; in_range = h.in_range; spelled = h.spelled }
resent C.Save name token bytes h = record { can_be_sent = h.can_be_sent; name_text = IsUtf8-nil; token_text = IsUtf8-nil; in_range = h.in_range; spelled = h.spelled }
resent C.Restore name token bytes h = record { can_be_sent = h.can_be_sent; name_text = IsUtf8-nil; token_text = IsUtf8-nil; in_range = h.in_range; spelled = h.spelled }
resent C.Free name token bytes h = record { can_be_sent = h.can_be_sent; name_text = IsUtf8-nil; token_text = IsUtf8-nil; in_range = h.in_range; spelled = h.spelled }
resent C.Terminate name token bytes h = record { can_be_sent = h.can_be_sent; name_text = IsUtf8-nil; token_text = IsUtf8-nil; in_range = h.in_range; spelled = h.spelled }
resent C.FreeInstance name token bytes h = record { can_be_sent = h.can_be_sent; name_text = IsUtf8-nil; token_text = IsUtf8-nil; in_range = h.in_range; spelled = h.spelled }
resent C.Serialize name token bytes h = record { can_be_sent = h.can_be_sent; name_text = IsUtf8-nil; token_text = IsUtf8-nil; in_range = h.in_range; spelled = h.spelled }
resent (C.Deserialize room point stop) name token bytes h = record { can_be_sent = h.can_be_sent; name_text = IsUtf8-nil; token_text = IsUtf8-nil; in_range = h.in_range; spelled = h.spelled }

told_is : (frame : CallFrame) (bytes : List ℕ) → Told frame bytes → IsCallFrame frame bytes
told_is frame bytes t =
    let a = spelling (head_of_call frame.call (length t.name) (length t.token)) in
    let x = sent frame.call t.name in
    let y = sent frame.call t.token in
    let at : length a ≡ 24 = head_length (head_of_call frame.call (length t.name) (length t.token)) in
    let name_is : bytes_at frame.name bytes ≡ x =
    ap (λ (r : Range ℕ). bytes_at r bytes) t.name_at ∙ ap (λ (b : List ℕ). slice_range b 24 (24 + length x)) t.is_frame.spelled ∙ first_part a x y 24 (24 + length x) at refl in
    let token_is : bytes_at frame.token bytes ≡ y =
    ap (λ (r : Range ℕ). bytes_at r bytes) t.token_at ∙ ap (λ (b : List ℕ). slice_range b (24 + length x) (24 + length x + length y)) t.is_frame.spelled
    ∙ second_part a x y (24 + length x) (24 + length x + length y) (omega (arith, length-append a x, at)) refl in
    let end_is : frame.name.end ≡ 24 + length x = ap (λ (r : Range ℕ). r.end) t.name_at in
    record {
      is_frame = rw (name_is, token_is) (resent frame.call t.name t.token bytes t.is_frame);
      name_at = rw name_is t.name_at;
      token_at = rw (token_is, end_is) t.token_at;
    }

past : (bytes : List ℕ) (i j : ℕ) → length bytes ≡ 24 → 24 ≤ i → slice_range bytes i j ≡ []
past bytes i j len le = nil_from_length (slice_range bytes i j) (omega (arith, length-take (j - i) (drop i bytes), length-drop i bytes, len, le))

bare : (h : Head) (bytes : List ℕ) → bytes ≡ spelling h ++ ([] ++ []) → length bytes ≡ 24
bare h bytes e = ap length e ∙ omega (arith, length-append (spelling h) [], head_length h)

-- the bytes after the numbers are what is sent
part_sent : (call : Call) (name token bytes : List ℕ) (i j : ℕ) → IsFrameOf call name token bytes → 24 ≤ i → sent call (slice_range bytes i j) ≡ slice_range bytes i j
part_sent (C.Instantiate event_mode early_return batches) name token bytes i j h le = refl
part_sent (C.EnterInitialization start stop) name token bytes i j h le = sym (past bytes i j (bare (head_of_call (C.EnterInitialization start stop) (length name) (length token)) bytes h.spelled) le)
part_sent C.ExitInitialization name token bytes i j h le = sym (past bytes i j (bare (head_of_call C.ExitInitialization (length name) (length token)) bytes h.spelled) le)
part_sent C.EnterEvent name token bytes i j h le = sym (past bytes i j (bare (head_of_call C.EnterEvent (length name) (length token)) bytes h.spelled) le)
part_sent C.EnterStep name token bytes i j h le = sym (past bytes i j (bare (head_of_call C.EnterStep (length name) (length token)) bytes h.spelled) le)
part_sent (C.DoStep at size) name token bytes i j h le = sym (past bytes i j (bare (head_of_call (C.DoStep at size) (length name) (length token)) bytes h.spelled) le)
part_sent C.Update name token bytes i j h le = sym (past bytes i j (bare (head_of_call C.Update (length name) (length token)) bytes h.spelled) le)
part_sent (C.Get kind reference) name token bytes i j h le = sym (past bytes i j (bare (head_of_call (C.Get kind reference) (length name) (length token)) bytes h.spelled) le)
part_sent (C.Set kind reference value) name token bytes i j h le = sym (past bytes i j (bare (head_of_call (C.Set kind reference value) (length name) (length token)) bytes h.spelled) le)
part_sent (C.GetClock reference) name token bytes i j h le = sym (past bytes i j (bare (head_of_call (C.GetClock reference) (length name) (length token)) bytes h.spelled) le)
part_sent (C.SetClock reference) name token bytes i j h le = sym (past bytes i j (bare (head_of_call (C.SetClock reference) (length name) (length token)) bytes h.spelled) le)
part_sent (C.GetInterval reference) name token bytes i j h le = sym (past bytes i j (bare (head_of_call (C.GetInterval reference) (length name) (length token)) bytes h.spelled) le)
part_sent (C.GetShift reference) name token bytes i j h le = sym (past bytes i j (bare (head_of_call (C.GetShift reference) (length name) (length token)) bytes h.spelled) le)
part_sent C.Save name token bytes i j h le = sym (past bytes i j (bare (head_of_call C.Save (length name) (length token)) bytes h.spelled) le)
part_sent C.Restore name token bytes i j h le = sym (past bytes i j (bare (head_of_call C.Restore (length name) (length token)) bytes h.spelled) le)
part_sent C.Free name token bytes i j h le = sym (past bytes i j (bare (head_of_call C.Free (length name) (length token)) bytes h.spelled) le)
part_sent C.Terminate name token bytes i j h le = sym (past bytes i j (bare (head_of_call C.Terminate (length name) (length token)) bytes h.spelled) le)
part_sent C.FreeInstance name token bytes i j h le = sym (past bytes i j (bare (head_of_call C.FreeInstance (length name) (length token)) bytes h.spelled) le)
part_sent C.Serialize name token bytes i j h le = sym (past bytes i j (bare (head_of_call C.Serialize (length name) (length token)) bytes h.spelled) le)
part_sent (C.Deserialize room point stop) name token bytes i j h le = sym (past bytes i j (bare (head_of_call (C.Deserialize room point stop) (length name) (length token)) bytes h.spelled) le)

is_told : (frame : CallFrame) (bytes : List ℕ) → IsCallFrame frame bytes → Told frame bytes
is_told frame bytes f =
    let name = bytes_at frame.name bytes in
    let token = bytes_at frame.token bytes in
    let start : frame.name.start ≡ 24 = ap (λ (r : Range ℕ). r.start) f.name_at in
    let end : frame.name.end ≡ 24 + length name = ap (λ (r : Range ℕ). r.end) f.name_at in
    let from : frame.token.start ≡ frame.name.end = ap (λ (r : Range ℕ). r.start) f.token_at in
    let name_is : length (sent frame.call name) ≡ length name = ap length (part_sent frame.call name token bytes frame.name.start frame.name.end f.is_frame (omega (arith, start))) in
    let token_is : length (sent frame.call token) ≡ length token = ap length (part_sent frame.call name token bytes frame.token.start frame.token.end f.is_frame (omega (arith, from, end))) in
    let name_at : frame.name ≡ range 24 (24 + length (sent frame.call name)) = f.name_at ∙ ap (λ (n : ℕ). range 24 (24 + n)) (sym name_is) in
    let token_at : frame.token ≡ range (24 + length (sent frame.call name)) (24 + length (sent frame.call name) + length (sent frame.call token)) =
    f.token_at ∙ ap (λ (e : ℕ). range e (e + length token)) (end ∙ ap (λ (n : ℕ). 24 + n) (sym name_is)) ∙ ap (λ (n : ℕ). range (24 + length (sent frame.call name)) (24 + length (sent frame.call name) + n)) (sym token_is) in
    record { name = name; token = token; is_frame = f.is_frame; name_at = name_at; token_at = token_at }

abbrev pub the_frame : CallFrame → CallFrame
the_frame frame = frame

pub call_same : Same PartsOf the_frame IsCallFrame
call_same = record {
  to = λ frame bytes parts. told_is frame bytes (parts_frame frame bytes parts);
  from = λ frame bytes is. record { value = frame; is = refl; spelled = frame_parts frame bytes (is_told frame bytes is) };
}

-- ---- the parts

token_single : (numbers : List ℕ) → AreSingle (TokenOf numbers)
token_single numbers v w xs more p q = (p.0 ∙ sym q.0, (text_single (token_len numbers) tt tt xs more p.1 q.1).1)

texts_single : (numbers : List ℕ) → AreSingle (TextsOf numbers)
texts_single numbers = after_single (IsText (name_len numbers)) (λ (name : Unit {0}). TokenOf numbers) (text_single (name_len numbers)) (λ name. token_single numbers)

pub call_single : AreSingle IsCallFrame
call_single = made_single PartsOf the_frame IsCallFrame call_same (after_single (Reads OfCall 7 []) TextsOf (reads_single OfCall 7 []) texts_single)

pub token_followed : (numbers : List ℕ) → Followed {N = Unit {0}} {V = CallFrame} (λ (name : Unit {0}). TokenOf numbers)
token_followed numbers =
    let text = fill_is_text (token_len numbers) in
    record { value = λ name. frame_at numbers; bytes = λ name. _; spelled = λ name. (refl, text) }

pub texts_followed : Followed TextsOf
texts_followed = record {
  value = frame_at;
  bytes = λ numbers. _;
  spelled = λ numbers. record { number = tt; prefix = _; rest = _; is_first = fill_is_text (name_len numbers); is_next = (refl, fill_is_text (token_len numbers)); both = refl };
}

-- ---- what is put is taken

pub frame_taken : (call : Call) (name token bytes : List ℕ) → IsFrameOf call name token bytes → IsCallFrame (frame_with call name token) bytes
frame_taken call name token bytes h = told_is (frame_with call name token) bytes (record { name = name; token = token; is_frame = h; name_at = refl; token_at = refl })

pub frame_length : (call : Call) (name token bytes : List ℕ) → IsFrameOf call name token bytes → length bytes ≡ 24 + length (sent call name) + length (sent call token)
frame_length call name token bytes h =
    let head_bytes = head_of_call call (length name) (length token) in
    omega (arith, ap length h.spelled, length-append (spelling head_bytes) (sent call name ++ sent call token), length-append (sent call name) (sent call token), head_length head_bytes)
