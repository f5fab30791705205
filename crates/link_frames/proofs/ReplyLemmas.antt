-- Replies and their frames.
use Rattle.std.proofs.Common.{◌≡◌, ℕ, zero, suc, ◌+◌, ◌/◌, ◌%◌, ◌<◌, ◌≤◌, ◌^◌, Bool, true, false, eqb, inl, inr, List, [], Some, None, refl, sym, ap, subst, ◌∙◌, arith}
use Rattle.std.specs.Prelude.{◌⊎◌, slice_index}
use Rattle.fmi_calls.specs.KindFacts.{facts_of}
use Rattle.fmi_calls.specs.Kinds.{kind_of_content, kind_of_reply}
use Rattle.fmi_calls.specs.declared.call.BadStatus.{BadStatus}
use Rattle.fmi_calls.specs.declared.call.BadStatus.TheVariants as B
use Rattle.fmi_calls.specs.declared.call.Content.{Content}
use Rattle.fmi_calls.specs.declared.call.Content.TheVariants as A
use Rattle.fmi_calls.specs.declared.call.Interval.TheVariants.{NotYetKnown, Unchanged, Changed}
use Rattle.fmi_calls.specs.declared.call.Kind.{Kind}
use Rattle.fmi_calls.specs.declared.call.Kind.TheVariants as K
use Rattle.fmi_calls.specs.declared.call.Reply.{Reply}
use Rattle.fmi_calls.specs.declared.call.Reply.TheVariants.{Done, Refused}
use Rattle.link_frames.specs.declared.head.Head.{Head}
use Rattle.link_frames.specs.declared.layout.Form.TheVariants.{OfReply}
use Rattle.exact_parts.specs.Field.{InSpans}
use Rattle.link_frames.specs.Head.{InRange, flag, head, numbers_of, spelling}
use Rattle.link_frames.specs.Layout.{between, done_row, kind_at, state_max}
use Rattle.link_frames.specs.Numbers.{Reads}
use Rattle.link_frames.specs.Reply.{CanBeTold, IsReplyFrame, bad_number, content_at, first_of, flags_of, head_of_content, head_of_reply, last_of, qualifier_of, reply_at, reply_by}
use Rattle.exact_parts.specs.Taking.{AreSingle}
use Rattle.link_frames.proofs.HeadLemmas.{Allowed, IsHead, head_reads, head_same, in_any, in_between, in_kinds, in_zero, is_between, is_zero, kind_again, kind_small, kinds_in, number_again, number_in, read_head}
use Rattle.exact_parts.proofs.CallerLemmas.{Same, made_single}
use Rattle.link_frames.proofs.NumbersLemmas.{reads_single}

-- ---- a reply is that of its numbers

content_again : (content : Content) → content_at (kind_of_content content) (flags_of content) (qualifier_of content) (first_of content) (last_of content) ≡ content
content_again (A.Instantiate true) = refl
content_again (A.Instantiate false) = refl
content_again A.EnterInitialization = refl
content_again A.ExitInitialization = refl
content_again A.EnterEvent = refl
content_again A.EnterStep = refl
content_again (A.DoStep true true true end) = refl
content_again (A.DoStep true true false end) = refl
content_again (A.DoStep true false true end) = refl
content_again (A.DoStep true false false end) = refl
content_again (A.DoStep false true true end) = refl
content_again (A.DoStep false true false end) = refl
content_again (A.DoStep false false true end) = refl
content_again (A.DoStep false false false end) = refl
content_again (A.Update true true (Some time)) = refl
content_again (A.Update true true None) = refl
content_again (A.Update true false (Some time)) = refl
content_again (A.Update true false None) = refl
content_again (A.Update false true (Some time)) = refl
content_again (A.Update false true None) = refl
content_again (A.Update false false (Some time)) = refl
content_again (A.Update false false None) = refl
content_again (A.Get word) = refl
content_again A.Set = refl
content_again (A.GetClock word) = refl
content_again A.SetClock = refl
content_again (A.GetInterval NotYetKnown) = refl
content_again (A.GetInterval (Unchanged fraction)) = refl
content_again (A.GetInterval (Changed fraction)) = refl
content_again (A.GetShift shift) = refl
content_again A.Save = refl
content_again A.Restore = refl
content_again A.Free = refl
content_again A.Terminate = refl
content_again A.FreeInstance = refl
content_again (A.Serialize room) = refl
content_again A.Deserialize = refl

done_again : (is_warning : Bool) (content : Content) → reply_by (kind_of_content content) (flag is_warning 1) (flags_of content) (qualifier_of content) (first_of content) (last_of content) ≡ Done is_warning content
done_again true content = ap (λ (c : Content). Done true c) (content_again content)
done_again false content = ap (λ (c : Content). Done false c) (content_again content)

refused_again : (kind : Kind) (status : BadStatus) → reply_by kind (bad_number status) 0 0 0 0 ≡ Refused kind status
refused_again kind B.Discard = refl
refused_again kind B.Error = refl
refused_again kind B.Fatal = refl

reply_again : (reply : Reply) → reply_at (numbers_of (head_of_reply reply)) ≡ reply
reply_again (Done is_warning content) =
    ap (λ (kind : Kind). reply_by kind (flag is_warning 1) (flags_of content) (qualifier_of content) (first_of content) (last_of content)) (number_again (kind_of_content content)) ∙ done_again is_warning content
reply_again (Refused kind status) = ap (λ (k : Kind). reply_by k (bad_number status) 0 0 0 0) (number_again kind) ∙ refused_again kind status

-- ---- the numbers of a reply lie in their spans

record Holds (kind : Kind) (f q a b : ℕ) : Type 0 where
  flags : InSpans (done_row kind 0 0).flags f
  reference : InSpans (done_row kind f 0).reference q
  first : InSpans (done_row kind f q).first a
  last : InSpans (done_row kind f q).last b

flags_in : (a b c : Bool) → InSpans (between 0 7) (flag a 1 + flag b 2 + flag c 4)
flags_in true true true = in_between 0 7 _ (omega arith) (omega arith)
flags_in true true false = in_between 0 7 _ (omega arith) (omega arith)
flags_in true false true = in_between 0 7 _ (omega arith) (omega arith)
flags_in true false false = in_between 0 7 _ (omega arith) (omega arith)
flags_in false true true = in_between 0 7 _ (omega arith) (omega arith)
flags_in false true false = in_between 0 7 _ (omega arith) (omega arith)
flags_in false false true = in_between 0 7 _ (omega arith) (omega arith)
flags_in false false false = in_between 0 7 _ (omega arith) (omega arith)

content_holds : (content : Content) (w : Bool) → CanBeTold (Done w content) → first_of content < 2 ^ 64 → last_of content < 2 ^ 64 → Holds (kind_of_content content) (flags_of content) (qualifier_of content) (first_of content) (last_of content)
content_holds (A.Instantiate true) w told first last = record { flags = in_between 0 1 1 (omega arith) (omega arith); reference = in_zero; first = in_zero; last = in_zero }
content_holds (A.Instantiate false) w told first last = record { flags = in_between 0 1 0 (omega arith) (omega arith); reference = in_zero; first = in_zero; last = in_zero }
content_holds A.EnterInitialization w told first last = record { flags = in_zero; reference = in_zero; first = in_zero; last = in_zero }
content_holds A.ExitInitialization w told first last = record { flags = in_zero; reference = in_zero; first = in_zero; last = in_zero }
content_holds A.EnterEvent w told first last = record { flags = in_zero; reference = in_zero; first = in_zero; last = in_zero }
content_holds A.EnterStep w told first last = record { flags = in_zero; reference = in_zero; first = in_zero; last = in_zero }
content_holds (A.DoStep a b c end) w told first last = record { flags = flags_in a b c; reference = in_zero; first = in_any end first; last = in_zero }
content_holds (A.Update true true (Some time)) w told first last = record { flags = flags_in true true true; reference = in_zero; first = in_any time first; last = in_zero }
content_holds (A.Update true true None) w told first last = record { flags = flags_in true true false; reference = in_zero; first = in_zero; last = in_zero }
content_holds (A.Update true false (Some time)) w told first last = record { flags = flags_in true false true; reference = in_zero; first = in_any time first; last = in_zero }
content_holds (A.Update true false None) w told first last = record { flags = flags_in true false false; reference = in_zero; first = in_zero; last = in_zero }
content_holds (A.Update false true (Some time)) w told first last = record { flags = flags_in false true true; reference = in_zero; first = in_any time first; last = in_zero }
content_holds (A.Update false true None) w told first last = record { flags = flags_in false true false; reference = in_zero; first = in_zero; last = in_zero }
content_holds (A.Update false false (Some time)) w told first last = record { flags = flags_in false false true; reference = in_zero; first = in_any time first; last = in_zero }
content_holds (A.Update false false None) w told first last = record { flags = flags_in false false false; reference = in_zero; first = in_zero; last = in_zero }
content_holds (A.Get word) w told first last = record { flags = in_zero; reference = in_zero; first = in_any word first; last = in_zero }
content_holds A.Set w told first last = record { flags = in_zero; reference = in_zero; first = in_zero; last = in_zero }
content_holds (A.GetClock word) w told first last = record { flags = in_zero; reference = in_zero; first = in_any word first; last = in_zero }
content_holds A.SetClock w told first last = record { flags = in_zero; reference = in_zero; first = in_zero; last = in_zero }
content_holds (A.GetInterval NotYetKnown) w told first last = record { flags = in_zero; reference = in_between 0 2 0 (omega arith) (omega arith); first = in_zero; last = in_zero }
content_holds (A.GetInterval (Unchanged fraction)) w told first last = record { flags = in_zero; reference = in_between 0 2 1 (omega arith) (omega arith); first = in_any fraction.counter first; last = in_any fraction.resolution last }
content_holds (A.GetInterval (Changed fraction)) w told first last = record { flags = in_zero; reference = in_between 0 2 2 (omega arith) (omega arith); first = in_any fraction.counter first; last = in_any fraction.resolution last }
content_holds (A.GetShift shift) w told first last = record { flags = in_zero; reference = in_zero; first = in_any shift.counter first; last = in_any shift.resolution last }
content_holds A.Save w told first last = record { flags = in_zero; reference = in_zero; first = in_zero; last = in_zero }
content_holds A.Restore w told first last = record { flags = in_zero; reference = in_zero; first = in_zero; last = in_zero }
content_holds A.Free w told first last = record { flags = in_zero; reference = in_zero; first = in_zero; last = in_zero }
content_holds A.Terminate w told first last = record { flags = in_zero; reference = in_zero; first = in_zero; last = in_zero }
content_holds A.FreeInstance w told first last = record { flags = in_zero; reference = in_zero; first = in_zero; last = in_zero }
content_holds (A.Serialize room) w told first last = record { flags = in_zero; reference = in_between 0 state_max room (omega arith) told; first = in_zero; last = in_zero }
content_holds A.Deserialize w told first last = record { flags = in_zero; reference = in_zero; first = in_zero; last = in_zero }

status_in : (kind : Kind) (status : ℕ) → status ≤ 4 → InSpans (done_row kind 0 0).detail status
status_in K.Instantiate status le = in_between 0 4 status (omega arith) le
status_in K.EnterInitialization status le = in_between 0 4 status (omega arith) le
status_in K.ExitInitialization status le = in_between 0 4 status (omega arith) le
status_in K.EnterEvent status le = in_between 0 4 status (omega arith) le
status_in K.EnterStep status le = in_between 0 4 status (omega arith) le
status_in K.DoStep status le = in_between 0 4 status (omega arith) le
status_in K.Update status le = in_between 0 4 status (omega arith) le
status_in K.Get status le = in_between 0 4 status (omega arith) le
status_in K.Set status le = in_between 0 4 status (omega arith) le
status_in K.GetClock status le = in_between 0 4 status (omega arith) le
status_in K.SetClock status le = in_between 0 4 status (omega arith) le
status_in K.GetInterval status le = in_between 0 4 status (omega arith) le
status_in K.GetShift status le = in_between 0 4 status (omega arith) le
status_in K.Save status le = in_between 0 4 status (omega arith) le
status_in K.Restore status le = in_between 0 4 status (omega arith) le
status_in K.Free status le = in_between 0 4 status (omega arith) le
status_in K.Terminate status le = in_between 0 4 status (omega arith) le
status_in K.FreeInstance status le = in_between 0 4 status (omega arith) le
status_in K.Serialize status le = in_between 0 4 status (omega arith) le
status_in K.Deserialize status le = in_between 0 4 status (omega arith) le

status_most : (kind : Kind) (status : ℕ) → InSpans (done_row kind 0 0).detail status → status ≤ 4
status_most K.Instantiate status h = (is_between 0 4 status h).up_to
status_most K.EnterInitialization status h = (is_between 0 4 status h).up_to
status_most K.ExitInitialization status h = (is_between 0 4 status h).up_to
status_most K.EnterEvent status h = (is_between 0 4 status h).up_to
status_most K.EnterStep status h = (is_between 0 4 status h).up_to
status_most K.DoStep status h = (is_between 0 4 status h).up_to
status_most K.Update status h = (is_between 0 4 status h).up_to
status_most K.Get status h = (is_between 0 4 status h).up_to
status_most K.Set status h = (is_between 0 4 status h).up_to
status_most K.GetClock status h = (is_between 0 4 status h).up_to
status_most K.SetClock status h = (is_between 0 4 status h).up_to
status_most K.GetInterval status h = (is_between 0 4 status h).up_to
status_most K.GetShift status h = (is_between 0 4 status h).up_to
status_most K.Save status h = (is_between 0 4 status h).up_to
status_most K.Restore status h = (is_between 0 4 status h).up_to
status_most K.Free status h = (is_between 0 4 status h).up_to
status_most K.Terminate status h = (is_between 0 4 status h).up_to
status_most K.FreeInstance status h = (is_between 0 4 status h).up_to
status_most K.Serialize status h = (is_between 0 4 status h).up_to
status_most K.Deserialize status h = (is_between 0 4 status h).up_to

done_allowed : (w : Bool) (kind : Kind) (f q a b : ℕ) → Holds kind f q a b → Allowed OfReply kind (head (facts_of kind).number (flag w 1) f q a b)
done_allowed true kind f q a b h = record { detail = status_in kind 1 (omega arith); flags = h.flags; reference = h.reference; first = h.first; last = h.last }
done_allowed false kind f q a b h = record { detail = status_in kind 0 (omega arith); flags = h.flags; reference = h.reference; first = h.first; last = h.last }

refused_allowed : (kind : Kind) (status : BadStatus) → Allowed OfReply kind (head (facts_of kind).number (bad_number status) 0 0 0 0)
refused_allowed kind B.Discard = record { detail = status_in kind 2 (omega arith); flags = in_zero; reference = in_zero; first = in_zero; last = in_zero }
refused_allowed kind B.Error = record { detail = status_in kind 3 (omega arith); flags = in_zero; reference = in_zero; first = in_zero; last = in_zero }
refused_allowed kind B.Fatal = record { detail = status_in kind 4 (omega arith); flags = in_zero; reference = in_zero; first = in_zero; last = in_zero }

at_number : (kind : Kind) (h : Head) → h.kind ≡ (facts_of kind).number → Allowed OfReply kind h → Allowed OfReply (kind_at h.kind) h
at_number kind h is allowed = subst (λ (k : Kind). Allowed OfReply k h) (sym (ap kind_at is ∙ number_again kind)) allowed

flag_small : (w : Bool) → flag w 1 < 256
flag_small true = omega arith
flag_small false = omega arith

bad_small : (status : BadStatus) → bad_number status < 256
bad_small B.Discard = omega arith
bad_small B.Error = omega arith
bad_small B.Fatal = omega arith

flags_small : (content : Content) → flags_of content < 256
flags_small (A.Instantiate true) = omega arith
flags_small (A.Instantiate false) = omega arith
flags_small A.EnterInitialization = omega arith
flags_small A.ExitInitialization = omega arith
flags_small A.EnterEvent = omega arith
flags_small A.EnterStep = omega arith
flags_small (A.DoStep a b c end) = omega (arith, (is_between 0 7 _ (flags_in a b c)).up_to)
flags_small (A.Update a b (Some time)) = omega (arith, (is_between 0 7 _ (flags_in a b true)).up_to)
flags_small (A.Update a b None) = omega (arith, (is_between 0 7 _ (flags_in a b false)).up_to)
flags_small (A.Get word) = omega arith
flags_small A.Set = omega arith
flags_small (A.GetClock word) = omega arith
flags_small A.SetClock = omega arith
flags_small (A.GetInterval interval) = omega arith
flags_small (A.GetShift shift) = omega arith
flags_small A.Save = omega arith
flags_small A.Restore = omega arith
flags_small A.Free = omega arith
flags_small A.Terminate = omega arith
flags_small A.FreeInstance = omega arith
flags_small (A.Serialize room) = omega arith
flags_small A.Deserialize = omega arith

reply_head : (reply : Reply) → CanBeTold reply → InRange (head_of_reply reply) → IsHead OfReply (head_of_reply reply)
reply_head (Done w content) told r =
    let kind = kind_of_content content in
    record {
      kind = in_kinds _ (number_in kind);
      small = kind_small kind;
      detail = flag_small w;
      flags = flags_small content;
      in_range = r;
      allowed = at_number kind (head_of_reply (Done w content)) refl (done_allowed w kind _ _ _ _ (content_holds content w told r.first r.last));
    }
reply_head (Refused kind status) told r = record {
  kind = in_kinds _ (number_in kind);
  small = kind_small kind;
  detail = bad_small status;
  flags = omega arith;
  in_range = r;
  allowed = at_number kind (head_of_reply (Refused kind status)) refl (refused_allowed kind status);
}

-- ---- numbers in their spans are those of their reply

plain_again : (kind : Kind) (status f q a b : ℕ) → InSpans (between 0 0) f → InSpans (between 0 0) q → InSpans (between 0 0) a → InSpans (between 0 0) b → head (facts_of kind).number status 0 0 0 0 ≡ head (facts_of kind).number status f q a b
plain_again kind status f q a b hf hq ha hb = head_same _ _ _ _ _ _ _ _ _ _ _ _ refl refl (sym (is_zero f hf)) (sym (is_zero q hq)) (sym (is_zero a ha)) (sym (is_zero b hb))

bits_again : (f : ℕ) → f ≤ 7 → flag (eqb (f % 2) 1) 1 + flag (eqb (f / 2 % 2) 1) 2 + flag (eqb (f / 4) 1) 4 ≡ f
bits_again zero h = refl
bits_again (suc zero) h = refl
bits_again (suc (suc zero)) h = refl
bits_again (suc (suc (suc zero))) h = refl
bits_again (suc (suc (suc (suc zero)))) h = refl
bits_again (suc (suc (suc (suc (suc zero))))) h = refl
bits_again (suc (suc (suc (suc (suc (suc zero)))))) h = refl
bits_again (suc (suc (suc (suc (suc (suc (suc zero))))))) h = refl
bits_again (suc (suc (suc (suc (suc (suc (suc (suc f)))))))) h = absurd (omega arith)

update_again : (s f q a b : ℕ) → Holds K.Update f q a b → head_of_content s (content_at K.Update f q a b) ≡ head 7 s f q a b
update_again s zero q a b h = head_same _ _ 0 0 0 0 _ _ 0 q a b refl refl refl (sym (is_zero q h.reference)) (sym (is_zero a h.first)) (sym (is_zero b h.last))
update_again s (suc zero) q a b h = head_same _ _ 1 0 0 0 _ _ 1 q a b refl refl refl (sym (is_zero q h.reference)) (sym (is_zero a h.first)) (sym (is_zero b h.last))
update_again s (suc (suc zero)) q a b h = head_same _ _ 2 0 0 0 _ _ 2 q a b refl refl refl (sym (is_zero q h.reference)) (sym (is_zero a h.first)) (sym (is_zero b h.last))
update_again s (suc (suc (suc zero))) q a b h = head_same _ _ 3 0 0 0 _ _ 3 q a b refl refl refl (sym (is_zero q h.reference)) (sym (is_zero a h.first)) (sym (is_zero b h.last))
update_again s (suc (suc (suc (suc zero)))) q a b h = head_same _ _ 4 0 a 0 _ _ 4 q a b refl refl refl (sym (is_zero q h.reference)) refl (sym (is_zero b h.last))
update_again s (suc (suc (suc (suc (suc zero))))) q a b h = head_same _ _ 5 0 a 0 _ _ 5 q a b refl refl refl (sym (is_zero q h.reference)) refl (sym (is_zero b h.last))
update_again s (suc (suc (suc (suc (suc (suc zero)))))) q a b h = head_same _ _ 6 0 a 0 _ _ 6 q a b refl refl refl (sym (is_zero q h.reference)) refl (sym (is_zero b h.last))
update_again s (suc (suc (suc (suc (suc (suc (suc zero))))))) q a b h = head_same _ _ 7 0 a 0 _ _ 7 q a b refl refl refl (sym (is_zero q h.reference)) refl (sym (is_zero b h.last))
update_again s (suc (suc (suc (suc (suc (suc (suc (suc f)))))))) q a b h = absurd (omega (arith, (is_between 0 7 _ h.flags).up_to))

interval_again : (s f q a b : ℕ) → Holds K.GetInterval f q a b → head_of_content s (content_at K.GetInterval f q a b) ≡ head 12 s f q a b
interval_again s f zero a b h = head_same _ _ 0 0 0 0 _ _ f 0 a b refl refl (sym (is_zero f h.flags)) refl (sym (is_zero a h.first)) (sym (is_zero b h.last))
interval_again s f (suc zero) a b h = head_same _ _ 0 1 a b _ _ f 1 a b refl refl (sym (is_zero f h.flags)) refl refl refl
interval_again s f (suc (suc zero)) a b h = head_same _ _ 0 2 a b _ _ f 2 a b refl refl (sym (is_zero f h.flags)) refl refl refl
interval_again s f (suc (suc (suc q))) a b h = absurd (omega (arith, (is_between 0 2 _ h.reference).up_to))

agreed_again : (s f q a b : ℕ) → Holds K.Instantiate f q a b → head_of_content s (content_at K.Instantiate f q a b) ≡ head 1 s f q a b
agreed_again s zero q a b h = head_same _ _ 0 0 0 0 _ _ 0 q a b refl refl refl (sym (is_zero q h.reference)) (sym (is_zero a h.first)) (sym (is_zero b h.last))
agreed_again s (suc zero) q a b h = head_same _ _ 1 0 0 0 _ _ 1 q a b refl refl refl (sym (is_zero q h.reference)) (sym (is_zero a h.first)) (sym (is_zero b h.last))
agreed_again s (suc (suc f)) q a b h = absurd (omega (arith, (is_between 0 1 _ h.flags).up_to))

content_head : (kind : Kind) (s f q a b : ℕ) → Holds kind f q a b → head_of_content s (content_at kind f q a b) ≡ head (facts_of kind).number s f q a b
content_head K.Instantiate s f q a b h = agreed_again s f q a b h
content_head K.EnterInitialization s f q a b h = plain_again K.EnterInitialization s f q a b h.flags h.reference h.first h.last
content_head K.ExitInitialization s f q a b h = plain_again K.ExitInitialization s f q a b h.flags h.reference h.first h.last
content_head K.EnterEvent s f q a b h = plain_again K.EnterEvent s f q a b h.flags h.reference h.first h.last
content_head K.EnterStep s f q a b h = plain_again K.EnterStep s f q a b h.flags h.reference h.first h.last
content_head K.DoStep s f q a b h = head_same _ _ _ 0 a 0 _ _ f q a b refl refl (bits_again f (is_between 0 7 _ h.flags).up_to) (sym (is_zero q h.reference)) refl (sym (is_zero b h.last))
content_head K.Update s f q a b h = update_again s f q a b h
content_head K.Get s f q a b h = head_same _ _ 0 0 a 0 _ _ f q a b refl refl (sym (is_zero f h.flags)) (sym (is_zero q h.reference)) refl (sym (is_zero b h.last))
content_head K.Set s f q a b h = plain_again K.Set s f q a b h.flags h.reference h.first h.last
content_head K.GetClock s f q a b h = head_same _ _ 0 0 a 0 _ _ f q a b refl refl (sym (is_zero f h.flags)) (sym (is_zero q h.reference)) refl (sym (is_zero b h.last))
content_head K.SetClock s f q a b h = plain_again K.SetClock s f q a b h.flags h.reference h.first h.last
content_head K.GetInterval s f q a b h = interval_again s f q a b h
content_head K.GetShift s f q a b h = head_same _ _ 0 0 a b _ _ f q a b refl refl (sym (is_zero f h.flags)) (sym (is_zero q h.reference)) refl refl
content_head K.Save s f q a b h = plain_again K.Save s f q a b h.flags h.reference h.first h.last
content_head K.Restore s f q a b h = plain_again K.Restore s f q a b h.flags h.reference h.first h.last
content_head K.Free s f q a b h = plain_again K.Free s f q a b h.flags h.reference h.first h.last
content_head K.Terminate s f q a b h = plain_again K.Terminate s f q a b h.flags h.reference h.first h.last
content_head K.FreeInstance s f q a b h = plain_again K.FreeInstance s f q a b h.flags h.reference h.first h.last
content_head K.Serialize s f q a b h = head_same _ _ 0 q 0 0 _ _ f q a b refl refl (sym (is_zero f h.flags)) refl (sym (is_zero a h.first)) (sym (is_zero b h.last))
content_head K.Deserialize s f q a b h = plain_again K.Deserialize s f q a b h.flags h.reference h.first h.last

by_again : (kind : Kind) (k s f q a b : ℕ) → Allowed OfReply kind (head k s f q a b) → head_of_reply (reply_by kind s f q a b) ≡ head (facts_of kind).number s f q a b
by_again kind k zero f q a b h = content_head kind 0 f q a b (record { flags = h.flags; reference = h.reference; first = h.first; last = h.last })
by_again kind k (suc zero) f q a b h = content_head kind 1 f q a b (record { flags = h.flags; reference = h.reference; first = h.first; last = h.last })
by_again kind k (suc (suc zero)) f q a b h = plain_again kind 2 f q a b h.flags h.reference h.first h.last
by_again kind k (suc (suc (suc zero))) f q a b h = plain_again kind 3 f q a b h.flags h.reference h.first h.last
by_again kind k (suc (suc (suc (suc zero)))) f q a b h = plain_again kind 4 f q a b h.flags h.reference h.first h.last
by_again kind k (suc (suc (suc (suc (suc s))))) f q a b h = absurd (omega (arith, status_most kind _ h.detail))

head_again : (h : Head) → IsHead OfReply h → head_of_reply (reply_at (numbers_of h)) ≡ h
head_again h is =
    by_again (kind_at h.kind) h.kind h.detail h.flags h.reference h.first h.last is.allowed
    ∙ ap (λ (k : ℕ). head k h.detail h.flags h.reference h.first h.last) (kind_again h.kind (kinds_in h.kind is.kind))

-- ---- what is read is a frame

-- a length that is read is one that can be told
content_told : (kind : Kind) (w : Bool) (f q a b : ℕ) → InSpans (done_row kind f 0).reference q → CanBeTold (Done w (content_at kind f q a b))
content_told K.Serialize w f q a b h = (is_between 0 state_max q h).up_to
content_told K.Instantiate w f q a b h = tt
content_told K.EnterInitialization w f q a b h = tt
content_told K.ExitInitialization w f q a b h = tt
content_told K.EnterEvent w f q a b h = tt
content_told K.EnterStep w f q a b h = tt
content_told K.DoStep w f q a b h = tt
content_told K.Update w f q a b h = tt
content_told K.Get w f q a b h = tt
content_told K.Set w f q a b h = tt
content_told K.GetClock w f q a b h = tt
content_told K.SetClock w f q a b h = tt
content_told K.GetInterval w f q a b h = tt
content_told K.GetShift w f q a b h = tt
content_told K.Save w f q a b h = tt
content_told K.Restore w f q a b h = tt
content_told K.Free w f q a b h = tt
content_told K.Terminate w f q a b h = tt
content_told K.FreeInstance w f q a b h = tt
content_told K.Deserialize w f q a b h = tt

by_told : (kind : Kind) (k s f q a b : ℕ) → Allowed OfReply kind (head k s f q a b) → CanBeTold (reply_by kind s f q a b)
by_told kind k zero f q a b h = content_told kind false f q a b h.reference
by_told kind k (suc zero) f q a b h = content_told kind true f q a b h.reference
by_told kind k (suc (suc zero)) f q a b h = tt
by_told kind k (suc (suc (suc zero))) f q a b h = tt
by_told kind k (suc (suc (suc (suc zero)))) f q a b h = tt
by_told kind k (suc (suc (suc (suc (suc s))))) f q a b h = absurd (omega (arith, status_most kind _ h.detail))

head_told : (h : Head) → IsHead OfReply h → CanBeTold (reply_at (numbers_of h))
head_told h is = by_told (kind_at h.kind) h.kind h.detail h.flags h.reference h.first h.last is.allowed

reply_frame : (numbers bytes : List ℕ) → Reads OfReply 7 [] numbers bytes → IsReplyFrame (reply_at numbers) bytes
reply_frame numbers bytes reads =
    let r = read_head OfReply numbers bytes reads in
    let is : head_of_reply (reply_at numbers) ≡ r.head = ap (λ (ns : List ℕ). head_of_reply (reply_at ns)) r.all_is ∙ head_again r.head r.is in
    record {
      can_be_told = subst (λ (ns : List ℕ). CanBeTold (reply_at ns)) (sym r.all_is) (head_told r.head r.is);
      in_range = subst InRange (sym is) r.is.in_range;
      spelled = r.spelled ∙ ap spelling (sym is);
    }

-- the qualifier that is read has room in its bytes
pub qualifier_small : (numbers bytes : List ℕ) → Reads OfReply 7 [] numbers bytes → slice_index numbers 4 < 2 ^ 32
qualifier_small numbers bytes reads =
    let r = read_head OfReply numbers bytes reads in
    rw r.all_is r.is.in_range.reference

-- a reply to Get or Set has no length
of_item : (kind : Kind) → (kind ≡ K.Get) ⊎ (kind ≡ K.Set) → (facts_of kind).number ≡ 20 → ⊥
of_item kind sort is = elim sort [ inl e ↦ let n = ap (λ (k : Kind). (facts_of k).number) e in omega (arith, n, is) | inr e ↦ let n = ap (λ (k : Kind). (facts_of k).number) e in omega (arith, n, is) ]

pub item_told : (reply : Reply) → (kind_of_reply reply ≡ K.Get) ⊎ (kind_of_reply reply ≡ K.Set) → CanBeTold reply
item_told (Done w (A.Serialize room)) sort = absurd (of_item K.Serialize sort refl)
item_told (Done w (A.Instantiate batches)) sort = tt
item_told (Done w A.EnterInitialization) sort = tt
item_told (Done w A.ExitInitialization) sort = tt
item_told (Done w A.EnterEvent) sort = tt
item_told (Done w A.EnterStep) sort = tt
item_told (Done w (A.DoStep event_needed terminate early end)) sort = tt
item_told (Done w (A.Update again terminate event_time)) sort = tt
item_told (Done w (A.Get word)) sort = tt
item_told (Done w A.Set) sort = tt
item_told (Done w (A.GetClock word)) sort = tt
item_told (Done w A.SetClock) sort = tt
item_told (Done w (A.GetInterval interval)) sort = tt
item_told (Done w (A.GetShift shift)) sort = tt
item_told (Done w A.Save) sort = tt
item_told (Done w A.Restore) sort = tt
item_told (Done w A.Free) sort = tt
item_told (Done w A.Deserialize) sort = tt
item_told (Done w A.Terminate) sort = tt
item_told (Done w A.FreeInstance) sort = tt
item_told (Refused kind status) sort = tt

pub reply_same : Same (Reads OfReply 7 []) reply_at IsReplyFrame
reply_same = record {
  to = λ numbers bytes reads. reply_frame numbers bytes reads;
  from = λ reply bytes frame.
      let h = head_of_reply reply in
      record {
        value = numbers_of h;
        is = sym (reply_again reply);
        spelled = subst (Reads OfReply 7 [] (numbers_of h)) (sym frame.spelled) (head_reads OfReply h (reply_head reply frame.can_be_told frame.in_range));
      };
}

pub reply_single : AreSingle IsReplyFrame
reply_single = made_single (Reads OfReply 7 []) reply_at IsReplyFrame reply_same (reads_single OfReply 7 [])
