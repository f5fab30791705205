-- The parts of a batch, and the batch.
use Rattle.std.proofs.Common.{◌≡◌, ℕ, zero, suc, ◌-◌, ◌≤◌, true, false, List, [], ◌∷◌, ◌++◌, length, refl, sym, ap, subst, ◌∙◌, append-nil, arith, inl, inr}
use Rattle.std.specs.Prelude.{◌==◌, if◌then◌else◌, ◌⊎◌, nat_lt, slice_index}
use Rattle.std.proofs.lemmas.Bool.{cases_lt}
use Rattle.std.proofs.lemmas.Str.{IsUtf8-nil}
use Rattle.std.proofs.lemmas.List.{length-append, nil_from_length}
use Rattle.fmi_calls.specs.KindFacts.{facts_of}
use Rattle.fmi_calls.specs.Kinds.{kind_of, kind_of_content, kind_of_reply}
use Rattle.fmi_calls.specs.declared.call.Kind.{Kind}
use Rattle.fmi_calls.specs.declared.call.Kind.TheVariants as K
use Rattle.fmi_calls.specs.declared.call.Reply.{Reply}
use Rattle.link_frames.specs.declared.batch.Side.{Side}
use Rattle.link_frames.specs.declared.batch.Side.TheVariants.{Calls, Replies}
use Rattle.link_frames.specs.declared.call.CallFrame.{CallFrame}
use Rattle.exact_parts.specs.declared.field.Spans.{Spans}
use Rattle.link_frames.specs.declared.head.Head.{Head}
use Rattle.link_frames.specs.declared.layout.Form.{Form}
use Rattle.link_frames.specs.declared.layout.Form.TheVariants.{OfCall, OfReply, OfBatch, CallItem, ReplyItem}
use Rattle.link_frames.specs.declared.layout.Items.{Items}
use Rattle.link_frames.specs.declared.layout.Items.TheVariants.{Either, Gets, Sets}
use Rattle.link_frames.specs.Batch.{AreFrames, BatchParts, CountOf, FirstOf, IsBatch, IsBatchOf, IsCallBatch, IsReplyBatch, ItemsOf, batch_head, item_form, items_at}
use Rattle.link_frames.specs.Call.{IsCallFrame, TextsOf, call_at, call_by, frame_at, name_len, text_len, token_len}
use Rattle.exact_parts.specs.Field.{Field, InSpans}
use Rattle.link_frames.specs.Head.{head, numbers_of, spelling}
use Rattle.link_frames.specs.Layout.{between, kind_at, kind_numbers, kinds_of, kinds_of_items}
use Rattle.link_frames.specs.Numbers.{Reads}
use Rattle.link_frames.specs.Reply.{IsReplyFrame, content_at, reply_at, reply_by, bad_status_at}
use Rattle.exact_parts.specs.Taking.{AreSingle}
use Rattle.exact_parts.proofs.CallerLemmas.{Followed, Same, after_single, made_single}
use Rattle.link_frames.proofs.CallLemmas.{call_same}
use Rattle.link_frames.proofs.HeadLemmas.{IsKindNumber, in_between, in_kinds, in_zero, is_between, is_zero, head_reads, kind_again, kinds_in, read_head}
use Rattle.link_frames.proofs.NumbersLemmas.{filled_7, reads_single}
use Rattle.link_frames.proofs.ReplyLemmas.{reply_same}

-- ---- single and followed

nothing_single : AreSingle {V = Unit {0}} (λ v bytes. bytes ≡ [])
nothing_single v w xs more p q = (refl, omega (arith, ap length q, length-append xs more))

items_single : (side : Side) (items : Items) (left : ℕ) → AreSingle (ItemsOf side items left)
items_single side items zero = nothing_single
items_single side items (suc left) =
    after_single (Reads (item_form side items) 7 []) (λ (ns : List ℕ). ItemsOf side items left) (reads_single (item_form side items) 7 []) (λ ns. items_single side items left)

first_single : (side : Side) (count : ℕ) → AreSingle (FirstOf side count)
first_single side count =
    after_single (Reads (item_form side Either) 7 []) (λ (ns : List ℕ). ItemsOf side (items_at (slice_index ns 0)) (count - 1)) (reads_single (item_form side Either) 7 []) (λ ns. items_single side (items_at (slice_index ns 0)) (count - 1))

count_single : (side : Side) (ns : List ℕ) → AreSingle (CountOf side ns)
count_single side ns v w xs more p q = (p.0 ∙ sym q.0, (first_single side (slice_index ns 4) tt tt xs more p.1 q.1).1)

parts_single : (side : Side) → AreSingle (BatchParts side)
parts_single side = after_single (Reads OfBatch 7 []) (CountOf side) (reads_single OfBatch 7 []) (count_single side)

record FilledItems (side : Side) (items : Items) (left : ℕ) : Type 0 where
  bytes : List ℕ
  are : ItemsOf side items left tt bytes

items_filled : (side : Side) (items : Items) (left : ℕ) → FilledItems side items left
items_filled side items zero = record { bytes = []; are = refl }
items_filled side items (suc left) =
    let f = filled_7 (item_form side items) in
    let r = items_filled side items left in
    record { bytes = f.bytes ++ r.bytes; are = record { number = f.all; prefix = f.bytes; rest = r.bytes; is_first = f.reads; is_next = r.are; both = refl } }

pub items_followed : (side : Side) (items : Items) (left : ℕ) → Followed {N = List ℕ} {V = Unit {0}} (λ (ns : List ℕ). ItemsOf side items left)
items_followed side items left =
    let f = items_filled side items left in
    record { value = λ ns. tt; bytes = λ ns. f.bytes; spelled = λ ns. f.are }

pub first_followed : (side : Side) (count : ℕ) → Followed {N = List ℕ} {V = Unit {0}} (λ (ns : List ℕ). ItemsOf side (items_at (slice_index ns 0)) (count - 1))
first_followed side count = record {
  value = λ ns. tt;
  bytes = λ ns. (items_filled side (items_at (slice_index ns 0)) (count - 1)).bytes;
  spelled = λ ns. (items_filled side (items_at (slice_index ns 0)) (count - 1)).are;
}

pub count_followed : (side : Side) → Followed (CountOf side)
count_followed side = record {
  value = λ ns. slice_index ns 4;
  bytes = λ ns. _;
  spelled = λ ns. (
    refl,
    record {
      number = (filled_7 (item_form side Either)).all;
      prefix = (filled_7 (item_form side Either)).bytes;
      rest = (items_filled side (items_at (slice_index (filled_7 (item_form side Either)).all 0)) (slice_index ns 4 - 1)).bytes;
      is_first = (filled_7 (item_form side Either)).reads;
      is_next = (items_filled side (items_at (slice_index (filled_7 (item_form side Either)).all 0)) (slice_index ns 4 - 1)).are;
      both = refl;
    },
  );
}

-- ---- the head

pub record IsCount (n : ℕ) : Type 0 where
  pub some : 1 ≤ n
  pub few : n ≤ 64

pub count_in : (ns bytes : List ℕ) → Reads OfBatch 7 [] ns bytes → IsCount (slice_index ns 4)
count_in ns bytes reads =
    let r = read_head OfBatch ns bytes reads in
    let b = is_between 1 64 r.head.reference r.is.allowed.reference in
    rw r.all_is (record { some = b.from; few = b.up_to })

pub record Headed (ns bytes : List ℕ) : Type 0 where
  pub count : IsCount (slice_index ns 4)
  pub spelled : bytes ≡ spelling (batch_head (slice_index ns 4))

head_is : (h : Head) (k d f r a b : ℕ) → h.kind ≡ k → h.detail ≡ d → h.flags ≡ f → h.reference ≡ r → h.first ≡ a → h.last ≡ b → h ≡ head k d f r a b
head_is h k d f r a b e1 e2 e3 e4 e5 e6 = rw (← e1, ← e2, ← e3, ← e4, ← e5, ← e6) refl

pub headed : (ns bytes : List ℕ) → Reads OfBatch 7 [] ns bytes → Headed ns bytes
headed ns bytes reads =
    let r = read_head OfBatch ns bytes reads in
    let h = r.head in
    let k = is_between 19 19 h.kind r.is.kind in
    let a = r.is.allowed in
    let reference : h.reference ≡ slice_index ns 4 = sym (ap (λ (xs : List ℕ). slice_index xs 4) r.all_is) in
    let is : h ≡ batch_head (slice_index ns 4) = head_is h 19 0 0 (slice_index ns 4) 0 0 (omega (arith, k.from, k.up_to)) (is_zero h.detail a.detail) (is_zero h.flags a.flags) reference (is_zero h.first a.first) (is_zero h.last a.last) in
    record { count = count_in ns bytes reads; spelled = r.spelled ∙ ap spelling is }

pub batch_reads : (n : ℕ) → 1 ≤ n → n ≤ 64 → Reads OfBatch 7 [] (numbers_of (batch_head n)) (spelling (batch_head n))
batch_reads n some few = head_reads OfBatch (batch_head n) (record {
  kind = in_between 19 19 19 (omega arith) (omega arith);
  small = omega arith;
  detail = omega arith;
  flags = omega arith;
  in_range = record { reference = omega (arith, few); first = omega arith; last = omega arith };
  allowed = record { detail = in_zero; flags = in_zero; reference = in_between 1 64 n some few; first = in_zero; last = in_zero };
})

-- ---- items

-- the number of the first byte's kind
first_number : (form : Form) (ns bytes : List ℕ) → Reads form 7 [] ns bytes → InSpans (kinds_of form) (slice_index ns 0)
first_number form ns bytes p =
    let end = p.is_next.is_next.is_next.is_next.is_next.is_next.is_next in
    subst (InSpans (kinds_of form)) (sym (ap (λ (xs : List ℕ). slice_index xs 0) end.0)) p.is_first.span

first_is : (form : Form) (ns bytes : List ℕ) (p : Reads form 7 [] ns bytes) → p.number ≡ slice_index ns 0
first_is form ns bytes p =
    let end = p.is_next.is_next.is_next.is_next.is_next.is_next.is_next in
    sym (ap (λ (xs : List ℕ). slice_index xs 0) end.0)

with_span : (size : ℕ) (spans other : Spans) (n : ℕ) (bytes : List ℕ) → Field size spans n bytes → InSpans other n → Field size other n bytes
with_span size spans other n bytes f h = record { size_is = f.size_is; are_bytes = f.are_bytes; number = f.number; span = h }

wide : (items : Items) (n : ℕ) → InSpans (kinds_of_items items) n → IsKindNumber n
wide Either n h = let up_to = (is_between 8 9 n h).up_to in record { from = omega (arith, (is_between 8 9 n h).from); up_to = omega (arith, up_to); named = λ e. absurd (omega (arith, e, up_to)) }
wide Gets n h = let up_to = (is_between 8 8 n h).up_to in record { from = omega (arith, (is_between 8 8 n h).from); up_to = omega (arith, up_to); named = λ e. absurd (omega (arith, e, up_to)) }
wide Sets n h = let up_to = (is_between 9 9 n h).up_to in record { from = omega (arith, (is_between 9 9 n h).from); up_to = omega (arith, up_to); named = λ e. absurd (omega (arith, e, up_to)) }

as_call : (items : Items) (ns bytes : List ℕ) → Reads (CallItem items) 7 [] ns bytes → Reads OfCall 7 [] ns bytes
as_call items ns bytes p =
    let w = wide items p.number p.is_first.span in
    record { number = p.number; prefix = p.prefix; rest = p.rest; is_first = with_span 1 (kinds_of_items items) kind_numbers p.number p.prefix p.is_first (in_kinds p.number w); is_next = p.is_next; both = p.both }

call_as : (items : Items) (ns bytes : List ℕ) → Reads OfCall 7 [] ns bytes → InSpans (kinds_of_items items) (slice_index ns 0) → Reads (CallItem items) 7 [] ns bytes
call_as items ns bytes p h =
    let at : InSpans (kinds_of_items items) p.number = subst (InSpans (kinds_of_items items)) (sym (first_is OfCall ns bytes p)) h in
    record { number = p.number; prefix = p.prefix; rest = p.rest; is_first = with_span 1 kind_numbers (kinds_of_items items) p.number p.prefix p.is_first at; is_next = p.is_next; both = p.both }

as_reply : (items : Items) (ns bytes : List ℕ) → Reads (ReplyItem items) 7 [] ns bytes → Reads OfReply 7 [] ns bytes
as_reply items ns bytes p =
    let w = wide items p.number p.is_first.span in
    record { number = p.number; prefix = p.prefix; rest = p.rest; is_first = with_span 1 (kinds_of_items items) kind_numbers p.number p.prefix p.is_first (in_kinds p.number w); is_next = p.is_next; both = p.both }

reply_as : (items : Items) (ns bytes : List ℕ) → Reads OfReply 7 [] ns bytes → InSpans (kinds_of_items items) (slice_index ns 0) → Reads (ReplyItem items) 7 [] ns bytes
reply_as items ns bytes p h =
    let at : InSpans (kinds_of_items items) p.number = subst (InSpans (kinds_of_items items)) (sym (first_is OfReply ns bytes p)) h in
    record { number = p.number; prefix = p.prefix; rest = p.rest; is_first = with_span 1 kind_numbers (kinds_of_items items) p.number p.prefix p.is_first at; is_next = p.is_next; both = p.both }

-- from one restriction to another
again : (side : Side) (items other : Items) (ns bytes : List ℕ) → Reads (item_form side items) 7 [] ns bytes → InSpans (kinds_of_items other) (slice_index ns 0) → Reads (item_form side other) 7 [] ns bytes
again Calls items other ns bytes p h = call_as other ns bytes (as_call items ns bytes p) h
again Replies items other ns bytes p h = reply_as other ns bytes (as_reply items ns bytes p) h

-- the number of the kind of items of one kind, and the kind
record IsOne (items : Items) (one : Kind) (number : ℕ) : Type 0 where
  spans : kinds_of_items items ≡ between number number
  kind : kind_at number ≡ one
  at : items_at number ≡ items
  item : InSpans (kinds_of_items Either) number
  number_is : (facts_of one).number ≡ number
  bare : (len : ℕ) → text_len one len ≡ 0

of_gets : IsOne Gets K.Get 8
of_gets = record { spans = refl; kind = refl; at = refl; item = in_between 8 9 8 (omega arith) (omega arith); number_is = refl; bare = λ len. refl }

of_sets : IsOne Sets K.Set 9
of_sets = record { spans = refl; kind = refl; at = refl; item = in_between 8 9 9 (omega arith) (omega arith); number_is = refl; bare = λ len. refl }

number_of_one : (items : Items) (one : Kind) (number n : ℕ) → IsOne items one number → InSpans (kinds_of_items items) n → n ≡ number
number_of_one items one number n is h =
    let b = is_between number number n (subst (λ (s : Spans). InSpans s n) is.spans h) in omega (arith, b.from, b.up_to)

in_one : (items : Items) (one : Kind) (number n : ℕ) → IsOne items one number → n ≡ number → InSpans (kinds_of_items items) n
in_one items one number n is e = subst (λ (s : Spans). InSpans s n) (sym is.spans) (in_between number number n (omega (arith, e)) (omega (arith, e)))

-- ---- what a frame of a side is

-- the items of one kind are the frames of that kind
record Frames (side : Side) (V : Type 0) (frame : V → List ℕ → Type 0) (kind : V → Kind) : Type 0 where
  make : List ℕ → V
  to : (items : Items) (one : Kind) (number : ℕ) → IsOne items one number → (ns bytes : List ℕ) → Reads (item_form side items) 7 [] ns bytes → frame (make ns) bytes × (kind (make ns) ≡ one)
  from : (items : Items) (one : Kind) (number : ℕ) → IsOne items one number → (v : V) (bytes : List ℕ) → frame v bytes → kind v ≡ one → (ns : List ℕ) × Reads (item_form side items) 7 [] ns bytes × (slice_index ns 0 ≡ number)

kind_by : (kind : Kind) (d r a b : ℕ) → kind_of (call_by kind d r a b) ≡ kind
kind_by K.Instantiate d r a b = refl
kind_by K.EnterInitialization d r a b = refl
kind_by K.ExitInitialization d r a b = refl
kind_by K.EnterEvent d r a b = refl
kind_by K.EnterStep d r a b = refl
kind_by K.DoStep d r a b = refl
kind_by K.Update d r a b = refl
kind_by K.Get d r a b = refl
kind_by K.Set d r a b = refl
kind_by K.GetClock d r a b = refl
kind_by K.SetClock d r a b = refl
kind_by K.GetInterval d r a b = refl
kind_by K.GetShift d r a b = refl
kind_by K.Save d r a b = refl
kind_by K.Restore d r a b = refl
kind_by K.Free d r a b = refl
kind_by K.Terminate d r a b = refl
kind_by K.FreeInstance d r a b = refl
kind_by K.Serialize d r a b = refl
kind_by K.Deserialize d r a b = refl

kind_content : (kind : Kind) (f q a b : ℕ) → kind_of_content (content_at kind f q a b) ≡ kind
kind_content K.Instantiate f q a b = refl
kind_content K.EnterInitialization f q a b = refl
kind_content K.ExitInitialization f q a b = refl
kind_content K.EnterEvent f q a b = refl
kind_content K.EnterStep f q a b = refl
kind_content K.DoStep f q a b = refl
kind_content K.Update f q a b = refl
kind_content K.Get f q a b = refl
kind_content K.Set f q a b = refl
kind_content K.GetClock f q a b = refl
kind_content K.SetClock f q a b = refl
kind_content K.GetInterval f q a b = refl
kind_content K.GetShift f q a b = refl
kind_content K.Save f q a b = refl
kind_content K.Restore f q a b = refl
kind_content K.Free f q a b = refl
kind_content K.Terminate f q a b = refl
kind_content K.FreeInstance f q a b = refl
kind_content K.Serialize f q a b = refl
kind_content K.Deserialize f q a b = refl

kind_reply : (kind : Kind) (s f q a b : ℕ) → kind_of_reply (reply_by kind s f q a b) ≡ kind
kind_reply kind s f q a b = (elim (nat_lt s 2) as (λ t. kind_of_reply (if t then Reply.Done (s == 1) (content_at kind f q a b) else Reply.Refused kind (bad_status_at s)) ≡ kind) [
  | true ↦ kind_content kind f q a b
  | false ↦ refl
])

-- a call of one kind has no texts
bare_len : (items : Items) (one : Kind) (number n len : ℕ) → IsOne items one number → n ≡ number → text_len (kind_at n) len ≡ 0
bare_len items one number n len is e = ap (λ (x : ℕ). text_len (kind_at x) len) e ∙ ap (λ (x : Kind). text_len x len) is.kind ∙ is.bare len

kind_number : (one : Kind) (n number : ℕ) → IsKindNumber n → (facts_of one).number ≡ number → kind_at n ≡ one → n ≡ number
kind_number one n number h e k = sym (kind_again n h) ∙ ap (λ (x : Kind). (facts_of x).number) k ∙ e

call_to : (items : Items) (one : Kind) (number : ℕ) → IsOne items one number → (ns bytes : List ℕ) → Reads (CallItem items) 7 [] ns bytes → IsCallFrame (frame_at ns) bytes × (kind_of (call_at ns) ≡ one)
call_to items one number is ns bytes p =
    let e : slice_index ns 0 ≡ number = number_of_one items one number (slice_index ns 0) is (first_number (CallItem items) ns bytes p) in
    let name_is : 0 ≡ name_len ns = sym (bare_len items one number (slice_index ns 0) (slice_index ns 5) is e) in
    let token_is : 0 ≡ token_len ns = sym (bare_len items one number (slice_index ns 0) (slice_index ns 6) is e) in
    let texts : TextsOf ns (frame_at ns) [] = record { number = tt; prefix = []; rest = []; is_first = record { size_is = name_is; text = IsUtf8-nil }; is_next = (refl, record { size_is = token_is; text = IsUtf8-nil }); both = refl } in (
      call_same.to (frame_at ns) bytes (record { number = ns; prefix = bytes; rest = []; is_first = as_call items ns bytes p; is_next = texts; both = sym (append-nil bytes) }),
      kind_by (kind_at (slice_index ns 0)) _ _ _ _ ∙ ap kind_at e ∙ is.kind,
    )

call_from : (items : Items) (one : Kind) (number : ℕ) → IsOne items one number → (v : CallFrame) (bytes : List ℕ) → IsCallFrame v bytes → kind_of v.call ≡ one → (ns : List ℕ) × Reads (CallItem items) 7 [] ns bytes × (slice_index ns 0 ≡ number)
call_from items one number is v bytes f k =
    let source = call_same.from v bytes f in
    let p = source.spelled in
    let q = p.is_next in
    let last = q.is_next in
    let ns = p.number in
    let call_is : v.call ≡ call_at ns = ap (λ (x : CallFrame). x.call) (source.is ∙ last.0) in
    let kind_is : kind_at (slice_index ns 0) ≡ one = sym (kind_by (kind_at (slice_index ns 0)) _ _ _ _) ∙ sym (ap kind_of call_is) ∙ k in
    let e : slice_index ns 0 ≡ number = kind_number one (slice_index ns 0) number (kinds_in (slice_index ns 0) (first_number OfCall ns p.prefix p.is_first)) is.number_is kind_is in
    let name_nil : q.prefix ≡ [] = nil_from_length q.prefix (q.is_first.size_is ∙ bare_len items one number (slice_index ns 0) (slice_index ns 5) is e) in
    let token_nil : q.rest ≡ [] = nil_from_length q.rest (last.1.size_is ∙ bare_len items one number (slice_index ns 0) (slice_index ns 6) is e) in
    let rest_nil : p.rest ≡ [] = q.both ∙ ap (λ (t : List ℕ). t ++ q.rest) name_nil ∙ token_nil in
    let all : bytes ≡ p.prefix = p.both ∙ ap (λ (t : List ℕ). p.prefix ++ t) rest_nil ∙ append-nil p.prefix in
    (ns, call_as items ns bytes (subst (Reads OfCall 7 [] ns) (sym all) p.is_first) (in_one items one number (slice_index ns 0) is e), e)

call_frames : Frames Calls CallFrame IsCallFrame (λ (f : CallFrame). kind_of f.call)
call_frames = record { make = frame_at; to = call_to; from = call_from }

reply_to : (items : Items) (one : Kind) (number : ℕ) → IsOne items one number → (ns bytes : List ℕ) → Reads (ReplyItem items) 7 [] ns bytes → IsReplyFrame (reply_at ns) bytes × (kind_of_reply (reply_at ns) ≡ one)
reply_to items one number is ns bytes p =
    let e : slice_index ns 0 ≡ number = number_of_one items one number (slice_index ns 0) is (first_number (ReplyItem items) ns bytes p) in
    (reply_same.to ns bytes (as_reply items ns bytes p), kind_reply (kind_at (slice_index ns 0)) _ _ _ _ _ ∙ ap kind_at e ∙ is.kind)

reply_from : (items : Items) (one : Kind) (number : ℕ) → IsOne items one number → (v : Reply) (bytes : List ℕ) → IsReplyFrame v bytes → kind_of_reply v ≡ one → (ns : List ℕ) × Reads (ReplyItem items) 7 [] ns bytes × (slice_index ns 0 ≡ number)
reply_from items one number is v bytes f k =
    let source = reply_same.from v bytes f in
    let ns = source.value in
    let kind_is : kind_at (slice_index ns 0) ≡ one = sym (kind_reply (kind_at (slice_index ns 0)) _ _ _ _ _) ∙ sym (ap kind_of_reply source.is) ∙ k in
    let e : slice_index ns 0 ≡ number = kind_number one (slice_index ns 0) number (kinds_in (slice_index ns 0) (first_number OfReply ns bytes source.spelled)) is.number_is kind_is in
    (ns, reply_as items ns bytes source.spelled (in_one items one number (slice_index ns 0) is e), e)

reply_frames : Frames Replies Reply IsReplyFrame kind_of_reply
reply_frames = record { make = reply_at; to = reply_to; from = reply_from }

-- ---- the parts and the batch

-- one of the two
record Kinds (one : Kind) : Type 0 where
  items : Items
  number : ℕ
  is : IsOne items one number

kinds_of_one : (one : Kind) → (one ≡ K.Get) ⊎ (one ≡ K.Set) → Kinds one
kinds_of_one one (inl e) = subst Kinds (sym e) (record { items = Gets; number = 8; is = of_gets })
kinds_of_one one (inr e) = subst Kinds (sym e) (record { items = Sets; number = 9; is = of_sets })

record IsEither (n : ℕ) : Type 0 where
  one : Kind
  kinds : Kinds one
  which : (one ≡ K.Get) ⊎ (one ≡ K.Set)
  number : n ≡ kinds.number

either : (n : ℕ) → InSpans (kinds_of_items Either) n → IsEither n
either n h =
    let b = is_between 8 9 n h in
    elim (cases_lt n 9) [
      | inl lt ↦ record { one = K.Get; kinds = record { items = Gets; number = 8; is = of_gets }; which = inl refl; number = omega (arith, b.from, lt) }
      | inr le ↦ record { one = K.Set; kinds = record { items = Sets; number = 9; is = of_sets }; which = inr refl; number = omega (arith, b.up_to, le) }
    ]

kinds_form : (side : Side) (items : Items) → kinds_of (item_form side items) ≡ kinds_of_items items
kinds_form Calls items = refl
kinds_form Replies items = refl

module _ (side : Side) (V : Type 0) (frame : V → List ℕ → Type 0) (kind : V → Kind) (fs : Frames side V frame kind) where
  record Several (one : Kind) (left : ℕ) (bytes : List ℕ) : Type 0 where
    values : List V
    len : length values ≡ left
    are : AreFrames frame kind one values bytes

  several : (items : Items) (one : Kind) (number : ℕ) → IsOne items one number → (left : ℕ) (bytes : List ℕ) → ItemsOf side items left tt bytes → Several one left bytes
  several items one number is zero bytes e = record { values = []; len = refl; are = e }
  several items one number is (suc left) bytes p =
      let r = several items one number is left p.rest p.is_next in
      let v = fs.to items one number is p.number p.prefix p.is_first in
      record { values = fs.make p.number ∷ r.values; len = ap suc r.len; are = (p.prefix, p.rest, p.both, v.0, v.1, r.are) }

  item_of : (items : Items) (ns bytes : List ℕ) → Reads (item_form side items) 7 [] ns bytes → InSpans (kinds_of_items items) (slice_index ns 0)
  item_of items ns bytes p = subst (λ (s : Spans). InSpans s (slice_index ns 0)) (kinds_form side items) (first_number (item_form side items) ns bytes p)

  batch_of : (count : ℕ) (bytes : List ℕ) → BatchParts side count bytes → IsBatchOf frame kind count bytes
  batch_of count bytes p =
      let h = headed p.number p.prefix p.is_first in
      let n = slice_index p.number 4 in
      let q = p.is_next.1 in
      let e = either (slice_index q.number 0) (item_of Either q.number q.prefix q.is_first) in
      let k = e.kinds in
      let items_is : items_at (slice_index q.number 0) ≡ k.items = ap items_at e.number ∙ k.is.at in
      let first = fs.to k.items e.one k.number k.is q.number q.prefix (again side Either k.items q.number q.prefix q.is_first (in_one k.items e.one k.number (slice_index q.number 0) k.is e.number)) in
      let r = several k.items e.one k.number k.is (n - 1) q.rest (subst (λ (x : Items). ItemsOf side x (n - 1) tt q.rest) items_is q.is_next) in
      let len : suc (length r.values) ≡ n = omega (arith, r.len, h.count.some) in
      record {
        values = fs.make q.number ∷ r.values;
        count_is = p.is_next.0 ∙ sym len;
        batch = record {
          some = omega (arith, len, h.count.some);
          few = omega (arith, len, h.count.few);
          one = e.one;
          reads_or_sets = e.which;
          rest = p.rest;
          frames = (q.prefix, q.rest, q.both, first.0, first.1, r.are);
          spelled = p.both ∙ ap (λ (t : List ℕ). t ++ p.rest) (h.spelled ∙ ap (λ (x : ℕ). spelling (batch_head x)) (sym len));
        };
      }

  items_from : (items : Items) (one : Kind) (number : ℕ) → IsOne items one number → (values : List V) (bytes : List ℕ) → AreFrames frame kind one values bytes → ItemsOf side items (length values) tt bytes
  items_from items one number is [] bytes e = e
  items_from items one number is (v ∷ vs) bytes (prefix, rest, both, is_frame, is_kind, more) =
      let f = fs.from items one number is v prefix is_frame is_kind in
      record { number = f.0; prefix = prefix; rest = rest; is_first = f.1; is_next = items_from items one number is vs rest more; both = both }

  parts_of : (values : List V) (bytes : List ℕ) → IsBatch frame kind values bytes → BatchParts side (length values) bytes
  parts_of [] bytes b = absurd (omega (arith, b.some))
  parts_of (v ∷ vs) bytes b = parts_cons v vs bytes b b.frames
    where
      parts_cons : (v : V) (vs : List V) (bytes : List ℕ) (b : IsBatch frame kind (v ∷ vs) bytes) → AreFrames frame kind b.one (v ∷ vs) b.rest → BatchParts side (length (v ∷ vs)) bytes
      parts_cons v vs bytes b (prefix, rest, both, is_frame, is_kind, more) =
          let k = kinds_of_one b.one b.reads_or_sets in
          let f = fs.from k.items b.one k.number k.is v prefix is_frame is_kind in
          let n = length (v ∷ vs) in
          let items_is : k.items ≡ items_at (slice_index f.0 0) = sym (ap items_at f.2 ∙ k.is.at) in
          let less : length vs ≡ n - 1 = omega arith in
          let either_in : InSpans (kinds_of_items Either) (slice_index f.0 0) = subst (InSpans (kinds_of_items Either)) (sym f.2) k.is.item in
          record {
            number = numbers_of (batch_head n);
            prefix = spelling (batch_head n);
            rest = b.rest;
            is_first = batch_reads n b.some b.few;
            is_next = (
              refl,
              record {
                number = f.0;
                prefix = prefix;
                rest = rest;
                is_first = again side k.items Either f.0 prefix f.1 either_in;
                is_next = subst (λ (m : ℕ). ItemsOf side (items_at (slice_index f.0 0)) m tt rest) less (subst (λ (x : Items). ItemsOf side x (length vs) tt rest) items_is (items_from k.items b.one k.number k.is vs rest more));
                both = both;
              },
            );
            both = b.spelled;
          }

  batch_same : Same (BatchParts side) (λ (n : ℕ). n) (IsBatchOf frame kind)
  batch_same = record {
    to = batch_of;
    from = λ n bytes b. record { value = n; is = refl; spelled = subst (λ (x : ℕ). BatchParts side x bytes) (sym b.count_is) (parts_of b.values bytes b.batch) };
  }

pub calls_same : Same (BatchParts Calls) (λ (n : ℕ). n) IsCallBatch
calls_same = batch_same Calls CallFrame IsCallFrame (λ (f : CallFrame). kind_of f.call) call_frames

pub replies_same : Same (BatchParts Replies) (λ (n : ℕ). n) IsReplyBatch
replies_same = batch_same Replies Reply IsReplyFrame kind_of_reply reply_frames

pub calls_single : AreSingle IsCallBatch
calls_single = made_single (BatchParts Calls) (λ (n : ℕ). n) IsCallBatch calls_same (parts_single Calls)

pub replies_single : AreSingle IsReplyBatch
replies_single = made_single (BatchParts Replies) (λ (n : ℕ). n) IsReplyBatch replies_same (parts_single Replies)
