-- How long a frame is, by the 24 bytes that it begins with.
use Rattle.std.proofs.Common.{◌≡◌, ℕ, ◌+◌, ◌^◌, ◌≤◌, ◌<◌, List, [], ◌++◌, length, take, refl, sym, ap, ◌∙◌, arith, length-append}
use Rattle.std.proofs.lemmas.List.{take-append-le, take_all}
use Rattle.std.proofs.lemmas.Nat.{from_be_bytes-to_be_bytes_8}
use Rattle.std.specs.Int.{w64, to_be_bytes, from_be_bytes}
use Rattle.std.specs.Prelude.{slice_index}
use Rattle.fmi_calls.specs.KindFacts.{facts_of}
use Rattle.fmi_calls.specs.Kinds.{kind_of}
use Rattle.fmi_calls.specs.declared.call.Call.{Call}
use Rattle.fmi_calls.specs.declared.call.Call.TheVariants as C
use Rattle.link_frames.specs.declared.call.CallFrame.{CallFrame}
use Rattle.link_frames.specs.Batch.{IsHeadOf}
use Rattle.link_frames.specs.Head.{InRange, head, spelling}
use Rattle.link_frames.specs.Call.{CanBeSent, IsCallFrame, bytes_at, detail_of, first_of, head_of_call, last_of, reference_of, sent}
use Rattle.host_serving.specs.Frames.{eight_at}

spelled_length : (k d f r a b : ℕ) → length (spelling (head k d f r a b)) ≡ 24
unfolding spelling
spelled_length k d f r a b = refl

spelled_first : (k d f r a b : ℕ) → eight_at (spelling (head k d f r a b)) 8 ≡ to_be_bytes w64 a
unfolding spelling
spelled_first k d f r a b = refl

spelled_last : (k d f r a b : ℕ) → eight_at (spelling (head k d f r a b)) 16 ≡ to_be_bytes w64 b
unfolding spelling
spelled_last k d f r a b = refl

spelled_begins : (k d f r a b : ℕ) → slice_index (spelling (head k d f r a b)) 0 ≡ k
unfolding spelling
spelled_begins k d f r a b = refl

-- the head of a batch begins with 19
pub head_begins : (count : ℕ) (bytes : List ℕ) → IsHeadOf count bytes → slice_index bytes 0 ≡ 19
head_begins count bytes h = ap (λ (xs : List ℕ). slice_index xs 0) h.spelled ∙ spelled_begins 19 0 0 count 0 0

-- the two numbers at the end of the head are the lengths of the texts
pub record TellsTexts (prefix more : List ℕ) : Type 0 where
  pub name : ℕ
  pub token : ℕ
  pub name_is : from_be_bytes w64 (eight_at prefix 8) ≡ name
  pub token_is : from_be_bytes w64 (eight_at prefix 16) ≡ token
  pub more_is : length more ≡ name + token
  pub small : name + token < 2 ^ 64

same_prefix : (a b c d : List ℕ) → a ++ b ≡ c ++ d → length a ≡ length c → a ≡ c
same_prefix a b c d e same =
    sym (take-append-le (length a) a b (omega arith) ∙ take_all (length a) a (omega arith)) ∙ ap (take (length a)) e
    ∙ take-append-le (length a) c d (omega (arith, same)) ∙ take_all (length a) c (omega (arith, same))

whole_length : (k d f r a b : ℕ) (prefix more texts : List ℕ) → prefix ++ more ≡ spelling (head k d f r a b) ++ texts → length prefix + length more ≡ 24 + length texts
whole_length k d f r a b prefix more texts e =
    sym (length-append prefix more) ∙ ap length e ∙ length-append (spelling (head k d f r a b)) texts ∙ ap (λ n. n + length texts) (spelled_length k d f r a b)

by_numbers : (k d f r a b : ℕ) (prefix more texts : List ℕ) → length prefix ≡ 24 → prefix ++ more ≡ spelling (head k d f r a b) ++ texts → length texts ≡ a + b → a + b < 2 ^ 64 → a < 2 ^ 64 → b < 2 ^ 64 → TellsTexts prefix more
by_numbers k d f r a b prefix more texts long e texts_len small first last =
    let same : prefix ≡ spelling (head k d f r a b) = same_prefix prefix more (spelling (head k d f r a b)) texts e (long ∙ sym (spelled_length k d f r a b)) in
    let whole = whole_length k d f r a b prefix more texts e in
    record {
      name = a;
      token = b;
      name_is = ap (λ l. from_be_bytes w64 (eight_at l 8)) same ∙ ap (from_be_bytes w64) (spelled_first k d f r a b) ∙ from_be_bytes-to_be_bytes_8 a first;
      token_is = ap (λ l. from_be_bytes w64 (eight_at l 16)) same ∙ ap (from_be_bytes w64) (spelled_last k d f r a b) ∙ from_be_bytes-to_be_bytes_8 b last;
      more_is = omega (arith, whole, long, texts_len);
      small = small;
    }

no_texts : (k d f r a b : ℕ) (prefix more : List ℕ) → length prefix ≡ 24 → 0 < length more → prefix ++ more ≡ spelling (head k d f r a b) ++ ([] ++ []) → ⊥
no_texts k d f r a b prefix more long some e = let whole = whole_length k d f r a b prefix more ([] ++ []) e in omega (arith, whole, long, some)

by_call : (call : Call) (name token prefix more : List ℕ) → length prefix ≡ 24 → 0 < length more → prefix ++ more ≡ spelling (head_of_call call (length name) (length token)) ++ (sent call name ++ sent call token)
    → InRange (head_of_call call (length name) (length token)) → CanBeSent call (length name) (length token) → TellsTexts prefix more
by_call (C.Instantiate event_mode early_return batches) name token prefix more long some e range can =
    let call = C.Instantiate event_mode early_return batches in
    by_numbers (facts_of (kind_of call)).number (detail_of call) 0 (reference_of call) (length name) (length token) prefix more (name ++ token) long e (length-append name token)
    (omega (arith, can.1, can.2)) range.first range.last
by_call call name token prefix more long some e range can =
    absurd (no_texts (facts_of (kind_of call)).number (detail_of call) 0 (reference_of call) (first_of call (length name)) (last_of call (length token)) prefix more long some e)

-- a frame that goes on after its head
pub tells_texts : (frame : CallFrame) (prefix more : List ℕ) → length prefix ≡ 24 → 0 < length more → IsCallFrame frame (prefix ++ more) → TellsTexts prefix more
tells_texts frame prefix more long some is =
    by_call frame.call (bytes_at frame.name (prefix ++ more)) (bytes_at frame.token (prefix ++ more)) prefix more long some is.is_frame.spelled is.is_frame.in_range is.is_frame.can_be_sent

-- a frame is no shorter than its head
pub frame_long : (frame : CallFrame) (bytes : List ℕ) → IsCallFrame frame bytes → 24 ≤ length bytes
frame_long frame bytes is =
    let call = frame.call in
    let name = bytes_at frame.name bytes in
    let token = bytes_at frame.token bytes in
    let texts = sent call name ++ sent call token in
    let whole = ap length is.is_frame.spelled ∙ length-append (spelling (head_of_call call (length name) (length token))) texts in
    let long = spelled_length (facts_of (kind_of call)).number (detail_of call) 0 (reference_of call) (first_of call (length name)) (last_of call (length token)) in
    omega (arith, whole, long)
