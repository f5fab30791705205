-- A batch that grows by one frame after another.
use Rattle.std.proofs.Common.{◌≡◌, ℕ, ◌+◌, ◌<◌, List, [], ◌∷◌, ◌++◌, length, take, get_or, refl, sym, ap, subst, ◌∙◌, append_assoc, append-nil, arith, inl, inr}
use Rattle.std.proofs.lemmas.List.{length-map, map-append, take_more}
use Rattle.fmi_calls.specs.Kinds.{kind_of, kind_of_reply}
use Rattle.fmi_calls.specs.declared.call.Call.{Call}
use Rattle.fmi_calls.specs.declared.call.Kind.{Kind}
use Rattle.fmi_calls.specs.declared.call.Reply.{Reply}
use Rattle.link_frames.specs.declared.call.CallFrame.{CallFrame}
use Rattle.link_frames.specs.Batch.{AreFrames, CanAnswer, CanBeBatched, kind_of_first_reply, IsBatch, batch_head, frames_of, kind_of_first}
use Rattle.link_frames.specs.Call.{IsCallFrame, IsFrameOf, frame_with}
use Rattle.link_frames.specs.Head.{spelling}
use Rattle.link_frames.specs.Reply.{CanBeTold, IsReplyFrame}
use Rattle.link_frames.proofs.CallLemmas.{frame_taken}
use Rattle.link_frames.proofs.ReplyLemmas.{item_told}

pub frames_push : {V : Type 0} (frame : V → List ℕ → Type 0) (kind : V → Kind) (one : Kind) (vs : List V) (v : V) (bytes prefix : List ℕ) →
    AreFrames frame kind one vs bytes → frame v prefix → kind v ≡ one → AreFrames frame kind one (vs ++ v ∷ []) (bytes ++ prefix)
frames_push frame kind one [] v bytes prefix e is k = (prefix, [], ap (λ (b : List ℕ). b ++ prefix) e ∙ sym (append-nil prefix), is, k, refl)
frames_push frame kind one (w ∷ vs) v bytes prefix (first, rest, both, is_w, k_w, more) is k =
    (first, rest ++ prefix, ap (λ (b : List ℕ). b ++ prefix) both ∙ append_assoc first rest prefix, is_w, k_w, frames_push frame kind one vs v rest prefix more is k)

-- one more of a list of values
pub one_more_of : {V : Type 0} (frame : V → List ℕ → Type 0) (kind : V → Kind) (one : Kind) (vs : List V) (i : ℕ) (d : V) (bytes prefix : List ℕ) → i < length vs →
    AreFrames frame kind one (take i vs) bytes → frame (get_or vs i d) prefix → kind (get_or vs i d) ≡ one → AreFrames frame kind one (take (i + 1) vs) (bytes ++ prefix)
one_more_of {V} frame kind one vs i d bytes prefix lt are is k =
    subst (λ (xs : List V). AreFrames frame kind one xs (bytes ++ prefix)) (sym (take_more vs i d lt)) (frames_push frame kind one (take i vs) (get_or vs i d) bytes prefix are is k)

pub replies_put : (replies : List Reply) (bytes out : List ℕ) → CanAnswer replies → AreFrames IsReplyFrame kind_of_reply (kind_of_first_reply replies) replies bytes →
    out ≡ spelling (batch_head (length replies)) ++ bytes → IsBatch IsReplyFrame kind_of_reply replies out
replies_put replies bytes out can are spelled = record {
  some = can.some;
  few = can.few;
  one = kind_of_first_reply replies;
  reads_or_sets = can.reads_or_sets;
  rest = bytes;
  frames = are;
  spelled = spelled;
}

-- each reply of a batch can be told
pub each_told : (replies : List Reply) (i : ℕ) (d : Reply) → CanAnswer replies → i < length replies → CanBeTold (get_or replies i d)
each_told replies i d can lt =
    let e = can.one_kind i d lt in
    item_told (get_or replies i d) (elim can.reads_or_sets [ inl g ↦ inl (e ∙ g) | inr s ↦ inr (e ∙ s) ])

abbrev kind_in : CallFrame → Kind
kind_in f = kind_of f.call

pub one_more : (calls : List Call) (i : ℕ) (d : Call) (bytes frame : List ℕ) → CanBeBatched calls → i < length calls →
    AreFrames IsCallFrame kind_in (kind_of_first calls) (frames_of (take i calls)) bytes → IsFrameOf (get_or calls i d) [] [] frame →
    AreFrames IsCallFrame kind_in (kind_of_first calls) (frames_of (take (i + 1) calls)) (bytes ++ frame)
one_more calls i d bytes frame can lt are is =
    let grows : frames_of (take (i + 1) calls) ≡ frames_of (take i calls) ++ frame_with (get_or calls i d) [] [] ∷ [] =
    ap frames_of (take_more calls i d lt) ∙ map-append (λ (call : Call). frame_with call [] []) (take i calls) (get_or calls i d ∷ []) in
    subst (λ (fs : List CallFrame). AreFrames IsCallFrame kind_in (kind_of_first calls) fs (bytes ++ frame)) (sym grows)
    (frames_push IsCallFrame kind_in (kind_of_first calls) (frames_of (take i calls)) (frame_with (get_or calls i d) [] []) bytes frame are (frame_taken (get_or calls i d) [] [] frame is) (can.one_kind i d lt))

pub batch_put : (calls : List Call) (bytes out : List ℕ) → CanBeBatched calls → AreFrames IsCallFrame kind_in (kind_of_first calls) (frames_of calls) bytes → out ≡ spelling (batch_head (length calls)) ++ bytes →
    IsBatch IsCallFrame kind_in (frames_of calls) out
batch_put calls bytes out can are spelled =
    let len : length (frames_of calls) ≡ length calls = length-map calls (λ (call : Call). frame_with call [] []) in
    record {
      some = omega (arith, len, can.some);
      few = omega (arith, len, can.few);
      one = kind_of_first calls;
      reads_or_sets = can.reads_or_sets;
      rest = bytes;
      frames = are;
      spelled = spelled ∙ ap (λ (n : ℕ). spelling (batch_head n) ++ bytes) (sym len);
    }
