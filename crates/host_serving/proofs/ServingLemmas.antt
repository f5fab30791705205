-- What comes of a frame after a call that was served, and where a put failed.
use Rattle.std.proofs.Common.{◌≡◌, ◌≢◌, inr, ℕ, suc, ◌+◌, ◌-◌, ◌*◌, ◌^◌, ◌<◌, ◌≤◌, List, [], ◌∷◌, length, map, take, refl, sym, ap, ◌∙◌, subst, arith, Bool, true, false}
use Rattle.std.proofs.lemmas.Bool.{false≢true}
use Rattle.std.specs.Prelude.{IfOk, IsTrue, OnErr, Result, Ok, Err, ◌↔◌}
use Rattle.std.proofs.lemmas.List.{length-take-le, take-take}
use Rattle.sim_base.specs.Causes.{Rose}
use Rattle.sim_base.specs.Sink.{NotesPut, SinkView, with_fault, with_piece}
use Rattle.value_types.specs.declared.shape.Shape.{Shape}
use Rattle.fmi_calls.specs.Kinds.{kind_of_reply}
use Rattle.fmi_calls.specs.Permission.{Permitted}
use Rattle.fmi_calls.specs.declared.phase.Phase.{Phase}
use Rattle.fmi_calls.specs.declared.call.Call.{Call}
use Rattle.fmi_calls.specs.declared.call.Reply.{Reply}
use Rattle.link_frames.specs.declared.call.CallFrame.{CallFrame}
use Rattle.link_frames.specs.Batch.{IsBatch, IsCallBatch}
use Rattle.fmi_calls.specs.declared.call.Call.TheVariants as C
use Rattle.fmi_calls.specs.declared.call.Content.TheVariants as A
use Rattle.fmi_calls.specs.declared.call.Reply.TheVariants as R
use Rattle.link_frames.specs.Reply.{CanBeTold, IsReplyFrame}
use Rattle.sim_base.specs.Source.{SourceView}
use Rattle.fmu_peer.specs.Many.{AnsweredFirst, Talks, exchanges}
use Rattle.fmu_peer.specs.View.{Asked, AskedWith, IsDeserialize, View, carries_bytes}
use Rattle.host_serving.specs.declared.serving.Next.{Next}
use Rattle.host_serving.specs.declared.serving.Next.TheVariants as N
use Rattle.host_serving.specs.declared.serving.ServeEnd.{ServeEnd}
use Rattle.host_serving.specs.declared.serving.ServeEnd.TheVariants as E
use Rattle.host_serving.specs.Frames.{EndsBefore, IsBatchOfCalls, Takes, TakesBatch, TakesCall, TakesWhole, bytes_after}
use Rattle.host_serving.specs.Serving.{BreaksItems, EndsAfter, EndsBy, IsAnswered, IsAsked, IsCounted, IsGiven, IsPut, IsStill, OfBatch, OfInput, OfItem, OfOutput, OfReply, PutFails, PutsReply, Scene, Served, ServesOne, Single, Steps, TakesCalls, Together, Untold, as_sent, served_of, with_state}
use Rattle.host_serving.proofs.FrameLemmas.{takes_none}

pub put_rose : (old new : SinkView) (piece : List ℕ) → new ≡ with_fault old piece → Rose old.faults new.faults
put_rose old new piece e = subst (λ v. Rose old.faults v.faults) (sym e) (omega arith)

-- what was said of a call's permission
pub said_no : (said : Bool) (shape s : Shape) (phase p : Phase) (call : Call) → IsTrue said ↔ Permitted s p call → said ≡ false → s ≡ shape → p ≡ phase → Permitted shape phase call → ⊥
said_no said shape s phase p call told is shape_is phase_is may =
    false≢true (sym is ∙ told.1 (subst (λ (x : Shape). Permitted x p call) (sym shape_is) (subst (λ (x : Phase). Permitted shape x call) (sym phase_is) may)))

pub said_yes : (said : Bool) (shape s : Shape) (phase p : Phase) (call : Call) → IsTrue said ↔ Permitted s p call → said ≡ true → s ≡ shape → p ≡ phase → Permitted shape phase call
said_yes said shape s phase p call told is shape_is phase_is =
    subst (λ (x : Phase). Permitted shape x call) phase_is (subst (λ (x : Shape). Permitted x p call) shape_is (told.0 is))

-- a call that was served, and what it ends
pub after_call : (old new : Scene) (served : Served) (next : Next) → ServesOne old new served → EndsAfter served.call next → Steps old new next
after_call old new served (N.Served count) serves (one, unfreed) = (served ∷ [], one, omega (arith, one), Single served serves unfreed)
after_call old new served (N.Ends end) serves (is, freed) =
    subst (λ e. (e ≢ E.TooMany) × EndsBy old new e) (sym is) ((λ (wrong : E.Freed ≡ E.TooMany). cc), (served, serves, freed))

-- ---- a call with the bytes that follow it

none_after : (call : Call) → carries_bytes call ≡ false → 0 ≡ bytes_after call
none_after (C.Deserialize count point stop) plain = cc
none_after call plain = refl

-- a call that is neither Serialize nor Deserialize
pub plain_left : (call : Call) → (call ≡ C.Serialize → ⊥) → ((count point stop : ℕ) → call ≡ C.Deserialize count point stop → ⊥) → carries_bytes call ≡ false
plain_left C.Serialize other none = absurd (other refl)
plain_left (C.Deserialize count point stop) other none = absurd (none count point stop refl)
plain_left call other none = refl

-- none follow the frame of another call
pub plain_whole : (old new : SourceView) (call : Call) → carries_bytes call ≡ false → TakesCall old new call → TakesWhole old new call []
plain_whole old new call plain takes = record { mid = new; frame = takes; follow = takes_none new; all = none_after call plain }

plain_asked : (old new : View) (call : Call) (reply : Reply) → carries_bytes call ≡ false → Asked old call (Ok reply) new → IsAsked old call [] reply new × IsGiven old call reply []
plain_asked old new C.Serialize reply plain a = absurd (let wrong : true ≡ false = plain in cc)
plain_asked old new (C.Deserialize count point stop) reply plain a = absurd (let wrong : true ≡ false = plain in cc)
plain_asked old new call reply plain a = (a, refl)

pub plain_answer : (old new : Scene) (call : Call) (reply : Reply) → carries_bytes call ≡ false → TakesCall old.input new.input call → Permitted old.machine.fixed.shape old.machine.phase call → Asked old.machine call (Ok reply) new.machine →
    IsAnswered old new (record { call = call; taken = []; reply = reply; given = [] })
plain_answer old new call reply plain takes may a =
    let both = plain_asked old.machine new.machine call reply plain a in
    record { read = plain_whole old.input new.input call plain takes; permitted = may; asked = both.0; given = both.1 }

-- as many follow that of a Deserialize as it says
pub many_after : (call : Call) (count : ℕ) → IsDeserialize call count → count ≡ bytes_after call
many_after (C.Deserialize n point stop) count is = sym is
many_after call count is = absurd is

pub state_whole : (old mid new : SourceView) (call : Call) (count : ℕ) (taken : List ℕ) → IsDeserialize call count → TakesCall old mid call → Takes mid new taken → length taken ≡ count → TakesWhole old new call taken
state_whole old mid new call count taken is frame follow all = record { mid = mid; frame = frame; follow = follow; all = all ∙ many_after call count is }

state_asked : (old new : View) (call : Call) (count : ℕ) (taken : List ℕ) (reply : Reply) → IsDeserialize call count → AskedWith old call taken (Ok reply) new → IsAsked old call taken reply new × IsGiven old call reply []
state_asked old new (C.Deserialize n point stop) count taken reply is a = (a, refl)
state_asked old new call count taken reply is a = absurd is

pub state_answer : (old new : Scene) (mid : SourceView) (call : Call) (count : ℕ) (taken : List ℕ) (reply : Reply) → IsDeserialize call count → TakesCall old.input mid call → Takes mid new.input taken → length taken ≡ count →
    Permitted old.machine.fixed.shape old.machine.phase call → AskedWith old.machine call taken (Ok reply) new.machine → IsAnswered old new (record { call = call; taken = taken; reply = reply; given = [] })
state_answer old new mid call count taken reply is frame follow all may a =
    let both = state_asked old.machine new.machine call count taken reply is a in
    record { read = state_whole old.input mid new.input call count taken is frame follow all; permitted = may; asked = both.0; given = both.1 }

-- fewer came
pub state_short : (old new : Scene) (mid : SourceView) (call : Call) (wanted count : ℕ) → IsDeserialize call wanted → TakesCall old.input mid call → EndsBefore mid new.input wanted count → Permitted old.machine.fixed.shape old.machine.phase call →
    IsStill old new → Steps old new (N.Ends (E.BadFrame (24 + count)))
state_short old new mid call wanted count is frame ends may still = (
  (λ (wrong : E.BadFrame (24 + count) ≡ E.TooMany). cc),
  (inr (call, may, record { mid = mid; frame = frame; count = count; ends = subst (λ (n : ℕ). EndsBefore mid new.input n count) (many_after call wanted is) ends; at_is = refl }), still),
)

-- a take failed after the frame
pub state_failed : (old new : Scene) (mid : SourceView) (call : Call) → TakesCall old.input mid call → Rose mid.faults new.input.faults → IsStill old new → Steps old new (N.Ends E.Failed)
state_failed old new mid call frame rose still =
    ((λ (wrong : E.Failed ≡ E.TooMany). cc), OfInput (subst (λ (n : ℕ). Rose n new.input.faults) frame.takes.quiet rose) still)

-- ---- the bytes that follow a reply

with_some : (view : SinkView) (state : List ℕ) → (length state ≡ 0 → ⊥) → with_state view state ≡ with_piece view state
with_some view [] some = absurd (some refl)
with_some view (x ∷ xs) some = refl

pub state_put : {T E : Type 0} (old mid new : SinkView) (frame state : List ℕ) (result : Result T E) → mid ≡ with_piece old frame → (length state ≡ 0 → ⊥) → NotesPut mid new state result →
    IfOk result (λ (done : T). new ≡ with_state (with_piece old frame) state)
state_put old mid new frame state (Ok done) is some noted = noted ∙ ap (λ (v : SinkView). with_piece v state) is ∙ sym (with_some (with_piece old frame) state some)
state_put old mid new frame state (Err fault) is some noted = tt

pub state_rose : {T E : Type 0} (old mid new : SinkView) (frame state : List ℕ) (result : Result T E) → mid ≡ with_piece old frame → NotesPut mid new state result → OnErr result (Rose old.faults new.faults)
state_rose old mid new frame state (Ok done) is noted = tt
state_rose old mid new frame state (Err fault) is (n, e) =
    subst (λ (m : ℕ). Rose m new.faults) (ap (λ (v : SinkView). v.faults) is) (put_rose mid new (take n state) e)

-- what became of its reply
pub answer_put : (old new : Scene) (served : Served) (next : Next) → IsAnswered old new served → PutsReply old.output new.output served.call served.reply served.given next → Steps old new next
answer_put old new served _ a (IsPut piece next spelled put ends) = after_call old new served next (record { answered = a; piece = piece; spelled = spelled; put = put }) ends
answer_put old new served _ a (PutFails rose) = ((λ (wrong : E.Failed ≡ E.TooMany). cc), OfOutput served a rose)
answer_put old new served _ a (Untold cannot still) = ((λ (wrong : E.Failed ≡ E.TooMany). cc), OfReply served a cannot still)

-- the reply that is put has a frame, too
pub sent_told : (call : Call) (reply : Reply) → CanBeTold reply → CanBeTold (as_sent call reply)
sent_told (C.Instantiate event_mode early_return true) (R.Done is_warning (A.Instantiate batches)) h = tt
sent_told call reply h = h

-- fewer calls were served than are counted, where they weren't too many
pub counted_not : (end : ServeEnd) (count : ℕ) → (end ≡ E.TooMany → ⊥) → count < 2 ^ 64 - 1 → IsCounted end count
counted_not E.TooMany count other few = absurd (other refl)
counted_not end count other few = few

-- ---- the calls of a batch

pub served_length : (calls : List Call) (replies : List Reply) → length replies ≤ length calls → length (served_of calls replies) ≡ length replies
served_length [] [] few = refl
served_length [] (r ∷ rs) few = absurd (omega (arith, few))
served_length (c ∷ cs) [] few = refl
served_length (c ∷ cs) (r ∷ rs) few = ap suc (served_length cs rs (omega (arith, few)))

-- the replies are those in the first places
answered_alone : (old new : View) (calls : List Call) (places : List Reply) (n : ℕ) → n ≤ length places → AnsweredFirst old calls places n new → AnsweredFirst old calls (take n places) (length (take n places)) new
answered_alone old new calls places n within a =
    let again : take n (take n places) ≡ take n places = take-take n n places (omega arith) in
    subst (λ (k : ℕ). AnsweredFirst old calls (take n places) k new) (sym (length-take-le n places within)) (record {
      within = a.within;
      talks = subst (λ (rs : List Reply). Talks old (exchanges (take n calls) rs) new) (sym again) a.talks;
      prefix = a.prefix;
      last = a.last;
      is = ap (exchanges (take n calls)) again ∙ a.is;
      good = a.good;
      ends = a.ends;
    })

-- a batch of replies that was put
pub after_batch : (old new : Scene) (calls : List Call) (places : List Reply) (n : ℕ) (piece : List ℕ) → TakesCalls old new calls → n ≤ length places → AnsweredFirst old.machine calls places n new.machine →
    IsBatch IsReplyFrame kind_of_reply (take n places) piece → new.output ≡ with_piece old.output piece → Steps old new (N.Served n)
after_batch old new calls places n piece read within a spelled put =
    let size = length-take-le n places within in
    let some = spelled.some in
    let few = a.within in
    let long = served_length calls (take n places) (omega (arith, size, few)) in (
      served_of calls (take n places),
      omega (arith, long, size),
      omega (arith, some, size),
      Together calls (take n places) (record { answered = record { read = read; answered = answered_alone old.machine new.machine calls places n within a }; piece = piece; spelled = spelled; put = put }),
    )

-- one whose put failed
pub lost_batch : (old new : Scene) (calls : List Call) (places : List Reply) (n : ℕ) → TakesCalls old new calls → n ≤ length places → AnsweredFirst old.machine calls places n new.machine → Rose old.output.faults new.output.faults →
    Steps old new (N.Ends E.Failed)
lost_batch old new calls places n read within a rose =
    ((λ (wrong : E.Failed ≡ E.TooMany). cc), OfBatch calls (take n places) (record { read = read; answered = answered_alone old.machine new.machine calls places n within a }) rose)

-- a call of a batch that isn't permitted, or got no reply that can be put
pub broken_items : (old new : Scene) (calls : List Call) (end : ServeEnd) → TakesCalls old new calls → BreaksItems calls old.machine new.machine end → new.output ≡ old.output → Steps old new (N.Ends end)
broken_items old new calls (E.NotPermitted call) read breaks still = ((λ (wrong : E.NotPermitted call ≡ E.TooMany). cc), inr (calls, read, breaks, still))
broken_items old new calls E.Failed read breaks still = ((λ (wrong : E.Failed ≡ E.TooMany). cc), OfItem calls read breaks still)
broken_items old new calls end read breaks still = absurd breaks

-- the calls of a batch of so many
pub calls_in : (count : ℕ) (bytes : List ℕ) → IsCallBatch count bytes → (calls : List Call) × IsBatchOfCalls calls bytes
calls_in count bytes b = (map (λ (f : CallFrame). f.call) b.values, record { frames = b.values; is = refl; batch = b.batch })

pub took_calls : (old new : Scene) (room : List ℕ) (count : ℕ) (calls : List Call) → TakesBatch old.input new.input room count → IsBatchOfCalls calls (take (24 * (count + 1)) room) → TakesCalls old new calls
took_calls old new room count calls takes is = record { bytes = take (24 * (count + 1)) room; batch = is; takes = takes.takes }
