-- Where calls that read or set lead: after good answers the state stays as it was, and after another the instance is where it was, or over.
use Rattle.std.proofs.Common.{◌≡◌, ◌<◌, inl, inr, ℕ, ℤ, Result, Bool, true, false, List, [], ◌∷◌, ◌++◌, length, get_or, take, drop, Option, Some, None, Ok, Err, refl, sym, ap, ◌∙◌, subst, append_assoc}
use Rattle.std.specs.Prelude.{IsTrue, ◌||◌}
use Rattle.std.specs.Result.{result_ok}
use Rattle.std.proofs.lemmas.List.{map-append, take-append-drop}
use Rattle.std.proofs.lemmas.List.Elements.{All-head, All-tail}
use Rattle.value_types.specs.declared.shape.Shape.{Shape}
use Rattle.value_types.specs.declared.values.PortType.{PortType}
use Rattle.fmi_calls.specs.Kinds.{bad_status_of}
use Rattle.fmi_calls.specs.Next.{counted, entered, graded, next_of, state_after_bad}
use Rattle.fmi_calls.specs.Worth.{grade_of}
use Rattle.fmi_calls.specs.declared.call.BadStatus.{BadStatus}
use Rattle.fmi_calls.specs.declared.call.BadStatus.TheVariants as B
use Rattle.fmi_calls.specs.declared.call.Call.{Call}
use Rattle.fmi_calls.specs.declared.call.Call.TheVariants as C
use Rattle.fmi_calls.specs.declared.call.Grade.{Grade}
use Rattle.fmi_calls.specs.declared.call.Grade.TheVariants as G
use Rattle.fmi_calls.specs.declared.call.Reply.{Reply}
use Rattle.fmi_calls.specs.declared.phase.InstanceState.{InstanceState}
use Rattle.fmi_calls.specs.declared.phase.InstanceState.TheVariants as P
use Rattle.fmi_calls.specs.declared.phase.Phase.{Phase}
use Rattle.fmu_peer.specs.declared.peer.Exchange.{Exchange}
use Rattle.fmu_peer.specs.declared.peer.PeerFault.{PeerFault}
use Rattle.fmu_peer.specs.Many.{AnsweredAll, AnsweredFirst, AreOfOneSort, FaultsAfter, Talks, exchanges}
use Rattle.fmu_peer.specs.Mode.{agrees, same_state}
use Rattle.fmu_peer.specs.Talk.{AllGood, IsGood, calls_in}
use Rattle.fmu_peer.specs.View.{Fixed, View, carries_bytes}
use Rattle.fmu_peer.proofs.ManyLemmas.{all_prefix, even}
use Rattle.fmu_peer.proofs.SeveralLemmas.{AreSorts, ReadsOrSets, Sort, Reads, Writes, calls_beside, sort_of}

-- ---- the calls

pub sorts_of : (calls : List Call) → AreOfOneSort calls → AreSorts calls
sorts_of calls s k d lt = elim s.reads_or_sets [
  | inl e ↦ inl (s.each k d lt ∙ e)
  | inr e ↦ inr (s.each k d lt ∙ e)
]

-- no bytes follow one of them
plain_sort : (call : Call) → ReadsOrSets call → carries_bytes call ≡ false
plain_sort call sort = by (sort_of call sort) where
  by : Sort call → carries_bytes call ≡ false
  by (Reads kind reference is) = ap carries_bytes is
  by (Writes kind reference value is) = ap carries_bytes is

pub plain_at : (calls : List Call) (i : ℕ) (d : Call) → AreOfOneSort calls → i < length calls → carries_bytes (get_or calls i d) ≡ false
plain_at calls i d s lt = plain_sort (get_or calls i d) (sorts_of calls s i d lt)

-- of so many of them
sorts_prefix : (calls : List Call) (n : ℕ) → AreSorts calls → AreSorts (take n calls)
sorts_prefix calls n sorts = all_prefix ReadsOrSets (take n calls) (drop n calls) (subst AreSorts (sym (take-append-drop n calls)) sorts)

-- ---- the state after any answer

or_true : (b : Bool) → IsTrue (b || true)
or_true true = refl
or_true false = refl

bad_get : (mode : InstanceState) (phase : Phase) (kind : PortType) (reference : ℕ) (status : BadStatus) → IsTrue (agrees mode phase.state) → IsTrue (agrees mode (state_after_bad phase.state (C.Get kind reference) status))
bad_get mode phase kind reference B.Discard h = h
bad_get mode phase kind reference B.Error h = or_true (same_state P.Dead mode)
bad_get mode phase kind reference B.Fatal h = or_true (same_state P.Lost mode)

bad_set : (mode : InstanceState) (phase : Phase) (kind : PortType) (reference : ℕ) (value : ℤ) (status : BadStatus) → IsTrue (agrees mode phase.state) → IsTrue (agrees mode (state_after_bad phase.state (C.Set kind reference value) status))
bad_set mode phase kind reference value B.Discard h = h
bad_set mode phase kind reference value B.Error h = or_true (same_state P.Dead mode)
bad_set mode phase kind reference value B.Fatal h = or_true (same_state P.Lost mode)

by_get : (mode : InstanceState) (shape : Shape) (phase : Phase) (kind : PortType) (reference : ℕ) (reply : Reply) (g : Grade) → IsTrue (agrees mode phase.state) → IsTrue (agrees mode (graded shape phase (C.Get kind reference) reply g).state)
by_get mode shape phase kind reference reply G.Good h = h
by_get mode shape phase kind reference reply G.Refused h = bad_get mode phase kind reference (bad_status_of reply) h
by_get mode shape phase kind reference reply G.Misreply h = bad_get mode phase kind reference B.Error h

by_set : (mode : InstanceState) (shape : Shape) (phase : Phase) (kind : PortType) (reference : ℕ) (value : ℤ) (reply : Reply) (g : Grade) → IsTrue (agrees mode phase.state) → IsTrue (agrees mode (graded shape phase (C.Set kind reference value) reply g).state)
by_set mode shape phase kind reference value reply G.Good h = h
by_set mode shape phase kind reference value reply G.Refused h = bad_set mode phase kind reference value (bad_status_of reply) h
by_set mode shape phase kind reference value reply G.Misreply h = bad_set mode phase kind reference value B.Error h

agrees_next : (mode : InstanceState) (shape : Shape) (phase : Phase) (call : Call) (answer : Option Reply) → Sort call → IsTrue (agrees mode phase.state) → IsTrue (agrees mode (next_of shape phase call answer).state)
agrees_next mode shape phase call None sort h = or_true (same_state P.Lost mode)
agrees_next mode shape phase call (Some reply) (Reads kind reference is) h =
    subst (λ (c : Call). IsTrue (agrees mode (next_of shape phase c (Some reply)).state)) (sym is)
    (by_get mode shape (counted phase (C.Get kind reference)) kind reference reply (grade_of shape (C.Get kind reference) reply) h)
agrees_next mode shape phase call (Some reply) (Writes kind reference value is) h =
    subst (λ (c : Call). IsTrue (agrees mode (next_of shape phase c (Some reply)).state)) (sym is)
    (by_set mode shape (counted phase (C.Set kind reference value)) kind reference value reply (grade_of shape (C.Set kind reference value) reply) h)

agrees_along : (mode : InstanceState) (old new : View) (es : List Exchange) → Talks old es new → AreSorts (calls_in es) → IsTrue (agrees mode old.phase.state) → IsTrue (agrees mode new.phase.state)
agrees_along mode old new [] same sorts h = subst (λ (v : View). IsTrue (agrees mode v.phase.state)) (sym same) h
agrees_along mode old new (e ∷ es) (mid, may, asked, rest) sorts h =
    agrees_along mode mid new es rest (All-tail ReadsOrSets e.call (calls_in es) sorts)
    (subst (λ (p : Phase). IsTrue (agrees mode p.state)) (sym asked.phase) (agrees_next mode old.fixed.shape old.phase e.call (result_ok e.result) (sort_of e.call (All-head ReadsOrSets e.call (calls_in es) sorts)) h))

pub agrees_first : (mode : InstanceState) (old new : View) (calls : List Call) (replies : List Reply) (count : ℕ) → AnsweredFirst old calls replies count new → length replies ≡ length calls → AreOfOneSort calls →
    IsTrue (agrees mode old.phase.state) → IsTrue (agrees mode new.phase.state)
agrees_first mode old new calls replies count a len sort h =
    agrees_along mode old new (exchanges (take count calls) (take count replies)) a.talks
    (subst AreSorts (sym (calls_beside (take count calls) (take count replies) (sym (even calls replies count len)))) (sorts_prefix calls count (sorts_of calls sort))) h

pub agrees_fault : (mode : InstanceState) (old new : View) (calls : List Call) (before after : List Reply) (fault : PeerFault) → FaultsAfter old calls before after fault new → AreOfOneSort calls →
    IsTrue (agrees mode old.phase.state) → IsTrue (agrees mode new.phase.state)
agrees_fault mode old new calls before after fault f sort h =
    let last : Exchange = record { call = f.call; result = Err fault } in
    let es : List Exchange = exchanges f.prefix f.replies ++ last ∷ [] in
    let calls_are : calls_in es ≡ f.prefix ++ f.call ∷ [] = map-append (λ (e : Exchange). e.call) (exchanges f.prefix f.replies) (last ∷ []) ∙ ap (λ (cs : List Call). cs ++ f.call ∷ []) (calls_beside f.prefix f.replies f.len) in
    let whole : calls ≡ (f.prefix ++ f.call ∷ []) ++ f.left = f.calls_are ∙ sym (append_assoc f.prefix (f.call ∷ []) f.left) in
    let prefix : AreSorts (f.prefix ++ f.call ∷ []) = all_prefix ReadsOrSets (f.prefix ++ f.call ∷ []) f.left (subst AreSorts whole (sorts_of calls sort)) in
    agrees_along mode old new es f.talks (subst AreSorts (sym calls_are) prefix) h

-- ---- the state after good answers

-- the state, and the slot for a saved one, are as they were
pub record Keeps (old new : Phase) : Type 0 where
  pub state : new.state ≡ old.state
  pub slot : new.slot ≡ old.slot

good_keeps : (shape : Shape) (phase : Phase) (call : Call) (reply : Reply) → Sort call → grade_of shape call reply ≡ G.Good → Keeps phase (next_of shape phase call (Some reply))
good_keeps shape phase call reply (Reads kind reference is) good =
    subst (λ (g : Grade). Keeps phase (graded shape (counted phase call) call reply g)) (sym good)
    (subst (λ (c : Call). Keeps phase (entered shape (counted phase c) c reply)) (sym is) (record { state = refl; slot = refl }))
good_keeps shape phase call reply (Writes kind reference value is) good =
    subst (λ (g : Grade). Keeps phase (graded shape (counted phase call) call reply g)) (sym good)
    (subst (λ (c : Call). Keeps phase (entered shape (counted phase c) c reply)) (sym is) (record { state = refl; slot = refl }))

keeps_along : (shape : Shape) (old new : View) (es : List Exchange) → old.fixed.shape ≡ shape → Talks old es new → AllGood shape es → AreSorts (calls_in es) → Keeps old.phase new.phase
keeps_along shape old new [] fixed same good sorts = subst (λ (v : View). Keeps old.phase v.phase) (sym same) (record { state = refl; slot = refl })
keeps_along shape old new (e ∷ es) fixed (mid, may, asked, rest) good sorts =
    let more = keeps_along shape mid new es (ap (λ (f : Fixed). f.shape) asked.fixed ∙ fixed) rest (All-tail (IsGood shape) e es good) (All-tail ReadsOrSets e.call (calls_in es) sorts) in
    let one = first e.call e.result asked.phase (sort_of e.call (All-head ReadsOrSets e.call (calls_in es) sorts)) (All-head (IsGood shape) e es good) in
    record { state = more.state ∙ one.state; slot = more.slot ∙ one.slot }
  where
    first : (call : Call) (result : Result Reply PeerFault) → mid.phase ≡ next_of old.fixed.shape old.phase call (result_ok result) → Sort call → IsGood shape (record { call = call; result = result }) → Keeps old.phase mid.phase
    first call (Ok reply) phase sort is_good =
        subst (λ (p : Phase). Keeps old.phase p) (sym phase) (good_keeps old.fixed.shape old.phase call reply sort (subst (λ (s : Shape). grade_of s call reply ≡ G.Good) (sym fixed) is_good))
    first call (Err fault) phase sort is_good = absurd is_good

-- after calls that were answered well
pub answered_keeps : (old new : View) (calls : List Call) (replies : List Reply) → AnsweredAll old calls replies new → length replies ≡ length calls → AreOfOneSort calls → Keeps old.phase new.phase
answered_keeps old new calls replies a len sort =
    keeps_along old.fixed.shape old new (exchanges calls replies) refl a.talks a.good (subst AreSorts (sym (calls_beside calls replies len)) (sorts_of calls sort))
