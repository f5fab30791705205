-- One call of a peer, and of what is held.
use Rattle.std.proofs.Common.{◌≡◌, Bool, false, true, [], ◌∷◌, Ok, Err, Result, Some, refl, sym, ap, ap₂, ◌∙◌, subst, ℤ, arith, to_z, of_z}
use Rattle.std.specs.Prelude.{FitsSigned, if◌then◌else◌, ◌||◌, IfOk, IfErr, MatchResult, OnOk, is_some}
use Rattle.std.specs.Int.{w128}
use Rattle.std.proofs.lemmas.Int.{ints, to_z-of_z}
use Rattle.value_types.specs.Values.{Fits}
use Rattle.value_types.specs.declared.values.PortType.TheVariants as T
use Rattle.value_types.specs.declared.values.PortType.{PortType}
use Rattle.value_types.specs.declared.shape.Shape.{Shape}
use Rattle.fmi_calls.specs.declared.call.Call.{Call}
use Rattle.fmi_calls.specs.declared.call.Call.TheVariants as C
use Rattle.fmi_calls.specs.declared.call.Content.TheVariants as A
use Rattle.fmi_calls.specs.declared.call.Reply.{Reply}
use Rattle.fmi_calls.specs.declared.call.Reply.TheVariants as R
use Rattle.fmi_calls.specs.declared.call.Grade.{Grade}
use Rattle.fmi_calls.specs.declared.call.Grade.TheVariants as G
use Rattle.fmi_calls.specs.declared.phase.Phase.{Phase}
use Rattle.fmi_calls.specs.declared.phase.InstanceState.TheVariants as P
use Rattle.fmi_calls.specs.KindFacts.{keeps_state}
use Rattle.fmi_calls.specs.Next.{graded, counted, entered}
use Rattle.fmi_calls.specs.Permission.{Permitted}
use Rattle.fmi_calls.specs.Worth.{grade_of}
use Rattle.fmu_peer.specs.declared.ended.Why.{Why}
use Rattle.fmu_peer.specs.declared.ended.Why.TheVariants.{Refused, Misreply, Link}
use Rattle.fmu_peer.specs.declared.peer.Exchange.{Exchange}
use Rattle.fmu_peer.specs.declared.slot.Held.{Held}
use Rattle.fmu_peer.specs.Answer.{Answered, Failed, IsWhy}
use Rattle.fmu_peer.specs.declared.peer.PeerFault.{PeerFault}
use Rattle.fmu_peer.specs.declared.slot.Slot.{Slot}
use Rattle.fmu_peer.specs.Close.{any_fatal, is_fatal_answer, is_fatal_reply, is_fatal_status}
use Rattle.fmu_peer.specs.CloseAll.{instance_in, peer_in}
use Rattle.fmu_peer.specs.View.{View}
use Rattle.run_model.specs.Stepping.{is_terminating}
use Rattle.slot_calls.specs.Carried.{reply_in, with_some}
use Rattle.slot_calls.specs.Log.{One, Worth}
use Rattle.slot_calls.specs.Slots.{Moves, Called, IsLive, LiveSlot, Stays, is_fatal_result, keeps_mode}
use Rattle.slot_calls.specs.SavedStates.{if_good, saved_by}
use Rattle.slot_calls.proofs.Leading.{led}
use Rattle.slot_calls.proofs.States.{saved_same}

-- the phase after a good answer
pub phase_by_good : (old new : View) (call : Call) (reply : Reply) → Answered old call reply new → new.phase ≡ entered old.fixed.shape (counted old.phase call) call reply
phase_by_good old new call reply a =
    a.asked.phase ∙ ap (λ (g : Grade). graded old.fixed.shape (counted old.phase call) call reply g) a.good

pub state_by_good : (old new : View) (call : Call) (reply : Reply) → Answered old call reply new → new.phase.state ≡ (entered old.fixed.shape (counted old.phase call) call reply).state
state_by_good old new call reply a = ap (λ (p : Phase). p.state) (phase_by_good old new call reply a)

module _ {T : Type 0} (old new : View) (call : Call) (value : Exchange → T) where
  pub called_good : (reply : Reply) (x : T) → Permitted old.fixed.shape old.phase call → Answered old call reply new → x ≡ value (record { call = call; result = Ok reply }) → Called call value old new (Ok x)
  called_good reply x may a is = record {
    exchange = record { call = call; result = Ok reply };
    is = refl;
    talks = (new, may, a.asked, refl);
    worth = (a.good, is);
  }

  pub called_bad : (why : Why) → Permitted old.fixed.shape old.phase call → Failed old call why new → Called call value old new (Err why)
  called_bad (Refused c status) may f = record {
    exchange = record { call = call; result = Ok f.fails.0 };
    is = refl;
    talks = (new, may, f.fails.4, refl);
    worth = (f.fails.0, sym f.fails.1, refl, f.fails.2, subst (λ (d : Call). grade_of old.fixed.shape d f.fails.0 ≡ G.Refused) (sym f.fails.1) f.fails.3);
  }
  called_bad (Misreply c reply) may f = record {
    exchange = record { call = call; result = Ok reply };
    is = refl;
    talks = (new, may, f.fails.2, refl);
    worth = (sym f.fails.0, refl, subst (λ (d : Call). grade_of old.fixed.shape d reply ≡ G.Misreply) (sym f.fails.0) f.fails.1);
  }
  called_bad (Link c fault) may f = record {
    exchange = record { call = call; result = Err fault };
    is = refl;
    talks = (new, may, f.fails.1, refl);
    worth = (sym f.fails.0, refl);
  }

module _ {L T : Type 0} {g : _} (view : L → View) (old new : Held L g) (call : Call) (value : Exchange → T) where
  pub moves_good : (reply : Reply) (x : T) → Permitted (view (peer_in old)).fixed.shape (view (peer_in old)).phase call → Answered (view (peer_in old)) call reply (view (peer_in new)) →
      x ≡ value (record { call = call; result = Ok reply }) → IsLive view new → Moves view old call value new (Ok x)
  moves_good reply x may a is live = record { called = called_good (view (peer_in old)) (view (peer_in new)) call value reply x may a is; live = live }

  pub moves_bad : (why : Why) → Permitted (view (peer_in old)).fixed.shape (view (peer_in old)).phase call → Failed (view (peer_in old)) call why (view (peer_in new)) →
      Moves view old call value new (Err why)
  moves_bad why may f = record { called = called_bad (view (peer_in old)) (view (peer_in new)) call value why may f; live = tt }

-- ---- a call that leaves an FMU in Step Mode

module _ {T : Type 0} (old new : View) (call : Call) (value : Exchange → T) (had has : Bool) where
  pub stays_good : (reply : Reply) (x : T) → Permitted old.fixed.shape old.phase call → Answered old call reply new → x ≡ value (record { call = call; result = Ok reply }) →
      (entered old.fixed.shape (counted old.phase call) call reply).state ≡ P.Step → has ≡ saved_by old.fixed.shape call (Ok reply) had → Stays call value old new had has (Ok x)
  unfolding called_good
  stays_good reply x may a is state token = record { called = called_good old new call value reply x may a is; state = state_by_good old new call reply a ∙ state; token = token }

  pub stays_bad : (why : Why) → Permitted old.fixed.shape old.phase call → Failed old call why new → ((e : Exchange) → e.call ≡ call → IsWhy old.fixed.shape why e → has ≡ saved_by old.fixed.shape e.call e.result had) →
      Stays call value old new had has (Err why)
  stays_bad why may f token =
      let called = called_bad old new call value why may f in
      record { called = called; state = tt; token = token called.exchange called.is called.worth }

-- ---- no answer but a step's asks for the end

abbrev is_step : Call → Bool
is_step (C.DoStep at size) = true
is_step call = false

module _ (shape : Shape) where
  pub grade_no : (b : Bool) → b ≡ false → (if b then G.Good else G.Misreply) ≡ G.Good → ⊥
  grade_no true h k = absurd (cc)
  grade_no false h k = absurd (cc)

  pub ends_none : (call : Call) → is_step call ≡ false → (reply : Reply) → grade_of shape call reply ≡ G.Good → false ≡ is_terminating reply
  ends_none (C.DoStep at size) none reply h = absurd (cc)
  ends_none call none (R.Done is_warning (A.DoStep event_needed terminate e end)) h = absurd (grade_no false refl h)
  ends_none call none reply h = refl

-- ---- a call that leaves the mode

module _ (old new : View) (call : Call) where
  pub called_sent : (r : Result Reply Why) → Permitted old.fixed.shape old.phase call → IfOk r (λ reply. Answered old call reply new) → IfErr r (λ why. Failed old call why new) →
      Called call reply_in old new (with_some r)
  called_sent (Ok reply) may good bad = called_good old new call reply_in reply (Some reply) may good refl
  called_sent (Err why) may good bad = called_bad old new call reply_in why may bad

-- ---- Fatal

or_false : (b : Bool) → b ≡ (b || false)
or_false true = refl
or_false false = refl

-- the answer of one exchange is a refusal with Fatal exactly where its result is
module _ {T : Type 0} (shape : Shape) (value : Exchange → T) (e : Exchange) where
  pub good_answer : (r : Result Reply PeerFault) → MatchResult r (λ reply. grade_of shape e.call reply ≡ G.Good) (λ fault. ⊥) → is_fatal_answer shape e.call r ≡ false
  good_answer (Ok reply) good = ap (λ g. is_fatal_reply g reply) good
  good_answer (Err fault) good = absurd good

  pub fatal_one : (r : Result T Why) → Worth shape value e r → is_fatal_result r ≡ any_fatal shape (e ∷ [])
  fatal_one (Ok x) worth = sym (good_answer e.result worth.0) ∙ or_false (is_fatal_answer shape e.call e.result)
  fatal_one (Err (Refused c status)) (reply, call, result, is, grade) =
      ap is_fatal_status is ∙ sym (ap (λ g. is_fatal_reply g reply) (ap (λ (d : Call). grade_of shape d reply) call ∙ grade)) ∙ ap (is_fatal_answer shape e.call) (sym result)
      ∙ or_false (is_fatal_answer shape e.call e.result)
  fatal_one (Err (Misreply c reply)) (call, result, grade) =
      sym (ap (λ g. is_fatal_reply g reply) (ap (λ (d : Call). grade_of shape d reply) call ∙ grade)) ∙ ap (is_fatal_answer shape e.call) (sym result)
      ∙ or_false (is_fatal_answer shape e.call e.result)
  fatal_one (Err (Link c fault)) (call, result) = ap (is_fatal_answer shape e.call) (sym result) ∙ or_false (is_fatal_answer shape e.call e.result)

pub fatal_some : {A : Type 0} (r : Result A Why) → is_fatal_result (with_some r) ≡ is_fatal_result r
fatal_some (Ok x) = refl
fatal_some (Err why) = refl

pub ok_some : {A : Type 0} (P : Type 0) (r : Result A Why) → OnOk (with_some r) P → OnOk r P
ok_some P (Ok x) p = p
ok_some P (Err why) p = tt

-- the calls that are sent to a slot keep no state
pub mode_keeps : (call : Call) → keeps_mode call ≡ true → keeps_state call ≡ false
mode_keeps C.Save mode = absurd (cc)
mode_keeps C.Restore mode = absurd (cc)
mode_keeps C.Free mode = absurd (cc)
mode_keeps C.Serialize mode = absurd (cc)
mode_keeps (C.Deserialize length point stop) mode = absurd (cc)
mode_keeps call mode = refl

-- a slot that is marked by its result, and has its token by the call, from the call to its peer
pub one_called : {L T : Type 0} {g : _} (view : L → View) (old new : Slot L g) (call : Call) (value : Exchange → T) (r : Result T Why) → (called : Called call value (view (peer_in old.held)) (view (peer_in new.held)) r) →
    new.source.0 ≡ old.source.0 → is_some new.saved ≡ saved_by (view (peer_in old.held)).fixed.shape called.exchange.call called.exchange.result (is_some old.saved) → new.is_fatal ≡ (old.is_fatal || is_fatal_result r) →
    One call value (instance_in view old) (instance_in view new) r
one_called view old new call value r called source saved fatal = record {
  exchange = called.exchange;
  is = called.is;
  has = record {
    talks = called.talks;
    source = source;
    saved = saved;
    fatal = fatal ∙ ap (λ (b : Bool). old.is_fatal || b) (fatal_one (view (peer_in old.held)).fixed.shape value called.exchange r called.worth);
  };
  worth = called.worth;
}

-- a call that keeps no state leaves the token
pub one_moved : {L T : Type 0} {g : _} (view : L → View) (old new : Slot L g) (call : Call) (value : Exchange → T) (r : Result T Why) → Moves view old.held call value new.held r →
    new.source.0 ≡ old.source.0 → is_some new.saved ≡ is_some old.saved → keeps_state call ≡ false → new.is_fatal ≡ (old.is_fatal || is_fatal_result r) → One call value (instance_in view old) (instance_in view new) r
one_moved view old new call value r moves source saved keeps fatal =
    one_called view old new call value r moves.called source
    (saved ∙ sym (saved_same (view (peer_in old.held)).fixed.shape moves.called.exchange.call moves.called.exchange.result (is_some old.saved) (ap keeps_state moves.called.is ∙ keeps))) fatal

-- a good answer leaves a slot the token of a saved state exactly where the phase has one
full_by : (shape : Shape) (p : Phase) (call : Call) (reply : Reply) → grade_of shape call reply ≡ G.Good → (entered shape (counted p call) call reply).slot.is_full ≡ saved_by shape call (Ok reply) p.slot.is_full
full_by shape p C.Save reply good = sym (ap (λ (g : Grade). if_good g p.slot.is_full) good)
full_by shape p (C.Deserialize length point stop) reply good = sym (ap (λ (g : Grade). if_good g p.slot.is_full) good)
full_by shape p call reply good = refl

pub live_on : {L T : Type 0} {g : _} (view : L → View) (old new : Slot L g) (call : Call) (value : Exchange → T) (r : Result T Why) → One call value (instance_in view old) (instance_in view new) r → LiveSlot view old → OnOk r (IsLive view new.held) →
    OnOk r (LiveSlot view new)
live_on view old new call value (Ok x) o live held =
    let l = led (view (peer_in old.held)) (view (peer_in new.held)) o.exchange o.has.talks o.worth.0 in
    let before = view (peer_in old.held) in
    record {
      held = held;
      token = o.has.saved ∙ ap₂ (saved_by before.fixed.shape o.exchange.call) l.is live.token ∙ sym (full_by before.fixed.shape before.phase o.exchange.call l.reply l.good) ∙ ap (λ (p : Phase). p.slot.is_full) (sym l.phase);
    }
live_on view old new call value (Err why) o live held = tt

-- ---- values

-- a value of a type has at most 128 bits
fits_wide : (kind : PortType) (value : ℤ) → Fits kind value → FitsSigned w128 value
fits_wide T.Int8 value (low, high) = omega (arith, ints)
fits_wide T.UInt8 value (low, high) = omega (arith, ints)
fits_wide T.Int16 value (low, high) = omega (arith, ints)
fits_wide T.UInt16 value (low, high) = omega (arith, ints)
fits_wide T.Int32 value (low, high) = omega (arith, ints)
fits_wide T.UInt32 value (low, high) = omega (arith, ints)
fits_wide T.Int64 value (low, high) = omega (arith, ints)
fits_wide T.UInt64 value (low, high) = omega (arith, ints)
fits_wide T.Boolean value (low, high) = omega (arith, ints)
fits_wide T.Enumeration value (low, high) = omega (arith, ints)
fits_wide T.Clock value (low, high) = omega (arith, ints)

-- so it is the same once it was passed on
pub passed_on : (kind : PortType) (value : ℤ) → Fits kind value → to_z w128 (of_z w128 value) ≡ value
passed_on kind value fits = to_z-of_z w128 value (fits_wide kind value fits)
