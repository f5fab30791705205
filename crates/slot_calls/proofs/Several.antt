-- Several calls to an FMU in a slot: its token, and whether it is marked by Fatal, after them.
use Rattle.std.proofs.Common.{◌≡◌, Bool, false, true, List, [], ◌∷◌, ◌++◌, length, Ok, Err, Result, refl, sym, ap, ◌∙◌, subst, ◌⊎◌, inl, inr}
use Rattle.std.specs.Prelude.{All, IfErr, OnOk, ◌||◌, is_some}
use Rattle.std.proofs.lemmas.List.Elements.{All-head, All-tail}
use Rattle.value_types.specs.declared.shape.Shape.{Shape}
use Rattle.fmi_calls.specs.KindFacts.{facts_of, is_of_saved_states, keeps_state}
use Rattle.fmi_calls.specs.Kinds.{kind_of}
use Rattle.fmi_calls.specs.declared.call.Call.{Call}
use Rattle.fmi_calls.specs.declared.call.Kind.{Kind}
use Rattle.fmi_calls.specs.declared.call.Kind.TheVariants as K
use Rattle.fmi_calls.specs.declared.call.Reply.{Reply}
use Rattle.fmi_calls.specs.declared.phase.SavedPhase.{SavedPhase}
use Rattle.fmu_peer.specs.declared.ended.Why.{Why}
use Rattle.fmu_peer.specs.declared.peer.Exchange.{Exchange}
use Rattle.fmu_peer.specs.declared.slot.Slot.{Slot}
use Rattle.fmu_peer.specs.Close.{any_fatal}
use Rattle.fmu_peer.specs.CloseAll.{instance_in, peer_in}
use Rattle.fmu_peer.specs.Many.{AnsweredAll, AreOfOneSort, FailedAfter, Talks, exchanges}
use Rattle.fmu_peer.specs.Talk.{AllGood, IsGood, calls_in}
use Rattle.fmu_peer.specs.View.{View}
use Rattle.fmu_peer.proofs.KeptStates.{answered_keeps}
use Rattle.fmu_peer.proofs.ManyLemmas.{all_prefix}
use Rattle.fmu_peer.proofs.SeveralLemmas.{calls_beside}
use Rattle.slot_calls.specs.Log.{AnswersAll, Has, StopsAfter}
use Rattle.slot_calls.specs.SavedStates.{saved_after}
use Rattle.slot_calls.specs.Slots.{IsLive, LiveSlot, is_fatal_result, is_fatal_why}
use Rattle.slot_calls.proofs.Moving.{fatal_one, good_answer}
use Rattle.slot_calls.proofs.States.{saved_same}

-- a call that reads or sets keeps no state
keeps_none : (call : Call) (one : Kind) → kind_of call ≡ one → (one ≡ K.Get) ⊎ (one ≡ K.Set) → keeps_state call ≡ false
keeps_none call one is (inl get) = ap (λ (k : Kind). is_of_saved_states (facts_of k).part) (is ∙ get)
keeps_none call one is (inr set) = ap (λ (k : Kind). is_of_saved_states (facts_of k).part) (is ∙ set)

-- of calls of which none keeps a state the token stays
abbrev IsKeepless : Call → Type 0
IsKeepless call = keeps_state call ≡ false

abbrev AreKeepless : List Call → Type 0
AreKeepless calls = All IsKeepless calls

pub sort_keeps : (calls : List Call) → AreOfOneSort calls → AreKeepless calls
sort_keeps calls s k d lt = keeps_none _ s.one (s.each k d lt) s.reads_or_sets

saved_many : (shape : Shape) (had : Bool) (es : List Exchange) → AreKeepless (calls_in es) → saved_after shape had es ≡ had
saved_many shape had [] none = refl
saved_many shape had (e ∷ es) none =
    ap (λ (b : Bool). saved_after shape b es) (saved_same shape e.call e.result had (All-head IsKeepless e.call (calls_in es) none)) ∙ saved_many shape had es (All-tail IsKeepless e.call (calls_in es) none)

-- good answers mark nothing
none_fatal : (shape : Shape) (es : List Exchange) → AllGood shape es → any_fatal shape es ≡ false
none_fatal shape [] good = refl
none_fatal shape (e ∷ es) good =
    ap (λ (b : Bool). b || any_fatal shape es) (good_answer {T = Unit {0}} shape (λ x. tt) e e.result (All-head (IsGood shape) e es good)) ∙ none_fatal shape es (All-tail (IsGood shape) e es good)

fatal_last : (shape : Shape) (prefix : List Exchange) (last : Exchange) → AllGood shape prefix → any_fatal shape (prefix ++ last ∷ []) ≡ any_fatal shape (last ∷ [])
fatal_last shape [] last good = refl
fatal_last shape (e ∷ es) last good =
    ap (λ (b : Bool). b || any_fatal shape (es ++ last ∷ [])) (good_answer {T = Unit {0}} shape (λ x. tt) e e.result (All-head (IsGood shape) e es good)) ∙ fatal_last shape es last (All-tail (IsGood shape) e es good)

or_false : (b : Bool) → (b || false) ≡ b
or_false true = refl
or_false false = refl

-- ---- a slot

module _ {L : Type 0} {g : _} (view : L → View) (old new : Slot L g) (calls : List Call) (sort : AreOfOneSort calls) (source : new.source.0 ≡ old.source.0) (saved : is_some new.saved ≡ is_some old.saved) where
  abbrev shape : Shape
  shape = (view (peer_in old.held)).fixed.shape

  has_all : (es : List Exchange) → Talks (view (peer_in old.held)) es (view (peer_in new.held)) → AreKeepless (calls_in es) → new.is_fatal ≡ (old.is_fatal || any_fatal shape es) → Has (instance_in view old) es (instance_in view new)
  has_all es talks none fatal = record { talks = talks; source = source; saved = saved ∙ sym (saved_many shape (is_some old.saved) es none); fatal = fatal }

  pub answered : (replies : List Reply) → length replies ≡ length calls → AnsweredAll (view (peer_in old.held)) calls replies (view (peer_in new.held)) → new.is_fatal ≡ (old.is_fatal || false) →
      AnswersAll calls replies (instance_in view old) (instance_in view new)
  answered replies len a fatal = record {
    has = has_all (exchanges calls replies) a.talks (subst AreKeepless (sym (calls_beside calls replies len)) (sort_keeps calls sort))
        (fatal ∙ ap (λ (b : Bool). old.is_fatal || b) (sym (none_fatal shape (exchanges calls replies) a.good)));
    good = a.good;
  }

  pub stopped : (why : Why) → FailedAfter (view (peer_in old.held)) calls why (view (peer_in new.held)) → new.is_fatal ≡ (old.is_fatal || is_fatal_why why) →
      StopsAfter calls why (instance_in view old) (instance_in view new)
  stopped why f fatal = record {
    prefix = f.prefix;
    last = f.last;
    left = f.left;
    calls_are = f.calls_are;
    good = f.good;
    bad = f.bad;
    has = has_all (f.prefix ++ f.last ∷ []) f.talks (all_prefix IsKeepless (calls_in (f.prefix ++ f.last ∷ [])) f.left (subst AreKeepless f.calls_are (sort_keeps calls sort)))
        (fatal ∙ ap (λ (b : Bool). old.is_fatal || b) (fatal_one {T = Unit {0}} shape (λ x. tt) f.last (Err why) f.bad ∙ sym (fatal_last shape f.prefix f.last f.good)));
  }

  -- ---- by the result

  pub all_by : (r : Result (Unit {0}) Why) (replies : List Reply) → length replies ≡ length calls → OnOk r (AnsweredAll (view (peer_in old.held)) calls replies (view (peer_in new.held))) →
      new.is_fatal ≡ (old.is_fatal || is_fatal_result r) → OnOk r (AnswersAll calls replies (instance_in view old) (instance_in view new))
  all_by (Ok x) replies len a fatal = answered replies len a fatal
  all_by (Err why) replies len a fatal = tt

  pub stops_by : (r : Result (Unit {0}) Why) → IfErr r (λ why. FailedAfter (view (peer_in old.held)) calls why (view (peer_in new.held))) →
      new.is_fatal ≡ (old.is_fatal || is_fatal_result r) → IfErr r (λ why. StopsAfter calls why (instance_in view old) (instance_in view new))
  stops_by (Ok x) f fatal = tt
  stops_by (Err why) f fatal = stopped why f fatal

  pub live_by : (r : Result (Unit {0}) Why) (replies : List Reply) → length replies ≡ length calls → OnOk r (AnsweredAll (view (peer_in old.held)) calls replies (view (peer_in new.held))) →
      OnOk r (IsLive view new.held) → LiveSlot view old → OnOk r (LiveSlot view new)
  live_by (Ok x) replies len a held live =
      let kept = answered_keeps (view (peer_in old.held)) (view (peer_in new.held)) calls replies a len sort in
      record { held = held; token = saved ∙ live.token ∙ sym (ap (λ (s : SavedPhase). s.is_full) kept.slot) }
  live_by (Err why) replies len a held live = tt
