-- What the closing of an instance sends, call by call.
use Rattle.std.proofs.Common.{◌≡◌, inl, inr, Bool, true, false, List, [], ◌∷◌, Result, refl, sym, ap, ◌∙◌, subst}
use Rattle.std.specs.Prelude.{◌||◌, IsTrue}
use Rattle.value_types.specs.declared.shape.Shape.{Shape}
use Rattle.fmi_calls.specs.declared.call.Call.{Call}
use Rattle.fmi_calls.specs.declared.call.Reply.{Reply}
use Rattle.fmi_calls.specs.declared.phase.Phase.{Phase}
use Rattle.fmi_calls.specs.Permission.{Permitted}
use Rattle.fmu_peer.specs.declared.peer.Exchange.{Exchange}
use Rattle.fmu_peer.specs.declared.peer.PeerFault.{PeerFault}
use Rattle.fmu_peer.specs.Close.{SendsInTurn, ClosesWith, any_fatal, closing_calls, is_fatal_answer}
use Rattle.fmu_peer.specs.CloseAll.{Instance, Closes}
use Rattle.fmu_peer.specs.View.{View, Asked, Fixed}
use Rattle.fmu_peer.proofs.ShutLemmas.{closed_by}

or_false : (b : Bool) → (b || false) ≡ b
or_false true = refl
or_false false = refl

pub sends_one : (old new : View) (call : Call) (result : Result Reply PeerFault) (fatal : Bool) → Permitted old.fixed.shape old.phase call → Asked old call result new →
    fatal ≡ is_fatal_answer old.fixed.shape call result → ClosesWith (call ∷ []) old fatal new
sends_one old new call result fatal may asked is = record {
  sent = record { call = call; result = result } ∷ [];
  turn = inl (may, (result, [], new, refl, asked, (refl, refl)));
  fatal_is = is ∙ sym (or_false (is_fatal_answer old.fixed.shape call result));
}

pub sends_none : (v : View) (call : Call) → (Permitted v.fixed.shape v.phase call → ⊥) → ClosesWith (call ∷ []) v false v
sends_none v call never = record { sent = []; turn = inr (never, (refl, refl)); fatal_is = refl }

-- what isn't permitted isn't sent
pub not_permitted : (v : View) (call : Call) (shape : Shape) (phase : Phase) (b : Bool) → shape ≡ v.fixed.shape → phase ≡ v.phase → (Permitted shape phase call → IsTrue b) → b ≡ false → ClosesWith (call ∷ []) v false v
not_permitted v call shape phase b same at when never =
    sends_none v call (λ (may : Permitted v.fixed.shape v.phase call).
    let holds : IsTrue b = when (subst (λ (p : Phase). Permitted shape p call) (sym at) (subst (λ (s : Shape). Permitted s v.phase call) (sym same) may)) in
    let wrong : false ≡ true = sym never ∙ holds in
    absurd (cc))

or_assoc : (a b c d : Bool) → a ≡ (b || false) → c ≡ d → (a || c) ≡ (b || d)
or_assoc a true c d e f = ap (λ (x : Bool). x || c) e
or_assoc a false c d e f = ap (λ (x : Bool). x || c) e ∙ f

-- a call, and those after it
pub then_more : (old mid new : View) (c : Call) (cs : List Call) (f g : Bool) → mid.fixed ≡ old.fixed → ClosesWith (c ∷ []) old f mid → ClosesWith cs mid g new → ClosesWith (c ∷ cs) old (f || g) new
then_more old mid new c cs f g same h k = elim h.turn [
  | inl (may, (result, rest, there, is, asked, (none, last))) ↦ record {
    sent = record { call = c; result = result } ∷ k.sent;
    turn = inl (may, (result, k.sent, mid, refl, subst (Asked old c result) (sym last) asked, k.turn));
    fatal_is = or_assoc f (is_fatal_answer old.fixed.shape c result) g (any_fatal old.fixed.shape k.sent)
        (h.fatal_is ∙ ap (any_fatal old.fixed.shape) is ∙ ap (λ (es : List Exchange). is_fatal_answer old.fixed.shape c result || any_fatal old.fixed.shape es) none)
        (k.fatal_is ∙ ap (λ (x : Fixed). any_fatal x.shape k.sent) same);
  }
  | inr (never, (none, last)) ↦ record {
    sent = k.sent;
    turn = inr (never, subst (λ (v : View). SendsInTurn cs v k.sent new) last k.turn);
    fatal_is = ap (λ (x : Bool). x || g) (h.fatal_is ∙ ap (any_fatal old.fixed.shape) none) ∙ k.fatal_is ∙ ap (λ (x : Fixed). any_fatal x.shape k.sent) same;
  }
]

-- a call that is sent in turn leaves what stays
pub fixed_by_one : (old mid : View) (c : Call) (f : Bool) → ClosesWith (c ∷ []) old f mid → mid.fixed ≡ old.fixed
fixed_by_one old mid c f h = elim h.turn [
  | inl (may, (result, rest, there, is, asked, (none, last))) ↦ ap (λ (v : View). v.fixed) last ∙ asked.fixed
  | inr (never, (none, last)) ↦ ap (λ (v : View). v.fixed) last
]

then_one : (old mid new : View) (c : Call) (cs : List Call) (f g : Bool) → ClosesWith (c ∷ []) old f mid → ClosesWith cs mid g new → ClosesWith (c ∷ cs) old (f || g) new
then_one old mid new c cs f g h k = then_more old mid new c cs f g (fixed_by_one old mid c f h) h k

pub then_first : (old mid new : View) (c : Call) (cs : List Call) (f g : Bool) → f ≡ true → ClosesWith (c ∷ []) old f mid → ClosesWith cs mid g new → ClosesWith (c ∷ cs) old f new
then_first old mid new c cs f g e h k =
    subst (λ (b : Bool). ClosesWith (c ∷ cs) old b new) (sym e) (then_one old mid new c cs true g (subst (λ (b : Bool). ClosesWith (c ∷ []) old b mid) e h) k)

pub then_rest : (old mid new : View) (c : Call) (cs : List Call) (f g : Bool) → f ≡ false → ClosesWith (c ∷ []) old f mid → ClosesWith cs mid g new → ClosesWith (c ∷ cs) old g new
then_rest old mid new c cs f g e h k = then_one old mid new c cs false g (subst (λ (b : Bool). ClosesWith (c ∷ []) old b mid) e h) k

-- ---- slots

pub or_first : (a b d : Bool) → a ≡ true → d ≡ true → d ≡ (a || b)
or_first true b d h k = k
or_first false b d h k = absurd (cc)

pub or_second : (a b d : Bool) → a ≡ false → d ≡ b → d ≡ (a || b)
or_second true b d h k = absurd (cc)
or_second false b d h k = k

pub closes_same : (b d : Bool) (v old : View) (f fatal : Bool) (w new : View) → b ≡ d → v ≡ old → fatal ≡ f → new ≡ w → ClosesWith (closing_calls b) v f w → ClosesWith (closing_calls d) old fatal new
closes_same b d v old f fatal w new same from is to h =
    subst (λ (x : View). ClosesWith (closing_calls d) old fatal x) (sym to)
    (subst (λ (x : Bool). ClosesWith (closing_calls d) old x w) (sym is)
    (subst (λ (x : View). ClosesWith (closing_calls d) x f w) from
    (subst (λ (x : Bool). ClosesWith (closing_calls x) v f w) same h)))

-- an instance that is spared
pub closes_spared : (spared : Bool) (old new : Instance) (fatal : Bool) → spared ≡ true → fatal ≡ false → new.view ≡ old.view → new.source ≡ old.source → new.has_saved ≡ false → new.is_closed ≡ true → new.is_fatal ≡ (old.is_fatal || fatal) → Closes spared old new
closes_spared spared old new fatal is_spared none view source spent shut is =
    subst (λ (b : Bool). Closes b old new) (sym is_spared) ([], record { turn = (refl, view); source = source; spent = spent; shut = shut; fatal = is ∙ ap (λ (b : Bool). old.is_fatal || b) none; closed = λ (e : true ≡ false). absurd (cc) })

-- an instance that is sent what closes it
pub closes_called : (spared : Bool) (old new : Instance) (fatal : Bool) → spared ≡ false → ClosesWith (closing_calls old.has_saved) old.view fatal new.view → new.source ≡ old.source → new.has_saved ≡ false → new.is_closed ≡ true → new.is_fatal ≡ (old.is_fatal || fatal) → Closes spared old new
closes_called spared old new fatal not_spared h source spent shut is =
    subst (λ (b : Bool). Closes b old new) (sym not_spared) (h.sent, record { turn = h.turn; source = source; spent = spent; shut = shut; fatal = is ∙ ap (λ (b : Bool). old.is_fatal || b) h.fatal_is; closed = λ e talk left. closed_by old new.view h.sent talk left h.turn })
