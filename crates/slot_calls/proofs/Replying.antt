-- The replies of told machines.
use Rattle.std.proofs.Common.{◌≡◌, List, [], ◌∷◌, ◌++◌, Option, Some, Result, Ok, Err, refl, ap, ◌∙◌, subst}
use Rattle.std.specs.Prelude.{MatchResult}
use Rattle.std.proofs.lemmas.List.Elements.{All-head, All-tail}
use Rattle.value_types.specs.declared.shape.Shape.{Shape}
use Rattle.fmi_calls.specs.declared.call.Call.{Call}
use Rattle.fmi_calls.specs.declared.call.Grade.TheVariants as G
use Rattle.fmi_calls.specs.declared.call.Reply.{Reply}
use Rattle.fmi_calls.specs.Worth.{grade_of}
use Rattle.fmu_peer.specs.declared.peer.Exchange.{Exchange}
use Rattle.fmu_peer.specs.declared.peer.PeerFault.{PeerFault}
use Rattle.fmu_peer.specs.Machine.{Machine, MachineState, after}
use Rattle.fmu_peer.specs.Talk as T
use Rattle.fmu_peer.specs.View.{AnswersAs, Asked, Fixed, View}
use Rattle.slot_calls.specs.Log.{Talks}
use Rattle.slot_calls.specs.Replies.{RepliesBy, state_by}

module _ (m : Machine) where
  pub state_by_append : (s : MachineState) (es fs : List Exchange) → state_by m s (es ++ fs) ≡ state_by m (state_by m s es) fs
  state_by_append s [] fs = refl
  state_by_append s (e ∷ es) fs = state_by_append (after m s e.call) es fs

  -- a good answer is the machine's
  pub replied_good : (shape : Shape) (s : MachineState) (e : Exchange) (es : List Exchange) → T.IsGood shape e → RepliesBy m s (e ∷ es) → (e.result ≡ Ok (m.look s e.call)) × RepliesBy m (after m s e.call) es
  replied_good shape s e es good h = by e.result good h where
    by : (r : Result Reply PeerFault) → MatchResult r (λ reply. grade_of shape e.call reply ≡ G.Good) (λ fault. ⊥) →
        MatchResult r (λ reply. (reply ≡ m.look s e.call) × RepliesBy m (after m s e.call) es) (λ fault. Unit {0}) → (r ≡ Ok (m.look s e.call)) × RepliesBy m (after m s e.call) es
    by (Ok reply) g k = (ap Ok k.0, k.1)
    by (Err fault) g k = absurd g

  pub replies_prefix : (s : MachineState) (es fs : List Exchange) → RepliesBy m s (es ++ fs) → RepliesBy m s es
  replies_prefix s [] fs h = tt
  replies_prefix s (e ∷ es) fs h = by e.result h (λ k. replies_prefix (after m s e.call) es fs k) where
    by : (r : Result Reply PeerFault) → MatchResult r (λ reply. (reply ≡ m.look s e.call) × RepliesBy m (after m s e.call) (es ++ fs)) (λ fault. Unit {0}) →
        (RepliesBy m (after m s e.call) (es ++ fs) → RepliesBy m (after m s e.call) es) →
        MatchResult r (λ reply. (reply ≡ m.look s e.call) × RepliesBy m (after m s e.call) es) (λ fault. Unit {0})
    by (Ok reply) k on = (k.0, on k.1)
    by (Err fault) k on = tt

  -- after good ones
  pub replies_back : (shape : Shape) (s : MachineState) (es fs : List Exchange) → T.AllGood shape es → RepliesBy m s (es ++ fs) → RepliesBy m (state_by m s es) fs
  replies_back shape s [] fs good h = h
  replies_back shape s (e ∷ es) fs good h =
      replies_back shape (after m s e.call) es fs (All-tail (T.IsGood shape) e es good) (replied_good shape s e (es ++ fs) (All-head (T.IsGood shape) e es good) h).1

-- ---- a told machine
module _ (m : Machine) where
  replied : (s : MachineState) (v w : View) (call : Call) (r : Result Reply PeerFault) (es : List Exchange) → Asked v call r w → v.fixed.machine ≡ Some m → v.state ≡ Some s →
      ((z : MachineState) → w.state ≡ Some z → RepliesBy m z es) → MatchResult r (λ reply. (reply ≡ m.look s call) × RepliesBy m (after m s call) es) (λ fault. Unit {0})
  replied s v w call (Ok reply) es asked machine state rest =
      let here : AnswersAs (Some m) (Some s) call (Ok reply) w.state =
      subst (λ (o : Option MachineState). AnswersAs (Some m) o call (Ok reply) w.state) state (subst (λ (o : Option Machine). AnswersAs o v.state call (Ok reply) w.state) machine asked.state) in
      (here.0, rest (after m s call) here.1)
  replied s v w call (Err fault) es asked machine state rest = tt

  -- its replies are those to the calls
  pub replies_of : (v : View) (es : List Exchange) (w : View) → Talks v es w → (s : MachineState) → v.fixed.machine ≡ Some m → v.state ≡ Some s → RepliesBy m s es
  replies_of v [] w t s machine state = tt
  replies_of v (e ∷ es) w (mid, may, asked, rest) s machine state =
      replied s v mid e.call e.result es asked machine state (λ z here. replies_of mid es w rest z (ap (λ (f : Fixed). f.machine) asked.fixed ∙ machine) here)
