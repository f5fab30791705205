-- Where a good answer leads.
use Rattle.std.proofs.Common.{◌≡◌, [], ◌∷◌, Result, Ok, Err, refl, sym, ap, ◌∙◌, subst}
use Rattle.fmi_calls.specs.declared.call.Reply.{Reply}
use Rattle.fmi_calls.specs.declared.call.Grade.{Grade}
use Rattle.fmi_calls.specs.declared.call.Grade.TheVariants as G
use Rattle.fmi_calls.specs.Next.{graded, counted, entered}
use Rattle.fmi_calls.specs.Permission.{Permitted}
use Rattle.fmi_calls.specs.Worth.{grade_of}
use Rattle.fmu_peer.specs.declared.peer.Exchange.{Exchange}
use Rattle.fmu_peer.specs.declared.peer.PeerFault.{PeerFault}
use Rattle.fmu_peer.specs.Talk.{IsGood}
use Rattle.fmu_peer.specs.View.{View, Asked}
use Rattle.slot_calls.specs.Log.{Talks}

-- a good answer has a reply, which leads where the call does
pub record Led (v : View) (e : Exchange) (w : View) : Type 0 where
  pub reply : Reply
  pub is : e.result ≡ Ok reply
  pub asked : Asked v e.call (Ok reply) w
  pub may : Permitted v.fixed.shape v.phase e.call
  pub good : grade_of v.fixed.shape e.call reply ≡ G.Good
  pub fixed : w.fixed ≡ v.fixed
  pub phase : w.phase ≡ entered v.fixed.shape (counted v.phase e.call) e.call reply

led_by : (v w : View) (e : Exchange) (r : Result Reply PeerFault) → e.result ≡ r → Permitted v.fixed.shape v.phase e.call → Asked v e.call r w → IsGood v.fixed.shape (record { call = e.call; result = r }) → Led v e w
led_by v w e (Ok reply) is may asked good = record {
  reply = reply;
  is = is;
  asked = asked;
  may = may;
  good = good;
  fixed = asked.fixed;
  phase = asked.phase ∙ ap (λ (g : Grade). graded v.fixed.shape (counted v.phase e.call) e.call reply g) good;
}
led_by v w e (Err fault) is may asked good = absurd good

pub led : (v w : View) (e : Exchange) → Talks v (e ∷ []) w → IsGood v.fixed.shape e → Led v e w
led v w e (mid, may, asked, last) good = led_by v w e e.result refl may (subst (Asked v e.call e.result) (sym last) asked) good
