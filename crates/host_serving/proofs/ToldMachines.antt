-- An FMU that is told as a machine stays told while it is served.
use Rattle.std.proofs.Common.{◌≡◌, inl, inr, ℕ, ◌≤◌, ◌^◌, List, [], ◌∷◌, take, length, Some, Ok, refl, sym, ap, ◌∙◌, subst, arith}
use Rattle.sim_base.specs.Causes.{Rose}
use Rattle.fmi_calls.specs.Kinds.{kind_of, kind_of_reply}
use Rattle.fmi_calls.specs.declared.call.Call.{Call}
use Rattle.fmi_calls.specs.declared.call.Reply.{Reply}
use Rattle.fmi_calls.specs.declared.call.Call.TheVariants as C
use Rattle.fmi_calls.specs.declared.call.Content.TheVariants as A
use Rattle.fmi_calls.specs.declared.call.Kind.TheVariants as K
use Rattle.fmi_calls.specs.declared.call.Reply.TheVariants as R
use Rattle.link_frames.specs.Reply.{CanBeTold}
use Rattle.fmu_peer.specs.Machine.{Machine, MachineState, after, bytes_after_reply, taken_in}
use Rattle.fmu_peer.specs.Many.{Talks, exchanges}
use Rattle.fmu_peer.specs.View.{Asked, AskedWith, Fixed, View}
use Rattle.host_serving.specs.Serving.{GoesOn, IsAnswered, IsAsked, IsGiven, LosesOne, More, Nothing, Scene, Served, Serves, Single, Together}
use Rattle.host_serving.proofs.ItemLemmas.{Answer, answered, took_in}

-- the FMU is told as this machine, in some state
pub record IsTold (m : Machine) (view : View) : Type 0 where
  pub machine : view.fixed.machine ≡ Some m
  pub state : MachineState
  pub in_state : view.state ≡ Some state

answer_of : (m : Machine) (old new : View) (call : Call) (reply : Reply) (told : IsTold m old) → Asked old call (Ok reply) new → Answer reply (m.look told.state call) new.state (after m told.state call)
answer_of m old new call reply told asked = answered old.fixed.machine old.state new.state m told.state call reply told.machine told.in_state asked.state

told_asked : (m : Machine) (old new : View) (call : Call) (reply : Reply) → IsTold m old → Asked old call (Ok reply) new → IsTold m new
told_asked m old new call reply told asked =
    record { machine = ap (λ (f : Fixed). f.machine) asked.fixed ∙ told.machine; state = after m told.state call; in_state = (answer_of m old new call reply told asked).leads }

taken_so : (m : Machine) (old new : View) (call : Call) (taken : List ℕ) (reply : Reply) (told : IsTold m old) → AskedWith old call taken (Ok reply) new → (reply ≡ m.look_at told.state call taken) × (new.state ≡ Some (taken_in m told.state taken))
taken_so m old new call taken reply told asked = took_in old.fixed.machine old.state new.state m told.state call taken reply told.machine told.in_state asked.state

-- after a single call
told_one : (m : Machine) (old new : View) (call : Call) (taken : List ℕ) (reply : Reply) → IsTold m old → IsAsked old call taken reply new → IsTold m new
told_one m old new (C.Deserialize count point stop) taken reply told asked = record {
  machine = ap (λ (f : Fixed). f.machine) asked.fixed ∙ told.machine;
  state = taken_in m told.state taken;
  in_state = (taken_so m old new (C.Deserialize count point stop) taken reply told asked).1;
}
told_one m old new call taken reply told asked = told_asked m old new call reply told asked

told_talks : (m : Machine) (old new : View) (calls : List Call) (replies : List Reply) → IsTold m old → Talks old (exchanges calls replies) new → IsTold m new
told_talks m old new [] replies told same = subst (IsTold m) (sym same) told
told_talks m old new (c ∷ cs) [] told same = subst (IsTold m) (sym same) told
told_talks m old new (c ∷ cs) (r ∷ rs) told (mid, may, asked, rest) = told_talks m mid new cs rs (told_asked m old mid c r told asked) rest

told_goes : (m : Machine) (old new : Scene) (served : List Served) → GoesOn old new served → IsTold m old.machine → IsTold m new.machine
told_goes m old new _ (Single served one unfreed) told = told_one m old.machine new.machine served.call served.taken served.reply told one.answered.asked
told_goes m old new _ (Together calls replies many) told =
    told_talks m old.machine new.machine (take (length replies) calls) (take (length replies) replies) told many.answered.answered.talks

pub told_last : (m : Machine) (old last : Scene) (served : List Served) → Serves old served last → IsTold m old.machine → IsTold m last.machine
told_last m old _ _ Nothing told = told
told_last m old _ _ (More done more mid new before on) told = told_goes m mid new more on (told_last m old mid done before told)

-- the machine answers each call by a reply of its kind
pub record RepliesInKind (m : Machine) : Type 0 where
  pub looks : (s : MachineState) (call : Call) → kind_of_reply (m.look s call) ≡ kind_of call
  pub looks_at : (s : MachineState) (count point stop : ℕ) (bytes : List ℕ) →
      kind_of_reply (m.look_at s (C.Deserialize count point stop) bytes) ≡ K.Deserialize

-- such a machine loses a call of a batch by a fault alone
pub lost_by_fault : (m : Machine) → RepliesInKind m → (old new : View) (calls : List Call) → IsTold m old → LosesOne old new calls →
    (mid : View) × Rose mid.faults new.faults
lost_by_fault m alike old new calls told l = elim l.lost [
  | inl rose ↦ (l.mid, rose)
  | inr other ↦ absurd (other.2 (ap kind_of_reply (answer_of m l.mid new l.call other.0 there other.1).looks ∙ alike.looks there.state l.call))
]
  where
    there : IsTold m l.mid
    there = told_talks m old l.mid l.reached.prefix l.reached.replies told l.reached.talks

-- a reply that isn't a state's has a frame
told_by_kind : (reply : Reply) → (kind_of_reply reply ≡ K.Serialize → ⊥) → CanBeTold reply
told_by_kind (R.Done is_warning (A.Serialize count)) other = absurd (other refl)
told_by_kind reply other = tt

-- and so has a state's that isn't too long
told_by_count : (reply : Reply) → bytes_after_reply reply ≤ 2 ^ 20 → CanBeTold reply
told_by_count (R.Done is_warning (A.Serialize count)) few = few
told_by_count reply few = tt

has_told : (m : Machine) → RepliesInKind m → (old new : View) (call : Call) (taken : List ℕ) (reply : Reply) (given : List ℕ) → IsTold m old → IsAsked old call taken reply new → IsGiven old call reply given → CanBeTold reply
has_told m alike old new C.Serialize taken reply given told asked is = let few = is.few in let count = is.count in told_by_count reply (omega (arith, few, count))
has_told m alike old new (C.Deserialize count point stop) taken reply given told asked is =
    told_by_kind reply
    (λ e. let wrong : K.Serialize ≡ K.Deserialize = sym e ∙ ap kind_of_reply (taken_so m old new (C.Deserialize count point stop) taken reply told asked).0 ∙ alike.looks_at told.state count point stop taken in cc)
has_told m alike old new call taken reply given told asked is =
    told_by_kind reply
    (λ e. let wrong : K.Serialize ≡ kind_of call = sym e ∙ ap kind_of_reply (answer_of m old new call reply told asked).looks ∙ alike.looks told.state call in cc)

-- such a machine's replies have frames
pub has_frame : (m : Machine) → RepliesInKind m → (old new : Scene) (served : Served) → IsTold m old.machine → IsAnswered old new served → CanBeTold served.reply
has_frame m alike old new served told a = has_told m alike old.machine new.machine served.call served.taken served.reply served.given told a.asked a.given
