-- The calls of a batch that were asked, beside what a machine answers to them.
use Rattle.std.proofs.Common.{◌≡◌, ◌⊎◌, inl, inr, ℕ, suc, ◌+◌, ◌≤◌, List, [], ◌∷◌, ◌++◌, length, take, Option, Some, Ok, refl, sym, ap, subst, ◌∙◌, arith}
use Rattle.std.proofs.lemmas.List.{take_all}
use Rattle.std.proofs.lemmas.List.Elements.{All-head, All-tail}
use Rattle.value_types.specs.declared.shape.Shape.{Shape}
use Rattle.fmi_calls.specs.Kinds.{kind_of_reply}
use Rattle.fmi_calls.specs.Next.{next_of}
use Rattle.fmi_calls.specs.Permission.{Permitted}
use Rattle.fmi_calls.specs.Worth.{grade_of}
use Rattle.fmi_calls.specs.declared.call.Call.{Call}
use Rattle.fmi_calls.specs.declared.call.Grade.{Grade}
use Rattle.fmi_calls.specs.declared.call.Grade.TheVariants as G
use Rattle.fmi_calls.specs.declared.call.Kind.{Kind}
use Rattle.fmi_calls.specs.declared.call.Reply.{Reply}
use Rattle.fmi_calls.specs.declared.phase.Phase.{Phase}
use Rattle.link_frames.specs.Batch.{AreFrames, IsBatch, batch_head}
use Rattle.link_frames.specs.Head.{spelling}
use Rattle.link_frames.specs.Reply.{IsReplyFrame, frame_of}
use Rattle.fmu_peer.specs.declared.peer.Exchange.{Exchange}
use Rattle.fmu_peer.specs.Machine.{Machine, MachineState, after, taken_in}
use Rattle.fmu_peer.specs.Many.{AnsweredFirst, Talks, exchanges}
use Rattle.fmu_peer.specs.Talk.{AllGood, IsGood}
use Rattle.fmu_peer.specs.View.{Asked, AnswersAs, Fixed, TakesIn, View}
use Rattle.host_serving.specs.Told.{ItemForbidden, ItemsCome, Through, Bad, Good, Now, Later, batch_of, frames_of}

-- ---- one call

pub record Answer (reply looked : Reply) (new : Option MachineState) (state : MachineState) : Type 0 where
  pub looks : reply ≡ looked
  pub leads : new ≡ Some state

pub answered : (machine : Option Machine) (old new : Option MachineState) (m : Machine) (s : MachineState) (call : Call) (reply : Reply) → machine ≡ Some m → old ≡ Some s →
    AnswersAs machine old call (Ok reply) new → Answer reply (m.look s call) new (after m s call)
answered machine old new m s call reply is_machine in_state h =
    let told = subst (λ (a : Option Machine). AnswersAs a old call (Ok reply) new) is_machine h in
    let both = subst (λ (b : Option MachineState). AnswersAs (Some m) b call (Ok reply) new) in_state told in
    record { looks = both.0; leads = both.1 }

-- so does it to a Deserialize with these bytes
pub took_in : (machine : Option Machine) (old new : Option MachineState) (m : Machine) (s : MachineState) (call : Call) (bytes : List ℕ) (reply : Reply) → machine ≡ Some m → old ≡ Some s →
    TakesIn machine old call bytes (Ok reply) new → (reply ≡ m.look_at s call bytes) × (new ≡ Some (taken_in m s bytes))
took_in machine old new m s call bytes reply is_machine in_state h =
    subst (λ (b : Option MachineState). TakesIn (Some m) b call bytes (Ok reply) new) in_state
    (subst (λ (a : Option Machine). TakesIn a old call bytes (Ok reply) new) is_machine h)

-- the FMU is told as this machine in this state, and stands in this phase
pub record StandsAt (shape : Shape) (m : Machine) (phase : Phase) (s : MachineState) (view : View) : Type 0 where
  pub shape_is : view.fixed.shape ≡ shape
  pub machine_is : view.fixed.machine ≡ Some m
  pub phase_is : view.phase ≡ phase
  pub state_is : view.state ≡ Some s

record Stepped (shape : Shape) (m : Machine) (phase : Phase) (s : MachineState) (call : Call) (reply : Reply) (new : View) : Type 0 where
  pub looks : reply ≡ m.look s call
  pub at : StandsAt shape m (next_of shape phase call (Some (m.look s call))) (after m s call) new

stepped : (shape : Shape) (m : Machine) (phase : Phase) (s : MachineState) (old new : View) (call : Call) (reply : Reply) → StandsAt shape m phase s old → Asked old call (Ok reply) new → Stepped shape m phase s call reply new
stepped shape m phase s old new call reply at asked =
    let a = answered old.fixed.machine old.state new.state m s call reply at.machine_is at.state_is asked.state in
    record {
      looks = a.looks;
      at = record {
        shape_is = ap (λ (f : Fixed). f.shape) asked.fixed ∙ at.shape_is;
        machine_is = ap (λ (f : Fixed). f.machine) asked.fixed ∙ at.machine_is;
        phase_is = asked.phase ∙ ap (λ (sh : Shape). next_of sh old.phase call (Some reply)) at.shape_is ∙ ap (λ (p : Phase). next_of shape p call (Some reply)) at.phase_is
            ∙ ap (λ (r : Reply). next_of shape phase call (Some r)) a.looks;
        state_is = a.leads;
      };
    }

-- ---- several calls

-- each was asked and got its reply, up to the first that isn't good
abbrev pub Items : Shape → View → List Call → List Reply → View → Type 0
Items shape old [] [] new = new ≡ old
Items shape old [] (r ∷ rs) new = ⊥
Items shape old (c ∷ cs) [] new = ⊥
Items shape old (c ∷ cs) (r ∷ rs) new =
    (mid : View) × Permitted shape old.phase c × Asked old c (Ok r) mid ×
    (((grade_of shape c r ≡ G.Good) × Items shape mid cs rs new) ⊎ ((grade_of shape c r ≡ G.Good → ⊥) × (rs ≡ []) × (new ≡ mid)))

abbrev of : Call → Reply → Exchange
of c r = record { call = c; result = Ok r }

no_last : (prefix : List Exchange) (last : Exchange) → [] ≡ prefix ++ last ∷ [] → ⊥
no_last [] last e = cc
no_last (x ∷ prefix) last e = cc

-- after the last of the calls none is left
none_left : (shape : Shape) (c : Call) (r : Reply) (cs : List Call) (mid new : View) (last : Exchange) → new ≡ mid → grade_of shape c r ≡ G.Good → of c r ≡ last → (1 ≡ suc (length cs)) ⊎ (IsGood shape last → ⊥) → Items shape mid cs [] new
none_left shape c r [] mid new last rest good is ends = rest
none_left shape c r (d ∷ cs) mid new last rest good is (inl len) = absurd (omega (arith, len))
none_left shape c r (d ∷ cs) mid new last rest good is (inr other) = absurd (other (subst (IsGood shape) is good))

last_item : (shape : Shape) (c : Call) (r : Reply) (cs : List Call) (mid new : View) (last : Exchange) (g : Grade) → grade_of shape c r ≡ g → new ≡ mid → of c r ≡ last → (1 ≡ suc (length cs)) ⊎ (IsGood shape last → ⊥) →
    ((grade_of shape c r ≡ G.Good) × Items shape mid cs [] new) ⊎ ((grade_of shape c r ≡ G.Good → ⊥) × (◌≡◌ {A = List Reply} [] []) × (new ≡ mid))
last_item shape c r cs mid new last G.Good e rest is ends = inl (e, none_left shape c r cs mid new last rest e is ends)
last_item shape c r cs mid new last G.Refused e rest is ends = inr ((λ good. let wrong : G.Refused ≡ G.Good = sym e ∙ good in absurd (cc)), refl, rest)
last_item shape c r cs mid new last G.Misreply e rest is ends = inr ((λ good. let wrong : G.Misreply ≡ G.Good = sym e ∙ good in absurd (cc)), refl, rest)

run : (shape : Shape) (calls : List Call) (replies : List Reply) (old new : View) (prefix : List Exchange) (last : Exchange) → old.fixed.shape ≡ shape → length replies ≤ length calls →
    Talks old (exchanges (take (length replies) calls) replies) new → exchanges (take (length replies) calls) replies ≡ prefix ++ last ∷ [] → AllGood shape prefix →
    (length replies ≡ length calls) ⊎ (IsGood shape last → ⊥) → Items shape old calls replies new
run shape calls [] old new prefix last fixed le talks is good ends = absurd (no_last prefix last is)
run shape [] (r ∷ rs) old new prefix last fixed le talks is good ends = absurd (omega (arith, le))
run shape (c ∷ cs) (r ∷ []) old new [] last fixed le (mid, may, asked, rest) is good ends =
    let one : of c r ≡ last = cc is in
    (mid, subst (λ (sh : Shape). Permitted sh old.phase c) fixed may, asked, last_item shape c r cs mid new last (grade_of shape c r) refl rest one ends)
run shape (c ∷ cs) (r ∷ []) old new (e ∷ prefix) last fixed le talks is good ends =
    let rest : [] ≡ prefix ++ last ∷ [] = cc is in absurd (no_last prefix last rest)
run shape (c ∷ []) (r ∷ q ∷ rs) old new prefix last fixed le talks is good ends = absurd (omega (arith, le))
run shape (c ∷ d ∷ cs) (r ∷ q ∷ rs) old new [] last fixed le talks is good ends = absurd (let wrong : of d q ∷ exchanges (take (length rs) cs) rs ≡ [] = cc is in cc)
run shape (c ∷ d ∷ cs) (r ∷ q ∷ rs) old new (e ∷ prefix) last fixed le (mid, may, asked, rest) is good ends =
    let one : e ≡ of c r = cc is in
    let more : exchanges (take (length (q ∷ rs)) (d ∷ cs)) (q ∷ rs) ≡ prefix ++ last ∷ [] = cc is in (
      mid,
      subst (λ (sh : Shape). Permitted sh old.phase c) fixed may,
      asked,
      inl (
        subst (IsGood shape) one (All-head (IsGood shape) e prefix good),
        run shape (d ∷ cs) (q ∷ rs) mid new prefix last (ap (λ (f : Fixed). f.shape) asked.fixed ∙ fixed) (omega (arith, le)) rest more (All-tail (IsGood shape) e prefix good)
            (elim ends [ inl len ↦ inl (omega (arith, len)) | inr other ↦ inr other ]),
      ),
    )

pub items_run : (old new : View) (calls : List Call) (replies : List Reply) → AnsweredFirst old calls replies (length replies) new → Items old.fixed.shape old calls replies new
items_run old new calls replies a =
    let all : take (length replies) replies ≡ replies = take_all (length replies) replies (omega arith) in
    run old.fixed.shape calls replies old new a.prefix a.last refl a.within
    (subst (λ (rs : List Reply). Talks old (exchanges (take (length replies) calls) rs) new) all a.talks)
    (subst (λ (rs : List Reply). exchanges (take (length replies) calls) rs ≡ a.prefix ++ a.last ∷ []) all a.is) a.good a.ends

-- what stays
pub fixed_along : (old new : View) (es : List Exchange) → Talks old es new → new.fixed ≡ old.fixed
fixed_along old new [] same = ap (λ (v : View). v.fixed) same
fixed_along old new (e ∷ es) (mid, may, asked, rest) = fixed_along mid new es rest ∙ asked.fixed

pub shape_along : (old new : View) (es : List Exchange) → Talks old es new → new.fixed.shape ≡ old.fixed.shape
shape_along old new es talks = ap (λ (f : Fixed). f.shape) (fixed_along old new es talks)

-- ---- beside what is told

module _ (shape : Shape) (m : Machine) where
  pub items_same : (phase q : Phase) (s z : MachineState) (calls : List Call) (told : List Reply) → ItemsCome shape m phase s calls told q z → (replies : List Reply) (old new : View) → StandsAt shape m phase s old →
      Items shape old calls replies new → (replies ≡ told) × StandsAt shape m q z new
  items_same _ _ _ _ _ _ (Through phase s) [] old new at items = (refl, subst (λ (v : View). StandsAt shape m phase s v) (sym items) at)
  items_same _ _ _ _ _ _ (Through phase s) (r ∷ rs) old new at items = absurd items
  items_same _ _ _ _ _ _ (Bad phase s call left may bad) [] old new at items = absurd items
  items_same _ _ _ _ _ _ (Bad phase s call left may bad) (r ∷ rs) old new at (mid, ok, asked, step) =
      let next = stepped shape m phase s old mid call r at asked in
      elim step [
        | inl g ↦ absurd (bad (subst (λ (x : Reply). grade_of shape call x ≡ G.Good) next.looks g.0))
        | inr b ↦ (ap (λ (x : Reply). x ∷ rs) next.looks ∙ ap (λ (l : List Reply). m.look s call ∷ l) b.1, subst (λ (v : View). StandsAt shape m (next_of shape phase call (Some (m.look s call))) (after m s call) v) (sym b.2) next.at)
      ]
  items_same _ _ _ _ _ _ (Good phase q s z call left told may good more) [] old new at items = absurd items
  items_same _ _ _ _ _ _ (Good phase q s z call left told may good more) (r ∷ rs) old new at (mid, ok, asked, step) =
      let next = stepped shape m phase s old mid call r at asked in
      elim step [
        | inl g ↦ (let same = items_same _ _ _ _ _ _ more rs mid new next.at g.1 in (ap (λ (x : Reply). x ∷ rs) next.looks ∙ ap (λ (l : List Reply). m.look s call ∷ l) same.0, same.1))
        | inr b ↦ absurd (b.0 (subst (λ (x : Reply). grade_of shape call x ≡ G.Good) (sym next.looks) good))
      ]

  -- where all are answered none is forbidden
  pub items_not_forbidden : (told : Call) (phase : Phase) (s : MachineState) (calls : List Call) → ItemForbidden shape m told phase s calls → (replies : List Reply) (old new : View) → StandsAt shape m phase s old →
      Items shape old calls replies new → ⊥
  items_not_forbidden told _ _ _ (Now phase s left cannot) [] old new at items = items
  items_not_forbidden told _ _ _ (Now phase s left cannot) (r ∷ rs) old new at (mid, ok, asked, step) = cannot (subst (λ (p : Phase). Permitted shape p told) at.phase_is ok)
  items_not_forbidden told _ _ _ (Later phase s first left may good more) [] old new at items = items
  items_not_forbidden told _ _ _ (Later phase s first left may good more) (r ∷ rs) old new at (mid, ok, asked, step) =
      let next = stepped shape m phase s old mid first r at asked in
      elim step [
        | inl g ↦ items_not_forbidden told _ _ _ more rs mid new next.at g.1
        | inr b ↦ b.0 (subst (λ (x : Reply). grade_of shape first x ≡ G.Good) (sym next.looks) good)
      ]

  -- the call that isn't permitted after good replies
  pub forbids_same : (told : Call) (phase : Phase) (s : MachineState) (calls : List Call) → ItemForbidden shape m told phase s calls → (prefix left : List Call) (replies : List Reply) (old new : View) (call : Call) →
      calls ≡ prefix ++ call ∷ left → StandsAt shape m phase s old → length replies ≡ length prefix → Talks old (exchanges prefix replies) new → AllGood shape (exchanges prefix replies) → (Permitted shape new.phase call → ⊥) → told ≡ call
  forbids_same told _ _ _ (Now phase s left' cannot) [] left replies old new call is at len talks good forbidden = cc is
  forbids_same told _ _ _ (Now phase s left' cannot) (f ∷ prefix) left [] old new call is at len talks good forbidden = absurd (omega (arith, len))
  forbids_same told _ _ _ (Now phase s left' cannot) (f ∷ prefix) left (r ∷ rs) old new call is at len (mid, may, asked, rest) good forbidden =
      let first : f ≡ told = cc is in
      absurd (cannot (subst (λ (c : Call). Permitted shape phase c) first (subst (λ (p : Phase). Permitted shape p f) at.phase_is (subst (λ (sh : Shape). Permitted sh old.phase f) at.shape_is may))))
  forbids_same told _ _ _ (Later phase s first left' may good' more) [] left replies old new call is at len talks good forbidden =
      let one : first ≡ call = cc is in
      absurd (forbidden (subst (λ (v : View). Permitted shape v.phase call) (sym talks) (subst (λ (p : Phase). Permitted shape p call) (sym at.phase_is) (subst (λ (c : Call). Permitted shape phase c) one may))))
  forbids_same told _ _ _ (Later phase s first left' may good' more) (f ∷ prefix) left [] old new call is at len talks good forbidden = absurd (omega (arith, len))
  forbids_same told _ _ _ (Later phase s first left' may good' more) (f ∷ prefix) left (r ∷ rs) old new call is at len (mid, ok, asked, rest) good forbidden =
      let one : f ≡ first = cc is in
      let tail : left' ≡ prefix ++ call ∷ left = cc is in
      let next = stepped shape m phase s old mid first r at (subst (λ (c : Call). Asked old c (Ok r) mid) one asked) in
      forbids_same told _ _ _ more prefix left rs mid new call tail next.at (omega (arith, len)) rest (All-tail (IsGood shape) (of f r) (exchanges prefix rs) good) forbidden

  -- where what is told answers all, none is forbidden
  pub never_forbidden : (phase q : Phase) (s z : MachineState) (calls : List Call) (told : List Reply) → ItemsCome shape m phase s calls told q z → (prefix left : List Call) (replies : List Reply) (old new : View) (call : Call) →
      calls ≡ prefix ++ call ∷ left → StandsAt shape m phase s old → length replies ≡ length prefix → Talks old (exchanges prefix replies) new → AllGood shape (exchanges prefix replies) → (Permitted shape new.phase call → ⊥) → ⊥
  never_forbidden _ _ _ _ _ _ (Through phase s) [] left replies old new call is at len talks good forbidden = absurd (cc is)
  never_forbidden _ _ _ _ _ _ (Through phase s) (f ∷ prefix) left replies old new call is at len talks good forbidden = absurd (cc is)
  never_forbidden _ _ _ _ _ _ (Bad phase s first left' may bad) [] left replies old new call is at len talks good forbidden =
      let one : first ≡ call = cc is in
      forbidden (subst (λ (v : View). Permitted shape v.phase call) (sym talks) (subst (λ (p : Phase). Permitted shape p call) (sym at.phase_is) (subst (λ (c : Call). Permitted shape phase c) one may)))
  never_forbidden _ _ _ _ _ _ (Bad phase s first left' may bad) (f ∷ prefix) left [] old new call is at len talks good forbidden = absurd (omega (arith, len))
  never_forbidden _ _ _ _ _ _ (Bad phase s first left' may bad) (f ∷ prefix) left (r ∷ rs) old new call is at len (mid, ok, asked, rest) good forbidden =
      let one : f ≡ first = cc is in
      let next = stepped shape m phase s old mid first r at (subst (λ (c : Call). Asked old c (Ok r) mid) one asked) in
      bad (subst (λ (x : Reply). grade_of shape first x ≡ G.Good) next.looks (subst (λ (c : Call). grade_of shape c r ≡ G.Good) one (All-head (IsGood shape) (of f r) (exchanges prefix rs) good)))
  never_forbidden _ _ _ _ _ _ (Good phase q s z first left' told may good' more) [] left replies old new call is at len talks good forbidden =
      let one : first ≡ call = cc is in
      forbidden (subst (λ (v : View). Permitted shape v.phase call) (sym talks) (subst (λ (p : Phase). Permitted shape p call) (sym at.phase_is) (subst (λ (c : Call). Permitted shape phase c) one may)))
  never_forbidden _ _ _ _ _ _ (Good phase q s z first left' told may good' more) (f ∷ prefix) left [] old new call is at len talks good forbidden = absurd (omega (arith, len))
  never_forbidden _ _ _ _ _ _ (Good phase q s z first left' told may good' more) (f ∷ prefix) left (r ∷ rs) old new call is at len (mid, ok, asked, rest) good forbidden =
      let one : f ≡ first = cc is in
      let tail : left' ≡ prefix ++ call ∷ left = cc is in
      let next = stepped shape m phase s old mid first r at (subst (λ (c : Call). Asked old c (Ok r) mid) one asked) in
      never_forbidden _ _ _ _ _ _ more prefix left rs mid new call tail next.at (omega (arith, len)) rest (All-tail (IsGood shape) (of f r) (exchanges prefix rs) good) forbidden

-- ---- the bytes

frames_same : (one : Kind) (replies : List Reply) (bytes : List ℕ) → AreFrames IsReplyFrame kind_of_reply one replies bytes → bytes ≡ frames_of replies
frames_same one [] bytes e = e
frames_same one (r ∷ rs) bytes (prefix, rest, both, is, k, more) = both ∙ ap (λ (l : List ℕ). l ++ rest) is.spelled ∙ ap (λ (l : List ℕ). frame_of r ++ l) (frames_same one rs rest more)

-- a batch of replies is spelled in one way
pub pieces_same : (replies : List Reply) (piece : List ℕ) → IsBatch IsReplyFrame kind_of_reply replies piece → piece ≡ batch_of replies
pieces_same replies piece b = b.spelled ∙ ap (λ (l : List ℕ). spelling (batch_head (length replies)) ++ l) (frames_same b.one replies b.rest b.frames)
