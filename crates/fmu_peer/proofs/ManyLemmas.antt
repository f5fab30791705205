-- Several calls, asked one after another.
use Rattle.std.proofs.Common.{◌≡◌, ℕ, suc, ◌+◌, ◌-◌, ◌<◌, ◌⊎◌, inl, inr, List, [], ◌∷◌, ◌++◌, take, drop, length, get_or, set, refl, sym, ap, ◌∙◌, subst, arith, Some, Ok, Err}
use Rattle.std.proofs.Math.Seq.{drop-cons}
use Rattle.std.specs.Prelude.{All}
use Rattle.std.proofs.lemmas.Grind.{drop_more_same}
use Rattle.std.proofs.lemmas.List.{drop-set-lt, get_or_append_left, length-append, length-take, length-take-le, take-append-drop, take_more, take_more_set}
use Rattle.std.proofs.lemmas.List.Elements.{All-push}
use Rattle.value_types.specs.declared.shape.Shape.{Shape}
use Rattle.value_types.specs.declared.values.PortType.{PortType}
use Rattle.fmi_calls.specs.declared.call.Call.{Call}
use Rattle.fmi_calls.specs.declared.call.Reply.{Reply}
use Rattle.fmi_calls.specs.declared.call.Grade.{Grade}
use Rattle.fmi_calls.specs.declared.call.Grade.TheVariants as G
use Rattle.fmi_calls.specs.declared.call.Reply.TheVariants as R
use Rattle.fmi_calls.specs.declared.call.Kind.TheVariants as K
use Rattle.fmi_calls.specs.declared.call.BadStatus.TheVariants as B
use Rattle.fmi_calls.specs.declared.phase.Phase.{Phase}
use Rattle.fmi_calls.specs.declared.call.Call.TheVariants as C
use Rattle.fmi_calls.specs.Next.{counted, entered, graded, next_of}
use Rattle.fmi_calls.specs.Permission.{Permitted}
use Rattle.fmi_calls.specs.Worth.{grade_of}
use Rattle.fmu_peer.specs.declared.peer.Exchange.{Exchange}
use Rattle.fmu_peer.specs.declared.peer.PeerFault.{PeerFault}
use Rattle.fmu_peer.specs.Many.{AnsweredFirst, FaultsAfter, MayAskAll, Talks, exchanges}
use Rattle.fmu_peer.specs.Talk.{AllGood, IsGood}
use Rattle.fmu_peer.specs.View.{Asked, Fixed, View}

abbrev pub of : Call → Reply → Exchange
of call reply = record { call = call; result = Ok reply }

abbrev pub without : Call → PeerFault → Exchange
without call fault = record { call = call; result = Err fault }

exchanges-push : (cs : List Call) (rs : List Reply) (c : Call) (r : Reply) → length cs ≡ length rs → exchanges (cs ++ c ∷ []) (rs ++ r ∷ []) ≡ exchanges cs rs ++ of c r ∷ []
exchanges-push [] [] c r e = refl
exchanges-push [] (x ∷ rs) c r e = absurd (omega (arith, e))
exchanges-push (x ∷ cs) [] c r e = absurd (omega (arith, e))
exchanges-push (x ∷ cs) (y ∷ rs) c r e = ap (λ (es : List Exchange). of x y ∷ es) (exchanges-push cs rs c r (omega (arith, e)))

pub even : (cs : List Call) (rs : List Reply) (i : ℕ) → length rs ≡ length cs → length (take i cs) ≡ length (take i rs)
even cs rs i e = omega (arith, e, length-take i cs, length-take i rs)

pub exchanges_set : (cs : List Call) (rs : List Reply) (i : ℕ) (d : Call) (r : Reply) → length rs ≡ length cs → i < length cs →
    exchanges (take (i + 1) cs) (take (i + 1) (set rs i r)) ≡ exchanges (take i cs) (take i rs) ++ of (get_or cs i d) r ∷ []
exchanges_set cs rs i d r e lt =
    rw (take_more cs i d lt, take_more_set rs i r (omega (arith, e, lt))) (exchanges-push (take i cs) (take i rs) (get_or cs i d) r (even cs rs i e))

pub exchanges_more : (cs : List Call) (rs : List Reply) (i : ℕ) (d : Call) (r : Reply) → length rs ≡ length cs → i < length cs →
    exchanges (take (i + 1) cs) (take (i + 1) rs) ≡ exchanges (take i cs) (take i rs) ++ of (get_or cs i d) (get_or rs i r) ∷ []
exchanges_more cs rs i d r e lt =
    rw (take_more cs i d lt, take_more rs i r (omega (arith, e, lt))) (exchanges-push (take i cs) (take i rs) (get_or cs i d) (get_or rs i r) (even cs rs i e))

pub talks_push : (old mid new : View) (es : List Exchange) (e : Exchange) → Talks old es mid → Permitted mid.fixed.shape mid.phase e.call → Asked mid e.call e.result new → Talks old (es ++ e ∷ []) new
talks_push old mid new [] e t may asked = subst (λ (v : View). Talks v (e ∷ []) new) t (new, may, asked, refl)
talks_push old mid new (x ∷ es) e (next, may_x, asked_x, rest) may asked = (next, may_x, asked_x, talks_push next mid new es e rest may asked)

-- the call at a place may be asked, and the others after it
pub record MayNext (shape : Shape) (phase : Phase) (cs : List Call) (i : ℕ) (d : Call) : Type 0 where
  pub may : Permitted shape phase (get_or cs i d)
  pub next : (reply : Reply) → grade_of shape (get_or cs i d) reply ≡ G.Good → MayAskAll shape (next_of shape phase (get_or cs i d) (Some reply)) (drop (i + 1) cs)

pub may_next : (shape : Shape) (phase : Phase) (cs : List Call) (i : ℕ) (d : Call) → i < length cs → MayAskAll shape phase (drop i cs) → MayNext shape phase cs i d
may_next shape phase cs i d lt may =
    let m : MayAskAll shape phase (get_or cs i d ∷ drop (suc i) cs) = subst (MayAskAll shape phase) (drop-cons cs i d lt) may in
    let one : suc i ≡ i + 1 = omega arith in
    let after : drop (suc i) cs ≡ drop (i + 1) cs = ap (λ (n : ℕ). drop n cs) one in
    record { may = m.0; next = λ reply good. subst (MayAskAll shape _) after (m.1 reply good) }

pub all_prefix : {X : Type 0} (P : X → Type 0) (xs ys : List X) → All P (xs ++ ys) → All P xs
all_prefix P xs ys h k d lt = subst P (get_or_append_left xs ys d k lt) (h k d (omega (arith, lt, length-append xs ys)))

-- the last is the reply's
pub answered_first : (old new : View) (cs : List Call) (rs : List Reply) (i : ℕ) (d : Call) (r : Reply) → length rs ≡ length cs → i < length cs →
    Talks old (exchanges (take (i + 1) cs) (take (i + 1) (set rs i r))) new → AllGood old.fixed.shape (exchanges (take i cs) (take i rs)) → (i + 1 ≡ length cs) ⊎ (IsGood old.fixed.shape (of (get_or cs i d) r) → ⊥) →
    AnsweredFirst old cs (set rs i r) (i + 1) new
answered_first old new cs rs i d r e lt talks good ends = record {
  within = omega (arith, lt);
  talks = talks;
  prefix = exchanges (take i cs) (take i rs);
  last = of (get_or cs i d) r;
  is = exchanges_set cs rs i d r e lt;
  good = good;
  ends = ends;
}

pub a_reply : Reply
a_reply = R.Refused K.Get B.Error

pub answered_all : (old new : View) (cs : List Call) (rs : List Reply) (d : Call) → length rs ≡ length cs → 0 < length cs →
    Talks old (exchanges (take (length cs) cs) (take (length cs) rs)) new → AllGood old.fixed.shape (exchanges (take (length cs) cs) (take (length cs) rs)) → AnsweredFirst old cs rs (length cs) new
answered_all old new cs rs d e lt talks good =
    let r = a_reply in
    let i = length cs - 1 in
    let n : i + 1 ≡ length cs = omega (arith, lt) in
    let split : exchanges (take (length cs) cs) (take (length cs) rs) ≡ exchanges (take i cs) (take i rs) ++ of (get_or cs i d) (get_or rs i r) ∷ [] =
    subst (λ (k : ℕ). exchanges (take k cs) (take k rs) ≡ exchanges (take i cs) (take i rs) ++ of (get_or cs i d) (get_or rs i r) ∷ []) n (exchanges_more cs rs i d r e (omega (arith, lt))) in
    record {
      within = omega arith;
      talks = talks;
      prefix = exchanges (take i cs) (take i rs);
      last = of (get_or cs i d) (get_or rs i r);
      is = split;
      good = all_prefix (IsGood old.fixed.shape) (exchanges (take i cs) (take i rs)) (of (get_or cs i d) (get_or rs i r) ∷ []) (subst (AllGood old.fixed.shape) split good);
      ends = inl refl;
    }

pub faults_after : (old mid new : View) (cs : List Call) (before rs : List Reply) (i : ℕ) (d : Call) (fault : PeerFault) → length rs ≡ length cs → i < length cs → drop i rs ≡ drop i before →
    Talks old (exchanges (take i cs) (take i rs)) mid → AllGood old.fixed.shape (exchanges (take i cs) (take i rs)) → Permitted mid.fixed.shape mid.phase (get_or cs i d) → Asked mid (get_or cs i d) (Err fault) new → FaultsAfter old cs before rs fault new
faults_after old mid new cs before rs i d fault e lt after talks good may asked = record {
  replies = take i rs;
  call = get_or cs i d;
  left = drop (suc i) cs;
  prefix = take i cs;
  calls_are = sym (take-append-drop i cs) ∙ ap (λ (xs : List Call). take i cs ++ xs) (drop-cons cs i d lt);
  len = sym (even cs rs i e);
  after_is = sym (take-append-drop i rs) ∙ ap (λ (xs : List Reply). take i rs ++ xs) (after ∙ ap (λ (n : ℕ). drop n before) (sym (length-take-le i cs (omega (arith, lt)))));
  good = good;
  talks = talks_push old mid new (exchanges (take i cs) (take i rs)) (without (get_or cs i d) fault) talks may asked;
}

-- the places after one that was written are as they were
pub places_more : (before rs : List Reply) (i : ℕ) (r : Reply) → drop i rs ≡ drop i before → drop (i + 1) (set rs i r) ≡ drop (i + 1) before
places_more before rs i r after = drop-set-lt (i + 1) rs i r (omega arith) ∙ drop_more_same rs before i after

-- ---- one more

module _ (old mid new : View) (cs : List Call) (i : ℕ) (d : Call) (lt : i < length cs) (fixed : mid.fixed ≡ old.fixed) (may : MayAskAll old.fixed.shape mid.phase (drop i cs)) where
  pub permitted_at : Permitted mid.fixed.shape mid.phase (get_or cs i d)
  permitted_at = subst (λ (f : Fixed). Permitted f.shape mid.phase (get_or cs i d)) (sym fixed) (may_next old.fixed.shape mid.phase cs i d lt may).may

pub permitted_now : (old mid : View) (cs : List Call) (i : ℕ) (d : Call) → i < length cs → mid.fixed ≡ old.fixed → MayAskAll old.fixed.shape mid.phase (drop i cs) → Permitted mid.fixed.shape mid.phase (get_or cs i d)
permitted_now old mid cs i d lt fixed may = permitted_at old mid mid cs i d lt fixed may

pub talks_more : (old mid new : View) (cs : List Call) (rs : List Reply) (i : ℕ) (d : Call) (r : Reply) → length rs ≡ length cs → i < length cs → mid.fixed ≡ old.fixed → MayAskAll old.fixed.shape mid.phase (drop i cs) →
    Talks old (exchanges (take i cs) (take i rs)) mid → Asked mid (get_or cs i d) (Ok r) new → Talks old (exchanges (take (i + 1) cs) (take (i + 1) (set rs i r))) new
talks_more old mid new cs rs i d r e lt fixed may talks asked =
    subst (λ (es : List Exchange). Talks old es new) (sym (exchanges_set cs rs i d r e lt))
    (talks_push old mid new (exchanges (take i cs) (take i rs)) (of (get_or cs i d) r) talks (permitted_now old mid cs i d lt fixed may) asked)

grade_at : (old mid new : View) (call : Call) (r : Reply) (shape : Shape) (g : Grade) → mid.fixed ≡ old.fixed → Asked mid call (Ok r) new → shape ≡ new.fixed.shape → g ≡ grade_of shape call r → grade_of old.fixed.shape call r ≡ g
grade_at old mid new call r shape g fixed asked shape_is grade_is =
    sym (grade_is ∙ ap (λ (s : Shape). grade_of s call r) (shape_is ∙ ap (λ (f : Fixed). f.shape) (asked.fixed ∙ fixed)))

pub good_grade : (old mid new : View) (call : Call) (r : Reply) (shape : Shape) (g : Grade) → mid.fixed ≡ old.fixed → Asked mid call (Ok r) new → shape ≡ new.fixed.shape → g ≡ grade_of shape call r → g ≡ G.Good → grade_of old.fixed.shape call r ≡ G.Good
good_grade old mid new call r shape g fixed asked shape_is grade_is is = grade_at old mid new call r shape g fixed asked shape_is grade_is ∙ is

refused_good : G.Refused ≡ G.Good → ⊥
refused_good e = absurd (cc)

misreply_good : G.Misreply ≡ G.Good → ⊥
misreply_good e = absurd (cc)

pub bad_grade : (old mid new : View) (call : Call) (r : Reply) (shape : Shape) (g : Grade) → mid.fixed ≡ old.fixed → Asked mid call (Ok r) new → shape ≡ new.fixed.shape → g ≡ grade_of shape call r → (g ≡ G.Refused) ⊎ (g ≡ G.Misreply) → IsGood old.fixed.shape (of call r) → ⊥
bad_grade old mid new call r shape g fixed asked shape_is grade_is is good =
    let at : g ≡ G.Good = sym (grade_at old mid new call r shape g fixed asked shape_is grade_is) ∙ good in
    elim is [
      | inl e ↦ refused_good (sym e ∙ at)
      | inr e ↦ misreply_good (sym e ∙ at)
    ]

pub all_more : (shape : Shape) (cs : List Call) (rs : List Reply) (i : ℕ) (d : Call) (r : Reply) → length rs ≡ length cs → i < length cs → AllGood shape (exchanges (take i cs) (take i rs)) → IsGood shape (of (get_or cs i d) r) → AllGood shape (exchanges (take (i + 1) cs) (take (i + 1) (set rs i r)))
all_more shape cs rs i d r e lt good last =
    subst (AllGood shape) (sym (exchanges_set cs rs i d r e lt)) (All-push (IsGood shape) (exchanges (take i cs) (take i rs)) (of (get_or cs i d) r) good last)

pub may_more : (old mid new : View) (cs : List Call) (i : ℕ) (d : Call) (r : Reply) → i < length cs → mid.fixed ≡ old.fixed → MayAskAll old.fixed.shape mid.phase (drop i cs) → Asked mid (get_or cs i d) (Ok r) new → grade_of old.fixed.shape (get_or cs i d) r ≡ G.Good → MayAskAll old.fixed.shape new.phase (drop (i + 1) cs)
may_more old mid new cs i d r lt fixed may asked good =
    let next = (may_next old.fixed.shape mid.phase cs i d lt may).next r good in
    let phase_is : next_of old.fixed.shape mid.phase (get_or cs i d) (Some r) ≡ new.phase = sym (asked.phase ∙ ap (λ (f : Fixed). next_of f.shape mid.phase (get_or cs i d) (Some r)) fixed) in
    subst (λ (p : Phase). MayAskAll old.fixed.shape p (drop (i + 1) cs)) phase_is next

-- ---- several Gets

-- the call is a Get
pub record IsGet (c : Call) : Type 0 where
  pub kind : PortType
  pub reference : ℕ
  pub is : c ≡ C.Get kind reference

-- each is a Get that is permitted now
abbrev pub AreGets : Shape → Phase → List Call → Type 0
AreGets shape phase [] = Unit {0}
AreGets shape phase (c ∷ cs) = IsGet c × Permitted shape phase c × AreGets shape phase cs

-- a call that is counted leaves what permits a Get
gets_counted : (shape : Shape) (phase : Phase) (call : Call) (cs : List Call) → AreGets shape phase cs → AreGets shape (counted phase call) cs
gets_counted shape phase call [] gets = tt
gets_counted shape phase call (c ∷ cs) (get, may, rest) =
    (get, subst (Permitted shape (counted phase call)) (sym get.is) (subst (Permitted shape phase) get.is may), gets_counted shape phase call cs rest)

pub gets_may : (shape : Shape) (phase : Phase) (cs : List Call) → AreGets shape phase cs → MayAskAll shape phase cs
gets_may shape phase [] gets = tt
gets_may shape phase (c ∷ cs) (get, may, rest) = (
  may,
  λ reply good.
      subst (λ (g : Grade). MayAskAll shape (graded shape (counted phase c) c reply g) cs) (sym good)
      (subst (λ (x : Call). MayAskAll shape (entered shape (counted phase x) x reply) cs) (sym get.is)
      (gets_may shape (counted phase (C.Get get.kind get.reference)) cs (gets_counted shape phase (C.Get get.kind get.reference) cs rest))),
)
