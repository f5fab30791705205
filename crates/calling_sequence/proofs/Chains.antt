-- What a stage leaves of each instance.
use Rattle.std.proofs.Common.{◌≡◌, ℕ, ◌<◌, ◌==◌, Bool, true, false, List, [], ◌∷◌, ◌⊎◌, refl, sym, ap, ◌∙◌, subst, arith, length, get_or, map}
use Rattle.std.specs.Prelude.{All, ℤ, if◌then◌else◌}
use Rattle.std.proofs.lemmas.List.{length-map, get_or_default}
use Rattle.std.proofs.lemmas.List.Elements.{All-head, All-tail, All-nil, All-cons}
use Rattle.std.proofs.lemmas.Bool.Decides.{nat_tests}
use Rattle.value_types.specs.declared.shape.Shape.{Shape}
use Rattle.value_types.specs.declared.values.PortType.{PortType}
use Rattle.fmi_calls.specs.declared.call.Call.{Call}
use Rattle.fmi_calls.specs.declared.call.Call.TheVariants as C
use Rattle.fmu_peer.specs.declared.peer.Exchange.{Exchange}
use Rattle.fmu_peer.specs.CloseAll.{Instance}
use Rattle.fmu_peer.specs.Talk.{IsGood}
use Rattle.fmu_peer.specs.View.{View, Fixed}
use Rattle.slot_calls.specs.Log.{Sent, Has, Talks, Told, part}
use Rattle.slot_calls.specs.Stage.{IsAnswered, IsGoodOf, shapes, shapes_of, to_those}
use Rattle.slot_calls.proofs.CallerLemmas.{Led, led, shape_of, shapes_same, map_at, part_asked, part_unasked}
use Rattle.system_model.specs.declared.system.System.{System}

-- a log leaves the shapes those of the components
pub fits_on : (system : System) (log : List Sent) (olds mids : List Instance) → shapes olds ≡ shapes_of system → Told log olds mids → shapes mids ≡ shapes_of system
fits_on system log olds mids fits told = shapes_same log olds mids told ∙ fits

-- ---- stages

part_head : (Q : ℕ → Exchange → Type 0) (i : ℕ) (s : Sent) (es : List Exchange) (b : Bool) → (s.component == i) ≡ b → Q s.component s.exchange → All (Q i) es → All (Q i) (if b then s.exchange ∷ es else es)
part_head Q i s es true is q all = All-cons (Q i) s.exchange es (subst (λ (n : ℕ). Q n s.exchange) (equal s.component i is) q) all where
  equal : (a b : ℕ) → (a == b) ≡ true → a ≡ b
  equal a b h = grind (arith, nat_tests)
part_head Q i s es false is q all = all

pub part_all : (Q : ℕ → Exchange → Type 0) (i : ℕ) (log : List Sent) → All (λ (s : Sent). Q s.component s.exchange) log → All (Q i) (part i log)
part_all Q i [] all = All-nil (Q i)
part_all Q i (s ∷ log) all =
    part_head Q i s (part i log) (s.component == i) refl (All-head (λ (r : Sent). Q r.component r.exchange) s log all) (part_all Q i log (All-tail (λ (r : Sent). Q r.component r.exchange) s log all))

-- what one call of those whose shape passes a test leads to, where each of the answers has a property; the others have it already
module _ {A : Type 0} (f : A → Instance) (test : Shape → Bool) (call : Shape → Call) (P Q : View → Type 0) (X : Exchange → Type 0)
    (leads : (v w : View) (e : Exchange) → P v → Led v e w → e.call ≡ call v.fixed.shape → X e → Q w) (stays : (v : View) → P v → test v.fixed.shape ≡ false → Q v)
    (olds news : List A) (log : List Sent) (told : Told log (map f olds) (map f news)) (s : IsAnswered (shapes (map f olds)) (to_those test call (shapes (map f olds))) log)
    (xs : All (λ (t : Sent). X t.exchange) log) where
  abbrev old_shapes : List Shape
  old_shapes = shapes (map f olds)

  by_part : (k : ℕ) (x y : Instance) → k < length old_shapes → Has x (part k log) y → x.view.fixed.shape ≡ get_or old_shapes k x.view.fixed.shape → P x.view → (b : Bool) → test x.view.fixed.shape ≡ b → Q y.view
  by_part k x y within has shape_is p true is =
      let own = part_asked old_shapes test call log s k x.view.fixed.shape within (ap test (sym shape_is) ∙ is) in
      let one : Has x (own.exchange ∷ []) y = subst (λ (es : List Exchange). Has x es y) own.is has in
      let own_all : All X (own.exchange ∷ []) = subst (All X) own.is (part_all (λ n e. X e) k log xs) in
      leads x.view y.view own.exchange p
      (led x.view y.view own.exchange one.talks (subst (λ (t : Shape). IsGood t own.exchange) (sym shape_is) (own.good x.view.fixed.shape)))
      (own.call_is ∙ ap call (sym shape_is)) (All-head X own.exchange [] own_all)
  by_part k x y within has shape_is p false is =
      let none : Has x [] y = subst (λ (es : List Exchange). Has x es y) (part_unasked old_shapes test call log s k x.view.fixed.shape within (ap test (sym shape_is) ∙ is)) has in
      subst Q (sym none.talks) (stays x.view p is)

  pub stage_passing : All (λ (a : A). P (f a).view) olds → All (λ (a : A). Q (f a).view) news
  stage_passing all = λ k d w_new.
      let n = length-map news f in let o = length-map olds f in let t = told.len in
      let w : k < length olds = omega (arith, n, o, t, w_new) in
      let x : Instance = f (get_or olds k d) in
      let y : Instance = f (get_or news k d) in
      let in_olds : k < length (map f olds) = omega (arith, o, w) in
      let in_shapes : k < length old_shapes = let m = length-map (map f olds) shape_of in omega (arith, m, in_olds) in
      let x_is : x ≡ get_or (map f olds) k x = map_at f olds k (get_or olds k d) x w (get_or_default olds k d (get_or olds k d) w) in
      let y_is : y ≡ get_or (map f news) k x = map_at f news k (get_or news k d) x w_new (get_or_default news k d (get_or news k d) w_new) in
      let has : Has x (part k log) y =
      subst (λ (i : Instance). Has i (part k log) y) (sym x_is) (subst (λ (i : Instance). Has (get_or (map f olds) k x) (part k log) i) (sym y_is) (told.each k x in_olds)) in
      by_part k x y in_shapes has (map_at shape_of (map f olds) k x x.view.fixed.shape in_olds x_is) (all k d w) (test x.view.fixed.shape) refl

-- ---- the calls of walks

abbrev pub IsGet : Exchange → Type 0
IsGet e = (kind : PortType) × (reference : ℕ) × (e.call ≡ C.Get kind reference)

abbrev pub IsSet : Exchange → Type 0
IsSet e = (kind : PortType) × (reference : ℕ) × (value : ℤ) × (e.call ≡ C.Set kind reference value)

-- a Clock was set, or asked whether it is active
abbrev pub IsOfClock : Exchange → Type 0
IsOfClock e = (reference : ℕ) × ((e.call ≡ C.SetClock reference) ⊎ (e.call ≡ C.GetClock reference))

-- a Clock was asked for its interval or its shift
abbrev pub IsQuestion : Exchange → Type 0
IsQuestion e = (reference : ℕ) × ((e.call ≡ C.GetInterval reference) ⊎ (e.call ≡ C.GetShift reference))

-- an exchange of the sort for its shape, whose answer is good
abbrev pub IsGoodly : (Shape → Exchange → Type 0) → List Shape → Sent → Type 0
IsGoodly K ss s = ((d : Shape) → K (get_or ss s.component d) s.exchange) × IsGoodOf ss s

-- what each of the exchanges keeps is kept
pub talks_keep : (P : View → Type 0) (K : Shape → Exchange → Type 0) → ((v w : View) (e : Exchange) → P v → Led v e w → K v.fixed.shape e → P w) → (shape : Shape) (v w : View) (es : List Exchange) →
    v.fixed.shape ≡ shape → Talks v es w → All (λ (e : Exchange). K shape e × ((z : Shape) → z ≡ shape → IsGood z e)) es → P v → P w
talks_keep P K keeps shape v w [] is t all p = subst P (sym t) p
talks_keep P K keeps shape v w (e ∷ es) is (mid, may, asked, rest) all p =
    let head = All-head (λ (x : Exchange). K shape x × ((z : Shape) → z ≡ shape → IsGood z x)) e es all in
    talks_keep P K keeps shape mid w es (ap (λ (f : Fixed). f.shape) asked.fixed ∙ is) rest (All-tail (λ (x : Exchange). K shape x × ((z : Shape) → z ≡ shape → IsGood z x)) e es all)
    (keeps v mid e p (led v mid e (mid, may, asked, refl) (head.1 v.fixed.shape is)) (subst (λ (z : Shape). K z e) (sym is) head.0))

module _ {A : Type 0} (f : A → Instance) (P : View → Type 0) (K : Shape → Exchange → Type 0) (keeps : (v w : View) (e : Exchange) → P v → Led v e w → K v.fixed.shape e → P w)
    (ss : List Shape) (olds news : List A) (log : List Sent) (told : Told log (map f olds) (map f news)) (fits : shapes (map f olds) ≡ ss) (goodly : All (IsGoodly K ss) log) where
  pub keep_all : All (λ (a : A). P (f a).view) olds → All (λ (a : A). P (f a).view) news
  keep_all all = λ k d w.
      let a = length-map news f in let b = length-map olds f in let c = told.len in
      let w_old : k < length olds = omega (arith, a, b, c, w) in
      let in_olds : k < length (map f olds) = omega (arith, b, w_old) in
      let x : Instance = f (get_or olds k d) in
      let y : Instance = f (get_or news k d) in
      let x_is : x ≡ get_or (map f olds) k x = map_at f olds k (get_or olds k d) x w_old (get_or_default olds k d (get_or olds k d) w_old) in
      let y_is : y ≡ get_or (map f news) k x = map_at f news k (get_or news k d) x w (get_or_default news k d (get_or news k d) w) in
      let shape_is : x.view.fixed.shape ≡ get_or ss k x.view.fixed.shape =
      map_at shape_of (map f olds) k x x.view.fixed.shape in_olds x_is ∙ ap (λ (zs : List Shape). get_or zs k x.view.fixed.shape) fits in
      let has : Has x (part k log) y =
      subst (λ (i : Instance). Has i (part k log) y) (sym x_is) (subst (λ (i : Instance). Has (get_or (map f olds) k x) (part k log) i) (sym y_is) (told.each k x in_olds)) in
      let own : All (λ (e : Exchange). ((z : Shape) → K (get_or ss k z) e) × ((z : Shape) → IsGood (get_or ss k z) e)) (part k log) =
      part_all (λ n e. ((z : Shape) → K (get_or ss n z) e) × ((z : Shape) → IsGood (get_or ss n z) e)) k log goodly in
      talks_keep P K keeps (get_or ss k x.view.fixed.shape) x.view y.view (part k log) shape_is has.talks
      (λ j e v. ((own j e v).0 x.view.fixed.shape, λ z same. subst (λ (t : Shape). IsGood t (get_or (part k log) j e)) (sym same) ((own j e v).1 x.view.fixed.shape))) (all k d w_old)
