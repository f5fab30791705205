-- Calls by which the states of all are kept, or gone back to: three to each component, one component after another.
use Rattle.std.proofs.Common.{◌≡◌, ℕ, zero, suc, ◌+◌, ◌<◌, ◌≤◌, ◌==◌, Bool, true, false, List, [], ◌∷◌, refl, sym, ap, ◌∙◌, subst, arith, length}
use Rattle.std.specs.Prelude.{All, if◌then◌else◌}
use Rattle.std.proofs.lemmas.List.{length-map}
use Rattle.std.proofs.lemmas.List.Elements.{All-cons, All-nil}
use Rattle.value_types.specs.declared.shape.Shape.{Shape}
use Rattle.fmi_calls.specs.declared.call.Call.{Call}
use Rattle.fmi_calls.specs.declared.call.Call.TheVariants as C
use Rattle.system_model.specs.declared.system.Component.{Component}
use Rattle.system_model.specs.declared.system.System.{System}
use Rattle.slot_calls.specs.Log.{ComponentCall}
use Rattle.slot_calls.specs.Stage.{shapes_of}
use Rattle.slot_calls.proofs.CallerLemmas.{other, same}
use Rattle.event_iteration.specs.WalkCalls.{own}
use Rattle.calling_sequence.specs.Calls.{keeping, keeping_from, restoring, restoring_from}
use Rattle.course_laws.proofs.Goods.{IsToOne}

abbrev asking : ℕ → Call → ComponentCall
asking i call = record { component = i; call = call }

-- from the i-th component on, for each of a list: what each says, and the same two of all
abbrev pub triples_from : {X : Type 0} → ℕ → (X → Call) → Call → Call → List X → List ComponentCall
triples_from i f g h [] = []
triples_from i f g h (x ∷ xs) = asking i (f x) ∷ asking i g ∷ asking i h ∷ triples_from (i + 1) f g h xs

-- states are kept so, and gone back to
abbrev pub saves : Shape → Call
saves shape = C.Save

abbrev pub takes_in : (point stop : ℕ) → ℕ → Call
takes_in point stop size = C.Deserialize size point stop

keeping_same : (i : ℕ) (ss : List Shape) → keeping_from i ss ≡ triples_from i saves C.Serialize C.Free ss
keeping_same i [] = refl
keeping_same i (shape ∷ ss) = ap (λ (l : List ComponentCall). asking i C.Save ∷ asking i C.Serialize ∷ asking i C.Free ∷ l) (keeping_same (i + 1) ss)

pub keeping_are : (system : System) → keeping system ≡ triples_from 0 saves C.Serialize C.Free (shapes_of system)
keeping_are system = keeping_same 0 (shapes_of system)

restoring_same : (i point stop : ℕ) (sizes : List ℕ) → restoring_from i point stop sizes ≡ triples_from i (takes_in point stop) C.Restore C.Free sizes
restoring_same i point stop [] = refl
restoring_same i point stop (size ∷ sizes) = ap (λ (l : List ComponentCall). asking i (C.Deserialize size point stop) ∷ asking i C.Restore ∷ asking i C.Free ∷ l) (restoring_same (i + 1) point stop sizes)

pub restoring_are : (point stop : ℕ) (sizes : List ℕ) → restoring point stop sizes ≡ triples_from 0 (takes_in point stop) C.Restore C.Free sizes
restoring_are point stop sizes = restoring_same 0 point stop sizes

module _ {X : Type 0} (f : X → Call) (g h : Call) where
  -- what holds of the three holds of all
  pub triples_all : (P : Call → Type 0) → ((x : X) → P (f x)) → P g → P h → (i : ℕ) (xs : List X) → All (λ (a : ComponentCall). P a.call) (triples_from i f g h xs)
  triples_all P first second third i [] = All-nil (λ (a : ComponentCall). P a.call)
  triples_all P first second third i (x ∷ xs) =
      let Q = λ (a : ComponentCall). P a.call in
      let rest = triples_from (i + 1) f g h xs in
      All-cons Q (asking i (f x)) (asking i g ∷ asking i h ∷ rest) (first x)
      (All-cons Q (asking i g) (asking i h ∷ rest) second (All-cons Q (asking i h) rest third (triples_all P first second third (i + 1) xs)))

  -- they go to as many components
  pub triples_to : (n i : ℕ) (xs : List X) → i + length xs ≤ n → All (IsToOne n) (triples_from i f g h xs)
  triples_to n i [] w = All-nil (IsToOne n)
  triples_to n i (x ∷ xs) w =
      let here : i < n = omega (arith, w) in
      let rest = triples_from (i + 1) f g h xs in
      All-cons (IsToOne n) (asking i (f x)) (asking i g ∷ asking i h ∷ rest) here
      (All-cons (IsToOne n) (asking i g) (asking i h ∷ rest) here (All-cons (IsToOne n) (asking i h) rest here (triples_to n (i + 1) xs (omega (arith, w)))))

  -- ---- those of one component

  own_here : (i k : ℕ) (call : Call) (rest : List ComponentCall) → (i == k) ≡ true → own k (asking i call ∷ rest) ≡ call ∷ own k rest
  own_here i k call rest is = ap (λ (b : Bool). if b then call ∷ own k rest else own k rest) is

  own_past : (i k : ℕ) (call : Call) (rest : List ComponentCall) → (i == k) ≡ false → own k (asking i call ∷ rest) ≡ own k rest
  own_past i k call rest is = ap (λ (b : Bool). if b then call ∷ own k rest else own k rest) is

  past_three : (i k : ℕ) (x : X) (xs : List X) → (i == k) ≡ false → own k (triples_from i f g h (x ∷ xs)) ≡ own k (triples_from (i + 1) f g h xs)
  past_three i k x xs is =
      let rest = triples_from (i + 1) f g h xs in
      own_past i k (f x) (asking i g ∷ asking i h ∷ rest) is ∙ own_past i k g (asking i h ∷ rest) is ∙ own_past i k h rest is

  own_three : (i k : ℕ) (x : X) (xs : List X) → (i == k) ≡ true → own k (triples_from i f g h (x ∷ xs)) ≡ f x ∷ g ∷ h ∷ own k (triples_from (i + 1) f g h xs)
  own_three i k x xs is =
      let rest = triples_from (i + 1) f g h xs in
      own_here i k (f x) (asking i g ∷ asking i h ∷ rest) is
      ∙ ap (λ (l : List Call). f x ∷ l) (own_here i k g (asking i h ∷ rest) is ∙ ap (λ (l : List Call). g ∷ l) (own_here i k h rest is))

  none_own : (i k : ℕ) (xs : List X) → k < i → own k (triples_from i f g h xs) ≡ []
  none_own i k [] w = refl
  none_own i k (x ∷ xs) w = past_three i k x xs (other i k (λ e. absurd (omega (arith, e, w)))) ∙ none_own (i + 1) k xs (omega (arith, w))

  -- each of as many has its three
  pub own_triple : (i d k : ℕ) (xs : List X) → i + d ≡ k → d < length xs → (x : X) × (own k (triples_from i f g h xs) ≡ f x ∷ g ∷ h ∷ [])
  own_triple i d k [] at w = absurd (omega (arith, w))
  own_triple i zero k (x ∷ xs) at w = (
    x,
    own_three i k x xs (same i k (omega (arith, at))) ∙ ap (λ (l : List Call). f x ∷ g ∷ h ∷ l) (none_own (i + 1) k xs (omega (arith, at))),
  )
  own_triple i (suc d) k (x ∷ xs) at w =
      let more = own_triple (i + 1) d k xs (omega (arith, at)) (omega (arith, w)) in
      (more.0, past_three i k x xs (other i k (λ e. absurd (omega (arith, e, at)))) ∙ more.1)

-- of the calls that keep the states
pub own_keeping : (system : System) (k : ℕ) → k < length system.components → own k (keeping system) ≡ C.Save ∷ C.Serialize ∷ C.Free ∷ []
own_keeping system k w =
    let len = length-map system.components (λ (c : Component). c.shape) in
    ap (own k) (keeping_are system) ∙ (own_triple saves C.Serialize C.Free 0 k k (shapes_of system) (omega arith) (omega (arith, len, w))).1

-- and of those that go back to them
pub own_restoring : (point stop : ℕ) (sizes : List ℕ) (k : ℕ) → k < length sizes → (size : ℕ) × (own k (restoring point stop sizes) ≡ C.Deserialize size point stop ∷ C.Restore ∷ C.Free ∷ [])
own_restoring point stop sizes k w =
    let one = own_triple (takes_in point stop) C.Restore C.Free 0 k k sizes (omega arith) w in
    (one.0, ap (own k) (restoring_are point stop sizes) ∙ one.1)

pub keeping_all : (P : Call → Type 0) → P C.Save → P C.Serialize → P C.Free → (system : System) → All (λ (a : ComponentCall). P a.call) (keeping system)
keeping_all P save serialize free system =
    subst (All (λ (a : ComponentCall). P a.call)) (sym (keeping_are system)) (triples_all saves C.Serialize C.Free P (λ shape. save) serialize free 0 (shapes_of system))

pub restoring_all : (P : Call → Type 0) (point stop : ℕ) → ((size : ℕ) → P (C.Deserialize size point stop)) → P C.Restore → P C.Free → (sizes : List ℕ) → All (λ (a : ComponentCall). P a.call) (restoring point stop sizes)
restoring_all P point stop takes restore free sizes =
    subst (All (λ (a : ComponentCall). P a.call)) (sym (restoring_are point stop sizes)) (triples_all (takes_in point stop) C.Restore C.Free P takes restore free 0 sizes)

pub keeping_to : (system : System) → All (IsToOne (length (shapes_of system))) (keeping system)
keeping_to system = subst (All (IsToOne (length (shapes_of system)))) (sym (keeping_are system)) (triples_to saves C.Serialize C.Free (length (shapes_of system)) 0 (shapes_of system) (omega arith))

pub restoring_to : (n point stop : ℕ) (sizes : List ℕ) → length sizes ≤ n → All (IsToOne n) (restoring point stop sizes)
restoring_to n point stop sizes few = subst (All (IsToOne n)) (sym (restoring_are point stop sizes)) (triples_to (takes_in point stop) C.Restore C.Free n 0 sizes (omega (arith, few)))
