-- What a flattening answers.
use Rattle.std.proofs.Common.{◌≡◌, ℕ, List, refl, sym, ◌∙◌, ap, subst, inl, inr}
use Rattle.std.specs.Prelude.{◌==◌, if◌then◌else◌, Result, Ok, Err, IfOk, IfErr}
use Rattle.std.proofs.lemmas.Bool.{cases_order}
use Rattle.value_types.specs.declared.shape.Shape.{Shape}
use Rattle.doc_tree.specs.Rules.{number}
use Rattle.doc_tree.specs.declared.refusal.Refusal.{Refusal}
use Rattle.doc_tree.specs.declared.refusal.Refusal.TheVariants.{At, Memory}
use Rattle.doc_tree.specs.declared.rule.Rule.{Rule}
use Rattle.doc_tree.specs.declared.rule.Rule.TheVariants.{Document, Description, System as OfSystem, Nesting, Flattening, Loop, SavesNoState, TooManyPorts, Parameters, CannotBeHeld}
use Rattle.doc_tree.specs.declared.rule.FlatteningRule.TheVariants as f
use Rattle.doc_tables.specs.Answers.{IsRefusal, Refuses}
use Rattle.doc_tables.proofs.CallerLemmas.{refuses, none_sound}
use Rattle.system_model.specs.declared.system.Component.{Component}
use Rattle.system_model.specs.declared.system.Port.{Port}
use Rattle.system_model.specs.declared.system.System.{System}
use Rattle.system_model.specs.Ports.{port_numbers}
use Rattle.system_model.specs.Sound.{IsSound}
use Rattle.port_orders.specs.Outcome.{HasOrders, unordered}
use Rattle.ssd_tree.specs.declared.tree.SystemTree.{SystemTree}
use Rattle.flatten.specs.Answers.{Faults, GivesParts, IsAnswer}
use Rattle.flatten.specs.Flat.{AreComponentsOf, Flattens, HasFeeds, IsFlat}
use Rattle.flatten.specs.Given.{AreShapesOf, IsWholeTree}
use Rattle.flatten.specs.Rules.{IsFirstFlatteningViolation, IsFitting, ViolatesFlattening}
use Rattle.flatten.proofs.SameLemmas.{no_loop, same_parts}
use Rattle.flatten.proofs.SoundLemmas.{same_ports, sound_system}

-- ---- one first violation

-- the rule that has a number, of those that are tested here
rule_at : ℕ → Rule
rule_at n =
    if n == 40 then Flattening f.NoSuchVariable
    else (if n == 41 then Flattening f.OtherCausality
    else (if n == 42 then Flattening f.OtherClass
    else (if n == 43 then Flattening f.EndTwice
    else (if n == 44 then Flattening f.TooWide
    else (if n == 45 then Flattening f.FedClock else (if n == 47 then SavesNoState
    else (if n == 58 then Flattening f.OtherChange else TooManyPorts)))))))

told : (t : SystemTree) (shapes : List Shape) (rule : Rule) (node : ℕ) → ViolatesFlattening t shapes rule node → rule_at (number rule) ≡ rule
unfolding rule_at
told t shapes (Document rule) node h = absurd h
told t shapes (Description rule) node h = absurd h
told t shapes (OfSystem rule) node h = absurd h
told t shapes (Nesting rule) node h = absurd h
told t shapes (Flattening f.NoSuchVariable) node h = refl
told t shapes (Flattening f.OtherCausality) node h = refl
told t shapes (Flattening f.OtherClass) node h = refl
told t shapes (Flattening f.EndTwice) node h = refl
told t shapes (Flattening f.TooWide) node h = refl
told t shapes (Flattening f.FedClock) node h = refl
told t shapes (Flattening f.OtherChange) node h = refl
told t shapes Loop node h = absurd h
told t shapes SavesNoState node h = refl
told t shapes TooManyPorts node h = refl
told t shapes (Parameters rule) node h = absurd h
told t shapes CannotBeHeld node h = absurd h

same_node : (t : SystemTree) (shapes : List Shape) (j k : ℕ) (a b : Rule) → IsFirstFlatteningViolation t shapes j a → IsFirstFlatteningViolation t shapes k b → j ≡ k
same_node t shapes j k a b x y = elim (cases_order j k) [
  | inl e ↦ e
  | inr (inl lower) ↦ absurd (y.first j a lower x.is.broken)
  | inr (inr lower) ↦ absurd (x.first k b lower y.is.broken)
]

same_number : (t : SystemTree) (shapes : List Shape) (j k : ℕ) (a b : Rule) → j ≡ k → IsFirstFlatteningViolation t shapes j a → IsFirstFlatteningViolation t shapes k b → number a ≡ number b
same_number t shapes j k a b same x y = elim (cases_order (number a) (number b)) [
  | inl e ↦ e
  | inr (inl lower) ↦ absurd (y.is.least a lower (subst (ViolatesFlattening t shapes a) same x.is.broken))
  | inr (inr lower) ↦ absurd (x.is.least b lower (subst (ViolatesFlattening t shapes b) (sym same) y.is.broken))
]

same_rule : (t : SystemTree) (shapes : List Shape) (j k : ℕ) (a b : Rule) → j ≡ k → IsFirstFlatteningViolation t shapes j a → IsFirstFlatteningViolation t shapes k b → a ≡ b
same_rule t shapes j k a b same x y =
    sym (told t shapes a j x.is.broken) ∙ ap rule_at (same_number t shapes j k a b same x y) ∙ told t shapes b k y.is.broken

-- ---- refusals

-- the first violation is refused
pub refused : (t : SystemTree) (shapes : List Shape) (e : Refusal) (rule : Rule) (node : ℕ) → IsRefusal e rule node → IsFirstFlatteningViolation t shapes node rule → Faults t shapes e
refused t shapes (At file k r ports) rule node is first =
    (is.0, inl (is.3, subst (λ n. IsFirstFlatteningViolation t shapes n r) (sym is.1) (subst (λ z. IsFirstFlatteningViolation t shapes node z) (sym is.2) first)))
refused t shapes Memory rule node is first = absurd is

pub refuses_first : (t : SystemTree) (shapes : List Shape) (e : Refusal) (rule : Rule) (node : ℕ) → IsRefusal e rule node → IsFirstFlatteningViolation t shapes node rule
    → (other : Rule) (k : ℕ) → IsFirstFlatteningViolation t shapes k other → Refuses {A = System} (Err e) other k
refuses_first t shapes e rule node is first other k wanted =
    let same : node ≡ k = same_node t shapes node k rule other first wanted in
    refuses System e rule other node k is same (same_rule t shapes node k rule other same first wanted)

-- ---- systems

flat_of : (t : SystemTree) (shapes : List Shape) (a b : System) → a.components ≡ b.components → a.ports ≡ b.ports → IsFlat t shapes a → IsFlat t shapes b
flat_of t shapes a b components ports is = record {
  components = subst (AreComponentsOf t.components shapes) components is.components;
  ports = same_ports a b components ports is.ports;
  feeds = subst (HasFeeds t shapes) ports is.feeds;
}

module _ (t : SystemTree) (shapes : List Shape) (components : List Component) (ports : List Port) (flat : IsFlat t shapes (unordered components ports)) where
  pub flattened : (r : Result System Refusal) → IfOk r (λ system. (system.components ≡ components) × (system.ports ≡ ports)) → IfOk r HasOrders → IfOk r (Flattens t shapes)
  flattened (Ok system) parts orders = record { flat = flat_of t shapes (unordered components ports) system (sym parts.0) (sym parts.1) flat; orders = orders }
  flattened (Err e) parts orders = tt

  pub gives_parts : (r : Result System Refusal) → AreShapesOf t shapes → IfOk r (λ system. (system.components ≡ components) × (system.ports ≡ ports)) → IfErr r (Faults t shapes)
      → (wanted : System) → IsFitting t shapes → Flattens t shapes wanted → GivesParts r wanted
  gives_parts (Ok system) given parts fault wanted fitting is =
      let same = same_parts t shapes (unordered components ports) wanted given flat is.flat in
      (parts.0 ∙ same.0, parts.1 ∙ same.1)
  gives_parts (Err Memory) given parts fault wanted fitting is = tt
  gives_parts (Err (At file node rule nodes)) given parts fault wanted fitting is = elim fault.1 [
    | inl first ↦ absurd (none_sound number (ViolatesFlattening t shapes) node rule first.1 fitting)
    | inr loop ↦
        let same = same_parts t shapes loop.1.system wanted given loop.1.flat is.flat in
        absurd (no_loop loop.1.system wanted same.0 same.1 is.orders (port_numbers nodes) loop.1.loop)
  ]

pub all_sound : (t : SystemTree) (shapes : List Shape) → IsWholeTree t → AreShapesOf t shapes → IsFitting t shapes → (r : Result System Refusal) → IfOk r (Flattens t shapes) → IfOk r IsSound
all_sound t shapes whole given fitting (Ok system) is = sound_system t shapes system whole given fitting is
all_sound t shapes whole given fitting (Err e) is = tt

pub all_fitting : (t : SystemTree) (shapes : List Shape) → IsFitting t shapes → (r : Result System Refusal) → IfOk r (λ system. IsFitting t shapes)
all_fitting t shapes fitting (Ok system) = fitting
all_fitting t shapes fitting (Err e) = tt

pub none_first : (t : SystemTree) (shapes : List Shape) → IsFitting t shapes → (r : Result System Refusal) (rule : Rule) (node : ℕ) → IsFirstFlatteningViolation t shapes node rule → Refuses r rule node
none_first t shapes fitting r rule node first = absurd (none_sound number (ViolatesFlattening t shapes) node rule first fitting)

-- ---- whole answers

pub answer_of : (t : SystemTree) (shapes : List Shape) (r : Result System Refusal) → IsWholeTree t → AreShapesOf t shapes → IsFitting t shapes → IfOk r (Flattens t shapes) → IfErr r (Faults t shapes)
    → ((system : System) → Flattens t shapes system → GivesParts r system) → IsAnswer t shapes r
answer_of t shapes r whole given fitting found fault only = record {
  fitting = all_fitting t shapes fitting r;
  found = found;
  sound = all_sound t shapes whole given fitting r found;
  fault = fault;
  exact = λ rule node first. none_first t shapes fitting r rule node first;
  only = λ system fits is. only system is;
}

gives_none : (t : SystemTree) (shapes : List Shape) (e : Refusal) (rule : Rule) (node : ℕ) → IsRefusal e rule node → IsFirstFlatteningViolation t shapes node rule → IsFitting t shapes → (wanted : System) → GivesParts (Err e) wanted
gives_none t shapes e rule node is first fitting wanted = absurd (none_sound number (ViolatesFlattening t shapes) node rule first fitting)

pub answer_refused : (t : SystemTree) (shapes : List Shape) (e : Refusal) (rule : Rule) (node : ℕ) → IsRefusal e rule node → IsFirstFlatteningViolation t shapes node rule → IsAnswer t shapes (Err e)
answer_refused t shapes e rule node is first = record {
  fitting = tt;
  found = tt;
  sound = tt;
  fault = refused t shapes e rule node is first;
  exact = λ other k wanted. refuses_first t shapes e rule node is first other k wanted;
  only = λ system fitting flattens. gives_none t shapes e rule node is first fitting system;
}

pub answer_memory : (t : SystemTree) (shapes : List Shape) → IsAnswer t shapes (Err Memory)
answer_memory t shapes = record { fitting = tt; found = tt; sound = tt; fault = tt; exact = λ rule node first. tt; only = λ system fitting flattens. tt }
