-- The machines of the examples are those of their shapes, and their outputs keep to the dependencies that they declare.
use Rattle.std.proofs.Common.{◌≡◌, ℕ, zero, suc, ℤ, pos, Bool, true, false, not, ◌&&◌, List, [], ◌∷◌, length, refl, sym, ◌∙◌, ap, subst}
use Rattle.std.specs.Prelude.{Option, Some, None, IsSomeAnd, slice_get, if◌then◌else◌, ◌==◌, ◌*ℤ◌}
use Rattle.std.specs.Ordering.{int_eq}
use Rattle.std.specs.Option.{option_map_or}
use Rattle.std.proofs.lemmas.Bool.{eqb-true}
use Rattle.std.proofs.lemmas.List.{length-map}
use Rattle.std.proofs.lemmas.Option.{none-some as none_some, same_Some}
use Rattle.value_types.specs.Shape.{AgreeFor, is_declared, is_output, is_undeclared, variable_at}
use Rattle.value_types.specs.declared.shape.Causality.TheVariants as V
use Rattle.value_types.specs.declared.shape.Variable.{Variable}
use Rattle.value_types.specs.declared.shape.Shape.{Shape}
use Rattle.fmi_calls.specs.declared.call.Call.{Call}
use Rattle.fmi_calls.specs.declared.call.Call.TheVariants as C
use Rattle.fmi_calls.specs.declared.call.Reply.TheVariants.{Done}
use Rattle.fmu_peer.specs.Machine.{MachineState, Machine, IsLawful, IsMachineOf, changes_mode}
use Rattle.system_model.specs.declared.system.Component.{Component}
use Rattle.system_model.proofs.CallerLemmas.{found_at, all_at}
use Rattle.run_model.specs.Run.{Run}
use Rattle.run_model.specs.Machines.{AreMachines}
use Rattle.run_rows.specs.Machines.{Behaviour, machine_of, at, after, seen, gain_content, gain, sampler}
use Rattle.run_rows.proofs.Tests.{true_false, implies, implied, every, all_by}

-- ---- machines of their shapes

keeps : (shape : Shape) (b : Behaviour) (s : MachineState) (call : Call) → changes_mode call ≡ false → (machine_of shape b).initializing ((machine_of shape b).change s call) ≡ (machine_of shape b).initializing s.numbers
keeps shape b s (C.EnterInitialization start stop) e = absurd (true_false e)
keeps shape b s C.ExitInitialization e = absurd (true_false e)
keeps shape b s call e = refl

pub is_machine : (shape : Shape) (b : Behaviour) → IsMachineOf shape (machine_of shape b)
is_machine shape b = record {
  references = refl;
  clocks = refl;
  values = length-map shape.variables _;
  empty = refl;
  before = refl;
  enters = λ s start stop. refl;
  exits = λ s. refl;
  keeps = keeps shape b;
  undiscarded = λ s call e. refl;
}

-- ---- values that an output may depend on

at_of : Option ℤ → ℤ
at_of None = pos 0
at_of (Some x) = x

at-get : (xs : List ℤ) (k : ℕ) → at xs k ≡ at_of (slice_get xs k)
unfolding at_of
at-get [] k = refl
at-get (x ∷ xs) zero = refl
at-get (x ∷ xs) (suc k) = at-get xs k

agree_at : (shape : Shape) (b : Bool) (output : ℕ) (xs ys : List ℤ) → AgreeFor shape b output xs ys → (k : ℕ) (v : Variable) → slice_get shape.variables k ≡ Some v → is_undeclared shape b output v ≡ false → at xs k ≡ at ys k
agree_at shape b output xs ys agree k v there declared = at-get xs k ∙ ap at_of (agree.each k v there declared) ∙ sym (at-get ys k)

not_by : (b : Bool) → not b ≡ true → b ≡ false
not_by true e = absurd (true_false (sym e))
not_by false e = refl

-- the output under a reference
pub record IsOutputAt (shape : Shape) (output : ℕ) : Type 0 where
  pub place : ℕ
  pub variable : Variable
  pub is : slice_get shape.variables place ≡ Some variable
  pub reference : variable.reference ≡ output
  pub output_is : is_output variable.causality ≡ true

output_at : (shape : Shape) (output : ℕ) → IsSomeAnd (variable_at shape.variables output) (λ (v : Variable). v.causality ≡ V.Output) → IsOutputAt shape output
output_at shape output is =
    (elim (variable_at shape.variables output) as (λ o. variable_at shape.variables output ≡ o → IsSomeAnd o (λ (v : Variable). v.causality ≡ V.Output) → IsOutputAt shape output) [
      | None ↦ λ e h. absurd h
      | Some v ↦ λ e h. let found = found_at (λ (x : Variable). x.reference) shape.variables output v e in
          record { place = found.place; variable = v; is = found.is; reference = found.under; output_is = ap is_output h }
    ]) refl is

same_list : (xs ys : List ℤ) → length xs ≡ length ys → ((k : ℕ) → slice_get xs k ≡ slice_get ys k) → xs ≡ ys
same_list [] [] e h = refl
same_list [] (y ∷ ys) e h = absurd (none_some _ (h 0))
same_list (x ∷ xs) [] e h = absurd (none_some _ (sym (h 0)))
same_list (x ∷ xs) (y ∷ ys) e h = ap (λ z. z ∷ xs) (same_Some _ _ (h 0)) ∙ ap (λ zs. y ∷ zs) (same_list xs ys (suc_same e) (λ k. h (suc k)))
  where
    suc_same : suc (length xs) ≡ suc (length ys) → length xs ≡ length ys
    suc_same p = cc

-- ---- an output that declares all inputs

abbrev pub declares_all : Shape → Bool → Bool
declares_all shape b = every (λ (o : Variable). implies (is_output o.causality) (every (λ (v : Variable). not (is_undeclared shape b o.reference v)) shape.variables)) shape.variables

none_undeclared : (shape : Shape) (b : Bool) → declares_all shape b ≡ true → (output : ℕ) (o : IsOutputAt shape output) → (k : ℕ) (v : Variable) → slice_get shape.variables k ≡ Some v → is_undeclared shape b output v ≡ false
none_undeclared shape b all output o k v there =
    let test = λ (x : Variable). implies (is_output x.causality) (every (λ (w : Variable). not (is_undeclared shape b x.reference w)) shape.variables) in
    let here : test o.variable ≡ true = all_at (λ (x : Variable). test x ≡ true) shape.variables o.place o.variable (all_by test (λ (x : Variable). test x ≡ true) (λ x h. h) shape.variables all) o.is in
    let each = implied (is_output o.variable.causality) (every (λ (w : Variable). not (is_undeclared shape b o.variable.reference w)) shape.variables) here o.output_is in
    not_by (is_undeclared shape b output v) (subst (λ r. not (is_undeclared shape b r v) ≡ true) o.reference
    (all_at (λ (w : Variable). not (is_undeclared shape b o.variable.reference w) ≡ true) shape.variables k v
    (all_by (λ (w : Variable). not (is_undeclared shape b o.variable.reference w)) (λ (w : Variable). not (is_undeclared shape b o.variable.reference w) ≡ true) (λ w h. h) shape.variables each) there))

past : (xs : List ℤ) (vs : List Variable) (k : ℕ) → length xs ≡ length vs → slice_get vs k ≡ None → slice_get xs k ≡ None
past [] vs k e none = refl
past (x ∷ xs) [] k e none = absurd (cc)
past (x ∷ xs) (v ∷ vs) zero e none = absurd (none_some _ (sym none))
past (x ∷ xs) (v ∷ vs) (suc k) e none = past xs vs k (suc_same e) none
  where
    suc_same : suc (length xs) ≡ suc (length vs) → length xs ≡ length vs
    suc_same p = cc

pub lawful_all : (shape : Shape) (b : Behaviour) → declares_all shape true ≡ true → declares_all shape false ≡ true → IsLawful shape (machine_of shape b)
lawful_all shape b initially later call output s xs ys at_output is events agree =
    let mode : Bool = int_eq (at s.numbers 0) (pos 1) in
    ap (λ zs. Done false (b.look mode (after s.numbers) zs call))
    (same_list xs ys (agree.first ∙ sym agree.second) (λ k. (elim (slice_get shape.variables k) as (λ o. slice_get shape.variables k ≡ o → slice_get xs k ≡ slice_get ys k) [
      | None ↦ λ e. past xs shape.variables k agree.first e ∙ sym (past ys shape.variables k agree.second e)
      | Some v ↦ λ e. agree.each k v e (none_undeclared shape mode (all_of mode) output (output_at shape output is) k v e)
    ]) refl))
  where
    all_of : (m : Bool) → declares_all shape m ≡ true
    all_of true = initially
    all_of false = later

-- ---- an output that sees one input, or what was kept of it

-- the only output is that under the reference 3
abbrev pub has_only_3 : Shape → Bool
has_only_3 shape = every (λ (o : Variable). implies (is_output o.causality) (o.reference == 3)) shape.variables

only_3 : (shape : Shape) → has_only_3 shape ≡ true → (output : ℕ) → IsOutputAt shape output → output ≡ 3
only_3 shape all output o =
    let test = λ (x : Variable). implies (is_output x.causality) (x.reference == 3) in
    let here : test o.variable ≡ true = all_at (λ (x : Variable). test x ≡ true) shape.variables o.place o.variable (all_by test (λ (x : Variable). test x ≡ true) (λ x h. h) shape.variables all) o.is in
    sym o.reference ∙ eqb-true o.variable.reference 3 (implied (is_output o.variable.causality) (o.variable.reference == 3) here o.output_is)

-- u, under the reference 2, stands at place 1
pub record HasU (shape : Shape) : Type 0 where
  pub u : Variable
  pub is : slice_get shape.variables 1 ≡ Some u
  pub under : variable_at shape.variables 2 ≡ Some u

seen_same : (shape : Shape) → HasU shape → (b : Bool) (xs ys : List ℤ) (kept : ℤ) → AgreeFor shape b 3 xs ys → seen shape b 3 2 (at xs 1) kept ≡ seen shape b 3 2 (at ys 1) kept
seen_same shape has b xs ys kept agree =
    ap (λ o. if option_map_or (is_declared shape b 3) o false then at xs 1 else kept) has.under
    ∙ (elim (is_declared shape b 3 has.u) as (λ d. is_declared shape b 3 has.u ≡ d → (if d then at xs 1 else kept) ≡ (if d then at ys 1 else kept)) [
      | true ↦ λ e. agree_at shape b 3 xs ys agree 1 has.u has.is (undeclared (Rattle.value_types.specs.Shape.is_input has.u.causality) (is_declared shape b 3 has.u) e)
      | false ↦ λ e. refl
    ]) refl
    ∙ sym (ap (λ o. if option_map_or (is_declared shape b 3) o false then at ys 1 else kept) has.under)
  where
    undeclared : (a d : Bool) → d ≡ true → (a && not d) ≡ false
    undeclared true d e = ap not e
    undeclared false d e = refl

pub lawful_sampler : (shape : Shape) → has_only_3 shape ≡ true → HasU shape → IsLawful shape (machine_of shape (sampler shape))
lawful_sampler shape only has call output s xs ys at_output is events agree =
    let mode : Bool = int_eq (at s.numbers 0) (pos 1) in
    ap (λ y. Done false (gain_content y call))
    (seen_same shape has mode xs ys (at (after s.numbers) 0) (subst (λ r. AgreeFor shape mode r xs ys) (only_3 shape only output (output_at shape output is)) agree))

-- k stands at place 0
pub lawful_gain : (shape : Shape) → has_only_3 shape ≡ true → HasU shape → (k : Variable) → slice_get shape.variables 0 ≡ Some k → Rattle.value_types.specs.Shape.is_input k.causality ≡ false → IsLawful shape (machine_of shape (gain shape))
lawful_gain shape only has k k_is k_input call output s xs ys at_output is events agree =
    let mode : Bool = int_eq (at s.numbers 0) (pos 1) in
    let on_3 : AgreeFor shape mode 3 xs ys = subst (λ r. AgreeFor shape mode r xs ys) (only_3 shape only output (output_at shape output is)) agree in
    ap (λ x. Done false (gain_content (x *ℤ seen shape mode 3 2 (at xs 1) (at (after s.numbers) 0)) call)) (agree_at shape mode 3 xs ys on_3 0 k k_is (ap (λ b. b && not (is_declared shape mode 3 k)) k_input))
    ∙ ap (λ x. Done false (gain_content (at ys 0 *ℤ x) call)) (seen_same shape has mode xs ys (at (after s.numbers) 0) on_3)

-- ---- the machines of a run

abbrev pub AreEach : (Component → Machine → Type 0) → List Component → List Machine → Type 0
AreEach R (c ∷ cs) (m ∷ ms) = R c m × AreEach R cs ms
AreEach R [] ms = Unit {0}
AreEach R (c ∷ cs) [] = Unit {0}

pub each_is : (R : Component → Machine → Type 0) (cs : List Component) (ms : List Machine) → AreEach R cs ms → (i : ℕ) (c : Component) (m : Machine) → slice_get cs i ≡ Some c → slice_get ms i ≡ Some m → R c m
each_is R [] ms all i c m at_c at_m = absurd (none_some _ at_c)
each_is R (d ∷ cs) [] all i c m at_c at_m = absurd (none_some _ at_m)
each_is R (d ∷ cs) (n ∷ ms) all zero c m at_c at_m = subst (λ (x : Component). R x m) (same_Some _ _ at_c) (subst (λ (y : Machine). R d y) (same_Some _ _ at_m) all.0)
each_is R (d ∷ cs) (n ∷ ms) all (suc i) c m at_c at_m = each_is R cs ms all.1 i c m at_c at_m

abbrev pub IsLawfulMachine : Component → Machine → Type 0
IsLawfulMachine c m = IsMachineOf c.shape m × IsLawful c.shape m

pub machines_by : (r : Run) → length r.machines ≡ length r.system.components → AreEach IsLawfulMachine r.system.components r.machines → AreMachines r
machines_by r count all = record { count = count; each = each_is IsLawfulMachine r.system.components r.machines all }
