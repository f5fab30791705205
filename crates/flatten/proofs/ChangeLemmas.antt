-- Which connections have a transformation for another class: those from where an output leads to, and from where a path leads on to such an input.
use Rattle.std.proofs.Common.{◌≡◌, ◌≢◌, ◌↔◌, ◌<◌, Bool, true, false, List, length, get_or, Some, None, Option, sym, ap, ◌∙◌, subst, Contains}
use Rattle.dependency_order.specs.Paths.{IsMarked}
use Rattle.std.specs.Option.{IsSomeAnd}
use Rattle.std.proofs.lemmas.Option.{same_Some}
use Rattle.value_types.specs.declared.joint.Class.{Class}
use Rattle.value_types.specs.declared.joint.Class.TheVariants as class
use Rattle.value_types.specs.declared.shape.Causality.TheVariants.{Input, Output}
use Rattle.value_types.specs.declared.shape.Variable.{Variable}
use Rattle.value_types.specs.declared.shape.Shape.{Shape}
use Rattle.connection_paths.specs.declared.point.Point as paths
use Rattle.parameter_values.specs.declared.change.Change.{Change}
use Rattle.parameter_values.specs.declared.change.Change.TheVariants.{Linear, Integers, Booleans}
use Rattle.ssd_tree.specs.declared.tree.Connection.{Connection}
use Rattle.ssd_tree.specs.declared.tree.SystemTree.{SystemTree}
use Rattle.flatten.specs.Paths.{IsBefore, turned}
use Rattle.flatten.specs.Points.{variable_of}
use Rattle.flatten.specs.Rules.{HasOtherChange, Suits, class_at}
use Rattle.flatten.specs.Given.{AreShapesOf}
use Rattle.flatten.specs.Indexed.{AreNumbered}
use Rattle.flatten.specs.declared.marks.Marks.{Marks}
use Rattle.flatten.specs.Marks.{AreLedTo, HasMarks, beside_marks, IsInputBeside, IsLedTo, IsOutputAt}
use Rattle.flatten.proofs.PathLemmas.{names_variable, start_connector, variable_here}
use Rattle.flatten.proofs.RuleLemmas.{some_and}
use Rattle.flatten.proofs.TurnedLemmas.{on_from_up, up_from_on}

-- the class that a change is for
abbrev pub class_for : Change → Class
class_for (Linear factor offset) = class.Integer
class_for (Integers pairs) = class.Integer
class_for (Booleans pairs) = class.Boolean

pub beside : (change : Change) (o : Option Class) → (Suits change o → ⊥) → o ≢ Some (class_for change)
beside (Linear factor offset) None other = λ e. cc
beside (Integers pairs) None other = λ e. cc
beside (Booleans pairs) None other = λ e. cc
beside (Linear factor offset) (Some c) other = λ e. other (same_Some c class.Integer e)
beside (Integers pairs) (Some c) other = λ e. other (same_Some c class.Integer e)
beside (Booleans pairs) (Some c) other = λ e. other (same_Some c class.Boolean e)

pub unsuited : (change : Change) (o : Option Class) → o ≢ Some (class_for change) → Suits change o → ⊥
unsuited change None other h = h
unsuited (Linear factor offset) (Some c) other h = other (ap Some h)
unsuited (Integers pairs) (Some c) other h = other (ap Some h)
unsuited (Booleans pairs) (Some c) other h = other (ap Some h)

-- the marks for a change
pub marks_beside : (t : SystemTree) (shapes : List Shape) (marks : Marks) (change : Change) → HasMarks t shapes marks → AreLedTo (turned t) shapes (IsInputBeside (class_for change) t shapes) (beside_marks marks change)
marks_beside t shapes marks (Linear factor offset) has = has.no_integers
marks_beside t shapes marks (Integers pairs) has = has.no_integers
marks_beside t shapes marks (Booleans pairs) has = has.no_booleans

module _ (t : SystemTree) (shapes : List Shape) (points : List paths.Point) (sound : AreShapesOf t shapes) (are : AreNumbered t shapes points) where
  -- what is led to on both sides
  pub record StandsBetween (k : Connection) (change : Change) : Type 0 where
    pub before : IsLedTo t shapes (IsOutputAt t shapes) k.start
    pub after : IsLedTo (turned t) shapes (IsInputBeside (class_for change) t shapes) k.end

  pub between : (k : Connection) (change : Change) → k.change ≡ Some change → HasOtherChange t shapes k → StandsBetween k change
  between k change has h =
      let same : h.0 ≡ change = same_Some h.0 change (sym h.1 ∙ has) in
      let input : Variable = h.2.0 in
      let b : IsBefore t shapes k input = h.2.1 in
      let other = beside change (class_at input) (subst (λ (z : Change). Suits z (class_at input) → ⊥) same h.2.2) in
      let c = start_connector t shapes b.p b.s k.start b.is.start b.up_to in
      let d = start_connector (turned t) shapes b.q b.e k.end b.is.end (up_from_on t shapes b.q b.e b.on) in
      let output_named = names_variable t shapes points sound are Output c.0 b.p b.output c.1 b.from in
      let input_named = names_variable t shapes points sound are Input d.0 b.q input d.1 b.to in
      record {
        before = record {
          start = c.0;
          from = b.p;
          to = b.s;
          is_start = subst (λ (o : Option Variable). IsSomeAnd o (λ (x : Variable). (x.causality ≡ Output) × Unit {0})) (sym output_named) (b.from.1, tt);
          stands = c.1;
          there = b.is.start;
          leads = b.up_to;
        };
        after = record {
          start = d.0;
          from = b.q;
          to = b.e;
          is_start = subst (λ (o : Option Variable). IsSomeAnd o (λ (x : Variable). (x.causality ≡ Input) × (class_at x ≢ Some (class_for change)))) (sym input_named) (b.to.1, other);
          stands = d.1;
          there = b.is.end;
          leads = up_from_on t shapes b.q b.e b.on;
        };
      }

  pub has_other : (k : Connection) (change : Change) → k.change ≡ Some change → Contains t.connections k → StandsBetween k change → HasOtherChange t shapes k
  has_other k change has among w =
      let x = some_and (λ (v : Variable). (v.causality ≡ Output) × Unit {0}) (variable_of t shapes w.before.start) w.before.is_start in
      let y = some_and (λ (v : Variable). (v.causality ≡ Input) × (class_at v ≢ Some (class_for change))) (variable_of t shapes w.after.start) w.after.is_start in (
        change,
        has,
        (
          y.0,
          record {
            output = x.0;
            p = w.before.from;
            s = w.before.to;
            e = w.after.to;
            q = w.after.from;
            from = variable_here t shapes points sound are Output w.before.start w.before.from x.0 w.before.stands x.1 x.2.0;
            up_to = w.before.leads;
            is = record { is = among; start = w.before.there; end = w.after.there };
            on = on_from_up t shapes w.after.from w.after.to w.after.leads;
            to = variable_here t shapes points sound are Input w.after.start w.after.from y.0 w.after.stands y.1 y.2.0;
          },
          unsuited change (class_at y.0) y.2.1,
        ),
      )

  -- what the marks tell of a connection with a transformation
  pub told : (e : Connection) (change : Change) → e.change ≡ Some change → Contains t.connections e → (fed after : List Bool) → AreLedTo t shapes (IsOutputAt t shapes) fed →
      AreLedTo (turned t) shapes (IsInputBeside (class_for change) t shapes) after → e.start < length t.connectors → e.end < length t.connectors → IsMarked fed e.start → (b : Bool) → get_or after e.end false ≡ b →
      (b ≡ true) ↔ HasOtherChange t shapes e
  told e change has among fed after led on start end marked b is = (
    λ h. has_other e change has among (record { before = (led.each e.start start).0 marked; after = (on.each e.end end).0 (is ∙ h) }),
    λ h. sym is ∙ (on.each e.end end).1 (between e change has h).after,
  )

  -- and of one to where no output leads
  pub unfed : (e : Connection) (fed : List Bool) → AreLedTo t shapes (IsOutputAt t shapes) fed → e.start < length t.connectors → (IsMarked fed e.start → ⊥) → HasOtherChange t shapes e → ⊥
  unfed e fed led start none h = none ((led.each e.start start).1 (between e h.0 h.1 h).before)
