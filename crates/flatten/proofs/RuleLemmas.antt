-- What marks say of the paths that end by a connection.
use Rattle.std.proofs.Common.{◌≡◌, ◌≢◌, ◌⊎◌, ℕ, ◌<◌, Bool, true, not, List, [], ◌∷◌, length, get_or, zero, suc, ◌+◌, ◌≤◌, false, Option, Some, None, refl, sym, ap, ◌∙◌, subst, inl, inr, arith, lit<}
use Rattle.std.specs.List.{slice_get, AllZip}
use Rattle.std.specs.Option.{IsSomeAnd, is_some, option_map, option_and_then}
use Rattle.std.proofs.lemmas.Bool.{cases_lt, false≢true}
use Rattle.std.proofs.lemmas.List.{get_or_default}
use Rattle.std.proofs.lemmas.List.Elements.{All-contains}
use Rattle.std.proofs.lemmas.Option.{slice_get_within, slice_get-get_or, same_Some}
use Rattle.dependency_order.specs.Paths.{IsMarked}
use Rattle.value_types.specs.declared.shape.Causality.TheVariants.{Output}
use Rattle.value_types.specs.declared.shape.IntervalVariability.TheVariants.{Triggered}
use Rattle.value_types.specs.declared.shape.ClockTiming.{ClockTiming}
use Rattle.value_types.specs.declared.shape.Variable.{Variable}
use Rattle.value_types.specs.declared.shape.Shape.{Shape}
use Rattle.value_types.specs.declared.values.PortType.{PortType}
use Rattle.value_types.specs.declared.values.PortType.TheVariants.{Int8, UInt8, Int16, UInt16, Int32, UInt32, Int64, UInt64, Boolean, Enumeration, Clock}
use Rattle.value_types.specs.declared.joint.Class.{Class}
use Rattle.value_types.specs.declared.joint.Class.TheVariants as class
use Rattle.value_types.specs.declared.joint.Joint.TheVariants.{WrongRange}
use Rattle.value_types.specs.Joint as types
use Rattle.value_types.specs.Joint.{class_of}
use Rattle.value_types.specs.Shape.{timing_at}
use Rattle.connection_paths.specs.declared.point.Point as paths
use Rattle.ssd_tree.specs.declared.tree.TypeChild.{TypeChild}
use Rattle.ssd_tree.specs.declared.tree.Owner.{Owner}
use Rattle.ssd_tree.specs.declared.tree.Owner.TheVariants.{System, Component}
use Rattle.ssd_tree.specs.declared.tree.Connector.{Connector}
use Rattle.ssd_tree.specs.declared.tree.SystemTree.{SystemTree}
use Rattle.flatten.specs.declared.marks.ClassMarks.{ClassMarks}
use Rattle.flatten.specs.declared.marks.TypeMarks.{TypeMarks}
use Rattle.flatten.specs.declared.marks.TheConstants.{CLASSES, INTEGER_TYPES}
use Rattle.flatten.specs.Points.{Point, OfComponent, Itself, IsOfSystem, IsVariable, named_by, point_for, point_of, variable_of}
use Rattle.flatten.specs.Paths.{Leads, LeadsUpTo}
use Rattle.flatten.specs.Rules.{child_class, class_at, GivesOther, IsOtherClass, IsTimeBased, IsTooWide}
use Rattle.flatten.specs.Given.{AreShapesOf, IsWholeTree}
use Rattle.ssd_tree.specs.Named.{IsOwner}
use Rattle.flatten.specs.Indexed.{AreNumbered}
use Rattle.flatten.specs.Marks.{AreClassMarks, AreLedTo, AreTypeMarks, IsLedTo, IsOfClass, IsOfType, IsOutputAt, NamesOutput}
use Rattle.flatten.specs.Broken.{IsReachedAt, IsReachedBy, TellsOther, TellsTooWide}
use Rattle.flatten.proofs.BridgeLemmas.{at_place, slice_contains, point_at}
use Rattle.flatten.proofs.MarkLemmas.{started_as}
use Rattle.flatten.proofs.PathLemmas.{itself_there, leads_up_on, names_variable, no_system, start_connector, variable_here}

-- ---- classes and types

pub none_is : {X : Type 0} (o : Option X) (b : Bool) → is_some o ≡ not b → b ≡ true → o ≡ None
none_is None b is e = refl
none_is (Some x) b is e = absurd (false≢true (sym (is ∙ ap not e)))

pub not_none : {X : Type 0} (o : Option X) (b : Bool) → is_some o ≡ not b → b ≡ false → o ≡ None → ⊥
not_none o b is e none = false≢true (sym (ap is_some none) ∙ is ∙ ap not e)

-- the connector at a place, read from a list that is lent
pub owner_there : (xs lent : List Connector) (c : ℕ) (d : Connector) (o : Owner) → lent ≡ xs → c < length xs → (get_or lent c d).owner ≡ o → (k : Connector) × (slice_get xs c ≡ Some k) × (k.owner ≡ o)
owner_there xs lent c d o same l is = (get_or xs c d, slice_get-get_or xs c d l, ap (λ (z : List Connector). (get_or z c d).owner) (sym same) ∙ is)

pub component_within : (t : SystemTree) (c i : ℕ) (k : Connector) → IsWholeTree t → slice_get t.connectors c ≡ Some k → k.owner ≡ Component i → i < length t.components
component_within t c i k whole at owner =
    subst (IsOwner t) owner (All-contains (λ (z : Connector). IsOwner t z.owner) t.connectors k whole.owners (slice_contains t.connectors c k at))

pub some_and : {X : Type 0} (P : X → Type 0) (o : Option X) → IsSomeAnd o P → (x : X) × (o ≡ Some x) × P x
some_and P None h = absurd h
some_and P (Some x) h = (x, refl, h)

zip_at : {A B : Type 0} (R : A → B → Type 0) (xs : List A) (ys : List B) (i : ℕ) (d : A) (e : B) → AllZip R xs ys → i < length xs → R (get_or xs i d) (get_or ys i e)
zip_at R [] ys i d e all l = absurd (omega (arith, l))
zip_at R (x ∷ xs) [] i d e all l = absurd all
zip_at R (x ∷ xs) (y ∷ ys) zero d e all l = all.0
zip_at R (x ∷ xs) (y ∷ ys) (suc i) d e all l = zip_at R xs ys i d e all.1 (omega (arith, l))

zip_len : {A B : Type 0} (R : A → B → Type 0) (xs : List A) (ys : List B) → AllZip R xs ys → length xs ≡ length ys
zip_len R [] [] all = refl
zip_len R [] (y ∷ ys) all = absurd all
zip_len R (x ∷ xs) [] all = absurd all
zip_len R (x ∷ xs) (y ∷ ys) all = ap suc (zip_len R xs ys all.1)

-- what is so of no element before the next, nor of that one
pub none_more : {X : Type 0} (P : X → Type 0) (xs : List X) (i : ℕ) (x : X) → i < length xs → x ≡ get_or xs i x → ((j : ℕ) (d : X) → j < i → P (get_or xs j d) → ⊥) → (P x → ⊥) → (j : ℕ) (d : X) → j < i + 1 → P (get_or xs j d) → ⊥
none_more P xs i x within is none here j d l h = by (cases_lt j i)
  where
    by : (j < i) ⊎ (i ≤ j) → ⊥
    by (inl b) = none j d b h
    by (inr g) =
        let e : j ≡ i = omega (arith, l, g) in
        here (subst P (ap (λ k. get_or xs k d) e ∙ get_or_default xs i d x within ∙ sym is) h)

-- each class has its marks
class_listed : (class : Option Class) → (j : ℕ) × (j < 5) × (get_or CLASSES j None ≡ class)
class_listed (Some class.Integer) = (0, lit< tt, refl)
class_listed (Some class.Boolean) = (1, lit< tt, refl)
class_listed (Some class.Enumeration) = (2, lit< tt, refl)
class_listed (Some class.Clock) = (3, lit< tt, refl)
class_listed None = (4, lit< tt, refl)

other_gives : (wanted class : Option Class) (o : Option TypeChild) → IsSomeAnd o (λ (type : TypeChild). child_class type ≡ class) → class ≢ wanted → GivesOther o wanted
other_gives wanted class None h other = absurd h
other_gives wanted class (Some type) h other = λ e. other (sym h ∙ e)

gives_class : (wanted : Option Class) (o : Option TypeChild) → GivesOther o wanted → (class : Option Class) × (class ≢ wanted) × IsSomeAnd o (λ (type : TypeChild). child_class type ≡ class)
gives_class wanted None h = absurd h
gives_class wanted (Some type) h = (child_class type, h, refl)

boolean_alone : (to : PortType) → class.Boolean ≡ class_of to → to ≡ Boolean
boolean_alone Boolean e = refl
boolean_alone _ e = cc

enumeration_alone : (to : PortType) → class.Enumeration ≡ class_of to → to ≡ Enumeration
enumeration_alone Enumeration e = refl
enumeration_alone _ e = cc

clock_alone : (to : PortType) → class.Clock ≡ class_of to → to ≡ Clock
clock_alone Clock e = refl
clock_alone _ e = cc

not_wide : (from to : PortType) → to ≡ from → types.Joins from to WrongRange → ⊥
not_wide from to same h = h.1 (subst (types.IsWithin from) (sym same) (λ value fits. fits))

-- a type whose class has one range is never too wide
wide_listed : (from to : PortType) → types.Joins from to WrongRange → (j : ℕ) × (j < 8) × (get_or INTEGER_TYPES j Int8 ≡ from)
wide_listed Int8 to h = (0, lit< tt, refl)
wide_listed UInt8 to h = (1, lit< tt, refl)
wide_listed Int16 to h = (2, lit< tt, refl)
wide_listed UInt16 to h = (3, lit< tt, refl)
wide_listed Int32 to h = (4, lit< tt, refl)
wide_listed UInt32 to h = (5, lit< tt, refl)
wide_listed Int64 to h = (6, lit< tt, refl)
wide_listed UInt64 to h = (7, lit< tt, refl)
wide_listed Boolean to h = absurd (not_wide Boolean to (boolean_alone to h.0) h)
wide_listed Enumeration to h = absurd (not_wide Enumeration to (enumeration_alone to h.0) h)
wide_listed Clock to h = absurd (not_wide Clock to (clock_alone to h.0) h)

module _ (t : SystemTree) (shapes : List Shape) (points : List paths.Point) (sound : AreShapesOf t shapes) (are : AreNumbered t shapes points) where
  -- ---- outputs that lead up to a connector

  -- an output that does
  record Source (R : Variable → Type 0) (c : ℕ) : Type 0 where
    output : Variable
    p : Point
    s : Point
    from : IsVariable shapes Output p output
    has : R output
    there : point_of t shapes c ≡ Some s
    up_to : LeadsUpTo t shapes p s

  source_of : (R : Variable → Type 0) (c : ℕ) → IsLedTo t shapes (NamesOutput R t shapes) c → Source R c
  source_of R c l =
      let x = some_and (λ (v : Variable). (v.causality ≡ Output) × R v) (variable_of t shapes l.start) l.is_start in
      record { output = x.0; p = l.from; s = l.to; from = variable_here t shapes points sound are Output l.start l.from x.0 l.stands x.1 x.2.0; has = x.2.1; there = l.there; up_to = l.leads }

  led_by : (R : Variable → Type 0) (c : ℕ) → Source R c → IsLedTo t shapes (NamesOutput R t shapes) c
  led_by R c o =
      let d = start_connector t shapes o.p o.s c o.there o.up_to in
      let names = names_variable t shapes points sound are Output d.0 o.p o.output d.1 o.from in
      record {
        start = d.0;
        from = o.p;
        to = o.s;
        is_start = subst (λ z. IsSomeAnd z (λ (v : Variable). (v.causality ≡ Output) × R v)) (sym names) (o.from.1, o.has);
        stands = d.1;
        there = o.there;
        leads = o.up_to;
      }

  -- ---- another class

  pub class_broken : (class : Option Class) (c : ℕ) (input : Variable) → class ≢ class_at input → IsLedTo t shapes (IsOfClass t shapes class) c → IsReachedBy (IsOtherClass t shapes) t shapes c input
  class_broken class c input other l = by l.is_start
    where
      by : IsOfClass t shapes class l.start → IsReachedBy (IsOtherClass t shapes) t shapes c input
      by (inl names) =
          let o = source_of (λ x. class_at x ≡ class) c (record { start = l.start; from = l.from; to = l.to; is_start = names; stands = l.stands; there = l.there; leads = l.leads }) in
          record { output = o.output; p = o.p; s = o.s; from = o.from; begins = o.there; up_to = o.up_to; broken = λ q. inr (inl (λ e. other (sym o.has ∙ e))) }
      by (inr passes) =
          let o = source_of (λ x. Unit {0}) l.start passes.0 in
          let k = some_and (λ (z : Connector). IsSomeAnd z.child (λ (type : TypeChild). child_class type ≡ class)) (slice_get t.connectors l.start) passes.1.1 in
          let here : l.from ≡ Itself l.start = itself_there t shapes points sound are l.start l.from l.stands passes.1.0 in
          let end : o.s ≡ Itself l.start = itself_there t shapes points sound are l.start o.s o.there passes.1.0 in
          let leads : Leads t shapes o.p (Itself l.start) = led_on o.p (Itself l.start) o.output o.from passes.1.0 (subst (LeadsUpTo t shapes o.p) end o.up_to) in
          let on : LeadsUpTo t shapes (Itself l.start) l.to = subst (λ z. LeadsUpTo t shapes z l.to) here l.leads in
          record {
            output = o.output;
            p = o.p;
            s = l.to;
            from = o.from;
            begins = l.there;
            up_to = leads_up_on t shapes o.p (Itself l.start) l.to leads passes.1.0 on;
            broken = λ q. inr (inr (l.start, (k.0, (passes.1.0, leads, on), k.1, other_gives (class_at input) class k.0.child k.2 other)));
          }
        where
          led_on : (p s : Point) (x : Variable) → IsVariable shapes Output p x → IsOfSystem t s → LeadsUpTo t shapes p s → Leads t shapes p s
          led_on p s x is system (inl same) = absurd (no_system t shapes Output p x is (subst (IsOfSystem t) (sym same) system))
          led_on p s x is system (inr h) = h.1

  -- what breaks it is an output to an ignored input, or something of another class
  abbrev pub IsMarkedOther : ℕ → Variable → Type 0
  IsMarkedOther c input =
      ((input.kind ≡ None) × IsLedTo t shapes (IsOutputAt t shapes) c) ⊎ ((class : Option Class) × (class ≢ class_at input) × IsLedTo t shapes (IsOfClass t shapes class) c)

  pub class_marked : (c : ℕ) (input : Variable) → IsReachedBy (IsOtherClass t shapes) t shapes c input → IsMarkedOther c input
  class_marked c input r = by (r.broken r.s)
    where
      by : IsOtherClass t shapes r.p r.s r.s r.output input → IsMarkedOther c input
      by (inl ignored) = inl (ignored, led_by (λ x. Unit {0}) c (record { output = r.output; p = r.p; s = r.s; from = r.from; has = tt; there = r.begins; up_to = r.up_to }))
      by (inr (inl other)) =
          let l = led_by (λ x. class_at x ≡ class_at r.output) c (record { output = r.output; p = r.p; s = r.s; from = r.from; has = refl; there = r.begins; up_to = r.up_to }) in
          inr (class_at r.output, other, started_as t shapes points sound are (NamesOutput (λ x. class_at x ≡ class_at r.output) t shapes) (IsOfClass t shapes (class_at r.output)) c (λ s w h. inl h) l)
      by (inr (inr h)) =
          let d = h.0 in
          let k = h.1.0 in
          let on = h.1.1 in
          let at = h.1.2 in
          let g = gives_class (class_at input) k.child h.1.3 in
          let e = point_here d k at on.0 in
          let l = led_by (λ x. Unit {0}) d (record { output = r.output; p = r.p; s = Itself d; from = r.from; has = tt; there = e; up_to = inr (on.0, on.1) }) in
          inr (
            g.0,
            g.1,
            record {
              start = d;
              from = Itself d;
              to = r.s;
              is_start = inr (l, (on.0, subst (λ z. IsSomeAnd z (λ (y : Connector). IsSomeAnd y.child (λ (type : TypeChild). child_class type ≡ g.0))) (sym at) g.2));
              stands = e;
              there = r.begins;
              leads = on.2;
            },
          )
        where
          point_here : (d : ℕ) (k : Connector) → slice_get t.connectors d ≡ Some k → IsOfSystem t (Itself d) → point_of t shapes d ≡ Some (Itself d)
          point_here d k at system =
              let p = point_at t shapes d (slice_get_within t.connectors d k at) in
              p.1 ∙ ap Some (itself_there t shapes points sound are d p.0 p.1 system)

  pub other_tells : (marks : List ClassMarks) (c i : ℕ) (m : ClassMarks) (input : Variable) → c < length t.connectors → AllZip (AreClassMarks t shapes) CLASSES marks → i < length marks → m ≡ get_or marks i m → TellsOther c (class_at input) m
      → IsReachedBy (IsOtherClass t shapes) t shapes c input
  other_tells marks c i m input w all l is tells =
      let a = zip_at (AreClassMarks t shapes) CLASSES marks i None m all (let n = zip_len (AreClassMarks t shapes) CLASSES marks all in omega (arith, n, l)) in
      let b = subst (AreClassMarks t shapes (get_or CLASSES i None)) (sym is) a in
      class_broken m.class c input tells.0 (subst (λ z. IsLedTo t shapes (IsOfClass t shapes z) c) (sym b.0) ((b.1.each c w).0 tells.1))

  pub class_marks_len : (marks : List ClassMarks) (i : ℕ) (m : ClassMarks) → AllZip (AreClassMarks t shapes) CLASSES marks → i < length marks → m ≡ get_or marks i m → length m.reached.items ≡ length t.connectors
  class_marks_len marks i m all l is =
      let a = zip_at (AreClassMarks t shapes) CLASSES marks i None m all (let n = zip_len (AreClassMarks t shapes) CLASSES marks all in omega (arith, n, l)) in
      (subst (AreClassMarks t shapes (get_or CLASSES i None)) (sym is) a).1.len

  pub no_other_tells : (marks : List ClassMarks) (fed : List Bool) (c i : ℕ) (input : Variable) → c < length t.connectors → AllZip (AreClassMarks t shapes) CLASSES marks → AreLedTo t shapes (IsOutputAt t shapes) fed
      → (input.kind ≡ None → IsMarked fed c → ⊥) → length marks ≤ i → ((j : ℕ) (m : ClassMarks) → j < i → TellsOther c (class_at input) (get_or marks j m) → ⊥) → IsReachedBy (IsOtherClass t shapes) t shapes c input → ⊥
  no_other_tells marks fed c i input w all are_fed ignored past none r = by (class_marked c input r)
    where
      at_class : (class : Option Class) (j : ℕ) → j < 5 → get_or CLASSES j None ≡ class → class ≢ class_at input → IsLedTo t shapes (IsOfClass t shapes class) c → ⊥
      at_class class j b is other l =
          let n = zip_len (AreClassMarks t shapes) CLASSES marks all in
          let m = at_place marks j (omega (arith, n, b)) in
          let a = zip_at (AreClassMarks t shapes) CLASSES marks j None m.0 all b in
          none j m.0 (omega (arith, n, b, past)) ((λ e. other (sym (a.0 ∙ is) ∙ e)), (a.1.each c w).1 (subst (λ z. IsLedTo t shapes (IsOfClass t shapes z) c) (sym is) l))

      by : IsMarkedOther c input → ⊥
      by (inl h) = ignored h.0 ((are_fed.each c w).1 h.1)
      by (inr h) = let j = class_listed h.0 in at_class h.0 j.0 j.1 j.2 h.1 h.2

  pub ignored_fed : (fed : List Bool) (c : ℕ) (input : Variable) → c < length t.connectors → AreLedTo t shapes (IsOutputAt t shapes) fed → input.kind ≡ None → IsMarked fed c → IsReachedBy (IsOtherClass t shapes) t shapes c input
  ignored_fed fed c input w are_fed ignored marked =
      let o = source_of (λ x. Unit {0}) c ((are_fed.each c w).0 marked) in
      record { output = o.output; p = o.p; s = o.s; from = o.from; begins = o.there; up_to = o.up_to; broken = λ q. inl ignored }

  -- ---- a range that is too wide

  pub wide_broken : (kind : PortType) (c : ℕ) (input : Variable) → IsSomeAnd input.kind (λ (to : PortType). types.Joins kind to WrongRange) → IsLedTo t shapes (IsOfType t shapes kind) c → IsReachedBy IsTooWide t shapes c input
  wide_broken kind c input wide l =
      let o = source_of (λ x. x.kind ≡ Some kind) c l in
      record {
        output = o.output;
        p = o.p;
        s = o.s;
        from = o.from;
        begins = o.there;
        up_to = o.up_to;
        broken = λ q. subst (λ z. IsSomeAnd z (λ (from : PortType). IsSomeAnd input.kind (λ (to : PortType). types.Joins from to WrongRange))) (sym o.has) wide;
      }

  pub wide_marked : (c : ℕ) (input : Variable) → IsReachedBy IsTooWide t shapes c input → (kind : PortType) × IsSomeAnd input.kind (λ (to : PortType). types.Joins kind to WrongRange) × IsLedTo t shapes (IsOfType t shapes kind) c
  wide_marked c input r =
      let from = some_and (λ (from : PortType). IsSomeAnd input.kind (λ (to : PortType). types.Joins from to WrongRange)) r.output.kind (r.broken r.s) in
      (from.0, from.2, led_by (λ x. x.kind ≡ Some from.0) c (record { output = r.output; p = r.p; s = r.s; from = r.from; has = from.1; there = r.begins; up_to = r.up_to }))

  pub wide_tells : (marks : List TypeMarks) (c i : ℕ) (m : TypeMarks) (input : Variable) → c < length t.connectors → AllZip (AreTypeMarks t shapes) INTEGER_TYPES marks → i < length marks → m ≡ get_or marks i m → TellsTooWide c input.kind m
      → IsReachedBy IsTooWide t shapes c input
  wide_tells marks c i m input w all l is tells =
      let a = zip_at (AreTypeMarks t shapes) INTEGER_TYPES marks i Int8 m all (let n = zip_len (AreTypeMarks t shapes) INTEGER_TYPES marks all in omega (arith, n, l)) in
      let b = subst (AreTypeMarks t shapes (get_or INTEGER_TYPES i Int8)) (sym is) a in
      wide_broken m.kind c input tells.1 (subst (λ z. IsLedTo t shapes (IsOfType t shapes z) c) (sym b.0) ((b.1.each c w).0 tells.0))

  pub type_marks_len : (marks : List TypeMarks) (i : ℕ) (m : TypeMarks) → AllZip (AreTypeMarks t shapes) INTEGER_TYPES marks → i < length marks → m ≡ get_or marks i m → length m.reached.items ≡ length t.connectors
  type_marks_len marks i m all l is =
      let a = zip_at (AreTypeMarks t shapes) INTEGER_TYPES marks i Int8 m all (let n = zip_len (AreTypeMarks t shapes) INTEGER_TYPES marks all in omega (arith, n, l)) in
      (subst (AreTypeMarks t shapes (get_or INTEGER_TYPES i Int8)) (sym is) a).1.len

  pub no_wide_tells : (marks : List TypeMarks) (c i : ℕ) (input : Variable) → c < length t.connectors → AllZip (AreTypeMarks t shapes) INTEGER_TYPES marks → length marks ≤ i → ((j : ℕ) (m : TypeMarks) → j < i → TellsTooWide c input.kind (get_or marks j m) → ⊥)
      → IsReachedBy IsTooWide t shapes c input → ⊥
  no_wide_tells marks c i input w all past none r = let h = wide_marked c input r in by h.0 h.1 h.2
    where
      at_type : (kind : PortType) (j : ℕ) → j < 8 → get_or INTEGER_TYPES j Int8 ≡ kind → IsSomeAnd input.kind (λ (to : PortType). types.Joins kind to WrongRange) → IsLedTo t shapes (IsOfType t shapes kind) c → ⊥
      at_type kind j b is wide l =
          let n = zip_len (AreTypeMarks t shapes) INTEGER_TYPES marks all in
          let m = at_place marks j (omega (arith, n, b)) in
          let a = zip_at (AreTypeMarks t shapes) INTEGER_TYPES marks j Int8 m.0 all b in
          none j m.0 (omega (arith, n, b, past))
          ((a.1.each c w).1 (subst (λ z. IsLedTo t shapes (IsOfType t shapes z) c) (sym is) l), subst (λ z. IsSomeAnd input.kind (λ (to : PortType). types.Joins z to WrongRange)) (sym (a.0 ∙ is)) wide)

      by : (kind : PortType) → IsSomeAnd input.kind (λ (to : PortType). types.Joins kind to WrongRange) → IsLedTo t shapes (IsOfType t shapes kind) c → ⊥
      by kind wide l =
          let x = some_and (λ (to : PortType). types.Joins kind to WrongRange) input.kind wide in
          let j = wide_listed kind x.0 x.2 in
          at_type kind j.0 j.1 j.2 wide l

  -- ---- a Clock that is fed

  -- the point of a component's connector that names a variable
  pub point_named : (c i : ℕ) (k : Connector) (x : Variable) → slice_get t.connectors c ≡ Some k → k.owner ≡ Component i → variable_of t shapes c ≡ Some x → point_of t shapes c ≡ Some (OfComponent i x.reference)
  point_named c i k x at owner names =
      let point = ap (option_map (λ (z : Connector). point_for c z.owner (named_by shapes z.owner z.name))) at in
      let variable = ap (option_and_then (λ (z : Connector). named_by shapes z.owner z.name)) at in
      point ∙ ap (λ z. Some (point_for c k.owner z)) (sym variable ∙ names) ∙ ap (λ z. Some (point_for c z (Some x))) owner

  abbrev IsTimed : Shape → ℕ → Type 0
  IsTimed shape reference = IsSomeAnd (timing_at shape.clocks reference) (λ (clock : ClockTiming). clock.variability ≢ Triggered)

  pub clock_broken : (start end i : ℕ) (shape : Shape) (input : Variable) → slice_get shapes i ≡ Some shape → point_of t shapes end ≡ Some (OfComponent i input.reference) → IsLedTo t shapes (IsOutputAt t shapes) start → IsTimed shape input.reference
      → IsReachedAt (IsTimeBased shapes) t shapes start end input
  clock_broken start end i shape input at there l timed =
      let o = source_of (λ x. Unit {0}) start l in
      record {
        output = o.output;
        p = o.p;
        s = o.s;
        q = OfComponent i input.reference;
        from = o.from;
        begins = o.there;
        ends = there;
        up_to = o.up_to;
        broken = subst (λ z. IsSomeAnd z (λ (x : Shape). IsTimed x input.reference)) (sym at) timed;
      }

  pub clock_marked : (start end i : ℕ) (shape : Shape) (input : Variable) → slice_get shapes i ≡ Some shape → point_of t shapes end ≡ Some (OfComponent i input.reference) → IsReachedAt (IsTimeBased shapes) t shapes start end input
      → IsLedTo t shapes (IsOutputAt t shapes) start × IsTimed shape input.reference
  clock_marked start end i shape input at there r = (
    led_by (λ x. Unit {0}) start (record { output = r.output; p = r.p; s = r.s; from = r.from; has = tt; there = r.begins; up_to = r.up_to }),
    subst (λ z. IsSomeAnd z (λ (x : Shape). IsTimed x input.reference)) at (subst (λ z. IsTimeBased shapes r.p r.s z r.output input) (same_Some r.q (OfComponent i input.reference) (sym r.ends ∙ there)) r.broken),
  )

  pub point_of_system : (c i : ℕ) (k : Connector) → slice_get t.connectors c ≡ Some k → k.owner ≡ System i → point_of t shapes c ≡ Some (Itself c)
  point_of_system c i k at owner =
      ap (option_map (λ (z : Connector). point_for c z.owner (named_by shapes z.owner z.name))) at ∙ ap (λ z. Some (point_for c z (named_by shapes z k.name))) owner

  -- a connector of a System is no Clock
  pub no_clock : (start end : ℕ) (input : Variable) → point_of t shapes end ≡ Some (Itself end) → IsReachedAt (IsTimeBased shapes) t shapes start end input → ⊥
  no_clock start end input there r = subst (λ z. IsTimeBased shapes r.p r.s z r.output input) (same_Some r.q (Itself end) (sym r.ends ∙ there)) r.broken
