-- What feeds an input: where no two connections have one end, the one output that is found.
use Rattle.std.proofs.Common.{◌≡◌, ◌⊎◌, ℕ, ◌+◌, ◌<◌, ◌≤◌, List, length, Option, Some, None, refl, sym, ap, ◌∙◌, subst, inl, inr, arith}
use Rattle.std.specs.List.{slice_get}
use Rattle.std.specs.Option.{IsSomeAnd}
use Rattle.std.proofs.lemmas.Bool.{cases_lt, cases_order}
use Rattle.std.proofs.lemmas.Option.{slice_get_within, same_Some}
use Rattle.sim_base.specs.declared.numbers.PortId.{PortId}
use Rattle.value_types.specs.declared.shape.Causality.TheVariants.{Input, Output}
use Rattle.value_types.specs.declared.shape.Variable.{Variable}
use Rattle.value_types.specs.declared.shape.Shape.{Shape}
use Rattle.system_model.specs.declared.system.Feed.{Feed}
use Rattle.connection_paths.specs.declared.point.Point as paths
use Rattle.connection_paths.specs.declared.point.Point.TheVariants.{Variable as Numbered}
use Rattle.ssd_tree.specs.declared.tree.Connection.{Connection}
use Rattle.ssd_tree.specs.declared.tree.SystemTree.{SystemTree}
use Rattle.flatten.specs.declared.connectors.FlatTree.{FlatTree}
use Rattle.flatten.specs.Points.{Point, OfComponent, Itself, IsVariable, point_of, variable_of}
use Rattle.flatten.specs.Paths.{Feeds, LeadsBy, changes_along}
use Rattle.flatten.specs.Rules.{IsFitting}
use Rattle.flatten.specs.Given.{AreShapesOf}
use Rattle.flatten.specs.Indexed.{AreNumbered, IsIndexed, all_variables, begin_of}
use Rattle.flatten.specs.Ports.{AreFeeds, ArePortNumbers, IsNumberOf}
use Rattle.flatten.specs.Fed.{FeedsFrom, HasPort, IsInputWith}
use Rattle.flatten.proofs.PieceLemmas.{element_at}
use Rattle.flatten.proofs.StandsLemmas.{IsItself, IsNamed, number_apart, place_alone, sound_shape}
use Rattle.flatten.proofs.ConnectorLemmas.{kind_of, variable_numbered}
use Rattle.flatten.proofs.PortNumberLemmas.{port_alone}
use Rattle.flatten.proofs.AloneLemmas.{one_path, output_alone}
use Rattle.flatten.proofs.BridgeLemmas.{point_within}
use Rattle.flatten.proofs.LastLemmas.{reaches_by}
use Rattle.flatten.proofs.PathLemmas.{first_connector, last_joins, names_variable, variable_here}

-- ---- the numbers of points

-- one number is that of one variable
pub number_alone : (shapes : List Shape) (n : ℕ) (p q : Point) → IsNumberOf shapes n p → IsNumberOf shapes n q → p ≡ q
number_alone shapes n p q a b =
    let e = number_apart shapes a.component b.component a.place b.place a.shape b.shape a.of b.of (slice_get_within a.shape.variables a.place a.variable a.at) (slice_get_within b.shape.variables b.place b.variable b.at) (sym a.number ∙ b.number) in
    let shape : a.shape ≡ b.shape = same_Some a.shape b.shape (sym a.of ∙ ap (slice_get shapes) e.0 ∙ b.of) in
    let variable : a.variable ≡ b.variable = same_Some a.variable b.variable (sym a.at ∙ ap (slice_get a.shape.variables) e.1 ∙ ap (λ (z : Shape). slice_get z.variables b.place) shape ∙ b.at) in
    a.point ∙ ap (λ z. OfComponent z a.variable.reference) e.0 ∙ ap (λ (z : Variable). OfComponent b.component z.reference) variable ∙ sym b.point

module _ (t : SystemTree) (shapes : List Shape) (points : List paths.Point) (sound : AreShapesOf t shapes) (are : AreNumbered t shapes points) where
  -- the point of a connector that names a variable is the one with its number
  pub number_is : (c n : ℕ) (p : Point) (x : Variable) → slice_get points c ≡ Some (Numbered n) → variable_of t shapes c ≡ Some x → point_of t shapes c ≡ Some p → IsNumberOf shapes n p
  number_is c n p x there names stands = by (kind_of t shapes points are c (Numbered n) there)
    where
      by : IsItself t shapes points c ⊎ IsNamed t shapes points c → IsNumberOf shapes n p
      by (inl i) = let un : None ≡ Some x = sym i.names ∙ names in cc
      by (inr m) =
          let same : Numbered n ≡ Numbered (begin_of shapes m.component + m.place) = same_Some (Numbered n) (Numbered (begin_of shapes m.component + m.place)) (sym there ∙ m.numbered) in
          record {
            component = m.component;
            place = m.place;
            shape = m.shape;
            variable = m.variable;
            of = m.of;
            at = m.at;
            number = cc;
            point = same_Some p (OfComponent m.component m.variable.reference) (sym stands ∙ m.point);
          }

  -- a connector that stands for a variable has its number
  pub number_there : (c n : ℕ) (p : Point) → point_of t shapes c ≡ Some p → IsNumberOf shapes n p → slice_get points c ≡ Some (Numbered n)
  number_there c n p stands is =
      let within = point_within t shapes c p stands in
      let len = are.len in
      let here = element_at points c (omega arith) in
      by (kind_of t shapes points are c here.0 here.1)
    where
      by : IsItself t shapes points c ⊎ IsNamed t shapes points c → slice_get points c ≡ Some (Numbered n)
      by (inl i) = let un : Some (Itself c) ≡ Some (OfComponent is.component is.variable.reference) = sym i.point ∙ stands ∙ ap Some is.point in cc
      by (inr m) =
          let one : Some (OfComponent m.component m.variable.reference) ≡ Some (OfComponent is.component is.variable.reference) = sym m.point ∙ stands ∙ ap Some is.point in
          let component : m.component ≡ is.component = cc in
          let reference : m.variable.reference ≡ is.variable.reference = cc in
          let shape : m.shape ≡ is.shape = same_Some m.shape is.shape (sym m.of ∙ ap (slice_get shapes) component ∙ is.of) in
          let place : m.place ≡ is.place = place_alone is.shape m.place is.place m.variable is.variable (sound_shape t shapes is.component is.shape sound is.of) (subst (λ (z : Shape). slice_get z.variables m.place ≡ Some m.variable) shape m.at) is.at reference in
          let number : begin_of shapes m.component + m.place ≡ n = ap (λ z. begin_of shapes z + m.place) component ∙ ap (λ z. begin_of shapes is.component + z) place ∙ sym is.number in
          m.numbered ∙ ap (λ z. Some (Numbered z)) number

-- ---- one connector after another

-- the feeds that the connectors so far give
pub record AreFedBelow (f : FlatTree) (numbers : List (Option PortId)) (i : ℕ) (feeds : ℕ → Option Feed) : Type 0 where
  pub noted : (c n : ℕ) (g : Feed) → c < i → IsInputWith f c n → FeedsFrom f numbers c g → (h : Feed) × (feeds n ≡ Some h)
  pub told : (n : ℕ) (g : Feed) → feeds n ≡ Some g → (c : ℕ) × (c < i) × IsInputWith f c n × FeedsFrom f numbers c g

pub fed_none : (f : FlatTree) (numbers : List (Option PortId)) (feeds : ℕ → Option Feed) → ((n : ℕ) → feeds n ≡ None) → AreFedBelow f numbers 0 feeds
fed_none f numbers feeds none = record {
  noted = λ c n g less. absurd (omega arith);
  told = λ n g e. absurd (let un : None ≡ Some g = sym (none n) ∙ e in cc);
}

earlier_or_here : (c i : ℕ) → c < i + 1 → (c < i) ⊎ (c ≡ i)
earlier_or_here c i less = by (cases_lt c i)
  where
    by : (c < i) ⊎ (i ≤ c) → (c < i) ⊎ (c ≡ i)
    by (inl l) = inl l
    by (inr l) = inr (omega arith)

same_or_other : (m n : ℕ) → (m ≡ n) ⊎ (m ≡ n → ⊥)
same_or_other m n = elim (cases_order m n) [
  | inl e ↦ inl e
  | inr (inl l) ↦ inr (λ e. absurd (omega (arith, e, l)))
  | inr (inr l) ↦ inr (λ e. absurd (omega (arith, e, l)))
]

-- a connector names one input
one_input : (f : FlatTree) (c m n : ℕ) → IsInputWith f c m → IsInputWith f c n → m ≡ n
one_input f c m n a b = let same : Numbered m ≡ Numbered n = same_Some (Numbered m) (Numbered n) (sym a.0 ∙ b.0) in cc

-- the next connector is fed
pub fed_more : (f : FlatTree) (numbers : List (Option PortId)) (i n : ℕ) (feed : Feed) (old new : ℕ → Option Feed) → IsInputWith f i n → FeedsFrom f numbers i feed
    → new n ≡ Some feed → ((m : ℕ) → (m ≡ n → ⊥) → new m ≡ old m) → AreFedBelow f numbers i old → AreFedBelow f numbers (i + 1) new
fed_more f numbers i n feed old new input from here only fed = record {
  noted = λ c m g less is feeds. noted c m g (earlier_or_here c i less) is feeds (same_or_other m n);
  told = λ m g e. told m g e (same_or_other m n);
}
  where
    noted : (c m : ℕ) (g : Feed) → (c < i) ⊎ (c ≡ i) → IsInputWith f c m → FeedsFrom f numbers c g → (m ≡ n) ⊎ (m ≡ n → ⊥) → (h : Feed) × (new m ≡ Some h)
    noted c m g where_ is feeds (inl e) = (feed, ap new e ∙ here)
    noted c m g (inl l) is feeds (inr apart) = let h = fed.noted c m g l is feeds in (h.0, only m apart ∙ h.1)
    noted c m g (inr e) is feeds (inr apart) = absurd (apart (one_input f i m n (subst (λ z. IsInputWith f z m) e is) input))

    told : (m : ℕ) (g : Feed) → new m ≡ Some g → (m ≡ n) ⊎ (m ≡ n → ⊥) → (c : ℕ) × (c < i + 1) × IsInputWith f c m × FeedsFrom f numbers c g
    told m g e (inl same) =
        let is : feed ≡ g = same_Some feed g (sym here ∙ ap new (sym same) ∙ e) in
        (i, omega arith, subst (IsInputWith f i) (sym same) input, subst (FeedsFrom f numbers i) is from)
    told m g e (inr apart) =
        let w = fed.told m g (sym (only m apart) ∙ e) in
        let l = w.1 in
        (w.0, omega arith, w.2, w.3)

-- it is none that is fed
pub fed_past : (f : FlatTree) (numbers : List (Option PortId)) (i : ℕ) (feeds : ℕ → Option Feed) → ((n : ℕ) (g : Feed) → IsInputWith f i n → FeedsFrom f numbers i g → ⊥) → AreFedBelow f numbers i feeds → AreFedBelow f numbers (i + 1) feeds
fed_past f numbers i feeds other fed = record {
  noted = λ c n g less is from. noted c n g is from (earlier_or_here c i less);
  told = λ n g e. let w = fed.told n g e in let l = w.1 in (w.0, omega arith, w.2, w.3);
}
  where
    noted : (c n : ℕ) (g : Feed) → IsInputWith f c n → FeedsFrom f numbers c g → (c < i) ⊎ (c ≡ i) → (h : Feed) × (feeds n ≡ Some h)
    noted c n g is from (inl l) = fed.noted c n g l is from
    noted c n g is from (inr e) = absurd (other n g (subst (λ z. IsInputWith f z n) e is) (subst (λ z. FeedsFrom f numbers z g) e from))

-- ---- the whole

pub only_none : {A : Type 0} (P : Option A → Type 0) → ((x : A) → P (Some x) → ⊥) → (y : Option A) → P y → y ≡ None
only_none P other None h = refl
only_none P other (Some x) h = absurd (other x h)

-- what a feed of a connector is, as points
pub record IsTold (f : FlatTree) (numbers : List (Option PortId)) (n : ℕ) (g : Feed) : Type 0 where
  pub from : Point
  pub to : Point
  pub output : Variable
  pub input : Variable
  pub source : ℕ
  pub path : List Connection
  pub starts : point_of f.tree.now f.shapes.now source ≡ Some from
  pub number : IsNumberOf f.shapes.now n to
  pub is : IsVariable f.shapes.now Output from output
  pub at : IsVariable f.shapes.now Input to input
  pub port : HasPort f numbers source g.from
  pub leads : LeadsBy f.tree.now f.shapes.now from path to
  pub makes : g.changes ≡ changes_along path

same_feed : (g h : Feed) → g.from ≡ h.from → g.changes ≡ h.changes → g ≡ h
same_feed g h from changes = λ i. record { from = from i; changes = changes i }

module _ (f : FlatTree) (numbers : List (Option PortId)) (indexed : IsIndexed f) (fitting : IsFitting f.tree.now f.shapes.now) (are : ArePortNumbers f.shapes.now numbers) where
  told_is : (c n : ℕ) (g : Feed) → IsInputWith f c n → FeedsFrom f numbers c g → IsTold f numbers n g
  told_is c n g input from =
      by (variable_of f.tree.now f.shapes.now c) refl input.1 (variable_of f.tree.now f.shapes.now from.source) refl from.output
    where
      by : (o : Option Variable) → variable_of f.tree.now f.shapes.now c ≡ o → IsSomeAnd o (λ (x : Variable). x.causality ≡ Input)
          → (u : Option Variable) → variable_of f.tree.now f.shapes.now from.source ≡ u → IsSomeAnd u (λ (x : Variable). (x.causality ≡ Output) × Unit {0}) → IsTold f numbers n g
      by None names is u names_u is_u = absurd is
      by (Some x) names is None names_u is_u = absurd is_u
      by (Some x) names is (Some y) names_u is_u = record {
        from = from.from;
        to = from.to;
        output = y;
        input = x;
        source = from.source;
        path = from.path;
        starts = from.begins;
        number = number_is f.tree.now f.shapes.now f.points.items indexed.shapes indexed.points c n from.to x input.0 names from.ends;
        is = variable_here f.tree.now f.shapes.now f.points.items indexed.shapes indexed.points Output from.source from.from y from.begins names_u is_u.0;
        at = variable_here f.tree.now f.shapes.now f.points.items indexed.shapes indexed.points Input c from.to x from.ends names is;
        port = from.port;
        leads = from.leads;
        makes = from.makes;
      }

  -- the number of its output
  source_number : (n : ℕ) (g : Feed) (told : IsTold f numbers n g) → IsNumberOf f.shapes.now told.port.0 told.from
  source_number n g told =
      number_is f.tree.now f.shapes.now f.points.items indexed.shapes indexed.points told.source told.port.0 told.from told.output told.port.1
      (names_variable f.tree.now f.shapes.now f.points.items indexed.shapes indexed.points Output told.source told.from told.output told.starts told.is) told.starts

  -- what is told of a variable is one feed
  told_alone : (n : ℕ) (g h : Feed) → IsTold f numbers n g → IsTold f numbers n h → g ≡ h
  told_alone n g h a b =
      let to : a.to ≡ b.to = number_alone f.shapes.now n a.to b.to a.number b.number in
      let leads : LeadsBy f.tree.now f.shapes.now a.from a.path b.to = subst (LeadsBy f.tree.now f.shapes.now a.from a.path) to a.leads in
      let paths : a.path ≡ b.path = one_path f.tree.now f.shapes.now fitting a.from b.from a.output b.output a.is b.is a.path b.path b.to leads b.leads in
      let from : a.from ≡ b.from = output_alone f.tree.now f.shapes.now a.from b.from b.to a.output b.output fitting a.is b.is
      (reaches_by f.tree.now f.shapes.now a.from a.path b.to leads) (reaches_by f.tree.now f.shapes.now b.from b.path b.to b.leads) in
      let numbered : slice_get f.points.items a.source ≡ Some (Numbered b.port.0) =
      number_there f.tree.now f.shapes.now f.points.items indexed.shapes indexed.points a.source b.port.0 b.from (a.starts ∙ ap Some from) (source_number n h b) in
      let one : Numbered a.port.0 ≡ Numbered b.port.0 = same_Some (Numbered a.port.0) (Numbered b.port.0) (sym a.port.1 ∙ numbered) in
      let same : a.port.0 ≡ b.port.0 = cc in
      let port : g.from ≡ h.from = same_Some g.from h.from (same_Some (Some g.from) (Some h.from) (sym a.port.2 ∙ ap (slice_get numbers) same ∙ b.port.2)) in
      same_feed g h port (a.makes ∙ ap changes_along paths ∙ sym b.makes)

  module _ (feeds : ℕ → Option Feed) (i : ℕ) (whole : length f.tree.now.connectors ≤ i) (fed : AreFedBelow f numbers i feeds) where
    told_at : (n : ℕ) (g : Feed) → feeds n ≡ Some g → IsTold f numbers n g
    told_at n g e = let w = fed.told n g e in told_is w.0 n g w.2 w.3

    -- the port that is told is that of an output that feeds the input
    told_feeds : (m n : ℕ) (p q : Point) (g : Feed) → IsNumberOf f.shapes.now m p → IsNumberOf f.shapes.now n q → slice_get numbers m ≡ Some (Some g.from) → IsTold f numbers n g → Feeds f.tree.now f.shapes.now p g.changes q
    told_feeds m n p q g number_p number_q there told =
        let same_m : told.port.0 ≡ m = port_alone f.shapes.now numbers told.port.0 m g.from are told.port.2 there in
        let number : IsNumberOf f.shapes.now m told.from = subst (λ z. IsNumberOf f.shapes.now z told.from) same_m (source_number n g told) in
        let same_p : told.from ≡ p = number_alone f.shapes.now m told.from p number number_p in
        let same_q : told.to ≡ q = number_alone f.shapes.now n told.to q told.number number_q in
        record {
          output = told.output;
          input = told.input;
          from = subst (λ z. IsVariable f.shapes.now Output z told.output) same_p told.is;
          to = subst (λ z. IsVariable f.shapes.now Input z told.input) same_q told.at;
          path = told.path;
          leads = subst (LeadsBy f.tree.now f.shapes.now p told.path) same_q (subst (λ z. LeadsBy f.tree.now f.shapes.now z told.path told.to) same_p told.leads);
          makes = told.makes;
        }

    -- what feeds an input feeds its connector
    feeds_from : (m n : ℕ) (p q : Point) (g : Feed) (c : ℕ) → IsNumberOf f.shapes.now m p → IsNumberOf f.shapes.now n q → slice_get numbers m ≡ Some (Some g.from) → point_of f.tree.now f.shapes.now c ≡ Some q
        → Feeds f.tree.now f.shapes.now p g.changes q → IsInputWith f c n × FeedsFrom f numbers c g
    feeds_from m n p q g c number_p number_q there stands h =
        let first = first_connector f.tree.now f.shapes.now p q (reaches_by f.tree.now f.shapes.now p h.path q h.leads) in
        let outputs = names_variable f.tree.now f.shapes.now f.points.items indexed.shapes indexed.points Output first.0 p h.output first.1 h.from in
        let inputs = names_variable f.tree.now f.shapes.now f.points.items indexed.shapes indexed.points Input c q h.input stands h.to in (
          (
            number_there f.tree.now f.shapes.now f.points.items indexed.shapes indexed.points c n q stands number_q,
            subst (λ (o : Option Variable). IsSomeAnd o (λ (x : Variable). x.causality ≡ Input)) (sym inputs) h.to.1,
          ),
          record {
            source = first.0;
            from = p;
            to = q;
            path = h.path;
            output = subst (λ (o : Option Variable). IsSomeAnd o (λ (x : Variable). (x.causality ≡ Output) × Unit {0})) (sym outputs) (h.from.1, tt);
            port = (m, number_there f.tree.now f.shapes.now f.points.items indexed.shapes indexed.points first.0 m p first.1 number_p, there);
            begins = first.1;
            ends = stands;
            leads = h.leads;
            makes = h.makes;
          },
        )

    feed_found : (m n : ℕ) (p q : Point) (g : Feed) → IsNumberOf f.shapes.now m p → IsNumberOf f.shapes.now n q → slice_get numbers m ≡ Some (Some g.from) → Feeds f.tree.now f.shapes.now p g.changes q → feeds n ≡ Some g
    feed_found m n p q g number_p number_q there h =
        let last = last_joins f.tree.now f.shapes.now p q (reaches_by f.tree.now f.shapes.now p h.path q h.leads) in
        let c = last.2.0.end in
        let stands : point_of f.tree.now f.shapes.now c ≡ Some q = last.2.1.end in
        let both = feeds_from m n p q g c number_p number_q there stands h in
        let within = point_within f.tree.now f.shapes.now c q stands in
        let some = fed.noted c n g (omega arith) both.0 both.1 in
        some.1 ∙ ap Some (told_alone n some.0 g (told_at n some.0 some.1) (told_is c n g both.0 both.1))

    pub fed_whole : AreFeeds f.tree.now f.shapes.now numbers feeds
    fed_whole = record {
      each = λ m n p q g number_p number_q there. (
        λ e. told_feeds m n p q g number_p number_q there (told_at n g e),
        λ h. feed_found m n p q g number_p number_q there h,
      );
      none = λ n g e. let w = told_at n g e in (w.port.0, w.port.2);
    }
