-- What is taken is sound, and its names are short.
use Rattle.std.proofs.Common.{◌≡◌, ℕ, zero, suc, ◌<◌, ◌≤◌, ◌^◌, Bool, List, [], ◌∷◌, length, Option, Some, None, refl, sym, ap, ◌∙◌, ◌+◌, ◌*◌, subst, arith, get_or, length-append}
use Rattle.std.specs.Prelude.{All, IfSome, IsSome, IsSomeAnd, false, slice_get}
use Rattle.std.specs.List.{AllZip}
use Rattle.std.specs.Option.{option_map}
use Rattle.std.proofs.lemmas.List.Elements.{All-cons, All-get_or, All-nil, All-weaker}
use Rattle.std.proofs.lemmas.Option.{slice_get-get_or}
use Rattle.std.proofs.lemmas.Slice.Zip.{AllZip-long}
use Rattle.sim_base.specs.Path.{joined_path}
use Rattle.sim_base.specs.declared.read_book.ReadNote.{ReadNote}
use Rattle.value_types.specs.declared.shape.Shape.{Shape}
use Rattle.system_model.specs.Shapes.{IsSoundShape}
use Rattle.system_model.specs.declared.system.Component.{Component}
use Rattle.system_model.specs.declared.system.System.{System}
use Rattle.system_model.proofs.CallerLemmas.{all_at, all_by_place}
use Rattle.ssd_tree.specs.declared.tree.ComponentPart.{ComponentPart}
use Rattle.ssd_tree.specs.declared.tree.SystemTree.{SystemTree}
use Rattle.doc_grammar.specs.Nodes.{Denotes, Node}
use Rattle.doc_tree.specs.declared.rule.ParameterRule.{ParameterRule}
use Rattle.doc_tree.specs.declared.rule.ParameterRule.TheVariants as p
use Rattle.flatten.specs.Given.{AreShapesOf, IsWholeTree}
use Rattle.parameter_binding.specs.declared.sets.BindingSets.{BindingSets}
use Rattle.parameter_binding.specs.declared.sets.MappingOf.{MappingOf}
use Rattle.parameter_binding.specs.Binds.{Triple, mapping_of}
use Rattle.parameter_binding.specs.Rules as rules
use Rattle.ssd_tree.specs.declared.tree.Origin.TheVariants.{File, Inline}
use Rattle.ssd_tree.specs.declared.tree.Setting.{Setting}
use Rattle.ssd_tree.specs.Named.{IsNamedTree}
use Rattle.ssd_tree.specs.Parts.{IsPlain}
use Rattle.ssd_tree.specs.Sources.{LeadsDown}
use Rattle.ssd_tree.proofs.CallerLemmas.{leads_plain}
use Rattle.nested_documents.specs.declared.nest.TheConstants.{OUTERMOST}
use Rattle.nested_documents.specs.declared.numbers.Place as elements
use Rattle.nested_documents.specs.States.{Document, Gathered}
use Rattle.nesting_laws.specs.Proper.{IsOriginBelow, IsProper, IsProperDocument}
use Rattle.nesting_laws.specs.Says.{Says}
use Rattle.nesting_laws.proofs.CallerLemmas.{proper_added, proper_top, proper_whole}
use Rattle.parameter_values.specs.Ranges.{AreInRange}
use Rattle.parameter_values.specs.declared.set.Mapping.{Mapping}
use Rattle.ssd_tree.specs.declared.tree.Binding.{Binding}
use Rattle.ssd_tree.specs.declared.tree.Origin.{Origin}
use Rattle.ssd_tree.specs.declared.tree.Owner.{Owner}
use Rattle.system_model.specs.declared.bound.Bound.{Bound}
use Rattle.system_model.specs.declared.bound.BoundValue.{BoundValue}
use Rattle.system_model.specs.Bounds.{AreParameterValues, BindsParameters}
use Rattle.system_loading.specs.declared.outline.Outline.{Outline}
use Rattle.system_loading.specs.Assembly.{Makes}
use Rattle.system_loading.specs.declared.binding.BindingFault.{BindingFault}
use Rattle.system_loading.specs.declared.binding.BindingFault.TheVariants as binds
use Rattle.system_loading.specs.declared.parameters.GivenBinding.{GivenBinding}
use Rattle.system_loading.specs.declared.parameters.GivenMapping.{GivenMapping}
use Rattle.system_loading.specs.Binding.{AreReady, TellsBinding, sets_at, sets_from, sets_of}
use Rattle.system_loading.specs.declared.documents.SystemDocument.{SystemDocument}
use Rattle.system_loading.specs.Documents.{Said}
use Rattle.system_loading.specs.Outlines.{element_in, lone_name, lone_outline, lone_tree}
use Rattle.system_loading.specs.Readings.{IsModel}
use Rattle.system_files.specs.declared.subject.Subject.{Subject}
use Rattle.system_files.specs.declared.subject.Subject.TheVariants as what
use Rattle.system_files.specs.Loads.{IsNamed}
use Rattle.system_files.specs.Documents.{Gathers, GathersAll, Nested, Outermost, top_path}
use Rattle.system_files.specs.Files.{HasFile}
use Rattle.system_files.specs.Steps.{HasBindingDocument, HasBindingPart, HasDocument, HasOriginDocument, HasParts, HasShapeAlone, IsGivenAlone, IsMappingAlone, OutlinesAlone, SaysStructure}
use Rattle.system_files.specs.Order.{origin_of}
use Rattle.system_files.proofs.ListLemmas.{zip_then}

-- the partner of an element
zip_at : {X Y : Type 0} (R : X → Y → Type 0) (xs : List X) (ys : List Y) → AllZip R xs ys → (k : ℕ) (y : Y) → slice_get ys k ≡ Some y → (x : X) × (slice_get xs k ≡ Some x) × R x y
zip_at R [] [] h k y at = absurd (cc)
zip_at R [] (z ∷ ys) h k y at = absurd h
zip_at R (x ∷ xs) [] h k y at = absurd h
zip_at R (x ∷ xs) (z ∷ ys) h zero y at = let same : z ≡ y = cc in (x, refl, subst (R x) same h.0)
zip_at R (x ∷ xs) (z ∷ ys) h (suc k) y at = zip_at R xs ys h.1 k y at

-- ---- the outline

abbrev pub HasShortNames : Outline → Type 0
HasShortNames o = All (λ (c : ComponentPart). length c.name ≤ 2 ^ 24) o.systems.components

abbrev HasPlainSources : Outline → Type 0
HasPlainSources o = All (λ (c : ComponentPart). IsPlain c.source) o.systems.components

-- what a document without violation says is proper
abbrev pub DocumentsAreProper : Type 0
DocumentsAreProper = (bytes : List ℕ) (t : List Node) (s : Setting) (d : Document) → Denotes bytes t → Says s t d → IsProperDocument s d

-- what documents come to is proper, and so many were read
pub record AreProper (documents : List SystemDocument) (g : Gathered) : Type 0 where
  pub is : IsProper g
  pub count : g.documents ≡ length documents

module _ (law : DocumentsAreProper) (directory : List ℕ) (reads : List ReadNote) where
  said_proper : (s : Setting) (path : List ℕ) (said : Said) → HasFile (SaysStructure s) reads path said → IsProperDocument s said.document
  said_proper s path said has = let by = has.2.3.is in law has.2.0 by.document s said.document by.denotes by.describes.1

  pub gathered_proper : (documents : List SystemDocument) (g : Gathered) → Gathers SaysStructure directory reads documents g → AreProper documents g
  gathered_proper documents g (Outermost said _ _ tells begins) = record {
    is = proper_top said.document g begins.top (said_proper OUTERMOST (joined_path directory top_path) said tells);
    count = begins.top.documents ∙ sym (ap (λ (ds : List SystemDocument). length ds) begins.documents);
  }
  gathered_proper documents g (Nested before old path s said _ _ gathers comes tells adds) =
      let earlier = gathered_proper before old gathers in
      let long = ap (λ (ds : List SystemDocument). length ds) adds.documents in
      let more = length-append before (record { path = path; tree = said.nodes } ∷ []) in
      let here = adds.added.documents in
      let count = earlier.count in
      record {
        is = proper_added old path s said.document g comes adds.added earlier.is (said_proper s (joined_path directory path) said tells);
        count = omega (arith, here, count, long, more);
      }

  module _ (o : Outline) (all : GathersAll SaysStructure directory reads o) where
    proper : AreProper all.documents all.last
    proper = gathered_proper all.documents all.last all.gathers

    systems : all.last.tree ≡ o.systems
    systems = sym all.is.systems

    pub all_whole : IsWholeTree o.systems
    all_whole = subst IsWholeTree systems (proper_whole all.last proper.is all.all all.is.none)

    pub all_named : IsNamedTree o.systems
    all_named = subst IsNamedTree systems proper.is.named

    pub all_short : HasShortNames o
    all_short =
        subst (λ (t : SystemTree). All (λ (c : ComponentPart). length c.name ≤ 2 ^ 24) t.components) systems
        (All-weaker (λ (c : ComponentPart). (0 < length c.name) × (length c.name ≤ 2 ^ 24)) (λ (c : ComponentPart). length c.name ≤ 2 ^ 24) (λ c h. h.1) all.last.tree.components proper.is.names)

    pub all_plain : HasPlainSources o
    all_plain =
        subst (λ (t : SystemTree). All (λ (c : ComponentPart). IsPlain c.source) t.components) systems
        (All-weaker (λ (c : ComponentPart). LeadsDown c.source) (λ (c : ComponentPart). IsPlain c.source) (λ c down. leads_plain c.source down) all.last.tree.components proper.is.sources)

    -- an element of the tree stands in a document
    stands : (node : ℕ) → node < length all.last.elements → IsSome (element_in o node)
    stands node less =
        let here : elements.Place = record { document = 0; node = 0 } in
        let place = get_or all.last.elements node here in
        let at : slice_get o.numbers node ≡ Some place = ap (λ (xs : List elements.Place). slice_get xs node) all.is.numbers ∙ slice_get-get_or all.last.elements node here less in
        let below : place.document < all.last.documents = All-get_or (λ (p : elements.Place). p.document < all.last.documents) all.last.elements node here less proper.is.held in
        let many : length o.documents ≡ length all.documents = ap (λ (ds : List SystemDocument). length ds) all.is.documents in
        let count = proper.count in
        let there = slice_get-get_or o.documents place.document nowhere (omega (arith, below, many, count)) in
        rw (at, there) refl
      where
        nowhere : SystemDocument
        nowhere = record { path = []; tree = [] }

    origin_stands : (g : Origin) → IsOriginBelow (length all.last.elements) g → HasOriginDocument o g
    origin_stands (File base path) h = tt
    origin_stands (Inline node) h = stands node h

    mapping_stands : (m : Option Origin) → IfSome m (IsOriginBelow (length all.last.elements)) → IfSome m (HasOriginDocument o)
    mapping_stands None h = tt
    mapping_stands (Some g) h = origin_stands g h

    pub all_documents : HasDocument o
    all_documents =
        subst (λ (t : SystemTree). All (HasBindingDocument o) t.bindings) systems
        (λ k d less. (
          origin_stands (get_or all.last.tree.bindings k d).values (proper.is.parts.values k d less),
          mapping_stands (get_or all.last.tree.bindings k d).mapping (proper.is.parts.mappings k d less),
        ))

pub outline_whole : DocumentsAreProper → IsWholeTree lone_tree → (subject : Subject) (directory : List ℕ) (reads : List ReadNote) (o : Outline) → OutlinesAlone subject directory reads o → IsWholeTree o.systems
outline_whole law lone what.Fmu directory reads o a = subst (λ (x : Outline). IsWholeTree x.systems) (sym a) lone
outline_whole law lone what.System directory reads o a = all_whole law directory reads o a

pub outline_short : DocumentsAreProper → (subject : Subject) (directory : List ℕ) (reads : List ReadNote) (o : Outline) → OutlinesAlone subject directory reads o → HasShortNames o
outline_short law what.Fmu directory reads o a =
    subst HasShortNames (sym a) (All-cons (λ (c : ComponentPart). length c.name ≤ 2 ^ 24) (record { node = 0; system = 0; name = lone_name; source = [] }) [] (omega arith)
    (All-nil (λ (c : ComponentPart). length c.name ≤ 2 ^ 24)))
outline_short law what.System directory reads o a = all_short law directory reads o a

pub outline_named : DocumentsAreProper → IsNamedTree lone_tree → (subject : Subject) (directory : List ℕ) (reads : List ReadNote) (o : Outline) → OutlinesAlone subject directory reads o → IsNamedTree o.systems
outline_named law lone what.Fmu directory reads o a = subst (λ (x : Outline). IsNamedTree x.systems) (sym a) lone
outline_named law lone what.System directory reads o a = all_named law directory reads o a

pub outline_plain : DocumentsAreProper → (subject : Subject) (directory : List ℕ) (reads : List ReadNote) (o : Outline) → OutlinesAlone subject directory reads o → HasPlainSources o
outline_plain law what.Fmu directory reads o a =
    subst HasPlainSources (sym a) (All-cons (λ (c : ComponentPart). IsPlain c.source) (record { node = 0; system = 0; name = lone_name; source = [] }) [] refl
    (All-nil (λ (c : ComponentPart). IsPlain c.source)))
outline_plain law what.System directory reads o a = all_plain law directory reads o a

pub outline_document : DocumentsAreProper → (subject : Subject) (directory : List ℕ) (reads : List ReadNote) (o : Outline) → OutlinesAlone subject directory reads o → HasDocument o
outline_document law what.Fmu directory reads o a = subst HasDocument (sym a) (All-nil (HasBindingDocument lone_outline))
outline_document law what.System directory reads o a = all_documents law directory reads o a

-- ---- the shapes

pub are_shapes : ((per_second : ℕ) (bytes : List ℕ) (shape : Shape) → IsModel per_second bytes shape → IsSoundShape shape) →
    ((per_second : ℕ) (bytes : List ℕ) (shape : Shape) → IsModel per_second bytes shape → shape.resolution ≡ per_second) →
    (per_second : ℕ) (directory : List ℕ) (reads : List ReadNote) (t : SystemTree) (shapes : List Shape) → 1 ≤ per_second → per_second ≤ 2 ^ 62 →
    AllZip (HasShapeAlone per_second directory reads) t.components shapes → AreShapesOf t shapes
are_shapes sound resolution per_second directory reads t shapes above most each = record {
  len = AllZip-long (HasShapeAlone per_second directory reads) t.components shapes each;
  sound = all_by_place IsSoundShape shapes (λ k shape at. let h = zip_at (HasShapeAlone per_second directory reads) t.components shapes each k shape at in sound per_second h.2.2.0 shape h.2.2.3.is);
  per_second = per_second;
  above = omega arith;
  within = most;
  resolutions = all_by_place (λ (s : Shape). s.resolution ≡ per_second) shapes
      (λ k shape at. let h = zip_at (HasShapeAlone per_second directory reads) t.components shapes each k shape at in resolution per_second h.2.2.0 shape h.2.2.3.is);
}

-- ---- the components

within : (m n : ℕ) → m ≤ n → n ≤ 2 ^ 24 → m ≤ 2 ^ 24
within m n a b = omega arith

pub are_named : ((per_second : ℕ) (bytes : List ℕ) (shape : Shape) → IsModel per_second bytes shape → length shape.token ≤ length bytes) →
    (per_second : ℕ) (directory : List ℕ) (reads : List ReadNote) (o : Outline) (shapes : List Shape) (system : System) → IsWholeTree o.systems → HasShortNames o →
    AllZip (HasShapeAlone per_second directory reads) o.systems.components shapes → Makes o shapes system → All IsNamed system.components
are_named law per_second directory reads o shapes system whole short each makes = all_by_place IsNamed system.components named
  where
    named : (k : ℕ) (c : Component) → slice_get system.components k ≡ Some c → IsNamed c
    named k c at =
        let i = makes.flattens.flat.components.each k c at in
        let h = zip_at (HasShapeAlone per_second directory reads) o.systems.components shapes each k c.shape i.shape in
        let long : 0 < length i.part.name = all_at (λ (p : ComponentPart). 0 < length p.name) o.systems.components k i.part whole.named i.at in
        let few : length i.part.name ≤ 2 ^ 24 = all_at (λ (p : ComponentPart). length p.name ≤ 2 ^ 24) o.systems.components k i.part short i.at in
        let same : length c.name ≡ length i.part.name = ap length i.name in
        record {
          named = omega (arith, long, same);
          name = omega (arith, few, same);
          token = within (length c.shape.token) (length h.2.2.0) (law per_second h.2.2.0 c.shape h.2.2.3.is) h.2.2.2;
        }

-- each counts as it was read
pub are_counting : ((per_second : ℕ) (bytes : List ℕ) (shape : Shape) → IsModel per_second bytes shape → shape.resolution ≡ per_second) →
    (per_second : ℕ) (directory : List ℕ) (reads : List ReadNote) (o : Outline) (shapes : List Shape) (system : System) →
    AllZip (HasShapeAlone per_second directory reads) o.systems.components shapes → Makes o shapes system → All (λ (c : Component). c.shape.resolution ≡ per_second) system.components
are_counting law per_second directory reads o shapes system each makes = all_by_place (λ (c : Component). c.shape.resolution ≡ per_second) system.components counts
  where
    counts : (k : ℕ) (c : Component) → slice_get system.components k ≡ Some c → c.shape.resolution ≡ per_second
    counts k c at =
        let i = makes.flattens.flat.components.each k c at in
        let h = zip_at (HasShapeAlone per_second directory reads) o.systems.components shapes each k c.shape i.shape in law per_second h.2.2.0 c.shape h.2.2.3.is

-- ---- what the bindings give

sets_long : (n : ℕ) (given : List GivenBinding) → length (sets_from n given) ≡ length given
sets_long n [] = refl
sets_long n (g ∷ given) = ap suc (sets_long (suc n) given)

sets_in_range : (directory : List ℕ) (reads : List ReadNote) (o : Outline) (n : ℕ) (bs : List Binding) (given : List GivenBinding) → AllZip (IsGivenAlone directory reads o) bs given →
    All (λ (sets : BindingSets). AreInRange sets.values.set) (sets_from n given)
sets_in_range directory reads o n [] [] each = All-nil (λ (sets : BindingSets). AreInRange sets.values.set)
sets_in_range directory reads o n [] (g ∷ given) each = absurd each
sets_in_range directory reads o n (b ∷ bs) [] each = absurd each
sets_in_range directory reads o n (b ∷ bs) (g ∷ given) each =
    All-cons (λ (sets : BindingSets). AreInRange sets.values.set) (sets_at n g) (sets_from (suc n) given) each.0.range (sets_in_range directory reads o (suc n) bs given each.1)

pub are_ready : (directory : List ℕ) (reads : List ReadNote) (o : Outline) (shapes : List Shape) (given : List GivenBinding) → IsNamedTree o.systems → AreShapesOf o.systems shapes →
    AllZip (IsGivenAlone directory reads o) o.systems.bindings given → AreReady o shapes given
are_ready directory reads o shapes given tree a each = record {
  tree = tree;
  shapes_len = a.len;
  sound = a.sound;
  sets_len = sets_long 0 given ∙ AllZip-long (IsGivenAlone directory reads o) o.systems.bindings given each;
  ranges = sets_in_range directory reads o 0 o.systems.bindings given each;
}

mapping_there : (directory : List ℕ) (reads : List ReadNote) (o : Outline) (owner : Owner) (origin : Option Origin) (given : Option GivenMapping) →
    IsMappingAlone directory reads o owner origin given → IsSome given → IsSome origin
mapping_there directory reads o owner None None h some = some
mapping_there directory reads o owner None (Some given) h some = absurd h
mapping_there directory reads o owner (Some origin) given h some = refl

pub has_parts : (directory : List ℕ) (reads : List ReadNote) (o : Outline) (bs : List Binding) (given : List GivenBinding) → AllZip (IsGivenAlone directory reads o) bs given → HasParts bs given
has_parts directory reads o bs given each =
    zip_then (IsGivenAlone directory reads o) (λ (b : Binding) (g : GivenBinding). IsSome g.mapping → IsSome b.mapping)
    (λ b g h some. mapping_there directory reads o b.owner b.mapping g.mapping h.mapping some) bs given each

-- ---- rules of what they give

mapped : (n : ℕ) (g : GivenBinding) → IsSome (mapping_of (sets_at n g)) → IsSome g.mapping
mapped n g some = by g.mapping some
  where
    by : (m : Option GivenMapping) → IsSome (option_map (λ (x : MappingOf). x.mapping) (option_map (λ (x : GivenMapping). record { file = 2 * n + 1; mapping = x.mapping }) m)) → IsSome m
    by None some = some
    by (Some x) some = refl

mapping_at : (n k : ℕ) (bs : List Binding) (given : List GivenBinding) (b : Binding) (sets : BindingSets) → HasParts bs given → slice_get bs k ≡ Some b →
    slice_get (sets_from n given) k ≡ Some sets → IsSome (mapping_of sets) → IsSome b.mapping
mapping_at n k [] [] b sets parts at has some = absurd (cc)
mapping_at n k [] (g ∷ given) b sets parts at has some = absurd parts
mapping_at n k (c ∷ bs) [] b sets parts at has some = absurd parts
mapping_at n zero (c ∷ bs) (g ∷ given) b sets parts at has some =
    let same : c ≡ b = cc in
    let here : sets ≡ sets_at n g = cc in
    subst (λ (x : Binding). IsSome x.mapping) same (parts.0 (mapped n g (subst (λ (x : BindingSets). IsSome (mapping_of x)) here some)))
mapping_at n (suc k) (c ∷ bs) (g ∷ given) b sets parts at has some = mapping_at (suc n) k bs given b sets parts.1 at has some

-- the part of a binding in which a fault is told is there
pub has_binding_part : (o : Outline) (shapes : List Shape) (given : List GivenBinding) (fault : BindingFault) → HasParts o.systems.bindings given → TellsBinding o shapes given fault → HasBindingPart o fault
has_binding_part o shapes given binds.Memory parts told = tt
has_binding_part o shapes given (binds.Broken n in_mapping rule place) parts told =
    let e = told.broken in
    subst (λ (k : ℕ). IsSomeAnd (slice_get o.systems.bindings k) (λ (b : Binding). IsSome (origin_of in_mapping b))) (sym e.binding_is)
    (subst (λ (m : Bool). IsSomeAnd (slice_get o.systems.bindings e.at.binding) (λ (b : Binding). IsSome (origin_of m b))) (sym e.mapping_is)
    (by e.broken e.at e.first.broken.0 e.first.broken.1))
  where
    There : rules.Place → Type 0
    There at = IsSomeAnd (slice_get o.systems.bindings at.binding) (λ (b : Binding). IsSome (origin_of at.in_mapping b))

    set_there : (at : rules.Place) (k : ℕ) (b : Binding) → slice_get o.systems.bindings k ≡ Some b → k ≡ at.binding → at.in_mapping ≡ false → There at
    set_there at k b is same in_set =
        subst (λ (m : Bool). IsSomeAnd (slice_get o.systems.bindings at.binding) (λ (b : Binding). IsSome (origin_of m b))) (sym in_set)
        (subst (λ (j : ℕ). IsSomeAnd (slice_get o.systems.bindings j) (λ (b : Binding). IsSome (Some b.values))) same
        (subst (λ (x : Option Binding). IsSomeAnd x (λ (b : Binding). IsSome (Some b.values))) (sym is) refl))

    some_mapping : (m : Option Mapping) (x : Mapping) → m ≡ Some x → IsSome m
    some_mapping m x e = subst (λ (y : Option Mapping). IsSome y) (sym e) refl

    by : (rule : ParameterRule) (at : rules.Place) (c : Triple) → rules.Breaks o.systems shapes (sets_of given) rule at c → There at
    by p.Structure at c h = absurd h
    by p.Incomplete at c h = absurd h
    by p.OtherClass at c h = set_there at c.binding h.of.reaches.binding h.of.reaches.is.is h.binding h.in_set
    by p.OutOfRange at c h = set_there at c.binding h.of.reaches.binding h.of.reaches.is.is h.binding h.in_set
    by p.NoMapEntry at c h = set_there at c.binding h.of.reaches.binding h.of.reaches.is.is h.binding h.in_set
    by p.NamesTwo at c h = set_there at c.binding h.reaches.binding h.reaches.is.is h.binding h.in_set
    by p.Transformation at c h =
        let b = h.of.reaches.binding in
        let there : IsSome b.mapping =
        mapping_at 0 c.binding o.systems.bindings given b h.of.reaches.is.given parts h.of.reaches.is.is h.of.reaches.is.has (some_mapping (mapping_of h.of.reaches.is.given) h.mapping h.has) in
        subst (λ (m : Bool). IsSomeAnd (slice_get o.systems.bindings at.binding) (λ (b : Binding). IsSome (origin_of m b))) (sym h.in_mapping)
        (subst (λ (j : ℕ). IsSomeAnd (slice_get o.systems.bindings j) (λ (b : Binding). IsSome b.mapping)) h.binding
        (subst (λ (x : Option Binding). IsSomeAnd x (λ (b : Binding). IsSome b.mapping)) (sym h.of.reaches.is.is) there))

-- ---- the values

each_bound : (components : List Component) (shapes : List Shape) (values : List (List BoundValue)) → length components ≡ length shapes →
    ((k : ℕ) (c : Component) → slice_get components k ≡ Some c → slice_get shapes k ≡ Some c.shape) → AllZip AreParameterValues shapes values →
    AllZip (λ (c : Component) (v : List BoundValue). AreParameterValues c.shape v) components values
each_bound [] [] [] len at each = tt
each_bound [] [] (v ∷ values) len at each = absurd each
each_bound [] (s ∷ shapes) values len at each = absurd (cc)
each_bound (c ∷ components) [] values len at each = absurd (cc)
each_bound (c ∷ components) (s ∷ shapes) [] len at each = absurd each
each_bound (c ∷ components) (s ∷ shapes) (v ∷ values) len at each =
    let here = at 0 c refl in
    let same : s ≡ c.shape = cc in
    let less : length components ≡ length shapes = omega (arith, len) in
    (subst (λ (x : Shape). AreParameterValues x v) same each.0, each_bound components shapes values less (λ k d is. at (suc k) d is) each.1)

-- the values of the shapes are those of the components
pub binds_parameters : (o : Outline) (shapes : List Shape) (system : System) (bound : Bound) → length shapes ≡ length o.systems.components → Makes o shapes system →
    AllZip AreParameterValues shapes bound.components → BindsParameters system bound
binds_parameters o shapes system bound len makes each =
    each_bound system.components shapes bound.components (makes.flattens.flat.components.len ∙ sym len)
    (λ k c at. (makes.flattens.flat.components.each k c at).shape) each
