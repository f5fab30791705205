-- Where a folder tells its files, what is found alone is all that the order of reading comes to.
use Rattle.std.proofs.Common.{◌≡◌, ℕ, Bool, ap₂, List, [], ◌∷◌, ◌++◌, Option, Some, None, refl, sym, ap, ◌∙◌, subst}
use Rattle.std.specs.Prelude.{IsSomeAnd, slice_get}
use Rattle.std.specs.List.{AllZip}
use Rattle.std.proofs.lemmas.List.{append-nil}
use Rattle.sim_base.specs.declared.numbers.PortId.{PortId}
use Rattle.value_types.specs.declared.shape.Shape.{Shape}
use Rattle.sim_base.specs.declared.read_book.ReadNote.{ReadNote}
use Rattle.doc_tree.specs.declared.place.Place.{Place}
use Rattle.doc_tree.specs.declared.rule.Rule.{Rule}
use Rattle.system_model.specs.declared.bound.Bound.{Bound}
use Rattle.ssd_tree.specs.declared.tree.Binding.{Binding}
use Rattle.ssd_tree.specs.declared.tree.ComponentPart.{ComponentPart}
use Rattle.ssd_tree.specs.declared.tree.Origin.{Origin}
use Rattle.system_loading.specs.declared.outline.Outline.{Outline}
use Rattle.system_loading.specs.declared.parameters.GivenBinding.{GivenBinding}
use Rattle.system_loading.specs.Assembly.{BreaksTogether, BreaksTogetherAlone, Makes}
use Rattle.system_loading.specs.Binding.{Binds, BindsAlone, BreaksBinding, BreaksBindingAlone}
use Rattle.system_loading.specs.Documents.{BreaksStructure, IsStructure}
use Rattle.system_loading.specs.Outlines.{place_in}
use Rattle.system_loading.specs.Readings.{BreaksModel, IsModel}
use Rattle.system_files.specs.declared.loaded.Loaded.{Loaded}
use Rattle.system_files.specs.declared.subject.Subject.{Subject}
use Rattle.system_files.specs.declared.subject.Subject.TheVariants as what
use Rattle.system_files.specs.Documents.{LacksOutline, told_in}
use Rattle.system_files.specs.Files.{AreSteady, Faulty, Flaw, LacksFile}
use Rattle.system_files.specs.Order.{Agree, Comes, ComesAlone, Fails, Finding, Found, HasShape, IsBindingToldIn, IsGiven, LacksBinding, NoBinding, NoOutline, NoSet, NoShape, NoSystem, Outlines, ReachesShapes, ReachesBindings, Search, Whole, asked_for, asked_with, folders_of, model_path, origin_of, part_told}
use Rattle.system_files.specs.Steps.{FailsModel, FailsStructure, HasShapeAlone, IsGivenAlone, IsLoaded, OutlinesAlone, SaysStructure}
use Rattle.system_files.proofs.DocumentLemmas.{all_plain, gathers_once, gathers_unflawed, lacks_once, lacks_plain, lacks_ungathered}
use Rattle.system_files.proofs.FileLemmas.{flawed_once, flawed_unsaid, is_flawed, is_said, said_once, said_unflawed}
use Rattle.system_files.proofs.ListLemmas.{Each, each_in, stops_once, zip_left, zip_once, zip_then}
use Rattle.system_files.proofs.PartLemmas.{LacksBindingAlone, binding_once, binding_stop, given_once, given_sound, is_given, lacks_binding}

-- ---- what is found alone is found

pub is_outline : (subject : Subject) (directory : List ℕ) (reads : List ReadNote) (o : Outline) → OutlinesAlone subject directory reads o → Outlines subject directory reads o
is_outline what.Fmu directory reads o a = a
is_outline what.System directory reads o a = all_plain directory reads o a

-- the first components have shapes of their own
pub record ReachesAlone (s : Search) (reads : List ReadNote) (o : Outline) (taken : List ComponentPart) (shapes : List Shape) (rest : List ComponentPart) : Type 0 where
  pub outline : OutlinesAlone s.subject s.directory reads o
  pub is : o.systems.components ≡ taken ++ rest
  pub each : AllZip (HasShapeAlone s.per_second s.directory reads) taken shapes

pub reached : (s : Search) (reads : List ReadNote) (o : Outline) (taken : List ComponentPart) (shapes : List Shape) (rest : List ComponentPart) → ReachesAlone s reads o taken shapes rest →
    ReachesShapes s reads o taken shapes rest
reached s reads o taken shapes rest a = record {
  outline = is_outline s.subject s.directory reads o a.outline;
  is = a.is;
  each = zip_then (HasShapeAlone s.per_second s.directory reads) (HasShape s reads)
      (λ c shape h. is_said (IsModel s.per_second) (BreaksModel s.per_second) reads (model_path s.directory c) shape h) taken shapes a.each;
}

pub reached_all : (s : Search) (reads : List ReadNote) (o : Outline) (shapes : List Shape) → OutlinesAlone s.subject s.directory reads o →
    AllZip (HasShapeAlone s.per_second s.directory reads) o.systems.components shapes → ReachesAlone s reads o o.systems.components shapes []
reached_all s reads o shapes outline each = record { outline = outline; is = sym (append-nil o.systems.components); each = each }

-- the file of a part of a binding is one
binding_told_once : (directory : List ℕ) (o : Outline) (n : ℕ) (in_mapping : Bool) (one other : List ℕ) → IsBindingToldIn directory o n in_mapping one → IsBindingToldIn directory o n in_mapping other → one ≡ other
binding_told_once directory o n in_mapping one other a b = by (slice_get o.systems.bindings n) a b
  where
    of : (b : Binding) (origin : Option Origin) → IsSomeAnd origin (λ x. one ≡ part_told directory o b.owner x) →
        IsSomeAnd origin (λ x. other ≡ part_told directory o b.owner x) → one ≡ other
    of b None h k = absurd h
    of b (Some origin) h k = h ∙ sym k

    by : (b : Option Binding) → IsSomeAnd b (λ (b : Binding). IsSomeAnd (origin_of in_mapping b) (λ x. one ≡ part_told directory o b.owner x)) →
        IsSomeAnd b (λ (b : Binding). IsSomeAnd (origin_of in_mapping b) (λ x. other ≡ part_told directory o b.owner x)) → one ≡ other
    by None h k = absurd h
    by (Some b) h k = of b (origin_of in_mapping b) h k

-- all that is come to agrees with this
abbrev pub Agrees : Search → List ReadNote → List (List ℕ) → Finding → Type 0
Agrees s reads asked finding = (others : List (List ℕ)) (other : Finding) → Comes s reads others other → (asked ≡ others) × Agree finding other

-- ---- where the folder tells its files

module _ (s : Search) (reads : List ReadNote) (steady : AreSteady reads) where
  pub outline_once : (subject : Subject) (directory : List ℕ) (o other : Outline) → OutlinesAlone subject directory reads o → Outlines subject directory reads other → o ≡ other
  outline_once what.Fmu directory o other a f = a ∙ sym f
  outline_once what.System directory o other a f = gathers_once directory reads steady o other a f

  outline_unflawed : (o : Outline) (asked : List (List ℕ)) (told : List ℕ) (flaw : Flaw) → OutlinesAlone s.subject s.directory reads o → s.subject ≡ what.System →
      LacksOutline IsStructure BreaksStructure s.directory reads asked told flaw → ⊥
  outline_unflawed o asked told flaw a sys f =
      gathers_unflawed s.directory reads steady o asked told flaw (subst (λ (subject : Subject). OutlinesAlone subject s.directory reads o) sys a) f

  no_outline : (o : Outline) (asked : List (List ℕ)) (told : List ℕ) (flaw : Flaw) → s.subject ≡ what.System → LacksOutline SaysStructure FailsStructure s.directory reads asked told flaw →
      Outlines s.subject s.directory reads o → ⊥
  no_outline o asked told flaw sys a f =
      lacks_ungathered s.directory reads steady o asked told flaw a (subst (λ (subject : Subject). Outlines subject s.directory reads o) sys f)

  shape_once : (c : ComponentPart) (one other : Shape) → HasShapeAlone s.per_second s.directory reads c one → HasShape s reads c other → one ≡ other
  shape_once c one other a f = said_once (IsModel s.per_second) (BreaksModel s.per_second) reads steady (model_path s.directory c) one other a f

  -- ---- no structure

  pub no_outline_only : (asked : List (List ℕ)) (told : List ℕ) (flaw : Flaw) → s.subject ≡ what.System → LacksOutline SaysStructure FailsStructure s.directory reads asked told flaw →
      Agrees s reads asked (Fails told flaw)
  no_outline_only asked told flaw sys a others other (NoOutline told2 flaw2 asked2 finding sys2 f finding_is) =
      let once = lacks_once s.directory reads steady asked told flaw others told2 flaw2 a f in
      (once.0, subst (Agree (Fails told flaw)) (sym finding_is) (once.1, once.2))
  no_outline_only asked told flaw sys a others other (NoShape o taken shapes c rest flaw2 asked2 finding reach f asked_is finding_is) = absurd (no_outline o asked told flaw sys a reach.outline)
  no_outline_only asked told flaw sys a others other (NoSet o2 shapes2 taken2 given2 b2 rest2 files2 path2 flaw2 asked2 finding reach f asked_is finding_is) = absurd (no_outline o2 asked told flaw sys a reach.reaches.outline)
  no_outline_only asked told flaw sys a others other (NoBinding o2 shapes2 given2 n2 in_mapping2 rule2 place2 path2 asked2 finding reach f told2 asked_is finding_is) = absurd (no_outline o2 asked told flaw sys a reach.reaches.outline)
  no_outline_only asked told flaw sys a others other (NoSystem o2 shapes2 given2 bound2 rule2 node2 ports2 asked2 finding reach binds2 f asked_is finding_is) = absurd (no_outline o2 asked told flaw sys a reach.reaches.outline)
  no_outline_only asked told flaw sys a others other (Whole o2 shapes2 given2 loaded2 asked2 finding reach binds2 f folders2 asked_is finding_is) = absurd (no_outline o2 asked told flaw sys a reach.reaches.outline)

  -- ---- components with a shape, or with a flaw

  abbrev Good : ComponentPart → Type 0
  Good c = (shape : Shape) × HasShape s reads c shape

  abbrev Bad : ComponentPart → Type 0
  Bad c = (flaw : Flaw) × LacksFile (BreaksModel s.per_second) reads (model_path s.directory c) flaw

  good : (c : ComponentPart) (shape : Shape) → HasShapeAlone s.per_second s.directory reads c shape → Bad c → ⊥
  good c shape a bad = said_unflawed (IsModel s.per_second) (BreaksModel s.per_second) reads steady (model_path s.directory c) shape bad.0 a bad.1

  bad : (c : ComponentPart) (flaw : Flaw) → LacksFile (FailsModel s.per_second) reads (model_path s.directory c) flaw → Good c → ⊥
  bad c flaw a good = flawed_unsaid (IsModel s.per_second) (BreaksModel s.per_second) reads steady (model_path s.directory c) good.0 flaw a good.1

  each_sound : (cs : List ComponentPart) (shapes : List Shape) → AllZip (HasShapeAlone s.per_second s.directory reads) cs shapes → Each (λ c. Bad c → ⊥) cs
  each_sound cs shapes a = zip_left (HasShapeAlone s.per_second s.directory reads) (λ c. Bad c → ⊥) good cs shapes a

  each_good : (cs : List ComponentPart) (shapes : List Shape) → AllZip (HasShape s reads) cs shapes → Each Good cs
  each_good cs shapes f = zip_left (HasShape s reads) Good (λ c shape h. (shape, h)) cs shapes f

  -- ---- a description isn't taken

  module _ (o : Outline) (taken : List ComponentPart) (shapes : List Shape) (c : ComponentPart) (rest : List ComponentPart) (flaw : Flaw)
      (a : ReachesAlone s reads o taken shapes (c ∷ rest)) (lacks : LacksFile (FailsModel s.per_second) reads (model_path s.directory c) flaw) where
    -- some components cannot all have a shape
    not_all : (other : Outline) (more : List Shape) → Outlines s.subject s.directory reads other → AllZip (HasShape s reads) other.systems.components more → ⊥
    not_all other more outline each =
        let same = outline_once s.subject s.directory o other a.outline outline in
        let all : other.systems.components ≡ taken ++ c ∷ rest = ap (λ (x : Outline). x.systems.components) (sym same) ∙ a.is in
        bad c flaw lacks (each_in Good taken c rest (subst (Each Good) all (each_good other.systems.components more each)))

    pub no_shape_only : Agrees s reads (asked_for s o (taken ++ c ∷ [])) (Fails (model_path s.directory c) flaw)
    no_shape_only others other (NoOutline told2 flaw2 asked finding sys f finding_is) = absurd (outline_unflawed o others told2 flaw2 a.outline sys f)
    no_shape_only others other (NoShape o2 taken2 shapes2 c2 rest2 flaw2 asked finding reach f asked_is finding_is) =
        let same = outline_once s.subject s.directory o o2 a.outline reach.outline in
        let all : taken ++ c ∷ rest ≡ taken2 ++ c2 ∷ rest2 = sym a.is ∙ ap (λ (x : Outline). x.systems.components) same ∙ reach.is in
        let stops = stops_once Good Bad taken taken2 c c2 rest rest2 all (each_sound taken shapes a.each) (bad c flaw lacks) (each_good taken2 shapes2 reach.each) (flaw2, f) in
        let here : LacksFile (BreaksModel s.per_second) reads (model_path s.directory c) flaw2 =
        subst (λ (x : ComponentPart). LacksFile (BreaksModel s.per_second) reads (model_path s.directory x) flaw2) (sym stops.1) f in (
          ap (λ (cs : List ComponentPart). asked_for s o (cs ++ c ∷ [])) stops.0 ∙ (ap (λ (x : ComponentPart). asked_for s o (taken2 ++ x ∷ [])) stops.1 ∙ (ap (λ (x : Outline). asked_for s x (taken2 ++ c2 ∷ [])) same ∙ sym asked_is)),
          subst (Agree (Fails (model_path s.directory c) flaw)) (sym finding_is)
              (ap (model_path s.directory) stops.1, flawed_once (IsModel s.per_second) (BreaksModel s.per_second) reads steady (model_path s.directory c) flaw flaw2 lacks here),
        )
    no_shape_only others other (NoSet o2 shapes2 taken2 given2 b2 rest2 files2 path2 flaw2 asked finding reach f asked_is finding_is) = absurd (not_all o2 shapes2 reach.reaches.outline reach.reaches.each)
    no_shape_only others other (NoBinding o2 shapes2 given2 n2 in_mapping2 rule2 place2 path2 asked finding reach f told2 asked_is finding_is) = absurd (not_all o2 shapes2 reach.reaches.outline reach.reaches.each)
    no_shape_only others other (NoSystem o2 shapes2 given2 bound2 rule2 node2 ports2 asked finding reach binds2 f asked_is finding_is) = absurd (not_all o2 shapes2 reach.reaches.outline reach.reaches.each)
    no_shape_only others other (Whole o2 shapes2 given2 loaded2 asked finding reach binds2 f folders2 asked_is finding_is) = absurd (not_all o2 shapes2 reach.reaches.outline reach.reaches.each)

  -- ---- all descriptions are taken

  module _ (o : Outline) (shapes : List Shape) (outline : OutlinesAlone s.subject s.directory reads o)
      (each : AllZip (HasShapeAlone s.per_second s.directory reads) o.systems.components shapes) where
    no_flaw : (o2 : Outline) (taken2 : List ComponentPart) (shapes2 : List Shape) (c2 : ComponentPart) (rest2 : List ComponentPart) (flaw2 : Flaw) →
        ReachesShapes s reads o2 taken2 shapes2 (c2 ∷ rest2) → LacksFile (BreaksModel s.per_second) reads (model_path s.directory c2) flaw2 → ⊥
    no_flaw o2 taken2 shapes2 c2 rest2 flaw2 reach f =
        let same = outline_once s.subject s.directory o o2 outline reach.outline in
        let all : o.systems.components ≡ taken2 ++ c2 ∷ rest2 = ap (λ (x : Outline). x.systems.components) same ∙ reach.is in
        each_in (λ c. Bad c → ⊥) taken2 c2 rest2 (subst (Each (λ c. Bad c → ⊥)) all (each_sound o.systems.components shapes each)) (flaw2, f)

    -- another outline with shapes is this one with these
    same_parts : (o2 : Outline) (shapes2 : List Shape) → ReachesShapes s reads o2 o2.systems.components shapes2 [] → (o ≡ o2) × (shapes ≡ shapes2)
    same_parts o2 shapes2 reach =
        let same = outline_once s.subject s.directory o o2 outline reach.outline in (
          same,
          zip_once (HasShapeAlone s.per_second s.directory reads) (HasShape s reads) shape_once o.systems.components shapes shapes2 each
              (subst (λ (x : Outline). AllZip (HasShape s reads) x.systems.components shapes2) (sym same) reach.each),
        )

    back : (P : Outline → List Shape → Type 0) (o2 : Outline) (shapes2 : List Shape) → ReachesShapes s reads o2 o2.systems.components shapes2 [] → P o2 shapes2 → P o shapes
    back P o2 shapes2 reach p =
        let same = same_parts o2 shapes2 reach in
        subst (λ (x : Outline). P x shapes) (sym same.0) (subst (P o2) (sym same.1) p)

    -- ---- the bindings

    abbrev GoodBinding : Binding → Type 0
    GoodBinding b = (given : GivenBinding) × IsGiven s.directory reads o b given

    abbrev BadBinding : Binding → Type 0
    BadBinding b = (files : List (List ℕ)) × ((path : List ℕ) × ((flaw : Flaw) × LacksBinding s reads o b files path flaw))

    bindings_sound : (bs : List Binding) (given : List GivenBinding) → AllZip (IsGivenAlone s.directory reads o) bs given → Each (λ b. BadBinding b → ⊥) bs
    bindings_sound bs given a =
        zip_left (IsGivenAlone s.directory reads o) (λ b. BadBinding b → ⊥) (λ b g h bad. given_sound s reads o b steady g bad.0 bad.1.0 bad.1.1.0 h bad.1.1.1) bs given a

    bindings_good : (bs : List Binding) (given : List GivenBinding) → AllZip (IsGiven s.directory reads o) bs given → Each GoodBinding bs
    bindings_good bs given f = zip_left (IsGiven s.directory reads o) GoodBinding (λ b g h. (g, h)) bs given f

    -- ---- a binding isn't taken

    module _ (taken : List Binding) (given : List GivenBinding) (b : Binding) (rest : List Binding) (files : List (List ℕ)) (path : List ℕ) (flaw : Flaw)
        (bindings_are : o.systems.bindings ≡ taken ++ b ∷ rest) (gives : AllZip (IsGivenAlone s.directory reads o) taken given) (lacks : LacksBindingAlone s reads o b files path flaw) where
      stop : GoodBinding b → ⊥
      stop good = binding_stop s reads o b steady good.0 files path flaw lacks good.1

      -- some bindings cannot all be taken
      not_all_given : (o2 : Outline) (shapes2 : List Shape) (given2 : List GivenBinding) → ReachesBindings s reads o2 shapes2 o2.systems.bindings given2 [] → ⊥
      not_all_given o2 shapes2 given2 reach =
          let here = back (λ x xs. ReachesBindings s reads x xs x.systems.bindings given2 []) o2 shapes2 reach.reaches reach in
          stop (each_in GoodBinding taken b rest (subst (Each GoodBinding) bindings_are (bindings_good o.systems.bindings given2 here.each)))

      pub no_set_only : Agrees s reads (asked_with s o taken ++ files) (Fails path flaw)
      no_set_only others other (NoOutline told2 flaw2 asked finding sys f finding_is) = absurd (outline_unflawed o others told2 flaw2 outline sys f)
      no_set_only others other (NoShape o2 taken2 shapes2 c2 rest2 flaw2 asked finding reach f asked_is finding_is) = absurd (no_flaw o2 taken2 shapes2 c2 rest2 flaw2 reach f)
      no_set_only others other (NoSet o2 shapes2 taken2 given2 b2 rest2 files2 path2 flaw2 asked finding reach f asked_is finding_is) =
          let here = back (λ x xs. ReachesBindings s reads x xs taken2 given2 (b2 ∷ rest2)) o2 shapes2 reach.reaches reach in
          let bad : LacksBinding s reads o b2 files2 path2 flaw2 = back (λ x xs. LacksBinding s reads x b2 files2 path2 flaw2) o2 shapes2 reach.reaches f in
          let is2 : asked ≡ asked_with s o taken2 ++ files2 = back (λ x xs. asked ≡ asked_with s x taken2 ++ files2) o2 shapes2 reach.reaches asked_is in
          let stops = stops_once GoodBinding BadBinding taken taken2 b b2 rest rest2 (sym bindings_are ∙ here.is) (bindings_sound taken given gives) stop
          (bindings_good taken2 given2 here.each) (files2, (path2, (flaw2, bad))) in
          let once = binding_once s reads o b steady files files2 path path2 flaw flaw2 lacks (subst (λ (x : Binding). LacksBinding s reads o x files2 path2 flaw2) (sym stops.1) bad) in (
            ap₂ (λ (bs : List Binding) (more : List (List ℕ)). asked_with s o bs ++ more) stops.0 once.0 ∙ sym is2,
            subst (Agree (Fails path flaw)) (sym finding_is) (once.1, once.2),
          )
      no_set_only others other (NoBinding o2 shapes2 given2 n2 in_mapping2 rule2 place2 path2 asked finding reach f told2 asked_is finding_is) = absurd (not_all_given o2 shapes2 given2 reach)
      no_set_only others other (NoSystem o2 shapes2 given2 bound2 rule2 node2 ports2 asked finding reach binds2 f asked_is finding_is) = absurd (not_all_given o2 shapes2 given2 reach)
      no_set_only others other (Whole o2 shapes2 given2 loaded2 asked finding reach binds2 f folders2 asked_is finding_is) = absurd (not_all_given o2 shapes2 given2 reach)

    -- ---- all bindings are taken

    module _ (given : List GivenBinding) (gives : AllZip (IsGivenAlone s.directory reads o) o.systems.bindings given) where
      no_bad : (o2 : Outline) (shapes2 : List Shape) (taken2 : List Binding) (given2 : List GivenBinding) (b2 : Binding) (rest2 : List Binding) (files2 : List (List ℕ)) (path2 : List ℕ) (flaw2 : Flaw) →
          ReachesBindings s reads o2 shapes2 taken2 given2 (b2 ∷ rest2) → LacksBinding s reads o2 b2 files2 path2 flaw2 → ⊥
      no_bad o2 shapes2 taken2 given2 b2 rest2 files2 path2 flaw2 reach f =
          let here = back (λ x xs. ReachesBindings s reads x xs taken2 given2 (b2 ∷ rest2)) o2 shapes2 reach.reaches reach in
          let bad : LacksBinding s reads o b2 files2 path2 flaw2 = back (λ x xs. LacksBinding s reads x b2 files2 path2 flaw2) o2 shapes2 reach.reaches f in
          each_in (λ x. BadBinding x → ⊥) taken2 b2 rest2 (subst (Each (λ x. BadBinding x → ⊥)) here.is (bindings_sound o.systems.bindings given gives)) (files2, (path2, (flaw2, bad)))

      same_given : (given2 : List GivenBinding) → AllZip (IsGiven s.directory reads o) o.systems.bindings given2 → given ≡ given2
      same_given given2 f =
          zip_once (IsGivenAlone s.directory reads o) (IsGiven s.directory reads o) (λ b one other h k. given_once s reads o b steady one other h k) o.systems.bindings given given2 gives f

      -- another outline with shapes and bindings is this one with these
      all_back : (P : Outline → List Shape → List GivenBinding → Type 0) (o2 : Outline) (shapes2 : List Shape) (given2 : List GivenBinding) →
          ReachesBindings s reads o2 shapes2 o2.systems.bindings given2 [] → P o2 shapes2 given2 → P o shapes given
      all_back P o2 shapes2 given2 reach p =
          let here = back (λ x xs. ReachesBindings s reads x xs x.systems.bindings given2 []) o2 shapes2 reach.reaches reach in
          subst (P o shapes) (sym (same_given given2 here.each)) (back (λ x xs. P x xs given2) o2 shapes2 reach.reaches p)

      all_asked : (o2 : Outline) (shapes2 : List Shape) (given2 : List GivenBinding) → ReachesBindings s reads o2 shapes2 o2.systems.bindings given2 [] →
          asked_with s o o.systems.bindings ≡ asked_with s o2 o2.systems.bindings
      all_asked o2 shapes2 given2 reach = all_back (λ x xs gs. asked_with s x x.systems.bindings ≡ asked_with s o2 o2.systems.bindings) o2 shapes2 given2 reach refl

      pub no_binding_only : (n : ℕ) (in_mapping : Bool) (rule : Rule) (place : Place) (path : List ℕ) → BreaksBindingAlone o shapes given n in_mapping rule place →
          IsBindingToldIn s.directory o n in_mapping path → Agrees s reads (asked_with s o o.systems.bindings) (Fails path (Faulty rule place []))
      no_binding_only n in_mapping rule place path a told others other (NoOutline told2 flaw2 asked finding sys f finding_is) = absurd (outline_unflawed o others told2 flaw2 outline sys f)
      no_binding_only n in_mapping rule place path a told others other (NoShape o2 taken2 shapes2 c2 rest2 flaw2 asked finding reach f asked_is finding_is) =
          absurd (no_flaw o2 taken2 shapes2 c2 rest2 flaw2 reach f)
      no_binding_only n in_mapping rule place path a told others other (NoSet o2 shapes2 taken2 given2 b2 rest2 files2 path2 flaw2 asked finding reach f asked_is finding_is) = absurd (no_bad o2 shapes2 taken2 given2 b2 rest2 files2 path2 flaw2 reach f)
      no_binding_only n in_mapping rule place path a told others other (NoBinding o2 shapes2 given2 n2 in_mapping2 rule2 place2 path2 asked finding reach f told2 asked_is finding_is) =
          let only = a.only n2 in_mapping2 rule2 place2 (all_back (λ x xs gs. BreaksBinding x xs gs n2 in_mapping2 rule2 place2) o2 shapes2 given2 reach f) in
          let there = all_back (λ x xs gs. IsBindingToldIn s.directory x n2 in_mapping2 path2) o2 shapes2 given2 reach told2 in
          let here : IsBindingToldIn s.directory o n in_mapping path2 =
          subst (λ (m : ℕ). IsBindingToldIn s.directory o m in_mapping path2) (sym only.0) (subst (λ (x : Bool). IsBindingToldIn s.directory o n2 x path2) (sym only.1) there) in (
            all_asked o2 shapes2 given2 reach ∙ sym asked_is,
            subst (Agree (Fails path (Faulty rule place []))) (sym finding_is) (binding_told_once s.directory o n in_mapping path path2 told here, (only.2, only.3)),
          )
      no_binding_only n in_mapping rule place path a told others other (NoSystem o2 shapes2 given2 bound2 rule2 node2 ports2 asked finding reach binds2 f asked_is finding_is) = absurd (a.none bound2 (all_back (λ x xs gs. Binds x xs gs bound2) o2 shapes2 given2 reach binds2))
      no_binding_only n in_mapping rule place path a told others other (Whole o2 shapes2 given2 loaded2 asked finding reach binds2 f folders2 asked_is finding_is) =
          absurd (a.none loaded2.bound (all_back (λ x xs gs. Binds x xs gs loaded2.bound) o2 shapes2 given2 reach binds2))

      module _ (bound : Bound) (binds : BindsAlone o shapes given bound) where
        no_broken : (o2 : Outline) (shapes2 : List Shape) (given2 : List GivenBinding) (n2 : ℕ) (in_mapping2 : Bool) (rule2 : Rule) (place2 : Place) →
            ReachesBindings s reads o2 shapes2 o2.systems.bindings given2 [] → BreaksBinding o2 shapes2 given2 n2 in_mapping2 rule2 place2 → ⊥
        no_broken o2 shapes2 given2 n2 in_mapping2 rule2 place2 reach f =
            binds.none n2 in_mapping2 rule2 place2 (all_back (λ x xs gs. BreaksBinding x xs gs n2 in_mapping2 rule2 place2) o2 shapes2 given2 reach f)

        pub no_system_only : (rule : Rule) (node : ℕ) (ports : List PortId) → BreaksTogetherAlone o shapes rule node ports →
            Agrees s reads (asked_with s o o.systems.bindings) (Fails (told_in s.directory o node) (Faulty rule (place_in o node) ports))
        no_system_only rule node ports a others other (NoOutline told2 flaw2 asked finding sys f finding_is) = absurd (outline_unflawed o others told2 flaw2 outline sys f)
        no_system_only rule node ports a others other (NoShape o2 taken2 shapes2 c2 rest2 flaw2 asked finding reach f asked_is finding_is) =
            absurd (no_flaw o2 taken2 shapes2 c2 rest2 flaw2 reach f)
        no_system_only rule node ports a others other (NoSet o2 shapes2 taken2 given2 b2 rest2 files2 path2 flaw2 asked finding reach f asked_is finding_is) = absurd (no_bad o2 shapes2 taken2 given2 b2 rest2 files2 path2 flaw2 reach f)
        no_system_only rule node ports a others other (NoBinding o2 shapes2 given2 n2 in_mapping2 rule2 place2 path2 asked finding reach f told2 asked_is finding_is) = absurd (no_broken o2 shapes2 given2 n2 in_mapping2 rule2 place2 reach f)
        no_system_only rule node ports a others other (NoSystem o2 shapes2 given2 bound2 rule2 node2 ports2 asked finding reach binds2 f asked_is finding_is) =
            let only = a.only rule2 node2 ports2 (all_back (λ x xs gs. BreaksTogether x xs rule2 node2 ports2) o2 shapes2 given2 reach f) in
            let told : told_in s.directory o node2 ≡ told_in s.directory o2 node2 = all_back (λ x xs gs. told_in s.directory x node2 ≡ told_in s.directory o2 node2) o2 shapes2 given2 reach refl in
            let place : place_in o node2 ≡ place_in o2 node2 = all_back (λ x xs gs. place_in x node2 ≡ place_in o2 node2) o2 shapes2 given2 reach refl in (
              all_asked o2 shapes2 given2 reach ∙ sym asked_is,
              subst (Agree (Fails (told_in s.directory o node) (Faulty rule (place_in o node) ports))) (sym finding_is)
                  (ap (told_in s.directory o) only.1 ∙ told, (only.0, ap (place_in o) only.1 ∙ place)),
            )
        no_system_only rule node ports a others other (Whole o2 shapes2 given2 loaded2 asked finding reach binds2 f folders2 asked_is finding_is) = absurd (a.none loaded2.system (all_back (λ x xs gs. Makes x xs loaded2.system) o2 shapes2 given2 reach f))

      pub whole_only : (loaded : Loaded) → IsLoaded s.directory o shapes given loaded → Agrees s reads (asked_with s o o.systems.bindings) (Found loaded)
      whole_only loaded a others other (NoOutline told2 flaw2 asked finding sys f finding_is) = absurd (outline_unflawed o others told2 flaw2 outline sys f)
      whole_only loaded a others other (NoShape o2 taken2 shapes2 c2 rest2 flaw2 asked finding reach f asked_is finding_is) = absurd (no_flaw o2 taken2 shapes2 c2 rest2 flaw2 reach f)
      whole_only loaded a others other (NoSet o2 shapes2 taken2 given2 b2 rest2 files2 path2 flaw2 asked finding reach f asked_is finding_is) = absurd (no_bad o2 shapes2 taken2 given2 b2 rest2 files2 path2 flaw2 reach f)
      whole_only loaded a others other (NoBinding o2 shapes2 given2 n2 in_mapping2 rule2 place2 path2 asked finding reach f told2 asked_is finding_is) = absurd (no_broken loaded.bound a.binds o2 shapes2 given2 n2 in_mapping2 rule2 place2 reach f)
      whole_only loaded a others other (NoSystem o2 shapes2 given2 bound2 rule2 node2 ports2 asked finding reach binds2 f asked_is finding_is) =
          absurd (a.makes.none rule2 node2 ports2 (all_back (λ x xs gs. BreaksTogether x xs rule2 node2 ports2) o2 shapes2 given2 reach f))
      whole_only loaded a others other (Whole o2 shapes2 given2 loaded2 asked finding reach binds2 f folders2 asked_is finding_is) = (
        all_asked o2 shapes2 given2 reach ∙ sym asked_is,
        subst (Agree (Found loaded)) (sym finding_is) (
          a.makes.only loaded2.system (all_back (λ x xs gs. Makes x xs loaded2.system) o2 shapes2 given2 reach f),
          a.binds.only loaded2.bound (all_back (λ x xs gs. Binds x xs gs loaded2.bound) o2 shapes2 given2 reach binds2),
          a.folders ∙ sym (all_back (λ x xs gs. loaded2.folders ≡ folders_of s.directory x) o2 shapes2 given2 reach folders2),
        ),
      )

-- ---- alone

pub no_outline_alone : (s : Search) (reads : List ReadNote) (asked : List (List ℕ)) (told : List ℕ) (flaw : Flaw) → s.subject ≡ what.System →
    LacksOutline SaysStructure FailsStructure s.directory reads asked told flaw → ComesAlone s reads asked (Fails told flaw)
no_outline_alone s reads asked told flaw sys a = record {
  comes = NoOutline told flaw _ _ sys (lacks_plain s.directory reads asked told flaw a) refl;
  only = (λ steady. no_outline_only s reads steady asked told flaw sys a);
}

pub no_shape_alone : (s : Search) (reads : List ReadNote) (o : Outline) (taken : List ComponentPart) (shapes : List Shape) (c : ComponentPart) (rest : List ComponentPart) (flaw : Flaw) →
    ReachesAlone s reads o taken shapes (c ∷ rest) → LacksFile (FailsModel s.per_second) reads (model_path s.directory c) flaw →
    ComesAlone s reads (asked_for s o (taken ++ c ∷ [])) (Fails (model_path s.directory c) flaw)
no_shape_alone s reads o taken shapes c rest flaw a lacks = record {
  comes = NoShape o taken shapes c rest flaw _ _ (reached s reads o taken shapes (c ∷ rest) a)
      (is_flawed (IsModel s.per_second) (BreaksModel s.per_second) reads (model_path s.directory c) flaw lacks) refl refl;
  only = (λ steady. no_shape_only s reads steady o taken shapes c rest flaw a lacks);
}

-- the outline has these shapes, and the first bindings give what they give alone
pub record ReachesBindingsAlone (s : Search) (reads : List ReadNote) (o : Outline) (shapes : List Shape) (taken : List Binding) (given : List GivenBinding) (rest : List Binding) : Type 0 where
  pub outline : OutlinesAlone s.subject s.directory reads o
  pub shaped : AllZip (HasShapeAlone s.per_second s.directory reads) o.systems.components shapes
  pub is : o.systems.bindings ≡ taken ++ rest
  pub each : AllZip (IsGivenAlone s.directory reads o) taken given

pub reached_bindings : (s : Search) (reads : List ReadNote) (o : Outline) (shapes : List Shape) (taken : List Binding) (given : List GivenBinding) (rest : List Binding) →
    ReachesBindingsAlone s reads o shapes taken given rest → ReachesBindings s reads o shapes taken given rest
reached_bindings s reads o shapes taken given rest a = record {
  reaches = reached s reads o o.systems.components shapes [] (reached_all s reads o shapes a.outline a.shaped);
  is = a.is;
  each = zip_then (IsGivenAlone s.directory reads o) (IsGiven s.directory reads o) (λ b g h. is_given s reads o b g h) taken given a.each;
}

pub no_set_alone : (s : Search) (reads : List ReadNote) (o : Outline) (shapes : List Shape) (taken : List Binding) (given : List GivenBinding) (b : Binding) (rest : List Binding)
    (files : List (List ℕ)) (path : List ℕ) (flaw : Flaw) → ReachesBindingsAlone s reads o shapes taken given (b ∷ rest) → LacksBindingAlone s reads o b files path flaw →
    ComesAlone s reads (asked_with s o taken ++ files) (Fails path flaw)
no_set_alone s reads o shapes taken given b rest files path flaw a lacks = record {
  comes = NoSet o shapes taken given b rest files path flaw _ _ (reached_bindings s reads o shapes taken given (b ∷ rest) a) (lacks_binding s reads o b files path flaw lacks) refl refl;
  only = (λ steady. no_set_only s reads steady o shapes a.outline a.shaped taken given b rest files path flaw a.is a.each lacks);
}

-- all bindings give what they give alone
module _ (s : Search) (reads : List ReadNote) (o : Outline) (shapes : List Shape) (given : List GivenBinding) (a : ReachesBindingsAlone s reads o shapes o.systems.bindings given []) where
  reach_all : ReachesBindings s reads o shapes o.systems.bindings given []
  reach_all = reached_bindings s reads o shapes o.systems.bindings given [] a

  pub no_binding_alone : (n : ℕ) (in_mapping : Bool) (rule : Rule) (place : Place) (path : List ℕ) → BreaksBindingAlone o shapes given n in_mapping rule place →
      IsBindingToldIn s.directory o n in_mapping path → ComesAlone s reads (asked_with s o o.systems.bindings) (Fails path (Faulty rule place []))
  no_binding_alone n in_mapping rule place path broken told = record {
    comes = NoBinding o shapes given n in_mapping rule place path _ _ reach_all broken.broken told refl refl;
    only = (λ steady. no_binding_only s reads steady o shapes a.outline a.shaped given a.each n in_mapping rule place path broken told);
  }

  pub no_system_alone : (bound : Bound) (rule : Rule) (node : ℕ) (ports : List PortId) → BindsAlone o shapes given bound →
      BreaksTogetherAlone o shapes rule node ports → ComesAlone s reads (asked_with s o o.systems.bindings) (Fails (told_in s.directory o node) (Faulty rule (place_in o node) ports))
  no_system_alone bound rule node ports binds broken = record {
    comes = NoSystem o shapes given bound rule node ports _ _ reach_all binds.is broken.broken refl refl;
    only = (λ steady. no_system_only s reads steady o shapes a.outline a.shaped given a.each bound binds rule node ports broken);
  }

  pub whole_alone : (loaded : Loaded) → IsLoaded s.directory o shapes given loaded → ComesAlone s reads (asked_with s o o.systems.bindings) (Found loaded)
  whole_alone loaded l = record {
    comes = Whole o shapes given loaded _ _ reach_all l.binds.is l.makes.is l.folders refl refl;
    only = (λ steady. whole_only s reads steady o shapes a.outline a.shaped given a.each loaded l);
  }
