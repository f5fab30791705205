-- What some reads answered stands among more.
use Rattle.std.proofs.Common.{ℕ, List, [], ◌∷◌, ◌++◌, Option, Some, None}
use Rattle.std.specs.Prelude.{Result}
use Rattle.std.specs.List.{AllZip}
use Rattle.std.proofs.lemmas.List.Elements.{Contains-append_left, Contains-append_right}
use Rattle.sim_base.specs.Path.{joined_path}
use Rattle.sim_base.specs.declared.folder.ReadFault.{ReadFault}
use Rattle.sim_base.specs.declared.read_book.ReadNote.{ReadNote}
use Rattle.doc_tree.specs.declared.place.Place.{Place}
use Rattle.doc_tree.specs.declared.rule.Rule.{Rule}
use Rattle.value_types.specs.declared.shape.Shape.{Shape}
use Rattle.ssd_tree.specs.declared.tree.Binding.{Binding}
use Rattle.ssd_tree.specs.declared.tree.ComponentPart.{ComponentPart}
use Rattle.ssd_tree.specs.declared.tree.Origin.{Origin}
use Rattle.ssd_tree.specs.declared.tree.Origin.TheVariants.{File, Inline}
use Rattle.ssd_tree.specs.declared.tree.Owner.{Owner}
use Rattle.ssd_tree.specs.declared.tree.Setting.{Setting}
use Rattle.nested_documents.specs.declared.nest.TheConstants.{OUTERMOST}
use Rattle.nested_documents.specs.States.{Gathered}
use Rattle.system_loading.specs.declared.documents.SystemDocument.{SystemDocument}
use Rattle.system_loading.specs.declared.outline.Outline.{Outline}
use Rattle.system_loading.specs.declared.parameters.GivenBinding.{GivenBinding}
use Rattle.system_loading.specs.declared.parameters.GivenMapping.{GivenMapping}
use Rattle.system_loading.specs.declared.parameters.GivenSet.{GivenSet}
use Rattle.system_loading.specs.Documents.{Said}
use Rattle.system_files.specs.declared.subject.Subject.{Subject}
use Rattle.system_files.specs.declared.subject.Subject.TheVariants as what
use Rattle.system_files.specs.Documents.{AtDocument, AtNesting, ComesDocument, ComesNext, ComesTop, Gathers, GathersAll, LacksOutline, Nested, Outermost, top_path}
use Rattle.system_files.specs.Files.{Flaw, HasFile, Holds, LacksFile}
use Rattle.system_files.specs.Order.{IsPart, Search, model_path, part_path}
use Rattle.system_files.specs.Steps.{HasShapeAlone, IsGivenAlone, IsMappingAlone, IsValuesAlone, OutlinesAlone, SaysMapping, SaysMappingWithin, SaysStructure, SaysValues, SaysValuesWithin}
use Rattle.system_files.proofs.ListLemmas.{zip_then}
use Rattle.system_files.proofs.OnlyLemmas.{ReachesAlone, ReachesBindingsAlone}

-- these reads are among those
abbrev pub AreAmong : List ReadNote → List ReadNote → Type 0
AreAmong some all = (path : List ℕ) (answer : Result (List ℕ) ReadFault) → Holds some path answer → Holds all path answer

pub among_left : (some more : List ReadNote) → AreAmong some (some ++ more)
among_left some more = λ path answer h. Contains-append_left some more (record { path = path; answer = answer }) h

pub among_right : (before some : List ReadNote) → AreAmong some (before ++ some)
among_right before some = λ path answer h. Contains-append_right before some (record { path = path; answer = answer }) h

module _ (some all : List ReadNote) (among : AreAmong some all) where
  pub more_file : {A : Type 0} (Says : List ℕ → A → Type 0) (path : List ℕ) (said : A) → HasFile Says some path said → HasFile Says all path said
  more_file Says path said h = (h.0, among path h.0 h.1, h.2)

  pub more_flaw : (Breaks : List ℕ → Rule → Place → Type 0) (path : List ℕ) (flaw : Flaw) → LacksFile Breaks some path flaw → LacksFile Breaks all path flaw
  more_flaw Breaks path flaw h = (h.0, among path h.0 h.1, h.2)

  pub more_shape : (per_second : ℕ) (directory : List ℕ) (c : ComponentPart) (shape : Shape) → HasShapeAlone per_second directory some c shape → HasShapeAlone per_second directory all c shape
  more_shape per_second directory c shape h = (h.0, among (model_path directory c) h.0 h.1, h.2)

  pub more_shapes : (per_second : ℕ) (directory : List ℕ) (cs : List ComponentPart) (shapes : List Shape) → AllZip (HasShapeAlone per_second directory some) cs shapes →
      AllZip (HasShapeAlone per_second directory all) cs shapes
  more_shapes per_second directory [] [] h = h
  more_shapes per_second directory [] (s ∷ shapes) h = absurd h
  more_shapes per_second directory (c ∷ cs) [] h = absurd h
  more_shapes per_second directory (c ∷ cs) (s ∷ shapes) h = (more_shape per_second directory c s h.0, more_shapes per_second directory cs shapes h.1)

  pub more_part : {A : Type 0} (Says : List ℕ → A → Type 0) (Within : Outline → ℕ → A → Type 0) (directory : List ℕ) (o : Outline) (owner : Owner) (origin : Origin) (given : A) →
      IsPart Says Within directory some o owner origin given → IsPart Says Within directory all o owner origin given
  more_part Says Within directory o owner (File base path) given h = more_file Says (part_path directory o owner base path) given h
  more_part Says Within directory o owner (Inline node) given h = h

  more_mapping : (directory : List ℕ) (o : Outline) (owner : Owner) (origin : Option Origin) (given : Option GivenMapping) →
      IsMappingAlone directory some o owner origin given → IsMappingAlone directory all o owner origin given
  more_mapping directory o owner None None h = h
  more_mapping directory o owner None (Some given) h = absurd h
  more_mapping directory o owner (Some origin) None h = absurd h
  more_mapping directory o owner (Some origin) (Some given) h = more_part SaysMapping SaysMappingWithin directory o owner origin given h

  pub more_given : (directory : List ℕ) (o : Outline) (b : Binding) (given : GivenBinding) → IsGivenAlone directory some o b given → IsGivenAlone directory all o b given
  more_given directory o b given h = record {
    values = more_part SaysValues SaysValuesWithin directory o b.owner b.values given.values h.values;
    mapping = more_mapping directory o b.owner b.mapping given.mapping h.mapping;
    range = h.range;
  }

  pub more_gathers : (Says : Setting → List ℕ → Said → Type 0) (directory : List ℕ) (documents : List SystemDocument) (g : Gathered) → Gathers Says directory some documents g → Gathers Says directory all documents g
  more_gathers Says directory documents g (Outermost said _ _ tells begins) = Outermost said documents g (more_file (Says OUTERMOST) (joined_path directory top_path) said tells) begins
  more_gathers Says directory documents g (Nested before old path s said _ _ gathers comes tells adds) =
      Nested before old path s said documents g (more_gathers Says directory before old gathers) comes (more_file (Says s) (joined_path directory path) said tells) adds

  pub more_gathered : (Says : Setting → List ℕ → Said → Type 0) (directory : List ℕ) (o : Outline) → GathersAll Says directory some o → GathersAll Says directory all o
  more_gathered Says directory o a =
      record { documents = a.documents; last = a.last; gathers = more_gathers Says directory a.documents a.last a.gathers; all = a.all; is = a.is }

  pub more_document : (Says : Setting → List ℕ → Said → Type 0) (directory : List ℕ) (documents : List SystemDocument) (path : List ℕ) (s : Setting) → ComesDocument Says directory some documents path s →
      ComesDocument Says directory all documents path s
  more_document Says directory documents path s (ComesTop _ _ _ none path_is s_is) = ComesTop documents path s none path_is s_is
  more_document Says directory documents path s (ComesNext _ _ _ g gathers comes) = ComesNext documents path s g (more_gathers Says directory documents g gathers) comes

  pub more_lacks : (Says : Setting → List ℕ → Said → Type 0) (Breaks : Setting → List ℕ → Rule → Place → Type 0) (directory : List ℕ) (asked : List (List ℕ)) (told : List ℕ) (flaw : Flaw) →
      LacksOutline Says Breaks directory some asked told flaw → LacksOutline Says Breaks directory all asked told flaw
  more_lacks Says Breaks directory asked told flaw (AtDocument documents path s _ _ _ comes lacks asked_is told_is) =
      AtDocument documents path s asked told flaw (more_document Says directory documents path s comes) (more_flaw (Breaks s) (joined_path directory path) flaw lacks) asked_is told_is
  more_lacks Says Breaks directory asked told flaw (AtNesting documents g place rule _ _ _ gathers stands asked_is told_is flaw_is) =
      AtNesting documents g place rule asked told flaw (more_gathers Says directory documents g gathers) stands asked_is told_is flaw_is

  pub more_outline : (subject : Subject) (directory : List ℕ) (o : Outline) → OutlinesAlone subject directory some o → OutlinesAlone subject directory all o
  more_outline what.Fmu directory o h = h
  more_outline what.System directory o h = more_gathered SaysStructure directory o h

  pub more_values : (directory : List ℕ) (o : Outline) (b : Binding) (given : GivenSet) → IsValuesAlone directory some o b.owner b.values given → IsValuesAlone directory all o b.owner b.values given
  more_values directory o b given h = more_part SaysValues SaysValuesWithin directory o b.owner b.values given h

  pub all_given : (directory : List ℕ) (o : Outline) (bs : List Binding) (given : List GivenBinding) → AllZip (IsGivenAlone directory some o) bs given →
      AllZip (IsGivenAlone directory all o) bs given
  all_given directory o bs given each = zip_then (IsGivenAlone directory some o) (IsGivenAlone directory all o) (λ b g h. more_given directory o b g h) bs given each

  pub more_reached : (s : Search) (o : Outline) (taken : List ComponentPart) (shapes : List Shape) (rest : List ComponentPart) → ReachesAlone s some o taken shapes rest →
      ReachesAlone s all o taken shapes rest
  more_reached s o taken shapes rest h = record {
    outline = more_outline s.subject s.directory o h.outline;
    is = h.is;
    each = more_shapes s.per_second s.directory taken shapes h.each;
  }

  pub more_bindings : (s : Search) (o : Outline) (shapes : List Shape) (taken : List Binding) (given : List GivenBinding) (rest : List Binding) →
      ReachesBindingsAlone s some o shapes taken given rest → ReachesBindingsAlone s all o shapes taken given rest
  more_bindings s o shapes taken given rest h = record {
    outline = more_outline s.subject s.directory o h.outline;
    shaped = more_shapes s.per_second s.directory o.systems.components shapes h.shaped;
    is = h.is;
    each = all_given s.directory o taken given h.each;
  }
