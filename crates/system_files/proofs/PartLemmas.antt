-- A part of a binding is found in one way, and so is what a binding gives.
use Rattle.std.proofs.Common.{◌≡◌, ℕ, List, [], Option, Some, None, refl, sym, ap, ap₂, ◌∙◌, subst}
use Rattle.sim_base.specs.declared.read_book.ReadNote.{ReadNote}
use Rattle.doc_tree.specs.declared.place.Place.{Place}
use Rattle.doc_tree.specs.declared.rule.Rule.{Rule}
use Rattle.ssd_tree.specs.declared.tree.Binding.{Binding}
use Rattle.ssd_tree.specs.declared.tree.Origin.{Origin}
use Rattle.ssd_tree.specs.declared.tree.Origin.TheVariants.{File, Inline}
use Rattle.ssd_tree.specs.declared.tree.Owner.{Owner}
use Rattle.system_loading.specs.declared.outline.Outline.{Outline}
use Rattle.system_loading.specs.declared.parameters.GivenBinding.{GivenBinding}
use Rattle.system_loading.specs.declared.parameters.GivenMapping.{GivenMapping}
use Rattle.system_loading.specs.declared.parameters.GivenSet.{GivenSet}
use Rattle.system_loading.specs.Readings.{BreaksAlone, BreaksMapping, BreaksMappingWithin, BreaksValues, BreaksValuesWithin, IsMapping, IsMappingWithin, IsValues, IsValuesWithin, SaysAlone}
use Rattle.system_files.specs.Files.{AreSteady, Faulty, Flaw}
use Rattle.system_files.specs.Order.{AreAlike, InMapping, InValues, IsGiven, IsMappingPart, IsPart, IsValuesPart, LacksBinding, LacksPart, Search, binding_files, part_files, part_path, part_told}
use Rattle.system_files.specs.Steps.{FailsMapping, FailsMappingWithin, FailsValues, FailsValuesWithin, IsGivenAlone, IsMappingAlone, IsValuesAlone}
use Rattle.system_files.proofs.FileLemmas.{flawed_once, flawed_unsaid, is_flawed, is_said, said_once, said_unflawed}

-- ---- one part

module _ {A : Type 0} (Says : List ℕ → A → Type 0) (Breaks : List ℕ → Rule → Place → Type 0) (Within : Outline → ℕ → A → Type 0) (Spoils : Outline → ℕ → Rule → Place → Type 0)
    (directory : List ℕ) (reads : List ReadNote) (o : Outline) (owner : Owner) where
  abbrev Alone : Origin → A → Type 0
  Alone origin given = IsPart (λ bytes a. SaysAlone (Says bytes) (Breaks bytes) a) (λ x node a. SaysAlone (Within x node) (Spoils x node) a) directory reads o owner origin given

  abbrev Lacks : Origin → Flaw → Type 0
  Lacks origin flaw =
      LacksPart (λ bytes rule place. BreaksAlone (Says bytes) (Breaks bytes) rule place) (λ x node rule place. BreaksAlone (Within x node) (Spoils x node) rule place) directory reads o owner origin flaw

  -- what is found alone is found
  pub is_part : (origin : Origin) (given : A) → Alone origin given → IsPart Says Within directory reads o owner origin given
  is_part (File base path) given h = is_said Says Breaks reads (part_path directory o owner base path) given h
  is_part (Inline node) given h = h.is

  pub lacks_part : (origin : Origin) (flaw : Flaw) → Lacks origin flaw → LacksPart Breaks Spoils directory reads o owner origin flaw
  lacks_part (File base path) flaw h = is_flawed Says Breaks reads (part_path directory o owner base path) flaw h
  lacks_part (Inline node) flaw h = (h.0, (h.1.0, h.1.1.broken, h.1.2))

  module _ (steady : AreSteady reads) where
    pub part_once : (origin : Origin) (one other : A) → Alone origin one → IsPart Says Within directory reads o owner origin other → one ≡ other
    part_once (File base path) one other a f = said_once Says Breaks reads steady (part_path directory o owner base path) one other a f
    part_once (Inline node) one other a f = a.only other f

    pub part_sound : (origin : Origin) (given : A) (flaw : Flaw) → Alone origin given → LacksPart Breaks Spoils directory reads o owner origin flaw → ⊥
    part_sound (File base path) given flaw a f = said_unflawed Says Breaks reads steady (part_path directory o owner base path) given flaw a f
    part_sound (Inline node) given flaw a f = a.none f.0 f.1.0 f.1.1

    pub part_stop : (origin : Origin) (given : A) (flaw : Flaw) → Lacks origin flaw → IsPart Says Within directory reads o owner origin given → ⊥
    part_stop (File base path) given flaw a f = flawed_unsaid Says Breaks reads steady (part_path directory o owner base path) given flaw a f
    part_stop (Inline node) given flaw a f = a.1.1.none given f

    pub flaw_once : (origin : Origin) (one other : Flaw) → Lacks origin one → LacksPart Breaks Spoils directory reads o owner origin other → AreAlike one other
    flaw_once (File base path) one other a f = flawed_once Says Breaks reads steady (part_path directory o owner base path) one other a f
    flaw_once (Inline node) one other a f =
        subst (λ (flaw : Flaw). AreAlike flaw other) (sym a.1.2) (subst (AreAlike (Faulty a.0 a.1.0 [])) (sym f.1.2) (a.1.1.only f.0 f.1.0 f.1.1))

-- ---- a binding

-- its values aren't taken alone, or its mapping isn't
pub data LacksBindingAlone (s : Search) (reads : List ReadNote) (o : Outline) (b : Binding) : List (List ℕ) → List ℕ → Flaw → Type 0 where
  InValuesAlone : (files : List (List ℕ)) (path : List ℕ) (flaw : Flaw) → LacksPart FailsValues FailsValuesWithin s.directory reads o b.owner b.values flaw →
      files ≡ part_files s.directory o b.owner b.values → path ≡ part_told s.directory o b.owner b.values → LacksBindingAlone s reads o b files path flaw
  InMappingAlone : (origin : Origin) (given : GivenSet) (files : List (List ℕ)) (path : List ℕ) (flaw : Flaw) →
      IsValuesAlone s.directory reads o b.owner b.values given → b.mapping ≡ Some origin →
      LacksPart FailsMapping FailsMappingWithin s.directory reads o b.owner origin flaw → files ≡ binding_files s.directory o b →
      path ≡ part_told s.directory o b.owner origin → LacksBindingAlone s reads o b files path flaw

module _ (s : Search) (reads : List ReadNote) (o : Outline) (b : Binding) where
  pub is_values : (given : GivenSet) → IsValuesAlone s.directory reads o b.owner b.values given → IsValuesPart s.directory reads o b.owner b.values given
  is_values given h = is_part IsValues BreaksValues IsValuesWithin BreaksValuesWithin s.directory reads o b.owner b.values given h

  pub lacks_binding : (files : List (List ℕ)) (path : List ℕ) (flaw : Flaw) → LacksBindingAlone s reads o b files path flaw → LacksBinding s reads o b files path flaw
  lacks_binding files path flaw (InValuesAlone f p x h files_is path_is) =
      InValues files path flaw (lacks_part IsValues BreaksValues IsValuesWithin BreaksValuesWithin s.directory reads o b.owner b.values flaw h) files_is path_is
  lacks_binding files path flaw (InMappingAlone origin given f p x v m h files_is path_is) =
      InMapping origin given files path flaw (is_values given v) m
      (lacks_part IsMapping BreaksMapping IsMappingWithin BreaksMappingWithin s.directory reads o b.owner origin flaw h) files_is path_is

  is_mapping : (origin : Option Origin) (given : Option GivenMapping) → IsMappingAlone s.directory reads o b.owner origin given → IsMappingPart s.directory reads o b.owner origin given
  is_mapping None None h = tt
  is_mapping None (Some given) h = absurd h
  is_mapping (Some origin) None h = absurd h
  is_mapping (Some origin) (Some given) h = is_part IsMapping BreaksMapping IsMappingWithin BreaksMappingWithin s.directory reads o b.owner origin given h

  pub is_given : (given : GivenBinding) → IsGivenAlone s.directory reads o b given → IsGiven s.directory reads o b given
  is_given given h = record { values = is_values given.values h.values; mapping = is_mapping b.mapping given.mapping h.mapping }

  module _ (steady : AreSteady reads) where
    mapping_once : (origin : Option Origin) (one other : Option GivenMapping) → IsMappingAlone s.directory reads o b.owner origin one → IsMappingPart s.directory reads o b.owner origin other → one ≡ other
    mapping_once None None None a f = refl
    mapping_once None None (Some other) a f = absurd f
    mapping_once None (Some one) other a f = absurd a
    mapping_once (Some origin) None other a f = absurd a
    mapping_once (Some origin) (Some one) None a f = absurd f
    mapping_once (Some origin) (Some one) (Some other) a f =
        ap Some (part_once IsMapping BreaksMapping IsMappingWithin BreaksMappingWithin s.directory reads o b.owner steady origin one other a f)

    pub given_once : (one other : GivenBinding) → IsGivenAlone s.directory reads o b one → IsGiven s.directory reads o b other → one ≡ other
    given_once one other a f =
        ap₂ (λ (values : GivenSet) (mapping : Option GivenMapping). record { values = values; mapping = mapping })
        (part_once IsValues BreaksValues IsValuesWithin BreaksValuesWithin s.directory reads o b.owner steady b.values one.values other.values a.values f.values)
        (mapping_once b.mapping one.mapping other.mapping a.mapping f.mapping)

    mapping_sound : (origin : Origin) (given : Option GivenMapping) (flaw : Flaw) → IsMappingAlone s.directory reads o b.owner (Some origin) given →
        LacksPart BreaksMapping BreaksMappingWithin s.directory reads o b.owner origin flaw → ⊥
    mapping_sound origin None flaw a f = absurd a
    mapping_sound origin (Some given) flaw a f = part_sound IsMapping BreaksMapping IsMappingWithin BreaksMappingWithin s.directory reads o b.owner steady origin given flaw a f

    pub given_sound : (given : GivenBinding) (files : List (List ℕ)) (path : List ℕ) (flaw : Flaw) → IsGivenAlone s.directory reads o b given → LacksBinding s reads o b files path flaw → ⊥
    given_sound given files path flaw a (InValues f p x h files_is path_is) =
        part_sound IsValues BreaksValues IsValuesWithin BreaksValuesWithin s.directory reads o b.owner steady b.values given.values flaw a.values h
    given_sound given files path flaw a (InMapping origin set f p x v m h files_is path_is) =
        mapping_sound origin given.mapping flaw (subst (λ (x : Option Origin). IsMappingAlone s.directory reads o b.owner x given.mapping) m a.mapping) h

    mapping_stop : (origin : Origin) (given : Option GivenMapping) (flaw : Flaw) → LacksPart FailsMapping FailsMappingWithin s.directory reads o b.owner origin flaw →
        IsMappingPart s.directory reads o b.owner (Some origin) given → ⊥
    mapping_stop origin None flaw a f = absurd f
    mapping_stop origin (Some given) flaw a f = part_stop IsMapping BreaksMapping IsMappingWithin BreaksMappingWithin s.directory reads o b.owner steady origin given flaw a f

    pub binding_stop : (given : GivenBinding) (files : List (List ℕ)) (path : List ℕ) (flaw : Flaw) → LacksBindingAlone s reads o b files path flaw → IsGiven s.directory reads o b given → ⊥
    binding_stop given files path flaw (InValuesAlone f p x h files_is path_is) g =
        part_stop IsValues BreaksValues IsValuesWithin BreaksValuesWithin s.directory reads o b.owner steady b.values given.values flaw h g.values
    binding_stop given files path flaw (InMappingAlone origin set f p x v m h files_is path_is) g =
        mapping_stop origin given.mapping flaw h (subst (λ (x : Option Origin). IsMappingPart s.directory reads o b.owner x given.mapping) m g.mapping)

    same_origin : (one other : Origin) → b.mapping ≡ Some one → b.mapping ≡ Some other → one ≡ other
    same_origin one other a b = cc

    pub binding_once : (files more : List (List ℕ)) (path there : List ℕ) (flaw other : Flaw) → LacksBindingAlone s reads o b files path flaw → LacksBinding s reads o b more there other →
        (files ≡ more) × (path ≡ there) × AreAlike flaw other
    binding_once files more path there flaw other (InValuesAlone f1 p1 x1 a files_is path_is) (InValues f2 p2 x2 h more_is there_is) = (
      files_is ∙ sym more_is,
      path_is ∙ sym there_is,
      flaw_once IsValues BreaksValues IsValuesWithin BreaksValuesWithin s.directory reads o b.owner steady b.values flaw other a h,
    )
    binding_once files more path there flaw other (InValuesAlone f1 p1 x1 a files_is path_is) (InMapping origin set f2 p2 x2 v m h more_is there_is) =
        absurd (part_stop IsValues BreaksValues IsValuesWithin BreaksValuesWithin s.directory reads o b.owner steady b.values set flaw a v)
    binding_once files more path there flaw other (InMappingAlone origin set f1 p1 x1 v m a files_is path_is) (InValues f2 p2 x2 h more_is there_is) =
        absurd (part_sound IsValues BreaksValues IsValuesWithin BreaksValuesWithin s.directory reads o b.owner steady b.values set other v h)
    binding_once files more path there flaw other (InMappingAlone origin set f1 p1 x1 v m a files_is path_is) (InMapping origin2 set2 f2 p2 x2 v2 m2 h more_is there_is) =
        let same : origin2 ≡ origin = same_origin origin2 origin m2 m in (
          files_is ∙ sym more_is,
          path_is ∙ ap (part_told s.directory o b.owner) (sym same) ∙ sym there_is,
          flaw_once IsMapping BreaksMapping IsMappingWithin BreaksMappingWithin s.directory reads o b.owner steady origin flaw other a
              (subst (λ (x : Origin). LacksPart BreaksMapping BreaksMappingWithin s.directory reads o b.owner x other) same h),
        )
