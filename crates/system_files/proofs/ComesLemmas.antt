-- What reads come to, they come to among more.
use Rattle.std.proofs.Common.{ℕ, List, Option, Some, None}
use Rattle.sim_base.specs.declared.read_book.ReadNote.{ReadNote}
use Rattle.doc_tree.specs.declared.place.Place.{Place}
use Rattle.doc_tree.specs.declared.rule.Rule.{Rule}
use Rattle.value_types.specs.declared.shape.Shape.{Shape}
use Rattle.ssd_tree.specs.declared.tree.Binding.{Binding}
use Rattle.ssd_tree.specs.declared.tree.ComponentPart.{ComponentPart}
use Rattle.ssd_tree.specs.declared.tree.Origin.{Origin}
use Rattle.ssd_tree.specs.declared.tree.Origin.TheVariants.{File, Inline}
use Rattle.ssd_tree.specs.declared.tree.Owner.{Owner}
use Rattle.system_loading.specs.declared.outline.Outline.{Outline}
use Rattle.system_loading.specs.declared.parameters.GivenBinding.{GivenBinding}
use Rattle.system_loading.specs.declared.parameters.GivenMapping.{GivenMapping}
use Rattle.system_loading.specs.Documents.{BreaksStructure, IsStructure}
use Rattle.system_loading.specs.Readings.{IsMapping, IsMappingWithin, IsModel, IsValues, IsValuesWithin, BreaksMapping, BreaksMappingWithin, BreaksModel, BreaksValues, BreaksValuesWithin}
use Rattle.system_files.specs.declared.subject.Subject.{Subject}
use Rattle.system_files.specs.declared.subject.Subject.TheVariants as what
use Rattle.system_files.specs.Files.{Flaw}
use Rattle.system_files.specs.Order.{Comes, Finding, HasShape, InMapping, InValues, IsGiven, IsMappingPart, LacksBinding, LacksPart, NoBinding, NoOutline, NoSet, NoShape, NoSystem, Outlines, ReachesShapes, ReachesBindings, Search, Whole, model_path, part_path}
use Rattle.system_files.proofs.ListLemmas.{zip_then}
use Rattle.system_files.proofs.MoreLemmas.{AreAmong, more_file, more_flaw, more_gathered, more_lacks, more_part}

module _ (some all : List ReadNote) (among : AreAmong some all) where
  outlines : (subject : Subject) (directory : List ℕ) (o : Outline) → Outlines subject directory some o → Outlines subject directory all o
  outlines what.Fmu directory o h = h
  outlines what.System directory o h = more_gathered some all among IsStructure directory o h

  has_shape : (s : Search) (c : ComponentPart) (shape : Shape) → HasShape s some c shape → HasShape s all c shape
  has_shape s c shape h = more_file some all among (IsModel s.per_second) (model_path s.directory c) shape h

  reaches : (s : Search) (o : Outline) (taken : List ComponentPart) (shapes : List Shape) (rest : List ComponentPart) → ReachesShapes s some o taken shapes rest → ReachesShapes s all o taken shapes rest
  reaches s o taken shapes rest h = record {
    outline = outlines s.subject s.directory o h.outline;
    is = h.is;
    each = zip_then (HasShape s some) (HasShape s all) (λ c shape x. has_shape s c shape x) taken shapes h.each;
  }

  mapping_part : (directory : List ℕ) (o : Outline) (owner : Owner) (origin : Option Origin) (given : Option GivenMapping) →
      IsMappingPart directory some o owner origin given → IsMappingPart directory all o owner origin given
  mapping_part directory o owner None None h = h
  mapping_part directory o owner None (Some given) h = absurd h
  mapping_part directory o owner (Some origin) None h = absurd h
  mapping_part directory o owner (Some origin) (Some given) h = more_part some all among IsMapping IsMappingWithin directory o owner origin given h

  is_given : (directory : List ℕ) (o : Outline) (b : Binding) (given : GivenBinding) → IsGiven directory some o b given → IsGiven directory all o b given
  is_given directory o b given h = record {
    values = more_part some all among IsValues IsValuesWithin directory o b.owner b.values given.values h.values;
    mapping = mapping_part directory o b.owner b.mapping given.mapping h.mapping;
  }

  reaches_bindings : (s : Search) (o : Outline) (shapes : List Shape) (taken : List Binding) (given : List GivenBinding) (rest : List Binding) →
      ReachesBindings s some o shapes taken given rest → ReachesBindings s all o shapes taken given rest
  reaches_bindings s o shapes taken given rest h = record {
    reaches = reaches s o o.systems.components shapes _ h.reaches;
    is = h.is;
    each = zip_then (IsGiven s.directory some o) (IsGiven s.directory all o) (λ b g x. is_given s.directory o b g x) taken given h.each;
  }

  lacks_part : (Breaks : List ℕ → Rule → Place → Type 0) (Within : Outline → ℕ → Rule → Place → Type 0) (directory : List ℕ) (o : Outline) (owner : Owner) (origin : Origin) (flaw : Flaw) →
      LacksPart Breaks Within directory some o owner origin flaw → LacksPart Breaks Within directory all o owner origin flaw
  lacks_part Breaks Within directory o owner (File base path) flaw h = more_flaw some all among Breaks (part_path directory o owner base path) flaw h
  lacks_part Breaks Within directory o owner (Inline node) flaw h = h

  lacks_binding : (s : Search) (o : Outline) (b : Binding) (files : List (List ℕ)) (path : List ℕ) (flaw : Flaw) → LacksBinding s some o b files path flaw → LacksBinding s all o b files path flaw
  lacks_binding s o b files path flaw (InValues f p x h files_is path_is) = InValues f p x (lacks_part BreaksValues BreaksValuesWithin s.directory o b.owner b.values x h) files_is path_is
  lacks_binding s o b files path flaw (InMapping origin set f p x v m h files_is path_is) =
      InMapping origin set f p x (more_part some all among IsValues IsValuesWithin s.directory o b.owner b.values set v) m
      (lacks_part BreaksMapping BreaksMappingWithin s.directory o b.owner origin x h) files_is path_is

  pub more_comes : (s : Search) (asked : List (List ℕ)) (finding : Finding) → Comes s some asked finding → Comes s all asked finding
  more_comes s asked finding (NoOutline told flaw a f subject lacks is) = NoOutline told flaw a f subject (more_lacks some all among IsStructure BreaksStructure s.directory a told flaw lacks) is
  more_comes s asked finding (NoShape o taken shapes c rest flaw a f h lacks asks is) =
      NoShape o taken shapes c rest flaw a f (reaches s o taken shapes _ h) (more_flaw some all among (BreaksModel s.per_second) (model_path s.directory c) flaw lacks) asks is
  more_comes s asked finding (NoSet o shapes taken given b rest files path flaw a f h lacks asks is) =
      NoSet o shapes taken given b rest files path flaw a f (reaches_bindings s o shapes taken given _ h) (lacks_binding s o b files path flaw lacks) asks is
  more_comes s asked finding (NoBinding o shapes given n in_mapping rule place path a f h broken told asks is) =
      NoBinding o shapes given n in_mapping rule place path a f (reaches_bindings s o shapes o.systems.bindings given _ h) broken told asks is
  more_comes s asked finding (NoSystem o shapes given bound rule node ports a f h binds broken asks is) =
      NoSystem o shapes given bound rule node ports a f (reaches_bindings s o shapes o.systems.bindings given _ h) binds broken asks is
  more_comes s asked finding (Whole o shapes given loaded a f h binds makes folders asks is) =
      Whole o shapes given loaded a f (reaches_bindings s o shapes o.systems.bindings given _ h) binds makes folders asks is
