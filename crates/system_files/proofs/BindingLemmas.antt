-- What bindings give, one binding after another.
use Rattle.std.proofs.Common.{◌≡◌, ◌<◌, ◌≤◌, ◌+◌, ℕ, List, [], ◌∷◌, ◌++◌, length, take, drop, get_or, Option, Some, None, sym, ap, ◌∙◌, subst, append-nil}
use Rattle.std.specs.List.{flat_map}
use Rattle.std.proofs.lemmas.List.{length-take-le}
use Rattle.std.proofs.lemmas.Slice.Zip.{AllZip-long}
use Rattle.sim_base.specs.Asking.{Asks}
use Rattle.sim_base.specs.Folder.{FolderView}
use Rattle.doc_tree.specs.declared.place.Place.{Place}
use Rattle.doc_tree.specs.declared.rule.Rule.{Rule}
use Rattle.ssd_tree.specs.declared.tree.Binding.{Binding}
use Rattle.ssd_tree.specs.declared.tree.Origin.{Origin}
use Rattle.system_loading.specs.declared.fault.Fault.{Fault}
use Rattle.system_loading.specs.declared.fault.Fault.TheVariants as f
use Rattle.system_loading.specs.declared.outline.Outline.{Outline}
use Rattle.system_loading.specs.declared.parameters.GivenBinding.{GivenBinding}
use Rattle.system_loading.specs.declared.parameters.GivenMapping.{GivenMapping}
use Rattle.system_loading.specs.declared.parameters.GivenSet.{GivenSet}
use Rattle.parameter_values.specs.Ranges.{AreInRange}
use Rattle.system_loading.specs.Faults.{TellsFirst}
use Rattle.system_loading.specs.Readings.{BreaksAlone}
use Rattle.system_files.specs.declared.loading.LoadError.{LoadError}
use Rattle.system_files.specs.declared.loading.LoadError.TheVariants as end
use Rattle.system_files.specs.Order.{binding_files, mapping_files, part_files}
use Rattle.system_files.specs.Steps.{AtBinding, EndsBinding, EndsBindings, EndsWithin, IsGivenAlone, IsMappingAlone, SaysMapping, SaysMappingWithin, TakesBinding, TakesBindings, TakesPart, TakesValues, TellsWithin}
use Rattle.system_files.proofs.AskLemmas.{asked_then, none_asked}
use Rattle.system_files.proofs.ListLemmas.{flat_map_more, one_more, parted, zip_push}
use Rattle.system_files.proofs.MoreLemmas.{all_given, among_left, among_right, more_given, more_part, more_values}

-- ---- one binding

module _ (directory : List ℕ) (o : Outline) (b : Binding) (values : GivenSet) (old mid : FolderView) (takes : TakesValues directory o b values old mid) (range : AreInRange values.set) where
  -- without a mapping
  pub values_alone : b.mapping ≡ None → TakesBinding directory o b (record { values = values; mapping = None }) old mid
  values_alone none = record {
    reads = takes.reads;
    gives = record {
      values = takes.is;
      mapping = subst (λ (x : Option Origin). IsMappingAlone directory takes.reads o b.owner x None) (sym none) tt;
      range = range;
    };
    asks = subst (λ (paths : List (List ℕ)). Asks takes.reads paths old mid)
        (sym (append-nil (part_files directory o b.owner b.values)) ∙ ap (λ (x : Option Origin). part_files directory o b.owner b.values ++ mapping_files directory o b.owner x) (sym none)) takes.asks;
  }

  -- with one
  pub values_mapped : (origin : Origin) (mapping : GivenMapping) (new : FolderView) → b.mapping ≡ Some origin → TakesPart SaysMapping SaysMappingWithin directory o b.owner origin mapping mid new →
      TakesBinding directory o b (record { values = values; mapping = Some mapping }) old new
  values_mapped origin mapping new some h = record {
    reads = takes.reads ++ h.reads;
    gives = record {
      values = more_values takes.reads (takes.reads ++ h.reads) (among_left takes.reads h.reads) directory o b values takes.is;
      mapping = subst (λ (x : Option Origin). IsMappingAlone directory (takes.reads ++ h.reads) o b.owner x (Some mapping)) (sym some)
          (more_part h.reads (takes.reads ++ h.reads) (among_right takes.reads h.reads) SaysMapping SaysMappingWithin directory o b.owner origin mapping h.is);
      range = range;
    };
    asks = subst (λ (paths : List (List ℕ)). Asks (takes.reads ++ h.reads) paths old new)
        (ap (λ (x : Option Origin). part_files directory o b.owner b.values ++ mapping_files directory o b.owner x) (sym some))
        (asked_then old mid new takes.reads h.reads (part_files directory o b.owner b.values) (part_files directory o b.owner origin) takes.asks h.asks);
  }

-- ---- by places in the list

-- before the first
pub none_taken : (directory : List ℕ) (o : Outline) (old : FolderView) → TakesBindings directory o [] [] old old
none_taken directory o old = record { reads = []; each = tt; asks = none_asked old }

module _ (directory : List ℕ) (o : Outline) (old mid : FolderView) (bindings : List Binding) (n : ℕ) (b : Binding) (given : List GivenBinding)
    (below : n < length bindings) (is : b ≡ get_or bindings n b) (takes : TakesBindings directory o (take n bindings) given old mid) where
  pub taken_more : (one : GivenBinding) (new : FolderView) → TakesBinding directory o b one mid new → TakesBindings directory o (take (n + 1) bindings) (given ++ one ∷ []) old new
  taken_more one new t =
      subst (λ (bs : List Binding). TakesBindings directory o bs (given ++ one ∷ []) old new) (one_more bindings n b below is) (record {
        reads = takes.reads ++ t.reads;
        each = zip_push (IsGivenAlone directory (takes.reads ++ t.reads) o) (take n bindings) given b one
            (all_given takes.reads (takes.reads ++ t.reads) (among_left takes.reads t.reads) directory o (take n bindings) given takes.each)
            (more_given t.reads (takes.reads ++ t.reads) (among_right takes.reads t.reads) directory o b one t.gives);
        asks = subst (λ (paths : List (List ℕ)). Asks (takes.reads ++ t.reads) paths old new) (sym (flat_map_more (binding_files directory o) (take n bindings) b))
            (asked_then old mid new takes.reads t.reads (flat_map (binding_files directory o) (take n bindings)) (binding_files directory o b) takes.asks t.asks);
      })

  pub ends_more : (ended : LoadError) (new : FolderView) → bindings ≡ o.systems.bindings → EndsBinding directory o b ended mid new → EndsBindings directory o ended old new
  ends_more ended new same h = AtBinding (take n bindings) given b (drop (n + 1) bindings) mid (sym same ∙ parted bindings n b below is) takes h

-- as many as bindings before the place
pub as_many : (directory : List ℕ) (o : Outline) (old new : FolderView) (bindings : List Binding) (n : ℕ) (given : List GivenBinding) → n ≤ length bindings →
    TakesBindings directory o (take n bindings) given old new → length given ≡ n
as_many directory o old new bindings n given within takes =
    AllZip-long (IsGivenAlone directory takes.reads o) (take n bindings) given takes.each ∙ length-take-le n bindings within

-- ---- the end at an element of the outline

pub ends_within : {A : Type 0} (Says : A → Type 0) (Breaks : Rule → Place → Type 0) (fault : Fault) (path : List ℕ) (ended : LoadError) → TellsFirst Says Breaks fault → TellsWithin fault path ended →
    EndsWithin (λ rule place. BreaksAlone Says Breaks rule place) path ended
ends_within Says Breaks (f.Broken rule place) path (end.File file fault) first told = (rule, (place, told.0, told.1, first))
ends_within Says Breaks f.Memory path (end.File file fault) first told = absurd told
ends_within Says Breaks fault path end.Memory first told = tt
