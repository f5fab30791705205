-- Where the documents of nested Components stand (SSP 1.0: Component; type `application/x-ssp-package` and `application/x-ssp-definition`, source).
use Rattle.std.specs.Prelude.{◌≡◌, ◌≢◌, ℕ, ◌<◌, List, [], ◌++◌, length, slice_index, take, codes}
use Rattle.ssd_tree.specs.declared.tree.NestedKind.{NestedKind}
use Rattle.ssd_tree.specs.declared.tree.NestedKind.TheVariants.{Package, Definition}

-- a package is a directory with a SystemStructure.ssd
abbrev pub document_path : NestedKind → List ℕ → List ℕ
document_path Package source = source ++ codes "/SystemStructure.ssd"
document_path Definition source = source

-- the folder in which a file stands: what is before the last `/` of its path, or none
pub data IsFolderIn (path : List ℕ) : List ℕ → Type 0 where
  Top : (folder : List ℕ) → ((i : ℕ) → i < length path → slice_index path i ≢ 47) → folder ≡ [] →
      IsFolderIn path folder
  Below : (folder : List ℕ) (k : ℕ) → k < length path → slice_index path k ≡ 47 →
      ((i : ℕ) → k < i → i < length path → slice_index path i ≢ 47) → folder ≡ take k path →
      IsFolderIn path folder

-- the folder below which the paths of a document stand
abbrev pub IsFolderOf : NestedKind → List ℕ → List ℕ → Type 0
IsFolderOf Package source folder = folder ≡ source
IsFolderOf Definition source folder = IsFolderIn source folder
