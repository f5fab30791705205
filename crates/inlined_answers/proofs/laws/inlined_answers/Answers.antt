use Rattle.std.proofs.Common.{◌≡◌, ◌∙◌, ℕ, List, [], ◌∷◌, map, refl, sym, ap}
use Rattle.sim_base.specs.declared.read_book.ReadNote.{ReadNote}
use Rattle.value_types.specs.declared.shape.Shape.{Shape}
use Rattle.ssd_tree.specs.declared.tree.ComponentPart.{ComponentPart}
use Rattle.ssd_tree.specs.declared.tree.SystemTree.{SystemTree}
use Rattle.system_loading.specs.declared.outline.Outline.{Outline}
use Rattle.system_loading.specs.declared.parameters.GivenBinding.{GivenBinding}
use Rattle.system_loading.specs.Binding.{sets_of}
use Rattle.system_files.specs.declared.loaded.Loaded.{Loaded}
use Rattle.system_files.specs.Order.{Comes, Found, Search, Whole, asked_with, folder_of, folders_of}
use Rattle.inlined_answers.specs.Alike.{AreTaken, GiveTheSame, IsMade, SayTheSame, plain_component}
use Rattle.inlined_answers.proofs.BindLemmas as bind
use Rattle.inlined_answers.proofs.FlatLemmas as flat
use Rattle.inlined_answers.proofs.laws.inlined_answers.Goals as goal

-- the folder of a component is that of its source
folders_plain : (directory : List ℕ) (cs : List ComponentPart) → map (folder_of directory) (map plain_component cs) ≡ map (folder_of directory) cs
folders_plain directory [] = refl
folders_plain directory (c ∷ cs) = ap (λ (fs : List (List ℕ)). folder_of directory c ∷ fs) (folders_plain directory cs)

folders_same : (directory : List ℕ) (o p : Outline) → SayTheSame o p → folders_of directory o ≡ folders_of directory p
folders_same directory o p same =
    sym (folders_plain directory o.systems.components) ∙ (ap (λ (t : SystemTree). map (folder_of directory) t.components) same ∙ folders_plain directory p.systems.components)

pub returns-clause-system : goal.returns-clause-system
returns-clause-system c = λ o p shapes system same makes. record {
  fits = flat.fits_too o.systems p.systems same shapes makes.fits;
  flattens = flat.flattens_too o.systems p.systems same shapes system makes.flattens;
}

pub returns-clause-bound : goal.returns-clause-bound
returns-clause-bound c = λ o p shapes given other bound same gives binds. record {
  fits = bind.fits_too o.systems p.systems same shapes (sets_of given) (sets_of other) gives binds.fits;
  gives = bind.bound_too o.systems p.systems same shapes (sets_of given) (sets_of other) gives bound binds.gives;
}

pub returns-clause-folders : goal.returns-clause-folders
returns-clause-folders c = folders_same

comes_too : (s : Search) (o p : Outline) (shapes : List Shape) (given other : List GivenBinding) (others : List ReadNote) (loaded : Loaded) → IsMade s o shapes given loaded → AreTaken s others p shapes other →
    SayTheSame o p → GiveTheSame given other → Comes s others (asked_with s p p.systems.bindings) (Found loaded)
comes_too s o p shapes given other others loaded made also same gives =
    Whole p shapes other loaded (asked_with s p p.systems.bindings) (Found loaded) also
    (record {
      fits = bind.fits_too o.systems p.systems same shapes (sets_of given) (sets_of other) gives made.binds.fits;
      gives = bind.bound_too o.systems p.systems same shapes (sets_of given) (sets_of other) gives loaded.bound made.binds.gives;
    })
    (record {
      fits = flat.fits_too o.systems p.systems same shapes made.makes.fits;
      flattens = flat.flattens_too o.systems p.systems same shapes loaded.system made.makes.flattens;
    })
    (made.folders ∙ folders_same s.directory o p same) refl refl

pub returns-clause-found : goal.returns-clause-found
returns-clause-found c = λ s reads others o p shapes given other loaded taken made also same gives. comes_too s o p shapes given other others loaded made also same gives

pub returns-clause-loaded : goal.returns-clause-loaded
returns-clause-loaded c = λ s reads others o p shapes given other loaded inlined asked taken made also same gives steady comes.
    (comes.only steady (asked_with s p p.systems.bindings) (Found loaded) (comes_too s o p shapes given other others loaded made also same gives)).1
