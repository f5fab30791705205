-- The tree of an FMU alone names its parts.
use Rattle.std.proofs.Common.{◌≡◌, ◌<◌, ℕ, zero, suc, [], Some, None, refl, arith}
use Rattle.std.specs.Prelude.{slice_get}
use Rattle.std.proofs.lemmas.List.Elements.{All-cons, All-nil}
use Rattle.ssd_tree.specs.declared.tree.Binding.{Binding}
use Rattle.ssd_tree.specs.declared.tree.ComponentPart.{ComponentPart}
use Rattle.ssd_tree.specs.declared.tree.SystemPart.{SystemPart}
use Rattle.ssd_tree.specs.Named.{IsInScope, IsNamedTree, IsOwner, Outermost}
use Rattle.system_loading.specs.Outlines.{lone_name, lone_tree}

abbrev lone_component : ComponentPart
lone_component = record { node = 0; system = 0; name = lone_name; source = [] }

abbrev lone_system : SystemPart
lone_system = record { node = 0; parent = None; name = lone_name }

outer : (s above : ℕ) (part : SystemPart) → slice_get lone_tree.systems s ≡ Some part → part.parent ≡ Some above → above < s
outer zero above part at parent = let same : lone_system ≡ part = cc in absurd (cc)
outer (suc s) above part at parent = absurd (cc)

pub lone_named : IsNamedTree lone_tree
lone_named = record {
  outer = outer;
  within = All-cons (λ (c : ComponentPart). c.system < 1) lone_component [] (omega arith) (All-nil (λ (c : ComponentPart). c.system < 1));
  scopes = All-cons (IsInScope lone_tree) lone_component [] (record { scope = []; scope_is = Outermost 0 lone_system [] refl refl refl; own = lone_name; is = refl }) (All-nil (IsInScope lone_tree));
  owners = All-nil (λ (b : Binding). IsOwner lone_tree b.owner);
}
