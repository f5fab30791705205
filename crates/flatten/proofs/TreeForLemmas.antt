-- The tree that a rule of paths is about, and the connections that it has.
use Rattle.std.proofs.Common.{◌≡◌, Bool, true, false, not, is_some, List, refl, sym, ◌∙◌, ap, Contains}
use Rattle.std.proofs.lemmas.Bool.{false≢true}
use Rattle.value_types.specs.declared.shape.Shape.{Shape}
use Rattle.doc_tree.specs.declared.rule.FlatteningRule.{FlatteningRule}
use Rattle.doc_tree.specs.declared.rule.FlatteningRule.TheVariants.{NoSuchVariable, OtherCausality, OtherClass, EndTwice, TooWide, FedClock, OtherChange}
use Rattle.ssd_tree.specs.declared.tree.Connection.{Connection}
use Rattle.ssd_tree.specs.declared.tree.SystemTree.{SystemTree}
use Rattle.flatten.specs.Paths.{plain}
use Rattle.flatten.specs.Rules.{PathFault, IsLastOf}
use Rattle.flatten.specs.Broken.{tree_for}
use Rattle.flatten.proofs.AlongLemmas.{kept, kept_back}
use Rattle.flatten.proofs.JoinedLemmas.{has_none}

-- what is so of the tree and of the plain one
pub of_rule : (rule : FlatteningRule) (t : SystemTree) (P : SystemTree → Type 0) → P t → P (plain t) → P (tree_for rule t)
of_rule NoSuchVariable t P all flat = all
of_rule OtherCausality t P all flat = all
of_rule OtherClass t P all flat = all
of_rule EndTwice t P all flat = all
of_rule TooWide t P all flat = flat
of_rule FedClock t P all flat = all
of_rule OtherChange t P all flat = all

pub tree_holds : (rule : FlatteningRule) (t : SystemTree) (k : Connection) → Contains (tree_for rule t).connections k → Contains t.connections k
tree_holds NoSuchVariable t k h = h
tree_holds OtherCausality t k h = h
tree_holds OtherClass t k h = h
tree_holds EndTwice t k h = h
tree_holds TooWide t k h = (kept_back has_none t.connections k h).0
tree_holds FedClock t k h = h
tree_holds OtherChange t k h = h

-- a connection of the plain tree has no transformation
pub plain_none : (t : SystemTree) (k : Connection) → Contains (plain t).connections k → is_some k.change ≡ false
plain_none t k h = by (is_some k.change) refl (kept_back has_none t.connections k h).1
  where
    by : (b : Bool) → is_some k.change ≡ b → not (is_some k.change) ≡ true → is_some k.change ≡ false
    by true e passes = absurd (false≢true (sym (ap not e) ∙ passes))
    by false e passes = e

-- and one without is one of it
pub plain_has : (t : SystemTree) (k : Connection) → Contains t.connections k → is_some k.change ≡ false → Contains (plain t).connections k
plain_has t k h none = kept has_none t.connections k h (ap not none)

-- one with a transformation is the last of no path of the plain tree
pub changed_last : (t : SystemTree) (Fault : PathFault) (shapes : List Shape) (k : Connection) → is_some k.change ≡ true → IsLastOf Fault (plain t) shapes k → ⊥
changed_last t Fault shapes k has h = false≢true (sym (plain_none t k h.1.1.1.1.1.last.is) ∙ has)
